-- The guard, by what the test of its edges tells.
use mathlib.Core.Path.{◌≡◌, refl, ◌∙◌}
use mathlib.Core.Bool.{Bool, true}
use mathlib.Core.List.{List}
use Prim.Native.Nat.{ℕ, ◌<◌, ◌≤◌}
use native.Mathlib.Omega.{arith}
use lib.Dec.{leb}
use lib.IntN.{ℤ, pos}
use Rattle.refusals.specs.Refusal.{bad_parameter, refusal, or_refused}
use Rattle.axis.specs.Limits.{most_edges, most_units}
use Rattle.axis.specs.Refusals.{inside}
use Rattle.gaps.specs.Answer.{Gaps}
use Rattle.gaps.specs.Gaps.{found_to, found_in, gaps_tests, refused_by, lost_gaps}
use Rattle.words.specs.Field.{choice_of}
use Rattle.words_shape.specs.Shape.{is_in, choice}
use Rattle.words_call.specs.Lent.{refused_or, edges_front, edges_of}
use Rattle.words_edge_test.specs.Held.{tested}
use Rattle.words_edge_test.proofs.Calls.{Ready, ready, call-refused, call-done}
use Rattle.words_edge_test.proofs.Order.{own-tests}
use Rattle.gaps_words.specs.Find.{Places, gaps_words, GapsLent}

module _ (ws : List ℤ) (least linked : ℤ) (old : Places) {own r : ℕ} {others : Bool} (o : own ≡ or_refused 0 (inside (pos 0) (pos most_units) least) bad_parameter)
    (t : others ≡ is_in choice linked) (e : r ≡ refused_or (edges_front ws others) (tested (edges_of ws) own true true)) where
  abbrev own_of : ℕ
  own_of = or_refused 0 (inside (pos 0) (pos most_units) least) bad_parameter

  gaps-is : r ≡ refused_or (edges_front ws (is_in choice linked)) (tested (edges_of ws) own_of true true)
  gaps-is = e ∙ (λ x. refused_or (edges_front ws (t x)) (tested (edges_of ws) (o x) true true))

  gaps-same : leb (edges_of ws).len most_edges ≡ true → refusal (gaps_tests (edges_of ws) least) ≡ tested (edges_of ws) own_of true true
  unfolding refusal
  gaps-same h = own-tests (edges_of ws) true true h bad_parameter (inside (pos 0) (pos most_units) least) (omega arith)

  pub gaps-ready : r ≤ 0 → Ready ws own true true
  gaps-ready h = ready ws others own true true e h

  pub gaps-refused : 0 < r → GapsLent ws least linked old r old
  unfolding lost_gaps found_to
  gaps-refused h =
      call-refused ws (is_in choice linked) _ true true gaps-is (λ (x : Gaps). x.answer) (λ (x : Gaps). gaps_words x) (gaps_tests (edges_of ws) least) refused_by
      (found_in least (choice_of linked) (edges_of ws))
      (λ k. refl) refl gaps-same h

  pub gaps-done : r ≤ 0 → (now : Places) → now ≡ gaps_words (found_in least (choice_of linked) (edges_of ws)) → GapsLent ws least linked old 0 now
  unfolding lost_gaps found_to
  gaps-done h now q =
      call-done ws (is_in choice linked) _ true true gaps-is (λ (x : Gaps). x.answer) (λ (x : Gaps). gaps_words x) (gaps_tests (edges_of ws) least) refused_by
      (found_in least (choice_of linked) (edges_of ws))
      (λ k. refl) refl gaps-same h q
