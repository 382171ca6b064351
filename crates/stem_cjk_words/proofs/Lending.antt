-- The CJK stem, by what the test of the edges tells.
use mathlib.Core.Path.{◌≡◌, refl, sym, ap, ◌∙◌}
use mathlib.Core.Bool.{Bool, true}
use mathlib.Core.List.{List}
use Prim.Native.Nat.{ℕ, ◌<◌, ◌≤◌}
use native.Mathlib.Omega.{arith}
use lib.Dec.{leb}
use lib.IntN.{ℤ, pos}
use Rattle.signed.specs.Range.{Between}
use Rattle.refusals.proofs.Tests.{or-held}
use Rattle.refusals.specs.Refusal.{bad_parameter, refusal, or_refused}
use Rattle.fixed.specs.declared.width.WidthRule.{WidthRule}
use Rattle.fixed.specs.Width.{rule_holds}
use Rattle.axis.specs.declared.kinds.Dimension.{Dimension}
use Rattle.axis.specs.declared.edge.Axis.{Axis}
use Rattle.axis.specs.Edge.{edge_at}
use Rattle.axis.specs.Limits.{most_edges, most_passed, most_pos}
use Rattle.axis.specs.Refusals.{within, edges_indices, edges_numbers}
use Rattle.axis.proofs.Acceptance.{within-between}
use Rattle.place.specs.Placing.{both_below}
use Rattle.place.specs.Steps.{InReach}
use Rattle.place.proofs.Reach.{below-first, below-second}
use Rattle.stems_cjk.specs.Cjk.{stem_of, hinted_stem}
use Rattle.stems_cjk.specs.Answer.{StemCjk}
use Rattle.stems_cjk.specs.Hint.{hinted, stem_tests, hint_normal_stem_cjk}
use Rattle.words.specs.Field.{choice_of, dimension_of, rule_of}
use Rattle.words.specs.Edge.{axis_run, flat_axis, edges_in, edges_over}
use Rattle.words_call.specs.Lent.{refused_or, edges_front, choices, named_edge, edges_of}
use Rattle.words_edge.specs.Whole.{Whole, axis_in}
use Rattle.words_edge.proofs.Wholes.{edges-len}
use Rattle.words_edge.proofs.Became.{became-over}
use Rattle.words_edge_test.specs.Held.{tested}
use Rattle.words_edge_test.proofs.Calls.{ready, call-refused, call-done}
use Rattle.words_edge_test.proofs.Order.{own-tests}
use Rattle.place_words.proofs.Places.{edge-reach}
use Rattle.stem_cjk_words.specs.Stem.{hinting_stem, stem_read, StemPlaced}
use Rattle.stem_cjk_words.specs.Lent.{stem_words, StemLent}

-- what the call may use
pub record ReadyStem (ws : List ℤ) (i j : ℕ) (d : ℤ) : Type 0 where
  pub words : Whole ws × (i < edges_in ws) × (j < edges_in ws)
  pub numbers : InReach (edge_at (edges_of ws) i) × InReach (edge_at (edges_of ws) j) × Between most_passed most_passed d

module _ (ws : List ℤ) (dim adjust rule : ℤ) (xs : List ℤ) (edge edge2 delta own_old : ℤ) {width : WidthRule} {i j own r : ℕ} {named others near : Bool}
    (w : width ≡ rule_of rule)
    (p : i ≡ named_edge edge) (q : j ≡ named_edge edge2) (n : named ≡ both_below (edges_in ws) i j) (o : own ≡ or_refused 0 (rule_holds width xs) bad_parameter)
    (t : others ≡ choices dim adjust rule) (v : near ≡ within most_passed delta)
    (e : r ≡ refused_or (edges_front ws others) (tested (edges_of ws) own named near)) where
  abbrev A : Axis
  A = axis_in ws (dimension_of dim)

  pub stem-ready : r ≤ 0 → ReadyStem ws i j delta
  stem-ready h =
      let a = ready ws others own named near e h in
      let x = below-first (edges_in ws) i j (sym n ∙ a.named_hold) in
      let y = below-second (edges_in ws) i j (sym n ∙ a.named_hold) in
      record {
        words = (a.whole, x, y);
        numbers = (
          edge-reach ws most_pos i (omega arith) a.axis x,
          edge-reach ws most_pos j (omega arith) a.axis y,
          within-between most_passed delta
              (sym v ∙ a.near_hold),
        );
      }

  pub stem-right : r ≤ 0 → rule_holds width xs ≡ true
  stem-right h = or-held bad_parameter (rule_holds width xs) (omega arith) (sym o ∙ (ready ws others own named near e h).right)

  -- the answer, by the call's words
  stem-is :
      r ≡ refused_or (edges_front ws (choices dim adjust rule))
      (tested (edges_of ws) (or_refused 0 (rule_holds (rule_of rule) xs) bad_parameter) (both_below (edges_of ws).len (named_edge edge) (named_edge edge2))
      (within most_passed delta))
  stem-is =
      e
      ∙ (λ x. refused_or (edges_front ws (t x))
      (tested (edges_of ws) ((o ∙ ap (λ (k : WidthRule). or_refused 0 (rule_holds k xs) bad_parameter) w) x)
      ((n ∙ (λ y. both_below (sym (edges-len ws) y) (p y) (q y))) x) (v x)))

  stem-same : leb (edges_of ws).len most_edges ≡ true → refusal (stem_tests A (rule_of rule) xs (named_edge edge) (named_edge edge2) delta)
      ≡ tested (edges_of ws) (or_refused 0 (rule_holds (rule_of rule) xs) bad_parameter) (both_below (edges_of ws).len (named_edge edge) (named_edge edge2))
      (within most_passed delta)
  unfolding edges_indices edges_numbers flat_axis axis_run
  stem-same h =
      own-tests (edges_of ws) (both_below (edges_of ws).len (named_edge edge) (named_edge edge2)) (within most_passed delta) h bad_parameter
      (rule_holds (rule_of rule) xs) (omega arith)

  abbrev result : StemCjk
  result =
      let s = stem_of A.dim (choice_of adjust) (rule_of rule) xs (edge_at A (named_edge edge)) (edge_at A (named_edge edge2)) delta in
      hinted (hinted_stem A (named_edge edge) (named_edge edge2) s) s.delta 0

  pub stem-refused : 0 < r → StemLent ws dim adjust rule xs edge edge2 delta own_old r (ws, own_old)
  unfolding hint_normal_stem_cjk
  stem-refused h =
      call-refused ws (choices dim adjust rule) _ _ _ stem-is (λ (x : StemCjk). x.answer) (λ (x : StemCjk). stem_words ws x)
      (stem_tests A (rule_of rule) xs (named_edge edge) (named_edge edge2) delta) (hinted A (pos 0)) result (λ k. refl) refl stem-same h

  pub stem-done : r ≤ 0 → {d : Dimension} {a : Bool} {z x y : ℤ} {now : List ℤ} → d ≡ dimension_of dim → a ≡ choice_of adjust → z ≡ delta → y ≡ x
      → StemPlaced d a width xs i j z x ws now
      → StemLent ws dim adjust rule xs edge edge2 delta own_old 0 (now, y)
  unfolding hint_normal_stem_cjk flat_axis axis_run
  stem-done h {d} {a} {z} {x} {y} {now} f g m u b =
      call-done ws (choices dim adjust rule) _ _ _ stem-is (λ (x : StemCjk). x.answer) (λ (x : StemCjk). stem_words ws x)
      (stem_tests A (rule_of rule) xs (named_edge edge) (named_edge edge2) delta) (hinted A (pos 0)) result (λ k. refl) refl stem-same h
      (λ k. (both_words k, both-delta k))
    where
      both-delta : y ≡ result.delta
      both-delta = u ∙ b.delta ∙ (λ k. (stem_read (f k) (g k) (w k) xs (p k) (q k) (m k) ws).delta)

      both_words : now ≡ edges_over ws result.axis
      both_words =
          became-over (stem-ready h).words.0 b.words (dimension_of dim)
          ∙ (λ k. edges_over ws (hinting_stem (p k) (q k) (stem_read (f k) (g k) (w k) xs (p k) (q k) (m k) ws) A))
