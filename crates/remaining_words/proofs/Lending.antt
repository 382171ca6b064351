-- The call, by what the test of its edges tells and what the loops come to.
use Rattle.std.specs.Prelude.{None}
use mathlib.Core.Path.{◌≡◌, refl, sym, ap, subst, ◌∙◌}
use mathlib.Core.Bool.{Bool, true, false, not, cond, ◌&&◌}
use mathlib.Core.List.{List, [], ◌∷◌}
use Prim.Native.Nat.{ℕ, zero, suc, ◌<◌, ◌≤◌}
use native.Mathlib.Omega.{arith}
use lib.Dec.{leb}
use lib.IntN.{ℤ}
use Rattle.signed.specs.Parts.{up}
use Rattle.refusals.specs.Refusal.{Test, ◌unless◌, steep, refusal, answered}
use Rattle.refusals.proofs.Tests.{all_hold, own_first}
use Rattle.axis.specs.declared.kinds.Dimension.TheVariants.{Horizontal}
use Rattle.axis.specs.declared.kinds.Group.{Group}
use Rattle.axis.specs.Link.{Link}
use Rattle.axis.specs.declared.edge.Axis.{Axis}
use Rattle.axis.specs.Limits.{most_edges}
use Rattle.axis.specs.Refusals.{link_holds, edges_indices, edges_numbers}
use Rattle.axis.proofs.Acceptance.{link-below}
use Rattle.words.specs.Field.{group_of, link_word}
use Rattle.words.specs.Edge.{axis_run, flat_axis, edges_in, edges_over}
use Rattle.words_shape.specs.Shape.{is_in, choice, index}
use Rattle.words_call.specs.Lent.{refused_or, edges_front, both_in, named_anchor, edges_of}
use Rattle.words_call.proofs.Kept.{passed}
use Rattle.words_edge.proofs.Wholes.{edges-len}
use Rattle.words_edge.proofs.Became.{axis-over}
use Rattle.words_edge_test.specs.Held.{tested}
use Rattle.words_edge_test.proofs.Calls.{ready, lent-refused, lent-done}
use Rattle.words_edge_test.proofs.Order.{plain-tests}
use Rattle.remaining.specs.declared.kinds.Progress.{Progress}
use Rattle.remaining.specs.Remaining.{State, begun, remaining_of, Remaining, remaining, outcome, table_tests, remaining_tests, align_remaining_edges}
use Rattle.remaining_pass_words.specs.Words.{ReadyPass}
use Rattle.remaining_words.specs.Lent.{Tried, remaining_words, RemainingLent}

-- ---- a refusal behind others
-- one of those in front stays
late : (fronts : List Test) (k x r : ℕ) → r ≡ refused_or fronts k → 0 < r → r ≡ refused_or fronts (answered k (λ (i : ℕ). i) x)
unfolding refused_or
late fronts k x r e h = by (refusal fronts) k e
  where
    by : (f k : ℕ) → r ≡ answered f (λ (i : ℕ). i) k → r ≡ answered f (λ (i : ℕ). i) (answered k (λ (i : ℕ). i) x)
    by zero zero e = absurd (omega (arith, e, h))
    by zero (suc k) e = e
    by (suc f) k e = e

-- behind none of them it is the last one
last : (fronts : List Test) (k x : ℕ) → refusal fronts ≡ 0 → k ≡ 0 → x ≡ refused_or fronts (answered k (λ (i : ℕ). i) x)
unfolding refused_or
last fronts k x p q = λ j. answered (sym p j) (λ (i : ℕ). i) (answered (sym q j) (λ (i : ℕ). i) x)

-- ---- the call
-- what the tests have found, and their answer r: the anchor that its word names, and whether the other words are those of their fields and the anchor is none
-- or an edge
pub record TestedRemaining (ws : List ℤ) (dim group count anchor : ℤ) (start : Link) (r : ℕ) : Type 0 where
  pub others : Bool
  pub named : Bool
  pub start_is : start ≡ named_anchor anchor
  pub others_are : others ≡ (both_in choice dim group && is_in index count)
  pub named_is : named ≡ link_holds (edges_in ws) start
  pub answer : r ≡ refused_or (edges_front ws others) (tested (edges_of ws) 0 named true)

module _ (ws : List ℤ) (dim group count anchor old : ℤ) {start : Link} {r : ℕ} (g : TestedRemaining ws dim group count anchor start r) where
  abbrev A : Axis
  A = edges_of ws

  abbrev fronts : List Test
  fronts = edges_front ws (both_in choice dim group && is_in index count)

  -- the tests of the table, and the loops
  abbrev first : ℕ
  first = tested A 0 (link_holds A.len (named_anchor anchor)) true

  abbrev S : State
  S = remaining_of A (group_of group) (up count) (named_anchor anchor)

  abbrev tests : List Test
  tests = remaining_tests A (group_of group) (up count) (named_anchor anchor)

  abbrev final : ℕ
  final = refusal (steep unless not S.past.beyond ∷ [])

  abbrev none : ℕ → Remaining
  none = remaining None A

  pub remaining-ready : r ≤ 0 → {past : Progress} → past.anchor ≡ start → ReadyPass ws past
  remaining-ready h {past} q =
      let s = ready ws g.others 0 g.named true g.answer h in
      record {
        whole = s.whole;
        axis = s.axis;
        anchor = link-below (edges_in ws) past.anchor
            (ap (link_holds (edges_in ws)) q ∙ sym g.named_is ∙ s.named_hold);
      }

  -- the answer, by the call's words
  answer-is : r ≡ refused_or fronts first
  answer-is =
      g.answer ∙ (λ x. refused_or (edges_front ws (g.others_are x))
      (tested A 0 ((g.named_is ∙ (λ y. link_holds (sym (edges-len ws) y) (g.start_is y))) x) true))

  table_same : leb A.len most_edges ≡ true → refusal (table_tests A (named_anchor anchor)) ≡ first
  unfolding refusal edges_indices edges_numbers flat_axis axis_run
  table_same h = plain-tests A (link_holds A.len (named_anchor anchor)) true h

  short : refusal fronts ≡ 0 → leb A.len most_edges ≡ true
  unfolding edges_front
  short q = ap (λ (k : ℕ). leb k most_edges) (edges-len ws) ∙ (all_hold fronts refl q).1.0

  tests_same : refusal fronts ≡ 0 → refusal tests ≡ answered first (λ (i : ℕ). i) final
  tests_same q =
      own_first (table_tests A (named_anchor anchor)) (steep unless not S.past.beyond ∷ []) refl
      ∙ ap (λ (k : ℕ). answered k (λ (i : ℕ). i) final) (table_same (short q))

  -- ---- by the tests
  pub remaining-refused : 0 < r → RemainingLent ws dim group count anchor old r (ws, old)
  unfolding align_remaining_edges
  remaining-refused h =
      lent-refused fronts (answered first (λ (i : ℕ). i) final) (late fronts first final r answer-is h) (λ (x : Remaining). x.answer) (remaining_words ws)
      tests none (outcome S)
      (λ k. refl) refl tests_same h

  -- ---- by the loops
  module _ (h : r ≤ 0) {G : Group} {b past : Progress} {now : List ℤ} (e : G ≡ group_of group) (q : b ≡ begun (up count) (named_anchor anchor))
      (t : Tried G b past ws now) where
    none-refused : (refusal fronts ≡ 0) × (first ≡ 0)
    none-refused = let z : 0 ≡ r = omega arith in passed fronts first (z ∙ answer-is)

    tried : Tried (group_of group) (begun (up count) (named_anchor anchor)) past ws now
    tried = subst (λ (x : Group). Tried x (begun (up count) (named_anchor anchor)) past ws now) e (subst (λ (x : Progress). Tried G x past ws now) q t)

    past_is : past ≡ S.past
    past_is = tried.known Horizontal

    final-is : {v : Bool} → past.beyond ≡ v → final ≡ cond (not v) 0 steep
    unfolding refusal
    final-is f = ap (λ (x : Bool). cond (not x) 0 steep) (sym (ap (λ (p : Progress). p.beyond) past_is) ∙ f)

    -- a position was given that no edge may have
    pub remaining-beyond : past.beyond ≡ true → RemainingLent ws dim group count anchor old 8 (now, old)
    unfolding align_remaining_edges
    remaining-beyond f =
        subst (λ (l : List ℤ). RemainingLent ws dim group count anchor old 8 (l, old)) (sym (tried.stays f))
        (lent-refused fronts (answered first (λ (i : ℕ). i) final) (sym (final-is f) ∙ last fronts first final none-refused.0 none-refused.1)
        (λ (x : Remaining). x.answer) (remaining_words ws) tests
        none (outcome S) (λ k. refl) refl tests_same (omega arith))

    -- none was
    pub remaining-done : {f : ℤ} → past.beyond ≡ false → f ≡ link_word past.anchor → RemainingLent ws dim group count anchor old 0 (now, f)
    unfolding align_remaining_edges
    remaining-done {f} n l =
        lent-done fronts (answered first (λ (i : ℕ). i) final) (sym (final-is n) ∙ last fronts first final none-refused.0 none-refused.1)
        (λ (x : Remaining). x.answer) (remaining_words ws) tests none
        (outcome S) (λ k. refl) refl tests_same (omega arith) (λ j. (edges j, (l ∙ ap (λ (p : Progress). link_word p.anchor) past_is) j))
      where
        edges : now ≡ edges_over ws S.axis
        edges =
            let p = tried.goes n in
            axis-over ws now Horizontal (ready ws g.others 0 g.named true g.answer h).whole p.whole p.long
            (ap (λ (s : State). s.axis) (p.states Horizontal))
