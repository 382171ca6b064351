-- Blue zones and then stems, by what the test of the edges tells.
use Rattle.std.specs.Prelude.{None}
use mathlib.Core.Path.{◌≡◌, refl, sym, ap, subst, ◌∙◌}
use mathlib.Core.Bool.{Bool, true, false, ◌&&◌}
use mathlib.Core.List.{List, [], ◌∷◌}
use Prim.Native.Nat.{ℕ, ◌<◌, ◌≤◌}
use borrow.Author.Tests.{leb-true}
use lib.Dec.{leb}
use lib.IntN.{ℤ, pos}
use Rattle.refusals.specs.Refusal.{Test, ◌unless◌, bad_parameter, refusal, answered}
use Rattle.refusals.proofs.Tests.{AllHold, Tested, all_hold}
use Rattle.fixed.specs.declared.width.WidthRule.{WidthRule}
use Rattle.fixed.specs.Width.{rule_holds}
use Rattle.axis.specs.declared.kinds.Dimension.{Dimension}
use Rattle.axis.specs.declared.kinds.Group.{Group}
use Rattle.axis.specs.Link.{Link}
use Rattle.axis.specs.declared.edge.Axis.{Axis}
use Rattle.axis.specs.Limits.{most_edges, most_pos}
use Rattle.axis.specs.Accepted.{Below, AxisWithin}
use Rattle.axis.specs.Refusals.{edges_indices, edges_numbers, bottom_to_top}
use Rattle.zones.specs.Answer.{Anchored}
use Rattle.zones.specs.Call.{blues_where}
use Rattle.stems.specs.Answer.{Stems}
use Rattle.stems.specs.Stems.{stems, stems_of, mode_of}
use Rattle.stems.specs.StepsPass.{SettledWithout}
use Rattle.zones_stems.specs.Joined.{zones_hold, joined_tests, align_blues_and_stems}
use Rattle.zones_stems.proofs.Rows.{passes}
use Rattle.words.specs.Field.{choice_of, dimension_of, group_of, rule_of, link_word}
use Rattle.words.specs.Edge.{axis_run, flat_axis, edges_in}
use Rattle.words_shape.specs.Shape.{choice}
use Rattle.words_call.specs.Lent.{Lent, refused_or, edges_front, both_in, choices, edges_of}
use Rattle.words_edge.specs.Whole.{Whole, axis_in}
use Rattle.words_edge_test.specs.Held.{tested}
use Rattle.words_edge_test.proofs.Calls.{ready, unrefused, call-refused, call-done}
use Rattle.words_edge_test.proofs.Order.{call-tests}
use Rattle.zones_words.specs.Blues.{ZonedWhere}
use Rattle.stems_words.specs.declared.pass.Passed.{Passed}
use Rattle.stems_words.specs.Stems.{StemsPassed}
use Rattle.stems_words.specs.Lent.{stems_words}
use Rattle.stems_words.proofs.Lending.{passed_words}
use Rattle.zones_stems_words.specs.Lent.{joined_aligned, JoinedLent}
use Rattle.zones_stems_words.proofs.Passing.{stems-allowed}

-- the tests of the order, of the rule and of the zones
abbrev own_tests : Axis → Group → Bool → WidthRule → List ℤ → List Test
own_tests axis g turned width xs = bottom_to_top turned ∷ bad_parameter unless rule_holds width xs ∷ bad_parameter unless zones_hold g axis ∷ []

-- what the tests have found, and their answer r: the dimension, the group and the width rule that the words name, the refusal by the order, the rule and the
-- zones, and whether the other
-- words are those of their fields
pub record TestedJoined (ws : List ℤ) (dim group adjust ttb rule : ℤ) (xs : List ℤ) (d : Dimension) (g : Group) (width : WidthRule) (r : ℕ) : Type 0 where
  pub own : ℕ
  pub others : Bool
  pub dim_is : d ≡ dimension_of dim
  pub group_is : g ≡ group_of group
  pub width_is : width ≡ rule_of rule
  pub own_is : edges_in ws ≤ most_edges → Tested own (own_tests (axis_in ws d) g (choice_of ttb) width xs)
  pub others_are : others ≡ (choices dim group adjust && both_in choice ttb rule)
  pub answer : r ≡ refused_or (edges_front ws others) (tested (edges_of ws) own true true)

module _ (ws : List ℤ) (dim group adjust ttb rule : ℤ) (xs : List ℤ) {d : Dimension} {g : Group} {width : WidthRule} {r : ℕ}
    (t : TestedJoined ws dim group adjust ttb rule xs d g width r) where
  abbrev A : Axis
  A = axis_in ws d

  abbrev tests : List Test
  tests = joined_tests A g (choice_of ttb) width xs

  joined_same : leb (edges_of ws).len most_edges ≡ true → refusal tests ≡ tested (edges_of ws) t.own true true
  unfolding refusal edges_indices edges_numbers flat_axis axis_run
  joined_same h =
      let few : edges_in ws ≤ most_edges = leb-true (edges_in ws) most_edges h in
      call-tests (edges_of ws) true true h (own_tests A g (choice_of ttb) width xs) refl
      ∙ ap (λ (k : ℕ). tested (edges_of ws) k true true) (sym (t.own_is few).refused)

  -- ---- what the passes may use
  tests-hold : r ≤ 0 → AllHold tests
  tests-hold h = all_hold tests refl (unrefused ws t.others t.own true true t.answer tests joined_same h)

  pub blues-ready : r ≤ 0 → (rule_holds width xs ≡ true) × (Whole ws × AxisWithin most_pos (edges_of ws))
  blues-ready h = let s = ready ws t.others t.own true true t.answer h in ((tests-hold h).1.1.0, (s.whole, s.axis))

  abbrev zoned : Anchored
  zoned = blues_where A g width xs

  module _ {start : Link} {w1 : List ℤ} (z : ZonedWhere d g width xs start ws w1) where
    pub stems-ready : r ≤ 0 → (rule_holds width xs ≡ true)
        × (Whole w1 × AxisWithin most_pos (edges_of w1) × Below (edges_in w1) start × SettledWithout false (edges_in w1) (edges_of w1))
    stems-ready h = stems-allowed ws d g (choice_of adjust) (choice_of ttb) width xs (tests-hold h) z

  -- ---- the call
  abbrev result : Stems
  result = stems_of (mode_of A g (choice_of adjust) width) xs zoned.anchor zoned.axis

  abbrev call : Stems
  call = answered (refusal tests) (stems 0 None A) result

  call-is : call ≡ joined_aligned ws dim group adjust ttb rule xs
  call-is =
      sym (passes A g (choice_of adjust) (choice_of ttb) width xs)
      ∙ (λ n. align_blues_and_stems (axis_in ws (t.dim_is n)) (t.group_is n) (choice_of adjust) (choice_of ttb) (t.width_is n) xs)

  module _ (old : ℤ × ℤ) where
    -- by the call's words
    lent-as : {k : ℕ} {now : List ℤ × (ℤ × ℤ)} → Lent (edges_front ws t.others) call.answer (stems_words ws call) (ws, old) k now
        → JoinedLent ws dim group adjust ttb rule xs old.0 old.1 k now
    lent-as {k} {now} l =
        subst (λ (x : Stems). Lent (edges_front ws (choices dim group adjust && both_in choice ttb rule)) x.answer (stems_words ws x) (ws, old) k now) call-is
        (subst (λ (o : Bool). Lent (edges_front ws o) call.answer (stems_words ws call) (ws, old) k now) t.others_are l)

    pub joined-refused : 0 < r → JoinedLent ws dim group adjust ttb rule xs old.0 old.1 r (ws, old)
    unfolding stems_of
    joined-refused h =
        lent-as
        (call-refused ws t.others t.own true true t.answer (λ (x : Stems). x.answer) (λ (x : Stems). stems_words ws x) tests (stems 0 None A)
        result (λ k. refl) refl joined_same h)

    pub joined-done : r ≤ 0 → {start : Link} {w1 now : List ℤ} {a : Bool} {p : Passed} {c f : ℤ} → ZonedWhere d g width xs start ws w1 → a ≡ choice_of adjust
        → StemsPassed (record { dim = d; group = g; stem_adjust = a; rule = width }) xs start p w1 now → c ≡ pos p.count → f ≡ link_word p.anchor
        → JoinedLent ws dim group adjust ttb rule xs old.0 old.1 0 (now, (c, f))
    unfolding stems_of flat_axis axis_run
    joined-done h {start} {w1} {now} {a} {p} {c} {f} z v b x y =
        lent-as
        (call-done ws t.others t.own true true t.answer (λ (x : Stems). x.answer) (λ (x : Stems). stems_words ws x) tests (stems 0 None A)
        result (λ k. refl) refl joined_same h
        (passed_words ws d (blues-ready h).1.0 z.long b same x y))
      where
        same : stems_of (record { dim = d; group = g; stem_adjust = a; rule = width }) xs start (axis_in w1 d) ≡ result
        same = λ n. stems_of (record { dim = d; group = g; stem_adjust = v n; rule = width }) xs (z.pass n).anchor (z.pass n).axis
