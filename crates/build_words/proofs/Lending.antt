-- The building call, by what the test of its segments tells.
use mathlib.Core.Path.{◌≡◌, refl, sym, ap, subst, ◌∙◌}
use mathlib.Core.Bool.{Bool, true, false, cond, ◌&&◌}
use mathlib.Core.List.{List, [], ◌∷◌}
use Prim.Native.Nat.{ℕ, zero, suc, ◌%◌, ◌<◌, ◌≤◌}
use native.Mathlib.Omega.{arith}
use borrow.Author.Tests.{eqb-true, leb-true}
use lib.Dec.{eqb, leb}
use lib.ListN.{length}
use lib.IntN.{ℤ, pos}
use Rattle.signed.proofs.Choices.{cond-true, cond-false}
use Rattle.refusals.specs.Refusal.{Test, ◌unless◌, too_long, bad_parameter, out_of_range, no_room, refusal, answered}
use Rattle.refusals.proofs.Tests.{Tested, and_second, all_hold, own_first}
use Rattle.axis.specs.declared.edge.Axis.{Axis}
use Rattle.axis.specs.declared.segment.Segments.{Segments}
use Rattle.axis.specs.Accepted.{SegmentsWithin}
use Rattle.axis.specs.Edge.{empty_axis}
use Rattle.axis.specs.Limits.{most_segments}
use Rattle.axis.specs.Refusals.{segments_indices, segments_numbers, bottom_to_top, segments_indexed, segments_in_range}
use Rattle.build_join.specs.declared.rules.Rules.{Rules}
use Rattle.build_join.specs.Joining.{State, shown, last_state}
use Rattle.build_join.specs.Walks.{Joinable}
use Rattle.build_properties.specs.Properties.{edge_properties}
use Rattle.build_properties.proofs.Kept.{properties-kept}
use Rattle.build.specs.Answer.{Built}
use Rattle.build.specs.declared.numbers.Thresholds.{Thresholds}
use Rattle.build.specs.Building.{numbers_hold, products_hold, building_tests, is_cjk, rules_of, built_segments, built_edges, beside, built, compute_edges}
use Rattle.build.proofs.Calls.{Accepted, accepted, joinable}
use Rattle.build.proofs.Handing as Handing
use Rattle.words.specs.Field.{choice_of, dimension_of, direction_of, group_of}
use Rattle.words.specs.Word.{written, joined}
use Rattle.words.specs.Edge.{table_size, edge_words_at}
use Rattle.words.specs.Segment.{segment_size, segments_in, flat_segments}
use Rattle.words_shape.specs.Shape.{is_in, direction}
use Rattle.words_call.specs.Lent.{Lent, refused_or, segments_front, choices}
use Rattle.words_call.specs.Held.{tested_of}
use Rattle.words_call.proofs.Kept.{passed, not_new}
use Rattle.words_call.proofs.Tested.{in_order}
use Rattle.words_segment.specs.Whole.{Whole}
use Rattle.words_segment.proofs.Wholes.{segments-len}
use Rattle.words_segment_test.specs.Held.{tested}
use Rattle.words_segment_test.proofs.Calls.{short, ready}
use Rattle.build_words.specs.Building.{BuildsIn}
use Rattle.build_words.specs.Lent.{built_lists, BuiltLent}
use Rattle.build_words.specs.Lent as Build

-- ---- a call that is its refusal, then its work, which may refuse too
module _ (fronts : List Test) (t : ℕ) {r : ℕ} (e : r ≡ refused_or fronts t) {R A : Type 0} (answer : R → ℕ) (new : R → A) (tests : List Test) (refused : ℕ → R)
    (result : R)
    (number : (k : ℕ) → answer (refused k) ≡ k) (same : refusal fronts ≡ 0 → refusal tests ≡ t) where
  abbrev call : R
  call = answered (refusal tests) refused result

  -- by the tests
  refused-number : 0 < r → r ≡ refused_or fronts (answer call)
  unfolding refused_or
  refused-number h = by (refusal fronts) refl
    where
      own : (k : ℕ) → 0 < k → answer (answered k refused result) ≡ k
      own zero p = absurd (omega arith)
      own (suc k) p = number (suc k)

      by : (k : ℕ) → refusal fronts ≡ k → r ≡ answered (refusal fronts) (λ (i : ℕ). i) (answer call)
      by zero q =
          let told : r ≡ t = rw q at e in
          let there : r ≡ refusal tests = told ∙ sym (same q) in
          rw q (there ∙ sym (own (refusal tests) (omega (arith, there))))
      by (suc k) q = rw q (rw q at e)

  pub tests-refuse : {old : A} → 0 < r → Lent fronts (answer call) (new call) old r old
  tests-refuse {old} h = record { number = refused-number h; held = by r h }
    where
      by : (k : ℕ) → 0 < k → old ≡ cond (eqb k 0) (new call) old
      by zero p = absurd (omega arith)
      by (suc k) p = sym (not_new k (new call) old)

  -- by its work
  pub work-answers : {old now : A} (k : ℕ) → r ≤ 0 → k ≡ answer result → now ≡ cond (eqb k 0) (new result) old → Lent fronts (answer call) (new call) old k now
  unfolding refused_or
  work-answers {old} {now} k h p q =
      let z : 0 ≡ r = omega arith in
      let a = passed fronts t (z ∙ e) in
      let done : refusal tests ≡ 0 = same a.0 ∙ a.1 in
      record { number = rw (a.0, done) p; held = rw done q }

-- ---- the tests of the call
-- those of the order and of the numbers
abbrev pub own_tests : Bool → ℤ → Thresholds → List Test
own_tests turned scale by = bottom_to_top turned ∷ bad_parameter unless numbers_hold scale by ∷ []

own-tests : (t : Segments) (turned : Bool) (scale : ℤ) (by : Thresholds) → leb t.len most_segments ≡ true
    → refusal (building_tests t 0 turned scale by) ≡ tested t (refusal (own_tests turned scale by)) false (products_hold t scale)
unfolding refusal tested_of
own-tests t turned scale by h =
    ap (λ (b : Bool). cond b (refusal (bottom_to_top turned ∷ bad_parameter unless numbers_hold scale by ∷ rest)) too_long) h
    ∙ own_first (own_tests turned scale by) rest refl
    ∙ ap (answered (refusal (own_tests turned scale by)) (λ (k : ℕ). k)) (in_order (segments_indices t) true (segments_numbers t) (products_hold t scale))
  where
    rest : List Test
    rest = segments_indexed t ∷ segments_in_range t ∷ out_of_range unless products_hold t scale ∷ []

-- what the tests have found, and their answer r: whether the room has the table's length, whether the other words are those of their fields, the refusal by the
-- order and the numbers, and
-- whether the positions at the scale are accepted
pub record TestedBuilding (ws room : List ℤ) (dim major group ttb scale : ℤ) (by : Thresholds) (r : ℕ) : Type 0 where
  pub right : Bool
  pub others : Bool
  pub own : ℕ
  pub products : Bool
  pub right_is : right ≡ eqb (length room) table_size
  pub others_are : others ≡ (is_in direction major && choices dim group ttb)
  pub own_is : Tested own (own_tests (choice_of ttb) scale by)
  pub products_are : segments_in ws ≤ most_segments → products ≡ products_hold (flat_segments ws) scale
  pub answer : r ≡ refused_or (segments_front ws right others) (tested (flat_segments ws) own false products)

module _ (ws room : List ℤ) (dim major group ttb scale : ℤ) (by : Thresholds) {r : ℕ} (T : TestedBuilding ws room dim major group ttb scale by r) where
  abbrev t : Segments
  t = flat_segments ws

  abbrev fronts : List Test
  fronts = segments_front ws T.right T.others

  abbrev tests : List Test
  tests = building_tests t 0 (choice_of ttb) scale by

  building-same : refusal fronts ≡ 0 → refusal tests ≡ tested t T.own false T.products
  building-same q =
      let h = short ws T.right T.others q in
      let few : segments_in ws ≤ most_segments = omega (arith, leb-true t.len most_segments h, segments-len ws) in
      own-tests t (choice_of ttb) scale by h ∙ (λ i. tested t (sym T.own_is.refused i) false (sym (T.products_are few) i))

  -- ---- what the work may use
  module _ (h : r ≤ 0) where
    front-holds : refusal fronts ≡ 0
    front-holds = let z : 0 ≡ r = omega arith in (passed fronts _ (z ∙ T.answer)).0

    none-refused : refusal tests ≡ 0
    none-refused = let z : 0 ≡ r = omega arith in building-same front-holds ∙ (passed fronts _ (z ∙ T.answer)).1

    taken : Accepted t scale by
    taken = accepted t 0 (choice_of ttb) scale by 0 (sym none-refused) (omega arith)

    pub numbers-hold : numbers_hold scale by ≡ true
    numbers-hold = taken.numbers

    room-is : length room ≡ table_size
    unfolding segments_front
    room-is =
        let a = (all_hold fronts refl front-holds).0 in
        eqb-true (length room) table_size (sym T.right_is ∙ and_second (eqb (length ws % segment_size) 0) T.right a)

    pub building-ready : {rules : Rules} → rules ≡ rules_of (dimension_of dim) (direction_of major) (is_cjk (group_of group)) scale by
        → Whole ws × SegmentsWithin t × Joinable t rules × (length room ≡ table_size)
    building-ready {rules} q = (
      (ready ws T.right T.others T.own false T.products T.answer h).whole,
      taken.within,
      joinable t scale by taken (dimension_of dim) (direction_of major) (is_cjk (group_of group)) rules q,
      room-is,
    )

  -- ---- the call
  abbrev old : Axis
  old = empty_axis (dimension_of dim) (direction_of major)

  abbrev rules' : Rules
  rules' = rules_of (dimension_of dim) (direction_of major) (is_cjk (group_of group)) scale by

  abbrev state : State
  state = last_state t rules'

  abbrev result : Built
  result = built t old rules' state

  module _ (count : ℤ) where
    lent-as : {k : ℕ} {now : List ℤ × (List ℤ × ℤ)}
        → Lent fronts (answered (refusal tests) (beside t old) result).answer (built_lists ws room (answered (refusal tests) (beside t old) result))
        (ws, (room, count)) k now
        → BuiltLent ws room dim major group ttb scale by count k now
    unfolding compute_edges
    lent-as {k} {now} l =
        subst (λ (o : Bool). Lent (segments_front ws (eqb (length room) table_size) o) (Build.built ws dim major group ttb scale by).answer
        (built_lists ws room (Build.built ws dim major group ttb scale by)) (ws, (room, count)) k now) T.others_are
        (subst (λ (b : Bool). Lent (segments_front ws b T.others) (Build.built ws dim major group ttb scale by).answer
        (built_lists ws room (Build.built ws dim major group ttb scale by)) (ws, (room, count)) k now) T.right_is l)

    pub building-refused : 0 < r → BuiltLent ws room dim major group ttb scale by count r (ws, (room, count))
    building-refused h =
        lent-as (tests-refuse fronts _ T.answer (λ (b : Built). b.answer) (built_lists ws room) tests (beside t old) result (λ k. refl) building-same h)

    module _ (h : r ≤ 0) {rules : Rules} (q : rules ≡ rules') {full : Bool} {n : ℕ} {ws' room' : List ℤ} (B : BuildsIn ws rules room full n ws' room') where
      built-here : BuildsIn ws rules' room full n ws' room'
      built-here = subst (λ (x : Rules). BuildsIn ws x room full n ws' room') q B

      -- a 129th edge was called for
      pub building-full : full ≡ true → BuiltLent ws room dim major group ttb scale by count no_room (ws', (room', count))
      unfolding built
      building-full f =
          let C = built-here in
          lent-as
          (work-answers fronts _ T.answer (λ (b : Built). b.answer) (built_lists ws room) tests (beside t old) result (λ k. refl) building-same no_room h
          (ap (λ (b : Built). b.answer) (sym (cond-true _ _ _ (sym C.fulls ∙ f))))
          (λ i. ((C.segments ∙ cond-true full _ _ f) i, ((C.edges ∙ cond-true full _ _ f) i, count))))

      -- none was
      abbrev axis : Axis
      axis = edge_properties (built_edges t rules' state) (built_segments t state)

      same-many : axis.len ≡ state.count
      unfolding shown
      same-many =
          (properties-kept (built_edges t rules' state) (built_segments t state) (Handing.ready t rules' (shown t rules' state) refl (taken h).within)).len

      pub building-done : full ≡ false → {c : ℤ} → c ≡ pos n → BuiltLent ws room dim major group ttb scale by count 0 (ws', (room', c))
      unfolding built
      building-done f {c} p =
          let C = built-here in
          let is : result ≡ beside (built_segments t state) axis 0 = cond-false _ _ _ (sym C.fulls ∙ f) in
          let lists : (ws', (room', c)) ≡ built_lists ws room (beside (built_segments t state) axis 0) =
          λ i. (
            (C.segments ∙ cond-false full _ _ f) i,
            (
              (C.edges ∙ cond-false full _ _ f ∙ ap (λ (k : ℕ). written room 0 (joined (edge_words_at axis) k)) (sym same-many)) i,
              (p ∙ ap pos (C.counts ∙ sym same-many)) i,
            ),
          ) in
          lent-as
          (work-answers fronts _ T.answer (λ (b : Built). b.answer) (built_lists ws room) tests (beside t old) result (λ k. refl) building-same 0 h
          (ap (λ (b : Built). b.answer) (sym is)) (lists ∙ ap (built_lists ws room) (sym is)))
