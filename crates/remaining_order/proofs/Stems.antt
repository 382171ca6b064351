-- Behind the stem pass with none passed over every edge is done, and remaining edges change nothing: so `hint_edges`' own condition for calling them decides
-- nothing, with the
-- lowercase m rule in between or without.
use Rattle.std.specs.Prelude.{None}
use mathlib.Core.Path.{◌≡◌, refl, sym, ap, ◌∙◌}
use mathlib.Core.Bool.{Bool, true, false, not, cond, ◌||◌}
use mathlib.Core.List.{List, [], ◌∷◌}
use Prim.Native.Nat.{ℕ, zero, suc, ◌≤◌, ◌<◌}
use native.Mathlib.Omega.{arith}
use borrow.Author.Tests.{ltb-false}
use lib.Dec.{ltb}
use lib.IntN.{ℤ}
use lib.ListN.{length}
use Rattle.refusals.specs.Refusal.{◌unless◌, refusal, answered, bad_index, steep}
use Rattle.fixed.specs.declared.width.WidthRule.{WidthRule}
use Rattle.axis.specs.declared.kinds.Group.{Group}
use Rattle.axis.specs.Link.{Link}
use Rattle.axis.specs.declared.edge.Edge.{Edge}
use Rattle.axis.specs.declared.edge.Axis.{Axis}
use Rattle.axis.specs.Changes.{Extent, nothing, position, place, zone, Only, OnlyAxis}
use Rattle.axis.specs.Edge.{edge_at}
use Rattle.axis.specs.Refusals.{link_holds, edges_short, edges_indexed, edges_in_range}
use Rattle.axis.proofs.Only.{same-axis}
use Rattle.gaps.specs.Gaps.{is_done}
use Rattle.lowercase_m.specs.M.{hint_lowercase_m}
use Rattle.lowercase_m.proofs.Changed as M
use Rattle.stems.specs.Answer.{Stems}
use Rattle.stems.specs.Stems.{align_stem_edges}
use Rattle.stems.proofs.Changed as Changed
use Rattle.stems.proofs.Done.{none-passed-over}
use Rattle.remaining.specs.Remaining.{state, begun, remaining_of, Remaining, remaining, outcome, table_tests, remaining_tests, align_remaining_edges}
use Rattle.remaining.proofs.Done.{or-first, pass-stays}
use Rattle.remaining_order.specs.Behind.{is_called_for, called, called_for, NoneLeft}

-- ---- every edge done
module _ (axis : Axis) (group : Group) (count : ℕ) (given : Link) (all : (j : ℕ) → j < axis.len → is_done axis j ≡ true) where
  stays : remaining_of axis group count given ≡ state axis (begun count given)
  stays = pass-stays (state axis (begun count given)) all group

  -- no position on the way refuses
  tests : refusal (remaining_tests axis group count given) ≡ refusal (table_tests axis given)
  unfolding refusal
  tests =
      ap (λ (b : Bool). refusal (edges_short axis ∷ edges_indexed axis ∷ bad_index unless link_holds axis.len given ∷ edges_in_range axis ∷ steep unless not b
      ∷ []))
      (λ i. (stays i).past.beyond)

  call : align_remaining_edges axis group count given ≡ answered (refusal (table_tests axis given)) (remaining None axis) (remaining given axis 0)
  unfolding align_remaining_edges
  call = λ i. answered (tests i) (remaining None axis) (outcome (stays i))

  pub none_left : NoneLeft axis group count given
  none_left = record {
    done = all;
    nothing = record {
      edges = ap (λ (r : Remaining). r.axis) call ∙ by-axis (refusal (table_tests axis given));
      answer = ap (λ (r : Remaining). r.answer) call ∙ by_answer (refusal (table_tests axis given));
      anchor = λ e. ap (λ (r : Remaining). r.anchor) call ∙ by-anchor (refusal (table_tests axis given)) (ap (λ (r : Remaining). r.answer) (sym call) ∙ e);
    };
  }
    where
      by-axis : (k : ℕ) → (answered k (remaining None axis) (remaining given axis 0)).axis ≡ axis
      by-axis zero = refl
      by-axis (suc k) = refl

      by_answer : (k : ℕ) → (answered k (remaining None axis) (remaining given axis 0)).answer ≡ k
      by_answer zero = refl
      by_answer (suc k) = refl

      by-anchor : (k : ℕ) → (answered k (remaining None axis) (remaining given axis 0)).answer ≡ 0
          → (answered k (remaining None axis) (remaining given axis 0)).anchor ≡ given
      by-anchor zero e = refl
      by-anchor (suc k) e = absurd (omega (arith, e))

-- ---- behind the stem pass
-- an edge that is done stays so, whatever a pass may change of it
still-done : (x : Extent) (a b : Edge) → Only x a b → a.flags.done ≡ true → b.flags.done ≡ true
still-done nothing a b o d = ap (λ (e : Edge). e.flags.done) o.rest ∙ d
still-done (position ms) a b o d = ap (λ (e : Edge). e.flags.done) o.rest ∙ d
still-done (place ms) a b o d = ap (λ (e : Edge). e.flags.done) o.rest ∙ ap (λ (t : Bool). t || b.flags.done) d
still-done (zone ms) a b o d = ap (λ (e : Edge). e.flags.done) o.rest ∙ ap (λ (t : Bool). t || b.flags.done) d

module _ (axis : Axis) (group : Group) (adjust ttb : Bool) (anchor : Link) (rule : WidthRule) (xs : List ℤ) (l : axis.len ≤ length axis.edges)
    (e : (align_stem_edges axis group adjust ttb anchor rule xs).answer ≡ 0) where
  abbrev passed : Stems
  passed = align_stem_edges axis group adjust ttb anchor rule xs

  same_len : passed.axis.len ≡ axis.len
  same_len = (Changed.changed axis group adjust ttb anchor rule xs {r = passed} refl).only.len

  -- with none passed over no edge is left, whatever count and anchor are handed on; nor behind a call that changes edges as passes do
  pub behind-changes : (align_stem_edges axis group adjust ttb anchor rule xs).count ≡ 0 → (extent : ℕ → Extent) (new : Axis)
      → OnlyAxis extent (align_stem_edges axis group adjust ttb anchor rule xs).axis new
      → (count : ℕ) (given : Link) → NoneLeft new group count given
  behind-changes z extent new o count given =
      none_left new group count given
      (λ j h. still-done (extent j) (edge_at passed.axis j) (edge_at new j) (o.edges.edge j)
      (none-passed-over axis group adjust ttb anchor rule xs l e z j (omega (arith, h, o.len, same_len))))

  pub behind-stems : (align_stem_edges axis group adjust ttb anchor rule xs).count ≡ 0
      → (count : ℕ) (given : Link) → NoneLeft (align_stem_edges axis group adjust ttb anchor rule xs).axis group count given
  behind-stems z = behind-changes z (λ (i : ℕ). nothing) passed.axis (same-axis _ passed.axis)

  -- so with stems' count and anchor edges come to the same, called for or not: behind such a call, behind the lowercase m rule, and behind stems themselves
  pub condition-decides-nothing : (extent : ℕ → Extent) (new : Axis) → OnlyAxis extent (align_stem_edges axis group adjust ttb anchor rule xs).axis new
      → called_for group (align_stem_edges axis group adjust ttb anchor rule xs) new ≡ called group (align_stem_edges axis group adjust ttb anchor rule xs) new
  condition-decides-nothing extent new o = by (is_called_for passed) refl
    where
      by : (t : Bool) → is_called_for passed ≡ t → cond t (called group passed new) new ≡ called group passed new
      by true q = refl
      by false q =
          let z : passed.count ≡ 0 = omega (arith, ltb-false 0 passed.count (or-first (ltb 0 passed.count) _ q)) in
          sym (behind-changes z extent new o passed.count passed.anchor).nothing.edges

  pub nothing-behind-m : called_for group (align_stem_edges axis group adjust ttb anchor rule xs)
      (hint_lowercase_m (align_stem_edges axis group adjust ttb anchor rule xs).axis group).axis
      ≡ called group (align_stem_edges axis group adjust ttb anchor rule xs)
      (hint_lowercase_m (align_stem_edges axis group adjust ttb anchor rule xs).axis group).axis
  nothing-behind-m =
      condition-decides-nothing _ (hint_lowercase_m passed.axis group).axis
      (M.changed passed.axis group {r = hint_lowercase_m passed.axis group} refl).only

  pub nothing-behind-stems : called_for group (align_stem_edges axis group adjust ttb anchor rule xs) (align_stem_edges axis group adjust ttb anchor rule xs).axis
      ≡ called group (align_stem_edges axis group adjust ttb anchor rule xs) (align_stem_edges axis group adjust ttb anchor rule xs).axis
  nothing-behind-stems = condition-decides-nothing (λ (i : ℕ). nothing) passed.axis (same-axis _ passed.axis)
