-- What the call hands on: its positions are within `most_fitted`; and which edges it accepts.
use Rattle.std.specs.Prelude.{None}
use mathlib.Core.Path.{◌≡◌, refl, sym, ap, subst, ◌∙◌}
use mathlib.Core.Bool.{Bool, true, not}
use mathlib.Core.List.{List}
use Prim.Native.Nat.{ℕ, zero, suc, ◌≤◌}
use native.Mathlib.Omega.{arith}
use lib.IntN.{ℤ}
use Rattle.refusals.specs.Refusal.{refusal, answered}
use Rattle.refusals.proofs.Tests.{AllHold, no-refusal}
use Rattle.fixed.specs.declared.width.WidthRule.{WidthRule}
use Rattle.fixed.specs.Width.{rule_holds}
use Rattle.axis.specs.declared.kinds.Group.{Group}
use Rattle.axis.specs.declared.edge.Axis.{Axis}
use Rattle.axis.specs.Accepted.{AxisWithin}
use Rattle.axis.specs.Handed.{EdgesAccepted}
use Rattle.axis.specs.Limits.{most_edges}
use Rattle.zones.specs.Call.{align_edges_to_blues}
use Rattle.stems.specs.Answer.{Stems}
use Rattle.stems.specs.Handed.{most_fitted}
use Rattle.stems.specs.Stems.{stems}
use Rattle.stems.proofs.Handed as StemsHanded
use Rattle.stems.proofs.Kept as StemsKept
use Rattle.zones_stems.specs.Joined.{zones_hold, joined_tests, then_stems, align_blues_and_stems}
use Rattle.zones_stems.proofs.Rows.{row-answered, accepted-row, unrefused}

module _ (axis : Axis) (group : Group) (adjust ttb : Bool) (rule : WidthRule) (xs : List ℤ) where
  -- edges that are accepted, from bottom to top, without a zone where the group has none, and a rule that holds are answered by 0
  pub accepts : EdgesAccepted axis → not ttb ≡ true → rule_holds rule xs ≡ true → zones_hold group axis ≡ true
      → (align_blues_and_stems axis group adjust ttb rule xs).answer ≡ 0
  accepts a u r z =
      let h : AllHold (joined_tests axis group ttb rule xs) = (a.short, (u, (r, (z, (a.indexed, (a.in_range, refl)))))) in
      ap (λ (s : Stems). s.answer) (accepted-row axis group adjust ttb rule xs (no-refusal (joined_tests axis group ttb rule xs) h))
      ∙ row-answered axis group adjust ttb rule xs h

  -- with answer 0 every position is within `most_fitted`, and original positions, zones, links and serifs are as they are in accepted edges
  pub handed-within : (align_blues_and_stems axis group adjust ttb rule xs).answer ≡ 0
      → AxisWithin most_fitted (align_blues_and_stems axis group adjust ttb rule xs).axis
  handed-within e =
      let same = accepted-row axis group adjust ttb rule xs (unrefused axis group adjust ttb rule xs e) in
      subst (λ (s : Stems). AxisWithin most_fitted s.axis) (sym same)
      (StemsHanded.handed-within _ group adjust ttb _ rule xs (ap (λ (s : Stems). s.answer) (sym same) ∙ e))

  -- at most 128 edges are counted, refused or not
  pub call-counts : (align_blues_and_stems axis group adjust ttb rule xs).count ≤ most_edges
  unfolding align_blues_and_stems
  call-counts = by (refusal (joined_tests axis group ttb rule xs))
    where
      by : (k : ℕ) → (answered k (stems 0 None axis) (then_stems group adjust ttb rule xs (align_edges_to_blues axis group rule xs))).count ≤ most_edges
      by zero = let r = align_edges_to_blues axis group rule xs in StemsKept.call-counts r.axis group adjust ttb r.anchor rule xs
      by (suc k) = omega arith
