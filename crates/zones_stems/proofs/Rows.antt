-- The call is the two calls in a row: what is computed where it is accepted, and by what it is refused.
use Rattle.std.specs.Prelude.{None}
use mathlib.Core.Path.{◌≡◌, refl, sym, ap, subst, ◌∙◌}
use mathlib.Core.Bool.{Bool, true, false, not, cond}
use mathlib.Core.List.{List, [], ◌∷◌}
use Prim.Native.Nat.{ℕ, zero, suc}
use lib.IntN.{ℤ}
use Rattle.refusals.specs.Refusal.{◌unless◌, too_long, bad_parameter, retired, refusal, answered}
use Rattle.refusals.proofs.Answers.{none-refused, worked}
use Rattle.refusals.proofs.Tests.{AllHold, all_hold, no-refusal}
use Rattle.fixed.specs.declared.width.WidthRule.{WidthRule}
use Rattle.fixed.specs.Width.{rule_holds}
use Rattle.axis.specs.declared.kinds.Group.{Group}
use Rattle.axis.specs.declared.kinds.Dimension.{Dimension}
use Rattle.axis.specs.declared.edge.Axis.{Axis}
use Rattle.axis.specs.Accepted.{Below}
use Rattle.axis.specs.Handed.{EdgesAccepted}
use Rattle.axis.specs.Limits.{most_pos}
use Rattle.axis.specs.Refusals.{link_holds, edges_short, bottom_to_top}
use Rattle.axis.proofs.Accepting.{link-holds, edges-within}
use Rattle.zones.specs.Answer.{Anchored}
use Rattle.zones.specs.Pass.{anchored, blues_of}
use Rattle.zones.proofs.ChangedPass.{blues-only}
use Rattle.zones.specs.Call.{has_blues, blues_where, blues_tests, align_edges_to_blues}
use Rattle.zones.proofs.Handed as BluesHanded
use Rattle.stems.specs.Answer.{Stems}
use Rattle.stems.specs.Stems.{stems, stems_of, mode_of, stems_tests, align_stem_edges}
use Rattle.stems.proofs.Handed as StemsHanded
use Rattle.zones_stems.specs.Joined.{zones_hold, joined_tests, then_stems, align_blues_and_stems}

module _ (axis : Axis) (group : Group) (adjust ttb : Bool) (rule : WidthRule) (xs : List ℤ) (hold : AllHold (joined_tests axis group ttb rule xs)) where
  -- ---- what acceptance yields
  pub edges : EdgesAccepted axis
  edges = let indexed = hold.1.1.1.1 in record { short = hold.0; indexed = indexed.0; in_range = indexed.1.0 }

  blues-unrefused : refusal (blues_tests axis rule xs) ≡ 0
  blues-unrefused = no-refusal (blues_tests axis rule xs) (edges.short, (hold.1.1.0, (edges.indexed, (edges.in_range, refl))))

  -- the blue call does what it does where it is not refused
  blues-work : align_edges_to_blues axis group rule xs ≡ blues_where axis group rule xs
  blues-work = BluesHanded.outcome axis group rule xs blues-unrefused

  abbrev zoned : Anchored
  zoned = blues_where axis group rule xs

  answered-0 : (align_edges_to_blues axis group rule xs).answer ≡ 0
  answered-0 = BluesHanded.accepts axis group rule xs edges hold.1.1.0

  -- and leaves edges and an anchor that the stem call accepts
  pub zoned-edges : EdgesAccepted zoned.axis
  zoned-edges = subst (λ (r : Anchored). EdgesAccepted r.axis) blues-work (BluesHanded.handed-on axis group rule xs answered-0)

  pub zoned-anchor : Below zoned.axis.len zoned.anchor
  zoned-anchor = subst (λ (r : Anchored). Below r.axis.len r.anchor) blues-work (BluesHanded.anchor-handed-on axis group rule xs answered-0)

  stems-work : align_stem_edges zoned.axis group adjust ttb zoned.anchor rule xs
      ≡ stems_of (mode_of zoned.axis group adjust rule) xs zoned.anchor zoned.axis
  stems-work =
      let a = zoned-edges in
      StemsHanded.outcome zoned.axis group adjust ttb zoned.anchor rule xs
      (no-refusal (stems_tests zoned.axis ttb zoned.anchor rule xs)
      (a.short, (hold.1.0, (hold.1.1.0, (a.indexed, (link-holds zoned.axis.len zoned.anchor zoned-anchor, (a.in_range, refl)))))))

  -- on an axis of the same dimension and count
  same-dim : zoned.axis.dim ≡ axis.dim
  same-dim = go (has_blues group axis.dim)
    where
      go : (t : Bool) → (cond t (blues_of rule xs axis) (anchored axis None 0)).axis.dim ≡ axis.dim
      go true = (blues-only rule xs axis most_pos (edges-within axis edges)).dim
      go false = refl

  pub same_len : zoned.axis.len ≡ axis.len
  same_len = go (has_blues group axis.dim)
    where
      go : (t : Bool) → (cond t (blues_of rule xs axis) (anchored axis None 0)).axis.len ≡ axis.len
      go true = (blues-only rule xs axis most_pos (edges-within axis edges)).len
      go false = refl

  -- so that the two calls in a row are the stem pass behind the blue zones
  pub in_a_row : stems_of (mode_of axis group adjust rule) xs zoned.anchor zoned.axis
      ≡ then_stems group adjust ttb rule xs (align_edges_to_blues axis group rule xs)
  in_a_row =
      ap (λ (d : Dimension). stems_of (record { dim = d; group = group; stem_adjust = adjust; rule = rule }) xs zoned.anchor zoned.axis) (sym same-dim)
      ∙ sym stems-work
      ∙ ap (then_stems group adjust ttb rule xs) (sym blues-work)

  pub row-answered : (then_stems group adjust ttb rule xs (align_edges_to_blues axis group rule xs)).answer ≡ 0
  unfolding stems_of
  row-answered = ap (λ (r : Stems). r.answer) (sym in_a_row)

-- ---- the call
module _ (axis : Axis) (group : Group) (adjust ttb : Bool) (rule : WidthRule) (xs : List ℤ) where
  -- where it is not refused it is the two calls in a row, marks too
  pub accepted-row : refusal (joined_tests axis group ttb rule xs) ≡ 0
      → align_blues_and_stems axis group adjust ttb rule xs ≡ then_stems group adjust ttb rule xs (align_edges_to_blues axis group rule xs)
  unfolding align_blues_and_stems
  accepted-row e =
      worked (stems 0 None axis) (then_stems group adjust ttb rule xs (align_edges_to_blues axis group rule xs))
      (refusal (joined_tests axis group ttb rule xs)) e

  -- so that it is its refusal, or the stem pass behind the blue zones
  pub passes : align_blues_and_stems axis group adjust ttb rule xs
      ≡ answered (refusal (joined_tests axis group ttb rule xs)) (stems 0 None axis)
      (stems_of (mode_of axis group adjust rule) xs (blues_where axis group rule xs).anchor (blues_where axis group rule xs).axis)
  unfolding align_blues_and_stems
  passes = by (refusal (joined_tests axis group ttb rule xs)) refl
    where
      by : (k : ℕ) → refusal (joined_tests axis group ttb rule xs) ≡ k
          → answered k (stems 0 None axis) (then_stems group adjust ttb rule xs (align_edges_to_blues axis group rule xs))
          ≡ answered k (stems 0 None axis) (stems_of (mode_of axis group adjust rule) xs (blues_where axis group rule xs).anchor
          (blues_where axis group rule xs).axis)
      by zero e = sym (in_a_row axis group adjust ttb rule xs (all_hold (joined_tests axis group ttb rule xs) refl e))
      by (suc k) e = refl

  -- it is not refused where it answers 0
  pub unrefused : (align_blues_and_stems axis group adjust ttb rule xs).answer ≡ 0 → refusal (joined_tests axis group ttb rule xs) ≡ 0
  unfolding align_blues_and_stems
  unrefused e =
      none-refused (stems 0 None axis) (then_stems group adjust ttb rule xs (align_edges_to_blues axis group rule xs)) (λ (r : Stems). r.answer)
      (λ (k : ℕ). refl)
      (refusal (joined_tests axis group ttb rule xs)) e

-- ---- refusals
-- where no zone stands in the way it is refused as the stem call without an anchor is
pub refused-as-stems : (axis : Axis) (group : Group) (ttb : Bool) (rule : WidthRule) (xs : List ℤ) → zones_hold group axis ≡ true
    → refusal (joined_tests axis group ttb rule xs) ≡ refusal (stems_tests axis ttb None rule xs)
unfolding refusal link_holds
refused-as-stems axis group ttb rule xs h = rw h

-- and else by 2, behind 1 and 10
pub refused-by-zone : (axis : Axis) (group : Group) (ttb : Bool) (rule : WidthRule) (xs : List ℤ) → zones_hold group axis ≡ false
    → refusal (joined_tests axis group ttb rule xs) ≡ refusal (edges_short axis ∷ bottom_to_top ttb ∷ bad_parameter unless false ∷ [])
unfolding refusal
refused-by-zone axis group ttb rule xs h = rw h (ap (λ (k : ℕ). cond (edges_short axis).holds (cond (not ttb) k retired) too_long) (same (rule_holds rule xs)))
  where
    same : (t : Bool) → cond t bad_parameter bad_parameter ≡ bad_parameter
    same true = refl
    same false = refl
