-- Request #108: the stem pass behind the one over blue zones never finds an edge whose link has a zone.
use Rattle.std.specs.Prelude.{None, Some}
use mathlib.Core.Path.{◌≡◌, refl, sym, subst}
use mathlib.Core.Bool.{Bool, true, false, cond, ◌||◌}
use mathlib.Core.List.{List}
use Prim.Native.Nat.{ℕ, ◌<◌}
use native.Mathlib.Omega.{arith}
use borrow.Author.Tests.{not-true}
use lib.IntN.{ℤ}
use Rattle.refusals.specs.Refusal.{refusal}
use Rattle.refusals.proofs.Tests.{AllHold, all_hold}
use Rattle.fixed.specs.declared.width.WidthRule.{WidthRule}
use Rattle.axis.specs.Link.{Link}
use Rattle.axis.specs.Link.{Blue}
use Rattle.axis.specs.declared.kinds.Group.{Group}
use Rattle.axis.specs.declared.edge.Axis.{Axis}
use Rattle.axis.specs.Accepted.{AxisWithin}
use Rattle.axis.specs.Edge.{edge_at, has_blue}
use Rattle.axis.specs.Limits.{most_pos}
use Rattle.axis.specs.Refusals.{every_edge, is_bare}
use Rattle.axis.proofs.Accepting.{edges-within}
use Rattle.axis.proofs.Tests.{every-at}
use Rattle.axis.proofs.Visits.{visits-keep}
use Rattle.zones.specs.Settled.{Settled}
use Rattle.signed.proofs.Choices.{clash}
use Rattle.zones.proofs.Settled.{pass-settled}
use Rattle.zones.specs.Pass.{anchored, blues_of}
use Rattle.zones.specs.Call.{has_blues, blues_where}
use Rattle.stems.specs.declared.kinds.Mode.{Mode}
use Rattle.stems.specs.Stems.{State, begun, mode_of}
use Rattle.stems.specs.StepsPass.{step}
use Rattle.stems.proofs.Settling.{step-settled}
use Rattle.stems.proofs.Straight.{steps-are}
use Rattle.zones_stems.specs.Joined.{zones_hold, joined_tests}
use Rattle.zones_stems.specs.Unreached.{Unreached}
use Rattle.zones_stems.proofs.Rows.{edges, same_len}

-- ---- behind the blue zones
-- an edge without a zone has none
bare-is : (b : Blue) → has_blue b ≡ false → b ≡ None
unfolding has_blue
bare-is None h = refl
bare-is (Some z) h = absurd (clash (has_blue (Some z)) h refl)

module _ (axis : Axis) (within : AxisWithin most_pos axis) where
  -- where no edge has a zone, none has a link with one
  none-settled : every_edge is_bare axis ≡ true → Settled axis.len axis
  none-settled h = record {
    bare = λ i k q d l.
        let r = (within.edge i q).link.at k l in
        bare-is (edge_at axis k).blue (not-true _ (every-at _ k _ h (omega (arith, r, within.few))));
  }

  -- by the zones of the group
  module _ (group : Group) (rule : WidthRule) (xs : List ℤ) where
    by-group : (t : Bool) → (t || every_edge is_bare axis) ≡ true → Settled axis.len (cond t (blues_of rule xs axis) (anchored axis None 0)).axis
    unfolding blues_of
    by-group true h = pass-settled rule xs axis.len (record { axis = axis; anchor = None })
    by-group false h = none-settled h

    pub where-settled : zones_hold group axis ≡ true → Settled axis.len (blues_where axis group rule xs).axis
    unfolding zones_hold
    where-settled h = by-group (has_blues group axis.dim) h

-- ---- in the stem pass
pub unreached : (m : Mode) (xs : List ℤ) (anchor : Link) (axis : Axis) → Settled axis.len axis → Unreached m xs anchor axis
unreached m xs anchor axis h = record {
  settled = λ n q.
      subst (λ (s : State). Settled axis.len s.axis) (steps-are m xs n 0 (begun anchor axis))
      (visits-keep (λ (s : State). Settled axis.len s.axis) (step m xs) axis.len
      (λ (s : State) (i : ℕ) (_ : i < axis.len). step-settled m xs axis.len s i) n 0 (begun anchor axis)
      (omega arith) h);
}

-- ---- in the call
module _ (axis : Axis) (group : Group) (adjust ttb : Bool) (rule : WidthRule) (xs : List ℤ) where
  pub zoned-settled : AllHold (joined_tests axis group ttb rule xs) → Settled (blues_where axis group rule xs).axis.len (blues_where axis group rule xs).axis
  zoned-settled h =
      subst (λ (n : ℕ). Settled n (blues_where axis group rule xs).axis) (sym (same_len axis group adjust ttb rule xs h))
      (where-settled axis (edges-within axis (edges axis group adjust ttb rule xs h)) group rule xs h.1.1.1.0)

  -- where it is not refused the stem pass, on what the blue zones left, does not reach its fallback
  pub never-reached : refusal (joined_tests axis group ttb rule xs) ≡ 0
      → Unreached (mode_of axis group adjust rule) xs (blues_where axis group rule xs).anchor (blues_where axis group rule xs).axis
  never-reached e = unreached (mode_of axis group adjust rule) xs _ _ (zoned-settled (all_hold (joined_tests axis group ttb rule xs) refl e))
