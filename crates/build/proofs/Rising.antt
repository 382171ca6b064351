-- Edges that are built stand by rising position, in font units and at the scale.
use mathlib.Core.Path.{◌≡◌, refl, ap, ◌∙◌}
use mathlib.Core.List.{List, [], ◌∷◌}
use Prim.Native.Nat.{ℕ, ◌≤◌, ◌<◌}
use native.Mathlib.Omega.{arith}
use lib.IntN.{ℤ}
use lib.ListN.{length}
use lib.Signed.{◌≤ℤ◌}
use Rattle.signed.specs.Parts.{up, dn}
use Rattle.fixed.specs.Point.{mul_fix}
use Rattle.fixed.proofs.Rounding.{mul-grows}
use Rattle.axis.specs.declared.edge.Edge.{Edge}
use Rattle.axis.specs.declared.edge.Axis.{Axis}
use Rattle.axis.specs.declared.segment.Segments.{Segments}
use Rattle.axis.specs.Accepted.{SegmentsWithin}
use Rattle.axis.specs.Edge.{edge_at}
use Rattle.build_join.specs.declared.rules.Rules.{Rules}
use Rattle.build_join.specs.Joining.{edge_of, State, group, shown}
use Rattle.build_join.proofs.Steps.{of-len, of-edge}
use Rattle.build_properties.specs.Properties.{edge_properties}
use Rattle.build_properties.proofs.Kept.{properties-kept}
use Rattle.build.specs.Building.{last_state, built_segments, built_edges}
use Rattle.build.proofs.Handing.{ready}
use Rattle.build.proofs.Joins.{last-good, last-rises}

-- the edge of a group is at the scale where its first segment is
at-scale : (t : Segments) (scale : ℤ) (g : List ℕ) → 0 < length g → (edge_of t scale g).opos ≡ mul_fix (edge_of t scale g).fpos scale
at-scale t scale [] h = absurd (omega arith)
at-scale t scale (m ∷ ms) h = refl

module _ (t : Segments) (r : Rules) (W : SegmentsWithin t) where
  abbrev s : State
  s = last_state t r

  abbrev with-properties : Axis
  with-properties = edge_properties (built_edges t r s) (built_segments t s)

  -- an edge with its properties is where the edge of its group is
  record Stands (k : ℕ) : Type 0 where
    used : k < s.count
    fpos : (edge_at with-properties k).fpos ≡ (edge_of t r.scale (group s k)).fpos
    opos : (edge_at with-properties k).opos ≡ (edge_of t r.scale (group s k)).opos

  stands : (k : ℕ) → k < with-properties.len → Stands k
  stands k h =
      let j = shown t r s in
      let K = properties-kept (built_edges t r s) (built_segments t s) (ready t r j refl W) in
      let l : k < (built_edges t r s).len = rw K.len at h in
      let at = of-edge t r s j.full j.axis j.next refl k in
      record {
        used = omega (arith, of-len t r s j.full j.axis j.next refl, l);
        fpos = (K.edge k l).fpos ∙ ap (λ (e : Edge). e.fpos) at;
        opos = (K.edge k l).opos ∙ ap (λ (e : Edge). e.opos) at;
      }

  -- in font units
  pub fpos-rises : (a b : ℕ) → a < b → b < with-properties.len → (edge_at with-properties a).fpos ≤ℤ (edge_at with-properties b).fpos
  fpos-rises a b o h =
      let p = stands a (omega arith) in
      let q = stands b h in
      rw (p.fpos, q.fpos) ((last-rises t r W.few).at a b o q.used)

  -- and at a scale that is not negative
  pub opos-rises : dn r.scale ≤ up r.scale → (a b : ℕ) → a < b → b < with-properties.len
      → (edge_at with-properties a).opos ≤ℤ (edge_at with-properties b).opos
  opos-rises n a b o h =
      let p = stands a (omega arith) in
      let q = stands b h in
      let G = last-good t r W.few in
      rw (p.opos, q.opos, at-scale t r.scale (group s a) (G.used a p.used), at-scale t r.scale (group s b) (G.used b q.used))
      (mul-grows _ _ r.scale n ((last-rises t r W.few).at a b o q.used))
