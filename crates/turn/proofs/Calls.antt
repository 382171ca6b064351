-- What a call that is not refused has tested, and back.
use mathlib.Core.Path.{◌≡◌, refl, sym, ◌∙◌}
use mathlib.Core.Bool.{true}
use Prim.Native.Nat.{ℕ, ◌≤◌}
use native.Mathlib.Omega.{arith}
use Rattle.refusals.specs.Refusal.{refusal}
use Rattle.refusals.proofs.Tests.{all_hold, no-refusal}
use Rattle.axis.specs.declared.edge.Axis.{Axis}
use Rattle.axis.specs.declared.segment.Segments.{Segments}
use Rattle.axis.specs.Handed.{EdgesAccepted, SegmentsAccepted}
use Rattle.axis.specs.Refusals.{segments_nexts}
use Rattle.turn.specs.Indices.{segments_edges, edges_segments}
use Rattle.turn.specs.Turning.{turning_tests}

-- every test holds
pub record Taken (axis : Axis) (t : Segments) : Type 0 where
  pub edges : EdgesAccepted axis
  pub segments : SegmentsAccepted t
  pub nexts : segments_nexts t ≡ true
  pub to_edges : segments_edges axis.len t ≡ true
  pub to_segments : edges_segments t.len axis ≡ true

pub taken : (axis : Axis) (t : Segments) → refusal (turning_tests axis t) ≡ 0 → Taken axis t
taken axis t e =
    let h = all_hold (turning_tests axis t) refl e in
    let g = h.1.1 in
    let i = g.1.1.1 in
    record {
      edges = record { short = h.1.0; indexed = i.0; in_range = i.1.1.1.0 };
      segments = record { short = h.0; indexed = g.0; in_range = i.1.1.0 };
      nexts = g.1.0;
      to_edges = g.1.1.0;
      to_segments = i.1.0;
    }

pub not-refused : (axis : Axis) (t : Segments) → Taken axis t → refusal (turning_tests axis t) ≡ 0
not-refused axis t a =
    no-refusal
    (turning_tests axis t) (
      a.segments.short,
      (
        a.edges.short,
        (
          a.segments.indexed,
          (
            a.nexts,
            (a.to_edges, (a.edges.indexed, (a.to_segments, (a.segments.in_range, (a.edges.in_range, refl))))),
          ),
        ),
      ),
    )

-- the same of an answer that is none
pub took : (axis : Axis) (t : Segments) (k : ℕ) → k ≡ refusal (turning_tests axis t) → k ≤ 0 → Taken axis t
took axis t k e h = let z : k ≡ 0 = omega arith in taken axis t (sym e ∙ z)
