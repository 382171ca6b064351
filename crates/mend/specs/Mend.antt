-- Request #107: the call.
use Rattle.std.specs.Prelude.{◌≡◌, Bool, ◌&&◌, List, [], ◌∷◌, ◌++◌, ℕ, min, ltb}
use Rattle.refusals.specs.Refusal.{Test, ◌unless◌, refusal, answered, bad_index, broken_ring}
use Rattle.axis.specs.declared.edge.Axis.{Axis}
use Rattle.axis.specs.declared.segment.Segments.{Segments}
use Rattle.axis.specs.Limits.{most_edges}
use Rattle.axis.specs.Refusals.{every, edges_short, edges_in_range, segments_short, segments_in_range}
use Rattle.mend.specs.Following.{count}
use Rattle.turn.specs.Indices.{segments_edges}
use Rattle.axis.specs.Ring.{is_of}
use Rattle.mend.specs.Mended.{mended_axis, mended_segments}
use Rattle.mend.specs.Altered.{Alteration, alterations}

-- every edge is named by a segment
unfoldable pub edges_named : Axis → Segments → Bool
edges_named axis t = every (λ (k : ℕ). ltb 0 (count (is_of t k) t.len)) (min axis.len most_edges)

-- the tests of the tables: 1 and 4 first; 3 for an edge index beyond the table alone
abbrev pub table_tests : Axis → Segments → List Test
table_tests axis t = segments_short t ∷ edges_short axis ∷ segments_in_range t ∷ edges_in_range axis ∷ bad_index unless segments_edges axis.len t ∷ []

-- the tests of the call: 7 last
abbrev pub mending_tests : Axis → Segments → List Test
mending_tests axis t = table_tests axis t ++ (broken_ring unless edges_named axis t ∷ [])

-- what the call hands back
pub record Mended : Type 0 where
  pub answer : ℕ
  pub axis : Axis
  pub segments : Segments
  pub altered : List Alteration

-- everything as it was, and nothing listed, beside a refusal; both tables mended and the list beside 0
unfoldable pub mend : Axis → Segments → Mended
mend axis t =
    answered (refusal (mending_tests axis t)) (λ (k : ℕ). record { answer = k; axis = axis; segments = t; altered = [] })
    (record {
      answer = 0;
      axis = mended_axis axis t;
      segments = mended_segments axis t;
      altered = alterations axis t (mended_axis axis t) (mended_segments axis t);
    })
