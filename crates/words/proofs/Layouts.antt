-- The two kinds of records: how edges and segments are read by their words.
use mathlib.Core.Path.{◌≡◌, refl}
use mathlib.Core.List.{List}
use Prim.Native.Nat.{ℕ, ◌+◌}
use native.Mathlib.Omega.{arith}
use lib.IntN.{ℤ}
use Rattle.axis.specs.declared.edge.Edge.{Edge}
use Rattle.axis.specs.declared.segment.Segment.{Segment}
use Rattle.words.specs.Field.{blue_of, direction_of, flags_of, index_of, link_of, mark_of, short_of}
use Rattle.words.specs.Edge as E
use Rattle.words.specs.Segment as S
use Rattle.words.proofs.Edges.{edge-length}
use Rattle.words.proofs.Segments.{segment-length}
use Rattle.words.specs.Record.{edge_layout, segment_layout}
use Rattle.words.proofs.Codecs.{Codec, behind}

-- ---- edges
abbrev pub edge_by : (ℕ → ℤ) → Edge
edge_by g = record {
  fpos = short_of (g E.fpos_place);
  opos = g E.opos_place;
  pos = g E.pos_place;
  flags = flags_of (g E.flags_place);
  dir = direction_of (g E.dir_place);
  blue = blue_of (g E.blue_place) (g E.fitted_place);
  link = link_of (g E.link_place);
  serif = link_of (g E.serif_place);
  first = index_of (g E.first_place);
  last = index_of (g E.last_place);
  mark = mark_of (g E.mark_place);
}

pub edge-by : (ws : List ℤ) (at : ℕ) → E.edge_from ws at ≡ edge_by (behind ws at)
unfolding E.edge_from
edge-by ws at = let q : at + 0 ≡ at = omega arith in rw q

abbrev pub edge_codec : Codec edge_layout
edge_codec = record { by = edge_by; reads = edge-by; clips = λ (g : ℕ → ℤ). refl; sized = edge-length }

-- ---- segments
abbrev pub segment_by : (ℕ → ℤ) → Segment
segment_by g = record {
  flags = flags_of (g S.flags_place);
  dir = direction_of (g S.dir_place);
  pos = short_of (g S.pos_place);
  delta = short_of (g S.delta_place);
  min_coord = short_of (g S.min_place);
  max_coord = short_of (g S.max_place);
  height = short_of (g S.height_place);
  score = g S.score_place;
  len = g S.len_place;
  link = link_of (g S.link_place);
  serif = link_of (g S.serif_place);
  first = index_of (g S.first_place);
  last = index_of (g S.last_place);
  edge = link_of (g S.edge_place);
  next = link_of (g S.next_place);
}

pub segment-by : (ws : List ℤ) (at : ℕ) → S.segment_from ws at ≡ segment_by (behind ws at)
unfolding S.segment_from
segment-by ws at = let q : at + 0 ≡ at = omega arith in rw q

abbrev pub segment_codec : Codec segment_layout
segment_codec = record { by = segment_by; reads = segment-by; clips = λ (g : ℕ → ℤ). refl; sized = segment-length }
