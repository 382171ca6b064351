-- The CJK stem (document 01, module 5): where its two edges come to lie.
use Rattle.std.specs.Prelude.{Bool, cond, ◌&&◌, ◌||◌, List, ℕ, leb, ℤ, pos, neg_ℤ, nat_abs, ◌+ℤ◌, ◌-ℤ◌}
use Rattle.std.specs.Int.Signed.{lt_z, le_z, quot_z, rem_z}
use Rattle.signed.specs.Equality.{eq_z}
use Rattle.fixed.specs.Pixel.{pix_floor}
use Rattle.fixed.specs.declared.width.WidthRule.{WidthRule}
use Rattle.fixed.specs.Width.{fitted_width}
use Rattle.axis.specs.declared.kinds.Dimension.{Dimension}
use Rattle.axis.specs.declared.kinds.Dimension.TheVariants.{Horizontal, Vertical}
use Rattle.axis.specs.declared.kinds.Mark.TheVariants as Marks
use Rattle.axis.specs.declared.edge.Edge.{Edge}
use Rattle.axis.specs.declared.edge.Axis.{Axis}
use Rattle.axis.specs.Edge.{edge_at, put_edge, placed}
pub use Rattle.place.specs.Steps.{most_width}
use Rattle.stems_cjk.specs.declared.stem.Stem.{Stem}

-- ---- the gap
-- 9 in a vertical axis, 15 in a horizontal one
unfoldable pub max_gap : Dimension → ℤ
max_gap Horizontal = pos 15
max_gap Vertical = pos 9

-- a third of it where not both edges are round, fraction dropped; none with STEM_ADJUST
unfoldable pub gap_of : Bool → Dimension → Bool → ℤ
gap_of adjust dim round = cond adjust (pos 0) (cond round (max_gap dim) (quot_z (max_gap dim) (pos 3)))

-- ---- the move, by how far the stem's edges are above a pixel edge, d1 and d2, its width w, and the threshold t, which is 64 less the gap
-- what a move can be
abbrev pub most_move : ℕ
most_move = 128

-- how far a position is above the pixel edge below it, 0 to 63
unfoldable pub pixel_offset : ℤ → ℤ
pixel_offset z = z -ℤ pix_floor z

-- a stem within the threshold: where a pixel edge lies inside, its first edge goes up to it, or its second edge down to it where that is nearer
unfoldable pub narrow_delta : ℤ → ℤ → ℤ → ℤ
narrow_delta d1 d2 w = cond (lt_z d2 w) (cond (le_z (pos 64 -ℤ d1) d2) (pos 64 -ℤ d1) (neg_ℤ d2)) (pos 0)

-- an edge of a stem above the threshold is within the gap of a pixel edge, below it or above it
unfoldable pub is_blocked : ℤ → ℤ → ℤ → Bool
is_blocked d1 d2 t = lt_z t (pos 64) && (le_z t d1 || (le_z t (pos 64 -ℤ d1) || (le_z t d2 || le_z t (pos 64 -ℤ d2))))

-- down by one distance, or up by the other where that is less
abbrev pub down_or_up : ℤ → ℤ → ℤ
down_or_up down up = cond (le_z down up) (neg_ℤ down) up

-- the smaller move, the first on a tie
abbrev pub smaller_of : ℤ → ℤ → ℤ
smaller_of a b = cond (leb (nat_abs a) (nat_abs b)) a b

-- of the first edge's move and the second's the shorter one
unfoldable pub shortest_move : ℤ → ℤ → ℤ → ℤ → ℤ
shortest_move d1 d2 offset t = smaller_of (down_or_up (t -ℤ (pos 64 -ℤ d1)) ((pos 64 -ℤ d1) -ℤ offset)) (down_or_up (d2 -ℤ offset) (t -ℤ d2))

-- a stem above the threshold: where its width leaves less than half a pixel, that is what the moves allow for, and no move where an edge is within it;
-- else the gap is
unfoldable pub wide_delta : ℤ → ℤ → ℤ → ℤ → ℤ
wide_delta d1 d2 w t =
    cond (lt_z (rem_z w (pos 64)) (pos 32))
    (cond (le_z (pos 64 -ℤ d1) (rem_z w (pos 64)) || le_z d2 (rem_z w (pos 64))) (pos 0) (shortest_move d1 d2 (rem_z w (pos 64)) t))
    (shortest_move d1 d2 (pos 64 -ℤ t) t)

-- no move where an edge is on a pixel edge already
unfoldable pub offsets_delta : ℤ → ℤ → ℤ → ℤ → ℤ
offsets_delta d1 d2 w t =
    cond (eq_z d1 (pos 0) || eq_z d2 (pos 0))
    (pos 0)
    (cond (le_z w t) (narrow_delta d1 d2 w) (cond (is_blocked d1 d2 t) (pos 0) (wide_delta d1 d2 w t)))

-- ---- where the stem comes to lie
-- what the start of a stem can be, before and after it is moved
abbrev pub most_cjk_start : ℕ
most_cjk_start = 147589

-- both edges are round
abbrev pub both_round : Edge → Edge → Bool
both_round e e2 = e.flags.round && e2.flags.round

-- half the width before the centre, which is halfway between the original positions and shifted by the passed delta d; both halves drop their fraction
unfoldable pub start_of : ℤ → ℤ → ℤ → ℤ → ℤ
start_of o1 o2 w d = (quot_z (o1 +ℤ o2) (pos 2) +ℤ d) -ℤ quot_z w (pos 2)

-- at most 14 either way, without STEM_ADJUST
unfoldable pub clamped : Bool → ℤ → ℤ
clamped adjust d = cond adjust d (cond (lt_z d (neg_ℤ (pos 14))) (neg_ℤ (pos 14)) (cond (lt_z (pos 14) d) (pos 14) d))

-- what the stem from p to p + w is moved by
unfoldable pub delta_of : Bool → ℤ → ℤ → ℤ → ℤ
delta_of adjust p w t = clamped adjust (offsets_delta (pixel_offset p) (pixel_offset (p +ℤ w)) w t)

-- the stem between two original positions
unfoldable pub stem_at : Bool → ℤ → ℤ → ℤ → ℤ → ℤ → Stem
stem_at adjust t o1 o2 w d = record {
  pos = start_of o1 o2 w d +ℤ delta_of adjust (start_of o1 o2 w d) w t;
  width = w;
  delta = delta_of adjust (start_of o1 o2 w d) w t;
}

-- the stem of two edges, of its fitted width
unfoldable pub stem_of : Dimension → Bool → WidthRule → List ℤ → Edge → Edge → ℤ → Stem
stem_of dim adjust rule xs e e2 d =
    stem_at adjust (pos 64 -ℤ gap_of adjust dim (both_round e e2)) e.opos e2.opos (fitted_width rule xs (e2.opos -ℤ e.opos)) d

-- ---- its two edges
-- an edge at the position that the stem gives it
abbrev pub placed_at : Axis → ℕ → ℤ → Axis
placed_at axis i p = put_edge axis i (placed (edge_at axis i) p Marks.Stem)

-- the lower edge of a stem, then the upper one
unfoldable pub placed_stem : Axis → ℕ → ℕ → ℤ → ℤ → Axis
placed_stem axis lower upper p w = placed_at (placed_at axis lower p) upper (p +ℤ w)

-- the first edge is the lower one where its original position is the smaller, else the second is
unfoldable pub hinted_stem : Axis → ℕ → ℕ → Stem → Axis
hinted_stem axis i j s =
    cond (lt_z (edge_at axis i).opos (edge_at axis j).opos)
    (placed_stem axis i j s.pos s.width)
    (placed_stem axis j i s.pos s.width)
