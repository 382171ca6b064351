-- The order of edges behind remaining edges: what is needed of edges before, and what decides.
use Rattle.std.specs.Prelude.{None, Some}
use Rattle.std.specs.Prelude.{◌≡◌, true, false, ◌⊎◌, ℕ, ◌+◌, ◌-◌, ◌≤◌, ◌<◌, ℤ, length, ◌≤ℤ◌}
use Rattle.axis.specs.declared.kinds.Group.TheVariants.{Default}
use Rattle.axis.specs.declared.edge.Axis.{Axis}
use Rattle.axis.specs.Edge.{edge_at}
use Rattle.gaps.specs.Gaps.{is_done, EdgesRise}
use Rattle.remaining.specs.Plan.{is_near, spaced_pos}
use Rattle.remaining.specs.Remaining.{align_remaining_edges}

-- ---- order
-- edges are in order: along the table positions do not fall
pub record InOrder (axis : Axis) : Type 0 where
  pub at : (i j : ℕ) → i < j → j < axis.len → (edge_at axis i).pos ≤ℤ (edge_at axis j).pos

-- done edges are
pub record DoneInOrder (axis : Axis) : Type 0 where
  pub at : (i j : ℕ) → i < j → j < axis.len → is_done axis i ≡ true → is_done axis j ≡ true → (edge_at axis i).pos ≤ℤ (edge_at axis j).pos

-- ---- the first and the last done edge
pub record FirstDone (axis : Axis) (i : ℕ) : Type 0 where
  pub there : i < axis.len
  pub done : is_done axis i ≡ true
  pub earlier : (j : ℕ) → j < i → is_done axis j ≡ false

pub record LastDone (axis : Axis) (i : ℕ) : Type 0 where
  pub there : i < axis.len
  pub done : is_done axis i ≡ true
  pub later : (j : ℕ) → i < j → j < axis.len → is_done axis j ≡ false

-- ---- Latin
-- no edge that is not done has a serif nearer than 80
pub record NoneNear (axis : Axis) : Type 0 where
  pub at : (i k : ℕ) → i < axis.len → is_done axis i ≡ false → (edge_at axis i).serif ≡ Some k → is_near (edge_at axis i) (edge_at axis k) ≡ false

-- what is needed before: a place for each edge, original positions that do not fall, done edges in order, the anchor a done, no near serif; and which done edges are the first and the last
pub record LatinReady (axis : Axis) (a first last : ℕ) : Type 0 where
  pub places : axis.len ≤ length axis.edges
  pub rise : EdgesRise axis
  pub in_order : DoneInOrder axis
  pub anchor : is_done axis a ≡ true
  pub none_near : NoneNear axis
  pub first_done : FirstDone axis first
  pub last_done : LastDone axis last

-- the place of edge i by the anchor a
abbrev pub place_by : Axis → ℕ → ℕ → ℤ
place_by axis a i = spaced_pos (edge_at axis a).pos (edge_at axis a).opos (edge_at axis i).opos

-- edge 0 is done, or its place by the anchor is not above the first done edge
abbrev pub FitsBelow : Axis → ℕ → ℕ → Type 0
FitsBelow axis a first = (is_done axis 0 ≡ true) ⊎ (place_by axis a 0 ≤ℤ (edge_at axis first).pos)

-- the last edge is done, or the place by the anchor of the edge behind the last done one is not below that
abbrev pub FitsAbove : Axis → ℕ → ℕ → Type 0
FitsAbove axis a last = (is_done axis (axis.len - 1) ≡ true) ⊎ ((edge_at axis last).pos ≤ℤ place_by axis a (last + 1))

-- shown of a call that answers 0: all edges are in order behind it exactly where both hold; but where the edge behind the last done one has a link, it may be held to that, and the second
-- is not needed
pub record LatinOrder (axis : Axis) (count a first last : ℕ) : Type 0 where
  pub in_order : FitsBelow axis a first → FitsAbove axis a last → InOrder (align_remaining_edges axis Default count (Some a)).axis
  pub fits_below : InOrder (align_remaining_edges axis Default count (Some a)).axis → FitsBelow axis a first
  pub fits_above : (edge_at axis (last + 1)).link ≡ None → InOrder (align_remaining_edges axis Default count (Some a)).axis → FitsAbove axis a last

-- ---- CJK
-- font positions do not fall
pub record FontRise (axis : Axis) : Type 0 where
  pub at : (i j : ℕ) → i < j → j < axis.len → (edge_at axis i).fpos ≤ℤ (edge_at axis j).fpos

-- what is needed before: a place for each edge, original and font positions that do not fall, done edges in order, some edge k of them, and no serif of an edge that is not done,
-- at any distance
pub record CjkReady (axis : Axis) (k : ℕ) : Type 0 where
  pub places : axis.len ≤ length axis.edges
  pub rise : EdgesRise axis
  pub font_rise : FontRise axis
  pub in_order : DoneInOrder axis
  pub there : k < axis.len
  pub done : is_done axis k ≡ true
  pub no_serif : (i : ℕ) → i < axis.len → is_done axis i ≡ false → (edge_at axis i).serif ≡ None
