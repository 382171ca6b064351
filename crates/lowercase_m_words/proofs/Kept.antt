-- Which words of the edges the m rule can change: positions, marks and flags of the edges that it moves; with a refusal none.
use mathlib.Core.Path.{refl}
use mathlib.Core.List.{List}
use Prim.Native.Nat.{ℕ}
use lib.IntN.{ℤ}
use Rattle.axis.specs.declared.kinds.Dimension.TheVariants as Dimensions
use Rattle.axis.specs.declared.kinds.Direction.TheVariants as Directions
use Rattle.axis.specs.Changes.{position}
use Rattle.lowercase_m.specs.M.{mExtent}
use Rattle.lowercase_m.proofs.Changed as M
use Rattle.words.specs.Field.{group_of}
use Rattle.words_shape.specs.Shape.{is_in, choice}
use Rattle.words_call.specs.Lent.{edges_of}
use Rattle.words_call.specs.Kept.{KeptBut, of_edges, in_extent}
use Rattle.words_call.proofs.Kept.{edges-left}
use Rattle.words_call.proofs.Extents.{only-words}
use Rattle.lowercase_m_words.specs.Lent.{mHinted, MLent}

-- position, mark and flags of the third stem's edges, and positions and marks of its serifs
pub m-kept : (ws : List ℤ) (group : ℤ) {r : ℕ} {now : List ℤ} → MLent ws group r now
    → KeptBut (of_edges (in_extent (mExtent (edges_of ws).edges (edges_of ws).len))) ws now
m-kept ws group l =
    let axis = edges_of ws in
    edges-left (in_extent (mExtent axis.edges axis.len)) ws (is_in choice group) Dimensions.Horizontal Directions.None (mHinted ws group).axis l
    (λ e. only-words (mExtent axis.edges axis.len) axis _ (M.changed axis (group_of group) refl).only)
