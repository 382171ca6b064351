-- Edges as words.
use mathlib.Core.Path.{◌≡◌, refl}
use Prim.Native.Nat.{ℕ}
use lib.ListN.{length}
use Rattle.axis.specs.declared.edge.Edge.{Edge}
use Rattle.axis.specs.declared.edge.Axis.{Axis}
use Rattle.words.specs.Edge.{edge_size, edge_words, edge_words_at}

-- the words of an edge
pub edge-length : (e : Edge) → length (edge_words e) ≡ edge_size
unfolding edge_words
edge-length e = refl

pub edge-lengths : (axis : Axis) (i : ℕ) → length (edge_words_at axis i) ≡ edge_size
edge-lengths axis i = edge-length _
