-- The steps of the properties of edges, as what they make of an axis, and what they require of the words of edges.
use Rattle.std.specs.Prelude.{List, ℕ, ◌<◌, ℤ}
use Rattle.axis.specs.declared.edge.Axis.{Axis}
use Rattle.axis.specs.declared.segment.Segments.{Segments}
use Rattle.axis.specs.Edge.{edge_at, put_edge}
use Rattle.build_properties.specs.Properties.{chosen, put_serif, put_link, with_properties, edge_properties}
use Rattle.build_properties.specs.Steps.{EdgeBelow}
use Rattle.words.specs.Edge.{edges_in}
use Rattle.words_call.specs.Lent.{edges_of}
use Rattle.words_edge.specs.Whole.{Whole}

-- words of edges, of which edge k is one; its link and its serif are edges
pub record Joined (ws : List ℤ) (k : ℕ) : Type 0 where
  pub whole : Whole ws
  pub inside : k < edges_in ws
  pub edge : EdgeBelow (edges_in ws) (edge_at (edges_of ws) k)

-- edge k joined to edge q, which a segment so far from another asks for, or to the one that it has: as a serif, and as its link
abbrev pub taking_serif : ℕ → ℤ → ℕ → Axis → Axis
taking_serif k delta q axis = put_serif k (chosen axis (edge_at axis k) delta q (edge_at axis k).serif) axis

abbrev pub taking_link : ℕ → ℤ → ℕ → Axis → Axis
taking_link k delta q axis = put_link k (chosen axis (edge_at axis k) delta q (edge_at axis k).link) axis

-- the end of its visit by so many round and straight segments
abbrev pub ending : ℕ → ℕ → ℕ → Axis → Axis
ending k round straight axis = put_edge axis k (with_properties round straight (edge_at axis k))

-- all edges
abbrev pub properties_of : Segments → Axis → Axis
properties_of t axis = edge_properties axis t
