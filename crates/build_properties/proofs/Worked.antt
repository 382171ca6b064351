-- Cases of a visit worked out by hand: one table, one statement.
use Rattle.std.specs.Prelude.{None, Some}
use mathlib.Core.Path.{◌≡◌, refl}
use mathlib.Core.Bool.{Bool, true, false}
use mathlib.Core.List.{List, [], ◌∷◌, ◌++◌, map}
use Prim.Native.Nat.{ℕ, ◌-◌}
use lib.IntN.{pos}
use lib.ListN.{length, replicate}
use Rattle.axis.specs.declared.kinds.Dimension.TheVariants.{Vertical}
use Rattle.axis.specs.declared.kinds.Direction.TheVariants.{Right}
use Rattle.axis.specs.Link.{Link}
use Rattle.axis.specs.declared.kinds.Mark.TheVariants.{Nothing}
use Rattle.axis.specs.declared.edge.Axis.{Axis}
use Rattle.axis.specs.declared.edge.Edge.{Edge}
use Rattle.axis.specs.declared.flags.Flags.{Flags}
use Rattle.axis.specs.declared.segment.Segment.{Segment}
use Rattle.axis.specs.declared.segment.Segments.{Segments}
use Rattle.axis.specs.Edge.{empty_edge, fresh_edge, changed}
use Rattle.axis.specs.Flags.{normal}
use Rattle.axis.specs.Limits.{most_edges, most_segments}
use Rattle.axis.specs.Ring.{walk}
use Rattle.axis.specs.Segment.{empty_segment}
use Rattle.build_properties.specs.Properties as P

-- what the definition gives, and what it should
pub record Row : Type 0 where
  pub gives : Axis
  pub value : Axis

infix 3 ◌is◌
abbrev ◌is◌ : Axis → Axis → Row
g is v = record { gives = g; value = v }

-- flags of which one may be set
abbrev flags : Bool → Bool → Flags
flags round serif = record { round = round; serif = serif; done = false; neutral = false }

-- an edge at a position, of the segments from the first to the last, with these flags, link and serif
abbrev edge : ℕ → ℕ → ℕ → Flags → Link → Link → Edge
edge p first last f link serif = changed (fresh_edge (pos p) (pos p) Right first) (pos p) Nothing f None link serif last

-- such an edge as building makes it
abbrev bare : ℕ → ℕ → ℕ → Edge
bare p first last = edge p first last normal None None

-- a segment at a position, round or not, with this link and serif, of an edge, with the next one there
abbrev segment : ℕ → Bool → Link → Link → Link → Link → Segment
segment p round link serif of next = record {
  flags = flags round false;
  dir = Right;
  pos = pos p;
  delta = pos 0;
  min_coord = pos 0;
  max_coord = pos 0;
  height = pos 0;
  score = pos 0;
  len = pos 0;
  link = link;
  serif = serif;
  first = 0;
  last = 0;
  edge = of;
  next = next;
}

-- the tables of a few
abbrev axis : List Edge → Axis
axis l = record { dim = Vertical; major_dir = Right; edges = l ++ replicate (most_edges - length l) empty_edge; len = length l }

abbrev table : List Segment → Segments
table l = record { segments = l ++ replicate (most_segments - length l) empty_segment; len = length l }

-- the properties of these edges, by these segments
abbrev call : List Edge → List Segment → Axis
call es l = P.edge_properties (axis es) (table l)

unfoldable pub rows : List Row
rows =
    -- edge 0 is a serif of edge 1, whose own visit resets the flag again
    (call (bare 0 0 0 ∷ bare 100 1 1 ∷ []) (segment 0 false None (Some 1) (Some 0) (Some 0) ∷ segment 100 false None None (Some 1) (Some 1) ∷ [])
    is axis (edge 0 0 0 normal None (Some 1) ∷ bare 100 1 1 ∷ [])) ∷
    -- edge 1 is a serif of edge 0, which was visited before and keeps the flag
    (call (bare 0 0 0 ∷ bare 100 1 1 ∷ []) (segment 0 false None None (Some 0) (Some 0) ∷ segment 100 false None (Some 0) (Some 1) (Some 1) ∷ [])
    is axis (edge 0 0 0 (flags false true) None None ∷ edge 100 1 1 normal None (Some 0) ∷ [])) ∷
    -- flags from before the visit go
    (call (edge 0 0 0 (flags true true) None None ∷ []) (segment 0 false None None (Some 0) (Some 0) ∷ [])
    is axis (bare 0 0 0 ∷ [])) ∷
    -- edge 1 is a serif of edge 0 by its first segment, and linked to it by its second: the serif is dropped, the flag stays
    (call (bare 0 0 0 ∷ bare 100 1 2 ∷ []) (segment 0 false None None (Some 0) (Some 0) ∷ segment 100 false None (Some 0) (Some 1) (Some 2)
    ∷ segment 100 false (Some 0) None (Some 1) (Some 1) ∷ [])
    is axis (edge 0 0 0 (flags false true) None None ∷ edge 100 1 2 normal (Some 0) None ∷ [])) ∷
    -- edge 0 is linked to edge 1, 100 away; its second segment has a link that is 35 away, and takes it to edge 2
    (call (bare 0 0 1 ∷ bare 100 2 2 ∷ bare 40 3 3 ∷ []) (segment 0 false (Some 2) None (Some 0) (Some 1) ∷ segment 5 false (Some 3) None (Some 0) (Some 0)
    ∷ segment 100 false None None (Some 1) (Some 2) ∷ segment 40 false None None (Some 2) (Some 3) ∷ [])
    is axis (edge 0 0 1 normal (Some 2) None ∷ bare 100 2 2 ∷ bare 40 3 3 ∷ [])) ∷
    -- a link that is 100 away too does not
    (call (bare 0 0 1 ∷ bare 100 2 2 ∷ bare 90 3 3 ∷ []) (segment 0 false (Some 2) None (Some 0) (Some 1) ∷ segment 0 false (Some 3) None (Some 0) (Some 0)
    ∷ segment 100 false None None (Some 1) (Some 2) ∷ segment 100 false None None (Some 2) (Some 3) ∷ [])
    is axis (edge 0 0 1 normal (Some 1) None ∷ bare 100 2 2 ∷ bare 90 3 3 ∷ [])) ∷
    -- as with the links, so with the serifs: edge 0 leaves edge 1 for edge 2, and both lose the flag
    (call (bare 0 0 1 ∷ bare 100 2 2 ∷ bare 40 3 3 ∷ []) (segment 0 false None (Some 2) (Some 0) (Some 1) ∷ segment 5 false None (Some 3) (Some 0) (Some 0)
    ∷ segment 100 false None None (Some 1) (Some 2) ∷ segment 40 false None None (Some 2) (Some 3) ∷ [])
    is axis (edge 0 0 1 normal None (Some 2) ∷ bare 100 2 2 ∷ bare 40 3 3 ∷ [])) ∷
    -- a serif of the own edge is none, and the link counts
    (call (bare 0 0 0 ∷ bare 100 1 1 ∷ []) (segment 0 false (Some 1) (Some 0) (Some 0) (Some 0) ∷ segment 100 false None None (Some 1) (Some 1) ∷ [])
    is axis (edge 0 0 0 normal (Some 1) None ∷ bare 100 1 1 ∷ [])) ∷
    -- neither a serif nor a link counts whose segment has no edge
    (call (bare 0 0 0 ∷ []) (segment 0 false (Some 1) (Some 1) (Some 0) (Some 0) ∷ segment 100 false None None None None ∷ [])
    is axis (bare 0 0 0 ∷ [])) ∷
    -- two segments are round and two are straight
    (call (bare 0 0 3 ∷ []) (segment 0 true None None (Some 0) (Some 1) ∷ segment 0 false None None (Some 0) (Some 2) ∷ segment 0 true None None (Some 0) (Some 3)
    ∷ segment 0 false None None (Some 0) (Some 0) ∷ [])
    is axis (edge 0 0 3 (flags true false) None None ∷ [])) ∷
    -- one is round and two are straight
    (call (bare 0 0 2 ∷ []) (segment 0 true None None (Some 0) (Some 1) ∷ segment 0 false None None (Some 0) (Some 2) ∷ segment 0 false None None (Some 0) (Some 0) ∷ [])
    is axis (bare 0 0 2 ∷ [])) ∷
    -- the segment behind one without a next is the last: the straight one between is passed over
    (call (bare 0 0 2 ∷ []) (segment 0 true None None (Some 0) None ∷ segment 0 false None None (Some 0) (Some 2) ∷ segment 0 false None None (Some 0) (Some 0) ∷ [])
    is axis (edge 0 0 2 (flags true false) None None ∷ [])) ∷
    []

-- each row holds
pub worked : map (λ (r : Row). r.gives) rows ≡ map (λ (r : Row). r.value) rows
unfolding walk P.join_of P.join_at P.chosen P.join_by P.member P.visits P.roundness P.straightness P.with_properties P.visit P.edges P.edge_properties rows
worked = refl
