-- Edges worked out by hand.
use Rattle.std.specs.Prelude.{None, Some}
use mathlib.Core.Path.{◌≡◌, refl}
use mathlib.Core.Bool.{Bool, true, false}
use mathlib.Core.List.{List, [], ◌∷◌}
use Prim.Native.Nat.{ℕ}
use lib.IntN.{pos}
use lib.ListN.{length}
use Rattle.axis.specs.declared.kinds.Dimension.TheVariants as Dimensions
use Rattle.axis.specs.declared.kinds.Direction.{Direction}
use Rattle.axis.specs.declared.kinds.Direction.TheVariants as Directions
use Rattle.axis.specs.Link.{Link}
use Rattle.axis.specs.declared.segment.Segment.{Segment}
use Rattle.axis.specs.declared.segment.Segments.{Segments}
use Rattle.axis.specs.Direction.{same}
use Rattle.axis.specs.Flags.{normal}
use Rattle.build_join.specs.declared.rules.Rules.{Rules}
use Rattle.build_join.specs.Joining.{
  passed_over,
  skips,
  fits,
  fits_in,
  links_near,
  agrees,
  stops_behind,
  settle,
  group,
  start,
  seek,
  may_join,
  behind,
  place_of,
  create,
  join_or_create,
  visit,
  after,
  begun,
}
use Rattle.build.specs.Building.{last_state}

-- ---- groups of segments
abbrev segment : ℕ → Direction → Link → Segment
segment p dir link = record {
  flags = normal;
  dir = dir;
  pos = pos p;
  delta = pos 0;
  min_coord = pos 0;
  max_coord = pos 0;
  height = pos 100;
  score = pos 0;
  len = pos 0;
  link = link;
  serif = None;
  first = 0;
  last = 0;
  edge = None;
  next = None;
}

abbrev table : List Segment → Segments
table ss = record { segments = ss; len = length ss }

-- a segment joins what is nearer than 10; up is the major direction
abbrev rules : Bool → Rules
rules cjk = record { dim = Dimensions.Vertical; major_dir = Directions.Up; cjk = cjk; scale = pos 65536; near = 10; length = pos 64; width = pos 32 }

-- the members of the edges 0 and 1
abbrev pairs : List Segment → Bool → List (List ℕ)
pairs ss cjk = group (last_state (table ss) (rules cjk)) 0 ∷ group (last_state (table ss) (rules cjk)) 1 ∷ []

abbrev up : ℕ → Segment
up p = segment p Directions.Up None

abbrev down : ℕ → Segment
down p = segment p Directions.Down None

-- edges stand in the order of their positions, and a segment joins the first edge that is near
in_order : pairs (up 100 ∷ up 50 ∷ up 109 ∷ []) false ≡ (1 ∷ []) ∷ (0 ∷ 2 ∷ []) ∷ []
unfolding same passed_over skips fits fits_in stops_behind settle start seek may_join behind place_of create join_or_create visit after begun
in_order = refl

-- at one position the edge in the major direction is the second
major-second : pairs (up 50 ∷ down 50 ∷ []) false ≡ (1 ∷ []) ∷ (0 ∷ []) ∷ []
unfolding same passed_over skips fits fits_in stops_behind settle start seek may_join behind place_of create join_or_create visit after begun
major-second = refl

-- 10 away is not near
apart : pairs (up 100 ∷ up 110 ∷ []) false ≡ (0 ∷ []) ∷ (1 ∷ []) ∷ []
unfolding same passed_over skips fits fits_in stops_behind settle start seek may_join behind place_of create join_or_create visit after begun
apart = refl

-- between two edges Latin takes the first and CJK the nearest
latin-first : pairs (up 100 ∷ up 112 ∷ up 107 ∷ []) false ≡ (0 ∷ 2 ∷ []) ∷ (1 ∷ []) ∷ []
unfolding same passed_over skips fits fits_in stops_behind settle start seek may_join behind place_of create join_or_create visit after begun
latin-first = refl

cjk-nearest : pairs (up 100 ∷ up 112 ∷ up 107 ∷ []) true ≡ (0 ∷ []) ∷ (1 ∷ 2 ∷ []) ∷ []
unfolding same passed_over skips fits fits_in links_near agrees stops_behind settle start seek may_join behind place_of create join_or_create visit after begun
cjk-nearest = refl

-- one whose link is far from those of an edge's segments makes an edge of its own in CJK
links-apart : pairs (segment 100 Directions.Up (Some 2) ∷ segment 104 Directions.Up (Some 3) ∷ down 300 ∷ down 400 ∷ []) true ≡ (0 ∷ []) ∷ (1 ∷ []) ∷ []
unfolding same passed_over skips fits fits_in links_near agrees stops_behind settle start seek may_join behind place_of create join_or_create visit after begun
links-apart = refl

-- Latin's second loop finds an edge for a segment without direction
undirected : pairs (segment 103 Directions.None None ∷ up 100 ∷ []) false ≡ (1 ∷ 0 ∷ []) ∷ [] ∷ []
unfolding same passed_over skips fits fits_in stops_behind settle start seek may_join behind place_of create join_or_create visit after begun
undirected = refl
