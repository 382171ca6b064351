-- The steps of the pass over blue zones, as what they make of an axis, and the pass.
use Rattle.std.specs.Prelude.{◌≡◌, Bool, List, ℕ, ℤ, length}
use Rattle.fixed.specs.declared.width.WidthRule.{WidthRule}
use Rattle.axis.specs.Link.{Link}
use Rattle.axis.specs.declared.kinds.Group.{Group}
use Rattle.axis.specs.declared.kinds.Dimension.{Dimension}
use Rattle.axis.specs.declared.edge.Axis.{Axis}
use Rattle.zones.specs.Zones.{on_zone}
use Rattle.zones.specs.Steps.{thin_at, thin_both, link_at}
use Rattle.zones.specs.Pass.{anchored, blues_of}
use Rattle.zones.specs.Call.{blues_where}
use Rattle.words_edge.specs.Whole.{Whole, axis_in}

-- edge i without its zone, where that is skipped
abbrev pub thinning : ℕ → Bool → Axis → Axis
thinning i skip axis = thin_at axis i skip

-- of edge i and its link k, one may lose its zone
abbrev pub skipping : ℕ → ℕ → Axis → Axis
skipping i k axis = thin_both axis i k

-- edge i on its zone, found while the anchor is this
abbrev pub zoning : Link → ℕ → ℤ → Axis → Axis
zoning anchor i z axis = on_zone axis anchor i z

-- edge `two` aligned to edge `one`
abbrev pub linking : WidthRule → List ℤ → ℕ → ℕ → Axis → Axis
linking rule xs one two axis = link_at rule xs axis one two

-- the words and the anchor behind the pass: still the words of their edges, as many, and on every dimension what the visits come to
pub record Zoned (rule : WidthRule) (xs : List ℤ) (r : Link) (ws ws' : List ℤ) : Type 0 where
  pub whole : Whole ws'
  pub long : length ws' ≡ length ws
  pub pass : (d : Dimension) → anchored (axis_in ws' d) r 0 ≡ blues_of rule xs (axis_in ws d)

-- the same where the group has zones on a dimension, on that dimension
pub record ZonedWhere (dim : Dimension) (group : Group) (rule : WidthRule) (xs : List ℤ) (r : Link) (ws ws' : List ℤ) : Type 0 where
  pub whole : Whole ws'
  pub long : length ws' ≡ length ws
  pub pass : anchored (axis_in ws' dim) r 0 ≡ blues_where (axis_in ws dim) group rule xs
