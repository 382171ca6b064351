-- The words of request #108: in the joined call the stem pass never finds an edge whose link has a zone.
use Rattle.std.specs.Prelude.{List, ℕ, ◌≤◌, ℤ}
use Rattle.axis.specs.Link.{Link}
use Rattle.axis.specs.declared.edge.Axis.{Axis}
use Rattle.axis.specs.Visits.{visits}
use Rattle.zones.specs.Settled.{Settled}
use Rattle.stems.specs.declared.kinds.Mode.{Mode}
use Rattle.stems.specs.Stems.{begun, visit}

-- however many edges were visited, each edge is done, or has no link, or its link has no zone
pub record Unreached (m : Mode) (xs : List ℤ) (anchor : Link) (axis : Axis) : Type 0 where
  pub settled : (n : ℕ) → n ≤ axis.len → Settled axis.len (visits (visit m xs) n 0 (begun anchor axis)).axis
