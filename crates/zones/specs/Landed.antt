-- Where the pass puts edges: on a zone, or at a fitted width from an edge that is on one.
use Rattle.std.specs.Prelude.{◌≡◌, ◌⊎◌, ℕ, ◌+◌, ◌<◌}
use Rattle.signed.specs.Range.{Between}
use Rattle.axis.specs.declared.edge.Axis.{Axis}
use Rattle.axis.specs.declared.edge.Edge.{Edge}
use Rattle.axis.specs.Edge.{edge_at}
use Rattle.axis.specs.Limits.{most_units}
use Rattle.place.specs.Steps.{most_width}

-- how far from 0 that is
abbrev pub most_zoned : ℕ
most_zoned = most_units + most_width

-- the edge is where it was, or the pass has put it
pub record Landed (old new : Edge) : Type 0 where
  pub opos : new.opos ≡ old.opos
  pub pos : (new.pos ≡ old.pos) ⊎ Between most_zoned most_zoned new.pos

-- so it is for every edge
pub record AllLanded (old new : Axis) : Type 0 where
  pub len : new.len ≡ old.len
  pub edge : (k : ℕ) → k < old.len → Landed (edge_at old k) (edge_at new k)
