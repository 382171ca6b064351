-- What the steps of the rounds promise each other.
use Rattle.signed.specs.Range.{Between}
use Rattle.axis.specs.Limits.{most_score}
use Rattle.link.specs.declared.gap.Gap.{Gap}

-- the numbers of a gap are differences of coordinates of 16 bits: within the table, but for their sign
pub record Reach (g : Gap) : Type 0 where
  pub dist : Between most_score most_score g.dist
  pub len : Between most_score most_score g.len
