-- `build_properties_words::visit::visit_in` meets its contract: each turn is the visit of one segment.
use mathlib.Core.Path.{ap, ◌∙◌}
use mathlib.Core.Logic.{⊎_elim}
use native.Mathlib.Omega.{arith}
use lib.ListN.{length}
use mir.Syntax.{w32}
use Rattle.axis.specs.Limits.{most_segments}
use Rattle.axis.specs.Ring.{next_of, walk}
use Rattle.build_properties.proofs.Turns.{Counted}
use Rattle.words.specs.Field.{index_of}
use Rattle.words.specs.Segment.{flat_segments}
use Rattle.words.proofs.Fields.{kept}
use Rattle.build_properties_words.proofs.Rings.{
  counted-round,
  counted-straight,
  Going,
  going-starts,
  going-inside,
  going-short,
  going-round,
  going_less,
  going_on,
  going-joined,
  going-ends,
}
use borrow.Author.Rules.{rules}
use Rattle.build_properties_words.proofs.visit.visit_in.Given as goal

abbrev pub invariant-loop-roundness : goal.invariant-loop-roundness
invariant-loop-roundness l = Going l.segments l.k l.last l.initial.ix l.initial.edges l.edges l.ix l.roundness l.straightness

abbrev pub decreases-loop-roundness : goal.decreases-loop-roundness
decreases-loop-roundness l = length (walk (next_of (flat_segments l.segments) l.last) l.last most_segments l.ix)
