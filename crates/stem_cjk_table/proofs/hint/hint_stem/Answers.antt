-- `stem_cjk_table::hint::hint_stem` meets its contract.
use Rattle.place.proofs.Reach.{in_table, units-read}
use Rattle.stems_cjk.specs.Cjk.{hinted_stem}
use Rattle.stems_cjk.proofs.Moves.{start-read, width_read}
use borrow.Author.Rules.{rules}
use Rattle.stem_cjk_table.proofs.hint.hint_stem.Goals as goal

pub place_stem-requires : goal.place_stem-requires
place_stem-requires c = record {
  lower_lt_most_edges = (in_table _ _ _ c.requires.axis_within.0 c.requires.axis_within.1, in_table _ _ _ c.requires.axis_within.0 c.requires.axis_within.2);
  between = rw (start-read _ c.requires.between.0, width_read _ c.requires.between.1) c.requires.between;
}

pub returns-then-edge1-other : goal.returns-then-edge1-other
unfolding hinted_stem
returns-then-edge1-other c = let a = (c.requires.axis_within.0.edge _ c.requires.axis_within.1).opos in
    let b = (c.requires.axis_within.0.edge _ c.requires.axis_within.2).opos in
    rw (rw (units-read _ a, units-read _ b) at c.if-edge1-other.true) (rw (start-read _ c.requires.between.0, width_read _ c.requires.between.1) at c.place_stem.ensures)

pub place_stem-requires-2 : goal.place_stem-requires-2
place_stem-requires-2 c = record {
  lower_lt_most_edges = (in_table _ _ _ c.requires.axis_within.0 c.requires.axis_within.2, in_table _ _ _ c.requires.axis_within.0 c.requires.axis_within.1);
  between = rw (start-read _ c.requires.between.0, width_read _ c.requires.between.1) c.requires.between;
}

pub returns : goal.returns
unfolding hinted_stem
returns c = let a = (c.requires.axis_within.0.edge _ c.requires.axis_within.1).opos in
    let b = (c.requires.axis_within.0.edge _ c.requires.axis_within.2).opos in
    rw (rw (units-read _ a, units-read _ b) at c.if-edge1-other.false) (rw (start-read _ c.requires.between.0, width_read _ c.requires.between.1) at c.place_stem-2.ensures)
