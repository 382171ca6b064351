-- `weak_drag::drag::lend_drag` meets its contract.
use borrow.Author.Rules.{rules}
use Rattle.weak_drag.proofs.Drags.{dragged-as}
use Rattle.weak_drag.proofs.drag.lend_drag.Goals as goal

pub returns : goal.returns
returns c = let a = c.args in
    dragged-as a.originals.now a.currents.now a.touched.now a.ends.now _ _ _ _ c.index_of.ensures c.drag_point.ensures
