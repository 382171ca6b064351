-- `weak_known::align::align_lone` meets its contract.
use borrow.Author.Rules.{rules}
use native.Mathlib.Omega.{arith}
use Rattle.weak_known.proofs.Aligning.{lone-still, lone-low, lone-shift}
use Rattle.weak_known.proofs.align.align_lone.Goals as goal

pub returns-then-e-p : goal.returns-then-e-p
returns-then-e-p c = lone-still _ _ _ _ _ _ (omega arith) c.first_touched-p.ensures (omega arith)

pub iup_shift-requires : goal.iup_shift-requires
iup_shift-requires c = let a = c.args in
    record {
      currents_len = (c.requires.currents_len.0, c.requires.currents_len.2, c.requires.currents_len.3, omega arith);
      coordinates = (
        c.requires.coordinates.0,
        c.requires.coordinates.1 _ (lone-low a.originals.now a.currents.now a.touched.now a.s a.e _ (omega arith)
            c.first_touched-p.ensures (omega arith)) (omega arith),
      );
    }

pub returns : goal.returns
returns c = lone-shift _ _ _ _ _ _ (omega arith) c.first_touched-p.ensures (omega arith) c.requires.coordinates.2 _ c.iup_shift.ensures
