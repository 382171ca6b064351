-- `weak_catalogue::align::align_outlines` meets its contract: every turn does the outline that comes next.
use Rattle.weak_catalogue.proofs.Outlines as laws
use Rattle.weak_catalogue.proofs.align.align_outlines.Given as goal

abbrev pub invariant-loop-j : goal.invariant-loop-j
invariant-loop-j l = laws.Sofar l.originals l.initial.currents l.touched l.ends l.point_counts l.contour_counts l.initial.answers l.currents l.answers l.point l.contour l.j
