-- `khsaemudol::khs_align_edges_to_blues` meets its contract.
use Rattle.signed.proofs.Signed.{is}
use Rattle.khsaemudol.proofs.khs_align_edges_to_blues.Goals as goal

pub returns : goal.returns
returns c = rw c.answer_of.ensures (rw (is c.ranges.dim, is c.ranges.group, is c.ranges.rule) at c.lend_zones.ensures)
