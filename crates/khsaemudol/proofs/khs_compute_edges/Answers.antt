-- `khsaemudol::khs_compute_edges` meets its contract.
use Rattle.signed.proofs.Signed.{is}
use Rattle.khsaemudol.proofs.khs_compute_edges.Goals as goal

pub returns : goal.returns
returns c = rw c.answer_of.ensures (simp (
  is c.ranges.dim,
  is c.ranges.major_dir,
  is c.ranges.group,
  is c.ranges.top_to_bottom,
  is c.ranges.scale,
  is c.ranges.distance,
  is c.ranges.length,
  is c.ranges.width,
) at c.lend_building.ensures)
