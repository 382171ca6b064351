-- `khsaemudol_c::khs_compute_edges` meets its contract.
use borrow.Author.Rules.{rules}
use Rattle.signed.proofs.Signed.{is}
use Rattle.khsaemudol_c.proofs.khs_compute_edges.Goals as goal

pub returns : goal.returns
returns c =
    let s = c in
    simp (
      is s.ranges.dim,
      is s.ranges.major_dir,
      is s.ranges.group,
      is s.ranges.top_to_bottom,
      is s.ranges.scale,
      is s.ranges.distance,
      is s.ranges.length,
      is s.ranges.width,
    ) at c.khs_compute_edges.ensures
