-- `khsaemudol_c::khs_align_stem_edges` meets its contract.
use borrow.Author.Rules.{rules}
use Rattle.signed.proofs.Signed.{is}
use Rattle.khsaemudol_c.proofs.khs_align_stem_edges.Goals as goal

pub returns : goal.returns
returns c =
    let s = c in
    simp (is s.ranges.dim, is s.ranges.group, is s.ranges.stem_adjust, is s.ranges.top_to_bottom, is s.ranges.anchor, is s.ranges.rule)
    at c.khs_align_stem_edges.ensures
