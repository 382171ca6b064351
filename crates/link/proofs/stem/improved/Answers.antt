-- `link::stem::improved` meets its contract: by its test.
use mathlib.Core.Path.{sym, ◌∙◌}
use Rattle.link.specs.Pairs as P
use Rattle.link.proofs.stem.improved.Goals as goal

pub check_seg-requires : goal.check_seg-requires
check_seg-requires c = c.requires

pub returns-then-check_seg : goal.returns-then-check_seg
unfolding P.improved_by
returns-then-check_seg c =
    let check-seg = c in
    rw (sym check-seg.check_seg.ensures ∙ c.if-check_seg.true) c.joined.ensures

pub returns : goal.returns
unfolding P.improved_by
returns c = rw (sym c.check_seg.ensures ∙ c.if-check_seg.false)
