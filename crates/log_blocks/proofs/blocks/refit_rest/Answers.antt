-- `log_blocks::blocks::refit_rest` meets its contract.
use mathlib.Core.Path.{sym}
use lib.Seq.{length-take-le}
use Rattle.log_blocks.proofs.Onward.{rest-none, rest_some}
use Rattle.log_blocks.proofs.blocks.refit_rest.Goals as goal

pub returns-then-count-eq0 : goal.returns-then-count-eq0
returns-then-count-eq0 c = rest-none c.args.line.now c.args.count _ c.if-count-eq0.true

pub slice_bounds-append_reply-end : goal.slice_bounds-append_reply-end
slice_bounds-append_reply-end c = sym (length-take-le _ _ c.requires.0)

pub returns : goal.returns
returns c = let a = c.args in
    rest_some a.line.now a.count a.out.now _ _ c.if-count-eq0.false
    c.requires.0 c.append_reply.auto.out c.append_reply.ensures
