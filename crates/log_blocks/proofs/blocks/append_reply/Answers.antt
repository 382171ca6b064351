-- `log_blocks::blocks::append_reply` meets its contract.
use native.Mathlib.Omega.{arith}
use Rattle.log_blocks.proofs.Appended.{appended-fits, appended}
use Rattle.log_blocks.proofs.blocks.append_reply.Goals as goal

pub overflow_add-result : goal.overflow_add-result
overflow_add-result c = let a = c.args in
    omega (
      arith,
      appended-fits a.line.now a.ended a.out.now a.size c.requires
          c.reply_to-more.ensures,
    )

pub returns : goal.returns
returns c = let a = c.args in
    appended a.line.now a.ended a.out.now a.size c.requires c.reply_to-more.ensures
