-- `log_reply::reply::answer_any` meets its contract.
use mathlib.Core.Path.{ap, ◌∙◌}
use Rattle.log_text.specs.Answer.{refused_bytes}
use Rattle.log_text.proofs.Jobs.{puts-same}
use Rattle.log_reply.proofs.Replied.{with-feed, without-feed}
use Rattle.log_reply.proofs.reply.answer_any.Goals as goal

pub returns-then-ended : goal.returns-then-ended
returns-then-ended c = puts-same (with-feed c.args.line.now
    c.args.ended c.if-ended.true)
    c.answer_line.ensures

pub returns : goal.returns
returns c = puts-same (ap refused_bytes c.from.ensures ∙ without-feed c.args.line.now c.args.ended c.if-ended.false) c.put_refusal.ensures
