-- `log_frame::good::read_refusal` meets its contract.
use Rattle.refusals.proofs.Tests.{none-tested}
use Rattle.refusals.proofs.Outcomes.{exit-answer, then-held, then-refused, then-last}
use Rattle.log_frame.proofs.good.read_refusal.Goals as goal

pub returns-in_err-require : goal.returns-in_err-require
returns-in_err-require c = then-refused _ none-tested c.in_err-require.ensures c.are_rooms-rooms.ensures (exit-answer _ _ c.from_residual.ensures.1)

pub returns : goal.returns
returns c = let t1 = then-held none-tested c.in_ok-require.ensures c.are_rooms-rooms.ensures in then-last t1 c.require-2.ensures c.good_line.ensures
