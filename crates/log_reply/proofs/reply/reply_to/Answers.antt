-- `log_reply::reply::reply_to` meets its contract.
use native.Mathlib.Omega.{arith}
use Prim.Native.Nat.{◌≤◌}
use Rattle.log_text.specs.Answer.{done_size, most_results}
use Rattle.log_reply.proofs.Lengths.{bytes-few}
use Rattle.log_reply.proofs.Replied.{no_room, with-room}
use Rattle.log_reply.proofs.reply.reply_to.Goals as goal

pub returns-then-out-lt-MOST_REPLY : goal.returns-then-out-lt-MOST_REPLY
returns-then-out-lt-MOST_REPLY c = no_room c.args.line.now c.args.ended c.args.out.now c.if-out-lt-MOST_REPLY.true

pub overflow_mul-digits : goal.overflow_mul-digits
overflow_mul-digits c =
    let few : c.answer_any-digits.result ≤ done_size most_results = let a = c.args in
    omega (arith, c.answer_any-digits.ensures.count, bytes-few a.line.now a.ended) in
    omega (arith, few)

pub bounds-out-digits : goal.bounds-out-digits
bounds-out-digits c =
    let few : c.answer_any-digits.result ≤ done_size most_results = let a = c.args in
    omega (arith, c.answer_any-digits.ensures.count, bytes-few a.line.now a.ended) in
    omega (arith, few, c.if-out-lt-MOST_REPLY.false)

pub overflow_add-result : goal.overflow_add-result
overflow_add-result c =
    let few : c.answer_any-digits.result ≤ done_size most_results = let a = c.args in
    omega (arith, c.answer_any-digits.ensures.count, bytes-few a.line.now a.ended) in
    omega (arith, few)

pub returns : goal.returns
returns c = with-room c.args.line.now
    c.args.ended c.args.out.now
    c.if-out-lt-MOST_REPLY.false c.answer_any-digits.ensures
