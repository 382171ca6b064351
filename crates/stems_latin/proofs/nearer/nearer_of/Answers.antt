-- `stems_latin::nearer::nearer_of` meets its contract.
use mathlib.Core.Path.{◌≡◌}
use native.Mathlib.Omega.{arith}
use borrow.Author.Tests.{lt-ltb, le-ltb}
use lib.IntN.{nat_abs}
use Rattle.signed.proofs.Signed.{fits, is, range, signed}
use Rattle.stems_latin.proofs.nearer.nearer_of.Goals as goal
use Rattle.stems_latin.proofs.nearer.nearer_of.Goals.{After-magnitude, After-magnitude-2}

pub overflow_cast-delta1 : goal.overflow_cast-delta1
overflow_cast-delta1 c = fits (omega (arith, signed, range c.ranges.delta1))

pub magnitude-requires : goal.magnitude-requires
magnitude-requires c = let k = overflow_cast-delta1 c in omega (arith, signed, range c.ranges.delta1)

pub overflow_cast-delta2 : goal.overflow_cast-delta2
overflow_cast-delta2 c = fits (omega (arith, signed, range c.ranges.delta2))

pub magnitude-requires-2 : goal.magnitude-requires-2
magnitude-requires-2 c = let k = overflow_cast-delta2 c in omega (arith, signed, range c.ranges.delta2)

-- the two magnitudes
first-size : (c : After-magnitude) → c.magnitude.result ≡ nat_abs c.args.delta1
first-size c = let s = c.before in rw (is (overflow_cast-delta1 s), is s.ranges.delta1) at c.magnitude.ensures

second-size : (c : After-magnitude-2) → c.magnitude-2.result ≡ nat_abs c.args.delta2
second-size c = let m = c.before in let s = m.before in rw (is (overflow_cast-delta2 m), is s.ranges.delta2) at c.magnitude-2.ensures

pub returns-then-magnitude : goal.returns-then-magnitude
returns-then-magnitude c =
    let n = c.before in
    let m = n.before in
    let s = m.before in
    rw (lt-ltb (nat_abs s.args.delta1) (nat_abs s.args.delta2) (omega (arith, first-size m, second-size n, c.if-magnitude.true)), is s.ranges.cur_pos1)

pub returns : goal.returns
returns c =
    let n = c.before in
    let m = n.before in
    let s = m.before in
    rw (le-ltb (nat_abs s.args.delta1) (nat_abs s.args.delta2) (omega (arith, first-size m, second-size n, c.if-magnitude.false)), is s.ranges.cur_pos2)
