-- `stems_cjk::offsets::smaller_of` meets its contract.
use mathlib.Core.Path.{◌≡◌}
use native.Mathlib.Omega.{arith}
use borrow.Author.Tests.{le-leb, lt-leb}
use lib.IntN.{nat_abs}
use Rattle.signed.proofs.Signed.{fits, is, signed}
use Rattle.stems_cjk.proofs.offsets.smaller_of.Goals as goal
use Rattle.stems_cjk.proofs.offsets.smaller_of.Goals.{After-magnitude, After-magnitude-2}

pub overflow_cast-first : goal.overflow_cast-first
overflow_cast-first c = fits (omega (arith, signed))

pub magnitude-requires : goal.magnitude-requires
magnitude-requires c = let k = overflow_cast-first c in omega (arith, signed)

pub overflow_cast-second : goal.overflow_cast-second
overflow_cast-second c = fits (omega (arith, signed))

pub magnitude-requires-2 : goal.magnitude-requires-2
magnitude-requires-2 c = let k = overflow_cast-second c in omega (arith, signed)

-- the two magnitudes
first-size : (c : After-magnitude) → c.magnitude.result ≡ nat_abs c.args.first
first-size c = let s = c.before in rw (is (overflow_cast-first s), is s.ranges.first) at c.magnitude.ensures

second-size : (c : After-magnitude-2) → c.magnitude-2.result ≡ nat_abs c.args.second
second-size c = let m = c.before in let s = m.before in rw (is (overflow_cast-second m), is s.ranges.second) at c.magnitude-2.ensures

pub returns-then-magnitude : goal.returns-then-magnitude
returns-then-magnitude c =
    let n = c.before in
    let m = n.before in
    let s = m.before in
    rw (le-leb (nat_abs s.args.first) (nat_abs s.args.second) (omega (arith, first-size m, second-size n, c.if-magnitude.true)), is s.ranges.first)

pub returns : goal.returns
returns c =
    let n = c.before in
    let m = n.before in
    let s = m.before in
    rw (lt-leb (nat_abs s.args.first) (nat_abs s.args.second) (omega (arith, first-size m, second-size n, c.if-magnitude.false)), is s.ranges.second)
