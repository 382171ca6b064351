-- `build_properties::outcome::is_round` meets its contract: by its two tests.
use mathlib.Core.Path.{◌≡◌}
use mathlib.Core.Bool.{true, false}
use native.Mathlib.Omega.{arith}
use borrow.Author.Tests.{lt-ltb, le-ltb}
use lib.Dec.{ltb}
use Rattle.build_properties.proofs.outcome.is_round.Goals as goal

pub returns-then-roundness-eq0 : goal.returns-then-roundness-eq0
returns-then-roundness-eq0 c =
    let none : ltb 0 c.args.roundness ≡ false = le-ltb 0 c.args.roundness (omega (arith, c.if-roundness-eq0.true)) in
    rw none

pub returns : goal.returns
returns c =
    let some : ltb 0 c.args.roundness ≡ true = lt-ltb 0 c.args.roundness (omega (arith, c.if-roundness-eq0.false)) in
    rw some
