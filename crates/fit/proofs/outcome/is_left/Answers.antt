-- `fit::outcome::is_left` meets its contract.
use Rattle.std.specs.Prelude.{◌≡◌, Bool, true, false, not, None, Some}
use mathlib.Core.Path.{refl}
use borrow.Author.Tests.{lt-ltb, le-ltb}
use Rattle.std.specs.Option.{is_some}
use Rattle.axis.specs.Link.{Link, is_linked}
use Rattle.fit.specs.Edges.{is_left}
use Rattle.fit.proofs.outcome.is_left.Goals as goal

unlinked : (l : Link) (r : Bool) → is_some l ≡ not r → r ≡ not (is_linked l)
unlinked None true e = refl
unlinked None false e = cc
unlinked (Some k) true e = cc
unlinked (Some k) false e = refl

pub returns-then-count-gt0 : goal.returns-then-count-gt0
unfolding is_left
returns-then-count-gt0 c = rw (lt-ltb 0 _ c.if-count-gt0.true)

pub returns : goal.returns
unfolding is_left
returns c = rw (le-ltb 0 _ c.if-count-gt0.false) (unlinked c.args.anchor c.is_none.result c.is_none.ensures)
