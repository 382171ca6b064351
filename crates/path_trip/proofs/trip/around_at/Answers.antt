-- `path_trip::trip::around_at` meets its contract.
use mathlib.Core.Path.{sym}
use native.Mathlib.Omega.{arith}
use borrow.Author.Tests.{lt-ltb, le-ltb}
use Rattle.path_trip.proofs.trip.around_at.Goals as goal

pub returns-then-i-e : goal.returns-then-i-e
returns-then-i-e c = (sym (simp (lt-ltb _ _ c.if-i-e.true)), c.if-i-e.true)

pub returns-else-i-e : goal.returns-else-i-e
returns-else-i-e c = (sym (simp (le-ltb _ _ c.if-i-e.false)), omega arith)
