-- `shown_rows::crossing::first_column` meets its contract.
use mathlib.Core.Path.{◌≡◌, sym, ap, subst}
use Prim.Native.Nat.{ℕ, ◌+◌, ◌/◌}
use native.Mathlib.Omega.{arith}
use Rattle.shown_rows.specs.Crossing.{Starts}
use Rattle.shown_rows.proofs.Ceilings.{starts-right, starts-left}
use borrow.Author.Rules.{rules}
use Rattle.shown_rows.proofs.crossing.first_column.Goals as goal

pub returns-then-lx-hx : goal.returns-then-lx-hx
returns-then-lx-hx c =
    let s = c in
    subst (λ (k : ℕ). Starts s.args.lx s.args.ly s.args.hx s.args.hy s.args.y ((s.args.lx + k + 16383) / 32768))
    (sym c.part_of.ensures.0)
    (starts-right s.args.lx s.args.ly s.args.hx s.args.hy s.args.y (omega arith) (omega arith) (omega arith))

pub returns : goal.returns
returns c =
    let s = c in
    subst (λ (k : ℕ). Starts s.args.lx s.args.ly s.args.hx s.args.hy s.args.y ((s.args.hx + k + 16383) / 32768))
    (sym c.part_of-2.ensures.0)
    (starts-left s.args.lx s.args.ly s.args.hx s.args.hy s.args.y (omega arith) (omega arith) (omega arith))
