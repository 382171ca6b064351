-- `lowercase_m::moves::moved_back` meets its contract.
use mathlib.Core.Path.{ap, ◌∙◌}
use native.Mathlib.Omega.{arith}
use lib.IntN.{ℤ, ◌-ℤ◌}
use mir.Syntax.{w32}
use mir.Val.{to_z, of_z, SFits}
use Rattle.axis.specs.Edge.{placed}
use Rattle.signed.proofs.Signed.{fits, fits-in, is, signed}
use Rattle.signed.proofs.By.{by₂}
use borrow.Author.Rules.{rules}
use Rattle.lowercase_m.proofs.moves.moved_back.Goals as goal

pub overflow_sub-pos : goal.overflow_sub-pos
overflow_sub-pos c = let k = fits-in w32 c.requires.0 tt tt in fits (omega (arith, signed))

pub returns : goal.returns
returns c =
    let h = fits-in w32 c.requires.0 tt tt in
    let o : SFits w32 (to_z w32 (of_z w32 c.args.edge.pos) -ℤ to_z w32 (of_z w32 c.args.delta)) = (let k = h in fits (omega (arith, signed))) in
    c.with_pos.ensures ∙ ap (λ (p : ℤ). placed c.args.edge p c.args.mark)
    (by₂ ◌-ℤ◌ (is o) (is h) (is c.ranges.delta))
