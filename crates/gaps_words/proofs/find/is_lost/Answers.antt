-- `gaps_words::find::is_lost` meets its contract.
use borrow.Author.Rules.{rules}
use native.Mathlib.Omega.{arith}
use mathlib.Core.Path.{refl, ◌∙◌}
use lib.IntN.{◌-ℤ◌}
use mir.Syntax.{w32}
use mir.Val.{SFits, to_z, of_z}
use Rattle.signed.proofs.Signed.{signed, fits, is, fits-in, ◌also◌}
use Rattle.signed.proofs.By.{by₂, by₃}
use Rattle.gaps.specs.Gaps.{gone}
use Rattle.gaps_words.proofs.find.is_lost.Goals as goal

pub overflow_sub-second : goal.overflow_sub-second
overflow_sub-second c =
    let opos1 : SFits w32 c.args.first.opos = fits-in w32 c.requires.between.0 tt tt in
    let opos2 : SFits w32 c.args.second.opos = fits-in w32 c.requires.between.1 tt tt in
    let k = opos1 also opos2 in
    fits (omega (arith, signed, c.requires.between.0, c.requires.between.1))

pub returns : goal.returns
returns c =
    let opos1 : SFits w32 c.args.first.opos = fits-in w32 c.requires.between.0 tt tt in
    let opos2 : SFits w32 c.args.second.opos = fits-in w32 c.requires.between.1 tt tt in
    let pos1 : SFits w32 c.args.first.pos = fits-in w32 c.requires.between_2.0 tt tt in
    let pos2 : SFits w32 c.args.second.pos = fits-in w32 c.requires.between_2.1 tt tt in
    let k = opos1 also opos2 in
    let whole : SFits w32 (to_z w32 (of_z w32 c.args.second.opos) -ℤ to_z w32 (of_z w32 c.args.first.opos)) =
    fits (omega (arith, signed, c.requires.between.0, c.requires.between.1)) in
    by₃ gone c.is_gone.ensures (is whole ∙ by₂ ◌-ℤ◌ refl (is opos2) (is opos1)) (is pos1) (is pos2)
