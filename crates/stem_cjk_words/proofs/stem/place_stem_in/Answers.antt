-- `stem_cjk_words::stem::place_stem_in` meets its contract.
use mathlib.Core.Path.{◌∙◌}
use native.Mathlib.Omega.{arith}
use mir.Syntax.{w32}
use mir.Val.{SFits, to_z, of_z}
use lib.IntN.{◌+ℤ◌}
use Rattle.signed.proofs.Signed.{fits, is, signed}
use Rattle.stem_cjk_words.proofs.Stems.{pair-law}
use borrow.Author.Rules.{rules}
use Rattle.stem_cjk_words.proofs.stem.place_stem_in.Goals as goal

pub overflow_add-pos : goal.overflow_add-pos
overflow_add-pos c = let k = c.requires.between in fits (omega (arith, signed))

pub returns : goal.returns
returns c =
    let k = c.requires.between in
    let sum-fits : SFits w32 (to_z w32 (of_z w32 c.args.pos) +ℤ to_z w32 (of_z w32 c.args.width)) = fits (omega (arith, signed)) in
    pair-law c.args.lower c.args.upper c.args.pos c.args.width (is c.ranges.pos)
    (is sum-fits ∙ λ i. is c.ranges.pos i +ℤ is c.ranges.width i)
    c.put_pos.ensures c.put_pos-2.ensures
