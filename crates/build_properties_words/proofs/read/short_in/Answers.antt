-- `build_properties_words::read::short_in` meets its contract.
use mathlib.Core.Path.{sym, ◌∙◌}
use native.Mathlib.Omega.{arith}
use lib.ListN.{get_or}
use lib.IntN.{pos}
use mir.Syntax.{w16, w32}
use mir.Val.{SFits, to_z, of_z}
use Rattle.signed.proofs.Signed.{signed, fits, is, got}
use Rattle.words.proofs.RoundTrip.{short_back}
use borrow.Author.Rules.{rules}
use Rattle.build_properties_words.proofs.read.short_in.Goals as goal

pub overflow_cast-result : goal.overflow_cast-result
overflow_cast-result c =
    let k = got w32 (get_or c.args.words.now c.args.at (pos 0)) c.word-1.given in fits (omega (arith, signed, c.requires.1))

pub returns : goal.returns
returns c =
    let k = got w32 (get_or c.args.words.now c.args.at (pos 0)) c.word-1.given in
    let f : SFits w16 (to_z w32 (of_z w32 (get_or c.args.words.now c.args.at (pos 0)))) = fits (omega (arith, signed, c.requires.1)) in
    is f ∙ is k ∙ sym (short_back _ c.requires.1)
