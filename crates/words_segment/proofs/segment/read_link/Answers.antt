-- `words_segment::segment::read_link` meets its contract.
use Rattle.std.specs.Prelude.{Some}
use mathlib.Core.Path.{◌≡◌, ap, sym, ◌∙◌}
use native.Mathlib.Nat.{mod-eq_of_lt}
use native.Mathlib.Omega.{arith}
use lib.ListN.{get_or}
use lib.IntN.{ℤ, pos}
use mir.Syntax.{w32}
use Rattle.signed.specs.Parts.{up}
use Rattle.signed.proofs.Signed.{signed, is, got}
use Rattle.words.proofs.Fields.{link-none, link-to}
use borrow.Author.Rules.{rules}
use Rattle.words_segment.proofs.segment.read_link.Goals as goal

pub returns-then-word-lt0 : goal.returns-then-word-lt0
returns-then-word-lt0 c =
    let word : ℤ = get_or c.args.words.now c.args.at (pos 0) in
    let k = got w32 word c.word-1.given in link-none word (omega (arith, signed))

pub overflow_cast-index : goal.overflow_cast-index
overflow_cast-index c =
    let word : ℤ = get_or c.args.words.now c.args.at (pos 0) in
    let size : c.size_of-index.result ≡ up word = c.size_of-index.ensures ∙ ap up (is (got w32 word c.word-1.given)) in
    omega (arith, size, c.requires.1)

pub returns : goal.returns
returns c =
    let word : ℤ = get_or c.args.words.now c.args.at (pos 0) in
    let size : c.size_of-index.result ≡ up word = c.size_of-index.ensures ∙ ap up (is (got w32 word c.word-1.given)) in
    let k = got w32 word c.word-1.given in
    ap Some (size ∙ sym (mod-eq_of_lt c.requires.1)) ∙ link-to word (omega (arith, signed))
