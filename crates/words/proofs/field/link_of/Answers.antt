-- `words::field::link_of` meets its contract.
use Rattle.std.specs.Prelude.{Some}
use native.Mathlib.Omega.{arith}
use mathlib.Core.Path.{ap, ◌∙◌}
use Rattle.signed.proofs.Signed.{signed, is}
use Rattle.words.specs.Field.{index_of}
use Rattle.words.proofs.Fields.{link-none, link-to}
use Rattle.words.proofs.field.link_of.Goals as goal

pub returns-then-word-lt0 : goal.returns-then-word-lt0
returns-then-word-lt0 c = link-none c.args.word (omega (arith, signed))

pub returns : goal.returns
returns c =
    let s = c in ap Some (c.index_of.ensures ∙ ap index_of (is s.ranges.word)) ∙ link-to s.args.word (omega (arith, signed))
