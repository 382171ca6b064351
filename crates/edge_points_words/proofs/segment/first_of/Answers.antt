-- `edge_points_words::segment::first_of` meets its contract.
use borrow.Author.Rules.{rules}
use native.Mathlib.Omega.{arith}
use mathlib.Core.Path.{ap, ◌∙◌}
use mir.Syntax.{w32}
use Rattle.signed.proofs.Signed.{is, got}
use Rattle.words.specs.Field.{index_of}
use Rattle.edge_points_words.proofs.Read.{first_is}
use Rattle.edge_points_words.proofs.segment.first_of.Goals as goal

pub overflow_mul-i : goal.overflow_mul-i
overflow_mul-i c = omega (arith, c.requires.1, c.requires.0.few)

pub overflow_add-i : goal.overflow_add-i
overflow_add-i c = omega (arith, c.requires.1, c.requires.0.few)

pub read_word-requires : goal.read_word-requires
read_word-requires c = omega (arith, c.requires.1)

pub returns : goal.returns
returns c =
    c.from.ensures ∙ c.index_of.ensures ∙ ap index_of (is (got w32 c.read_word.result c.read_word.type_inv) ∙ c.read_word.ensures)
    ∙ first_is c.args.segments.now c.args.i c.requires.0 c.requires.1
