-- `edge_points_words::segment::edge_of` meets its contract.
use borrow.Author.Rules.{rules}
use native.Mathlib.Omega.{arith}
use mathlib.Core.Path.{ap, ◌∙◌}
use mir.Syntax.{w32}
use Rattle.signed.proofs.Signed.{is, got}
use Rattle.words.specs.Field.{link_of}
use Rattle.words_tables_test.proofs.Tables.{edge-is}
use Rattle.edge_points_words.proofs.segment.edge_of.Goals as goal

pub overflow_mul-i : goal.overflow_mul-i
overflow_mul-i c = omega (arith, c.requires.1, c.requires.0.few)

pub overflow_add-i : goal.overflow_add-i
overflow_add-i c = omega (arith, c.requires.1, c.requires.0.few)

pub read_word-requires : goal.read_word-requires
read_word-requires c = omega (arith, c.requires.1)

pub returns : goal.returns
returns c =
    let x = c in
    let s = x in
    c.link_of.ensures ∙ ap link_of (is (got w32 x.read_word.result x.read_word.type_inv) ∙ x.read_word.ensures)
    ∙ edge-is s.args.segments.now s.args.i s.requires.0 s.requires.1
