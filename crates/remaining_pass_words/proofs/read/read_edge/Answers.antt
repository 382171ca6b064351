-- `remaining_pass_words::read::read_edge` meets its contract.
use Rattle.std.specs.Prelude.{None}
use mathlib.Core.Path.{ap, sym, ◌∙◌}
use mir.Syntax.{w16, w32}
use Rattle.axis.specs.declared.kinds.Dimension.TheVariants as Dimensions
use Rattle.axis.specs.declared.kinds.Direction.TheVariants as Directions
use Rattle.axis.specs.declared.kinds.Mark.TheVariants as Marks
use Rattle.words.specs.Field.{short_of, flags_of, link_of}
use Rattle.words.specs.Edge.{edge_from}
use Rattle.words.proofs.Fields.{kept}
use Rattle.words_edge.proofs.Wholes.{edge_in}
use Rattle.remaining_pass_words.specs.Words.{asked}
use borrow.Author.Rules.{rules}
use Rattle.remaining_pass_words.proofs.read.read_edge.Goals as goal

pub returns : goal.returns
unfolding edge_from
returns c =
    let ws = c.args.words.now in
    (λ n. record {
      fpos =
          (kept w16 c.short_of.result c.short_of.type_inv ∙ c.short_of.ensures
          ∙ ap short_of (kept w32 c.read_word.result c.read_word.type_inv ∙ c.read_word.ensures)) n;
      opos = (kept w32 c.read_word-2.result c.read_word-2.type_inv ∙ c.read_word-2.ensures) n;
      pos = (kept w32 c.read_word-3.result c.read_word-3.type_inv ∙ c.read_word-3.ensures) n;
      flags = (c.flags_of.ensures ∙ ap flags_of (kept w32 c.read_word-4.result c.read_word-4.type_inv ∙ c.read_word-4.ensures)) n;
      dir = Directions.None;
      blue = None;
      link = None;
      serif = (c.link_of.ensures ∙ ap link_of (kept w32 c.read_word-5.result c.read_word-5.type_inv ∙ c.read_word-5.ensures)) n;
      first = 0;
      last = 0;
      mark = Marks.Nothing;
    })
    ∙ ap asked (sym (edge_in ws Dimensions.Horizontal c.args.i c.requires.0 c.requires.1))
