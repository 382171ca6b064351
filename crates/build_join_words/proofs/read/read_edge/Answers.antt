-- `build_join_words::read::read_edge` meets its contract.
use Rattle.std.specs.Prelude.{None}
use mathlib.Core.Path.{ap, ◌∙◌}
use lib.IntN.{pos}
use mir.Syntax.{w16, w32}
use Rattle.axis.specs.declared.kinds.Mark.TheVariants as Marks
use Rattle.axis.specs.Flags.{normal}
use Rattle.words.specs.Field.{direction_of, short_of}
use Rattle.words.specs.Segment.{segment_from}
use Rattle.words.proofs.Fields.{kept}
use borrow.Author.Rules.{rules}
use Rattle.build_join_words.proofs.read.read_edge.Goals as goal

pub returns : goal.returns
unfolding segment_from
returns c =
    let place = c in
    let w2 = place in
    let dir = w2 in
    let w1 = dir in
    let a = w1.args in
    λ n. record {
      fpos =
          (kept w16 place.short_of-fpos.result place.short_of-fpos.type_inv ∙ place.short_of-fpos.ensures
          ∙ ap short_of (kept w32 w2.read_word-2.result w2.read_word-2.type_inv ∙ w2.read_word-2.ensures)) n;
      opos = pos 0;
      pos = pos 0;
      flags = normal;
      dir = (dir.direction_of-dir.ensures ∙ ap direction_of (kept w32 w1.read_word.result w1.read_word.type_inv ∙ w1.read_word.ensures)) n;
      blue = None;
      link = None;
      serif = None;
      first = a.first;
      last = a.last;
      mark = Marks.Nothing;
    }
