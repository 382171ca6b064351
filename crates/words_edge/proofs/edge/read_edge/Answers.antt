-- `words_edge::edge::read_edge` meets its contract.
use Rattle.std.specs.Prelude.{None}
use mathlib.Core.Path.{ap, sym, ◌∙◌}
use lib.IntN.{pos}
use mir.Syntax.{w32}
use Rattle.axis.specs.declared.kinds.Dimension.TheVariants as Dimensions
use Rattle.axis.specs.declared.kinds.Direction.TheVariants as Directions
use Rattle.axis.specs.declared.kinds.Mark.TheVariants as Marks
use Rattle.words.specs.Field.{blue_of, flags_of, link_of}
use Rattle.words.specs.Edge.{edge_from}
use Rattle.words.proofs.Fields.{kept}
use Rattle.words_edge.specs.Whole.{reduced}
use Rattle.words_edge.proofs.Wholes.{edge_in}
use borrow.Author.Rules.{rules}
use Rattle.words_edge.proofs.edge.read_edge.Goals as goal

pub returns : goal.returns
unfolding edge_from
returns c =
    let l = c in
    let b = l in
    let z = b in
    let y = z in
    let f = y in
    let g = f in
    let p = g in
    let o = p in
    let s = o in
    let ws = s.args.words.now in
    (λ n. record {
      fpos = pos 0;
      opos = (kept w32 o.read_word.result o.read_word.type_inv ∙ o.read_word.ensures) n;
      pos = (kept w32 p.read_word-2.result p.read_word-2.type_inv ∙ p.read_word-2.ensures) n;
      flags = (f.flags_of.ensures ∙ ap flags_of (kept w32 g.read_word-3.result g.read_word-3.type_inv ∙ g.read_word-3.ensures)) n;
      dir = Directions.None;
      blue = (b.blue_of.ensures
          ∙ (λ k. blue_of ((kept w32 y.read_word-4.result y.read_word-4.type_inv ∙ y.read_word-4.ensures) k)
          ((kept w32 z.read_word-5.result z.read_word-5.type_inv ∙ z.read_word-5.ensures) k))) n;
      link = (c.link_of.ensures ∙ ap link_of (kept w32 l.read_word-6.result l.read_word-6.type_inv ∙ l.read_word-6.ensures)) n;
      serif = None;
      first = 0;
      last = 0;
      mark = Marks.Nothing;
    })
    ∙ ap reduced (sym (edge_in ws Dimensions.Horizontal s.args.i s.requires.0 s.requires.1))
