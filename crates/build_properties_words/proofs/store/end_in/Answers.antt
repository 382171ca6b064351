-- `build_properties_words::store::end_in` meets its contract.
use mathlib.Core.Path.{◌≡◌, ap, ◌∙◌}
use mir.Syntax.{w32}
use Rattle.words.specs.Word.{word_at}
use Rattle.words.specs.Field.{link_of}
use Rattle.words.specs.Edge.{link_place, serif_place, word_of_edge}
use Rattle.words.proofs.Fields.{kept}
use Rattle.words_edge.proofs.Became.{below_in}
use Rattle.build_properties_words.proofs.Stores.{left_below, ended}
use borrow.Author.Rules.{rules}
use Rattle.build_properties_words.proofs.store.end_in.Goals as goal

pub put_flags-requires : goal.put_flags-requires
put_flags-requires c = (c.requires.whole, c.requires.inside)

pub put_serif-requires : goal.put_serif-requires
put_serif-requires c =
    let link-is : let a =
    c.args in c.link_of-link.result ≡ link_of (word_at a.edges.now (word_of_edge a.k link_place)) = let w = c.read_word in c.link_of-link.ensures ∙ ap link_of (kept w32 w.result w.type_inv ∙ w.ensures) in
    let serif-is : let a =
    c.args in c.link_of-serif.result ≡ link_of (word_at a.edges.now (word_of_edge a.k serif_place)) = let w = c.read_word-2 in c.link_of-serif.ensures ∙ ap link_of (kept w32 w.result w.type_inv ∙ w.ensures) in (
      c.put_flags.ensures.whole,
      below_in _ c.put_flags.ensures c.requires.inside,
      left_below c.args.edges.now c.args.k c.requires
          c.args.roundness c.args.straightness link-is serif-is c.with_properties-ended.ensures,
    )

pub returns : goal.returns
returns c =
    let link-is : let a =
    c.args in c.link_of-link.result ≡ link_of (word_at a.edges.now (word_of_edge a.k link_place)) = let w = c.read_word in c.link_of-link.ensures ∙ ap link_of (kept w32 w.result w.type_inv ∙ w.ensures) in
    let serif-is : let a =
    c.args in c.link_of-serif.result ≡ link_of (word_at a.edges.now (word_of_edge a.k serif_place)) = let w = c.read_word-2 in c.link_of-serif.ensures ∙ ap link_of (kept w32 w.result w.type_inv ∙ w.ensures) in
    ended c.args.edges.now c.args.k c.requires c.args.roundness c.args.straightness link-is serif-is
    c.with_properties-ended.ensures c.put_flags.ensures c.put_serif.ensures
