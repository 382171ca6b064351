-- `build_properties_words::store::take_serif` meets its contract.
use mathlib.Core.Path.{◌≡◌, ap, ◌∙◌}
use mir.Syntax.{w32}
use Rattle.signed.proofs.Signed.{is}
use Rattle.words.specs.Word.{word_at}
use Rattle.words.specs.Field.{link_of}
use Rattle.words.specs.Edge.{serif_place, word_of_edge}
use Rattle.words.proofs.Fields.{kept}
use Rattle.words_edge.proofs.Became.{below_in}
use Rattle.build_properties_words.proofs.Stores.{serif-below, taken-inside, taken-below, serif-taken}
use borrow.Author.Rules.{rules}
use Rattle.build_properties_words.proofs.store.take_serif.Goals as goal

pub chosen_in-chosen-requires : goal.chosen_in-chosen-requires
chosen_in-chosen-requires c =
    let held-is : c.link_of-held.result ≡ link_of
    (word_at c.args.edges.now (word_of_edge c.args.k serif_place)) = let w = c.read_word in c.link_of-held.ensures ∙ ap link_of (kept w32 w.result w.type_inv ∙ w.ensures) in
    let j = c.requires.0 in
    (j.whole, j.inside, serif-below c.args.edges.now c.args.k j held-is)

pub put_serif-requires : goal.put_serif-requires
put_serif-requires c =
    let held-is : c.link_of-held.result ≡ link_of
    (word_at c.args.edges.now (word_of_edge c.args.k serif_place)) = let w = c.read_word in c.link_of-held.ensures ∙ ap link_of (kept w32 w.result w.type_inv ∙ w.ensures) in
    let j = c.requires.0 in
    let b = serif-below c.args.edges.now c.args.k j held-is in
    (j.whole, j.inside, taken-below c.args.edges.now c.args.k j _ _ c.requires.1 b c.chosen_in-chosen.ensures)

pub mark_in-requires : goal.mark_in-requires
mark_in-requires c =
    let held-is : c.link_of-held.result ≡ link_of
    (word_at c.args.edges.now (word_of_edge c.args.k serif_place)) = let w = c.read_word in c.link_of-held.ensures ∙ ap link_of (kept w32 w.result w.type_inv ∙ w.ensures) in
    let j = c.requires.0 in
    let b = serif-below c.args.edges.now c.args.k j held-is in (
      c.put_serif.ensures.whole,
      below_in _ c.put_serif.ensures
          (taken-inside c.args.edges.now c.args.k j _ _ c.requires.1 b c.chosen_in-chosen.ensures),
    )

pub returns : goal.returns
returns c =
    let held-is : c.link_of-held.result ≡ link_of
    (word_at c.args.edges.now (word_of_edge c.args.k serif_place)) = let w = c.read_word in c.link_of-held.ensures ∙ ap link_of (kept w32 w.result w.type_inv ∙ w.ensures) in
    serif-taken c.args.edges.now c.args.k c.requires.0 c.args.asked (is c.ranges.delta) c.chosen_in-chosen.ensures held-is
    c.put_serif.ensures
    c.mark_in.ensures
