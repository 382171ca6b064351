-- `build_properties_words::store::take_link` meets its contract.
use mathlib.Core.Path.{◌≡◌, ap, ◌∙◌}
use mir.Syntax.{w32}
use Rattle.signed.proofs.Signed.{is}
use Rattle.words.specs.Word.{word_at}
use Rattle.words.specs.Field.{link_of}
use Rattle.words.specs.Edge.{link_place, word_of_edge}
use Rattle.words.proofs.Fields.{kept}
use Rattle.build_properties_words.proofs.Stores.{link-below, taken-below, link-taken}
use borrow.Author.Rules.{rules}
use Rattle.build_properties_words.proofs.store.take_link.Goals as goal

pub chosen_in-chosen-requires : goal.chosen_in-chosen-requires
chosen_in-chosen-requires c =
    let held-is : c.link_of-held.result ≡ link_of
    (word_at c.args.edges.now (word_of_edge c.args.k link_place)) = let w = c.read_word in c.link_of-held.ensures ∙ ap link_of (kept w32 w.result w.type_inv ∙ w.ensures) in
    let j = c.requires.0 in
    (j.whole, j.inside, link-below c.args.edges.now c.args.k j held-is)

pub put_link-requires : goal.put_link-requires
put_link-requires c =
    let held-is : c.link_of-held.result ≡ link_of
    (word_at c.args.edges.now (word_of_edge c.args.k link_place)) = let w = c.read_word in c.link_of-held.ensures ∙ ap link_of (kept w32 w.result w.type_inv ∙ w.ensures) in
    let j = c.requires.0 in
    let b = link-below c.args.edges.now c.args.k j held-is in
    (j.whole, j.inside, taken-below c.args.edges.now c.args.k j _ _ c.requires.1 b c.chosen_in-chosen.ensures)

pub returns : goal.returns
returns c =
    let held-is : c.link_of-held.result ≡ link_of
    (word_at c.args.edges.now (word_of_edge c.args.k link_place)) = let w = c.read_word in c.link_of-held.ensures ∙ ap link_of (kept w32 w.result w.type_inv ∙ w.ensures) in
    link-taken c.args.edges.now c.args.k c.requires.0 c.args.asked (is c.ranges.delta) c.chosen_in-chosen.ensures held-is
    c.put_link.ensures
