-- `words::edge::edge_words` meets its contract.
use mathlib.Core.Path.{◌∙◌}
use mathlib.Core.List.{[], ◌∷◌}
use Rattle.words.specs.Edge.{edge_words}
use mir.Syntax.{w16, w32}
use Rattle.words.proofs.Fields.{kept}
use Rattle.words.proofs.edge.edge_words.Goals as goal

pub returns : goal.returns
unfolding edge_words
returns c =
    let mark = c in
    let last = mark in
    let first = last in
    let serif = first in
    let link = serif in
    let fitted = link in
    let present = fitted in
    let dir = present in
    let flags = dir in
    let fpos = flags in
    let start = fpos in
    λ i. (kept w32 fpos.short_word.result fpos.short_word.type_inv ∙ fpos.short_word.ensures
    ∙ kept w16 start.args.edge.fpos c.struct_told-2-1.given.0.1) i
    ∷ kept w32 start.args.edge.opos c.struct_told-2-1.given.1.0.1 i
    ∷ kept w32 start.args.edge.pos c.struct_told-2-1.given.1.1.0.1 i
    ∷ (kept w32 flags.flags_word.result flags.flags_word.type_inv ∙ flags.flags_word.ensures) i
    ∷ (kept w32 dir.direction_word.result dir.direction_word.type_inv ∙ dir.direction_word.ensures) i
    ∷ (kept w32 present.present_word.result present.present_word.type_inv ∙ present.present_word.ensures) i
    ∷ (kept w32 fitted.fitted_word.result fitted.fitted_word.type_inv ∙ fitted.fitted_word.ensures) i
    ∷ (kept w32 link.link_word.result link.link_word.type_inv ∙ link.link_word.ensures) i
    ∷ (kept w32 serif.link_word-2.result serif.link_word-2.type_inv ∙ serif.link_word-2.ensures) i
    ∷ (kept w32 first.index_word.result first.index_word.type_inv ∙ first.index_word.ensures) i
    ∷ (kept w32 last.index_word-2.result last.index_word-2.type_inv ∙ last.index_word-2.ensures) i
    ∷ (kept w32 mark.mark_word.result mark.mark_word.type_inv ∙ mark.mark_word.ensures) i
    ∷ []
