-- `lowercase_m::hint::align_stems` meets its contract.
use mathlib.Core.Path.{◌≡◌, sym, ap, subst, ◌∙◌}
use borrow.Author.Tests.{not-true, not-false}
use Rattle.axis.specs.declared.edge.Edge.{Edge}
use Rattle.axis.specs.Edge.{edge_at}
use Rattle.axis.specs.Limits.{most_pos}
use Rattle.axis.specs.Accepted.{EdgeWithin}
use Rattle.lowercase_m.specs.M.{delta, most_delta, move_stem, aligned}
use Rattle.signed.specs.Range.{Between}
use Rattle.signed.proofs.Signed.{is}
use Rattle.signed.proofs.Choices.{cond-true, cond-false}
use Rattle.lowercase_m.proofs.Places.{pos-read, pos-held, delta-between, places_of, in_table}
use borrow.Author.Rules.{rules}
use Rattle.lowercase_m.proofs.hint.align_stems.Goals as goal

pub applies-requires : goal.applies-requires
applies-requires c =
    let h = c.requires.0 in
    let at = c.requires.1 in
    let h1 = h.edge _ at.first_below in
    let h2 = h.edge _ at.second_below in
    let h3 = h.edge _ at.third_below in
    record {
      in_table = in_table _ _ at;
      between = (h1.opos, h2.opos, h3.opos);
    }

pub returns-then-not-applies : goal.returns-then-not-applies
unfolding aligned
returns-then-not-applies c = sym (cond-false _ _ _ (sym c.applies.ensures ∙ c.if-not-applies.true))

pub delta_of-delta-requires : goal.delta_of-delta-requires
delta_of-delta-requires c =
    let h = c.requires.0 in
    let at = c.requires.1 in
    let h1 = h.edge _ at.first_below in
    let h2 = h.edge _ at.second_below in
    let h3 = h.edge _ at.third_below in
    (pos-held _ h1.pos, pos-held _ h2.pos, pos-held _ h3.pos)

pub move_stem-requires : goal.move_stem-requires
move_stem-requires c =
    let h = c.requires.0 in
    let at = c.requires.1 in
    let h1 = h.edge _ at.first_below in
    let h2 = h.edge _ at.second_below in
    let h3 = h.edge _ at.third_below in
    let d = c.delta_of-delta.ensures.1 in
    record {
      third_lt_len = (at.third_below, h3.link);
      places = (places_of _ h, subst (Between most_delta most_delta) (sym (is d.fits)) (delta-between _ d));
    }

pub returns : goal.returns
unfolding aligned
returns c =
    let h = c.requires.0 in
    let at = c.requires.1 in
    let h1 = h.edge _ at.first_below in
    let h2 = h.edge _ at.second_below in
    let h3 = h.edge _ at.third_below in
    let d : c.delta_of-delta.result ≡ delta (edge_at c.args.axis c.args.stems.first).pos (edge_at c.args.axis c.args.stems.second).pos
    (edge_at c.args.axis c.args.stems.third).pos =
    c.delta_of-delta.ensures.0 ∙ λ i. delta (pos-read _ h1.pos i) (pos-read _ h2.pos i) (pos-read _ h3.pos i) in
    c.move_stem.ensures ∙ ap (move_stem c.args.axis c.args.stems.third) (is c.delta_of-delta.ensures.1.fits ∙ d)
    ∙ sym (cond-true _ _ _ (sym c.applies.ensures ∙ c.if-not-applies.false))
