-- `words_shape::element::skip_record` meets its contract. The invariant: what is left of the record, read from here, gives the whole.
use native.Mathlib.Omega.{arith}
use mathlib.Core.Path.{◌≡◌, refl, sym, ap, ◌∙◌}
use Prim.Native.Nat.{ℕ, ◌+◌, ◌<◌}
use mathlib.Core.List.{List}
use lib.IntN.{ℤ}
use lib.ListN.{length, drop, get_or}
use Rattle.words_shape.specs.declared.element.Record.{Record}
use Rattle.words_shape.specs.Place.{Place}
use Rattle.words_shape.specs.declared.field.Range.{Range}
use Rattle.words_shape.specs.Shape.{and_then, no_range, field, fields, ranges_of}
use Rattle.words_shape.proofs.Shapes.{Goes, then-nowhere, then_at, fields-step, fields-end}
use Rattle.words_shape.proofs.element.skip_record.Goals as goal

-- the reading goes on from what a turn's field gives
step :
    (kind : Record) (ws : List ℤ) (at i here : ℕ) (r : Range) (next : Place)
    → i < length (ranges_of kind)
    → fields (ranges_of kind) ws at ≡ fields (drop i (ranges_of kind)) ws here
    → r ≡ get_or (ranges_of kind) i no_range
    → next ≡ field r ws here
    → Goes (fields (ranges_of kind) ws at) next (fields (drop (i + 1) (ranges_of kind)) ws)
step kind ws at i here r next below held is went = record {
  on =
      held ∙ fields-step (ranges_of kind) no_range ws i here below
      ∙ ap (λ (p : Place). and_then p (fields (drop (i + 1) (ranges_of kind)) ws))
      (sym (went ∙ ap (λ (r : Range). field r ws here) is));
}

pub loop-i-init : goal.loop-i-init
loop-i-init c = (omega arith, refl)

pub range_of-requires : goal.range_of-requires
range_of-requires c = omega (arith, c.size-n.ensures)

pub returns-in_err-here : goal.returns-in_err-here
returns-in_err-here c =
    let a = c.args in
    let l = c.loop-i in
    let goes = step a.kind a.words.now a.at l.i l.here _ _ (omega (arith, c.size-n.ensures)) l.invariant.1 c.range_of.ensures c.skip_field.ensures in
    c.from_residual.ensures ∙ then-nowhere goes c.in_err-here.was

pub loop-i-preserved : goal.loop-i-preserved
loop-i-preserved c =
    let a = c.args in
    let l = c.loop-i in
    let goes = step a.kind a.words.now a.at l.i l.here _ _ (omega (arith, c.size-n.ensures)) l.invariant.1 c.range_of.ensures c.skip_field.ensures in
    (omega arith, then_at goes c.in_ok-here.was)

pub returns : goal.returns
returns c =
    let a = c.args in
    let l = c.loop-i in
    sym (l.invariant.1 ∙ fields-end (ranges_of a.kind) a.words.now l.i l.here (omega (arith, c.size-n.ensures)))
