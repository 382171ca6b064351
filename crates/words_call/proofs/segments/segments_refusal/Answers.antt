-- `words_call::segments::segments_refusal` meets its contract: test by test.
use mathlib.Core.Path.{◌≡◌, refl, sym, ◌∙◌}
use mathlib.Core.Bool.{Bool, ◌&&◌}
use mathlib.Core.List.{List}
use Prim.Native.Nat.{◌%◌}
use lib.Dec.{eqb}
use lib.IntN.{ℤ}
use lib.ListN.{length}
use borrow.Author.Tests.{eq-eqb, ne_eqb}
use Rattle.refusals.proofs.Tests.{none-tested}
use Rattle.refusals.proofs.Outcomes.{exit-answer, then-held, then-refused, then-last}
use Rattle.words.specs.Segment.{segment_size}
use Rattle.words_shape.specs.Shape.{segments_shown}
use Rattle.words_call.specs.Lent.{segments_front}
use Rattle.words_call.proofs.segments.segments_refusal.Goals as goal
use Rattle.words_call.proofs.segments.segments_refusal.Goals.{then-segments-eq0, else-segments-eq0, then-is_segments, else-is_segments}

abbrev whole : List ℤ → Bool → Bool
whole ws room = eqb (length ws % segment_size) 0 && room

-- the first test, as the code comes to it
whole-yes : (ws : List ℤ) (room r : Bool) → length ws % segment_size ≡ 0 → r ≡ room → r ≡ whole ws room
whole-yes ws room r e is = rw (eq-eqb (length ws % segment_size) 0 e) is

whole-no : (ws : List ℤ) (room r : Bool) → (length ws % segment_size ≡ 0 → ⊥) → r ≡ eqb (length ws % segment_size) 0 → r ≡ whole ws room
whole-no ws room r e is = let n = ne_eqb (length ws % segment_size) 0 e in rw n (is ∙ n)

pub returns-in_err-require : goal.returns-in_err-require
unfolding segments_front
returns-in_err-require c =
    let even : c.if-segments-eq0.require ≡ whole c.args.segments.now c.args.room =
    elim c.if-segments-eq0.branch [
      | then-segments-eq0 w ↦ whole-yes _ _ _ w.if-segments-eq0.true w.require-is
      | else-segments-eq0 w ↦ whole-no _ _ _ w.if-segments-eq0.false w.require-is
    ] in
    then-refused _ none-tested c.in_err-require.ensures even (exit-answer _ _ c.from_residual.ensures.1)

pub returns-in_err-require-2 : goal.returns-in_err-require-2
unfolding segments_front
returns-in_err-require-2 c =
    let even : c.if-segments-eq0.require ≡ whole c.args.segments.now c.args.room =
    elim c.if-segments-eq0.branch [
      | then-segments-eq0 w ↦ whole-yes _ _ _ w.if-segments-eq0.true w.require-is
      | else-segments-eq0 w ↦ whole-no _ _ _ w.if-segments-eq0.false w.require-is
    ] in
    let t1 = then-held none-tested c.in_ok-require.ensures even in
    then-refused _ t1 c.in_err-require-2.ensures c.few_segments.ensures (exit-answer _ _ c.from_residual-in_err-require-2.ensures.1)

pub returns : goal.returns
unfolding segments_front
returns c =
    let even : c.if-segments-eq0.require ≡ whole c.args.segments.now c.args.room =
    elim c.if-segments-eq0.branch [
      | then-segments-eq0 w ↦ whole-yes _ _ _ w.if-segments-eq0.true w.require-is
      | else-segments-eq0 w ↦ whole-no _ _ _ w.if-segments-eq0.false w.require-is
    ] in
    let t1 = then-held none-tested c.in_ok-require.ensures even in
    let t2 = then-held t1 c.in_ok-require-2.ensures c.few_segments.ensures in
    let shown : c.if-is_segments.require ≡ (segments_shown c.args.segments.now && c.args.others) =
    elim c.if-is_segments.branch [
      | then-is_segments w ↦ rw (sym c.is_segments.ensures ∙ w.if-is_segments.true) w.require-is
      | else-is_segments w ↦ rw (sym c.is_segments.ensures ∙ w.if-is_segments.false) (cc)
    ] in
    then-last t2 c.require-3.ensures shown
