-- `fit::numbers::numbers_shown` meets its contract.
use mathlib.Core.Logic.{inl, inr}
use mathlib.Core.Path.{◌≡◌, sym, ◌∙◌}
use mathlib.Core.Bool.{Bool, true, false, ◌&&◌}
use mir.Syntax.{w32}
use Rattle.signed.proofs.By.{by₂, by₃}
use Rattle.words.specs.Word.{word_at}
use Rattle.words.proofs.Fields.{kept}
use Rattle.words_shape.specs.Shape.{choice}
use Rattle.words_call.specs.Lent.{both_in, choices}
use Rattle.fit.specs.Numbers.{numbers_shown}
use Rattle.fit.proofs.numbers.numbers_shown.Goals as goal
use Rattle.fit.proofs.numbers.numbers_shown.Goals.{then-first, else-first}

-- the last of three is the conjunction where the first two hold, and it is false where one of them does not
last-of : (x y z : Bool) → x ≡ true → y ≡ true → z ≡ (x && (y && z))
last-of x y z h k = rw (h, k)

none-first : (x y : Bool) → x ≡ false → false ≡ (x && y)
none-first x y h = rw h

none-second : (x y z : Bool) → x ≡ true → y ≡ false → false ≡ (x && (y && z))
none-second x y z h k = rw (h, k)

pub returns-then-second : goal.returns-then-second
unfolding numbers_shown
returns-then-second c =
    let w1 = c.word_at in
    let w2 = c.word_at-2 in
    let w3 = c.word_at-3 in
    let w4 = c.word_at-4 in
    let w5 = c.word_at-5 in
    let w6 = c.word_at-6 in
    let w7 = c.word_at-7 in
    let w8 = c.word_at-8 in
    let one = by₃ choices c.are_choices-first.ensures (kept w32 w1.result w1.type_inv ∙ w1.ensures) (kept w32 w2.result w2.type_inv ∙ w2.ensures)
    (kept w32 w3.result w3.type_inv ∙ w3.ensures) in
    let two = by₃ choices c.are_choices-second.ensures (kept w32 w4.result w4.type_inv ∙ w4.ensures) (kept w32 w5.result w5.type_inv ∙ w5.ensures)
    (kept w32 w6.result w6.type_inv ∙ w6.ensures) in
    by₂ (both_in choice) c.both_in-last.ensures (kept w32 w7.result w7.type_inv ∙ w7.ensures) (kept w32 w8.result w8.type_inv ∙ w8.ensures)
    ∙ last-of _ _ _ (sym one ∙ c.if-second.true.0) (sym two ∙ c.if-second.true.1)

pub returns-else-second : goal.returns-else-second
unfolding numbers_shown
returns-else-second c =
    let w1 = c.word_at in
    let w2 = c.word_at-2 in
    let w3 = c.word_at-3 in
    let w4 = c.word_at-4 in
    let w5 = c.word_at-5 in
    let w6 = c.word_at-6 in
    let one = by₃ choices c.are_choices-first.ensures (kept w32 w1.result w1.type_inv ∙ w1.ensures) (kept w32 w2.result w2.type_inv ∙ w2.ensures)
    (kept w32 w3.result w3.type_inv ∙ w3.ensures) in
    let two = by₃ choices c.are_choices-second.ensures (kept w32 w4.result w4.type_inv ∙ w4.ensures) (kept w32 w5.result w5.type_inv ∙ w5.ensures)
    (kept w32 w6.result w6.type_inv ∙ w6.ensures) in
    let s = c.args.words.now in
    let rest : Bool = choices (word_at s 3) (word_at s 4) (word_at s 5) && both_in choice (word_at s 6) (word_at s 8) in
    elim c.if-first.branch [
      | then-first w ↦
          elim c.if-second.either [
            | inl e ↦ w.t-10-is ∙ e.1 ∙ none-second _ _ _ (sym one ∙ e.0) (sym two ∙ e.1)
            | inr e ↦ cc
          ]
      | else-first w ↦ w.t-10-is ∙ w.if-first.false ∙ none-first _ rest (sym one ∙ w.if-first.false)
    ]
