-- `fit::numbers::is_asked` meets its contract.
use mathlib.Core.Path.{◌≡◌, refl, sym, ◌∙◌}
use mathlib.Core.Bool.{Bool, true, false, ◌&&◌}
use Rattle.fit.specs.Numbers.{is_asked}
use Rattle.fit.proofs.numbers.is_asked.Goals as goal
use Rattle.fit.proofs.numbers.is_asked.Goals.{then-by, else-by}

-- the last of three is the conjunction where the first two hold, and it is false where one of them does not
last-of : (x y z : Bool) → x ≡ true → y ≡ true → z ≡ (x && (y && z))
last-of x y z h k = rw (h, k)

none-of : (x y z : Bool) → y ≡ false → false ≡ (x && (y && z))
none-of true y z k = rw k
none-of false y z k = refl

pub returns-then-is_horizontal : goal.returns-then-is_horizontal
unfolding is_asked
returns-then-is_horizontal c =
    elim c.if-by.branch [
      | then-by w ↦ c.count_holds.ensures ∙ last-of _ _ _ w.if-by.true (sym w.is_horizontal.ensures ∙ sym w.value-is ∙ c.if-is_horizontal.true)
      | else-by w ↦ cc
    ]

pub returns-else-is_horizontal : goal.returns-else-is_horizontal
unfolding is_asked
returns-else-is_horizontal c =
    elim c.if-by.branch [
      | then-by w ↦ c.if-is_horizontal.false ∙ none-of _ _ _ (sym w.is_horizontal.ensures ∙ sym w.value-is ∙ c.if-is_horizontal.false)
      | else-by w ↦ c.if-is_horizontal.false ∙ rw w.if-by.false
    ]
