-- What the first of two tests, one of which is to hold, decides.
use mathlib.Core.Path.{◌≡◌}
use mathlib.Core.Bool.{Bool, true, false, ◌||◌}

pub first_holds : (a b : Bool) → a ≡ true → true ≡ (a || b)
first_holds a b h = rw h

pub second-decides : (a b : Bool) {r : Bool} → a ≡ false → r ≡ b → r ≡ (a || b)
second-decides a b h e = rw h e
