-- Turning every line around changes neither number. Assumes nothing.
use mathlib.Core.Path.{◌≡◌, refl, sym, ap, ◌∙◌}
use mathlib.Core.Bool.{Bool, true, false, not}
use mathlib.Core.List.{List, [], ◌∷◌}
use Prim.Native.Nat.{ℕ, ◌+◌}
use borrow.Author.Tests.{eqb-true, eqb-false, eq-eqb, ne_eqb}
use lib.Dec.{eqb}
use Rattle.shown_rows.specs.Turns.{most_columns, bit}
use Rattle.shown_rows.specs.Crossing.{centre}
use Rattle.shown.specs.Shown.{Side, crosses, ups, downs, black, black_count, euler}
use Rattle.shown.specs.Moves.{turned, ShowSame}

-- lines that make the same pixels black show the same
same-pixels : (ss ss' : List Side) → ((i j : ℕ) → black ss' i j ≡ black ss i j) → ShowSame ss ss'
same-pixels ss ss' h = record { blacks = λ t. black_count (λ i j. h i j t) most_columns; eulers = λ t. euler (λ i j. h i j t) most_columns }

turned-ups : (ss : List Side) (x y : ℕ) → ups (turned ss) x y ≡ downs ss x y
unfolding turned ups downs
turned-ups [] x y = refl
turned-ups (s ∷ ss) x y = ap (λ (z : ℕ). bit (crosses s.end s.start x y) + z) (turned-ups ss x y)

turned-downs : (ss : List Side) (x y : ℕ) → downs (turned ss) x y ≡ ups ss x y
unfolding turned ups downs
turned-downs [] x y = refl
turned-downs (s ∷ ss) x y = ap (λ (z : ℕ). bit (crosses s.start s.end x y) + z) (turned-downs ss x y)

eqb-turned : (a b : ℕ) → eqb b a ≡ eqb a b
eqb-turned a b = by (eqb a b) refl
  where
    by : (t : Bool) → eqb a b ≡ t → eqb b a ≡ t
    by true e = eq-eqb b a (sym (eqb-true a b e))
    by false e = ne_eqb b a (λ q. eqb-false a b e (sym q))

pub turned-black : (ss : List Side) (i j : ℕ) → black (turned ss) i j ≡ black ss i j
turned-black ss i j =
    let u = turned-ups ss (centre i) (centre j) in
    let d = turned-downs ss (centre i) (centre j) in
    (λ t. not (eqb (u t) (d t))) ∙ ap not (eqb-turned (ups ss (centre i) (centre j)) (downs ss (centre i) (centre j)))

pub turned-shows : (ss : List Side) → ShowSame ss (turned ss)
turned-shows ss = same-pixels ss (turned ss) (turned-black ss)
