-- Sums over lines, of which the crossings upward and downward are two; and a closed chain of lines goes over each height up as often as down. Assumes nothing.
use mathlib.Core.Path.{◌≡◌, refl, ap, ◌∙◌, sym}
use mathlib.Core.Bool.{Bool, true, false}
use mathlib.Core.List.{List, [], ◌∷◌, ◌++◌}
use Prim.Native.Nat.{ℕ, suc, ◌+◌, ◌*◌, ◌≤◌}
use native.Mathlib.Omega.{arith}
use lib.Dec.{ltb}
use lib.ListN.{length}
use Rattle.shown_rows.specs.Turns.{bit}
use Rattle.shown_rows.specs.Chains.{upward, downward, ending}
use Rattle.shown_rows.specs.Chains.{ups as rises, downs as falls}
use Rattle.shown_rows.proofs.Closed.{closed, few}
use Rattle.shown.specs.Shown.{Place, Side, lines_by, crosses, ups, downs}
use Rattle.shown.proofs.Crossings.{crosses-most, crosses-all}

-- the sum of a number for each line, by its start and its end
unfoldable pub tally : (Place → Place → ℕ) → List Side → ℕ
tally f [] = 0
tally f (s ∷ ss) = f s.start s.end + tally f ss

pub tally-append : (f : Place → Place → ℕ) (ss ts : List Side) → tally f (ss ++ ts) ≡ tally f ss + tally f ts
unfolding tally
tally-append f [] ts = omega arith
tally-append f (s ∷ ss) ts = omega (arith, tally-append f ss ts)

tally-most : (f g : Place → Place → ℕ) → ((l h : Place) → f l h ≤ g l h) → (ss : List Side) → tally f ss ≤ tally g ss
unfolding tally
tally-most f g e [] = omega arith
tally-most f g e (s ∷ ss) = omega (arith, e s.start s.end, tally-most f g e ss)

-- ---- crossings
-- 1 where a line crosses upward, and where it does downward
abbrev pub up_at : ℕ → ℕ → Place → Place → ℕ
up_at x y l h = bit (crosses l h x y)

abbrev pub down_at : ℕ → ℕ → Place → Place → ℕ
down_at x y l h = bit (crosses h l x y)

pub ups-are : (x y : ℕ) (ss : List Side) → ups ss x y ≡ tally (up_at x y) ss
unfolding ups tally
ups-are x y [] = refl
ups-are x y (s ∷ ss) = ap (λ (z : ℕ). bit (crosses s.start s.end x y) + z) (ups-are x y ss)

pub downs-are : (x y : ℕ) (ss : List Side) → downs ss x y ≡ tally (down_at x y) ss
unfolding downs tally
downs-are x y [] = refl
downs-are x y (s ∷ ss) = ap (λ (z : ℕ). bit (crosses s.end s.start x y) + z) (downs-are x y ss)

-- 1 where a line goes upward over a height, wherever it does, and where it goes downward
abbrev pub rise_at : ℕ → Place → Place → ℕ
rise_at y l h = upward (ltb y l.y) (ltb y h.y)

abbrev pub fall_at : ℕ → Place → Place → ℕ
fall_at y l h = downward (ltb y l.y) (ltb y h.y)

-- a line falls where it rises turned around
turned-rise : (a b : Bool) → upward b a ≡ downward a b
turned-rise true true = refl
turned-rise true false = refl
turned-rise false true = refl
turned-rise false false = refl

pub ups-most : (x y : ℕ) (ss : List Side) → ups ss x y ≤ tally (rise_at y) ss
ups-most x y ss = omega (arith, ups-are x y ss, tally-most (up_at x y) (rise_at y) (λ l h. crosses-most l h x y) ss)

pub downs-most : (x y : ℕ) (ss : List Side) → downs ss x y ≤ tally (fall_at y) ss
downs-most x y ss =
    omega (
      arith,
      downs-are x y ss,
      tally-most (down_at x y) (fall_at y) (λ l h. omega (arith, crosses-most h l x y, turned-rise (ltb y l.y) (ltb y h.y))) ss,
    )

-- right of both its ends a line crosses where it rises or falls
pub up-rise : (x y : ℕ) (l h : Place) → l.x ≤ x → h.x ≤ x → rise_at y l h ≡ up_at x y l h
up-rise x y l h p q = sym (crosses-all l h x y p q)

pub down-fall : (x y : ℕ) (l h : Place) → l.x ≤ x → h.x ≤ x → fall_at y l h ≡ down_at x y l h
down-fall x y l h p q = sym (crosses-all h l x y q p ∙ turned-rise (ltb y l.y) (ltb y h.y))

-- ---- a chain of lines
-- the heights that it goes by
unfoldable heights : Place → List Place → List ℕ
heights start [] = start.y ∷ []
heights start (q ∷ qs) = q.y ∷ heights start qs

heights-end : (start : Place) (a : ℕ) (qs : List Place) → ending a (heights start qs) ≡ start.y
unfolding heights ending
heights-end start a [] = refl
heights-end start a (q ∷ qs) = heights-end start q.y qs

heights-length : (start : Place) (qs : List Place) → length (heights start qs) ≡ suc (length qs)
unfolding heights
heights-length start [] = refl
heights-length start (q ∷ qs) = ap suc (heights-length start qs)

module _ (start : Place) (y : ℕ) where
  chain-rises : (p : Place) (qs : List Place) → tally (rise_at y) (lines_by start p qs) ≡ rises y p.y (heights start qs)
  unfolding lines_by tally heights rises
  chain-rises p [] = refl
  chain-rises p (q ∷ qs) = ap (λ (z : ℕ). rise_at y p q + z) (chain-rises q qs)

  chain-falls : (p : Place) (qs : List Place) → tally (fall_at y) (lines_by start p qs) ≡ falls y p.y (heights start qs)
  unfolding lines_by tally heights falls
  chain-falls p [] = refl
  chain-falls p (q ∷ qs) = ap (λ (z : ℕ). fall_at y p q + z) (chain-falls q qs)

  -- a closed one goes up as often as down
  pub chain-even : (qs : List Place) → tally (rise_at y) (lines_by start start qs) ≡ tally (fall_at y) (lines_by start start qs)
  chain-even qs = chain-rises start qs ∙ closed y start.y (heights start qs) (heights-end start start.y qs) ∙ sym (chain-falls start qs)

  -- and so, of k lines, at most k / 2 times
  pub chain-few : (qs : List Place) → 2 * tally (rise_at y) (lines_by start start qs) ≤ suc (length qs)
  chain-few qs =
      omega (
        arith,
        chain-even qs,
        chain-rises start qs,
        chain-falls start qs,
        few y start.y (heights start qs),
        heights-length start qs,
      )
