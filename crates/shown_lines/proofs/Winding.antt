-- What lines wind: one line, none, and one list of lines behind the other. Assumes nothing.
use mathlib.Core.Path.{◌≡◌, refl, sym, ap, ◌∙◌, subst}
use mathlib.Core.Logic.{⊎_elim}
use mathlib.Core.Bool.{Bool, true, false, ◌&&◌}
use mathlib.Core.List.{List, [], ◌∷◌, ◌++◌}
use Prim.Native.Nat.{ℕ, ◌+◌, ◌-◌, ◌*◌, ◌%◌, ◌≤◌, ◌<◌}
use native.Mathlib.Nat.{mod-add-mod}
use native.Mathlib.Omega.{arith}
use borrow.Author.Tests.{lt-ltb, le-ltb, le-leb, lt-leb}
use lib.Dec.{leb}
use lib.ListN.{length}
use Rattle.signed.proofs.Signed.{lt-or-le}
use Rattle.shown_rows.specs.Turns.{bit}
use Rattle.shown_rows.specs.Crossing.{centre, LeftOf}
use Rattle.shown_rows.specs.Changes.{up_to, Added}
use Rattle.shown.specs.Shown.{Place, Side, side, crosses, ups, downs}
use Rattle.shown_lines.specs.Lines.{placed, Stays, below, above, Wound}

-- ---- modulo 65,536
modulo : (a b : ℕ) → a ≡ b → a % 65536 ≡ b % 65536
modulo a b e = ap (λ (z : ℕ). z % 65536) e

modulo-more : (c a b : ℕ) → a % 65536 ≡ b % 65536 → (a + c) % 65536 ≡ (b + c) % 65536
modulo-more c a b e = sym (mod-add-mod a 65536 c) ∙ ap (λ (z : ℕ). (z + c) % 65536) e ∙ mod-add-mod b 65536 c

-- ---- one line
module _ (l h : Place) (x y : ℕ) where
  -- it goes up over y at or left of x
  bit-crossed : l.y ≤ y → y < h.y → LeftOf l.x l.y h.x h.y y x → bit (crosses l h x y) ≡ 1
  bit-crossed p q k = rw (le-leb _ _ p, lt-ltb _ _ q, le-leb _ _ k)

  -- or right of it
  bit-missed : l.y ≤ y → y < h.y → x * (h.y - l.y) < l.x * (h.y - y) + h.x * (y - l.y) → bit (crosses l h x y) ≡ 0
  bit-missed p q k = rw (le-leb _ _ p, lt-ltb _ _ q, lt-leb _ _ k)

  -- it starts above y
  bit-above : y < l.y → bit (crosses l h x y) ≡ 0
  bit-above p = rw (lt-leb _ _ p)

  -- it ends at or below y
  bit_below : h.y ≤ y → bit (crosses l h x y) ≡ 0
  bit_below p = rw (le-ltb _ _ p) (by (leb l.y y))
    where
      by : (b : Bool) → bit (b && false) ≡ 0
      by true = refl
      by false = refl

ups-one : (s : Side) (x y : ℕ) → ups (s ∷ []) x y ≡ bit (crosses s.start s.end x y)
unfolding ups
ups-one s x y = omega arith

downs-one : (s : Side) (x y : ℕ) → downs (s ∷ []) x y ≡ bit (crosses s.end s.start x y)
unfolding downs
downs-one s x y = omega arith

stays-ups : (p q : Place) (x y : ℕ) → Stays p.y q.y y → bit (crosses p q x y) ≡ 0
stays-ups p q x y (below a b) = bit_below p q x y b
stays-ups p q x y (above a b) = bit-above p q x y a

stays-turned : (a b y : ℕ) → Stays a b y → Stays b a y
stays-turned a b y (below p q) = below q p
stays-turned a b y (above p q) = above q p

module _ (left px py qx qy y : ℕ) (l l' : List ℕ) where
  -- the line goes up over y
  pub wound-up : py ≤ y → y < qy → Added left px py qx qy y 1 l l' → Wound (side (placed px py) (placed qx qy) ∷ []) left y l l'
  wound-up p q a = record {
    as_long = a.as_long;
    sums = λ i h.
        let x = centre (left + i) in
        let u = ups-one (side (placed px py) (placed qx qy)) x y in
        let d = downs-one (side (placed px py) (placed qx qy)) x y in
        let n = bit-above (placed qx qy) (placed px py) x y q in
        ⊎_elim
        (λ k. modulo _ _ (omega (arith, u, d, n, a.same i h (λ z. omega (arith, k, z)), bit-missed (placed px py) (placed qx qy) x y p q k)))
        (λ k. a.more i h k ∙ modulo _ _ (omega (arith, u, d, n, bit-crossed (placed px py) (placed qx qy) x y p q k)))
        (lt-or-le (x * (qy - py)) (px * (qy - y) + qx * (y - py)));
  }

  -- or down over it
  pub wound-down : qy ≤ y → y < py → Added left qx qy px py y 65535 l l' → Wound (side (placed px py) (placed qx qy) ∷ []) left y l l'
  wound-down p q a = record {
    as_long = a.as_long;
    sums = λ i h.
        let x = centre (left + i) in
        let u = ups-one (side (placed px py) (placed qx qy)) x y in
        let d = downs-one (side (placed px py) (placed qx qy)) x y in
        let n = bit-above (placed px py) (placed qx qy) x y q in
        ⊎_elim
        (λ k. modulo _ _ (omega (arith, u, d, n, a.same i h (λ z. omega (arith, k, z)), bit-missed (placed qx qy) (placed px py) x y p q k)))
        (λ k. a.more i h k ∙ modulo _ _ (omega (arith, u, d, n, bit-crossed (placed qx qy) (placed px py) x y p q k)))
        (lt-or-le (x * (py - qy)) (qx * (py - y) + px * (y - qy)));
  }

-- ---- lines that wind nothing
pub record Still (ss : List Side) (y : ℕ) : Type 0 where
  pub no_ups : (x : ℕ) → ups ss x y ≡ 0
  pub no_downs : (x : ℕ) → downs ss x y ≡ 0

pub still-none : (y : ℕ) → Still [] y
unfolding ups downs
still-none y = record { no_ups = λ x. refl; no_downs = λ x. refl }

pub still-more : (p q : Place) (y : ℕ) (ss : List Side) → Stays p.y q.y y → Still ss y → Still (side p q ∷ ss) y
unfolding ups downs
still-more p q y ss s t = record {
  no_ups = λ x. omega (arith, stays-ups p q x y s, t.no_ups x);
  no_downs = λ x. omega (arith, stays-ups q p x y (stays-turned p.y q.y y s), t.no_downs x);
}

pub wound-still : (ss : List Side) (left y : ℕ) (l : List ℕ) → Still ss y → Wound ss left y l l
wound-still ss left y l s = record { as_long = refl; sums = λ i h. modulo _ _ (omega (arith, s.no_ups (centre (left + i)), s.no_downs (centre (left + i)))) }

-- a line that stays on one side of y
pub wound-stays : (left px py qx qy y : ℕ) (l : List ℕ) → Stays py qy y → Wound (side (placed px py) (placed qx qy) ∷ []) left y l l
wound-stays left px py qx qy y l s = wound-still _ left y l (still-more (placed px py) (placed qx qy) y [] s (still-none y))

-- ---- one list behind the other
ups-more : (p q : List Side) (x y : ℕ) → ups (p ++ q) x y ≡ ups p x y + ups q x y
unfolding ups
ups-more [] q x y = omega arith
ups-more (s ∷ p) q x y = omega (arith, ups-more p q x y)

downs-more : (p q : List Side) (x y : ℕ) → downs (p ++ q) x y ≡ downs p x y + downs q x y
unfolding downs
downs-more [] q x y = omega arith
downs-more (s ∷ p) q x y = omega (arith, downs-more p q x y)

-- ---- lines that wind the same
pub record Alike (p q : List Side) : Type 0 where
  pub ups_same : (x y : ℕ) → ups p x y ≡ ups q x y
  pub downs_same : (x y : ℕ) → downs p x y ≡ downs q x y

pub alike_same : (p : List Side) → Alike p p
alike_same p = record { ups_same = λ x y. refl; downs_same = λ x y. refl }

pub alike-more : (r p q : List Side) → Alike p q → Alike (r ++ p) (r ++ q)
alike-more r p q a = record {
  ups_same = λ x y. omega (arith, ups-more r p x y, ups-more r q x y, a.ups_same x y);
  downs_same = λ x y. omega (arith, downs-more r p x y, downs-more r q x y, a.downs_same x y);
}

-- a line of no height beside them
pub alike-flat : (l : Place) (p q : List Side) → Alike p q → Alike p (side l l ∷ q)
unfolding ups downs
alike-flat l p q a = record {
  ups_same = λ x y. omega (arith, a.ups_same x y, flat x y);
  downs_same = λ x y. omega (arith, a.downs_same x y, flat x y);
}
  where
    flat : (x y : ℕ) → bit (crosses l l x y) ≡ 0
    flat x y = ⊎_elim (λ h. bit-above l l x y h) (λ h. bit_below l l x y h) (lt-or-le y l.y)

-- ---- what is left to add
-- the lines that are left, with what is added, wind what the whole does
pub record Owing (left y : ℕ) (l₀ : List ℕ) (whole : List Side) (l : List ℕ) (rest : List Side) : Type 0 where
  pub as_long : length l ≡ length l₀
  pub sums : (i : ℕ) → i < length l₀
      → (up_to l i + ups rest (centre (left + i)) y + 65535 * downs rest (centre (left + i)) y) % 65536
      ≡ (up_to l₀ i + ups whole (centre (left + i)) y + 65535 * downs whole (centre (left + i)) y) % 65536

-- at first all of them are left
pub owing : (left y : ℕ) (l : List ℕ) (whole : List Side) → Owing left y l whole l whole
owing left y l whole = record { as_long = refl; sums = λ i h. refl }

module _ {left y : ℕ} {l₀ : List ℕ} {whole : List Side} {l : List ℕ} where
  pub owing-as : (p q : List Side) → p ≡ q → Owing left y l₀ whole l p → Owing left y l₀ whole l q
  owing-as p q e o = subst (λ (x : List Side). Owing left y l₀ whole l x) e o

  pub owing-alike : (p q : List Side) → Alike p q → Owing left y l₀ whole l p → Owing left y l₀ whole l q
  owing-alike p q a o = record {
    as_long = o.as_long;
    sums = λ i h. modulo _ _ (omega (arith, a.ups_same (centre (left + i)) y, a.downs_same (centre (left + i)) y)) ∙ o.sums i h;
  }

  pub owing-more : (l' : List ℕ) (p q : List Side) → Wound p left y l l' → Owing left y l₀ whole l (p ++ q) → Owing left y l₀ whole l' q
  owing-more l' p q w o = record {
    as_long = omega (arith, w.as_long, o.as_long);
    sums = λ i h.
        let x = centre (left + i) in
        let k : i < length l = omega (arith, o.as_long) in
        modulo (up_to l' i + ups q x y + 65535 * downs q x y) (up_to l' i + (ups q x y + 65535 * downs q x y)) (omega arith)
        ∙ modulo-more (ups q x y + 65535 * downs q x y) _ _ (w.sums i k)
        ∙ modulo (up_to l i + ups p x y + 65535 * downs p x y + (ups q x y + 65535 * downs q x y)) (up_to l i + ups (p ++ q) x y + 65535 * downs (p ++ q) x y)
        (omega (arith, ups-more p q x y, downs-more p q x y))
        ∙ o.sums i h;
  }

  pub owing-done : Owing left y l₀ whole l [] → Wound whole left y l₀ l
  unfolding ups downs
  owing-done o = record { as_long = o.as_long; sums = λ i h. omega (arith, o.sums i h) }
