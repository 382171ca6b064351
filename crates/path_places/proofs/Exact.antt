-- The quotient of a small whole number by a power of two is exact in an f32.
-- `unique`: two values of one format with the same sign and size are the same float. `over-exact`: `over z k` is z / 2 ^ k, for every z and k.
-- `div-exact`: below 2 ^ 24, an integer as an f32, divided by 2 ^ k, is `over z k`. Assumes nothing.
use mathlib.Core.Path.{◌≡◌, refl, sym, ap, ◌∙◌, subst}
use Prim.Native.Nat.{ℕ, zero, suc, ◌+◌, ◌-◌, ◌*◌, ◌/◌, ◌^◌, ◌≤◌, ◌<◌}
use native.Mathlib.Nat.{
  le_of_lt,
  lt_of_lt_of_le,
  mul-one,
  one-mul,
  mul_assoc,
  mul_right_comm,
  mul-pos,
  zero-lt-suc,
  zero-add,
  add_comm,
  le_refl,
  le_trans,
  le_of_eq,
  le-suc,
}
use native.Mathlib.Omega.{arith}
use mathlib.Core.Bool.{Bool, true, false, not, cond}
use lib.IntN.{ℤ, pos, negsuc, nat_abs, sub_ℕ, ◌+ℤ◌}
use lib.Signed.{mag}
use lib.Count.{count_trailing_zeros}
use lib.Dec.{T, leb, ltb, leb→le, le→leb, lt→ltb, ltb→lt, nleb→lt}
use lib.Pow.{pow-add, pow_pos, pow_mono, shl_lt}
use lib.Ieee.{Float, nan, inf, fin, Format, binary32, prec, low, hid, top, unlike, up, down, minus, size, odd, round, div, of_int, in_float, fits, to_bits, of_bits}
use lib.Ieee.Fits.{down_pos, odd-fits, div-fits}
use lib.Ieee.Exact.{HasValue, odd_sign, round_exact}
use lib.Ieee.Back.{round_whole}
use lib.Ieee.Nearest.{div_same}
use lib.Ieee.Scale.{round_same}
use lib.Ieee.Bits.{of_bits-to_bits}
use Rattle.path_places.specs.Exact.{negative, over, Exactly}

-- the magnitude of a difference
abs-sub : (a b : ℕ) → nat_abs (sub_ℕ a b) ≤ a + b
abs-sub a b = go (ltb a b) (ltb→lt a b)
  where
    go : (p : Bool) → (T p → a < b) → nat_abs (cond p (negsuc (b - suc a)) (pos (a - b))) ≤ a + b
    go true h = let l = h tt in omega arith
    go false h = omega arith

-- ---- a float of a format is told by its sign and its size
-- the bits of a number n · 2 ^ - low
bits_at : Format → Bool → ℕ → ℕ
bits_at f s n = let k = size n - prec f in cond s (top f) 0 + k * hid f + n / 2 ^ k

-- are those of a float of that size
bits_of : (f : Format) (x : Float) (s : Bool) (a c : ℕ) → 0 < c → HasValue x s a c → to_bits f x ≡ bits_at f s (a * 2 ^ low f / c)
unfolding to_bits bits_at
bits_of f nan s a c C v = absurd v
bits_of f (inf t) s a c C v = absurd v
bits_of f (fin t m e) s a c C v =
    ap (λ (u : Bool). bits_at f u (m * up e * 2 ^ low f / down e)) v.0
    ∙ ap (λ (n : ℕ). bits_at f s n)
    (div_same (m * up e * 2 ^ low f) (down e) (a * 2 ^ low f) c (down_pos e) C
    (mul_right_comm (m * up e) (2 ^ low f) c ∙ ap (λ (z : ℕ). z * 2 ^ low f) v.1 ∙ mul_right_comm a (down e) (2 ^ low f)))

-- so two floats of one size are the same
pub unique : (f : Format) (x y : Float) (s : Bool) (a c : ℕ) → 0 < c → T (fits f x) → T (fits f y) → HasValue x s a c → HasValue y s a c → x ≡ y
unique f x y s a c C p q v w =
    sym (of_bits-to_bits f x p) ∙ ap (λ (b : ℕ). of_bits f b) (bits_of f x s a c C v ∙ sym (bits_of f y s a c C w)) ∙ of_bits-to_bits f y q

-- ---- `over`
-- it is exact for every z and k
pub over-exact : (z : ℤ) (k : ℕ) → Exactly (over z k) z (2 ^ k)
unfolding over
over-exact z k =
    subst (λ (a : ℕ). HasValue (odd 24 (negative z) (nat_abs z) 0 k) (negative z) a (2 ^ k)) (mul-one (nat_abs z)) (odd_sign 24 (negative z) (nat_abs z) 0 k)

-- a difference of shifted exponents
minus-shift : (c a b : ℕ) → minus (c + a) (c + b) ≡ minus a b
minus-shift c a b = go (leb (c + b) (c + a)) (leb b a) (leb→le (c + b) (c + a)) (nleb→lt (c + b) (c + a)) (leb→le b a) (nleb→lt b a)
  where
    go : (p q : Bool) → (T p → c + b ≤ c + a) → (T (not p) → c + a < c + b) → (T q → b ≤ a) → (T (not q) → a < b)
        → cond p (pos (c + a - (c + b))) (negsuc (c + b - suc (c + a))) ≡ cond q (pos (a - b)) (negsuc (b - suc a))
    go true true h i j k = ap pos (omega arith)
    go true false h i j k = let l = h tt in let m = k tt in absurd (omega arith)
    go false true h i j k = let l = i tt in let m = j tt in absurd (omega arith)
    go false false h i j k = let l = k tt in ap negsuc (omega arith)

-- both powers of two more
odd_shift : (c d : ℕ) (s : Bool) (q l : ℕ) → odd d s q c (c + l) ≡ odd d s q 0 l
unfolding odd
odd_shift c d s zero l = refl
odd_shift c d s (suc q) l =
    ap (λ (e : ℤ). fin s (suc q / 2 ^ count_trailing_zeros d (suc q)) e)
    (minus-shift c (count_trailing_zeros d (suc q)) l ∙ ap (λ (a : ℕ). minus a l) (sym (zero-add (count_trailing_zeros d (suc q)))))

-- within 24 digits, and down to 2 ^ -149, it is a value of an f32
rest : (k : ℕ) → k ≤ 149 → 149 - k + k ≡ 149
rest k h = omega arith

-- below the greatest float
under : (n j : ℕ) → n < 2 ^ 24 → j ≤ 149 → n * 2 ^ j < 2 ^ 277
under n j h i = lt_of_lt_of_le (shl_lt 24 j h) (pow_mono (room j i))
  where
    room : (j : ℕ) → j ≤ 149 → 24 + j ≤ 277
    room j i = omega arith

-- no more digits than there are
drop_le : (k : ℕ) → 149 - k ≤ 149
drop_le k = omega arith

-- so it is a float of 32 bits
over-fits : (z : ℤ) (k : ℕ) → nat_abs z < 2 ^ 24 → k ≤ 149 → T (fits binary32 (over z k))
unfolding over
over-fits z k h i =
    subst (λ (x : Float). T (fits binary32 x))
    (ap (λ (l : ℕ). odd 24 (negative z) (nat_abs z) (149 - k) l) (sym (rest k i)) ∙ odd_shift (149 - k) 24 (negative z) (nat_abs z) k)
    (odd-fits binary32 24 (negative z) (nat_abs z) (149 - k) h (le_of_lt h) (under (nat_abs z) (149 - k) h (drop_le k)))

-- ---- the quotient
-- a whole number's float, divided by 2 ^ k, is its quotient rounded once
div_is : (x : Float) (s : Bool) (n k : ℕ) → HasValue x s n 1 → div binary32 x (fin false 1 (pos k)) ≡ round binary32 s n (2 ^ k)
unfolding div
div_is nan s n k v = absurd v
div_is (inf t) s n k v = absurd v
div_is (fin t m e) s n k v =
    ap (λ (u : Bool). round binary32 u (m * up e * 1) (1 * 2 ^ k * down e)) (plain t ∙ v.0)
    ∙ round_same binary32 s (m * up e * 1) (1 * 2 ^ k * down e) n (2 ^ k) (mul-pos (mul-pos (zero-lt-suc 0) (pow_pos k)) (down_pos e)) (pow_pos k)
    (ap (λ (z : ℕ). z * 2 ^ k) v.1 ∙ mul_right_comm n (down e) (2 ^ k) ∙ mul_assoc n (2 ^ k) (down e)
    ∙ ap (λ (z : ℕ). n * (z * down e)) (sym (one-mul (2 ^ k))))
  where
    plain : (t : Bool) → unlike t false ≡ t
    plain true = refl
    plain false = refl

-- and nothing is rounded
round-exactly : (s : Bool) (n k : ℕ) → n < 2 ^ 24 → k ≤ 149 → HasValue (round binary32 s n (2 ^ k)) s n (2 ^ k)
round-exactly s n k h i =
    round_exact binary32 s n (2 ^ k) n (149 - k) (pow_pos k) h (under n (149 - k) h (drop_le k))
    (ap (λ (j : ℕ). n * 2 ^ j) (sym (rest k i)) ∙ ap (λ (p : ℕ). n * p) (pow-add 2 (149 - k) k) ∙ sym (mul_assoc n (2 ^ (149 - k)) (2 ^ k)))

-- of a magnitude
quotient : (s : Bool) (n k : ℕ) → n < 2 ^ 24 → k ≤ 149 → HasValue (div binary32 (round binary32 s n 1) (fin false 1 (pos k))) s n (2 ^ k)
quotient s n k h i =
    subst (λ (x : Float). HasValue x s n (2 ^ k)) (sym (div_is (round binary32 s n 1) s n k (round_whole binary32 s n (le_of_lt h)))) (round-exactly s n k h i)

-- of a whole number
pub div_value : (z : ℤ) (k : ℕ) → nat_abs z < 2 ^ 24 → k ≤ 149 → Exactly (div binary32 (of_int binary32 z) (fin false 1 (pos k))) z (2 ^ k)
unfolding of_int
div_value (pos n) k h i = quotient false n k h i
div_value (negsuc n) k h i = quotient true (suc n) k h i

-- and it is `over`
pub div-exact : (z : ℤ) (k : ℕ) → nat_abs z < 2 ^ 24 → k ≤ 149 → div binary32 (of_int binary32 z) (fin false 1 (pos k)) ≡ over z k
div-exact z k h i =
    unique binary32 (div binary32 (of_int binary32 z) (fin false 1 (pos k))) (over z k) (negative z) (nat_abs z) (2 ^ k) (pow_pos k)
    (div-fits binary32 (of_int binary32 z) (fin false 1 (pos k))) (over-fits z k h i) (div_value z k h i) (over-exact z k)

-- ---- what the casts and the sums ask
-- the cast asks for 24 digits
pub in-float : (z : ℤ) → nat_abs z ≤ 2 ^ 24 → T (in_float binary32 z)
unfolding in_float
in-float (pos n) h = le→leb n (2 ^ 24) h
in-float (negsuc n) h = lt→ltb n (2 ^ 24) h

-- the magnitude of a sum
pub abs-sum : (a b : ℤ) → nat_abs (a +ℤ b) ≤ nat_abs a + nat_abs b
abs-sum (pos a) (pos b) = le_refl (a + b)
abs-sum (pos a) (negsuc b) = abs-sub a (suc b)
abs-sum (negsuc a) (pos b) = le_trans (abs-sub b (suc a)) (le_of_eq (add_comm b (suc a)))
abs-sum (negsuc a) (negsuc b) = omega arith

-- what a width asks of a magnitude
pub mag-le : (z : ℤ) → mag z ≤ nat_abs z
mag-le (pos n) = le_refl n
mag-le (negsuc n) = le-suc n
