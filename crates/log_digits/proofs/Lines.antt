-- A line of digits and the bytes that it stands for.
use mathlib.Core.Path.{◌≡◌, refl, ap, ◌∙◌}
use mathlib.Core.Bool.{true, false, ◌&&◌}
use mathlib.Core.List.{List, [], ◌∷◌, ◌++◌}
use Prim.Native.Nat.{ℕ, zero, suc, ◌+◌, ◌*◌, ◌/◌, ◌%◌, ◌≤◌, ◌<◌}
use native.Mathlib.Numerals.{add-one}
use native.Mathlib.Omega.{arith}
use lib.ListN.{length, get_or, drop, drop_of_length-le}
use lib.Seq.{drop-cons}
use Rattle.refusals.proofs.Tests.{and_first, and_second}
use Rattle.log_digits.specs.Digits.{digit_of, is_digit, all_digits, value_of, Bytes, digits_of, digits_for, byte_at}
use Rattle.log_digits.proofs.Characters.{value-small, digit_value, value-digit, digit-is}

-- ---- the test of a line, one character at a time
-- a character that is none ends it
pub digits-stop : (line : List ℕ) (i : ℕ) → i < length line → is_digit (get_or line i 0) ≡ false → all_digits (drop i line) ≡ false
unfolding all_digits
digits-stop line i h e = rw (drop-cons line i 0 h, e)

-- one that is a digit hands over to the rest
pub digits-on : (line : List ℕ) (i : ℕ) → i < length line → is_digit (get_or line i 0) ≡ true → all_digits (drop i line) ≡ all_digits (drop (i + 1) line)
unfolding all_digits
digits-on line i h e = rw (drop-cons line i 0 h, e, add-one)

-- and behind the last nothing is left
pub digits-end : (line : List ℕ) (i : ℕ) → length line ≤ i → all_digits (drop i line) ≡ true
unfolding all_digits
digits-end line i h = rw (drop_of_length-le line h)

-- ---- bytes
-- a byte is below 256
pub byte_small : (line : List ℕ) (i : ℕ) → byte_at line i < 256
unfolding byte_at
byte_small line i = omega (arith, value-small (get_or line (digits_for i) 0), value-small (get_or line (digits_for i + 1) 0))

-- the first byte, and those behind it
byte-first : (x y : ℕ) (line : List ℕ) → byte_at (x ∷ y ∷ line) 0 ≡ 16 * value_of x + value_of y
unfolding byte_at
byte-first x y line = refl

byte_next : (x y : ℕ) (line : List ℕ) (i : ℕ) → byte_at (x ∷ y ∷ line) (suc i) ≡ byte_at line i
unfolding byte_at
byte_next x y line i =
    let e : digits_for (suc i) ≡ suc (suc (digits_for i)) = omega arith in let f : digits_for (suc i) + 1 ≡ suc (suc (digits_for i + 1)) = omega arith in rw (f, e)

-- ---- from bytes to digits
-- two digits for each byte
pub digits-length : (bytes : List ℕ) → length (digits_of bytes) ≡ digits_for (length bytes)
unfolding digits_of
digits-length [] = refl
digits-length (b ∷ bytes) = omega (arith, digits-length bytes)

-- bytes behind bytes
pub digits_append : (xs ys : List ℕ) → digits_of (xs ++ ys) ≡ digits_of xs ++ digits_of ys
unfolding digits_of
digits_append [] ys = refl
digits_append (x ∷ xs) ys = ap (λ (l : List ℕ). digit_of (x / 16) ∷ digit_of (x % 16) ∷ l) (digits_append xs ys)

-- they are digits
pub digits-all : (bytes : List ℕ) → Bytes bytes → all_digits (digits_of bytes) ≡ true
unfolding digits_of all_digits
digits-all [] h = refl
digits-all (b ∷ bytes) h =
    let s = h 0 in
    rw (digit-is (b / 16) (omega arith), digit-is (b % 16) (omega arith)) (digits-all bytes (λ i. h (suc i)))

-- and stand for the bytes
pub byte-back : (bytes : List ℕ) → Bytes bytes → (i : ℕ) → i < length bytes → byte_at (digits_of bytes) i ≡ get_or bytes i 0
unfolding digits_of
byte-back [] h i k = absurd (omega arith)
byte-back (b ∷ bytes) h (suc i) k = byte_next (digit_of (b / 16)) (digit_of (b % 16)) (digits_of bytes) i ∙ byte-back bytes (λ j. h (suc j)) i (omega arith)
byte-back (b ∷ bytes) h zero k =
    let s = h 0 in
    byte-first (digit_of (b / 16)) (digit_of (b % 16)) (digits_of bytes) ∙ omega (arith, value-digit (b / 16) (omega arith), value-digit (b % 16) (omega arith))

-- ---- from digits to bytes
-- bytes that a line of digits stands for have its digits
pub digits-back :
    (bytes line : List ℕ) → length line ≡ digits_for (length bytes) → all_digits line ≡ true → ((i : ℕ) → i < length bytes → get_or bytes i 0 ≡ byte_at line i)
    → digits_of bytes ≡ line
unfolding digits_of all_digits
digits-back [] [] e d h = refl
digits-back [] (x ∷ line) e d h = absurd (omega arith)
digits-back (b ∷ bytes) [] e d h = absurd (omega arith)
digits-back (b ∷ bytes) (x ∷ []) e d h = absurd (omega arith)
digits-back (b ∷ bytes) (x ∷ y ∷ line) e d h =
    let first = h 0 (omega arith) ∙ byte-first x y line in
    let x-is = and_first (is_digit x) (is_digit y && all_digits line) d in
    let rest = and_second (is_digit x) (is_digit y && all_digits line) d in
    let y-is = and_first (is_digit y) (all_digits line) rest in
    let high : b / 16 ≡ value_of x = omega (arith, first, value-small x, value-small y) in
    let low : b % 16 ≡ value_of y = omega (arith, first, value-small x, value-small y) in
    let tail = digits-back bytes line (omega arith) (and_second (is_digit y) (all_digits line) rest) (λ i k. h (suc i) (omega arith) ∙ byte_next x y line i) in
    rw (high, low, digit_value x x-is, digit_value y y-is, tail)
