-- The digits of a line of a log (document 02, #103): a byte is two upper-case hexadecimal digits, a number two bytes as two's complement, the high one first each
-- time. A line is the list of its characters' codes.
use Rattle.std.specs.Prelude.{Bool, true, cond, ◌&&◌, ◌||◌, List, [], ◌∷◌, ◌++◌, ℕ, ◌+◌, ◌-◌, ◌*◌, ◌/◌, ◌%◌, ◌<◌, leb, ltb, length, get_or, take, drop, ℤ}
use Rattle.std.specs.Int.{w16}
use Rattle.std.proofs.Common.{to_z, of_z}

-- ---- digits
-- the digit of a value below 16: 0 to 9, A to F
unfoldable pub digit_of : ℕ → ℕ
digit_of value = cond (ltb value 10) (48 + value) (55 + value)

-- a character that is 0 to 9, and one that is A to F
abbrev pub is_figure : ℕ → Bool
is_figure char = leb 48 char && leb char 57

abbrev pub is_letter : ℕ → Bool
is_letter char = leb 65 char && leb char 70

-- a character that is a digit
unfoldable pub is_digit : ℕ → Bool
is_digit char = is_figure char || is_letter char

-- each character of a line is one
unfoldable pub all_digits : List ℕ → Bool
all_digits [] = true
all_digits (char ∷ line) = is_digit char && all_digits line

-- the value of a digit; a character that is none reads as 0
unfoldable pub value_of : ℕ → ℕ
value_of char = cond (is_figure char) (char - 48) (cond (is_letter char) (char - 55) 0)

-- ---- bytes
-- numbers that are bytes, as those of every list of `u8` are
abbrev pub Bytes : List ℕ → Type 0
Bytes bytes = (i : ℕ) → get_or bytes i 0 < 256

-- the digits of bytes, one behind the other
unfoldable pub digits_of : List ℕ → List ℕ
digits_of [] = []
digits_of (byte ∷ bytes) = digit_of (byte / 16) ∷ digit_of (byte % 16) ∷ digits_of bytes

-- how many digits so many bytes have
abbrev pub digits_for : ℕ → ℕ
digits_for count = 2 * count

-- the byte whose digits stand at its place in a line
unfoldable pub byte_at : List ℕ → ℕ → ℕ
byte_at line i = 16 * value_of (get_or line (digits_for i) 0) + value_of (get_or line (digits_for i + 1) 0)

-- a line with the digits of bytes written from the place of byte `at` on; what stands in front of them and behind them is kept
unfoldable pub written : List ℕ → ℕ → List ℕ → List ℕ
written line at bytes = take (digits_for at) line ++ digits_of bytes ++ drop (digits_for (at + length bytes)) line

-- ---- numbers
-- the high and the low byte of a number
unfoldable pub high_of : ℤ → ℕ
high_of z = of_z w16 z / 256

unfoldable pub low_of : ℤ → ℕ
low_of z = of_z w16 z % 256

-- the number of a high and a low byte
unfoldable pub number_of : ℕ → ℕ → ℤ
number_of high low = to_z w16 (256 * high + low)

-- the number whose bytes stand from a place on
abbrev pub number_at : List ℕ → ℕ → ℤ
number_at line i = number_of (byte_at line i) (byte_at line (i + 1))
