-- Bytes written over a line as digits.
use mathlib.Core.Path.{◌≡◌, refl, ap, ◌∙◌}
use mathlib.Core.List.{List, [], ◌∷◌, ◌++◌, append_assoc}
use Prim.Native.Nat.{ℕ, ◌+◌, ◌*◌, ◌/◌, ◌%◌, ◌≤◌}
use native.Mathlib.Numerals.{add-one}
use native.Mathlib.Omega.{arith}
use lib.ListN.{length, take, drop, set, length-append, length-take, length-drop}
use lib.Seq.{take_at, drop-append-add, drop-drop, sets-eq, paste-zero}
use lib.IntN.{ℤ}
use mir.Syntax.{w16}
use mir.Val.{of_z}
use Rattle.log_digits.specs.Digits.{digit_of, digits_of, digits_for, written, high_of, low_of}
use Rattle.log_digits.proofs.Lines.{digits-length, digits_append}

-- no byte
pub written_none : (line : List ℕ) (at : ℕ) → line ≡ written line at []
unfolding written digits_of
written_none line at = let e : at + 0 ≡ at = omega arith in paste-zero' line (digits_for at) ∙ rw e
  where
    paste-zero' : (line : List ℕ) (n : ℕ) → line ≡ take n line ++ [] ++ drop n line
    paste-zero' line n = let e : n + 0 ≡ n = omega arith in rw e at (paste-zero line n [])

-- one byte, by its two digits
pub written_one :
    (line : List ℕ) (at byte high low : ℕ) → digits_for (at + 1) ≤ length line → high ≡ digit_of (byte / 16) → low ≡ digit_of (byte % 16)
    → set (set line (2 * at) high) (2 * at + 1) low ≡ written line at (byte ∷ [])
unfolding written digits_of
written_one line at byte high low room p q =
    let e : 2 * at + 2 ≡ digits_for (at + 1) = omega arith in
    rw (p, q, add-one (2 * at), ← e) (sets-eq (digit_of (byte / 16) ∷ digit_of (byte % 16) ∷ []) line (2 * at) (omega arith))

-- the line keeps its length
pub written-length : (line bytes : List ℕ) (at : ℕ) → digits_for (at + length bytes) ≤ length line → length (written line at bytes) ≡ length line
unfolding written
written-length line bytes at h = simp (length-append, length-take, length-drop, digits-length bytes) (omega arith)

-- bytes behind bytes
pub written-more :
    (line xs ys : List ℕ) (at : ℕ) → digits_for (at + length xs + length ys) ≤ length line
    → written (written line at xs) (at + length xs) ys ≡ written line at (xs ++ ys)
unfolding written
written-more line xs ys at h =
    rw (
      take_at front rest (digits_for (at + length xs)) front_length,
      behind,
      digits_append xs ys,
      ← append_assoc (take (digits_for at) line) (digits_of xs)
          (digits_of ys),
      end,
    )
  where
    front : List ℕ
    front = take (digits_for at) line ++ digits_of xs

    rest : List ℕ
    rest = drop (digits_for (at + length xs)) line

    front_length : length front ≡ digits_for (at + length xs)
    front_length = simp (length-append, length-take, digits-length xs) (omega arith)

    behind : drop (digits_for (at + length xs + length ys)) (front ++ rest) ≡ drop (digits_for (at + length xs + length ys)) line
    behind =
        let e : digits_for (at + length xs + length ys) ≡ length front + digits_for (length ys) = omega (arith, front_length) in
        let f : digits_for (at + length xs) + digits_for (length ys) ≡ digits_for (at + length xs + length ys) = omega arith in
        ap (λ (k : ℕ). drop k (front ++ rest)) e ∙ drop-append-add front rest (digits_for (length ys))
        ∙ drop-drop (digits_for (length ys)) (digits_for (at + length xs)) line
        ∙ ap (λ (k : ℕ). drop k line) f

    end : digits_for (at + length (xs ++ ys)) ≡ digits_for (at + length xs + length ys)
    end = simp length-append (omega arith)

-- the same of the lines that a row of calls leaves
pub written_then :
    (line : List ℕ) {first last : List ℕ} (at place : ℕ) (xs ys : List ℕ) → place ≡ at + length xs → digits_for (place + length ys) ≤ length line
    → first ≡ written line at xs → last ≡ written first place ys → last ≡ written line at (xs ++ ys)
written_then line {first} {last} at place xs ys e room p q =
    q ∙ (λ i. written (p i) (e i) ys) ∙ written-more line xs ys at (omega (arith, e))

-- a number by its two bytes
pub number-written :
    (line : List ℕ) {first last : List ℕ} (at : ℕ) (z : ℤ) (bits : ℕ) → bits ≡ of_z w16 z → digits_for (at + 2) ≤ length line
    → first ≡ written line at (bits / 256 ∷ [])
    → last ≡ written first (at + 1) (bits % 256 ∷ []) → last ≡ written line at (high_of z ∷ low_of z ∷ [])
unfolding high_of low_of
number-written line {first} {last} at z bits b room p q =
    written_then line at (at + 1) (bits / 256 ∷ []) (bits % 256 ∷ []) refl (omega arith) p q
    ∙ ap (λ (n : ℕ). written line at (n / 256 ∷ n % 256 ∷ [])) b

-- bytes from the front on
pub written-front : (line bytes : List ℕ) → written line 0 bytes ≡ digits_of bytes ++ drop (length (digits_of bytes)) line
unfolding written
written-front line bytes = let e : digits_for (0 + length bytes) ≡ length (digits_of bytes) = omega (arith, digits-length bytes) in rw e
