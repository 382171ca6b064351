-- Words that are the words of their records.
use mathlib.Core.Path.{◌≡◌, sym, ap, subst, ◌∙◌}
use mathlib.Core.List.{List, ◌++◌, append-nil}
use mathlib.Core.Logic.{⊎_elim}
use Prim.Native.Nat.{ℕ, ◌+◌, ◌*◌, ◌/◌, ◌%◌, ◌≤◌, ◌<◌, min}
use native.Mathlib.Nat.{mul-le-mul_left, div-add-mod, mod-lt}
use native.Mathlib.Omega.{arith}
use lib.ListN.{length, drop_of_length-le}
use lib.Seq.{ext_get_or}
use lib.IntN.{ℤ, pos}
use Rattle.signed.proofs.Signed.{lt-or-le}
use Rattle.words.specs.Word.{word_at, written, joined}
use Rattle.words.proofs.Writing.{written-front}
use Rattle.words.proofs.Tables.{joined_length}
use Rattle.words.proofs.Places.{joined_at}
use Rattle.words.specs.Record.{Layout, count_of, WholeOf}
use Rattle.words.proofs.Codecs.{Codec}

-- ---- words by record and place
-- a number below s times n is a place below s of one of n
pub placed-in : (s n k : ℕ) → k < s * n → (k / s < n) × (k % s < s) × (s * (k / s) + k % s ≡ k)
placed-in s n k h = (low, mod-lt k some, div-add-mod k s)
  where
    some : 0 < s
    some =
        ⊎_elim (λ (l : 0 < s). l) (λ (l : s ≤ 0). absurd (let e : s ≡ 0 = omega arith in let z : s * n ≡ 0 * n = ap (λ (x : ℕ). x * n) e in omega arith))
        (lt-or-le 0 s)

    low : k / s < n
    low = ⊎_elim (λ (l : k / s < n). l) (λ (l : n ≤ k / s). absurd (omega (arith, mul-le-mul_left s l, div-add-mod k s))) (lt-or-le (k / s) n)

-- two lists of so many words are the same where every place of every record is
pub by-places : (s n : ℕ) (ws xs : List ℤ) → length ws ≡ s * n → length xs ≡ s * n
    → ((i j : ℕ) → i < n → j < s → word_at ws (s * i + j) ≡ word_at xs (s * i + j)) → ws ≡ xs
by-places s n ws xs p q word = ext_get_or (pos 0) ws xs (p ∙ sym q) at
  where
    at : (k : ℕ) → k < length ws → word_at ws k ≡ word_at xs k
    at k h = let p = placed-in s n k (omega arith) in subst (λ (m : ℕ). word_at ws m ≡ word_at xs m) p.2 (word (k / s) (k % s) p.0 p.1)

-- ---- lists of records
-- as many as before
pub as_many : {R : Type 0} (L : Layout R) (ws ws' : List ℤ) → length ws' ≡ length ws → count_of L ws' ≡ count_of L ws
as_many L ws ws' e = ap (λ (k : ℕ). k / L.size) e

pub still-below : {R : Type 0} (L : Layout R) (ws ws' : List ℤ) (i : ℕ) → length ws' ≡ length ws → i < count_of L ws → i < count_of L ws'
still-below L ws ws' i e h = subst (λ (k : ℕ). i < k) (sym (as_many L ws ws' e)) h

module _ {R : Type 0} {L : Layout R} where
  -- the words of one have room
  pub room : (ws : List ℤ) (i : ℕ) → WholeOf L ws → i < count_of L ws → L.size * i + L.size ≤ length ws
  room ws i w h = omega (arith, w.long, mul-le-mul_left L.size h)

  module _ (C : Codec L) where
    -- a table written over them
    pub over : (ws : List ℤ) (f : ℕ → R) → WholeOf L ws
        → written ws 0 (joined (λ (i : ℕ). L.words (f i)) (min (count_of L ws) L.most)) ≡ joined (λ (i : ℕ). L.words (f i)) (count_of L ws)
    over ws f w =
        let n : min (count_of L ws) L.most ≡ count_of L ws = omega (arith, w.few) in
        let l = joined_length (λ (i : ℕ). L.words (f i)) L.size (λ i. C.sized (f i)) (count_of L ws) in
        let all = joined (λ (i : ℕ). L.words (f i)) (count_of L ws) in
        ap (λ (k : ℕ). written ws 0 (joined (λ (i : ℕ). L.words (f i)) k)) n
        ∙ written-front ws all
        ∙ ap (λ (rest : List ℤ). all ++ rest) (drop_of_length-le ws {i = length all} (omega (arith, l, w.long)))
        ∙ append-nil all

    -- they are those of the records that are read from them
    pub joined-whole : (ws : List ℤ) (f : ℕ → R) → WholeOf L ws → ((i : ℕ) → i < count_of L ws → f i ≡ L.from ws (L.size * i))
        → ws ≡ joined (λ (i : ℕ). L.words (f i)) (count_of L ws)
    joined-whole ws f w e =
        by-places L.size (count_of L ws) ws _ w.long (joined_length (λ (i : ℕ). L.words (f i)) L.size (λ i. C.sized (f i)) (count_of L ws))
        (λ (i j : ℕ) (h : i < count_of L ws) (b : j < L.size).
        sym (joined_at (λ (i : ℕ). L.words (f i)) L.size (λ i. C.sized (f i)) (count_of L ws) i j h b ∙ ap (λ (r : R). word_at (L.words r) j) (e i h)
        ∙ w.word i j h b))
