-- Records read from their words: which of them are kept, and which is another.
use mathlib.Core.Path.{◌≡◌, refl, sym, ap, ◌∙◌, fun_ext}
use mathlib.Core.Bool.{Bool, true, false, cond}
use mathlib.Core.List.{List}
use mathlib.Core.Logic.{⊎_elim}
use Prim.Native.Nat.{ℕ, ◌+◌, ◌*◌, ◌≤◌, ◌<◌}
use native.Mathlib.Nat.{mul-le-mul_left, eq-or-lt_of_le}
use native.Mathlib.Omega.{arith}
use borrow.Author.Tests.{eq-eqb, ne_eqb, ltb-true}
use lib.Dec.{eqb, ltb}
use lib.ListN.{length, set}
use lib.Seq.{get_or-set_same, get_or-set_other}
use lib.IntN.{ℤ, pos}
use Rattle.signed.proofs.Signed.{lt-or-le}
use Rattle.axis.proofs.Walks.{same?}
use Rattle.words.specs.Word.{word_at}
use Rattle.words.specs.Record.{Layout}

-- the words of a record by their places, of which one is another
abbrev pub but : ℕ → ℤ → (ℕ → ℤ) → ℕ → ℤ
but j v g k = cond (eqb k j) v (g k)

-- those of a list from a place on
abbrev pub behind : List ℤ → ℕ → ℕ → ℤ
behind ws at k = word_at ws (at + k)

-- what is known of a kind of record: it is read by the words in its places and by no other, and it is written as so many
pub record Codec {R : Type 0} (L : Layout R) : Type 0 where
  pub by : (ℕ → ℤ) → R
  pub reads : (ws : List ℤ) (at : ℕ) → L.from ws at ≡ by (behind ws at)
  pub clips : (g : ℕ → ℤ) → by g ≡ by (λ (k : ℕ). cond (ltb k L.size) (g k) (pos 0))
  pub sized : (r : R) → length (L.words r) ≡ L.size

-- one word stands in one record alone
pub apart : (s i m j k : ℕ) → j < s → k < s → s * m + k ≡ s * i + j → m ≡ i
apart s i m j k b l p =
    ⊎_elim (λ (h : m < i). absurd (omega (arith, mul-le-mul_left s h)))
    (λ (h : i ≤ m). ⊎_elim (λ (e : i ≡ m). sym e) (λ (g : i < m). absurd (omega (arith, mul-le-mul_left s g))) (eq-or-lt_of_le h)) (lt-or-le m i)

clipped : (t : Bool) (a b c : ℤ) → (t ≡ true → a ≡ b) → cond t a c ≡ cond t b c
clipped true a b c h = h refl
clipped false a b c h = refl

module _ {R : Type 0} {L : Layout R} (C : Codec L) where
  -- the same words, in the same place or in another
  pub alike : (ws ws' : List ℤ) (at at' : ℕ) → ((k : ℕ) → k < L.size → behind ws' at' k ≡ behind ws at k) → L.from ws' at' ≡ L.from ws at
  alike ws ws' at at' h =
      C.reads ws' at' ∙ C.clips _ ∙ ap C.by (fun_ext (λ (k : ℕ). clipped (ltb k L.size) _ _ _ (λ (e : ltb k L.size ≡ true). h k (ltb-true _ _ e))))
      ∙ sym (C.clips _) ∙ sym (C.reads ws at)

  -- one of them is another
  pub read-but : (ws : List ℤ) (at j : ℕ) (v : ℤ) → at + j < length ws → L.from (set ws (at + j) v) at ≡ C.by (but j v (behind ws at))
  read-but ws at j v h = C.reads _ at ∙ ap C.by (fun_ext one)
    where
      one : (k : ℕ) → behind (set ws (at + j) v) at k ≡ but j v (behind ws at) k
      one k =
          ⊎_elim
          (λ (q : k ≡ j).
          ap (λ (n : ℕ). word_at (set ws (at + j) v) (at + n)) q ∙ get_or-set_same ws (at + j) v (pos 0) h
          ∙ sym (ap (λ (t : Bool). cond t v (word_at ws (at + k))) (eq-eqb k j q)))
          (λ (q : k ≡ j → ⊥).
          get_or-set_other ws (at + j) (at + k) v (pos 0) (λ (p : at + k ≡ at + j). q (omega arith))
          ∙ sym (ap (λ (t : Bool). cond t v (word_at ws (at + k))) (ne_eqb k j q)))
          (same? k j)
