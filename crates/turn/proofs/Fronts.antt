-- Lists in the other order, and lists of which the first elements are written anew, one after the other.
use mathlib.Core.Path.{◌≡◌, sym, ap, ◌∙◌}
use mathlib.Core.List.{List, [], ◌∷◌, ◌++◌, reverse, reverse-cons}
use mathlib.Core.Logic.{⊎_elim}
use Prim.Native.Nat.{ℕ, suc, ◌+◌, ◌-◌, ◌≤◌, ◌<◌}
use native.Mathlib.Nat.{eq-or-lt_of_le}
use native.Mathlib.Numerals.{add-one}
use native.Mathlib.Omega.{arith}
use lib.ListN.{length, get_or, set, take, drop, length-append, length-drop, length-reverse, get_or-append}
use lib.Seq.{length-take-le, take-length, take-suc, drop-cons, append_snoc, set_at, get_or_at, get_or-append-add, get_or-drop}

module _ {A : Type 0} where
  -- ---- the other order
  pub get_d_reverse : (l : List A) (i : ℕ) (d : A) → i < length l → get_or (reverse l) i d ≡ get_or l (length l - 1 - i) d
  get_d_reverse [] i d h = absurd (omega arith)
  get_d_reverse (x ∷ l) i d h =
      ap (λ (r : List A). get_or r i d) (reverse-cons x l)
      ∙ ⊎_elim
      (λ (e : i ≡ length l). get_or_at (reverse l) x [] d i (length-reverse l ∙ sym e) ∙ ap (λ (k : ℕ). get_or (x ∷ l) k d) (last e))
      (λ (g : i < length l). get_or-append (reverse l) (x ∷ []) d i (omega (arith, length-reverse l)) ∙ get_d_reverse l i d g
      ∙ ap (λ (k : ℕ). get_or (x ∷ l) k d) (before g))
      (eq-or-lt_of_le (omega arith))
    where
      last : i ≡ length l → 0 ≡ suc (length l) - 1 - i
      last e = omega arith

      before : i < length l → suc (length l - 1 - i) ≡ suc (length l) - 1 - i
      before g = omega arith

  -- ---- a new front
  -- the first i of the new ones, and behind them what was there
  abbrev pub front : List A → List A → ℕ → List A
  front new old i = take i new ++ drop i old

  -- one more
  pub front-more : (new old : List A) (i : ℕ) (v d : A) → i < length new → i < length old → v ≡ get_or new i d → set (front new old i) i v ≡ front new old (i + 1)
  front-more new old i v d h g e =
      ap (λ (r : List A). set (take i new ++ r) i v) (drop-cons old i d g)
      ∙ set_at (take i new) (get_or old i d) (drop (suc i) old) v i (length-take-le i new (omega arith))
      ∙ ap (λ (x : A). take i new ++ x ∷ drop (suc i) old) e
      ∙ sym (append_snoc (take i new) (get_or new i d) (drop (suc i) old))
      ∙ ap (λ (r : List A). r ++ drop (suc i) old) (sym (take-suc new i d h))
      ∙ ap (front new old) (sym (add-one i))

  -- all of them
  pub front-all : (new old : List A) (n i : ℕ) → length new ≡ n → i ≤ n → n ≤ i → front new old i ≡ new ++ drop n old
  front-all new old n i e h g =
      let q : i ≡ length new = omega arith in
      let r : i ≡ n = omega arith in
      ap (λ (k : ℕ). take k new ++ drop i old) q ∙ ap (λ (l : List A). l ++ drop i old) (take-length new) ∙ ap (λ (k : ℕ). new ++ drop k old) r

  -- its places: those of the new ones, and those behind
  pub front_at : (new old : List A) (n i : ℕ) (d : A) → length new ≡ n → i < n → get_or (new ++ drop n old) i d ≡ get_or new i d
  front_at new old n i d e h = get_or-append new (drop n old) d i (omega arith)

  pub behind-at : (new old : List A) (n i : ℕ) (d : A) → length new ≡ n → n ≤ i → get_or (new ++ drop n old) i d ≡ get_or old i d
  behind-at new old n i d e h =
      let q : i ≡ length new + (i - n) = omega arith in
      let r : n + (i - n) ≡ i = omega arith in
      ap (λ (k : ℕ). get_or (new ++ drop n old) k d) q ∙ get_or-append-add new (drop n old) (i - n) d ∙ get_or-drop n old (i - n) d ∙ ap (λ (k : ℕ). get_or old k d) r

  pub front_length : (new old : List A) (n : ℕ) → length new ≡ n → n ≤ length old → length (new ++ drop n old) ≡ length old
  front_length new old n e h = length-append new (drop n old) ∙ omega (arith, e, length-drop n old)
