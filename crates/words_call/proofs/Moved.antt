-- Records of which something is changed, word by word.
use mathlib.Core.Path.{◌≡◌, refl, ap}
use mathlib.Core.Bool.{Bool, true, false, ◌||◌}
use mathlib.Core.List.{List, [], ◌∷◌}
use Prim.Native.Nat.{ℕ, zero, suc}
use native.Mathlib.Omega.{arith}
use borrow.Author.Tests.{eqb-false}
use lib.Dec.{eqb}
use lib.ListN.{get_or, set}
use lib.Seq.{get_or-set_other}
use lib.IntN.{ℤ, pos}
use Rattle.words.specs.Word.{word_at}
use Rattle.words_call.specs.Kept.{is_one_of}

-- a word in another place than the one that is set
pub word-beside : (ws : List ℤ) (p j : ℕ) (v : ℤ) → eqb j p ≡ false → word_at (set ws p v) j ≡ word_at ws j
word-beside ws p j v h = get_or-set_other ws p j v (pos 0) (eqb-false j p h)

-- what holds of a store in its own place, and of the others before it
pub stored : {A : Type 0} (P : ℕ → A → Type 0) (d : A) (l : List A) (s i : ℕ) (x : A) → (i ≡ s → P i x) → P i (get_or l i d) → P i (get_or (set l s x) i d)
stored P d [] s i x f h = h
stored P d (y ∷ l) zero zero x f h = f refl
stored P d (y ∷ l) zero (suc i) x f h = h
stored P d (y ∷ l) (suc s) zero x f h = h
stored P d (y ∷ l) (suc s) (suc i) x f h = stored (λ (k : ℕ). P (suc k)) d l s i x (λ q. f (ap suc q)) h

-- a place that is none of several
pub none_of : (p : ℕ) (ps : List ℕ) (j : ℕ) → is_one_of (p ∷ ps) j ≡ false → (eqb j p ≡ false) × (is_one_of ps j ≡ false)
none_of p ps j h = by (eqb j p) (is_one_of ps j) h
  where
    by : (a b : Bool) → (a || b) ≡ false → (a ≡ false) × (b ≡ false)
    by true b h = absurd (let z : ◌≡◌ {A = ℕ} 0 1 = cc in omega arith)
    by false b h = (refl, h)
