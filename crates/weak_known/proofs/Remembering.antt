-- Lists that were written match.
use mathlib.Core.Path.{◌≡◌, refl, sym, ◌∙◌, ap}
use mathlib.Core.Bool.{true, cond}
use mathlib.Core.List.{List}
use mathlib.Core.Option.{Option, some, none}
use Prim.Native.Nat.{ℕ, zero, suc, ◌+◌, ◌-◌, ◌≤◌, ◌<◌}
use native.Mathlib.Decide.{dec_lt}
use native.Mathlib.Nat.{add-zero, lt_irrefl}
use native.Mathlib.Omega.{arith}
use borrow.Author.Tests.{eq-eqb}
use lib.ListN.{length, get_or}
use lib.Seq.{ext_get_or}
use Rattle.weak_contour.specs.Contour.{Contour, is_touched, first_touched, last_touched, touched_before, touched_behind, references}
use Rattle.weak.specs.Weak.{contour_of}
use Rattle.weak_known.specs.Known.{touched, by_two, free, known, before_of, behind_of, before_at, behind_at, same_as, matches, entries_from, befores, behinds}
use Rattle.weak_known.specs.Walks.{Put}

-- one stretch behind another
pub put_then : (f g : ℕ → ℕ) (a s e : ℕ) (l m n : List ℕ) → a ≤ s → s ≤ e → Put f a s l m → ((i : ℕ) → s ≤ i → i < e → g i ≡ f i) → Put g s e m n
    → Put f a e l n
put_then f g a s e l m n o p v h w =
    record {
      len = w.len ∙ v.len;
      inside = λ i x y. inner i x y (dec_lt i s);
      below = λ i x. w.below i (omega arith) ∙ v.below i x;
      above = λ i x. w.above i x ∙ v.above i (omega arith);
    }
  where
    inner : (i : ℕ) → a ≤ i → i < e → Dec (i < s) → get_or n i 0 ≡ f i
    inner i x y (yes z) = w.below i z ∙ v.inside i x z
    inner i x y (no z) = w.inside i (omega arith) y ∙ h i (omega arith) y

-- what was written is the same
pub same-put : (f : ℕ → ℕ) (l : List ℕ) (i n : ℕ) → ((j : ℕ) → i ≤ j → j < i + n → get_or l j 0 ≡ f j) → same_as l f i n ≡ true
unfolding same_as
same-put f l i zero h = refl
same-put f l i (suc n) h = rw (eq-eqb (get_or l i 0) (f i) (h i (omega arith) (omega arith))) (same-put f l (suc i) n (λ j x y. h j (omega arith) (omega arith)))

-- ---- all entries in a list
pub entries-length : (f : ℕ → ℕ) (i n : ℕ) → length (entries_from f i n) ≡ n
unfolding entries_from
entries-length f i zero = refl
entries-length f i (suc n) = ap suc (entries-length f (suc i) n)

entries_at : (f : ℕ → ℕ) (i n k : ℕ) → k < n → get_or (entries_from f i n) k 0 ≡ f (i + k)
unfolding entries_from
entries_at f i zero k h = absurd (lt_irrefl k (omega arith))
entries_at f i (suc n) zero h = ap f (sym (add-zero i))
entries_at f i (suc n) (suc k) h = entries_at f (suc i) n k (omega arith) ∙ ap f (omega arith)

pub entry_at : (f : ℕ → ℕ) (n k : ℕ) → k < n → get_or (entries_from f 0 n) k 0 ≡ f k
entry_at f n k h = entries_at f 0 n k h ∙ ap f (omega arith)

-- a list that was written whole
pub entries-put : (f : ℕ → ℕ) (n : ℕ) (l m : List ℕ) → length l ≡ n → Put f 0 n l m → m ≡ entries_from f 0 n
entries-put f n l m e w =
    ext_get_or 0 m (entries_from f 0 n) (w.len ∙ e ∙ sym (entries-length f 0 n))
    (λ i h. let b : i < n = omega (arith, w.len) in w.inside i (omega arith) b ∙ sym (entry_at f n i b))

-- ---- so what was remembered matches, and goes on matching at every size: the match reads touched points and ends alone
-- marks that touch the same points
abbrev pub TouchAlike : List ℕ → List ℕ → Type 0
TouchAlike t u = (i : ℕ) → is_touched u i ≡ is_touched t i

module _ (t u : List ℕ) (alike : TouchAlike t u) where
  first_alike : (i n : ℕ) → first_touched u i n ≡ first_touched t i n
  unfolding first_touched
  first_alike i zero = refl
  first_alike i (suc n) = λ k. cond (alike i k) (some i) (first_alike (suc i) n k)

  last-alike : (i n : ℕ) → last_touched u i n ≡ last_touched t i n
  unfolding last_touched
  last-alike i zero = refl
  last-alike i (suc n) = λ k. cond (alike (i + n) k) (some (i + n)) (last-alike i n k)

  references-alike : (c : Contour) (i : ℕ) → references u c i ≡ references t c i
  unfolding references touched_before touched_behind
  references-alike c i =
      rw (
        last-alike c.start (i - c.start),
        last-alike c.start (c.end - c.start),
        first_alike (suc i) (c.end - suc i),
        first_alike c.start
            (c.end - c.start),
      )

  free-alike : (c : Option Contour) (i : ℕ) → free u c i ≡ free t c i
  unfolding free
  free-alike none i = refl
  free-alike (some c) i = ap by_two (references-alike c i)

  pub known_alike : (es : List ℕ) (i : ℕ) → known u es i ≡ known t es i
  unfolding known
  known_alike es i = λ k. cond (alike i k) touched (free-alike (contour_of 0 es i) i k)

  pub remembered : (es : List ℕ) → length u ≡ length t → matches u es (befores t es) (behinds t es) ≡ true
  unfolding matches before_at behind_at
  remembered es e =
      rw (
        e,
        same-put (before_at u es) (befores t es) 0 (length t)
            (λ j x y. entry_at (before_at t es) (length t) j (omega arith) ∙ ap before_of (sym (known_alike es j))),
        same-put (behind_at u es) (behinds t es) 0 (length t)
            (λ j x y. entry_at (behind_at t es) (length t) j (omega arith) ∙ ap behind_of (sym (known_alike es j))),
      )
