-- A ring made anew in rising order is sound.
use mathlib.Core.Path.{◌≡◌, refl, sym, ap, subst, ◌∙◌}
use mathlib.Core.Bool.{Bool, true, false, cond, ◌&&◌}
use mathlib.Core.Logic.{◌⊎◌, inl, inr, ⊎_elim}
use Prim.Native.Nat.{ℕ, zero, suc, ◌+◌, ◌-◌, ◌≤◌, ◌<◌}
use native.Mathlib.Nat.{eq-or-lt_of_le}
use native.Mathlib.Numerals.{add-one}
use native.Mathlib.Omega.{arith}
use Rattle.axis.specs.Limits.{most_segments}
use Rattle.axis.specs.Ring.{SoundRing}
use Rattle.mend.specs.Following.{total, count, closes}
use Rattle.mend.specs.Rebuilt.{first_from, last_below, lowest, highest, behind}
use Rattle.mend.proofs.Sums.{total-none, total-more}
use Rattle.axis.proofs.Sound.{never}
use Rattle.mend.proofs.Following.{closes_at, closes-on, steps-sound}

-- ---- how many are left from i on
unfoldable pub count_from : (ℕ → Bool) → ℕ → ℕ → ℕ
count_from p zero i = 0
count_from p (suc j) i = cond (p i) 1 0 + count_from p j (i + 1)

pub count-split : (p : ℕ → Bool) (j i n : ℕ) → i + j ≡ n → count p n ≡ count p i + count_from p j i
unfolding count_from
count-split p zero i n e = let q : n ≡ i = omega arith in ap (count p) q ∙ omega arith
count-split p (suc j) i n e = count-split p j (i + 1) n (omega arith) ∙ omega (arith, total-more (λ (x : ℕ). cond (p x) 1 0) i)

count-here : (p : ℕ → Bool) (j i : ℕ) → p i ≡ true → count_from p (suc j) i ≡ suc (count_from p j (i + 1))
unfolding count_from
count-here p j i o = rw o (omega arith)

count-there : (p : ℕ → Bool) (j i : ℕ) → p i ≡ false → count_from p (suc j) i ≡ count_from p j (i + 1)
unfolding count_from
count-there p j i o = rw o (omega arith)

first-here : (p : ℕ → Bool) (j i other : ℕ) → p i ≡ true → first_from p (suc j) i other ≡ i
unfolding first_from
first-here p j i other o = rw o

first-there : (p : ℕ → Bool) (j i other : ℕ) → p i ≡ false → first_from p (suc j) i other ≡ first_from p j (i + 1) other
unfolding first_from
first-there p j i other o = rw o

-- ---- the next higher one
-- there is none
pub record Missing (p : ℕ → Bool) (j i other : ℕ) : Type 0 where
  pub none : count_from p j i ≡ 0
  pub else : first_from p j i other ≡ other

-- there is one, and from it on as many as from i on
pub record Present (p : ℕ → Bool) (j i other : ℕ) : Type 0 where
  pub at : p (first_from p j i other) ≡ true
  pub low : i ≤ first_from p j i other
  pub high : first_from p j i other < i + j
  pub left : count_from p j i ≡ count_from p (i + j - first_from p j i other) (first_from p j i other)

missing-none : (p : ℕ → Bool) (i other : ℕ) → Missing p 0 i other
unfolding count_from first_from
missing-none p i other = record { none = refl; else = refl }

missing-more : (p : ℕ → Bool) (j i other : ℕ) → p i ≡ false → Missing p j (i + 1) other → Missing p (suc j) i other
missing-more p j i other o m = record { none = count-there p j i o ∙ m.none; else = first-there p j i other o ∙ m.else }

present-here : (p : ℕ → Bool) (j i other : ℕ) → p i ≡ true → Present p (suc j) i other
present-here p j i other o =
    let f = first-here p j i other o in
    record {
      at = ap p f ∙ o;
      low = omega arith;
      high = omega arith;
      left = ap (λ (x : ℕ). count_from p x i) (let z : suc j ≡ i + suc j - i = omega arith in z) ∙ sym (ap (λ (x : ℕ). count_from p (i + suc j - x) x) f);
    }

present-more : (p : ℕ → Bool) (j i other : ℕ) → p i ≡ false → Present p j (i + 1) other → Present p (suc j) i other
present-more p j i other o r =
    let f = first-there p j i other o in
    record {
      at = ap p f ∙ r.at;
      low = omega (arith, r.low);
      high = omega (arith, r.high);
      left =
          count-there p j i o ∙ r.left
          ∙ ap (λ (x : ℕ). count_from p (x - first_from p j (i + 1) other) (first_from p j (i + 1) other)) (let z : i + 1 + j ≡ i + suc j = omega arith in z)
          ∙ sym (ap (λ (x : ℕ). count_from p (i + suc j - x) x) f);
    }

pub search-from : (p : ℕ → Bool) (j i other : ℕ) → Missing p j i other ⊎ Present p j i other
search-from p zero i other = inl (missing-none p i other)
search-from p (suc j) i other = by (p i) refl (search-from p j (i + 1) other)
  where
    by : (b : Bool) → p i ≡ b → Missing p j (i + 1) other ⊎ Present p j (i + 1) other → Missing p (suc j) i other ⊎ Present p (suc j) i other
    by true e rest = inr (present-here p j i other e)
    by false e (inl m) = inl (missing-more p j i other e m)
    by false e (inr r) = inr (present-more p j i other e r)

-- ---- the highest
pub below-highest : (p : ℕ → Bool) (n x other : ℕ) → x < n → p x ≡ true → x ≤ last_below p n other
unfolding last_below
below-highest p zero x other h o = absurd (omega arith)
below-highest p (suc n) x other h o = by (λ (q : x < n). below-highest p n x other q o) (p n) refl
  where
    by : (x < n → x ≤ last_below p n other) → (b : Bool) → p n ≡ b → x ≤ cond b n (last_below p n other)
    by rest true e = omega arith
    by rest false e = ⊎_elim (λ (q : x ≡ n). never (sym e ∙ ap p (sym q) ∙ o)) rest (eq-or-lt_of_le (omega arith))

pub highest-at : (p : ℕ → Bool) (n i other : ℕ) → i < n → p i ≡ true → ((x : ℕ) → i < x → x < n → p x ≡ false) → last_below p n other ≡ i
unfolding last_below
highest-at p zero i other h o none = absurd (omega arith)
highest-at p (suc n) i other h o none =
    ⊎_elim
    (λ (q : i ≡ n). let e : p n ≡ true = ap p (sym q) ∙ o in rw e (sym q))
    (λ (q : i < n). rw (none n q (omega arith)) (highest-at p n i other q o (λ x a b. none x a (omega arith))))
    (eq-or-lt_of_le (omega arith))

none-at : (p : ℕ → Bool) (j i : ℕ) → count_from p j i ≡ 0 → (x : ℕ) → i ≤ x → x < i + j → p x ≡ false
unfolding count_from
none-at p zero i h x a b = absurd (omega arith)
none-at p (suc j) i h x a b = by (p i) refl h (λ (r : count_from p j (i + 1) ≡ 0) (l : i + 1 ≤ x). none-at p j (i + 1) r x l (omega arith))
  where
    by : (t : Bool) → p i ≡ t → cond t 1 0 + count_from p j (i + 1) ≡ 0 → (count_from p j (i + 1) ≡ 0 → i + 1 ≤ x → p x ≡ false) → p x ≡ false
    by true e g rest = absurd (omega arith)
    by false e g rest = ⊎_elim (λ (q : i ≡ x). ap p (sym q) ∙ e) (λ (q : i < x). rest (omega arith) (omega arith)) (eq-or-lt_of_le a)

-- ---- the ring
module _ (own : ℕ → Bool) (next : ℕ → ℕ) (n : ℕ) (leads : (i : ℕ) → i < n → own i ≡ true → next i ≡ behind own n i) where
  abbrev low : ℕ
  low = lowest own n

  abbrev high : ℕ
  high = highest own n

  next_is : (j i : ℕ) → i + suc j ≡ n → own i ≡ true → next i ≡ first_from own j (i + 1) low
  next_is j i e o = leads i (omega arith) o ∙ ap (λ (k : ℕ). first_from own k (i + 1) low) (let q : n - (i + 1) ≡ j = omega arith in q)

  -- nothing behind i: it is the highest, and leads to the lowest
  at-highest : (j i : ℕ) → i + suc j ≡ n → own i ≡ true → Missing own j (i + 1) low → closes own next n low high (count_from own (suc j) i) i ≡ true
  at-highest j i e o m =
      let h : high ≡ i = highest-at own n i 0 (omega arith) o (λ x a b. none-at own j (i + 1) m.none x (omega arith) (omega arith)) in
      let c : count_from own (suc j) i ≡ 1 = count-here own j i o ∙ ap suc m.none in
      subst (λ (k : ℕ). closes own next n low high k i ≡ true) (sym c) (closes_at own next n low high i (omega arith) o (sym h) (next_is j i e o ∙ m.else))

  -- one behind i: it is not the highest, and leads there
  on-the-way : (j i f : ℕ) → i + suc j ≡ n → own i ≡ true → f ≡ first_from own j (i + 1) low → Present own j (i + 1) low
      → closes own next n low high (count_from own (suc (n - f - 1)) f) f ≡ true → closes own next n low high (count_from own (suc j) i) i ≡ true
  on-the-way j i f e o q r rest =
      let inside : f < n = omega (arith, r.high) in
      let at : own f ≡ true = ap own q ∙ r.at in
      let c : count_from own j (i + 1) ≡ count_from own (suc (n - f - 1)) f = r.left ∙ ap (λ (x : ℕ). count_from own (i + 1 + j - x) x) (sym q)
      ∙ ap (λ (k : ℕ). count_from own k f) (let z : i + 1 + j - f ≡ suc (n - f - 1) = omega arith in z) in
      let to : next i ≡ f = next_is j i e o ∙ sym q in
      let apart : i ≡ high → ⊥ = λ (h : i ≡ high). omega (arith, below-highest own n f 0 inside at, r.low) in
      subst (λ (k : ℕ). closes own next n low high k i ≡ true) (sym (count-here own j i o))
      (closes-on own next n low high i (count_from own j (i + 1)) (omega arith) o apart
      (subst (λ (k : ℕ). closes own next n low high (count_from own j (i + 1)) k ≡ true) (sym to)
      (subst (λ (k : ℕ). closes own next n low high k f ≡ true) (sym c) rest)))

  -- from any of them on there are as many steps as are left
  steps-from : (b j i : ℕ) → j ≤ b → i + suc j ≡ n → own i ≡ true → closes own next n low high (count_from own (suc j) i) i ≡ true
  steps-from zero j i l e o =
      ⊎_elim
      (λ (m : Missing own j (i + 1) low). at-highest j i e o m)
      (λ (r : Present own j (i + 1) low). absurd (omega (arith, r.low, r.high)))
      (search-from own j (i + 1) low)
  steps-from (suc b) j i l e o =
      ⊎_elim
      (λ (m : Missing own j (i + 1) low). at-highest j i e o m)
      (λ (r : Present own j (i + 1) low).
      let f = first_from own j (i + 1) low in
      on-the-way j i f e o refl r (steps-from b (n - f - 1) f (omega (arith, r.low)) (omega (arith, r.high)) r.at))
      (search-from own j (i + 1) low)

  -- from the lowest on, as many as there are
  steps_all : 0 < count own n → closes own next n low high (count own n) low ≡ true
  steps_all some =
      let all : count own n ≡ count_from own n 0 = count-split own n 0 n (omega arith) ∙ omega (arith, total-none (λ (i : ℕ). cond (own i) 1 0)) in
      ⊎_elim
      (λ (m : Missing own n 0 0). absurd (omega (arith, m.none)))
      (λ (r : Present own n 0 0).
      let left : count own n ≡ count_from own (suc (n - low - 1)) low = all ∙ r.left
      ∙ ap (λ (k : ℕ). count_from own k low) (let z : 0 + n - low ≡ suc (n - low - 1) = omega (arith, r.high) in z) in
      subst (λ (k : ℕ). closes own next n low high k low ≡ true) (sym left) (steps-from n (n - low - 1) low (omega arith) (omega (arith, r.high)) r.at))
      (search-from own n 0 0)

  -- it is sound
  pub rising-sound : n ≤ most_segments → 0 < count own n → SoundRing own next n (lowest own n) (highest own n)
  rising-sound few some = steps-sound own next n low high few (steps_all some)
