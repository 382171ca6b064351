-- After as many rounds as there are numbers nothing is added: what is reached is the least closed set.
use mathlib.Core.Path.{◌≡◌, refl, sym, ap, ◌∙◌}
use mathlib.Core.Bool.{Bool, true, false, cond, ◌&&◌, ◌||◌, false≢true}
use mathlib.Core.Logic.{◌⊎◌, inl, inr, ⊎_elim}
use Prim.Native.Nat.{ℕ, zero, suc, ◌+◌, ◌≤◌, ◌<◌}
use native.Mathlib.Nat.{eq-or-lt_of_le}
use native.Mathlib.Omega.{arith}
use Rattle.refusals.proofs.Tests.{and_first, and_second}
use Rattle.mend.specs.Following.{total, count}
use Rattle.pack.specs.Rounds.{some, spread, rounds, reached, ClosedBelow, LeastBelow}
use Rattle.mend.proofs.Sums.{count-few}

-- ---- or, and
pub or_case : (a b : Bool) → (a || b) ≡ true → (a ≡ true) ⊎ (b ≡ true)
or_case true b e = inl refl
or_case false b e = inr e

pub or_left : (a b : Bool) → a ≡ true → (a || b) ≡ true
or_left true b e = refl
or_left false b e = absurd (false≢true e)

pub or_right : (a b : Bool) → b ≡ true → (a || b) ≡ true
or_right true b e = refl
or_right false b e = e

pub and_both : (a b : Bool) → a ≡ true → b ≡ true → (a && b) ≡ true
and_both true b e f = f
and_both false b e f = absurd (false≢true e)

-- ---- some number
pub some_at : (p : ℕ → Bool) (i n : ℕ) → i < n → p i ≡ true → some p n ≡ true
unfolding some
some_at p i zero h e = absurd (omega arith)
some_at p i (suc n) h e =
    ⊎_elim
    (λ (q : i ≡ n). or_right (some p n) (p n) (sym (ap p q) ∙ e))
    (λ (l : i < n). or_left (some p n) (p n) (some_at p i n l e))
    (eq-or-lt_of_le (omega arith))

pub record Some (p : ℕ → Bool) (n : ℕ) : Type 0 where
  pub it : ℕ
  pub below : it < n
  pub holds : p it ≡ true

pub some_is : (p : ℕ → Bool) (n : ℕ) → some p n ≡ true → Some p n
unfolding some
some_is p zero e = absurd (false≢true e)
some_is p (suc n) e =
    ⊎_elim
    (λ (a : some p n ≡ true).
    let w = some_is p n a in
    record { it = w.it; below = omega (arith, w.below); holds = w.holds })
    (λ (b : p n ≡ true). record { it = n; below = omega arith; holds = b })
    (or_case (some p n) (p n) e)

-- ---- a set within another: it has as many numbers only where it has the same ones
more : (a b : Bool) → (a ≡ true → b ≡ true) → cond a 1 0 ≤ cond b 1 0
more true true h = omega arith
more true false h = absurd (false≢true (h refl))
more false true h = omega arith
more false false h = omega arith

pub count-within : (s t : ℕ → Bool) (n : ℕ) → ((k : ℕ) → k < n → s k ≡ true → t k ≡ true) → count s n ≤ count t n
unfolding total
count-within s t zero h = omega arith
count-within s t (suc n) h = omega (arith, count-within s t n (λ k l. h k (omega arith)), more (s n) (t n) (h n (omega arith)))

pub same-or-more : (s t : ℕ → Bool) (n : ℕ) → ((k : ℕ) → k < n → s k ≡ true → t k ≡ true)
    → ((k : ℕ) → k < n → t k ≡ true → s k ≡ true) ⊎ (count s n < count t n)
unfolding total
same-or-more s t zero h = inl (λ k l. absurd (omega arith))
same-or-more s t (suc n) h =
    let few : (k : ℕ) → k < n → s k ≡ true → t k ≡ true = λ k l. h k (omega arith) in
    ⊎_elim
    (λ (b : (k : ℕ) → k < n → t k ≡ true → s k ≡ true). go (s n) (t n) refl refl b (count-within s t n few))
    (λ (l : count s n < count t n). inr (omega (arith, more (s n) (t n) (h n (omega arith)))))
    (same-or-more s t n few)
  where
    go : (x y : Bool) → s n ≡ x → t n ≡ y → ((k : ℕ) → k < n → t k ≡ true → s k ≡ true) → count s n ≤ count t n
        → ((k : ℕ) → k < suc n → t k ≡ true → s k ≡ true) ⊎ (count s n + cond (s n) 1 0 < count t n + cond (t n) 1 0)
    go true y p q b c =
        inl (λ k l e. ⊎_elim (λ (w : k ≡ n). ap s w ∙ p) (λ (g : k < n). b k g e) (eq-or-lt_of_le (omega arith)))
    go false true p q b c = inr (rw (p, q) (omega arith))
    go false false p q b c =
        inl (λ k l e. ⊎_elim (λ (w : k ≡ n). absurd (false≢true (sym q ∙ sym (ap t w) ∙ e))) (λ (g : k < n). b k g e) (eq-or-lt_of_le (omega arith)))

-- ---- rounds
-- one below n leads to k
pub record Led (leads : ℕ → ℕ → Bool) (n k : ℕ) : Type 0 where
  pub from : ℕ
  pub below : from < n
  pub leads_to : leads from k ≡ true

module _ (leads : ℕ → ℕ → Bool) (n : ℕ) (s : ℕ → Bool) where
  abbrev at : ℕ → ℕ → Bool
  at j = rounds leads n s j

  first_round : (k : ℕ) → at 0 k ≡ s k
  unfolding rounds
  first_round k = refl

  next-round : (j k : ℕ) → at (suc j) k ≡ spread leads n (at j) k
  unfolding rounds
  next-round j k = refl

  stays : (j k : ℕ) → at j k ≡ true → at (suc j) k ≡ true
  stays j k e = next-round j k ∙ or_left (at j k) _ e

  leads-on : (j i k : ℕ) → i < n → at j i ≡ true → leads i k ≡ true → at (suc j) k ≡ true
  leads-on j i k h e l = next-round j k ∙ or_right (at j k) _ (some_at (λ (x : ℕ). at j x && leads x k) i n h (and_both (at j i) (leads i k) e l))

  -- nothing is added by the round behind the j-th
  abbrev Rests : ℕ → Type 0
  Rests j = (k : ℕ) → k < n → at (suc j) k ≡ true → at j k ≡ true

  rests-on : (j : ℕ) → Rests j → Rests (suc j)
  rests-on j r k h e =
      ⊎_elim
      (λ (a : at (suc j) k ≡ true). a)
      (λ (b : some (λ (x : ℕ). at (suc j) x && leads x k) n ≡ true).
      let w = some_is (λ (x : ℕ). at (suc j) x && leads x k) n b in
      leads-on j w.it k w.below (r w.it w.below (and_first _ _ w.holds)) (and_second (at (suc j) w.it) _ w.holds))
      (or_case (at (suc j) k) _ (sym (next-round (suc j) k) ∙ e))

  -- a round adds nothing any more, or every round before it has added one
  climbs : (j : ℕ) → Rests j ⊎ (j < count (at (suc j)) n)
  climbs zero =
      ⊎_elim
      (λ (r : Rests 0). inl r)
      (λ (l : count (at 0) n < count (at 1) n). inr (omega arith))
      (same-or-more (at 0) (at 1) n (λ k h. stays 0 k))
  climbs (suc j) =
      ⊎_elim
      (λ (r : Rests j). inl (rests-on j r))
      (λ (l : j < count (at (suc j)) n).
      ⊎_elim
      (λ (r : Rests (suc j)). inl r)
      (λ (m : count (at (suc j)) n < count (at (suc (suc j))) n). inr (omega arith))
      (same-or-more (at (suc j)) (at (suc (suc j))) n (λ k h. stays (suc j) k)))
      (climbs j)

  rests : Rests n
  rests = ⊎_elim (λ (r : Rests n). r) (λ (l : n < count (at (suc n)) n). absurd (omega (arith, count-few (at (suc n)) n))) (climbs n)

  holds : (j k : ℕ) → s k ≡ true → at j k ≡ true
  holds zero k e = first_round k ∙ e
  holds (suc j) k e = stays j k (holds j k e)

  least : (other : ℕ → Bool) → ClosedBelow leads n other → ((k : ℕ) → k < n → s k ≡ true → other k ≡ true) → (j k : ℕ) → k < n → at j k ≡ true → other k ≡ true
  least other c h zero k l e = h k l (sym (first_round k) ∙ e)
  least other c h (suc j) k l e =
      ⊎_elim
      (λ (a : at j k ≡ true). least other c h j k l a)
      (λ (b : some (λ (x : ℕ). at j x && leads x k) n ≡ true).
      let w = some_is (λ (x : ℕ). at j x && leads x k) n b in
      c.on w.it k w.below l (least other c h j w.it w.below (and_first _ _ w.holds)) (and_second (at j w.it) _ w.holds))
      (or_case (at j k) _ (sym (next-round j k) ∙ e))

  -- every number that is reached is given, or led to by one below n
  pub given-or-led : (j k : ℕ) → at j k ≡ true → (s k ≡ true) ⊎ Led leads n k
  given-or-led zero k e = inl (sym (first_round k) ∙ e)
  given-or-led (suc j) k e =
      ⊎_elim
      (λ (a : at j k ≡ true). given-or-led j k a)
      (λ (b : some (λ (x : ℕ). at j x && leads x k) n ≡ true).
      let w = some_is (λ (x : ℕ). at j x && leads x k) n b in
      inr (record { from = w.it; below = w.below; leads_to = and_second (at j w.it) _ w.holds }))
      (or_case (at j k) _ (sym (next-round j k) ∙ e))

  pub reached-least : LeastBelow leads n s (reached leads n s)
  reached-least = record {
    holds = λ k e. holds n k e;
    closed = record { on = λ i k h g e l. rests k g (leads-on n i k h e l) };
    least = λ other c h k l e. least other c h n k l e;
  }

-- two least sets are one
pub least-one : (leads : ℕ → ℕ → Bool) (n : ℕ) (given s t : ℕ → Bool) → LeastBelow leads n given s → LeastBelow leads n given t → (k : ℕ) → k < n → s k ≡ t k
least-one leads n given s t a b k h = go (s k) (t k) refl refl
  where
    go : (x y : Bool) → s k ≡ x → t k ≡ y → s k ≡ t k
    go true true p q = p ∙ sym q
    go true false p q = absurd (false≢true (sym q ∙ a.least t b.closed (λ i l. b.holds i) k h p))
    go false true p q = absurd (false≢true (sym p ∙ b.least s a.closed (λ i l. a.holds i) k h q))
    go false false p q = p ∙ sym q
