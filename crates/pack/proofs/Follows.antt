-- What leads on from a set, followed number by number along the list of it.
use mathlib.Core.Path.{◌≡◌, sym, ap, ◌∙◌}
use mathlib.Core.Bool.{Bool, true}
use mathlib.Core.List.{List}
use mathlib.Core.Logic.{◌⊎◌, ⊎_elim}
use Prim.Native.Nat.{ℕ, ◌+◌, ◌≤◌, ◌<◌}
use native.Mathlib.Nat.{eq-or-lt_of_le}
use native.Mathlib.Omega.{arith}
use Rattle.axis.specs.Limits.{most_segments}
use Rattle.pack.specs.Sets.{is_in, number_at, Closed, Least}
use Rattle.pack.specs.Listing.{Listed, Added}
use Rattle.mend.proofs.Sums.{count-few}

-- the first `at` on the list are followed: what leads on from them is in the set; and all of it must be
pub record Following (a b : ℕ → ℕ) (kept₀ kept : List Bool) (order : List ℕ) (len at : ℕ) : Type 0 where
  pub listed : Listed kept order len
  pub upto : at ≤ len
  pub held : (k : ℕ) → is_in kept₀ k ≡ true → is_in kept k ≡ true
  pub least : (other : ℕ → Bool) → Closed a b other → ((k : ℕ) → is_in kept₀ k ≡ true → other k ≡ true) → (k : ℕ) → is_in kept k ≡ true → other k ≡ true
  pub one : (j : ℕ) → j < at → is_in kept (a (number_at order j)) ≡ true
  pub two : (j : ℕ) → j < at → is_in kept (b (number_at order j)) ≡ true

pub listed-few : {kept : List Bool} {order : List ℕ} {len : ℕ} → Listed kept order len → len ≤ most_segments
listed-few {kept} l = omega (arith, l.counted, count-few (is_in kept) most_segments)

pub follow-starts : (a b : ℕ → ℕ) (kept : List Bool) (order : List ℕ) (len : ℕ) → Listed kept order len → Following a b kept kept order len 0
follow-starts a b kept order len l = record {
  listed = l;
  upto = omega arith;
  held = λ k e. e;
  least = λ other c h. h;
  one = λ j h. absurd (omega arith);
  two = λ j h. absurd (omega arith);
}

module _
    (a b : ℕ → ℕ) (kept₀ kept : List Bool) (order : List ℕ) (len at : ℕ) (f : Following a b kept₀ kept order len at) (h : at < len)
    (kept₁ : List Bool) (order₁ : List ℕ) (len₁ : ℕ) (p : Added kept order len (a (number_at order at)) kept₁ order₁ len₁)
    (kept₂ : List Bool) (order₂ : List ℕ) (len₂ : ℕ) (q : Added kept₁ order₁ len₁ (b (number_at order at)) kept₂ order₂ len₂) where
  -- the one that is followed is in the set
  mine : is_in kept (number_at order at) ≡ true
  mine = f.listed.member at h

  held : (i : ℕ) → is_in kept i ≡ true → is_in kept₂ i ≡ true
  held i e = q.held i (p.held i e)

  same : (j : ℕ) → j < len → number_at order₂ j ≡ number_at order j
  same j g = q.same j (omega (arith, p.more)) ∙ p.same j g

  least : (other : ℕ → Bool) → Closed a b other → ((k : ℕ) → is_in kept₀ k ≡ true → other k ≡ true) → (k : ℕ) → is_in kept₂ k ≡ true → other k ≡ true
  least other c s k e =
      let old = f.least other c s in
      let here = old _ mine in
      ⊎_elim
      (λ (e₁ : is_in kept₁ k ≡ true).
      ⊎_elim (λ (e₀ : is_in kept k ≡ true). old k e₀) (λ (w : k ≡ a (number_at order at)). ap other w ∙ c.one _ here) (p.only k e₁))
      (λ (w : k ≡ b (number_at order at)). ap other w ∙ c.two _ here)
      (q.only k e)

  one : (j : ℕ) → j < at + 1 → is_in kept₂ (a (number_at order₂ j)) ≡ true
  one j g =
      ap (λ (i : ℕ). is_in kept₂ (a i)) (same j (omega arith))
      ∙ ⊎_elim
      (λ (e : j ≡ at). ap (λ (i : ℕ). is_in kept₂ (a (number_at order i))) e ∙ q.held _ p.here)
      (λ (l : j < at). held _ (f.one j l))
      (eq-or-lt_of_le (omega arith))

  two : (j : ℕ) → j < at + 1 → is_in kept₂ (b (number_at order₂ j)) ≡ true
  two j g =
      ap (λ (i : ℕ). is_in kept₂ (b i)) (same j (omega arith))
      ∙ ⊎_elim
      (λ (e : j ≡ at). ap (λ (i : ℕ). is_in kept₂ (b (number_at order i))) e ∙ q.here)
      (λ (l : j < at). held _ (f.two j l))
      (eq-or-lt_of_le (omega arith))

  pub follow-next : Following a b kept₀ kept₂ order₂ len₂ (at + 1)
  follow-next = record {
    listed = q.listed;
    upto = omega (arith, p.more, q.more);
    held = λ k e. held k (f.held k e);
    least = least;
    one = one;
    two = two;
  }

pub follow-ends : (a b : ℕ → ℕ) (kept₀ kept : List Bool) (order : List ℕ) (len at : ℕ)
    → Following a b kept₀ kept order len at → len ≤ at → Least a b (is_in kept₀) (is_in kept)
follow-ends a b kept₀ kept order len at f h = record {
  holds = f.held;
  closed = record {
    one = λ i e. let w = f.listed.found i e in ap (λ (k : ℕ). is_in kept (a k)) (sym w.is) ∙ f.one w.place (omega (arith, w.below));
    two = λ i e. let w = f.listed.found i e in ap (λ (k : ℕ). is_in kept (b k)) (sym w.is) ∙ f.two w.place (omega (arith, w.below));
  };
  least = f.least;
}
