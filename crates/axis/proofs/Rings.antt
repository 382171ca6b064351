-- Walks along rings: one step, and as many as are needed; how often a number is met.
use mathlib.Core.Path.{◌≡◌, refl, sym, ap, ◌∙◌}
use mathlib.Core.Bool.{Bool, true, false, cond, ◌&&◌}
use mathlib.Core.List.{List, [], ◌∷◌}
use mathlib.Core.Logic.{⊎_elim}
use Prim.Native.Nat.{ℕ, zero, suc, ◌+◌, ◌≤◌, ◌<◌}
use native.Mathlib.Nat.{eq-or-lt_of_le}
use native.Mathlib.Omega.{arith}
use borrow.Author.Tests.{eq-eqb, ne_eqb, eqb-true, ltb-true}
use lib.ListN.{length}
use lib.Dec.{eqb, ltb}
use Rattle.refusals.proofs.Tests.{and_first, and_second}
use Rattle.axis.specs.Ring.{walk, ends}

-- at the last the walk is over
pub walk_at : (next : ℕ → ℕ) (last n ix : ℕ) → ix ≡ last → walk next last n ix ≡ ix ∷ []
unfolding walk
walk_at next last zero ix e = refl
walk_at next last (suc n) ix e = rw (eq-eqb ix last e)

pub ends_at : (next : ℕ → ℕ) (most last n ix : ℕ) → ix ≡ last → ends next most last n ix ≡ true
unfolding ends
ends_at next most last zero ix e = eq-eqb ix last e
ends_at next most last (suc n) ix e = rw (eq-eqb ix last e)

-- ---- a walk that ends, with one step more to take
pub ends_more : (next : ℕ → ℕ) (most last n ix : ℕ) → ends next most last n ix ≡ true → ends next most last (suc n) ix ≡ true
unfolding ends
ends_more next most last zero ix e = rw e
ends_more next most last (suc n) ix e = go (eqb ix last) (ltb (next ix) most) _ _ (ends_more next most last n (next ix)) e
  where
    go : (a b few more : Bool) → (few ≡ true → more ≡ true) → cond a true (b && few) ≡ true → cond a true (b && more) ≡ true
    go true b few more f h = refl
    go false true few more f h = f h
    go false false few more f h = h

pub walk_more : (next : ℕ → ℕ) (most last n ix : ℕ) → ends next most last n ix ≡ true → walk next last (suc n) ix ≡ walk next last n ix
unfolding ends walk
walk_more next most last zero ix e = rw e
walk_more next most last (suc n) ix e = go (eqb ix last) (ltb (next ix) most) _ _ _ (walk_more next most last n (next ix)) e
  where
    go : (a b end : Bool) (more few : List ℕ) → (end ≡ true → more ≡ few) → cond a true (b && end) ≡ true
        → cond a (ix ∷ []) (ix ∷ more) ≡ cond a (ix ∷ []) (ix ∷ few)
    go true b end more few f h = refl
    go false true end more few f h = ap (λ (l : List ℕ). ix ∷ l) (f h)
    go false false end more few f h = absurd (let z : ◌≡◌ {A = ℕ} 0 1 = cc in omega arith)

-- how many steps are allowed does not matter once the walk ends
pub ends-fuel : (next : ℕ → ℕ) (most last n m ix : ℕ) → n ≤ m → ends next most last n ix ≡ true → ends next most last m ix ≡ true
ends-fuel next most last n zero ix h e = let z : n ≡ 0 = omega arith in rw z at e
ends-fuel next most last n (suc m) ix h e =
    ⊎_elim
    (λ (w : n ≡ suc m). rw w at e)
    (λ (w : n < suc m). ends_more next most last m ix (ends-fuel next most last n m ix (omega arith) e))
    (eq-or-lt_of_le h)

pub walk-fuel : (next : ℕ → ℕ) (most last n m ix : ℕ) → n ≤ m → ends next most last n ix ≡ true → walk next last m ix ≡ walk next last n ix
walk-fuel next most last n zero ix h e = let z : n ≡ 0 = omega arith in rw z
walk-fuel next most last n (suc m) ix h e =
    ⊎_elim
    (λ (w : n ≡ suc m). ap (λ (k : ℕ). walk next last k ix) (sym w))
    (λ (w : n < suc m). walk_more next most last m ix (ends-fuel next most last n m ix (omega arith) e) ∙ walk-fuel next most last n m ix (omega arith) e)
    (eq-or-lt_of_le h)

-- ---- one step of a walk that ends, under the same bound
pub record Passes (next : ℕ → ℕ) (most last n ix : ℕ) : Type 0 where
  pub below : next ix < most
  pub on : ends next most last n (next ix) ≡ true
  pub step : walk next last n ix ≡ ix ∷ walk next last n (next ix)

pub walk-passes : (next : ℕ → ℕ) (most last n ix : ℕ) → (ix ≡ last → ⊥) → ends next most last n ix ≡ true → Passes next most last n ix
unfolding walk ends
walk-passes next most last zero ix h e = absurd (h (eqb-true ix last e))
walk-passes next most last (suc n) ix h e =
    let p = rw (ne_eqb ix last h) at e in
    let o = and_second (ltb (next ix) most) _ p in
    record {
      below = ltb-true (next ix) most (and_first _ _ p);
      on = ends_more next most last n (next ix) o;
      step = rw (ne_eqb ix last h) (ap (λ (l : List ℕ). ix ∷ l) (sym (walk_more next most last n (next ix) o)));
    }

-- ---- what is left of a walk
pub length-walk : (next : ℕ → ℕ) (last n ix : ℕ) → length (walk next last n ix) ≤ n + 1
unfolding walk
length-walk next last zero ix = omega arith
length-walk next last (suc n) ix = go (eqb ix last) (length-walk next last n (next ix))
  where
    go : (a : Bool) → length (walk next last n (next ix)) ≤ n + 1 → length (cond a (ix ∷ []) (ix ∷ walk next last n (next ix))) ≤ suc n + 1
    go true h = omega arith
    go false h = omega arith

pub shorter : (next : ℕ → ℕ) (most last n ix : ℕ) → Passes next most last n ix → length (walk next last n ix) ≡ 1 + length (walk next last n (next ix))
shorter next most last n ix p = omega (arith, ap (length {A = ℕ}) p.step)
