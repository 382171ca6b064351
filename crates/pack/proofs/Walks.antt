-- Walks along renumbered segments: the same ones in the same order.
use mathlib.Core.Path.{◌≡◌, refl, sym, ap, subst, ◌∙◌}
use mathlib.Core.Bool.{Bool, true, false, cond, ◌&&◌}
use mathlib.Core.List.{List, [], ◌∷◌, map}
use mathlib.Core.Logic.{⊎_elim}
use Prim.Native.Nat.{ℕ, zero, suc, ◌+◌, ◌≤◌, ◌<◌}
use native.Mathlib.Omega.{arith}
use borrow.Author.Tests.{eq-eqb, ne_eqb, eqb-true, eqb-false, lt-ltb}
use lib.Dec.{eqb, ltb}
use lib.ListN.{length}
use Rattle.refusals.proofs.Tests.{and_second}
use Rattle.axis.specs.Ring.{walk, ends, times}
use Rattle.axis.proofs.Rings.{walk_at, walk-passes}
use Rattle.axis.proofs.Walks.{same?, times-here, met, met-one, met-behind, walk-some}

times-head : (m : ℕ) (ms : List ℕ) → 0 < times m (m ∷ ms)
times-head m ms = omega (arith, times-here m m ms refl)

-- ---- what a walk meets
pub head-met : (next : ℕ → ℕ) (last n x : ℕ) → 0 < times x (walk next last n x)
unfolding walk
head-met next last zero x = times-head x []
head-met next last (suc n) x = by (eqb x last)
  where
    by : (b : Bool) → 0 < times x (cond b (x ∷ []) (x ∷ walk next last n (next x)))
    by true = times-head x []
    by false = times-head x (walk next last n (next x))

-- the last is met where the walk ends
pub last-met : (next : ℕ → ℕ) (m last n x : ℕ) → ends next m last n x ≡ true → 0 < times last (walk next last n x)
unfolding walk ends
last-met next m last zero x e = subst (λ (k : ℕ). 0 < times k (x ∷ [])) (eqb-true x last e) (times-head x [])
last-met next m last (suc n) x e = by (λ q. last-met next m last n (next x) q) (eqb x last) refl e
  where
    by : (ends next m last n (next x) ≡ true → 0 < times last (walk next last n (next x))) → (b : Bool) → eqb x last ≡ b
        → cond b true (ltb (next x) m && ends next m last n (next x)) ≡ true → 0 < times last (cond b (x ∷ []) (x ∷ walk next last n (next x)))
    by rest true q e = subst (λ (k : ℕ). 0 < times k (x ∷ [])) (eqb-true x last q) (times-head x [])
    by rest false q e = met-behind last x (walk next last n (next x)) (rest (and_second (ltb (next x) m) _ e))

-- the next of a number that is met is met, but for the last's
pub next-met : (next : ℕ → ℕ) (m last n left x i : ℕ) → length (walk next last n x) ≤ left → ends next m last n x ≡ true → 0 < times i (walk next last n x)
    → (i ≡ last → ⊥)
    → 0 < times (next i) (walk next last n x)
next-met next m last n zero x i few e g q = absurd (omega (arith, walk-some next last n x))
next-met next m last n (suc left) x i few e g q =
    ⊎_elim
    (λ (p : x ≡ last). absurd (q (met-one i x (subst (λ (l : List ℕ). 0 < times i l) (walk_at next last n x p) g) ∙ p)))
    (λ (p : x ≡ last → ⊥).
    let w = walk-passes next m last n x p e in
    let lengths = ap (length {A = ℕ}) w.step in
    subst (λ (l : List ℕ). 0 < times (next i) l) (sym w.step)
    (⊎_elim
    (λ (r : i ≡ x).
    subst (λ (j : ℕ). 0 < times (next j) (x ∷ walk next last n (next x))) (sym r)
    (met-behind (next x) x (walk next last n (next x)) (head-met next last n (next x))))
    (λ (r : 0 < times i (walk next last n (next x))).
    met-behind (next i) x (walk next last n (next x)) (next-met next m last n left (next x) i (omega (arith, lengths)) w.on r q))
    (met i x (walk next last n (next x)) (subst (λ (l : List ℕ). 0 < times i l) w.step g))))
    (same? x last)

-- ---- renumbered
module _
    (next next' new : ℕ → ℕ) (last : ℕ) (P : ℕ → Type 0)
    (step : (i : ℕ) → P i → next' (new i) ≡ new (next i)) (one : (i j : ℕ) → P i → P j → new i ≡ new j → i ≡ j) (end : P last) where
  same_test : (x : ℕ) → P x → eqb (new x) (new last) ≡ eqb x last
  same_test x p = go (eqb x last) refl
    where
      go : (b : Bool) → eqb x last ≡ b → eqb (new x) (new last) ≡ b
      go true e = eq-eqb (new x) (new last) (ap new (eqb-true x last e))
      go false e = ne_eqb (new x) (new last) (λ (q : new x ≡ new last). eqb-false x last e (one x last p end q))

  pub walk-moved : (n x : ℕ) → ((i : ℕ) → 0 < times i (walk next last n x) → P i) → walk next' (new last) n (new x) ≡ map new (walk next last n x)
  unfolding walk
  walk-moved zero x h = refl
  walk-moved (suc n) x h =
      let p = h x (head-met next last (suc n) x) in
      ap (λ (b : Bool). cond b (new x ∷ []) (new x ∷ walk next' (new last) n (next' (new x)))) (same_test x p)
      ∙ by p (λ g. walk-moved n (next x) g) (eqb x last) h
    where
      by : P x → (((i : ℕ) → 0 < times i (walk next last n (next x)) → P i) → walk next' (new last) n (new (next x)) ≡ map new (walk next last n (next x)))
          → (b : Bool) → ((i : ℕ) → 0 < times i (cond b (x ∷ []) (x ∷ walk next last n (next x))) → P i)
          → cond b (new x ∷ []) (new x ∷ walk next' (new last) n (next' (new x))) ≡ map new (cond b (x ∷ []) (x ∷ walk next last n (next x)))
      by p rest true h = refl
      by p rest false h =
          ap (λ (l : List ℕ). new x ∷ l)
          (ap (walk next' (new last) n) (step x p) ∙ rest (λ i g. h i (met-behind i x (walk next last n (next x)) g)))

  pub ends-moved : (m m' : ℕ) → ((i : ℕ) → P i → new i < m') → (n x : ℕ) → ((i : ℕ) → 0 < times i (walk next last n x) → P i) → ends next m last n x ≡ true
      → ends next' m' (new last) n (new x) ≡ true
  unfolding walk ends
  ends-moved m m' below zero x h e = same_test x (h x (head-met next last zero x)) ∙ e
  ends-moved m m' below (suc n) x h e =
      let p = h x (head-met next last (suc n) x) in
      ap (λ (b : Bool). cond b true (ltb (next' (new x)) m' && ends next' m' (new last) n (next' (new x)))) (same_test x p)
      ∙ by p (λ g q. ends-moved m m' below n (next x) g q) (eqb x last) h e
    where
      by : P x → (((i : ℕ) → 0 < times i (walk next last n (next x)) → P i) → ends next m last n (next x) ≡ true
          → ends next' m' (new last) n (new (next x)) ≡ true)
          → (b : Bool) → ((i : ℕ) → 0 < times i (cond b (x ∷ []) (x ∷ walk next last n (next x))) → P i)
          → cond b true (ltb (next x) m && ends next m last n (next x)) ≡ true
          → cond b true (ltb (next' (new x)) m' && ends next' m' (new last) n (next' (new x))) ≡ true
      by p rest true h e = refl
      by p rest false h e =
          let g : (i : ℕ) → 0 < times i (walk next last n (next x)) → P i = λ i r. h i (met-behind i x (walk next last n (next x)) r) in
          let q = rest g (and_second (ltb (next x) m) _ e) in
          let l = lt-ltb (new (next x)) m' (below (next x) (g (next x) (head-met next last n (next x)))) in
          ap (λ (y : ℕ). ltb y m' && ends next' m' (new last) n y) (step x p) ∙ ap (λ (b : Bool). b && ends next' m' (new last) n (new (next x))) l ∙ q

-- ---- how often, renumbered
module _ (new : ℕ → ℕ) (P : ℕ → Type 0) (one : (i j : ℕ) → P i → P j → new i ≡ new j → i ≡ j) where
  pub times-moved : (ms : List ℕ) (i : ℕ) → P i → ((k : ℕ) → 0 < times k ms → P k) → times (new i) (map new ms) ≡ times i ms
  unfolding times
  times-moved [] i p h = refl
  times-moved (x ∷ ms) i p h =
      let q = times-moved ms i p (λ k g. h k (met-behind k x ms g)) in
      let r : eqb (new i) (new x) ≡ eqb i x = same (eqb i x) refl (h x (times-head x ms)) in
      λ j. cond (r j) 1 0 + q j
    where
      same : (b : Bool) → eqb i x ≡ b → P x → eqb (new i) (new x) ≡ b
      same true e px = eq-eqb (new i) (new x) (ap new (eqb-true i x e))
      same false e px = ne_eqb (new i) (new x) (λ (q : new i ≡ new x). eqb-false i x e (one i x p px q))
