-- The segments of each edge counted, one segment after the other.
use mathlib.Core.Path.{◌≡◌, refl, sym, ap, subst, ◌∙◌}
use mathlib.Core.Bool.{Bool, true, false, cond}
use mathlib.Core.List.{List}
use mathlib.Core.Logic.{⊎_elim}
use Prim.Native.Nat.{ℕ, zero, suc, ◌+◌, ◌-◌, ◌≤◌, ◌<◌}
use native.Mathlib.Numerals.{add-one}
use native.Mathlib.Omega.{arith}
use borrow.Author.Tests.{eq-eqb, ne_eqb}
use lib.Dec.{eqb}
use lib.ListN.{length, get_or, set, replicate, length-set, length-replicate}
use lib.Seq.{get_or-set_same, get_or-set_other}
use Rattle.axis.specs.Limits.{most_edges}
use Rattle.mend.specs.Following.{total, count, own_in}
use Rattle.mend.specs.Rebuilt.{first_from, last_below, lowest, highest, Tallied}
use Rattle.axis.proofs.Walks.{same?}
use Rattle.mend.proofs.Sums.{total-none, total-more, count-few}
use Rattle.mend.proofs.Rising.{count_from, count-split}

-- ---- the lowest
first-snoc : (p : ℕ → Bool) (n i other : ℕ) → first_from p (suc n) i other ≡ first_from p n i (cond (p (i + n)) (i + n) other)
unfolding first_from
first-snoc p zero i other = let z : i + 0 ≡ i = omega arith in rw z
first-snoc p (suc n) i other =
    ap (cond (p i) i) (first-snoc p n (i + 1) other ∙ ap (λ (k : ℕ). first_from p n (i + 1) (cond (p k) k other))
    (let z : i + 1 + n ≡ i + suc n = omega arith in z))

-- where there is none, the other; where there is one, whatever the other is
first-none : (p : ℕ → Bool) (n i other : ℕ) → count_from p n i ≡ 0 → first_from p n i other ≡ other
unfolding first_from count_from
first-none p zero i other h = refl
first-none p (suc n) i other h = by (p i) h (first-none p n (i + 1) other)
  where
    by : (b : Bool) → cond b 1 0 + count_from p n (i + 1) ≡ 0 → (count_from p n (i + 1) ≡ 0 → first_from p n (i + 1) other ≡ other)
        → cond b i (first_from p n (i + 1) other) ≡ other
    by true h rest = absurd (omega arith)
    by false h rest = rest (omega arith)

first_some : (p : ℕ → Bool) (n i x y : ℕ) → 0 < count_from p n i → first_from p n i x ≡ first_from p n i y
unfolding first_from count_from
first_some p zero i x y h = absurd (omega arith)
first_some p (suc n) i x y h = by (p i) h (first_some p n (i + 1) x y)
  where
    by : (b : Bool) → 0 < cond b 1 0 + count_from p n (i + 1) → (0 < count_from p n (i + 1) → first_from p n (i + 1) x ≡ first_from p n (i + 1) y)
        → cond b i (first_from p n (i + 1) x) ≡ cond b i (first_from p n (i + 1) y)
    by true h rest = refl
    by false h rest = rest (omega arith)

counted-from : (p : ℕ → Bool) (n : ℕ) → count p n ≡ count_from p n 0
counted-from p n = count-split p n 0 n (omega arith) ∙ omega (arith, total-none (λ (i : ℕ). cond (p i) 1 0))

-- so the lowest, standing for none, is found again
pub lowest-again : (p : ℕ → Bool) (n : ℕ) → 0 < count p n → first_from p n 0 (lowest p n) ≡ lowest p n
lowest-again p n h = first_some p n 0 (lowest p n) 0 (omega (arith, counted-from p n))

lowest-more : (p : ℕ → Bool) (n c : ℕ) → c ≡ count p n → p n ≡ true → lowest p (n + 1) ≡ cond (eqb c 0) n (lowest p n)
lowest-more p n c e o =
    ap (λ (k : ℕ). first_from p k 0 0) (add-one n) ∙ first-snoc p n 0 0
    ∙ ap (λ (k : ℕ). first_from p n 0 (cond (p k) k 0)) (let z : 0 + n ≡ n = omega arith in z) ∙ ap (λ (b : Bool). first_from p n 0 (cond b n 0)) o
    ∙ ⊎_elim
    (λ (z : c ≡ 0). first-none p n 0 n (omega (arith, counted-from p n)) ∙ sym (ap (λ (b : Bool). cond b n (lowest p n)) (eq-eqb c 0 z)))
    (λ (z : c ≡ 0 → ⊥). first_some p n 0 n 0 (some z) ∙ sym (ap (λ (b : Bool). cond b n (lowest p n)) (ne_eqb c 0 z)))
    (same? c 0)
  where
    some : (c ≡ 0 → ⊥) → 0 < count_from p n 0
    some z = by (count_from p n 0) (λ (q : count_from p n 0 ≡ 0). z (omega (arith, counted-from p n)))
      where
        by : (k : ℕ) → (k ≡ 0 → ⊥) → 0 < k
        by zero h = absurd (h refl)
        by (suc k) h = omega arith

lowest-same : (p : ℕ → Bool) (n : ℕ) → p n ≡ false → lowest p (n + 1) ≡ lowest p n
lowest-same p n o =
    ap (λ (k : ℕ). first_from p k 0 0) (add-one n) ∙ first-snoc p n 0 0
    ∙ ap (λ (k : ℕ). first_from p n 0 (cond (p k) k 0)) (let z : 0 + n ≡ n = omega arith in z) ∙ ap (λ (b : Bool). first_from p n 0 (cond b n 0)) o

-- ---- the highest
highest-more : (p : ℕ → Bool) (n : ℕ) → highest p (n + 1) ≡ cond (p n) n (highest p n)
unfolding last_below
highest-more p n = rw add-one

-- ---- the lists
module _ (edges : List ℕ) where
  pub tallied-none : {counts lows highs : List ℕ} → counts ≡ replicate most_edges 0 → lows ≡ replicate most_edges 0 → highs ≡ replicate most_edges 0
      → Tallied edges 0 counts lows highs
  unfolding total first_from last_below
  tallied-none {counts} {lows} {highs} a b c = record {
    counts_size = ap (length {A = ℕ}) a ∙ length-replicate {A = ℕ} most_edges 0;
    lows_size = ap (length {A = ℕ}) b ∙ length-replicate {A = ℕ} most_edges 0;
    highs_size = ap (length {A = ℕ}) c ∙ length-replicate {A = ℕ} most_edges 0;
    counted = λ k h. ap (λ (l : List ℕ). get_or l k 0) a ∙ zeros most_edges k;
    low = λ k h. ap (λ (l : List ℕ). get_or l k 0) b ∙ zeros most_edges k;
    high = λ k h. ap (λ (l : List ℕ). get_or l k 0) c ∙ zeros most_edges k;
  }
    where
      zeros : (m k : ℕ) → ◌≡◌ {A = ℕ} (get_or (replicate m 0) k 0) 0
      zeros zero k = refl
      zeros (suc m) zero = refl
      zeros (suc m) (suc k) = zeros m k

  module _ (i : ℕ) {counts lows highs : List ℕ} (t : Tallied edges i counts lows highs) where
    other : (k : ℕ) → (get_or edges i 0 ≡ k → ⊥) → own_in edges k i ≡ false
    other k h = ne_eqb (get_or edges i 0) k h

    same_count : (k : ℕ) → k < most_edges → (get_or edges i 0 ≡ k → ⊥) → get_or counts k 0 ≡ count (own_in edges k) (i + 1)
    same_count k h o = t.counted k h ∙ sym (total-more (λ (x : ℕ). cond (own_in edges k x) 1 0) i ∙ (let z = other k o in rw z (omega arith)))

    same_low : (k : ℕ) → k < most_edges → (get_or edges i 0 ≡ k → ⊥) → get_or lows k 0 ≡ lowest (own_in edges k) (i + 1)
    same_low k h o = t.low k h ∙ sym (lowest-same (own_in edges k) i (other k o))

    same-high : (k : ℕ) → k < most_edges → (get_or edges i 0 ≡ k → ⊥) → get_or highs k 0 ≡ highest (own_in edges k) (i + 1)
    same-high k h o = t.high k h ∙ sym (highest-more (own_in edges k) i ∙ ap (λ (b : Bool). cond b i (highest (own_in edges k) i)) (other k o))

    -- a segment without an edge
    pub tallied-skip : most_edges ≤ get_or edges i 0 → Tallied edges (i + 1) counts lows highs
    tallied-skip g = record {
      counts_size = t.counts_size;
      lows_size = t.lows_size;
      highs_size = t.highs_size;
      counted = λ k h. same_count k h (λ (e : get_or edges i 0 ≡ k). omega arith);
      low = λ k h. same_low k h (λ (e : get_or edges i 0 ≡ k). omega arith);
      high = λ k h. same-high k h (λ (e : get_or edges i 0 ≡ k). omega arith);
    }

    -- a segment of edge k
    pub tallied-more : (k : ℕ) → get_or edges i 0 ≡ k → k < most_edges → (c l h : ℕ) → c ≡ get_or counts k 0 + 1
        → l ≡ cond (eqb (get_or counts k 0) 0) i (get_or lows k 0) → h ≡ i
        → Tallied edges (i + 1) (set counts k c) (set lows k l) (set highs k h)
    tallied-more k e b c l h ec el eh =
        let o = eq-eqb (get_or edges i 0) k e in
        record {
          counts_size = length-set counts k c ∙ t.counts_size;
          lows_size = length-set lows k l ∙ t.lows_size;
          highs_size = length-set highs k h ∙ t.highs_size;
          counted = λ j g. at counts k c (omega (arith, t.counts_size)) (λ (x : ℕ). count (own_in edges x) (i + 1))
              (ec ∙ ap (λ (x : ℕ). x + 1) (t.counted k b) ∙ sym (total-more (λ (x : ℕ). cond (own_in edges k x) 1 0) i ∙ rw o)) j
              (λ q. same_count j g (λ r. q (sym r ∙ e)));
          low = λ j g. at lows k l (omega (arith, t.lows_size)) (λ (x : ℕ). lowest (own_in edges x) (i + 1))
              (el ∙ ap (cond (eqb (get_or counts k 0) 0) i) (t.low k b) ∙ sym (lowest-more (own_in edges k) i (get_or counts k 0) (t.counted k b) o)) j
              (λ q. same_low j g (λ r. q (sym r ∙ e)));
          high = λ j g. at highs k h (omega (arith, t.highs_size)) (λ (x : ℕ). highest (own_in edges x) (i + 1))
              (eh ∙ sym (highest-more (own_in edges k) i ∙ ap (λ (x : Bool). cond x i (highest (own_in edges k) i)) o)) j
              (λ q. same-high j g (λ r. q (sym r ∙ e)));
        }
      where
        -- a list in which one place is written
        at : (xs : List ℕ) (k v : ℕ) → k < length xs → (f : ℕ → ℕ) → v ≡ f k → (j : ℕ) → ((j ≡ k → ⊥) → get_or xs j 0 ≡ f j) → get_or (set xs k v) j 0 ≡ f j
        at xs k v h f e j rest =
            ⊎_elim
            (λ (q : j ≡ k). ap (λ (x : ℕ). get_or (set xs k v) x 0) q ∙ get_or-set_same xs k v 0 h ∙ e ∙ ap f (sym q))
            (λ (q : j ≡ k → ⊥). get_or-set_other xs k j v 0 q ∙ rest q)
            (same? j k)

  -- a count is that of the segments so far at most
  pub tallied-few : {i k : ℕ} {counts lows highs : List ℕ} → Tallied edges i counts lows highs → k < most_edges → get_or counts k 0 ≤ i
  tallied-few {i} {k} t h = omega (arith, t.counted k h, count-few (own_in edges k) i)

  pub tallied-all : {i n : ℕ} {counts lows highs : List ℕ} → i ≤ n → n ≤ i → Tallied edges i counts lows highs → Tallied edges n counts lows highs
  tallied-all {i} {n} {counts} {lows} {highs} a b t = let z : i ≡ n = omega arith in subst (λ (k : ℕ). Tallied edges k counts lows highs) z t
