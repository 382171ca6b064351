-- Totals of a list of which one place is written. Assumes nothing.
use mathlib.Core.Path.{◌≡◌, refl, sym, ap, ◌∙◌}
use mathlib.Core.Logic.{⊎_elim}
use mathlib.Core.List.{List}
use Prim.Native.Nat.{ℕ, zero, suc, ◌+◌, ◌-◌, ◌%◌, ◌≤◌, ◌<◌}
use native.Mathlib.Omega.{arith}
use lib.ListN.{length, length-set, get_or, set}
use lib.Seq.{get_or-set_same, get_or-set_other}
use Rattle.signed.proofs.Signed.{lt-or-le}
use Rattle.shown_rows.specs.Turns.{total}
use Rattle.shown_rows.specs.Crossing.{Starts}
use Rattle.shown_rows.specs.Changes.{Added}

module _ (l : List ℕ) (c x : ℕ) where
  -- in front of the place
  total-front : (n : ℕ) → n ≤ c → total (λ k. get_or (set l c x) k 0) n ≡ total (λ k. get_or l k 0) n
  unfolding total
  total-front zero h = refl
  total-front (suc n) h = let p = total-front n (omega arith) in let q = get_or-set_other l c n x 0 (λ (e : n ≡ c). omega arith) in λ i. p i + q i

  -- from it on
  total-behind : (n : ℕ) → c < n → c < length l → total (λ k. get_or (set l c x) k 0) n + get_or l c 0 ≡ total (λ k. get_or l k 0) n + x
  unfolding total
  total-behind zero h b = let z : ⊥ = omega arith in absurd z
  total-behind (suc n) h b =
      ⊎_elim
      (λ m. let p = total-behind n m b in let q = get_or-set_other l c n x 0 (λ (e : n ≡ c). omega arith) in omega arith)
      (λ m. let e : c ≡ n = omega arith in let p = total-front n (omega arith) in
      let q : get_or (set l c x) n 0 ≡ x = ap (λ (z : ℕ). get_or (set l c x) z 0) (sym e) ∙ get_or-set_same l c x 0 b in
      let r : get_or l c 0 ≡ get_or l n 0 = ap (λ (z : ℕ). get_or l z 0) e in
      omega arith)
      (lt-or-le c n)

-- the line's first column is in the row, or left of it
pub added : (left lx ly hx hy y by c k x : ℕ) (l : List ℕ) → Starts lx ly hx hy y c → k ≡ c - left → k < length l → x ≡ (get_or l k 0 + by) % 65536
    → Added left lx ly hx hy y by l (set l k x)
added left lx ly hx hy y by c k x l s p b e = record {
  as_long = length-set l k x;
  more = λ i h z. let q = total-behind l k x (suc i) (omega (arith, s.outside (left + i) z)) b in omega arith;
  same = λ i h z. ⊎_elim (λ m. total-front l k x (suc i) m) (λ m. absurd (z (s.inside (left + i) (omega arith)))) (lt-or-le i k);
}

-- and where it is behind the row
pub added_none : (left lx ly hx hy y by c k : ℕ) (l : List ℕ) → Starts lx ly hx hy y c → k ≡ c - left → length l ≤ k → Added left lx ly hx hy y by l l
added_none left lx ly hx hy y by c k l s p b = record {
  as_long = refl;
  more = λ i h z. let q : ⊥ = omega (arith, s.outside (left + i) z) in absurd q;
  same = λ i h z. refl;
}
