-- A row of pixels read off a row of changes, one column at a time. Assumes nothing.
use mathlib.Core.Path.{◌≡◌, refl, sym, ap, ◌∙◌}
use mathlib.Core.Logic.{⊎_elim}
use mathlib.Core.Bool.{Bool, true, false}
use mathlib.Core.List.{List}
use Prim.Native.Nat.{ℕ, suc, ◌+◌, ◌%◌, ◌<◌}
use native.Mathlib.Omega.{arith}
use lib.Dec.{ltb}
use lib.ListN.{length, length-set, get_or, set}
use lib.Seq.{get_or-set_same, get_or-set_other}
use Rattle.signed.proofs.Signed.{lt-or-le}
use Rattle.shown_rows.specs.Turns.{bit, total}
use Rattle.shown_rows.specs.Rows.{black_at, wound, Over}

-- the winding of the next column
pub winding-more : (l : List ℕ) (i w r : ℕ) → w ≡ total (λ k. get_or l k 0) i % 65536 → r ≡ (w + get_or l i 0) % 65536 → r ≡ total (λ k. get_or l k 0) (i + 1) % 65536
unfolding total
winding-more l i w r p q =
    let e : suc i ≡ i + 1 = omega arith in
    let h : r ≡ (total (λ k. get_or l k 0) i + get_or l i 0) % 65536 = omega arith in
    h ∙ ap (λ (n : ℕ). total (λ k. get_or l k 0) n % 65536) e

-- the pixel by it
pub pixel-here : (l : List ℕ) (i r : ℕ) (d : Bool) → d ≡ ltb 0 r → r ≡ total (λ k. get_or l k 0) (i + 1) % 65536 → d ≡ wound l i
pixel-here l i r d p q =
    let e : i + 1 ≡ suc i = omega arith in
    p ∙ ap (ltb 0) q ∙ ap (λ (n : ℕ). ltb 0 (total (λ k. get_or l k 0) n % 65536)) e

bit-black : (d : Bool) → ltb 0 (bit d) ≡ d
bit-black true = refl
bit-black false = refl

-- nothing is written yet
pub over_none : (row changes : List ℕ) → Over row changes 0 row
over_none row changes = record { as_long = refl; here = λ k h. absurd (let z : ⊥ = omega arith in z); behind = λ k h. refl }

-- one pixel more
pub over-more : (row changes row' : List ℕ) (i x : ℕ) (d : Bool) → Over row changes i row' → i < length row → x ≡ bit d → d ≡ wound changes i
    → Over row changes (i + 1) (set row' i x)
over-more row changes row' i x d o h p q = record {
  as_long = length-set row' i x ∙ o.as_long;
  here = λ k l.
      ⊎_elim
      (λ m. ap (ltb 0) (get_or-set_other row' i k x 0 (λ (e : k ≡ i). omega arith)) ∙ o.here k m)
      (λ m. let e : k ≡ i = omega arith in
      ap (λ (z : ℕ). black_at (set row' i x) z) e ∙ ap (ltb 0) (get_or-set_same row' i x 0 (omega (arith, o.as_long)) ∙ p) ∙ bit-black d ∙ q
      ∙ ap (wound changes) (sym e))
      (lt-or-le k i);
  behind = λ k l. get_or-set_other row' i k x 0 (λ (e : k ≡ i). omega arith) ∙ o.behind k (omega arith);
}
