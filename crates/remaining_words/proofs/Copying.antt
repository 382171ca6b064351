-- Elements copied over as many others, one after the other.
use mathlib.Core.Path.{◌≡◌, refl, sym, ap, ◌∙◌}
use mathlib.Core.List.{List, ◌++◌, append-nil}
use Prim.Native.Nat.{ℕ, ◌+◌, ◌-◌, ◌≤◌, ◌<◌}
use native.Mathlib.Omega.{arith}
use lib.ListN.{length, get_or, set, take, drop, replicate, length-set, length-replicate}
use lib.Seq.{drop-length, length-take-le}
use Rattle.turn.proofs.Fronts.{front, front-more, front-all}

-- the first i of n elements are copied
pub record Copied {A : Type 0} (from old : List A) (n : ℕ) (to : List A) (i : ℕ) : Type 0 where
  pub reached : i ≤ n
  pub count : n ≡ length from
  pub room : length old ≡ length from
  pub long : length to ≡ length old
  pub words : to ≡ front from old i

pub copied_none : {A : Type 0} (from old : List A) → length old ≡ length from → Copied from old (length from) old 0
copied_none from old e = record { reached = omega arith; count = refl; room = e; long = refl; words = refl }

module _ {A : Type 0} (from old : List A) {n : ℕ} {to : List A} {i : ℕ} (c : Copied from old n to i) where
  pub copied_more : {v : A} {to' : List A} (d : A) → i < n → v ≡ get_or from i d → to' ≡ set to i v → Copied from old n to' (i + 1)
  copied_more {v} {to'} d h e q =
      let k = c.count in
      let r = c.room in
      record {
        reached = omega arith;
        count = c.count;
        room = c.room;
        long = ap length q ∙ length-set to i v ∙ c.long;
        words = q ∙ ap (λ (w : List A). set w i v) c.words ∙ front-more from old i v d (omega (arith, k, h)) (omega (arith, k, r, h)) e;
      }

  pub copied_all : n ≤ i → to ≡ from
  copied_all h =
      c.words ∙ front-all from old n i (sym c.count) c.reached h
      ∙ ap (λ (w : List A). from ++ w) (ap (λ (k : ℕ). drop k old) (c.count ∙ sym c.room) ∙ drop-length old) ∙ append-nil from

-- as much room as is asked for, of a larger one
pub room-long : {A : Type 0} (size n : ℕ) (x : A) → n ≤ size → length (take (n - 0) (drop 0 (replicate size x))) ≡ n
room-long size n x h = length-take-le (n - 0) (replicate size x) (omega (arith, length-replicate size x)) ∙ (let e : n - 0 ≡ n = omega arith in e)
