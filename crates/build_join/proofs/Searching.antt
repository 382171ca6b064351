-- The search for an edge: one law for each way through the test of one, and for each way on.
use mathlib.Core.Path.{◌≡◌, refl, sym, ◌∙◌}
use mathlib.Core.Bool.{Bool, true, false, cond, ◌&&◌}
use Prim.Native.Nat.{ℕ, zero, suc, ◌+◌, ◌-◌, ◌≤◌, ◌<◌}
use native.Mathlib.Omega.{arith}
use borrow.Author.Tests.{le-ltb, lt-ltb}
use Rattle.signed.specs.Distance.{distance}
use Rattle.axis.specs.declared.edge.Edge.{Edge}
use Rattle.axis.specs.declared.segment.Segment.{Segment}
use Rattle.axis.specs.Direction.{same}
use Rattle.build_join.specs.Joining.{fits, fits_in, seek}

-- ---- whether a segment goes with an edge, by its distance d
module _ (second : Bool) (limit d : ℕ) (s : Segment) (e : Edge) (p : d ≡ distance s.pos e.fpos) where
  pub fits-far : limit ≤ d → false ≡ fits_in second limit s e
  unfolding fits_in fits
  fits-far h = by second
    where
      by : (b : Bool) → false ≡ fits_in b limit s e
      by false = rw (le-ltb (distance s.pos e.fpos) limit (omega (arith, p)))
      by true = sym (le-ltb (distance s.pos e.fpos) limit (omega (arith, p)))

  pub fits-near : d < limit → second ≡ true → true ≡ fits_in second limit s e
  unfolding fits_in
  fits-near h b = rw b (sym (lt-ltb (distance s.pos e.fpos) limit (omega (arith, p))))

  pub fits-directed : d < limit → second ≡ false → (v : Bool) → v ≡ same e.dir s.dir → v ≡ fits_in second limit s e
  unfolding fits_in fits
  fits-directed h b v q = rw (b, lt-ltb (distance s.pos e.fpos) limit (omega (arith, p))) q

-- ---- two tests, one after the other
pub test-no : (v a b : Bool) → v ≡ a → v ≡ false → false ≡ (a && b)
test-no v a b e f = rw (sym e ∙ f)

pub test-yes : (v a b w : Bool) → v ≡ a → v ≡ true → w ≡ b → w ≡ (a && b)
test-yes v a b w e f g = rw (sym e ∙ f) g

-- ---- the search

module _ (better : ℕ → ℕ → Bool) (behind : ℕ → ℕ) where
  seek-step : (m n k best limit : ℕ) → m ≡ suc n → seek better behind m k best limit
      ≡ cond (better k limit) (seek better behind n (k + 1) k (behind k)) (seek better behind n (k + 1) best limit)
  unfolding seek
  seek-step m n k best limit e = rw e

  module _ (n k best limit x : ℕ) (p : seek better behind (n - k) k best limit ≡ x) where
    -- what is left of the search gives x: one that is not better
    pub seek-no : k < n → better k limit ≡ false → seek better behind (n - (k + 1)) (k + 1) best limit ≡ x
    seek-no h e = let q = seek-step (n - k) (n - (k + 1)) k best limit (omega arith) in sym (rw e at q) ∙ p

    -- one that is
    pub seek-yes : k < n → better k limit ≡ true → (l : ℕ) → l ≡ behind k → seek better behind (n - (k + 1)) (k + 1) k l ≡ x
    seek-yes h e l g = let q = seek-step (n - k) (n - (k + 1)) k best limit (omega arith) in rw g (sym (rw e at q) ∙ p)

    -- the end
    pub seek-end : n ≤ k → x ≡ best
    unfolding seek
    seek-end h = let e : n - k ≡ 0 = omega arith in sym (rw e at p)

  -- nothing is better than the limit 0
  seek-none : ((k : ℕ) → better k 0 ≡ false) → (n k best : ℕ) → seek better behind n k best 0 ≡ best
  unfolding seek
  seek-none h zero k best = refl
  seek-none h (suc n) k best = rw (h k) (seek-none h n (k + 1) best)

  pub seek_stop : ((k : ℕ) → better k 0 ≡ false) → (n k best limit x : ℕ) → limit ≡ 0 → seek better behind n k best limit ≡ x → x ≡ best
  seek_stop h n k best limit x e p = sym (rw e at p) ∙ seek-none h n k best
