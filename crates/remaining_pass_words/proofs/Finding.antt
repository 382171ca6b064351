-- The done edges around an edge, one step of the search at a time.
use Rattle.std.specs.Prelude.{None, Some}
use mathlib.Core.Path.{◌≡◌, refl, sym, ◌∙◌}
use mathlib.Core.Bool.{Bool, true, false, cond}
use mathlib.Core.List.{List}
use lib.IntN.{ℤ}
use Prim.Native.Nat.{ℕ, zero, suc, ◌+◌, ◌-◌, ◌≤◌, ◌<◌}
use native.Mathlib.Omega.{arith}
use Rattle.signed.proofs.Choices.{cond-true, cond-false, either_way}
use Rattle.axis.specs.declared.edge.Axis.{Axis}
use Rattle.axis.specs.Edge.{edge_at}
use Rattle.axis.specs.Accepted.{Below}
use Rattle.axis.proofs.Acceptance.{below_none, below-to}
use Rattle.remaining.specs.declared.kinds.Progress.{Progress}
use Rattle.remaining.specs.Remaining.{done_before, done_from, done_behind}
use Rattle.words.specs.Edge.{edges_in}
use Rattle.words_call.specs.Lent.{edges_of}
use Rattle.words_edge.proofs.Wholes.{edges-len}
use Rattle.remaining_pass_words.specs.Words.{Ready}

module _ (axis : Axis) where
  abbrev done : ℕ → Bool
  done k = (edge_at axis k).flags.done

  -- ---- before
  before-next : (k m : ℕ) → k ≡ suc m → done_before axis k ≡ cond (done m) (Some m) (done_before axis m)
  unfolding done_before
  before-next k m e = rw e

  pub before-found : (k : ℕ) → 0 < k → done (k - 1) ≡ true → Some (k - 1) ≡ done_before axis k
  before-found k h t = sym (before-next k (k - 1) (omega arith) ∙ cond-true _ _ _ t)

  pub before-passed : (k : ℕ) → 0 < k → done (k - 1) ≡ false → done_before axis (k - 1) ≡ done_before axis k
  before-passed k h t = sym (before-next k (k - 1) (omega arith) ∙ cond-false _ _ _ t)

  pub before-none : (k : ℕ) → k ≤ 0 → None ≡ done_before axis k
  unfolding done_before
  before-none zero h = refl
  before-none (suc k) h = absurd (omega arith)

  -- ---- behind
  from_next : (n k : ℕ) → k < n → done_from axis (n - k) k ≡ cond (done k) (Some k) (done_from axis (n - (k + 1)) (k + 1))
  unfolding done_from
  from_next n k h = go (n - k) (n - (k + 1)) (omega arith)
    where
      go : (a b : ℕ) → a ≡ suc b → done_from axis a k ≡ cond (done k) (Some k) (done_from axis b (k + 1))
      go a b e = rw e

  pub from_found : (n k : ℕ) → k < n → done k ≡ true → Some k ≡ done_from axis (n - k) k
  from_found n k h t = sym (from_next n k h ∙ cond-true _ _ _ t)

  pub from-passed : (n k : ℕ) → k < n → done k ≡ false → done_from axis (n - (k + 1)) (k + 1) ≡ done_from axis (n - k) k
  from-passed n k h t = sym (from_next n k h ∙ cond-false _ _ _ t)

  pub from-none : (n k : ℕ) → n ≤ k → None ≡ done_from axis (n - k) k
  unfolding done_from
  from-none n k h = let e : n - k ≡ 0 = omega arith in rw e

  -- ---- they are edges
  pub before-below : (n i : ℕ) → i ≤ n → Below n (done_before axis i)
  unfolding done_before
  before-below n zero h = below_none n
  before-below n (suc k) h = either_way (Below n) (done k) (Some k) (done_before axis k) (below-to n k (omega arith)) (before-below n k (omega arith))

  pub from-below : (n m k : ℕ) → k + m ≤ n → Below n (done_from axis m k)
  unfolding done_from
  from-below n zero k h = below_none n
  from-below n (suc m) k h =
      either_way (Below n) (done k) (Some k) (done_from axis m (k + 1)) (below-to n k (omega arith)) (from-below n m (k + 1) (omega arith))

  pub behind-below : (i : ℕ) → i < axis.len → Below axis.len (done_behind axis i)
  behind-below i h = from-below axis.len (axis.len - (i + 1)) (i + 1) (omega arith)

-- they are where the words stand
module _ {ws : List ℤ} {past : Progress} {i : ℕ} (r : Ready ws past i) (k : ℕ) where
  pub before-in : done_before (edges_of ws) i ≡ Some k → k < edges_in ws
  before-in e = (before-below (edges_of ws) (edges_in ws) i (omega (arith, r.below))).at k e

  pub behind-in : done_behind (edges_of ws) i ≡ Some k → k < edges_in ws
  behind-in e = omega (arith, edges-len ws, (behind-below (edges_of ws) i (omega (arith, r.below, edges-len ws))).at k e)
