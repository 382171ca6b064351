-- The points of a walk around a contour: those from the first to the last, or up to the contour's end and then from its start on.
use mathlib.Core.Path.{◌≡◌, refl, ap, ◌∙◌}
use mathlib.Core.List.{List, [], ◌∷◌, ◌++◌}
use mathlib.Core.Logic.{◌⊎◌, ⊎_elim}
use Prim.Native.Nat.{ℕ, zero, suc, ◌+◌, ◌-◌, ◌≤◌, ◌<◌}
use native.Mathlib.Omega.{arith}
use borrow.Author.Tests.{eq-eqb, ne_eqb}
use Rattle.axis.specs.Ring.{walk, times}
use Rattle.axis.proofs.Walks.{same?, times-nil, times-here, times-there}
use Rattle.signed.proofs.Signed.{lt-or-le}
use Rattle.weak_contour.specs.Contour.{Contour}
use Rattle.edge_points.specs.EdgePoints.{behind}
use Rattle.edge_points.specs.Steps.{run}

-- ---- walks
module _ (k : Contour) (last : ℕ) where
  -- the point behind p, which is not the contour's last, and behind that
  next : (p : ℕ) → suc p < k.end → behind k p ≡ suc p
  unfolding behind
  next p h = rw (ne_eqb (suc p) k.end (λ e. omega arith))

  round : (p : ℕ) → suc p ≡ k.end → behind k p ≡ k.start
  unfolding behind
  round p h = rw (eq-eqb (suc p) k.end h)

  -- one step of a walk
  step : (n p : ℕ) → (p ≡ last → ⊥) → walk (behind k) last (suc n) p ≡ p ∷ walk (behind k) last n (behind k p)
  unfolding walk
  step n p h = rw (ne_eqb p last h)

  -- where the last is not in front of the first
  straight : (d n p : ℕ) → p + d ≡ last → last < k.end → d ≤ n → walk (behind k) last n p ≡ run p (suc d)
  unfolding walk run
  straight zero zero p e h l = refl
  straight zero (suc n) p e h l = rw (eq-eqb p last (omega arith))
  straight (suc d) zero p e h l = absurd (omega arith)
  straight (suc d) (suc n) p e h l =
      step n p (λ q. omega arith) ∙ ap (λ (x : ℕ). p ∷ walk (behind k) last n x) (next p (omega arith))
      ∙ ap (λ (xs : List ℕ). p ∷ xs) (straight d n (suc p) (omega arith) h (omega arith))

  -- where it is, up to the contour's end
  to_end : (d m n p : ℕ) → suc (p + d) ≡ k.end → last < p → m ≡ suc d + n → walk (behind k) last m p ≡ run p (suc d) ++ walk (behind k) last n k.start
  unfolding run
  to_end d zero n p e h q = absurd (omega arith)
  to_end zero (suc m) n p e h q =
      let f : m ≡ n = omega arith in
      step m p (λ x. omega arith) ∙ ap (λ (x : ℕ). p ∷ walk (behind k) last m x) (round p (omega arith))
      ∙ ap (λ (x : ℕ). p ∷ walk (behind k) last x k.start) f
  to_end (suc d) (suc m) n p e h q =
      step m p (λ x. omega arith) ∙ ap (λ (x : ℕ). p ∷ walk (behind k) last m x) (next p (omega arith))
      ∙ ap (λ (xs : List ℕ). p ∷ xs) (to_end d m n (suc p) (omega arith) (omega arith) (omega arith))

-- the walk of a segment
pub walk-straight : (k : Contour) (first last n : ℕ) → first ≤ last → last < k.end → k.end ≤ n → walk (behind k) last n first ≡ run first (last + 1 - first)
walk-straight k first last n h l m =
    let e : suc (last - first) ≡ last + 1 - first = omega arith in
    straight k last (last - first) n first (omega arith) l (omega arith) ∙ ap (run first) e

pub walk-around : (k : Contour) (first last n : ℕ) → k.start ≤ last → last < first → first < k.end → k.end ≤ n
    → walk (behind k) last n first ≡ run first (k.end - first) ++ run k.start (last + 1 - k.start)
walk-around k first last n h l m f =
    let e : suc (k.end - first - 1) ≡ k.end - first = omega arith in
    let g : suc (last - k.start) ≡ last + 1 - k.start = omega arith in
    to_end k last (k.end - first - 1) n (n - (k.end - first)) first (omega arith) l (omega arith)
    ∙ ap (λ (x : ℕ). run first x ++ walk (behind k) last (n - (k.end - first)) k.start) e
    ∙ ap (λ (xs : List ℕ). run first (k.end - first) ++ xs)
    (straight k last (last - k.start) (n - (k.end - first)) k.start (omega arith) (omega arith) (omega arith) ∙ ap (run k.start) g)

-- ---- what a run meets
pub run-below : (n p i : ℕ) → i < p → times i (run p n) ≡ 0
unfolding run
run-below zero p i h = times-nil i
run-below (suc n) p i h = times-there i p (run (suc p) n) (λ e. omega arith) ∙ run-below n (suc p) i (omega arith)

pub run-above : (n p i : ℕ) → p + n ≤ i → times i (run p n) ≡ 0
unfolding run
run-above zero p i h = times-nil i
run-above (suc n) p i h = times-there i p (run (suc p) n) (λ e. omega arith) ∙ run-above n (suc p) i (omega arith)

pub run-once : (n p i : ℕ) → times i (run p n) ≤ 1
unfolding run
run-once zero p i = omega (arith, times-nil i)
run-once (suc n) p i =
    ⊎_elim
    (λ (e : i ≡ p). omega (arith, times-here i p (run (suc p) n) e, run-below n (suc p) i (omega arith)))
    (λ (e : i ≡ p → ⊥). omega (arith, times-there i p (run (suc p) n) e, run-once n (suc p) i))
    (same? i p)

-- two lists one behind the other
times-both : (i : ℕ) (xs ys : List ℕ) → times i (xs ++ ys) ≡ times i xs + times i ys
times-both i [] ys = omega (arith, times-nil i)
times-both i (x ∷ xs) ys =
    ⊎_elim
    (λ (e : i ≡ x). omega (arith, times-here i x (xs ++ ys) e, times-here i x xs e, times-both i xs ys))
    (λ (e : i ≡ x → ⊥). omega (arith, times-there i x (xs ++ ys) e, times-there i x xs e, times-both i xs ys))
    (same? i x)

-- a walk meets each point once at most
pub walk-once : (k : Contour) (first last n i : ℕ) → k.start ≤ first → first < k.end → k.start ≤ last → last < k.end → k.end ≤ n
    → times i (walk (behind k) last n first) ≤ 1
walk-once k first last n i a b c d f = ⊎_elim (λ (h : last < first). around h) (λ (h : first ≤ last). forward h) (lt-or-le last first)
  where
    forward : first ≤ last → times i (walk (behind k) last n first) ≤ 1
    forward h = omega (arith, ap (times i) (walk-straight k first last n h d f), run-once (last + 1 - first) first i)

    around : last < first → times i (walk (behind k) last n first) ≤ 1
    around h =
        let e = ap (times i) (walk-around k first last n c h b f) ∙ times-both i (run first (k.end - first)) (run k.start (last + 1 - k.start)) in
        ⊎_elim
        (λ (g : i < first). omega (arith, e, run-below (k.end - first) first i g, run-once (last + 1 - k.start) k.start i))
        (λ (g : first ≤ i). omega (arith, e, run-above (last + 1 - k.start) k.start i (omega arith), run-once (k.end - first) first i))
        (lt-or-le i first)
