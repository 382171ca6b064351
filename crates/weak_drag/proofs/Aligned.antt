-- What the full alignment reads: the place of a point reads its references' currents, and its own where nothing moves; so the full alignment again changes
-- nothing.
use mathlib.Core.Path.{◌≡◌, refl, sym, ◌∙◌}
use mathlib.Core.Bool.{Bool, true, false}
use mathlib.Core.List.{List}
use mathlib.Core.Logic.{◌⊎◌, inl, inr}
use mathlib.Core.Option.{Option, some, none}
use Prim.Native.Nat.{ℕ, ◌<◌}
use native.Mathlib.Omega.{arith}
use lib.ListN.{length}
use lib.IntN.{ℤ}
use Rattle.refusals.specs.Refusal.{refusal}
use Rattle.weak_contour.specs.Contour.{at, Contour, is_touched, References, references, followed, weak_at}
use Rattle.weak_contour.proofs.Searches.{is-touched}
use Rattle.weak_contour.proofs.References.{refs-on}
use Rattle.weak.specs.Weak.{contour_of, on_contour, aligned_at, weak_tests, result}
use Rattle.weak.proofs.Refusals.{accepted}
use Rattle.weak.proofs.Contours.{contour-holds}
use Rattle.weak.proofs.Determined.{result-at}
use Rattle.weak_known.proofs.Agreeing.{AgreeAt, followed_same}

-- ---- the cases of a point
-- a touched point stays
pub aligned-touched : (o c : List ℤ) (t es : List ℕ) (i : ℕ) → is_touched t i ≡ true → aligned_at o c t es i ≡ at c i
unfolding aligned_at on_contour weak_at
aligned-touched o c t es i e = by (contour_of 0 es i)
  where
    by : (k : Option Contour) → on_contour o c t k i ≡ at c i
    by none = refl
    by (some k) = rw e

-- so does one of no contour
pub aligned-alone : (o c : List ℤ) (t es : List ℕ) (i : ℕ) → contour_of 0 es i ≡ none → aligned_at o c t es i ≡ at c i
unfolding aligned_at on_contour
aligned-alone o c t es i e = rw e

-- an untouched one of the contour k goes by its references
pub aligned-on : (o c : List ℤ) (t es : List ℕ) (i : ℕ) (k : Contour) → contour_of 0 es i ≡ some k → is_touched t i ≡ false
    → aligned_at o c t es i ≡ followed o c (references t k i) i
unfolding aligned_at on_contour weak_at
aligned-on o c t es i k e f = rw (e, f)

-- ---- (a) the place of a point reads its references' currents, and its own where nothing moves
-- c and d agree at the references of i
abbrev pub AgreeFor : List ℤ → List ℤ → List ℕ → List ℕ → ℕ → Type 0
AgreeFor c d t es i = (k : Contour) → contour_of 0 es i ≡ some k → AgreeAt c d (references t k i)

module _ (o c d : List ℤ) (t es : List ℕ) (i : ℕ) (agree : AgreeFor c d t es i) where
  -- a point whose own current is the same, or is already where it comes to
  pub aligned-same : (at d i ≡ at c i) ⊎ (at d i ≡ aligned_at o c t es i) → is_touched t i ≡ false → aligned_at o d t es i ≡ aligned_at o c t es i
  aligned-same w free = by (contour_of 0 es i) refl w
    where
      by : (k : Option Contour) → contour_of 0 es i ≡ k → (at d i ≡ at c i) ⊎ (at d i ≡ aligned_at o c t es i) → aligned_at o d t es i ≡ aligned_at o c t es i
      by none e (inl q) = aligned-alone o d t es i e ∙ q ∙ sym (aligned-alone o c t es i e)
      by none e (inr q) = aligned-alone o d t es i e ∙ q
      by (some k) e (inl q) =
          aligned-on o d t es i k e free ∙ followed_same o c d i (references t k i) (agree k e) (inl q) ∙ sym (aligned-on o c t es i k e free)
      by (some k) e (inr q) =
          aligned-on o d t es i k e free ∙ followed_same o c d i (references t k i) (agree k e) (inr (q ∙ aligned-on o c t es i k e free))
          ∙ sym (aligned-on o c t es i k e free)

-- ---- (b) the full alignment again changes nothing
module _ (o c : List ℤ) (t es : List ℕ) (fine : refusal (weak_tests o c t es) ≡ 0) where
  -- the references of a point are points, and touched
  pub refs-points : (i : ℕ) (k : Contour) → contour_of 0 es i ≡ some k → (x : References) → references t k i ≡ some x
      → ((x.before < length c) × (is_touched t x.before ≡ true)) × ((x.behind < length c) × (is_touched t x.behind ≡ true))
  refs-points i k e x r =
      let a = accepted o c t es fine in
      let h = contour-holds 0 (length o) i es k (omega arith) a.ends e in
      let s = refs-on t k i h.low h.high x r in
      let n = a.currents_length in
      let m = h.points in
      ((omega (arith, s.0.1), is-touched t x.before s.0.2), (omega (arith, s.1.1), is-touched t x.behind s.1.2))

  -- a touched point's current is as it was
  pub kept-touched : (j : ℕ) → j < length c → is_touched t j ≡ true → at (result o c t es) j ≡ at c j
  kept-touched j h e = result-at o c t es fine j h ∙ aligned-touched o c t es j e

  -- so the references' currents are
  pub agree-result : (i : ℕ) → AgreeFor c (result o c t es) t es i
  agree-result i k e x r =
      let s = refs-points i k e x r in
      (kept-touched x.before s.0.0 s.0.1, kept-touched x.behind s.1.0 s.1.1)

  pub aligned-again : (i : ℕ) → i < length c → aligned_at o (result o c t es) t es i ≡ at (result o c t es) i
  aligned-again i h = by (is_touched t i) refl
    where
      by : (b : Bool) → is_touched t i ≡ b → aligned_at o (result o c t es) t es i ≡ at (result o c t es) i
      by true e = aligned-touched o (result o c t es) t es i e
      by false e = aligned-same o c (result o c t es) t es i (agree-result i) (inr (result-at o c t es fine i h)) e ∙ sym (result-at o c t es fine i h)
