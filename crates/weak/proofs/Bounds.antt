-- On an accepted outline every result lies within -196,605 to 196,605.
use mathlib.Core.Path.{◌≡◌, refl, sym, ◌∙◌, ap}
use mathlib.Core.Bool.{Bool, true, false}
use mathlib.Core.List.{List}
use mathlib.Core.Option.{Option, some, none}
use Prim.Native.Nat.{ℕ, ◌<◌}
use native.Mathlib.Omega.{arith}
use lib.Dec.{eqb}
use lib.ListN.{length}
use lib.IntN.{ℤ, pos, neg_ℤ, ◌-ℤ◌}
use lib.Signed.{◌≤ℤ◌}
use Rattle.signed.specs.Range.{Between}
use Rattle.signed.proofs.Signed.{add-law, sub-law, between-plain}
use Rattle.weak_contour.specs.Limits.{most_result}
use Rattle.signed.specs.Equality.{eq_z}
use Rattle.weak_contour.specs.Contour.{at, Contour, is_touched, References, references, first_of, second_of, between_at, shifted_at, followed, weak_at}
use Rattle.weak.specs.Weak.{contour_of, on_contour, aligned_at, Outcome}
use Rattle.weak_contour.specs.Steps.{Coordinates}
use Rattle.weak.proofs.Refusals.{accepted}
use Rattle.weak.proofs.Interpolated.{bounded}
use Rattle.weak.proofs.Determined.{result-at}
use Rattle.weak.proofs.Neighbours.{refs-ordered}

-- case by case of the definition
module _ (o c : List ℤ) (ho : Coordinates o) (hc : Coordinates c) (i : ℕ) where
  stays : Between most_result most_result (at c i)
  stays = omega (arith, hc i)

  shifted-bounded : (p : ℕ) → Between most_result most_result (shifted_at o c p i)
  unfolding shifted_at
  shifted-bounded p = by (eq_z (at c p) (at o p)) refl
    where
      by : (b : Bool) → eq_z (at c p) (at o p) ≡ b → Between most_result most_result (shifted_at o c p i)
      by true e = rw e stays
      by false e = rw e (omega (arith, ho i, hc p, ho p, add-law (at o i) (at c p -ℤ at o p), sub-law (at c p) (at o p)))

  followed-bounded : (r : Option References) → Between most_result most_result (followed o c r i)
  unfolding followed between_at
  followed-bounded none = stays
  followed-bounded (some r) = by (eqb r.before r.behind) refl
    where
      by : (b : Bool) → eqb r.before r.behind ≡ b → Between most_result most_result (followed o c (some r) i)
      by true e = rw e (shifted-bounded r.before)
      by false e =
          rw e (bounded (at o i) (at o (first_of o r)) (at c (first_of o r)) (at o (second_of o r)) (at c (second_of o r)) (refs-ordered o c r ho hc) (ho i))

  weak-bounded : (t : List ℕ) (k : Option Contour) → Between most_result most_result (on_contour o c t k i)
  unfolding on_contour weak_at
  weak-bounded t none = stays
  weak-bounded t (some k) = by (is_touched t i) refl
    where
      by : (b : Bool) → is_touched t i ≡ b → Between most_result most_result (on_contour o c t (some k) i)
      by true e = rw e stays
      by false e = rw e (followed-bounded (references t k i))

-- for every outcome that the promise of `align_weak_points` allows with answer 0: d are the currents at the end
pub within : (o c d : List ℤ) (t es : List ℕ) → Outcome o c t es 0 d → (i : ℕ) → i < length c → (neg_ℤ (pos most_result) ≤ℤ at d i) × (at d i ≤ℤ pos most_result)
unfolding aligned_at
within o c d t es e i h =
    let a = accepted o c t es (sym e.answer) in
    let q : at d i ≡ aligned_at o c t es i = ap (λ (l : List ℤ). at l i) e.currents ∙ result-at o c t es (sym e.answer) i h in
    (between-plain most_result most_result (at d i)).0 (rw q (weak-bounded o c a.originals a.currents i t (contour_of 0 es i)))
