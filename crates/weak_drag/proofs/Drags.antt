-- A drag: what it comes to, that its promise determines it, that on an aligned buffer with one place set it is the full alignment, and what it is on any other.
use Rattle.std.specs.Prelude.{Result}
use mathlib.Core.Path.{◌≡◌, refl, sym, subst, ◌∙◌, ap}
use mathlib.Core.Bool.{Bool, true, false, cond, ◌&&◌, ◌||◌, not}
use mathlib.Core.List.{List, ◌∷◌}
use mathlib.Core.Logic.{inr}
use Prim.Native.Nat.{ℕ, zero, suc, ◌+◌, ◌≤◌, ◌<◌}
use native.Mathlib.Omega.{arith}
use borrow.Author.Tests.{eqb-false}
use lib.Dec.{eqb}
use lib.ListN.{length, set, length-set}
use lib.Seq.{ext_get_or, get_or-set_other}
use lib.IntN.{ℤ, pos}
use Rattle.refusals.specs.declared.order.Refusal.{Refusal}
use Rattle.refusals.specs.Refusal.{refusal, answered}
use Rattle.refusals.specs.Outcome.{answer_of}
use Rattle.refusals.proofs.Tests.{answered-no, answered-yes}
use Rattle.refusals.proofs.Outcomes.{answer-one}
use Rattle.weak_contour.specs.Contour.{at, is_touched}
use Rattle.weak.specs.Weak.{contour_of, aligned_at, list_of, weak_tests, result}
use Rattle.weak.proofs.Determined.{result-at, result-length, length-list_of, at-list_of}
use Rattle.weak_drag.specs.Drag.{is_reference, refers_on, depends, is_there, drag_tests, dragged_at, dragged, Dragged}
use Rattle.weak_drag.specs.Steps.{DragDone}
use Rattle.weak_drag.proofs.Refusals.{refused-alike, there-touched}
use Rattle.weak_drag.proofs.Aligned.{aligned-touched, AgreeFor, aligned-same, refs-points, kept-touched}

-- ---- what the call comes to
module _ (o c : List ℤ) (t es : List ℕ) (p : ℕ) where
  -- a refusal writes nothing
  pub drag-refused : (a : ℕ) → a ≡ refusal (drag_tests o c t es p) → 0 < a → Dragged o c t es p a c
  unfolding dragged
  drag-refused a e h = record { answer = e; currents = answered-no a _ (λ _. c) (list_of (dragged_at o c t es p) 0 (length c)) e h }

  -- or each place is written
  pub drag-done : (d : List ℤ) → refusal (drag_tests o c t es p) ≡ 0 → DragDone o c t es p d → Dragged o c t es p 0 d
  unfolding dragged
  drag-done d e w = record { answer = sym e; currents = answered-yes 0 _ (λ _. c) (list_of (dragged_at o c t es p) 0 (length c)) d (sym e) (omega arith) all }
    where
      all : d ≡ list_of (dragged_at o c t es p) 0 (length c)
      all =
          ext_get_or (pos 0) d (list_of (dragged_at o c t es p) 0 (length c)) (w.len ∙ sym (length-list_of (dragged_at o c t es p) 0 (length c)))
          (λ i h. let b : i < length c = omega (arith, w.len) in w.each i b
          ∙ sym (at-list_of (dragged_at o c t es p) 0 (length c) i b ∙ ap (dragged_at o c t es p) (omega arith)))

-- ---- one touched point's current set, on what an accepted alignment left
module _ (o c : List ℤ) (t es : List ℕ) (fine : refusal (weak_tests o c t es) ≡ 0) (p : ℕ) (there : is_touched t p ≡ true) (z : ℤ) where
  -- the buffer as it stands
  abbrev pub buffer : List ℤ
  buffer = set (result o c t es) p z

  other : (j : ℕ) → (j ≡ p → ⊥) → at buffer j ≡ at (result o c t es) j
  other j n = get_or-set_other (result o c t es) p j z (pos 0) n

  -- at the references of a point that does not depend on p
  agree-set : (i : ℕ) → is_touched t i ≡ false → depends t es p i ≡ false → AgreeFor c buffer t es i
  unfolding depends refers_on is_reference
  agree-set i free d k e x r =
      let s = refs-points o c t es fine i k e x r in
      let f : (eqb x.before p || eqb x.behind p) ≡ false = rw (free, e, r) at d in
      let g = neither (eqb x.before p) (eqb x.behind p) f in (
        other x.before (λ q. eqb-false x.before p g.0 q) ∙ kept-touched o c t es fine x.before s.0.0 s.0.1,
        other x.behind (λ q. eqb-false x.behind p g.1 q) ∙ kept-touched o c t es fine x.behind s.1.0 s.1.1,
      )
    where
      neither : (a b : Bool) → (a || b) ≡ false → (a ≡ false) × (b ≡ false)
      neither true b h = let w : ◌≡◌ {A = ℕ} 0 1 = cc in absurd (omega arith)
      neither false b h = (refl, h)

  -- such a point is where the full alignment of the buffer puts it
  pub rest-aligned : (i : ℕ) → i < length c → depends t es p i ≡ false → aligned_at o buffer t es i ≡ at buffer i
  rest-aligned i h d = by (is_touched t i) refl
    where
      by : (b : Bool) → is_touched t i ≡ b → aligned_at o buffer t es i ≡ at buffer i
      by true e = aligned-touched o buffer t es i e
      by false e =
          let n : at buffer i ≡ at (result o c t es) i = other i (λ q. apart (ap (is_touched t) (sym q) ∙ e)) in
          let w = n ∙ result-at o c t es fine i h in
          aligned-same o c buffer t es i (agree-set i e d) (inr w) e ∙ sym w
        where
          apart : is_touched t p ≡ false → ⊥
          apart f = let w : true ≡ false = sym there ∙ f in let v : ◌≡◌ {A = ℕ} 0 1 = cc in omega arith

  -- so the drag's place is the full alignment's
  pub drag-aligns : (i : ℕ) → i < length c → dragged_at o buffer t es p i ≡ aligned_at o buffer t es i
  unfolding dragged_at
  drag-aligns i h = by (depends t es p i) refl
    where
      by : (b : Bool) → depends t es p i ≡ b → dragged_at o buffer t es p i ≡ aligned_at o buffer t es i
      by true e = rw e
      by false e = rw e (sym (rest-aligned i h e))

-- ---- lists of one length with the same places are one
list_same : (f g : ℕ → ℤ) (i n : ℕ) → ((j : ℕ) → i ≤ j → j < i + n → f j ≡ g j) → list_of f i n ≡ list_of g i n
unfolding list_of
list_same f g i zero h = refl
list_same f g i (suc n) h = λ k. h i (omega arith) (omega arith) k ∷ list_same f g (suc i) n (λ j a b. h j (omega arith) (omega arith)) k

-- where each place is the full alignment's, so is the whole, refusals too
pub drag-same : (o e : List ℤ) (t es : List ℕ) (p : ℕ) → is_there t p ≡ true → ((i : ℕ) → i < length e → dragged_at o e t es p i ≡ aligned_at o e t es i)
    → dragged o e t es p ≡ result o e t es
unfolding dragged result
drag-same o e t es p there h =
    rw (refused-alike o e t es p there)
    (ap (λ (l : List ℤ). answered (refusal (weak_tests o e t es)) (λ _. e) l) (list_same _ _ 0 (length e) (λ i a b. h i (omega arith))))

-- ---- the theorem: on what an accepted alignment left, with one touched point's current set, the drag is the full alignment, refusals too
pub drag-is-alignment : (o c : List ℤ) (t es : List ℕ) (p : ℕ) (z : ℤ) → refusal (weak_tests o c t es) ≡ 0 → is_there t p ≡ true
    → dragged o (set (result o c t es) p z) t es p ≡ result o (set (result o c t es) p z) t es
drag-is-alignment o c t es p z fine there =
    drag-same o (set (result o c t es) p z) t es p there
    (λ i h. drag-aligns o c t es fine p (there-touched t p there) z i (omega (arith, length-set (result o c t es) p z, result-length o c t es)))

-- ---- on any accepted buffer
module _ (o c d : List ℤ) (t es : List ℕ) (p : ℕ) (e : Dragged o c t es p 0 d) where
  -- each place
  pub dragged-at : (i : ℕ) → i < length c → at d i ≡ dragged_at o c t es p i
  unfolding dragged
  dragged-at i h =
      ap (λ (l : List ℤ). at l i) e.currents
      ∙ ap (λ (k : ℕ). at (answered k (λ _. c) (list_of (dragged_at o c t es p) 0 (length c))) i) (sym e.answer)
      ∙ at-list_of (dragged_at o c t es p) 0 (length c) i h ∙ ap (dragged_at o c t es p) (omega arith)

  -- what depends on p gets what the full alignment gives it, the rest keeps what it held
  pub follows-p : (i : ℕ) → i < length c → depends t es p i ≡ true → at d i ≡ aligned_at o c t es i
  unfolding dragged_at
  follows-p i h q = dragged-at i h ∙ ap (λ (b : Bool). cond b (aligned_at o c t es i) (at c i)) q

  pub keeps : (i : ℕ) → i < length c → depends t es p i ≡ false → at d i ≡ at c i
  unfolding dragged_at
  keeps i h q = dragged-at i h ∙ ap (λ (b : Bool). cond b (aligned_at o c t es i) (at c i)) q

  -- p's own current too
  pub keeps-own : p < length c → is_touched t p ≡ true → at d p ≡ at c p
  unfolding depends
  keeps-own h q = keeps p h (ap (λ (b : Bool). not b && refers_on t (contour_of 0 es p) p p) q)

-- two outcomes that the promise allows coincide
pub determined : (o c : List ℤ) (t es : List ℕ) (p a b : ℕ) (d e : List ℤ) → Dragged o c t es p a d → Dragged o c t es p b e → (a ≡ b) × (d ≡ e)
determined o c t es p a b d e x y = (x.answer ∙ sym y.answer, x.currents ∙ sym y.currents)

-- and so do two results, with the currents left
pub determined-result : (o c : List ℤ) (t es : List ℕ) (p : ℕ) {r s : Result (Unit {0}) Refusal} {d e : List ℤ}
    → Dragged o c t es p (answer_of r) d → Dragged o c t es p (answer_of s) e → (r ≡ s) × (d ≡ e)
determined-result o c t es p {r} {s} {d} {e} x y = let w = determined o c t es p (answer_of r) (answer_of s) d e x y in (answer-one r s w.0, w.1)

-- the point named by another number that is the same
pub dragged-as : (o c : List ℤ) (t es : List ℕ) (p q a : ℕ) (d : List ℤ) → p ≡ q → Dragged o c t es p a d → Dragged o c t es q a d
dragged-as o c t es p q a d e w = subst (λ (x : ℕ). Dragged o c t es x a d) e w
