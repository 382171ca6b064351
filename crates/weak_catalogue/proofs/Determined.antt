-- The outcome of the call: what it is for a refused catalogue and for an accepted one, and that it is determined.
use Rattle.std.specs.Prelude.{Result}
use mathlib.Core.Path.{◌≡◌, refl, sym, ◌∙◌}
use mathlib.Core.List.{List}
use Prim.Native.Nat.{ℕ, ◌<◌}
use native.Mathlib.Omega.{arith}
use borrow.Author.Tests.{eqb-true}
use lib.ListN.{length}
use lib.IntN.{ℤ}
use Rattle.refusals.specs.declared.order.Refusal.{Refusal}
use Rattle.refusals.specs.Refusal.{refusal}
use Rattle.refusals.specs.Outcome.{answer_of}
use Rattle.refusals.proofs.Tests.{all_hold, answered-no, answered-yes}
use Rattle.refusals.proofs.Outcomes.{answer-one}
use Rattle.weak_catalogue.specs.Catalogue.{total, catalogue_tests, answers_of, currents_of, Catalogued}
use Rattle.weak_catalogue.specs.Steps.{AddsUp, EachDone}

module _ (o c : List ℤ) (t es ns ks bs : List ℕ) where
  -- a catalogue that is answered by 0 adds up
  pub adding : refusal (catalogue_tests o c t es ns ks bs) ≡ 0 → AddsUp o c t es ns ks bs
  adding e =
      let h = all_hold (catalogue_tests o c t es ns ks bs) refl e in
      record {
        point-counts = eqb-true (length ns) (length bs) h.0;
        contour-counts = eqb-true (length ks) (length bs) h.1.0;
        currents_length = eqb-true (length c) (length o) h.1.1.0;
        marks_length = eqb-true (length t) (length o) h.1.1.1.0;
        points = eqb-true (length o) (total ns) h.1.1.1.1.0;
        contours = eqb-true (length es) (total ks) h.1.1.1.1.1.0;
      }

  -- a refusal writes nothing
  pub refused : (a : ℕ) → a ≡ refusal (catalogue_tests o c t es ns ks bs) → 0 < a → Catalogued o c t es ns ks bs a c bs
  refused a e h = record {
    answer = e;
    currents = answered-no a (refusal (catalogue_tests o c t es ns ks bs)) (λ _. c) (currents_of o c t es ns ks) e h;
    answers = answered-no a (refusal (catalogue_tests o c t es ns ks bs)) (λ _. bs) (answers_of o c t es ns ks) e h;
  }

  -- and where nothing is refused every outline is done
  pub when-accepted : (d : List ℤ) (rs : List ℕ) → refusal (catalogue_tests o c t es ns ks bs) ≡ 0 → EachDone o c t es ns ks d rs
      → Catalogued o c t es ns ks bs 0 d rs
  when-accepted d rs e w = record {
    answer = sym e;
    currents = answered-yes 0 (refusal (catalogue_tests o c t es ns ks bs)) (λ _. c) (currents_of o c t es ns ks) d (sym e) (omega arith) w.currents;
    answers = answered-yes 0 (refusal (catalogue_tests o c t es ns ks bs)) (λ _. bs) (answers_of o c t es ns ks) rs (sym e) (omega arith) w.answers;
  }

-- ---- two outcomes that the promise of `align_catalogue` allows coincide
pub determined :
    (o c : List ℤ) (t es ns ks bs : List ℕ) {a a' : ℕ} {d d' : List ℤ} {rs rs' : List ℕ}
    → Catalogued o c t es ns ks bs a d rs → Catalogued o c t es ns ks bs a' d' rs' → (a ≡ a') × ((d ≡ d') × (rs ≡ rs'))
determined o c t es ns ks bs x y = (x.answer ∙ sym y.answer, (x.currents ∙ sym y.currents, x.answers ∙ sym y.answers))

-- and so do two results, with what is left
pub determined-result :
    (o c : List ℤ) (t es ns ks bs : List ℕ) {r r' : Result (Unit {0}) Refusal} {d d' : List ℤ} {rs rs' : List ℕ}
    → Catalogued o c t es ns ks bs (answer_of r) d rs → Catalogued o c t es ns ks bs (answer_of r') d' rs' → (r ≡ r') × ((d ≡ d') × (rs ≡ rs'))
determined-result o c t es ns ks bs {r} {r'} x y = let w = determined o c t es ns ks bs x y in (answer-one r r' w.0, w.1)
