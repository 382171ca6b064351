-- The promises of the public calls determine what they hand back: two outcomes that a promise allows coincide.
use Rattle.std.specs.Prelude.{Result}
use mathlib.Core.Path.{◌≡◌, refl, sym, ◌∙◌, ap}
use mathlib.Core.Bool.{Bool}
use mathlib.Core.List.{List}
use Prim.Native.Nat.{ℕ}
use lib.IntN.{ℤ}
use Rattle.refusals.specs.declared.order.Refusal.{Refusal}
use Rattle.refusals.proofs.Outcomes.{with-answer-one}
use Rattle.fixed.specs.declared.width.WidthRule.{WidthRule}
use Rattle.axis.specs.declared.edge.Axis.{Axis}
use Rattle.place.specs.declared.adjust.LinkDir.{LinkDir}
use Rattle.place.specs.declared.bounds.Bounds as Found
use Rattle.place.specs.Answer.{Fitted, fitted_of}
use Rattle.place.specs.Answer.{Bounds, bounds_of}
use Rattle.place.specs.Fitting.{AlignsLinkedEdge, AlignsSerifEdge, FindsLatinRemainingBounds, AdjustsLink}

pub align-linked-edge : (axis : Axis) (rule : WidthRule) (xs : List ℤ) (base stem : ℕ) {r s : Fitted}
    → AlignsLinkedEdge axis rule xs base stem r → AlignsLinkedEdge axis rule xs base stem s → r ≡ s
align-linked-edge axis rule xs base stem p q = p ∙ sym q

pub align-serif-edge : (axis : Axis) (base serif : ℕ) {r s : Fitted} → AlignsSerifEdge axis base serif r → AlignsSerifEdge axis base serif s → r ≡ s
align-serif-edge axis base serif p q = p ∙ sym q

pub latin-remaining-bounds : (axis : Axis) (edge : ℕ) {r s : Bounds} → FindsLatinRemainingBounds axis edge r → FindsLatinRemainingBounds axis edge s → r ≡ s
latin-remaining-bounds axis edge p q = p ∙ sym q

pub adjust-link : (axis : Axis) (edge : ℕ) (dir : LinkDir) (ttb : Bool) {r s : Fitted} → AdjustsLink axis edge dir ttb r → AdjustsLink axis edge dir ttb s
    → r ≡ s
adjust-link axis edge dir ttb p q = p ∙ sym q

-- ---- what the calls hand back
-- the record tells a result from every other, beside the axis that was given
pub fitted-one : (given : Axis) (r s : Result Axis Refusal) → fitted_of given r ≡ fitted_of given s → r ≡ s
fitted-one given = with-answer-one (fitted_of given) (λ (f : Fitted). f.answer) (λ x. refl) (λ r. refl) (λ x y e. ap (λ (f : Fitted). f.axis) e)

pub bounds-one : (r s : Result Found.Bounds Refusal) → bounds_of r ≡ bounds_of s → r ≡ s
bounds-one =
    with-answer-one bounds_of (λ (b : Bounds). b.answer) (λ x. refl) (λ r. refl) (λ x y e. λ j. record { lower = (e j).lower; upper = (e j).upper })

-- so two results that a promise allows coincide
pub align-linked-edge-result : (axis : Axis) (rule : WidthRule) (xs : List ℤ) (base stem : ℕ) {r s : Result Axis Refusal}
    → AlignsLinkedEdge axis rule xs base stem (fitted_of axis r) → AlignsLinkedEdge axis rule xs base stem (fitted_of axis s) → r ≡ s
align-linked-edge-result axis rule xs base stem {r} {s} p q = fitted-one axis r s (align-linked-edge axis rule xs base stem p q)

pub align-serif-edge-result : (axis : Axis) (base serif : ℕ) {r s : Result Axis Refusal}
    → AlignsSerifEdge axis base serif (fitted_of axis r) → AlignsSerifEdge axis base serif (fitted_of axis s) → r ≡ s
align-serif-edge-result axis base serif {r} {s} p q = fitted-one axis r s (align-serif-edge axis base serif p q)

pub latin-remaining-bounds-result : (axis : Axis) (edge : ℕ) {r s : Result Found.Bounds Refusal}
    → FindsLatinRemainingBounds axis edge (bounds_of r) → FindsLatinRemainingBounds axis edge (bounds_of s) → r ≡ s
latin-remaining-bounds-result axis edge {r} {s} p q = bounds-one r s (latin-remaining-bounds axis edge p q)

pub adjust-link-result : (axis : Axis) (edge : ℕ) (dir : LinkDir) (ttb : Bool) {r s : Result Axis Refusal}
    → AdjustsLink axis edge dir ttb (fitted_of axis r) → AdjustsLink axis edge dir ttb (fitted_of axis s) → r ≡ s
adjust-link-result axis edge dir ttb {r} {s} p q = fitted-one axis r s (adjust-link axis edge dir ttb p q)
