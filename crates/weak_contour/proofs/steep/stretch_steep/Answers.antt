-- `weak_contour::steep::stretch_steep` meets its contract: the references are put in their order.
use borrow.Author.Rules.{rules}
use native.Mathlib.Omega.{arith}
use mathlib.Core.Path.{◌≡◌, refl, sym, ◌∙◌}
use mathlib.Core.Bool.{Bool, true, false}
use Prim.Native.Nat.{ℕ}
use lib.IntN.{ℤ}
use lib.Signed.{lt_z}
use mir.Syntax.{w32}
use mir.Val.{to_z, of_z}
use Rattle.signed.proofs.Signed.{signed, atmost, is, fits-in}
use Rattle.signed.proofs.By.{by₂}
use Rattle.weak_contour.specs.Contour.{at, refs, steep_by}
use Rattle.weak_contour.specs.Steps.{Ordered, steep_for}
use Rattle.weak_contour.proofs.Spans.{ordered-as, steep-less, steep-more}
use Rattle.weak_contour.proofs.Steepness.{tells_as}
use Rattle.weak_contour.proofs.steep.stretch_steep.Goals as goal

pub span_steep-requires : goal.span_steep-requires
span_steep-requires c =
    let v1 : ℤ = at c.args.originals.now c.args.ref1 in
    let v1-is : to_z w32 (of_z w32 v1) ≡ v1 = is (fits-in w32 (c.requires.coordinates.0 c.args.ref1) tt tt) in
    let v2 : ℤ = at c.args.originals.now c.args.ref2 in
    let v2-is : to_z w32 (of_z w32 v2) ≡ v2 = is (fits-in w32 (c.requires.coordinates.0 c.args.ref2) tt tt) in
    let u1 : ℤ = at c.args.currents.now c.args.ref1 in
    let u1-is : to_z w32 (of_z w32 u1) ≡ u1 = is (fits-in w32 (c.requires.coordinates.1 c.args.ref1) tt tt) in
    let u2 : ℤ = at c.args.currents.now c.args.ref2 in
    let u2-is : to_z w32 (of_z w32 u2) ≡ u2 = is (fits-in w32 (c.requires.coordinates.1 c.args.ref2) tt tt) in
    let less : lt_z v2 v1 ≡ true → Ordered v2 u2 v1 u1 = λ e. let h = c.requires.coordinates in
    record {
      original1 = h.0 c.args.ref2;
      current1 = h.1 c.args.ref2;
      original2 = h.0 c.args.ref1;
      current2 = h.1 c.args.ref1;
      order =
          atmost (omega (arith, signed));
    } in
    let test : (t : Bool) → lt_z (to_z w32 (of_z w32 v2)) (to_z w32 (of_z w32 v1)) ≡ t → lt_z v2 v1 ≡ t = λ t e. sym (by₂ lt_z refl v2-is v1-is) ∙ e in
    let tested : (t : Bool) → c.behind_is_first.result ≡ t → lt_z v2 v1 ≡ t = λ t e. test t (sym c.behind_is_first.ensures ∙ e) in
    record {
      from_le_to = (c.requires.currents_len.1, c.requires.currents_len.2);
      ordered = ordered-as v2-is u2-is v1-is u1-is (less (tested true c.if-behind_is_first.true));
    }

pub returns-then-behind_is_first : goal.returns-then-behind_is_first
unfolding steep_for
returns-then-behind_is_first c =
    let v1 : ℤ = at c.args.originals.now c.args.ref1 in
    let v1-is : to_z w32 (of_z w32 v1) ≡ v1 = is (fits-in w32 (c.requires.coordinates.0 c.args.ref1) tt tt) in
    let v2 : ℤ = at c.args.originals.now c.args.ref2 in
    let v2-is : to_z w32 (of_z w32 v2) ≡ v2 = is (fits-in w32 (c.requires.coordinates.0 c.args.ref2) tt tt) in
    let u1 : ℤ = at c.args.currents.now c.args.ref1 in
    let u1-is : to_z w32 (of_z w32 u1) ≡ u1 = is (fits-in w32 (c.requires.coordinates.1 c.args.ref1) tt tt) in
    let u2 : ℤ = at c.args.currents.now c.args.ref2 in
    let u2-is : to_z w32 (of_z w32 u2) ≡ u2 = is (fits-in w32 (c.requires.coordinates.1 c.args.ref2) tt tt) in
    let test : (t : Bool) → lt_z (to_z w32 (of_z w32 v2)) (to_z w32 (of_z w32 v1)) ≡ t → lt_z v2 v1 ≡ t = λ t e. sym (by₂ lt_z refl v2-is v1-is) ∙ e in
    let tested : (t : Bool) → c.behind_is_first.result ≡ t → lt_z v2 v1 ≡ t = λ t e. test t (sym c.behind_is_first.ensures ∙ e) in
    let a = c.args in
    tells_as _ _ _ _ _
    (λ i. sym (steep-less a.originals.now a.currents.now a.ref1 a.ref2 (tested true c.if-behind_is_first.true) i)
    ∙ λ k. steep_for a.originals.now (sym v2-is k) (sym u2-is k) (sym v1-is k) (sym u1-is k) i)
    c.span_steep.ensures

pub span_steep-requires-2 : goal.span_steep-requires-2
span_steep-requires-2 c =
    let v1 : ℤ = at c.args.originals.now c.args.ref1 in
    let v1-is : to_z w32 (of_z w32 v1) ≡ v1 = is (fits-in w32 (c.requires.coordinates.0 c.args.ref1) tt tt) in
    let v2 : ℤ = at c.args.originals.now c.args.ref2 in
    let v2-is : to_z w32 (of_z w32 v2) ≡ v2 = is (fits-in w32 (c.requires.coordinates.0 c.args.ref2) tt tt) in
    let u1 : ℤ = at c.args.currents.now c.args.ref1 in
    let u1-is : to_z w32 (of_z w32 u1) ≡ u1 = is (fits-in w32 (c.requires.coordinates.1 c.args.ref1) tt tt) in
    let u2 : ℤ = at c.args.currents.now c.args.ref2 in
    let u2-is : to_z w32 (of_z w32 u2) ≡ u2 = is (fits-in w32 (c.requires.coordinates.1 c.args.ref2) tt tt) in
    let more : lt_z v2 v1 ≡ false → Ordered v1 u1 v2 u2 = λ e. let h = c.requires.coordinates in
    record {
      original1 = h.0 c.args.ref1;
      current1 = h.1 c.args.ref1;
      original2 = h.0 c.args.ref2;
      current2 = h.1 c.args.ref2;
      order =
          atmost (omega (arith, signed));
    } in
    let test : (t : Bool) → lt_z (to_z w32 (of_z w32 v2)) (to_z w32 (of_z w32 v1)) ≡ t → lt_z v2 v1 ≡ t = λ t e. sym (by₂ lt_z refl v2-is v1-is) ∙ e in
    let tested : (t : Bool) → c.behind_is_first.result ≡ t → lt_z v2 v1 ≡ t = λ t e. test t (sym c.behind_is_first.ensures ∙ e) in
    record {
      from_le_to = (c.requires.currents_len.1, c.requires.currents_len.2);
      ordered = ordered-as v1-is u1-is v2-is u2-is (more (tested false c.if-behind_is_first.false));
    }

pub returns : goal.returns
unfolding steep_for
returns c =
    let v1 : ℤ = at c.args.originals.now c.args.ref1 in
    let v1-is : to_z w32 (of_z w32 v1) ≡ v1 = is (fits-in w32 (c.requires.coordinates.0 c.args.ref1) tt tt) in
    let v2 : ℤ = at c.args.originals.now c.args.ref2 in
    let v2-is : to_z w32 (of_z w32 v2) ≡ v2 = is (fits-in w32 (c.requires.coordinates.0 c.args.ref2) tt tt) in
    let u1 : ℤ = at c.args.currents.now c.args.ref1 in
    let u1-is : to_z w32 (of_z w32 u1) ≡ u1 = is (fits-in w32 (c.requires.coordinates.1 c.args.ref1) tt tt) in
    let u2 : ℤ = at c.args.currents.now c.args.ref2 in
    let u2-is : to_z w32 (of_z w32 u2) ≡ u2 = is (fits-in w32 (c.requires.coordinates.1 c.args.ref2) tt tt) in
    let test : (t : Bool) → lt_z (to_z w32 (of_z w32 v2)) (to_z w32 (of_z w32 v1)) ≡ t → lt_z v2 v1 ≡ t = λ t e. sym (by₂ lt_z refl v2-is v1-is) ∙ e in
    let tested : (t : Bool) → c.behind_is_first.result ≡ t → lt_z v2 v1 ≡ t = λ t e. test t (sym c.behind_is_first.ensures ∙ e) in
    let a = c.args in
    tells_as _ _ _ _ _
    (λ i. sym (steep-more a.originals.now a.currents.now a.ref1 a.ref2 (tested false c.if-behind_is_first.false) i)
    ∙ λ k. steep_for a.originals.now (sym v1-is k) (sym u1-is k) (sym v2-is k) (sym u2-is k) i)
    c.span_steep-2.ensures
