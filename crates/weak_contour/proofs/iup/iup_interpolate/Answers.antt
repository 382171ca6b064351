-- `weak_contour::iup::iup_interpolate` meets its contract: the references are put in their order, and then the points are placed.
use borrow.Author.Rules.{rules}
use native.Mathlib.Omega.{arith}
use mathlib.Core.Path.{◌≡◌, refl, sym, ap, subst, ◌∙◌}
use mathlib.Core.Bool.{Bool, true, false}
use lib.IntN.{ℤ}
use lib.Signed.{lt_z}
use mir.Syntax.{w32}
use mir.Val.{to_z, of_z}
use Rattle.signed.proofs.Signed.{signed, atmost, is, fits-in}
use Rattle.weak_contour.specs.Contour.{at, steep_between}
use Rattle.weak_contour.specs.Steps.{Ordered, span_of, SpanHolds, spanned_at}
use Rattle.weak_contour.specs.declared.iup.Span.{Span}
use Rattle.signed.proofs.By.{by₂}
use Rattle.weak_contour.proofs.Writing.{wrote_none, wrote_as}
use Rattle.weak_contour.proofs.Spans.{ordered-as, between-less, between_more, steep-less, steep-more, span-holds}
use Rattle.weak_contour.proofs.iup.iup_interpolate.Goals as goal

pub returns-then-to-from : goal.returns-then-to-from
returns-then-to-from c = let a = c.args in
    let e : a.from ≡ a.to = omega arith in
    rw (sym e) (wrote_none _ a.from a.currents.now)

pub span_of-requires : goal.span_of-requires
span_of-requires c =
    let v1 : ℤ = at c.args.originals.now c.args.ref1 in
    let v1-is : to_z w32 (of_z w32 v1) ≡ v1 = is (fits-in w32 (c.requires.coordinates.0 c.args.ref1) tt tt) in
    let v2 : ℤ = at c.args.originals.now c.args.ref2 in
    let v2-is : to_z w32 (of_z w32 v2) ≡ v2 = is (fits-in w32 (c.requires.coordinates.0 c.args.ref2) tt tt) in
    let u1 : ℤ = at c.args.currents.now c.args.ref1 in
    let u1-is : to_z w32 (of_z w32 u1) ≡ u1 = is (fits-in w32 c.requires.coordinates.1 tt tt) in
    let u2 : ℤ = at c.args.currents.now c.args.ref2 in
    let u2-is : to_z w32 (of_z w32 u2) ≡ u2 = is (fits-in w32 c.requires.coordinates.2 tt tt) in
    let less : lt_z v2 v1 ≡ true → Ordered v2 u2 v1 u1 = λ e. let h = c.requires.coordinates in
    record { original1 = h.0 c.args.ref2; current1 = h.2; original2 = h.0 c.args.ref1; current2 = h.1; order = atmost (omega (arith, signed)) } in
    let test : (t : Bool) → lt_z (to_z w32 (of_z w32 v2)) (to_z w32 (of_z w32 v1)) ≡ t → lt_z v2 v1 ≡ t = λ t e. sym (by₂ lt_z refl v2-is v1-is) ∙ e in
    let tested : (t : Bool) → c.behind_is_first.result ≡ t → lt_z v2 v1 ≡ t = λ t e. test t (sym c.behind_is_first.ensures ∙ e) in
    ordered-as v2-is u2-is v1-is u1-is (less (tested true c.if-behind_is_first.true))

pub fill-requires : goal.fill-requires
fill-requires c =
    let v1 : ℤ = at c.args.originals.now c.args.ref1 in
    let v2 : ℤ = at c.args.originals.now c.args.ref2 in
    let u1 : ℤ = at c.args.currents.now c.args.ref1 in
    let u2 : ℤ = at c.args.currents.now c.args.ref2 in
    let less : lt_z v2 v1 ≡ true → Ordered v2 u2 v1 u1 = λ e. let h = c.requires.coordinates in
    record { original1 = h.0 c.args.ref2; current1 = h.2; original2 = h.0 c.args.ref1; current2 = h.1; order = atmost (omega (arith, signed)) } in
    let v1-is : to_z w32 (of_z w32 v1) ≡ v1 = is (fits-in w32 (c.requires.coordinates.0 c.args.ref1) tt tt) in
    let v2-is : to_z w32 (of_z w32 v2) ≡ v2 = is (fits-in w32 (c.requires.coordinates.0 c.args.ref2) tt tt) in
    let test : (t : Bool) → lt_z (to_z w32 (of_z w32 v2)) (to_z w32 (of_z w32 v1)) ≡ t → lt_z v2 v1 ≡ t = λ t e. sym (by₂ lt_z refl v2-is v1-is) ∙ e in
    let tested : (t : Bool) → c.behind_is_first.result ≡ t → lt_z v2 v1 ≡ t = λ t e. test t (sym c.behind_is_first.ensures ∙ e) in
    let u1-is : to_z w32 (of_z w32 u1) ≡ u1 = is (fits-in w32 c.requires.coordinates.1 tt tt) in
    let u2-is : to_z w32 (of_z w32 u2) ≡ u2 = is (fits-in w32 c.requires.coordinates.2 tt tt) in
    let span-is : c.span_of.result
    ≡ span_of v2 u2 v1
    u1 = c.span_of.ensures ∙ λ i. span_of (v2-is i) (u2-is i) (v1-is i) (u1-is i) in
    let a = c.args in
    let e = tested true c.if-behind_is_first.true in
    record {
      currents_len = c.requires.currents_len;
      coordinates = (
        c.requires.coordinates.0,
        subst SpanHolds (sym span-is) (span-holds _ _ _ _ (less e)),
        λ i l h. ap (λ (z : Span). steep_between (at a.originals.now i) z.v1 z.u1 z.v2 z.u2) span-is
            ∙ steep-less a.originals.now a.currents.now a.ref1 a.ref2 e i ∙ c.requires.coordinates.3 i l h,
      );
    }

pub span_of-requires-else-behind_is_first : goal.span_of-requires-else-behind_is_first
span_of-requires-else-behind_is_first c =
    let v1 : ℤ = at c.args.originals.now c.args.ref1 in
    let v1-is : to_z w32 (of_z w32 v1) ≡ v1 = is (fits-in w32 (c.requires.coordinates.0 c.args.ref1) tt tt) in
    let v2 : ℤ = at c.args.originals.now c.args.ref2 in
    let v2-is : to_z w32 (of_z w32 v2) ≡ v2 = is (fits-in w32 (c.requires.coordinates.0 c.args.ref2) tt tt) in
    let u1 : ℤ = at c.args.currents.now c.args.ref1 in
    let u1-is : to_z w32 (of_z w32 u1) ≡ u1 = is (fits-in w32 c.requires.coordinates.1 tt tt) in
    let u2 : ℤ = at c.args.currents.now c.args.ref2 in
    let u2-is : to_z w32 (of_z w32 u2) ≡ u2 = is (fits-in w32 c.requires.coordinates.2 tt tt) in
    let more : lt_z v2 v1 ≡ false → Ordered v1 u1 v2 u2 = λ e. let h = c.requires.coordinates in
    record { original1 = h.0 c.args.ref1; current1 = h.1; original2 = h.0 c.args.ref2; current2 = h.2; order = atmost (omega (arith, signed)) } in
    let test : (t : Bool) → lt_z (to_z w32 (of_z w32 v2)) (to_z w32 (of_z w32 v1)) ≡ t → lt_z v2 v1 ≡ t = λ t e. sym (by₂ lt_z refl v2-is v1-is) ∙ e in
    let tested : (t : Bool) → c.behind_is_first.result ≡ t → lt_z v2 v1 ≡ t = λ t e. test t (sym c.behind_is_first.ensures ∙ e) in
    ordered-as v1-is u1-is v2-is u2-is (more (tested false c.if-behind_is_first.false))

pub fill-requires-else-behind_is_first : goal.fill-requires-else-behind_is_first
fill-requires-else-behind_is_first c =
    let v1 : ℤ = at c.args.originals.now c.args.ref1 in
    let v2 : ℤ = at c.args.originals.now c.args.ref2 in
    let u1 : ℤ = at c.args.currents.now c.args.ref1 in
    let u2 : ℤ = at c.args.currents.now c.args.ref2 in
    let more : lt_z v2 v1 ≡ false → Ordered v1 u1 v2 u2 = λ e. let h = c.requires.coordinates in
    record { original1 = h.0 c.args.ref1; current1 = h.1; original2 = h.0 c.args.ref2; current2 = h.2; order = atmost (omega (arith, signed)) } in
    let v1-is : to_z w32 (of_z w32 v1) ≡ v1 = is (fits-in w32 (c.requires.coordinates.0 c.args.ref1) tt tt) in
    let v2-is : to_z w32 (of_z w32 v2) ≡ v2 = is (fits-in w32 (c.requires.coordinates.0 c.args.ref2) tt tt) in
    let test : (t : Bool) → lt_z (to_z w32 (of_z w32 v2)) (to_z w32 (of_z w32 v1)) ≡ t → lt_z v2 v1 ≡ t = λ t e. sym (by₂ lt_z refl v2-is v1-is) ∙ e in
    let tested : (t : Bool) → c.behind_is_first.result ≡ t → lt_z v2 v1 ≡ t = λ t e. test t (sym c.behind_is_first.ensures ∙ e) in
    let u1-is : to_z w32 (of_z w32 u1) ≡ u1 = is (fits-in w32 c.requires.coordinates.1 tt tt) in
    let u2-is : to_z w32 (of_z w32 u2) ≡ u2 = is (fits-in w32 c.requires.coordinates.2 tt tt) in
    let span-is-2 : c.span_of-else-behind_is_first.result
    ≡ span_of v1 u1 v2
    u2 = c.span_of-else-behind_is_first.ensures ∙ λ i. span_of (v1-is i) (u1-is i) (v2-is i) (u2-is i) in
    let a = c.args in
    let e = tested false c.if-behind_is_first.false in
    record {
      currents_len = c.requires.currents_len;
      coordinates = (
        c.requires.coordinates.0,
        subst SpanHolds (sym span-is-2) (span-holds _ _ _ _ (more e)),
        λ i l h. ap (λ (z : Span). steep_between (at a.originals.now i) z.v1 z.u1 z.v2 z.u2) span-is-2
            ∙ steep-more a.originals.now a.currents.now a.ref1 a.ref2 e i ∙ c.requires.coordinates.3 i l h,
      );
    }

pub returns-then-behind_is_first : goal.returns-then-behind_is_first
returns-then-behind_is_first c =
    let v1 : ℤ = at c.args.originals.now c.args.ref1 in
    let v2 : ℤ = at c.args.originals.now c.args.ref2 in
    let v1-is : to_z w32 (of_z w32 v1) ≡ v1 = is (fits-in w32 (c.requires.coordinates.0 c.args.ref1) tt tt) in
    let v2-is : to_z w32 (of_z w32 v2) ≡ v2 = is (fits-in w32 (c.requires.coordinates.0 c.args.ref2) tt tt) in
    let test : (t : Bool) → lt_z (to_z w32 (of_z w32 v2)) (to_z w32 (of_z w32 v1)) ≡ t → lt_z v2 v1 ≡ t = λ t e. sym (by₂ lt_z refl v2-is v1-is) ∙ e in
    let tested : (t : Bool) → c.behind_is_first.result ≡ t → lt_z v2 v1 ≡ t = λ t e. test t (sym c.behind_is_first.ensures ∙ e) in
    let u1 : ℤ = at c.args.currents.now c.args.ref1 in
    let u2 : ℤ = at c.args.currents.now c.args.ref2 in
    let u1-is : to_z w32 (of_z w32 u1) ≡ u1 = is (fits-in w32 c.requires.coordinates.1 tt tt) in
    let u2-is : to_z w32 (of_z w32 u2) ≡ u2 = is (fits-in w32 c.requires.coordinates.2 tt tt) in
    let span-is : c.span_of.result
    ≡ span_of v2 u2 v1
    u1 = c.span_of.ensures ∙ λ i. span_of (v2-is i) (u2-is i) (v1-is i) (u1-is i) in
    let a = c.args in
    let e = tested true c.if-behind_is_first.true in
    wrote_as _ _ _ _ _ _ (λ i. ap (λ (z : Span). spanned_at a.originals.now z i) span-is
    ∙ between-less a.originals.now a.currents.now a.ref1 a.ref2 e i)
    c.fill.ensures

pub returns-else-behind_is_first : goal.returns-else-behind_is_first
returns-else-behind_is_first c =
    let v1 : ℤ = at c.args.originals.now c.args.ref1 in
    let v2 : ℤ = at c.args.originals.now c.args.ref2 in
    let v1-is : to_z w32 (of_z w32 v1) ≡ v1 = is (fits-in w32 (c.requires.coordinates.0 c.args.ref1) tt tt) in
    let v2-is : to_z w32 (of_z w32 v2) ≡ v2 = is (fits-in w32 (c.requires.coordinates.0 c.args.ref2) tt tt) in
    let test : (t : Bool) → lt_z (to_z w32 (of_z w32 v2)) (to_z w32 (of_z w32 v1)) ≡ t → lt_z v2 v1 ≡ t = λ t e. sym (by₂ lt_z refl v2-is v1-is) ∙ e in
    let tested : (t : Bool) → c.behind_is_first.result ≡ t → lt_z v2 v1 ≡ t = λ t e. test t (sym c.behind_is_first.ensures ∙ e) in
    let u1 : ℤ = at c.args.currents.now c.args.ref1 in
    let u2 : ℤ = at c.args.currents.now c.args.ref2 in
    let u1-is : to_z w32 (of_z w32 u1) ≡ u1 = is (fits-in w32 c.requires.coordinates.1 tt tt) in
    let u2-is : to_z w32 (of_z w32 u2) ≡ u2 = is (fits-in w32 c.requires.coordinates.2 tt tt) in
    let span-is-2 : c.span_of-else-behind_is_first.result
    ≡ span_of v1 u1 v2
    u2 = c.span_of-else-behind_is_first.ensures ∙ λ i. span_of (v1-is i) (u1-is i) (v2-is i) (u2-is i) in
    let a = c.args in
    let e = tested false c.if-behind_is_first.false in
    wrote_as _ _ _ _ _ _ (λ i. ap (λ (z : Span). spanned_at a.originals.now z i) span-is-2
    ∙ between_more a.originals.now a.currents.now a.ref1 a.ref2 e i)
    c.fill-else-behind_is_first.ensures
