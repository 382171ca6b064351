-- `weak_known::round::align_round` meets its contract. The invariant: the points passed are aligned, up to i or the contour's end.
use borrow.Author.Rules.{rules}
use native.Mathlib.Omega.{arith}
use mathlib.Core.Path.{◌≡◌, refl, ◌∙◌}
use Prim.Native.Nat.{ℕ, ◌-◌, ◌≤◌, ◌<◌}
use lib.ListN.{length, get_or}
use Rattle.weak_contour.specs.Contour.{at, refs, weak_at}
use Rattle.weak_contour.specs.Steps.{Coordinate, Wrote, GentleRefs}
use Rattle.weak_contour.proofs.Writing.{wrote_none}
use mathlib.Core.Bool.{cond}
use mathlib.Core.List.{List}
use lib.Dec.{ltb}
use lib.IntN.{ℤ}
use Rattle.weak_known.specs.Walks.{contour, Says, TwoOn}
use Rattle.weak_known.proofs.Aligning.{WroteTo, to-here, from-here, to_end, passed, by_number, by-other, both-on, kept-p, kept-q, to_low, to_high, stretch-gentle, turn-past}
use Rattle.weak_known.proofs.round.align_round.Goals as goal

pub loop-i-init : goal.loop-i-init
loop-i-init c = (omega arith, to-here _ _ _ _ _ _ (omega arith) (wrote_none _ _ _))

pub loop-i-preserved-then-p-eq-TOUCHED_INDEX : goal.loop-i-preserved-then-p-eq-TOUCHED_INDEX
loop-i-preserved-then-p-eq-TOUCHED_INDEX c =
    let so_far : let a =
    c.args in let v =
    c.loop-i in Wrote (weak_at a.originals.now a.currents.now a.touched.now (contour a.s a.e)) a.s v.i a.currents.now
    v.currents = from-here _ _ _ _ _ _ (omega (arith, c.loop-i-test.true)) c.loop-i.invariant.1 in
    let h : List ℕ = c.args.behind.now in
    let a = c.args in
    let r = c.requires.two_on in
    let v = c.loop-i in
    let h = c.loop-i-test.true in (
      omega arith,
      to-here _ _ _ _ _ _ (omega arith) (passed a.originals.now a.currents.now v.currents a.touched.now a.s a.e v.i
          (by_number a.originals.now a.currents.now v.currents a.touched.now a.before.now a.behind.now a.s a.e v.i
          c.from-p.result (get_or a.behind.now v.i 0) v.invariant.0 h r.0 r.1
          c.from-p.ensures refl so_far c.requires.s_le_e.2 c.if-p-eq-TOUCHED_INDEX.true) so_far),
    )

pub iup_interpolate-requires : goal.iup_interpolate-requires
iup_interpolate-requires c =
    let o : List ℤ = c.args.originals.now in
    let c₀ : List ℤ = c.args.currents.now in
    let d : List ℤ = c.loop-i.currents in
    let t : List ℕ = c.args.touched.now in
    let b : List ℕ = c.args.before.now in
    let h : List ℕ = c.args.behind.now in
    let s : ℕ = c.args.s in
    let e : ℕ = c.args.e in
    let i : ℕ = c.loop-i.i in
    let p : ℕ = c.from-p.result in
    let ep : p ≡ get_or b i 0 = c.from-p.ensures in
    let eq : c.from-q.result ≡ get_or h i 0 = c.from-q.ensures in
    let low : s ≤ i = c.loop-i.invariant.0 in
    let high : i < e = c.loop-i-test.true in
    let twos : TwoOn t s e = c.requires.two_on.0 in
    let says : Says t b h s e = c.requires.two_on.1 in
    let so_far : let a =
    c.args in let v =
    c.loop-i in Wrote (weak_at a.originals.now a.currents.now a.touched.now (contour a.s a.e)) a.s v.i a.currents.now
    v.currents = from-here _ _ _ _ _ _ (omega (arith, c.loop-i-test.true)) c.loop-i.invariant.1 in
    let so : Wrote (weak_at o c₀ t (contour s e)) s i c₀ d = so_far in
    let free : get_or t i 0 ≡ 0 = by-other o c₀ d t b h s e i p c.from-q.result low high twos says ep eq so c.if-p-eq-TOUCHED_INDEX.false in
    let et : c.stretch_end-to.result ≡ cond (ltb i c.from-q.result) c.from-q.result e = c.stretch_end-to.ensures in
    let from-to : i < c.stretch_end-to.result = to_low o c₀ d t b h s e i p c.from-q.result low high twos says ep eq so free c.stretch_end-to.result et in
    let to-e : c.stretch_end-to.result ≤ e = to_high o c₀ d t b h s e i p c.from-q.result low high twos says ep eq so free c.stretch_end-to.result et in
    let on : ((s ≤ p) × (p < e) × (0 < get_or t p 0)) × ((s ≤ c.from-q.result) × (c.from-q.result < e) × (0 < get_or t c.from-q.result 0)) = both-on o c₀ d t b h s e i p c.from-q.result low high twos says ep eq so free in
    let current-p : Coordinate (at d p) = rw (kept-p o c₀ d t b h s e i p c.from-q.result low high twos says ep eq so free) (c.requires.coordinates.1 p on.0.0 on.0.1) in
    let current-q : Coordinate (at d c.from-q.result) = rw (kept-q o c₀ d t b h s e i p c.from-q.result low high twos says ep eq so free) (c.requires.coordinates.1 c.from-q.result on.1.0 on.1.1) in
    let len : length d ≡ length o = so.len ∙ c.requires.currents_len.0 in
    let e-len : e ≤ length o = c.requires.s_le_e.1 in
    let gentle : GentleRefs o d (refs p c.from-q.result) i c.stretch_end-to.result = stretch-gentle o c₀ d t b h s e i p c.from-q.result low high twos says ep eq so free c.stretch_end-to.result et c.requires.gentle_on in
    record {
      currents_len = (len, omega (arith, from-to), omega (arith, to-e, e-len));
      ref1_in_bounds = (omega (arith, on.0.1, e-len), omega (arith, on.1.1, e-len));
      coordinates = (c.requires.coordinates.0, current-p, current-q, gentle);
    }

pub overflow_add-i-in-loop-i : goal.overflow_add-i-in-loop-i
overflow_add-i-in-loop-i c =
    let o : List ℤ = c.args.originals.now in
    let c₀ : List ℤ = c.args.currents.now in
    let d : List ℤ = c.loop-i.currents in
    let t : List ℕ = c.args.touched.now in
    let b : List ℕ = c.args.before.now in
    let h : List ℕ = c.args.behind.now in
    let s : ℕ = c.args.s in
    let e : ℕ = c.args.e in
    let i : ℕ = c.loop-i.i in
    let p : ℕ = c.from-p.result in
    let ep : p ≡ get_or b i 0 = c.from-p.ensures in
    let eq : c.from-q.result ≡ get_or h i 0 = c.from-q.ensures in
    let low : s ≤ i = c.loop-i.invariant.0 in
    let high : i < e = c.loop-i-test.true in
    let twos : TwoOn t s e = c.requires.two_on.0 in
    let says : Says t b h s e = c.requires.two_on.1 in
    let so_far : let a =
    c.args in let v =
    c.loop-i in Wrote (weak_at a.originals.now a.currents.now a.touched.now (contour a.s a.e)) a.s v.i a.currents.now
    v.currents = from-here _ _ _ _ _ _ (omega (arith, c.loop-i-test.true)) c.loop-i.invariant.1 in
    let so : Wrote (weak_at o c₀ t (contour s e)) s i c₀ d = so_far in
    let free : get_or t i 0 ≡ 0 = by-other o c₀ d t b h s e i p c.from-q.result low high twos says ep eq so c.if-p-eq-TOUCHED_INDEX.false in
    let et : c.stretch_end-to.result ≡ cond (ltb i c.from-q.result) c.from-q.result e = c.stretch_end-to.ensures in
    let to-e : c.stretch_end-to.result ≤ e = to_high o c₀ d t b h s e i p c.from-q.result low high twos says ep eq so free c.stretch_end-to.result et in
    omega (arith, to-e, c.requires.s_le_e.2)

pub loop-i-smaller : goal.loop-i-smaller
loop-i-smaller c =
    let e : ℕ = c.args.e in
    let i : ℕ = c.loop-i.i in
    let high : i < e = c.loop-i-test.true in
    let o : List ℤ = c.args.originals.now in
    let c₀ : List ℤ = c.args.currents.now in
    let d : List ℤ = c.loop-i.currents in
    let t : List ℕ = c.args.touched.now in
    let b : List ℕ = c.args.before.now in
    let h : List ℕ = c.args.behind.now in
    let s : ℕ = c.args.s in
    let p : ℕ = c.from-p.result in
    let ep : p ≡ get_or b i 0 = c.from-p.ensures in
    let eq : c.from-q.result ≡ get_or h i 0 = c.from-q.ensures in
    let low : s ≤ i = c.loop-i.invariant.0 in
    let twos : TwoOn t s e = c.requires.two_on.0 in
    let says : Says t b h s e = c.requires.two_on.1 in
    let so_far : let a =
    c.args in let v =
    c.loop-i in Wrote (weak_at a.originals.now a.currents.now a.touched.now (contour a.s a.e)) a.s v.i a.currents.now
    v.currents = from-here _ _ _ _ _ _ (omega (arith, c.loop-i-test.true)) c.loop-i.invariant.1 in
    let so : Wrote (weak_at o c₀ t (contour s e)) s i c₀ d = so_far in
    let free : get_or t i 0 ≡ 0 = by-other o c₀ d t b h s e i p c.from-q.result low high twos says ep eq so c.if-p-eq-TOUCHED_INDEX.false in
    let et : c.stretch_end-to.result ≡ cond (ltb i c.from-q.result) c.from-q.result e = c.stretch_end-to.ensures in
    let from-to : i < c.stretch_end-to.result = to_low o c₀ d t b h s e i p c.from-q.result low high twos says ep eq so free c.stretch_end-to.result et in
    omega (arith, from-to, high)

pub loop-i-preserved : goal.loop-i-preserved
loop-i-preserved c =
    let o : List ℤ = c.args.originals.now in
    let c₀ : List ℤ = c.args.currents.now in
    let d : List ℤ = c.loop-i.currents in
    let t : List ℕ = c.args.touched.now in
    let b : List ℕ = c.args.before.now in
    let h : List ℕ = c.args.behind.now in
    let s : ℕ = c.args.s in
    let e : ℕ = c.args.e in
    let i : ℕ = c.loop-i.i in
    let p : ℕ = c.from-p.result in
    let ep : p ≡ get_or b i 0 = c.from-p.ensures in
    let eq : c.from-q.result ≡ get_or h i 0 = c.from-q.ensures in
    let low : s ≤ i = c.loop-i.invariant.0 in
    let high : i < e = c.loop-i-test.true in
    let twos : TwoOn t s e = c.requires.two_on.0 in
    let says : Says t b h s e = c.requires.two_on.1 in
    let so_far : let a =
    c.args in let v =
    c.loop-i in Wrote (weak_at a.originals.now a.currents.now a.touched.now (contour a.s a.e)) a.s v.i a.currents.now
    v.currents = from-here _ _ _ _ _ _ (omega (arith, c.loop-i-test.true)) c.loop-i.invariant.1 in
    let so : Wrote (weak_at o c₀ t (contour s e)) s i c₀ d = so_far in
    let free : get_or t i 0 ≡ 0 = by-other o c₀ d t b h s e i p c.from-q.result low high twos says ep eq so c.if-p-eq-TOUCHED_INDEX.false in
    let et : c.stretch_end-to.result ≡ cond (ltb i c.from-q.result) c.from-q.result e = c.stretch_end-to.ensures in
    let from-to : i < c.stretch_end-to.result = to_low o c₀ d t b h s e i p c.from-q.result low high twos says ep eq so free c.stretch_end-to.result et in (
      omega (arith, from-to, low),
      turn-past o c₀ d t b h s e i p c.from-q.result low high twos says ep eq so free
          c.stretch_end-to.result et _ c.iup_interpolate.ensures,
    )

pub shape_of-currents : goal.shape_of-currents
shape_of-currents c = c.loop-i.invariant.1.len

pub returns : goal.returns
returns c = to_end _ _ _ _ _ _ (omega (arith, c.loop-i-test.false)) c.loop-i.invariant.1
