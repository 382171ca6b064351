-- `strong_words::place::place_each` meets its contract. The invariant: the points passed are at their places, none of them refused, the others as they were.
--
use borrow.Author.Rules.{rules}
use native.Mathlib.Omega.{arith}
use borrow.Author.Tests.{not-true, not-false}
use mathlib.Core.Path.{◌≡◌, refl, sym, ap, ◌∙◌}
use mathlib.Core.Bool.{Bool, true, false, ◌||◌}
use mathlib.Core.List.{List}
use Prim.Native.Nat.{ℕ, ◌-◌, ◌≤◌}
use lib.Dec.{ltb}
use lib.ListN.{length, get_or}
use lib.IntN.{ℤ, pos}
use mir.Syntax.{w32}
use mir.Val.{to_z, of_z}
use Rattle.signed.proofs.By.{by₂}
use Rattle.signed.proofs.Signed.{is, got}
use Rattle.weak_contour.specs.Contour.{at, is_touched}
use Rattle.words_call.specs.Lent.{edges_of}
use Rattle.signed.proofs.Choices.{clash}
use Rattle.axis.specs.Refusals.{every}
use Rattle.axis.proofs.Tests.{every-none, every_more, every-fails, every-done}
use Rattle.strong.specs.declared.place.Place.TheVariants.{Stays}
use Rattle.strong.specs.Strong.{strong_at, current_after, mark_after, is_placed, all_placed}
use Rattle.strong_words.proofs.Walks.{Upto, upto-none, upto-set, upto_all, upto-same, held, strong-held, strong-free}
use Rattle.strong_words.proofs.place.place_each.Goals as goal
use Rattle.strong_words.proofs.place.place_each.Invariants.{new_current, new_mark}

pub loop-i-init : goal.loop-i-init
loop-i-init c = (omega arith, upto-none _ _ _, upto-none _ _ _, every-none _)

pub is_held-requires : goal.is_held-requires
is_held-requires c =
    let p = c.requires.0 in
    let t = c.loop-i-test.true in
    (omega (arith, t, c.loop-i.invariant.2.len, p.marks_length), omega (arith, t, p.weak_length))

pub overflow_step-i : goal.overflow_step-i
overflow_step-i c = omega (arith, c.loop-i-test.true, c.requires.0.points)

pub loop-i-smaller-then-is_held : goal.loop-i-smaller-then-is_held
loop-i-smaller-then-is_held c = omega (arith, c.loop-i-test.true)

pub loop-i-preserved-then-is_held : goal.loop-i-preserved-then-is_held
unfolding current_after mark_after is_placed
loop-i-preserved-then-is_held c =
    let held-is : c.is_held.result ≡ held c.args.touched.now c.args.weak.now c.loop-i.i =
    c.is_held.ensures ∙ ap (λ (m : ℕ). ltb 0 m || is_touched c.args.weak.now c.loop-i.i) (c.loop-i.invariant.2.ahead c.loop-i.i (omega arith)) in
    let stays : strong_at (edges_of c.args.words.now) c.args.fonts.now c.args.originals.now c.args.touched.now c.args.weak.now c.loop-i.i ≡ Stays =
    let a = c.args in
    strong-held a.touched.now a.weak.now c.loop-i.i (edges_of a.words.now) a.fonts.now a.originals.now
    (sym held-is ∙ c.if-is_held.true) in
    let h = c.loop-i-test.true in
    let v = c.loop-i.invariant in
    let p = c.requires in
    let e = stays in (
      omega (arith, h),
      upto-same _ _ _ _ _ (omega (arith, h, p.1)) v.1 (sym (ap (current_after (at c.args.currents.now c.loop-i.i)) e)),
      upto-same _ _ _ _ _ (omega (arith, h, p.0.marks_length)) v.2 (sym (ap (mark_after (get_or c.args.touched.now c.loop-i.i 0)) e)),
      every_more _ _ v.3 (ap is_placed e),
    )

pub free_at-place-requires : goal.free_at-place-requires
free_at-place-requires c =
    let p = c.requires.0 in
    (p.whole, p.axis, c.loop-i-test.true, p.originals_length, p.originals)

pub shape_of-currents-then-not-is_placed : goal.shape_of-currents-then-not-is_placed
shape_of-currents-then-not-is_placed c = c.loop-i.invariant.1.len

pub shape_of-touched-then-not-is_placed : goal.shape_of-touched-then-not-is_placed
shape_of-touched-then-not-is_placed c = c.loop-i.invariant.2.len

pub returns-then-not-is_placed : goal.returns-then-not-is_placed
unfolding all_placed
returns-then-not-is_placed c =
    let held-is : c.is_held.result ≡ held c.args.touched.now c.args.weak.now c.loop-i.i =
    c.is_held.ensures ∙ ap (λ (m : ℕ). ltb 0 m || is_touched c.args.weak.now c.loop-i.i) (c.loop-i.invariant.2.ahead c.loop-i.i (omega arith)) in
    let placed : c.free_at-place.result ≡ strong_at (edges_of c.args.words.now) c.args.fonts.now c.args.originals.now c.args.touched.now c.args.weak.now c.loop-i.i =
    let a = c.args in
    c.free_at-place.ensures
    ∙ sym (strong-free a.touched.now a.weak.now c.loop-i.i (edges_of a.words.now) a.fonts.now a.originals.now
    (sym held-is ∙ c.if-is_held.false)) in
    record {
      told = sym (every-fails _ _ _ c.loop-i-test.true (ap is_placed (sym placed) ∙ sym c.is_placed.ensures ∙ c.if-not-is_placed.true));
      placed = λ t. absurd (clash false refl t);
    }

pub slice_copy_out-current_after : goal.slice_copy_out-current_after
slice_copy_out-current_after c = omega (arith, c.loop-i-test.true, c.loop-i.invariant.1.len, c.requires.1)

pub bounds-touched-i : goal.bounds-touched-i
bounds-touched-i c = omega (arith, c.loop-i-test.true, c.loop-i.invariant.2.len, c.requires.0.marks_length)

pub bounds-currents-i : goal.bounds-currents-i
bounds-currents-i c = omega (arith, c.loop-i-test.true, c.loop-i.invariant.1.len, c.requires.1)

pub bounds-touched-i-in-loop-i : goal.bounds-touched-i-in-loop-i
bounds-touched-i-in-loop-i c = omega (arith, c.loop-i-test.true, c.loop-i.invariant.2.len, c.requires.0.marks_length)

pub overflow_step-i-in-loop-i : goal.overflow_step-i-in-loop-i
overflow_step-i-in-loop-i c = omega (arith, c.loop-i-test.true, c.requires.0.points)

pub loop-i-smaller : goal.loop-i-smaller
loop-i-smaller c = omega (arith, c.loop-i-test.true)

pub loop-i-preserved : goal.loop-i-preserved
loop-i-preserved c =
    let held-is : c.is_held.result ≡ held c.args.touched.now c.args.weak.now c.loop-i.i =
    c.is_held.ensures ∙ ap (λ (m : ℕ). ltb 0 m || is_touched c.args.weak.now c.loop-i.i) (c.loop-i.invariant.2.ahead c.loop-i.i (omega arith)) in
    let placed : c.free_at-place.result ≡ strong_at (edges_of c.args.words.now) c.args.fonts.now c.args.originals.now c.args.touched.now c.args.weak.now c.loop-i.i =
    let a = c.args in
    c.free_at-place.ensures
    ∙ sym (strong-free a.touched.now a.weak.now c.loop-i.i (edges_of a.words.now) a.fonts.now a.originals.now
    (sym held-is ∙ c.if-is_held.false)) in
    let current-is : to_z w32 (of_z w32 c.current_after-current.result) ≡ new_current c.args.words.now c.args.fonts.now c.args.originals.now c.args.currents.now c.args.touched.now c.args.weak.now c.loop-i.i =
    is (got w32 c.current_after-current.result c.current_after-current.type_inv)
    ∙ by₂ current_after c.current_after-current.ensures
    (is (got w32 (at c.loop-i.currents c.loop-i.i) c.current_after-arg-1.given) ∙ c.loop-i.invariant.1.ahead c.loop-i.i (omega arith))
    placed in
    let mark-is : c.mark_after-mark.result ≡ new_mark c.args.words.now c.args.fonts.now c.args.originals.now c.args.touched.now c.args.weak.now c.loop-i.i =
    by₂ mark_after c.mark_after-mark.ensures (c.loop-i.invariant.2.ahead c.loop-i.i (omega arith)) placed in
    let t = c.loop-i-test.true in
    let v = c.loop-i.invariant in
    let p = c.requires in (
      omega (arith, t),
      upto-set _ _ _ _ _ (omega (arith, t, p.1)) v.1 _ current-is,
      upto-set _ _ _ _ _ (omega (arith, t, p.0.marks_length)) v.2 _ mark-is,
      (every_more _ _ v.3 (ap is_placed (sym placed) ∙ sym c.is_placed.ensures ∙ c.if-not-is_placed.false)),
    )

pub shape_of-currents : goal.shape_of-currents
shape_of-currents c = c.loop-i.invariant.1.len

pub shape_of-touched : goal.shape_of-touched
shape_of-touched c = c.loop-i.invariant.2.len

pub returns : goal.returns
unfolding all_placed
returns c =
    let p = c.requires in
    let v = c.loop-i.invariant in
    record {
      told = every-done _ _ _ _ v.0 c.loop-i-test.false refl v.3;
      placed = λ _. record {
        currents = upto_all _ _ _ _ _ _ p.1 c.loop-i-test.false v.1;
        touched = upto_all _ _ _ _ _ _ p.0.marks_length c.loop-i-test.false v.2;
      };
    }
