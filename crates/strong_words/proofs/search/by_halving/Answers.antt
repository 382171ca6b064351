-- `strong_words::search::by_halving` meets its contract. The invariant: what is left is halved on.
use native.Mathlib.Omega.{arith}
use mathlib.Core.Path.{◌≡◌, sym, ap, ◌∙◌}
use Prim.Native.Nat.{ℕ, ◌-◌, ◌≤◌}
use lib.IntN.{ℤ}
use lib.Signed.{lt_z}
use mir.Syntax.{w32}
use mir.Val.{to_z, of_z}
use Rattle.signed.proofs.Signed.{is}
use Rattle.words.specs.Edge.{edges_in}
use Rattle.words.proofs.Fields.{kept}
use Rattle.words_call.specs.Lent.{edges_of}
use Rattle.strong.specs.Strong.{middle, by_halving, fpos_at}
use Rattle.strong.proofs.Search.{steps-start, step-low, step-on, step-high, steps-end}
use Rattle.strong_words.proofs.search.by_halving.Goals as goal

pub loop-low-init : goal.loop-low-init
loop-low-init c = (omega arith, steps-start _ _ _)

pub overflow_add-mid : goal.overflow_add-mid
overflow_add-mid c = omega (arith, c.loop-low-test.true, c.loop-low.invariant.0, c.requires.few)

pub read_fpos-fpos-requires : goal.read_fpos-fpos-requires
read_fpos-fpos-requires c = (c.requires, omega (arith, c.loop-low-test.true, c.loop-low.invariant.0))

pub loop-low-smaller-then-u-fpos : goal.loop-low-smaller-then-u-fpos
loop-low-smaller-then-u-fpos c = omega (arith, c.loop-low-test.true)

pub loop-low-preserved-then-u-fpos : goal.loop-low-preserved-then-u-fpos
loop-low-preserved-then-u-fpos c =
    let fpos : ℕ → ℤ = fpos_at (edges_of c.args.words.now) in
    let back : ℤ = to_z w32 (of_z w32 c.args.u) in
    let mid : ℕ = middle c.loop-low.low c.loop-low.high in
    let read : to_z w32 (of_z w32 c.read_fpos-fpos.result) ≡ fpos mid =
    kept w32 c.read_fpos-fpos.result c.read_fpos-fpos.type_inv ∙ c.read_fpos-fpos.ensures in
    let t = c.loop-low-test.true in
    (omega (arith, t, c.loop-low.invariant.0), c.loop-low.invariant.1 ∙ step-low _ _ _ _ t (sym (ap (lt_z back) read) ∙ c.if-u-fpos.true))

pub returns-then-u-fpos-2 : goal.returns-then-u-fpos-2
returns-then-u-fpos-2 c =
    let fpos : ℕ → ℤ = fpos_at (edges_of c.args.words.now) in
    let mid : ℕ = middle c.loop-low.low c.loop-low.high in
    let read : to_z w32 (of_z w32 c.read_fpos-fpos.result) ≡ fpos mid =
    kept w32 c.read_fpos-fpos.result c.read_fpos-fpos.type_inv ∙ c.read_fpos-fpos.ensures in
    let back : ℤ = to_z w32 (of_z w32 c.args.u) in
    let from-u : by_halving fpos c.args.u (edges_in c.args.words.now) 0 (edges_in c.args.words.now) ≡ by_halving fpos back (c.loop-low.high - c.loop-low.low) c.loop-low.low c.loop-low.high =
    let n = edges_in c.args.words.now in ap (λ (z : ℤ). by_halving fpos z n 0 n) (sym (is c.ranges.u)) ∙ c.loop-low.invariant.1 in
    sym (from-u ∙ step-on _ _ _ _ c.loop-low-test.true (ap (to_z w32) c.if-u-fpos-2.true ∙ read))

pub overflow_add-low : goal.overflow_add-low
overflow_add-low c = omega (arith, c.loop-low-test.true, c.loop-low.invariant.0, c.requires.few)

pub loop-low-smaller : goal.loop-low-smaller
loop-low-smaller c = omega (arith, c.loop-low-test.true)

pub loop-low-preserved : goal.loop-low-preserved
loop-low-preserved c =
    let fpos : ℕ → ℤ = fpos_at (edges_of c.args.words.now) in
    let back : ℤ = to_z w32 (of_z w32 c.args.u) in
    let mid : ℕ = middle c.loop-low.low c.loop-low.high in
    let read : to_z w32 (of_z w32 c.read_fpos-fpos.result) ≡ fpos mid =
    kept w32 c.read_fpos-fpos.result c.read_fpos-fpos.type_inv ∙ c.read_fpos-fpos.ensures in
    let apart : back ≡ fpos mid → ⊥ =
    λ e. c.if-u-fpos-2.false (ap (of_z w32) (sym (is c.ranges.u) ∙ e ∙ sym c.read_fpos-fpos.ensures)) in
    (c.loop-low.invariant.0, c.loop-low.invariant.1 ∙ step-high _ _ _ _ c.loop-low-test.true (sym (ap (lt_z back) read) ∙ c.if-u-fpos.false) apart)

pub returns : goal.returns
returns c =
    let fpos : ℕ → ℤ = fpos_at (edges_of c.args.words.now) in
    let back : ℤ = to_z w32 (of_z w32 c.args.u) in
    let from-u : by_halving fpos c.args.u (edges_in c.args.words.now) 0 (edges_in c.args.words.now) ≡ by_halving fpos back (c.loop-low.high - c.loop-low.low) c.loop-low.low c.loop-low.high =
    let n = edges_in c.args.words.now in ap (λ (z : ℤ). by_halving fpos z n 0 n) (sym (is c.ranges.u)) ∙ c.loop-low.invariant.1 in
    sym (from-u ∙ steps-end _ _ _ _ c.loop-low-test.false)
