-- `strong_words::search::one_by_one` meets its contract. The invariant: what is left is searched.
use native.Mathlib.Omega.{arith}
use mathlib.Core.Path.{◌≡◌, sym, ap, ◌∙◌}
use Prim.Native.Nat.{ℕ, ◌-◌, ◌≤◌}
use lib.IntN.{ℤ}
use lib.Signed.{le_z}
use mir.Syntax.{w32}
use mir.Val.{to_z, of_z}
use Rattle.signed.proofs.Signed.{is}
use Rattle.words.specs.Edge.{edges_in}
use Rattle.words.proofs.Fields.{kept}
use Rattle.words_call.specs.Lent.{edges_of}
use Rattle.strong.specs.Strong.{one_by_one, fpos_at}
use Rattle.strong.proofs.Search.{one-start, one-here, one_on, one_end}
use Rattle.strong_words.proofs.search.one_by_one.Goals as goal

pub loop-i-init : goal.loop-i-init
loop-i-init c = (omega arith, one-start _ _ _)

pub read_fpos-requires : goal.read_fpos-requires
read_fpos-requires c = (c.requires, c.loop-i-test.true)

pub returns-then-u-read_fpos : goal.returns-then-u-read_fpos
returns-then-u-read_fpos c =
    let fpos : ℕ → ℤ = fpos_at (edges_of c.args.words.now) in
    let back : ℤ = to_z w32 (of_z w32 c.args.u) in
    let from-u : one_by_one fpos c.args.u 0 (edges_in c.args.words.now) ≡ one_by_one fpos back c.loop-i.i (edges_in c.args.words.now - c.loop-i.i) =
    ap (λ (z : ℤ). one_by_one fpos z 0 (edges_in c.args.words.now)) (sym (is c.ranges.u)) ∙ c.loop-i.invariant.1 in
    sym (from-u ∙ one-here _ _ _ _ c.loop-i-test.true (sym (ap (le_z back) (kept w32 c.read_fpos.result c.read_fpos.type_inv ∙ c.read_fpos.ensures)) ∙ c.if-u-read_fpos.true))

pub overflow_step-i : goal.overflow_step-i
overflow_step-i c = omega (arith, c.loop-i-test.true, c.requires.few)

pub loop-i-smaller : goal.loop-i-smaller
loop-i-smaller c = omega (arith, c.loop-i-test.true)

pub loop-i-preserved : goal.loop-i-preserved
loop-i-preserved c =
    let fpos : ℕ → ℤ = fpos_at (edges_of c.args.words.now) in
    let back : ℤ = to_z w32 (of_z w32 c.args.u) in
    let t = c.loop-i-test.true in
    (omega arith, c.loop-i.invariant.1 ∙ one_on _ _ _ _ t (sym (ap (le_z back) (kept w32 c.read_fpos.result c.read_fpos.type_inv ∙ c.read_fpos.ensures)) ∙ c.if-u-read_fpos.false))

pub returns : goal.returns
returns c =
    let fpos : ℕ → ℤ = fpos_at (edges_of c.args.words.now) in
    let back : ℤ = to_z w32 (of_z w32 c.args.u) in
    let from-u : one_by_one fpos c.args.u 0 (edges_in c.args.words.now) ≡ one_by_one fpos back c.loop-i.i (edges_in c.args.words.now - c.loop-i.i) =
    ap (λ (z : ℤ). one_by_one fpos z 0 (edges_in c.args.words.now)) (sym (is c.ranges.u)) ∙ c.loop-i.invariant.1 in
    let e : c.loop-i.i ≡ edges_in c.args.words.now = omega (arith, c.loop-i.invariant.0, c.loop-i-test.false) in
    sym (from-u ∙ one_end _ _ _ _ c.loop-i-test.false ∙ e)
