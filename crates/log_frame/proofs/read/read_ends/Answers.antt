-- `log_frame::read::read_ends` meets its contract. The invariant: what is read so far.
use native.Mathlib.Omega.{arith}
use mathlib.Core.Path.{◌≡◌, refl, ap, ◌∙◌}
use Prim.Native.Nat.{ℕ, ◌+◌}
use lib.ListN.{length-set}
use Rattle.words.specs.Word.{firsts}
use Rattle.log_digits.specs.Digits.{byte_at}
use Rattle.log_frame.specs.Read.{over}
use Rattle.log_frame.proofs.Rooms.{over_none, over-more}
use Rattle.log_frame.proofs.read.read_ends.Goals as goal

pub loop-i-init : goal.loop-i-init
loop-i-init c = (refl, over_none _ _)

pub overflow_add-at : goal.overflow_add-at
overflow_add-at c = omega (arith, c.requires)

pub byte_at-requires : goal.byte_at-requires
byte_at-requires c = omega (arith, c.requires)

pub offset_bounds-ends-i : goal.offset_bounds-ends-i
offset_bounds-ends-i c = omega (arith, c.requires)

pub bounds-ends-i : goal.bounds-ends-i
bounds-ends-i c = omega (arith, c.requires, c.loop-i.invariant)

pub loop-i-preserved : goal.loop-i-preserved
loop-i-preserved c = let l = c.loop-i in
    let now =
    over-more (λ (j : ℕ). byte_at c.args.line.now (c.args.at + j)) c.args.ends.now l.i c.from.result l.invariant.1 (omega (arith, c.requires))
    (c.from.ensures ∙ c.byte_at.ensures) in
    (length-set l.ends l.i c.from.result ∙ l.invariant.0, now)

pub shape_of-ends : goal.shape_of-ends
shape_of-ends c = c.loop-i.invariant.0

pub returns : goal.returns
returns c = let l = c.loop-i in
    let a = c.args in
    let e : l.i ≡ a.k = omega arith in
    l.invariant.1 ∙ ap (λ (n : ℕ). over (firsts (λ (j : ℕ). byte_at a.line.now (a.at + j)) n) a.ends.now) e
