-- `middle::low_16` meets its contract: what its low bits stand for.
use Rattle.std.proofs.Common.{◌≡◌, ℕ, ◌%◌, sym, ap, ◌∙◌, arith, w16, w32, to_z, of_z, rules}
use Rattle.signed.proofs.Signed.{signed, fits, is, same, read_low, read-high, ◌also◌}
use Rattle.middle.specs.Middle.{wrap_z}
use Rattle.middle.proofs.Wrapping.{wrap-low}
use Rattle.middle.proofs.low_16.Goals as goal
use Rattle.middle.proofs.low_16.Goals.{After-bits_of}

pub overflow_cast-low : goal.overflow_cast-low
overflow_cast-low c = search rules

wrap-is : (c : After-bits_of) → wrap_z w16 c.args.x ≡ to_z w16 (c.bits_of.result % 65536)
wrap-is c =
    let x = c.args.x in
    let f = c.ranges.x in
    wrap-low x f ∙ ap (λ (b : ℕ). to_z w16 (b % 65536)) (sym (c.bits_of.ensures ∙ ap (of_z w32) (is f)))

pub overflow_cast-result : goal.overflow_cast-result
overflow_cast-result c = let k = overflow_cast-low c.before in fits (omega (arith, signed))

pub returns-then-low-lt32768 : goal.returns-then-low-lt32768
returns-then-low-lt32768 c =
    let b = c.before in
    let k = overflow_cast-low b also overflow_cast-result c in
    let e = read_low w16 (b.bits_of.result % 65536) (omega (arith, signed)) in
    rw (wrap-is b) (same (omega (arith, signed)))

pub overflow_sub-result : goal.overflow_sub-result
overflow_sub-result c = let k = overflow_cast-low c.before in fits (omega (arith, signed))

pub overflow_cast-result-2 : goal.overflow_cast-result-2
overflow_cast-result-2 c = let k = overflow_cast-low c.before also overflow_sub-result c in fits (omega (arith, signed))

pub returns : goal.returns
returns c =
    let b = c.before in
    let k = overflow_cast-low b also overflow_sub-result c also overflow_cast-result-2 c in
    let e = read-high w16 (b.bits_of.result % 65536) (omega (arith, signed)) in
    rw (wrap-is b) (same (omega (arith, signed)))
