-- `stems_cjk::stem::stem_at` meets its contract.
use mathlib.Core.Path.{◌≡◌}
use native.Mathlib.Omega.{arith}
use lib.IntN.{ℤ}
use mir.Syntax.{w32}
use Rattle.signed.proofs.Signed.{fits, is, got, ◌also◌, signed}
use Rattle.stems_cjk.specs.Cjk.{start_of, delta_of, stem_at}
use Rattle.stems_cjk.proofs.Moves.{start-range, delta-range}
use borrow.Author.Rules.{rules}
use Rattle.stems_cjk.proofs.stem.stem_at.Goals as goal
use Rattle.stems_cjk.proofs.stem.stem_at.Goals.{After-delta_of-moved, After-start_of-start, Start}

start_is : (c : After-start_of-start) → c.start_of-start.result ≡ start_of c.args.opos1 c.args.opos2 c.args.width
    c.args.delta
start_is c = let f = c.ranges in rw (is f.opos1, is f.opos2, is f.width, is f.delta) at c.start_of-start.ensures

pub delta_of-moved-requires : goal.delta_of-moved-requires
delta_of-moved-requires c =
    let s = c.before in
    let e = start_is c in
    let h = start-range _ _ _ _ s.requires.0 s.requires.1 s.requires.2 s.requires.3 in
    let k = got w32 c.start_of-start.result c.start_of-start.type_inv in
    (omega (arith, signed), omega (arith, signed), omega (arith, signed))

-- the start by the arguments
abbrev start_at : Start → ℤ
start_at s = start_of s.args.opos1 s.args.opos2 s.args.width s.args.delta

delta-is : (c : After-delta_of-moved) → c.delta_of-moved.result
    ≡ delta_of c.args.stem_adjust (start_at c.before.before) c.args.width c.args.threshold
delta-is c =
    let o = c.before in
    let s = o.before in
    rw (is (got w32 o.start_of-start.result o.start_of-start.type_inv), start_is o, is s.ranges.width, is s.ranges.threshold) at c.delta_of-moved.ensures

pub overflow_add-result : goal.overflow_add-result
overflow_add-result c =
    let o = c.before in
    let s = o.before in
    let e = start_is o also delta-is c in
    let h = start-range _ _ _ _ s.requires.0 s.requires.1 s.requires.2 s.requires.3 in
    let d = delta-range s.args.stem_adjust (start_at s) s.args.width _ s.requires.4 in
    let k = got w32 o.start_of-start.result o.start_of-start.type_inv also got w32 c.delta_of-moved.result c.delta_of-moved.type_inv in
    fits (omega (arith, signed))

pub returns : goal.returns
unfolding stem_at
returns c =
    let o = c.before in
    let s = o.before in
    rw (
      is (overflow_add-result c),
      is (got w32 o.start_of-start.result o.start_of-start.type_inv),
      is (got w32 c.delta_of-moved.result c.delta_of-moved.type_inv),
      is s.ranges.width,
      start_is o,
      delta-is c,
    )
