-- `link_words::serif::rewrite_links_in` meets its contract.
use mathlib.Core.Path.{refl}
use Prim.Native.Nat.{◌-◌, ◌<◌}
use native.Mathlib.Omega.{arith}
use Rattle.link.specs.Rounds.{rewrite_turn}
use Rattle.link_words.proofs.Turns.{Turned, turns-start, turns_next, turns-end}
use Rattle.link_words.proofs.Serifs.{rewrites-law}
use Rattle.link_words.proofs.serif.rewrite_links_in.Goals as goal

pub loop-i-init : goal.loop-i-init
loop-i-init c = (c.requires.1, c.requires.2, turns-start _ _ c.args.words.now c.requires.0 refl)

pub rewrite_in-requires : goal.rewrite_in-requires
rewrite_in-requires c =
    let p = c.loop-i.invariant in
    let h = c.loop-i-test.true in
    (p.2.whole, omega (arith, p.2.count, h), omega (arith, p.2.count, p.0), omega (arith, p.2.count, p.1))

pub overflow_step-i : goal.overflow_step-i
overflow_step-i c = let p = c.loop-i.invariant in let h = c.loop-i-test.true in omega (arith, p.2.few, h)

pub loop-i-smaller : goal.loop-i-smaller
loop-i-smaller c = let h = c.loop-i-test.true in omega (arith, h)

pub loop-i-preserved : goal.loop-i-preserved
loop-i-preserved c =
    let i = c in
    let p = i.loop-i.invariant in
    (p.0, p.1, turns_next _ _ _ p.2 i.loop-i-test.true c.rewrite_in.ensures)

pub shape_of-words : goal.shape_of-words
shape_of-words c = c.loop-i.invariant.2.long

pub returns : goal.returns
returns c =
    let l = c in
    let s = l in
    rewrites-law s.args.ix2 s.args.link1_ix s.args.link2_ix s.args.ix1 refl (turns-end _ _ _ l.loop-i.invariant.2 c.loop-i-test.false)
