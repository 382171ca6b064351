-- `link_words::pair::pair_round_in` meets its contract.
use mathlib.Core.Path.{refl}
use Prim.Native.Nat.{◌-◌}
use native.Mathlib.Omega.{arith}
use Rattle.axis.specs.Accepted.{SegmentsWithin}
use Rattle.link.specs.Rounds.{major_turn}
use Rattle.words.specs.Segment.{flat_segments}
use Rattle.link_words.proofs.Turns.{Turned, turns-start, turns-counted, turns-end}
use Rattle.link_words.proofs.Pairs.{pairs-law}
use Rattle.link_words.proofs.pair.pair_round_in.Goals as goal

pub loop-ix1-init : goal.loop-ix1-init
loop-ix1-init c = (turns-start _ _ c.args.words.now c.requires.0.whole refl, c.requires.0.within)

pub major_in-requires : goal.major_in-requires
major_in-requires c =
    let l = c in
    let p = l.loop-ix1.invariant in
    let h = c.loop-ix1-test.true in
    (record { whole = p.0.whole; within = p.1 }, omega (arith, p.0.count, h), l.requires.1)

pub overflow_step-ix1 : goal.overflow_step-ix1
overflow_step-ix1 c = let p = c.loop-ix1.invariant in let h = c.loop-ix1-test.true in omega (arith, p.0.few, h)

pub loop-ix1-smaller : goal.loop-ix1-smaller
loop-ix1-smaller c = let h = c.loop-ix1-test.true in omega (arith, h)

pub loop-ix1-preserved : goal.loop-ix1-preserved
loop-ix1-preserved c =
    let i = c in
    let l = i in
    let s = l in
    let m = c.major_in.ensures in
    (turns-counted (major_turn s.args.major_dir s.args.thresholds) l.loop-ix1.invariant.0 i.loop-ix1-test.true m.became, m.within)

pub shape_of-words : goal.shape_of-words
shape_of-words c = c.loop-ix1.invariant.0.long

pub returns : goal.returns
returns c =
    let l = c in
    let s = l in
    record {
      became = pairs-law s.args.major_dir s.args.thresholds refl (turns-end _ _ _ l.loop-ix1.invariant.0 c.loop-ix1-test.false);
      within = l.loop-ix1.invariant.1;
    }
