-- `link_words::pair::pairs_in` meets its contract.
use mathlib.Core.Path.{◌≡◌, refl, ap, sym, ◌∙◌}
use Prim.Native.Nat.{◌-◌, ◌<◌}
use native.Mathlib.Omega.{arith}
use lib.IntN.{pos}
use lib.Signed.{◌≤ℤ◌}
use mir.Syntax.{w32}
use mir.Val.{to_z}
use Rattle.signed.proofs.Signed.{is, got}
use Rattle.axis.specs.Accepted.{SegmentsWithin}
use Rattle.axis.specs.Segment.{segment_at}
use Rattle.link.specs.Rounds.{pair_turn}
use Rattle.words.specs.Segment.{flat_segments}
use Rattle.link_words.specs.Linking.{Alike, other_word}
use Rattle.link_words.proofs.Turns.{Turned, turns-start, turns_next, turns-end}
use Rattle.link_words.proofs.Pairs.{made_alike}
use borrow.Author.Rules.{rules}
use Rattle.link_words.proofs.pair.pairs_in.Goals as goal

pub loop-ix2-init : goal.loop-ix2-init
loop-ix2-init c =
    let s = c in (
      s.requires.linkable.1,
      is (got w32 c.other_word-other.result c.other_word-other.type_inv) ∙ c.other_word-other.ensures ∙ ap other_word (sym s.requires.pos_bound.2),
      s.requires.pos_bound.0,
      turns-start _ _ s.args.words.now s.requires.linkable.0.whole refl,
      s.requires.linkable.0.within,
      s.requires.pos_bound.1,
    )

pub pair_in-requires : goal.pair_in-requires
pair_in-requires c =
    let p = c.loop-ix2.invariant in
    let h = c.loop-ix2-test.true in
    record {
      linkable = (record { whole = p.3.whole; within = p.4 }, omega (arith, p.3.count, p.0), omega (arith, p.3.count, h));
      pos_bound = (p.2, p.5, p.1);
    }

pub overflow_step-ix2 : goal.overflow_step-ix2
overflow_step-ix2 c = let p = c.loop-ix2.invariant in let h = c.loop-ix2-test.true in omega (arith, p.3.few, h)

pub loop-ix2-smaller : goal.loop-ix2-smaller
loop-ix2-smaller c = let h = c.loop-ix2-test.true in omega (arith, h)

pub loop-ix2-preserved : goal.loop-ix2-preserved
loop-ix2-preserved c =
    let i = c in
    let l = i in
    let p = l.loop-ix2.invariant in
    let m = c.pair_in.ensures in (
      p.0,
      p.1,
      p.2,
      turns_next _ _ _ p.3 i.loop-ix2-test.true m.became,
      m.within,
      made_alike _ _ _ _ _ m p.5,
    )

pub shape_of-words : goal.shape_of-words
shape_of-words c = c.loop-ix2.invariant.3.long

pub returns : goal.returns
returns c = let p = c.loop-ix2.invariant in record { became = turns-end _ _ _ p.3 c.loop-ix2-test.false; within = p.4 }
