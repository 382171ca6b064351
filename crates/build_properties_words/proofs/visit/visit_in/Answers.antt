-- `build_properties_words::visit::visit_in` meets its contract: each turn is the visit of one segment.
use mathlib.Core.Path.{ap, ◌∙◌}
use native.Mathlib.Omega.{arith}
use lib.ListN.{length}
use mir.Syntax.{w32}
use Rattle.axis.specs.Limits.{most_segments}
use Rattle.axis.specs.Ring.{next_of, walk}
use Rattle.build_properties.proofs.Turns.{Counted}
use Rattle.words.specs.Field.{index_of}
use Rattle.words.specs.Segment.{flat_segments}
use Rattle.words.proofs.Fields.{kept}
use Rattle.build_properties_words.proofs.Rings.{counted-round, counted-straight, Going, going-starts, going-inside, going-short, going-round, going_less, going_on, going-joined, going-ends}
use borrow.Author.Rules.{rules}
use Rattle.build_properties_words.proofs.visit.visit_in.Goals as goal
use Rattle.build_properties_words.proofs.visit.visit_in.Goals.{then-is_round, else-is_round}

pub loop-roundness-init : goal.loop-roundness-init
loop-roundness-init c = let f = c.read_word-2 in
    let l = c.read_word in
    going-starts c.args.segments.now c.args.edges.now c.args.k c.requires.0 c.requires.1 c.requires.2
    (c.index_of-ix.ensures ∙ ap index_of (kept w32 f.result f.type_inv ∙ f.ensures))
    (c.index_of-last.ensures ∙ ap index_of (kept w32 l.result l.type_inv ∙ l.ensures))

pub member_in-requires : goal.member_in-requires
member_in-requires c = let g = c.loop-roundness.invariant in
    (g.whole, g.ready, g.edge, going-inside g, c.requires.3)

pub is_round-requires : goal.is_round-requires
is_round-requires c = going-inside c.loop-roundness.invariant

pub overflow_add-roundness : goal.overflow_add-roundness
overflow_add-roundness c = let g = c.loop-roundness.invariant in omega (arith, going-short g)

pub overflow_add-straightness : goal.overflow_add-straightness
overflow_add-straightness c = let g = c.loop-roundness.invariant in omega (arith, going-short g)

pub end_in-requires : goal.end_in-requires
end_in-requires c =
    let counted : Counted (flat_segments c.args.segments.now) c.loop-roundness.ix c.loop-roundness.roundness c.loop-roundness.straightness c.if-is_round.roundness c.if-is_round.straightness = let e = going-round c.loop-roundness.invariant c.is_round.ensures in
    elim c.if-is_round.branch [
      | then-is_round w ↦ counted-round (e ∙ w.if-is_round.true) w.roundness-is w.straightness-is
      | else-is_round w ↦ counted-straight (e ∙ w.if-is_round.false) w.roundness-is w.straightness-is
    ] in
    going-joined c.loop-roundness.invariant c.member_in.ensures counted

pub returns-then-ix-last : goal.returns-then-ix-last
returns-then-ix-last c =
    let counted : Counted (flat_segments c.args.segments.now) c.loop-roundness.ix c.loop-roundness.roundness c.loop-roundness.straightness c.if-is_round.roundness c.if-is_round.straightness = let e = going-round c.loop-roundness.invariant c.is_round.ensures in
    elim c.if-is_round.branch [
      | then-is_round w ↦ counted-round (e ∙ w.if-is_round.true) w.roundness-is w.straightness-is
      | else-is_round w ↦ counted-straight (e ∙ w.if-is_round.false) w.roundness-is w.straightness-is
    ] in
    going-ends c.loop-roundness.invariant c.member_in.ensures counted c.if-ix-last.true c.end_in.ensures

pub read_next-ix-requires : goal.read_next-ix-requires
read_next-ix-requires c = going-inside c.loop-roundness.invariant

pub loop-roundness-smaller : goal.loop-roundness-smaller
loop-roundness-smaller c = going_less c.loop-roundness.invariant c.if-ix-last.false c.read_next-ix.ensures

pub loop-roundness-preserved : goal.loop-roundness-preserved
loop-roundness-preserved c =
    let counted : Counted (flat_segments c.args.segments.now) c.loop-roundness.ix c.loop-roundness.roundness c.loop-roundness.straightness c.if-is_round.roundness c.if-is_round.straightness = let e = going-round c.loop-roundness.invariant c.is_round.ensures in
    elim c.if-is_round.branch [
      | then-is_round w ↦ counted-round (e ∙ w.if-is_round.true) w.roundness-is w.straightness-is
      | else-is_round w ↦ counted-straight (e ∙ w.if-is_round.false) w.roundness-is w.straightness-is
    ] in
    going_on c.loop-roundness.invariant c.member_in.ensures counted c.if-ix-last.false c.read_next-ix.ensures
