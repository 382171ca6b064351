-- `words_segment_test::test::segments_test` meets its contract.
use mathlib.Core.Path.{refl, sym, ◌∙◌}
use mathlib.Core.Bool.{true, ◌&&◌}
use Rattle.refusals.specs.Outcome.{answer_of}
use Rattle.words_edge_test.proofs.Answers.{none-own}
use Rattle.words_segment_test.proofs.Answers.{held-tested}
use Rattle.words_segment_test.proofs.test.segments_test.Goals as goal

pub returns-then-segments_hold : goal.returns-then-segments_hold
returns-then-segments_hold c =
    let own = sym (none-own c.args.own) ∙ sym c.is_ok.ensures.value ∙ c.if-is_ok.true in
    held-tested c.args.words.now c.args.room c.args.others (answer_of c.args.own) c.args.nexts c.args.passed (c.segments_hold.ensures c.if-segments_hold.true) true
    (λ i. (sym c.if-room.true i && sym c.if-others.true i) && (sym own i && sym c.if-passed.true i)) refl
