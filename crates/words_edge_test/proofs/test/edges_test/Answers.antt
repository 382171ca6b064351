-- `words_edge_test::test::edges_test` meets its contract.
use mathlib.Core.Path.{refl, sym, ◌∙◌}
use mathlib.Core.Bool.{true, ◌&&◌}
use Rattle.refusals.specs.Outcome.{answer_of}
use Rattle.words_edge_test.proofs.Answers.{none-own, held-tested}
use Rattle.words_edge_test.proofs.test.edges_test.Goals as goal

pub returns-then-edges_hold : goal.returns-then-edges_hold
returns-then-edges_hold c =
    let own = sym (none-own c.args.own) ∙ sym c.is_ok.ensures.value ∙ c.if-is_ok.true in
    held-tested c.args.words.now c.args.others (answer_of c.args.own) c.args.named c.args.passed (c.edges_hold.ensures c.if-edges_hold.true) true
    (λ i. (sym c.if-others.true i && sym own i) && (sym c.if-named.true i && sym c.if-passed.true i)) refl
