-- `stems_words::lend::lend_stems` meets its contract.
use mathlib.Core.Path.{◌≡◌, refl, sym, ap, subst, ◌∙◌}
use Prim.Native.Nat.{ℕ, ◌<◌}
use mathlib.Core.Bool.{not, ◌&&◌}
use mir.Syntax.{w32}
use mir.Val.{to_z, of_z}
use lib.IntN.{pos}
use Rattle.signed.proofs.Signed.{is}
use Rattle.signed.proofs.By.{by₂, by₃}
use Rattle.refusals.specs.Outcome.{answer_of}
use Rattle.refusals.proofs.Tests.{none-tested}
use Rattle.refusals.proofs.Outcomes.{number-above, exit-answer, then-last}
use Rattle.signed.proofs.Choices.{clash}
use Rattle.words.specs.Field.{choice_of, dimension_of, group_of, rule_of}
use Rattle.words.proofs.Fields.{kept}
use Rattle.words_shape.specs.Shape.{choice}
use Rattle.words_call.specs.Lent.{both_in, choices, named_anchor}
use Rattle.words_call.proofs.Counting.{count-is}
use Rattle.stems_words.proofs.Passes.{passed-few}
use Rattle.stems_words.proofs.Lending.{TestedStems, and-answer, stems-ready, stems-refused, stems-done}
use native.Mathlib.Omega.{arith}
use borrow.Author.Rules.{rules}
use Rattle.words_edge_test.proofs.Answers.{second-asked, first-fails}
use Rattle.stems_words.proofs.lend.lend_stems.Goals.{then-are_choices, else-are_choices}
use Rattle.stems_words.proofs.lend.lend_stems.Goals as goal

pub returns-in_err-edges_test : goal.returns-in_err-edges_test
returns-in_err-edges_test c =
    let found : (let a = c.args in
    TestedStems a.edges.now a.dim a.group a.stem_adjust a.top_to_bottom a.anchor a.rule a.standards.now
    c.rule_of-width.result c.named_anchor-start.result (answer_of c.from_residual.result)) = let turned = ap not (c.choice_of.ensures ∙ ap choice_of (is c.ranges.top_to_bottom)) in
    record {
      own = answer_of c.and-own.result;
      others = c.if-are_choices.others;
      named = c.link_holds-named.result;
      width_is = c.rule_of-width.ensures ∙ ap rule_of (is c.ranges.rule);
      start_is = c.named_anchor-start.ensures ∙ ap named_anchor (is c.ranges.anchor);
      own_is =
          record {
            refused = and-answer _ c.require.result (record { refused = then-last none-tested c.require-order.ensures turned; numbers = refl }) c.require.ensures c.rule_holds.ensures c.and-own.ensures;
            numbers = refl;
          };
      others_are =
          let first = by₃ choices c.are_choices.ensures (is c.ranges.dim) (is c.ranges.group) (is c.ranges.stem_adjust) in
          elim c.if-are_choices.branch [
            | then-are_choices w ↦ second-asked w.if-are_choices.true w.others-is first
                (by₂ (both_in choice) w.both_in-others.ensures (is c.ranges.top_to_bottom) (is c.ranges.rule))
            | else-are_choices w ↦ first-fails (both_in choice c.args.top_to_bottom c.args.rule) w.if-are_choices.false w.others-is first
          ];
      named_is = c.link_holds-named.ensures;
      answer = exit-answer _ _ c.from_residual.ensures.1 ∙ c.in_err-edges_test.ensures;
    } in
    let a = c.args in
    stems-refused a.edges.now a.dim a.group a.stem_adjust a.top_to_bottom a.anchor a.rule a.standards.now
    (a.count.now, a.found.now) found (subst (λ (k : ℕ). 0 < k) (sym (exit-answer _ _ c.from_residual.ensures.1)) (number-above _))

pub stems_in-passed-requires : goal.stems_in-passed-requires
stems_in-passed-requires c =
    let found : (let a = c.args in
    TestedStems a.edges.now a.dim a.group a.stem_adjust a.top_to_bottom a.anchor a.rule a.standards.now
    c.rule_of-width.result c.named_anchor-start.result 0) = let turned = ap not (c.choice_of.ensures ∙ ap choice_of (is c.ranges.top_to_bottom)) in
    record {
      own = answer_of c.and-own.result;
      others = c.if-are_choices.others;
      named = c.link_holds-named.result;
      width_is = c.rule_of-width.ensures ∙ ap rule_of (is c.ranges.rule);
      start_is = c.named_anchor-start.ensures ∙ ap named_anchor (is c.ranges.anchor);
      own_is =
          record {
            refused = and-answer _ c.require.result (record { refused = then-last none-tested c.require-order.ensures turned; numbers = refl }) c.require.ensures c.rule_holds.ensures c.and-own.ensures;
            numbers = refl;
          };
      others_are =
          let first = by₃ choices c.are_choices.ensures (is c.ranges.dim) (is c.ranges.group) (is c.ranges.stem_adjust) in
          elim c.if-are_choices.branch [
            | then-are_choices w ↦ second-asked w.if-are_choices.true w.others-is first
                (by₂ (both_in choice) w.both_in-others.ensures (is c.ranges.top_to_bottom) (is c.ranges.rule))
            | else-are_choices w ↦ first-fails (both_in choice c.args.top_to_bottom c.args.rule) w.if-are_choices.false w.others-is first
          ];
      named_is = c.link_holds-named.ensures;
      answer = c.in_ok-edges_test.ensures;
    } in
    let a = c.args in
    let r =
    stems-ready a.edges.now a.dim a.group a.stem_adjust a.top_to_bottom a.anchor a.rule a.standards.now
    (a.count.now, a.found.now) found (omega arith) in
    record {
      standards_value = r.right;
      whole = (r.words.0, r.words.1, r.words.2, record { settled = λ e. absurd (clash _ e refl) });
    }

pub returns : goal.returns
returns c =
    let found : (let a = c.args in
    TestedStems a.edges.now a.dim a.group a.stem_adjust a.top_to_bottom a.anchor a.rule a.standards.now
    c.rule_of-width.result c.named_anchor-start.result 0) = let turned = ap not (c.choice_of.ensures ∙ ap choice_of (is c.ranges.top_to_bottom)) in
    record {
      own = answer_of c.and-own.result;
      others = c.if-are_choices.others;
      named = c.link_holds-named.result;
      width_is = c.rule_of-width.ensures ∙ ap rule_of (is c.ranges.rule);
      start_is = c.named_anchor-start.ensures ∙ ap named_anchor (is c.ranges.anchor);
      own_is =
          record {
            refused = and-answer _ c.require.result (record { refused = then-last none-tested c.require-order.ensures turned; numbers = refl }) c.require.ensures c.rule_holds.ensures c.and-own.ensures;
            numbers = refl;
          };
      others_are =
          let first = by₃ choices c.are_choices.ensures (is c.ranges.dim) (is c.ranges.group) (is c.ranges.stem_adjust) in
          elim c.if-are_choices.branch [
            | then-are_choices w ↦ second-asked w.if-are_choices.true w.others-is first
                (by₂ (both_in choice) w.both_in-others.ensures (is c.ranges.top_to_bottom) (is c.ranges.rule))
            | else-are_choices w ↦ first-fails (both_in choice c.args.top_to_bottom c.args.rule) w.if-are_choices.false w.others-is first
          ];
      named_is = c.link_holds-named.ensures;
      answer = c.in_ok-edges_test.ensures;
    } in
    let count-word-is : to_z w32 (of_z w32 c.count_word.result) ≡ pos c.stems_in-passed.result.count = let a = c.args in
    let w = c.count_word in
    let r =
    (stems-ready a.edges.now a.dim a.group a.stem_adjust a.top_to_bottom a.anchor a.rule a.standards.now
    (a.count.now, a.found.now) found (omega arith)).words in
    kept w32 w.result w.type_inv ∙ w.ensures
    ∙ count-is _ (passed-few r.0 r.1 r.2 c.stems_in-passed.ensures) in
    let a = c.args in
    let w = c.link_word in
    stems-done a.edges.now a.dim a.group a.stem_adjust a.top_to_bottom a.anchor a.rule a.standards.now
    (a.count.now, a.found.now) found (omega arith)
    (c.dimension_of.ensures ∙ ap dimension_of (is c.ranges.dim)) (c.group_of.ensures ∙ ap group_of (is c.ranges.group))
    (c.choice_of-2.ensures ∙ ap choice_of (is c.ranges.stem_adjust)) c.stems_in-passed.ensures count-word-is (kept w32 w.result w.type_inv ∙ w.ensures)
