-- `remaining_words::lend::lend_remaining` meets its contract.
use mathlib.Core.Path.{◌≡◌, refl, sym, ap, subst, ◌∙◌}
use mathlib.Core.Bool.{false, ◌&&◌}
use Prim.Native.Nat.{ℕ, ◌<◌}
use native.Mathlib.Omega.{arith}
use mir.Syntax.{w32}
use Rattle.signed.specs.Parts.{up}
use Rattle.signed.proofs.Signed.{is}
use Rattle.signed.proofs.By.{by₂}
use Rattle.refusals.specs.Outcome.{answer_of}
use Rattle.refusals.proofs.Outcomes.{number-above, exit-answer}
use Rattle.words.specs.Field.{group_of}
use Rattle.words.proofs.Fields.{kept}
use Rattle.words_shape.specs.Shape.{is_in, choice, index}
use Rattle.words_call.specs.Lent.{both_in, named_anchor}
use Rattle.remaining.specs.Remaining.{begun}
use Rattle.remaining_words.proofs.Lending.{TestedRemaining, remaining-ready, remaining-refused, remaining-beyond, remaining-done}
use borrow.Author.Rules.{rules}
use Rattle.words_edge_test.proofs.Answers.{second-asked, first-fails}
use Rattle.remaining_words.proofs.lend.lend_remaining.Goals.{then-both_in, else-both_in}
use Rattle.remaining_words.proofs.lend.lend_remaining.Goals as goal

pub returns-in_err-edges_test : goal.returns-in_err-edges_test
returns-in_err-edges_test c =
    let found : TestedRemaining c.args.edges.now c.args.dim c.args.group c.args.count c.args.anchor c.named_anchor-start.result (answer_of c.from_residual.result) =
    record {
      others = c.if-both_in.others;
      named = c.link_holds-named.result;
      start_is = c.named_anchor-start.ensures ∙ ap named_anchor (is c.ranges.anchor);
      others_are =
          let choices = by₂ (both_in choice) c.both_in.ensures (is c.ranges.dim) (is c.ranges.group) in
          elim c.if-both_in.branch [
            | then-both_in w ↦ second-asked w.if-both_in.true w.others-is choices (w.is_in-others.ensures ∙ ap (is_in index) (is c.ranges.count))
            | else-both_in w ↦ first-fails (is_in index c.args.count) w.if-both_in.false w.others-is choices
          ];
      named_is = c.link_holds-named.ensures;
      answer = exit-answer _ _ c.from_residual.ensures.1 ∙ c.in_err-edges_test.ensures;
    } in
    let a = c.args in
    remaining-refused a.edges.now a.dim a.group a.count a.anchor a.found.now found (subst (λ (k : ℕ). 0 < k) (sym (exit-answer _ _ c.from_residual.ensures.1)) (number-above _))

pub align_copied-past-requires : goal.align_copied-past-requires
align_copied-past-requires c =
    let found : TestedRemaining c.args.edges.now c.args.dim c.args.group c.args.count c.args.anchor c.named_anchor-start.result 0 =
    record {
      others = c.if-both_in.others;
      named = c.link_holds-named.result;
      start_is = c.named_anchor-start.ensures ∙ ap named_anchor (is c.ranges.anchor);
      others_are =
          let choices = by₂ (both_in choice) c.both_in.ensures (is c.ranges.dim) (is c.ranges.group) in
          elim c.if-both_in.branch [
            | then-both_in w ↦ second-asked w.if-both_in.true w.others-is choices (w.is_in-others.ensures ∙ ap (is_in index) (is c.ranges.count))
            | else-both_in w ↦ first-fails (is_in index c.args.count) w.if-both_in.false w.others-is choices
          ];
      named_is = c.link_holds-named.ensures;
      answer = c.in_ok-edges_test.ensures;
    } in
    let a = c.args in
    remaining-ready a.edges.now a.dim a.group a.count a.anchor a.found.now found (omega arith) refl

pub returns-then-past : goal.returns-then-past
returns-then-past c =
    let found : TestedRemaining c.args.edges.now c.args.dim c.args.group c.args.count c.args.anchor c.named_anchor-start.result 0 =
    record {
      others = c.if-both_in.others;
      named = c.link_holds-named.result;
      start_is = c.named_anchor-start.ensures ∙ ap named_anchor (is c.ranges.anchor);
      others_are =
          let choices = by₂ (both_in choice) c.both_in.ensures (is c.ranges.dim) (is c.ranges.group) in
          elim c.if-both_in.branch [
            | then-both_in w ↦ second-asked w.if-both_in.true w.others-is choices (w.is_in-others.ensures ∙ ap (is_in index) (is c.ranges.count))
            | else-both_in w ↦ first-fails (is_in index c.args.count) w.if-both_in.false w.others-is choices
          ];
      named_is = c.link_holds-named.ensures;
      answer = c.in_ok-edges_test.ensures;
    } in
    let group_is : c.group_of.result ≡ group_of c.args.group = c.group_of.ensures ∙ ap group_of (is c.ranges.group) in
    let begun-is : ◌≡◌ (record { anchor = c.named_anchor-start.result; count = c.size_of.result; beyond = false }) (begun (up c.args.count) (named_anchor c.args.anchor)) =
    λ j. begun ((c.size_of.ensures ∙ ap up (is c.ranges.count)) j) (found.start_is j) in
    let a = c.args in
    remaining-beyond a.edges.now a.dim a.group a.count a.anchor a.found.now found (omega arith) group_is begun-is
    c.align_copied-past.ensures c.if-past.true

pub returns : goal.returns
returns c =
    let found : TestedRemaining c.args.edges.now c.args.dim c.args.group c.args.count c.args.anchor c.named_anchor-start.result 0 =
    record {
      others = c.if-both_in.others;
      named = c.link_holds-named.result;
      start_is = c.named_anchor-start.ensures ∙ ap named_anchor (is c.ranges.anchor);
      others_are =
          let choices = by₂ (both_in choice) c.both_in.ensures (is c.ranges.dim) (is c.ranges.group) in
          elim c.if-both_in.branch [
            | then-both_in w ↦ second-asked w.if-both_in.true w.others-is choices (w.is_in-others.ensures ∙ ap (is_in index) (is c.ranges.count))
            | else-both_in w ↦ first-fails (is_in index c.args.count) w.if-both_in.false w.others-is choices
          ];
      named_is = c.link_holds-named.ensures;
      answer = c.in_ok-edges_test.ensures;
    } in
    let group_is : c.group_of.result ≡ group_of c.args.group = c.group_of.ensures ∙ ap group_of (is c.ranges.group) in
    let begun-is : ◌≡◌ (record { anchor = c.named_anchor-start.result; count = c.size_of.result; beyond = false }) (begun (up c.args.count) (named_anchor c.args.anchor)) =
    λ j. begun ((c.size_of.ensures ∙ ap up (is c.ranges.count)) j) (found.start_is j) in
    let a = c.args in
    let w = c.link_word in
    remaining-done a.edges.now a.dim a.group a.count a.anchor a.found.now found (omega arith) group_is begun-is
    c.align_copied-past.ensures c.if-past.false
    (kept w32 w.result w.type_inv ∙ w.ensures)
