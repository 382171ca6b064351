-- `remaining_pass_words::pass::visit_in` meets its contract.
use mathlib.Core.Path.{◌≡◌, sym, ap, ◌∙◌}
use mathlib.Core.Bool.{false}
use borrow.Author.Tests.{not-true, not-false}
use mir.Syntax.{w32, w64}
use mir.Val.{to_z, of_z, SFits}
use Rattle.signed.specs.Range.{Between}
use Rattle.signed.proofs.Signed.{is, got, fits-in}
use Rattle.axis.specs.Limits.{most_pos}
use Rattle.axis.specs.Refusals.{within}
use Rattle.axis.specs.Edge.{edge_at}
use Rattle.axis.proofs.Acceptance.{within-between}
use Rattle.words_call.specs.Lent.{edges_of}
use Rattle.remaining_pass_words.proofs.Visits.{visited-behind, visited-done, visited-beyond, visited-stored}
use borrow.Author.Rules.{rules}
use Rattle.remaining_pass_words.proofs.pass.visit_in.Goals as goal

pub returns-then-past : goal.returns-then-past
returns-then-past c = visited-behind c.args.round c.args.words.now c.args.past c.args.i c.requires.whole c.if-past.true

pub is_done-requires : goal.is_done-requires
is_done-requires c = (c.requires.whole, c.requires.below)

pub returns-then-is_done : goal.returns-then-is_done
returns-then-is_done c = visited-done c.args.round c.args.words.now c.args.past c.args.i c.requires.whole (sym c.is_done.ensures ∙ c.if-is_done.true)

pub plan_for-plan-requires : goal.plan_for-plan-requires
plan_for-plan-requires c = c.requires

pub returns-then-not-pos_holds : goal.returns-then-not-pos_holds
returns-then-not-pos_holds c =
    let not_done : (edge_at (edges_of c.args.words.now) c.args.i).flags.done ≡ false =
    sym c.is_done.ensures ∙ c.if-is_done.false in
    let pos-read : to_z w64 (of_z w64 c.plan_for-plan.result.pos) ≡ c.plan_for-plan.result.pos =
    is (got w64 _ c.struct_told-1.given.0.1) in
    visited-beyond c.args.round c.args.words.now c.args.past c.args.i c.requires.whole c.if-past.false not_done
    c.plan_for-plan.ensures
    (sym (c.pos_holds.ensures ∙ ap (within most_pos) pos-read) ∙ c.if-not-pos_holds.true) c.as_beyond.ensures

pub overflow_cast-pos : goal.overflow_cast-pos
overflow_cast-pos c =
    let pos-read : to_z w64 (of_z w64 c.plan_for-plan.result.pos) ≡ c.plan_for-plan.result.pos =
    is (got w64 _ c.struct_told-1.given.0.1) in
    let held : Between most_pos most_pos c.plan_for-plan.result.pos =
    within-between most_pos _ (sym (c.pos_holds.ensures ∙ ap (within most_pos) pos-read) ∙ c.if-not-pos_holds.false) in
    rw pos-read (fits-in w32 held tt tt)

pub store_in-requires : goal.store_in-requires
store_in-requires c =
    let pos-read : to_z w64 (of_z w64 c.plan_for-plan.result.pos) ≡ c.plan_for-plan.result.pos =
    is (got w64 _ c.struct_told-1.given.0.1) in
    let held : Between most_pos most_pos c.plan_for-plan.result.pos =
    within-between most_pos _ (sym (c.pos_holds.ensures ∙ ap (within most_pos) pos-read) ∙ c.if-not-pos_holds.false) in
    let fit : SFits w32 (to_z w64 (of_z w64 c.plan_for-plan.result.pos)) = rw pos-read (fits-in w32 held tt tt) in
    let r = c.requires in
    (r.whole, r.axis, r.below, rw (is fit, pos-read) held)

pub returns : goal.returns
returns c =
    let not_done : (edge_at (edges_of c.args.words.now) c.args.i).flags.done ≡ false =
    sym c.is_done.ensures ∙ c.if-is_done.false in
    let pos-read : to_z w64 (of_z w64 c.plan_for-plan.result.pos) ≡ c.plan_for-plan.result.pos =
    is (got w64 _ c.struct_told-1.given.0.1) in
    let held : Between most_pos most_pos c.plan_for-plan.result.pos =
    within-between most_pos _ (sym (c.pos_holds.ensures ∙ ap (within most_pos) pos-read) ∙ c.if-not-pos_holds.false) in
    let fit : SFits w32 (to_z w64 (of_z w64 c.plan_for-plan.result.pos)) = rw pos-read (fits-in w32 held tt tt) in
    visited-stored c.args.round c.args.words.now c.args.past c.args.i c.requires.whole c.if-past.false not_done
    c.plan_for-plan.ensures
    (sym (c.pos_holds.ensures ∙ ap (within most_pos) pos-read) ∙ c.if-not-pos_holds.false) (is fit ∙ pos-read) c.store_in.ensures
