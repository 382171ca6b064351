-- `words_segment_test::hold::front_holds` meets its contract.
use borrow.Author.Tests.{not-false}
use mathlib.Core.Path.{sym, ◌∙◌}
use Rattle.words_call.proofs.Holding.{clash}
use borrow.Author.Rules.{rules}
use Rattle.words_segment_test.proofs.hold.front_holds.Goals as goal

pub returns-then-not-in_at : goal.returns-then-not-in_at
returns-then-not-in_at c = λ h. absurd (clash h)

pub returns-then-not-in_at-2 : goal.returns-then-not-in_at-2
returns-then-not-in_at-2 c = λ h. absurd (clash h)

pub returns-then-not-in_at-3 : goal.returns-then-not-in_at-3
returns-then-not-in_at-3 c = λ h. absurd (clash h)

pub returns-then-not-in_at-4 : goal.returns-then-not-in_at-4
returns-then-not-in_at-4 c = λ h. absurd (clash h)

pub returns-then-not-in_at-5 : goal.returns-then-not-in_at-5
returns-then-not-in_at-5 c = λ h. absurd (clash h)

pub returns-then-not-in_at-6 : goal.returns-then-not-in_at-6
returns-then-not-in_at-6 c = λ h. absurd (clash h)

pub returns-then-not-in_at-7 : goal.returns-then-not-in_at-7
returns-then-not-in_at-7 c = λ h. absurd (clash h)

pub returns-then-not-in_at-8 : goal.returns-then-not-in_at-8
returns-then-not-in_at-8 c = λ h. absurd (clash h)

pub returns : goal.returns
returns c =
    let e8 = c in
    let a8 = e8 in
    let e7 = a8 in
    let a7 = e7 in
    let e6 = a7 in
    let a6 = e6 in
    let e5 = a6 in
    let a5 = e5 in
    let e4 = a5 in
    let a4 = e4 in
    let e3 = a4 in
    let a3 = e3 in
    let e2 = a3 in
    let a2 = e2 in
    let e1 = a2 in
    let a1 = e1 in
    λ h. record {
      w0 = sym a1.in_at.ensures ∙ e1.if-not-in_at.false;
      w1 = sym a2.in_at-2.ensures ∙ e2.if-not-in_at-2.false;
      w2 = sym a3.in_at-3.ensures ∙ e3.if-not-in_at-3.false;
      w3 = sym a4.in_at-4.ensures ∙ e4.if-not-in_at-4.false;
      w4 = sym a5.in_at-5.ensures ∙ e5.if-not-in_at-5.false;
      w5 = sym a6.in_at-6.ensures ∙ e6.if-not-in_at-6.false;
      w6 = sym a7.in_at-7.ensures ∙ e7.if-not-in_at-7.false;
      w7 = sym a8.in_at-8.ensures ∙ e8.if-not-in_at-8.false;
      w8 = sym c.in_at-9.ensures ∙ h;
    }
