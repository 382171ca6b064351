-- `lowercase_m_words::lend::lend_m` meets its contract.
use mathlib.Core.Path.{ap, ◌∙◌}
use mathlib.Core.Bool.{Bool}
use native.Mathlib.Omega.{arith}
use Rattle.refusals.proofs.Outcomes.{number-above, exit-answer}
use Rattle.signed.proofs.Signed.{is}
use Rattle.refusals.specs.Refusal.{bad_parameter, or_refused}
use Rattle.lowercase_m.specs.M.{count_holds}
use Rattle.words.specs.Field.{group_of}
use Rattle.words_shape.specs.Shape.{is_in, choice}
use Rattle.lowercase_m_words.proofs.Lending.{own-is, m-ready, m-refused, m-done}
use Rattle.lowercase_m_words.proofs.lend.lend_m.Goals as goal

pub returns-in_err-edges_test : goal.returns-in_err-edges_test
returns-in_err-edges_test c =
    let own = own-is _ _ c.require-own.ensures ∙ ap (λ (t : Bool). or_refused 0 t bad_parameter) c.count_holds.ensures in
    let choice-is = c.is_in.ensures ∙ ap (is_in choice) (is c.ranges.group) in
    rw (exit-answer _ _ c.from_residual.ensures.1)
    (m-refused c.args.edges.now c.args.group own choice-is c.in_err-edges_test.ensures (number-above _))

pub m_in-requires : goal.m_in-requires
m_in-requires c =
    let own = own-is _ _ c.require-own.ensures ∙ ap (λ (t : Bool). or_refused 0 t bad_parameter) c.count_holds.ensures in
    let choice-is = c.is_in.ensures ∙ ap (is_in choice) (is c.ranges.group) in
    let a = m-ready c.args.edges.now c.args.group own choice-is c.in_ok-edges_test.ensures (omega arith) in
    (a.whole, a.axis, a.count)

pub returns : goal.returns
returns c =
    let own = own-is _ _ c.require-own.ensures ∙ ap (λ (t : Bool). or_refused 0 t bad_parameter) c.count_holds.ensures in
    let choice-is = c.is_in.ensures ∙ ap (is_in choice) (is c.ranges.group) in
    m-done c.args.edges.now c.args.group own choice-is c.in_ok-edges_test.ensures (omega arith)
    (c.group_of.ensures ∙ ap group_of (is c.ranges.group)) _ c.m_in.ensures
