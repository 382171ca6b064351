-- `weak_known::contour::show_two` meets its contract.
use native.Mathlib.Omega.{arith}
use mathlib.Core.Path.{◌≡◌, ◌∙◌}
use Rattle.weak_known.specs.Walks.{first_shown, last_shown}
use Rattle.weak_known.proofs.Fitting.{two-low, two-same, two-rest}
use Rattle.weak_known.proofs.contour.show_two.Goals as goal

pub returns-then-first-s : goal.returns-then-first-s
returns-then-first-s c =
    let first_is : c.from-first.result ≡ first_shown c.args.behind.now c.args.s = c.from-first.ensures ∙ c.shown.ensures in
    two-low _ _ _ _ _ first_is c.if-first-s.true

pub returns-then-last-first : goal.returns-then-last-first
returns-then-last-first c =
    let first_is : c.from-first.result ≡ first_shown c.args.behind.now c.args.s = c.from-first.ensures ∙ c.shown.ensures in
    let last_is : c.from-last.result ≡ last_shown c.args.before.now c.args.e = c.from-last.ensures ∙ c.shown-2.ensures in
    two-same _ _ _ _ _ _ first_is last_is (omega (arith, c.if-first-s.false)) c.if-last-first.true

pub returns : goal.returns
returns c =
    let first_is : c.from-first.result ≡ first_shown c.args.behind.now c.args.s = c.from-first.ensures ∙ c.shown.ensures in
    let last_is : c.from-last.result ≡ last_shown c.args.before.now c.args.e = c.from-last.ensures ∙ c.shown-2.ensures in
    two-rest _ _ _ _ _ _ first_is last_is (omega (arith, c.if-first-s.false)) (omega (arith, c.if-last-first.false))
