-- `fit_back_words::back::points_back` meets its contract.
use native.Mathlib.Omega.{arith}
use mathlib.Core.Path.{sym, ◌∙◌}
use Rattle.edge_points.specs.Steps.{points}
use Rattle.strong.proofs.Told.{told-none, told-above}
use Rattle.fit_back_words.proofs.Putting.{points-went, points-put}
use Rattle.fit_back_words.proofs.back.points_back.Goals as goal

pub returns-then-is_ok : goal.returns-then-is_ok
returns-then-is_ok c =
    let n = told-none c.fit_points-moved.result (sym c.is_ok.ensures.value ∙ c.if-is_ok.true) in points-went c.fit_points-moved.ensures (omega (arith, n))

pub returns : goal.returns
returns c =
    let n = told-above c.fit_points-moved.result (sym c.is_ok.ensures.value ∙ c.if-is_ok.false) in
    points-put c.fit_points-moved.ensures (λ z. omega (arith, n, z))
    (λ j. points ((c.copy-2.ensures ∙ c.copy.ensures) j) ((c.copy_marks-2.ensures ∙ c.copy_marks.ensures) j))
