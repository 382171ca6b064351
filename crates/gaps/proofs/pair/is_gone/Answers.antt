-- `gaps::pair::is_gone` meets its contract: test by test.
use borrow.Author.Rules.{rules}
use mathlib.Core.Path.{refl, sym, ap, ◌∙◌}
use lib.IntN.{pos}
use lib.Signed.{lt_z, le_z}
use mir.Syntax.{w32}
use Rattle.signed.proofs.By.{by₂}
use Rattle.signed.proofs.Signed.{is, got}
use Rattle.gaps.specs.Gaps.{row_from}
use Rattle.gaps.proofs.Losing as Losing
use Rattle.gaps.proofs.pair.is_gone.Goals as goal

pub returns-then-q-p : goal.returns-then-q-p
returns-then-q-p c = let f = c.ranges in Losing.turned _ _ _ (sym (by₂ lt_z (sym c.if-q-p.true) (is f.q) (is f.p)))

pub returns-then-before-gt0 : goal.returns-then-before-gt0
returns-then-before-gt0 c = let f = c.ranges in
    by₂ le_z refl
    (is (got w32 c.row_from.result c.row_from.type_inv) ∙ c.row_from.ensures ∙ ap row_from (is f.q))
    (is (got w32 c.row_from-then-before-gt0.result c.row_from-then-before-gt0.type_inv) ∙ c.row_from-then-before-gt0.ensures ∙ ap row_from (is f.p))
    ∙ Losing.opened _ _ _ (sym (by₂ lt_z (sym c.if-q-p.false) (is f.q) (is f.p))) (sym (sym c.if-before-gt0.true ∙ ap (lt_z (pos 0)) (is f.before)))

pub returns : goal.returns
returns c = let f = c.ranges in
    Losing.kept _ _ _ (sym (by₂ lt_z (sym c.if-q-p.false) (is f.q) (is f.p))) (sym (sym c.if-before-gt0.false ∙ ap (lt_z (pos 0)) (is f.before)))
