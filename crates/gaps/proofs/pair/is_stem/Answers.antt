-- `gaps::pair::is_stem` meets its contract.
use mathlib.Core.Path.{sym, ap, ◌∙◌}
use mathlib.Core.Bool.{Bool, ◌||◌}
use Rattle.axis.specs.Link.{links_to}
use Rattle.axis.proofs.Equal.{option-links}
use Rattle.gaps.proofs.pair.is_stem.Goals as goal

pub returns-then-eq : goal.returns-then-eq
returns-then-eq c = ap (λ (x : Bool). x || links_to c.args.second c.args.i) (sym c.if-eq.true ∙ c.eq.ensures ∙ option-links _ _)

pub returns : goal.returns
returns c =
    c.eq-2.ensures ∙ option-links _ _ ∙ ap (λ (x : Bool). x || links_to c.args.second c.args.i) (sym c.if-eq.false ∙ c.eq.ensures ∙ option-links _ _)
