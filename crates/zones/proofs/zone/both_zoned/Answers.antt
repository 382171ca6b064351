-- `zones::zone::both_zoned` meets its contract.
use Rattle.std.specs.Prelude.{None, Some}
use Rattle.std.specs.Option.{is_some}
use mathlib.Core.Path.{◌≡◌, refl, sym, ◌∙◌}
use Rattle.axis.specs.Link.{Link, is_linked}
use Rattle.zones.specs.Steps.{both_zoned}
use Rattle.zones.proofs.zone.both_zoned.Goals as goal

some-linked : (l : Link) → is_some l ≡ is_linked l
some-linked None = refl
some-linked (Some k) = refl

pub returns-then-has_blue : goal.returns-then-has_blue
unfolding both_zoned
returns-then-has_blue c =
    rw (sym (some-linked _) ∙ sym c.is_some.ensures ∙ c.if-is_some.true, sym c.has_blue.ensures ∙ c.if-has_blue.true) c.has_blue-then-has_blue.ensures

pub returns-else-has_blue : goal.returns-else-has_blue
unfolding both_zoned
returns-else-has_blue c = rw (sym (some-linked _) ∙ sym c.is_some.ensures ∙ c.if-is_some.true, sym c.has_blue.ensures ∙ c.if-has_blue.false)

pub returns-else-is_some : goal.returns-else-is_some
unfolding both_zoned
returns-else-is_some c = rw (sym (some-linked _) ∙ sym c.is_some.ensures ∙ c.if-is_some.false)
