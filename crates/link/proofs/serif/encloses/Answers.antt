-- `link::serif::encloses` meets its contract: its tests stand in their order.
use mathlib.Core.Path.{sym, ◌∙◌}
use Rattle.link.specs.Pairs as P
use Rattle.link.proofs.serif.encloses.Goals as goal

pub returns-then-not-starts_outside : goal.returns-then-not-starts_outside
unfolding P.encloses
returns-then-not-starts_outside c = rw (sym c.starts_outside.ensures ∙ c.if-not-starts_outside.true)

pub returns-then-not-ends_outside : goal.returns-then-not-ends_outside
unfolding P.encloses
returns-then-not-ends_outside c =
    let else1 = c in
    let starts-outside = else1 in
    rw (sym starts-outside.starts_outside.ensures ∙ else1.if-not-starts_outside.false, sym c.ends_outside.ensures ∙ c.if-not-ends_outside.true)

pub returns-then-coincide : goal.returns-then-coincide
unfolding P.encloses
returns-then-coincide c =
    let else2 = c in
    let ends-outside = else2 in
    let else1 = ends-outside in
    let starts-outside = else1 in
    rw (
      sym starts-outside.starts_outside.ensures ∙ else1.if-not-starts_outside.false,
      sym ends-outside.ends_outside.ensures
          ∙ else2.if-not-ends_outside.false,
      sym c.coincide.ensures ∙ c.if-coincide.true,
    )

pub little_worse-requires : goal.little_worse-requires
little_worse-requires c =
    let start = c in
    start.requires

pub returns : goal.returns
unfolding P.encloses
returns c =
    let coincide = c in
    let else2 = coincide in
    let ends-outside = else2 in
    let else1 = ends-outside in
    let starts-outside = else1 in
    rw (
      sym starts-outside.starts_outside.ensures ∙ else1.if-not-starts_outside.false,
      sym ends-outside.ends_outside.ensures
          ∙ else2.if-not-ends_outside.false,
      sym coincide.coincide.ensures ∙ c.if-coincide.false,
    ) c.little_worse.ensures
