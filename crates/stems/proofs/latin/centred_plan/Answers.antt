-- `stems::latin::centred_plan` meets its contract.
use mathlib.Core.Path.{◌≡◌, ◌∙◌}
use mathlib.Core.Bool.{true, false}
use mir.Syntax.{w32}
use mir.Val.{to_z, of_z}
use Rattle.signed.proofs.Signed.{is, got}
use Rattle.axis.specs.declared.kinds.Mark.TheVariants.{Stem}
use Rattle.stems_latin.specs.Latin.{anchored_first, anchored_second}
use Rattle.stems.specs.declared.kinds.Second.TheVariants.{Fixed}
use Rattle.signed.proofs.By.{by₃}
use borrow.Author.Rules.{rules}
use Rattle.stems.proofs.latin.centred_plan.Goals as goal
use Rattle.stems.proofs.latin.centred_plan.Goals.{After-anchored_first-first, After-anchored_second-second}

pub anchored_second-second-requires : goal.anchored_second-second-requires
anchored_second-second-requires c =
    record {
      between = search rules;
      first_value = is (got w32 c.anchored_first-first.result c.anchored_first-first.type_inv) ∙ c.anchored_first-first.ensures;
    }

-- the positions, read back
first_is : (c : After-anchored_first-first)
    → to_z w32 (of_z w32 c.anchored_first-first.result) ≡ anchored_first c.args.start c.args.org_len c.args.width
first_is c =
    let f = c.ranges in
    is (got w32 c.anchored_first-first.result c.anchored_first-first.type_inv)
    ∙ by₃ anchored_first c.anchored_first-first.ensures (is f.start) (is f.org_len) (is f.width)

second_is : (c : After-anchored_second-second)
    → to_z w32 (of_z w32 c.anchored_second-second.result) ≡ anchored_second c.args.start c.args.org_len
    c.args.width
second_is c =
    let f = c.ranges in
    is (got w32 c.anchored_second-second.result c.anchored_second-second.type_inv)
    ∙ by₃ anchored_second c.anchored_second-second.ensures (is f.start) (is f.org_len) (is f.width)

pub returns : goal.returns
returns c =
    λ i. record {
      first = first_is c.before i;
      mark = Stem;
      second = Fixed (second_is c i);
      bounded = true;
      anchors = false;
      trail = c.args.trail;
    }
