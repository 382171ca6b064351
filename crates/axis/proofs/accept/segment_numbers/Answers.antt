-- `axis::accept::segment_numbers` meets its contract.
use mathlib.Core.Path.{ap, ◌∙◌}
use lib.IntN.{pos}
use mir.Syntax.{w32}
use Rattle.signed.proofs.Signed.{is, got}
use Rattle.axis.specs.Limits.{most_score}
use Rattle.axis.specs.Refusals.{inside, segment_numbers}
use Rattle.axis.proofs.Tests.{tested}
use borrow.Author.Rules.{rules}
use Rattle.axis.proofs.accept.segment_numbers.Goals as goal

pub returns-then-is_inside : goal.returns-then-is_inside
unfolding segment_numbers
returns-then-is_inside c =
    let o = c in
    let h = tested (inside (pos 0) (pos most_score)) o.args.segment.score _ _ _
    (is (got w32 _ o.struct_told-1.given.1.1.1.1.1.1.1.0.1)) o.is_inside.ensures o.if-is_inside.true in
    rw h (c.is_inside-then-is_inside.ensures ∙ ap (inside (pos 0) (pos most_score))
    (is (got w32 o.args.segment.len c.struct_told-then-is_inside-1.given.1.1.1.1.1.1.1.1.0.1)))

pub returns-else-is_inside : goal.returns-else-is_inside
unfolding segment_numbers
returns-else-is_inside c =
    let h = tested (inside (pos 0) (pos most_score)) c.args.segment.score _ _ _
    (is (got w32 _ c.struct_told-1.given.1.1.1.1.1.1.1.0.1)) c.is_inside.ensures c.if-is_inside.false in
    rw h c.if-is_inside.false
