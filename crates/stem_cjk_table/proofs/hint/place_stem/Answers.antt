-- `stem_cjk_table::hint::place_stem` meets its contract.
use mathlib.Core.Path.{◌≡◌, ap, ◌∙◌}
use native.Mathlib.Omega.{arith}
use lib.IntN.{◌+ℤ◌}
use mir.Syntax.{w32}
use mir.Val.{SFits, to_z, of_z}
use Rattle.signed.proofs.Signed.{fits, is, signed}
use Rattle.axis.specs.declared.kinds.Mark.TheVariants.{Stem}
use Rattle.axis.specs.declared.edge.Edge.{Edge}
use Rattle.axis.specs.declared.edge.Axis.{Axis}
use Rattle.axis.specs.Edge.{edge_at, put_edge, placed}
use Rattle.stems_cjk.specs.Cjk.{placed_at, placed_stem}
use borrow.Author.Rules.{rules}
use Rattle.stem_cjk_table.proofs.hint.place_stem.Goals as goal

pub overflow_add-pos : goal.overflow_add-pos
overflow_add-pos c = fits (omega (arith, signed))

pub returns : goal.returns
unfolding placed_stem
returns c =
    let sum-fits : SFits w32 (to_z w32 (of_z w32 c.args.pos) +ℤ to_z w32 (of_z w32 c.args.width)) = fits (omega (arith, signed)) in
    let lower-is : c.with_pos.result ≡ placed (edge_at c.args.axis c.args.lower)
    c.args.pos Stem = rw (is c.ranges.pos) at c.with_pos.ensures in
    let lower_put : Axis = put_edge c.args.axis c.args.lower c.with_pos.result in
    let upper_is : c.with_pos-2.result
    ≡ placed (edge_at lower_put c.args.upper) (c.args.pos +ℤ c.args.width) Stem = rw (is sum-fits, is c.ranges.pos, is c.ranges.width) at c.with_pos-2.ensures in
    (λ i. put_edge lower_put c.args.upper (upper_is i))
    ∙ ap (λ (e : Edge). placed_at (put_edge c.args.axis c.args.lower e) c.args.upper (c.args.pos +ℤ c.args.width)) lower-is
