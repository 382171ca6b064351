-- `build_join::rules::is_passed_over` meets its contract: its tests stand in their order.
use mathlib.Core.Path.{◌≡◌, sym, ap, ◌∙◌}
use mathlib.Core.Bool.{false, not}
use lib.Signed.{lt_z}
use Rattle.axis.proofs.Equal.{same-directions}
use mir.Syntax.{w32}
use Rattle.build_join.proofs.Passing as P
use Rattle.build_join.proofs.Passing.{linked-some}
use Rattle.signed.proofs.Reading.{back, cast-16, back-16, short-lt, lt-short, short}
use Rattle.build_join.proofs.rules.is_passed_over.Goals as goal

pub overflow_cast-height : goal.overflow_cast-height
overflow_cast-height c = cast-16 c.args.segment.height c.struct_told-1.given.1.1.1.1.1.1.0.1

pub returns-then-height-rules : goal.returns-then-height-rules
returns-then-height-rules c =
    let g = c.args in
    P.too_short g.rules g.segment (short-lt g.segment.height g.rules.length c.struct_told-1.given.1.1.1.1.1.1.0.1
    c.struct_told-2-1.given.1.1.1.1.1.0.1 c.if-height-rules.true)

pub overflow_cast-segment : goal.overflow_cast-segment
overflow_cast-segment c =
    cast-16 c.args.segment.delta c.struct_told-3-1.given.1.1.1.0.1

pub returns-then-rules-segment : goal.returns-then-rules-segment
returns-then-rules-segment c =
    let long : lt_z c.args.segment.height c.args.rules.length ≡ false =
    let g = c.args in
    short-lt g.segment.height g.rules.length c.struct_told-1.given.1.1.1.1.1.1.0.1 c.struct_told-2-1.given.1.1.1.1.1.0.1
    c.if-height-rules.false in
    let g = c.args in
    P.too_wide g.rules g.segment long (lt-short g.segment.delta g.rules.width c.struct_told-3-1.given.1.1.1.0.1
    c.struct_told-4-1.given.1.1.1.1.1.1.0.1 c.if-rules-segment.true)

pub returns-then-eq : goal.returns-then-eq
returns-then-eq c =
    let long : lt_z c.args.segment.height c.args.rules.length ≡ false =
    let g = c.args in
    short-lt g.segment.height g.rules.length c.struct_told-1.given.1.1.1.1.1.1.0.1 c.struct_told-2-1.given.1.1.1.1.1.0.1
    c.if-height-rules.false in
    let narrow : (let g = c.args in lt_z g.rules.width g.segment.delta ≡ false) =
    let g = c.args in
    lt-short g.segment.delta g.rules.width c.struct_told-3-1.given.1.1.1.0.1 c.struct_told-4-1.given.1.1.1.1.1.1.0.1
    c.if-rules-segment.false in
    P.no-direction _ _ long narrow (sym (same-directions _ _) ∙ sym c.eq.ensures ∙ c.if-eq.true)

pub returns-then-is_none : goal.returns-then-is_none
returns-then-is_none c =
    let long : lt_z c.args.segment.height c.args.rules.length ≡ false =
    let g = c.args in
    short-lt g.segment.height g.rules.length c.struct_told-1.given.1.1.1.1.1.1.0.1 c.struct_told-2-1.given.1.1.1.1.1.0.1
    c.if-height-rules.false in
    let narrow : (let g = c.args in lt_z g.rules.width g.segment.delta ≡ false) =
    let g = c.args in
    lt-short g.segment.delta g.rules.width c.struct_told-3-1.given.1.1.1.0.1 c.struct_told-4-1.given.1.1.1.1.1.1.0.1
    c.if-rules-segment.false in
    P.no_serif _ _ long narrow (sym (same-directions _ _) ∙ sym c.eq.ensures ∙ c.if-eq.false)
    (linked-some _ ∙ c.is_none.ensures ∙ ap not c.if-is_none.true)

pub is_short_serif-requires : goal.is_short_serif-requires
is_short_serif-requires c =
    let g = c.args in
    record {
      between = rw (back-16 g.segment.height c.struct_told-1.given.1.1.1.1.1.1.0.1)
          (short g.segment.height c.struct_told-1.given.1.1.1.1.1.1.0.1);
      between_2 = rw
          (back w32 g.rules.length c.struct_told-5-1.given.1.1.1.1.1.0.1) c.requires;
    }

pub returns : goal.returns
returns c =
    let long : lt_z c.args.segment.height c.args.rules.length ≡ false =
    let g = c.args in
    short-lt g.segment.height g.rules.length c.struct_told-1.given.1.1.1.1.1.1.0.1 c.struct_told-2-1.given.1.1.1.1.1.0.1
    c.if-height-rules.false in
    let narrow : (let g = c.args in lt_z g.rules.width g.segment.delta ≡ false) =
    let g = c.args in
    lt-short g.segment.delta g.rules.width c.struct_told-3-1.given.1.1.1.0.1 c.struct_told-4-1.given.1.1.1.1.1.1.0.1
    c.if-rules-segment.false in
    let g = c.args in
    P.a-serif _ _ long narrow (sym (same-directions _ _) ∙ sym c.eq.ensures ∙ c.if-eq.false)
    (linked-some _ ∙ c.is_none.ensures ∙ ap not c.if-is_none.false) _
    (rw (
      back-16 g.segment.height c.struct_told-1.given.1.1.1.1.1.1.0.1,
      back w32 g.rules.length
          c.struct_told-5-1.given.1.1.1.1.1.0.1,
    ) at
    c.is_short_serif.ensures)
