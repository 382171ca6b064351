-- `build_join_words::read::is_left_out` meets its contract.
use mathlib.Core.Path.{sym, ap, ◌∙◌}
use mathlib.Core.Bool.{Bool, not, ◌&&◌}
use mir.Syntax.{w32}
use Rattle.axis.proofs.Equal.{other-directions}
use Rattle.axis.specs.declared.kinds.Direction.{Direction}
use Rattle.axis.specs.declared.kinds.Direction.TheVariants as Directions
use Rattle.axis.specs.Direction.{same}
use Rattle.words.specs.Field.{direction_of}
use Rattle.words.specs.Segment.{segment_from}
use Rattle.words.proofs.Fields.{kept}
use Rattle.build_join_words.specs.Reading.{segment_in}
use Rattle.build_join_words.proofs.read.is_left_out.Goals as goal

pub returns-then-not-second : goal.returns-then-not-second
returns-then-not-second c =
    let a = c.args in
    ap (λ (b : Bool). b && not (same (segment_in a.words.now a.i).dir Directions.None)) (sym c.if-not-second.true)

pub returns : goal.returns
unfolding segment_from
returns c =
    let a = c.args in
    let w = c.read_word in
    c.ne.ensures ∙ other-directions _ _
    ∙ ap (λ (x : Direction). not (same x Directions.None))
    (c.direction_of-dir.ensures ∙ ap direction_of (kept w32 w.result w.type_inv ∙ w.ensures))
    ∙ ap (λ (b : Bool). b && not (same (segment_in a.words.now a.i).dir Directions.None)) (sym c.if-not-second.false)
