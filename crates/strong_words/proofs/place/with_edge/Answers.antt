-- `strong_words::place::with_edge` meets its contract.
use borrow.Author.Rules.{rules}
use native.Mathlib.Omega.{arith}
use mathlib.Core.Path.{◌≡◌, sym, subst, ◌∙◌}
use Prim.Native.Nat.{◌<◌}
use mir.Syntax.{w32}
use mir.Val.{to_z, of_z}
use Rattle.signed.specs.Range.{Between}
use Rattle.signed.proofs.Signed.{is}
use Rattle.signed.proofs.By.{by₃}
use Rattle.axis.specs.Edge.{edge_at}
use Rattle.axis.specs.Limits.{most_units, most_pos}
use Rattle.weak_contour.specs.Steps.{Coordinate}
use Rattle.words.proofs.Fields.{kept}
use Rattle.words_call.specs.Lent.{edges_of}
use Rattle.words_edge.proofs.Wholes.{edges-len}
use Rattle.strong.specs.Strong.{moved_with}
use Rattle.strong_words.proofs.Reading.{opos-word}
use Rattle.strong_words.proofs.place.with_edge.Goals as goal

pub read_pos-requires : goal.read_pos-requires
read_pos-requires c = (c.requires.0, c.requires.2)

pub moved_with-requires : goal.moved_with-requires
moved_with-requires c =
    let original : to_z w32 (of_z w32 c.read_word-opos.result) ≡ (edge_at (edges_of c.args.words.now) c.args.i).opos =
    let w = c.read_word-opos in
    kept w32 w.result w.type_inv ∙ w.ensures ∙ opos-word c.args.words.now c.args.i c.requires.0 c.requires.2 in
    let position : to_z w32 (of_z w32 c.read_pos.result) ≡ (edge_at (edges_of c.args.words.now) c.args.i).pos =
    kept w32 c.read_pos.result c.read_pos.type_inv ∙ c.read_pos.ensures in
    let below : c.args.i < (edges_of c.args.words.now).len = omega (arith, edges-len c.args.words.now, c.requires.2) in
    let e = c.requires.1.edge c.args.i below in (
      subst Coordinate (sym (is c.ranges.v)) c.requires.3,
      subst (Between most_units most_units) (sym original) e.opos,
      subst (Between most_pos most_pos) (sym position) e.pos,
    )

pub returns : goal.returns
returns c =
    let original : to_z w32 (of_z w32 c.read_word-opos.result) ≡ (edge_at (edges_of c.args.words.now) c.args.i).opos =
    let w = c.read_word-opos in
    kept w32 w.result w.type_inv ∙ w.ensures ∙ opos-word c.args.words.now c.args.i c.requires.0 c.requires.2 in
    let position : to_z w32 (of_z w32 c.read_pos.result) ≡ (edge_at (edges_of c.args.words.now) c.args.i).pos =
    kept w32 c.read_pos.result c.read_pos.type_inv ∙ c.read_pos.ensures in
    by₃ moved_with c.moved_with.ensures (is c.ranges.v) original position
