-- `lowercase_m_words::moves::move_only` meets its contract.
use mathlib.Core.Path.{sym, ap, subst}
use mir.Syntax.{w32}
use Rattle.signed.specs.Range.{Between}
use Rattle.signed.proofs.Signed.{is, got}
use Rattle.axis.specs.declared.edge.Edge.{Edge}
use Rattle.lowercase_m.specs.M.{most_delta}
use Rattle.lowercase_m.specs.Steps.{thrice_moved}
use Rattle.lowercase_m_words.proofs.Moving.{only-law}
use borrow.Author.Rules.{rules}
use Rattle.lowercase_m_words.proofs.moves.move_only.Goals as goal

pub moved_back-moved-requires : goal.moved_back-moved-requires
moved_back-moved-requires c =
    let s = c in (
      subst (Between thrice_moved thrice_moved) (sym (ap (λ (e : Edge). e.pos) c.read_edge.ensures)) s.requires.between.0,
      subst (Between most_delta most_delta)
          (sym (is s.ranges.delta)) s.requires.between.1,
    )

pub returns : goal.returns
returns c =
    let put = c in
    let told = put in
    let back = told in
    let f = back in
    let s = f in
    only-law s.args.words.now s.args.i f.read_edge.ensures (is s.ranges.delta) back.moved_back-moved.ensures
    (is (got w32 _ told.struct_told-1.given.1.1.0.1)) put.put_pos.ensures
