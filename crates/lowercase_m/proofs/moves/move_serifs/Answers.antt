-- `lowercase_m::moves::move_serifs` meets its contract.
use mathlib.Core.Path.{◌≡◌, sym, ap, subst, ◌∙◌}
use native.Mathlib.Omega.{arith}
use borrow.Author.Tests.{eq-eqb, ne_eqb}
use mir.Syntax.{w32}
use mir.Val.{to_z, of_z, SFits}
use lib.IntN.{ℤ}
use Prim.Native.Nat.{ℕ}
use Rattle.signed.specs.Range.{Between}
use Rattle.signed.proofs.Signed.{is}
use Rattle.signed.proofs.Choices.{cond-true, cond-false}
use Rattle.axis.specs.declared.edge.Edge.{Edge}
use Rattle.axis.specs.declared.edge.Axis.{Axis}
use Rattle.axis.specs.Edge.{put_edge, edge_at}
use Rattle.lowercase_m.specs.Steps.{Places, twice_moved, thrice_moved}
use Rattle.lowercase_m.specs.M.{most_delta, moved_back, move_serifs, move_only}
use Rattle.lowercase_m.proofs.Places.{further, only-places}
use borrow.Author.Rules.{rules}
use Rattle.lowercase_m.proofs.moves.move_serifs.Goals as goal

-- delta is within its limit when read back
held : (d : ℤ) → SFits w32 d → Between most_delta most_delta d → Between most_delta most_delta (to_z w32 (of_z w32 d))
held d f h = subst (Between most_delta most_delta) (sym (is f)) h

-- an edge is moved
put-only : (axis : Axis) (i : ℕ) (d : ℤ) {r : Edge} → r ≡ moved_back (edge_at axis i) (to_z w32 (of_z w32 d)) → SFits w32 d → put_edge axis i r ≡ move_only axis i d
unfolding move_only
put-only axis i d e f = ap (put_edge axis i) (e ∙ ap (moved_back (edge_at axis i)) (is f))

pub returns-then-axis-ne12 : goal.returns-then-axis-ne12
unfolding move_serifs
returns-then-axis-ne12 c = sym (cond-false _ _ _ (ne_eqb c.args.axis.len 12 c.if-axis-ne12.true))

pub moved_back-requires : goal.moved_back-requires
moved_back-requires c =
    let q : c.args.axis.len ≡ 12 = c.if-axis-ne12.false in
    (further twice_moved _ (omega arith) (c.requires.0.at 8 (omega arith)), held _ c.ranges.delta c.requires.1)

pub moved_back-requires-2 : goal.moved_back-requires-2
moved_back-requires-2 c =
    let q : c.args.axis.len ≡ 12 = c.if-axis-ne12.false in
    let m = put-only c.args.axis 8 c.args.delta c.moved_back.ensures c.ranges.delta in
    let p : Places thrice_moved (put_edge c.args.axis 8 c.moved_back.result) =
    subst (Places thrice_moved) (sym m) (only-places twice_moved 8 c.args.axis c.args.delta c.requires.0 (omega arith) c.requires.1) in
    (p.at 11 (omega arith), held _ c.ranges.delta c.requires.1)

pub returns : goal.returns
unfolding move_serifs
returns c =
    let d = c.args.delta in
    let m = put-only c.args.axis 8 d c.moved_back.ensures c.ranges.delta in
    let m2 = put-only (put_edge c.args.axis 8 c.moved_back.result) 11 d c.moved_back-2.ensures c.ranges.delta in
    m2 ∙ ap (λ (a : Axis). move_only a 11 d) m ∙ sym (cond-true _ _ c.args.axis (eq-eqb c.args.axis.len 12 c.if-axis-ne12.false))
