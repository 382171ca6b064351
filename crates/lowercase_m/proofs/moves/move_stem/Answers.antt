-- `lowercase_m::moves::move_stem` meets its contract.
use Rattle.std.specs.Prelude.{Some}
use mathlib.Core.Path.{◌≡◌, sym, ap, subst, ◌∙◌}
use Prim.Native.Nat.{ℕ, ◌<◌}
use native.Mathlib.Omega.{arith}
use mir.Syntax.{w32}
use mir.Val.{to_z, of_z, SFits}
use lib.IntN.{ℤ}
use Rattle.signed.specs.Range.{Between}
use Rattle.signed.proofs.Signed.{is}
use Rattle.axis.specs.Link.{Link}
use Rattle.axis.specs.declared.edge.Axis.{Axis}
use Rattle.axis.specs.declared.edge.Edge.{Edge}
use Rattle.axis.specs.Edge.{put_edge, edge_at, finished}
use Rattle.axis.specs.Limits.{most_edges}
use Rattle.lowercase_m.specs.Steps.{Places, unmoved, once_moved, twice_moved, thrice_moved}
use Rattle.lowercase_m.specs.M.{most_delta, moved_back, move_done, move_link, move_serifs, move_stem}
use Rattle.signed.proofs.By.{by₂}
use Rattle.lowercase_m.proofs.Places.{further, done-len, done-places, wider-places}
use borrow.Author.Rules.{rules}
use Rattle.lowercase_m.proofs.moves.move_stem.Goals as goal

-- delta is within its limit when read back
held : (d : ℤ) → SFits w32 d → Between most_delta most_delta d → Between most_delta most_delta (to_z w32 (of_z w32 d))
held d f h = subst (Between most_delta most_delta) (sym (is f)) h

-- an edge is moved and is done
put-done : (axis : Axis) (i : ℕ) (d : ℤ) {b r : Edge} → b ≡ moved_back (edge_at axis i) (to_z w32 (of_z w32 d)) → r ≡ finished b → SFits w32 d
    → put_edge axis i r ≡ move_done axis i d
unfolding move_done
put-done axis i d e g f = ap (put_edge axis i) (g ∙ ap finished (e ∙ ap (moved_back (edge_at axis i)) (is f)))

pub moved_back-requires : goal.moved_back-requires
moved_back-requires c =
    (further unmoved _ (omega arith) (c.requires.places.0.at _ c.requires.third_lt_len.0), held _ c.ranges.delta c.requires.places.1)

pub move_serifs-requires : goal.move_serifs-requires
move_serifs-requires c =
    let axis = c.args.axis in
    let d = c.args.delta in
    let m : put_edge axis c.args.third c.with_done_flag.result ≡ move_done axis c.args.third d =
    put-done axis c.args.third d c.moved_back.ensures c.with_done_flag.ensures c.ranges.delta in
    let p : Places once_moved (move_done axis c.args.third d) =
    done-places unmoved c.args.third axis d c.requires.places.0 c.requires.third_lt_len.0 c.requires.places.1 in
    (subst (Places twice_moved) (sym m) (wider-places once_moved twice_moved _ (omega arith) p), held _ c.ranges.delta c.requires.places.1)

pub returns-in_default : goal.returns-in_default
unfolding move_stem move_link
returns-in_default c =
    let axis = c.args.axis in
    let d = c.args.delta in
    let m : put_edge axis c.args.third c.with_done_flag.result ≡ move_done axis c.args.third d =
    put-done axis c.args.third d c.moved_back.ensures c.with_done_flag.ensures c.ranges.delta in
    by₂ move_serifs c.move_serifs.ensures m (is c.ranges.delta)
    ∙ ap (λ (l : Link). move_serifs (move_link (move_done axis c.args.third d) l d) d) (sym c.in_default.is)

pub bounds-moved-at : goal.bounds-moved-at
bounds-moved-at c = let h = c.requires.third_lt_len.1.at _ c.in-Some.is in let g = c.requires.places.0.few in omega arith

pub moved_back-requires-2 : goal.moved_back-requires-2
moved_back-requires-2 c =
    let axis = c.args.axis in
    let d = c.args.delta in
    let m : put_edge axis c.args.third c.with_done_flag.result ≡ move_done axis c.args.third d =
    put-done axis c.args.third d c.moved_back.ensures c.with_done_flag.ensures c.ranges.delta in
    let p : Places once_moved (move_done axis c.args.third d) =
    done-places unmoved c.args.third axis d c.requires.places.0 c.requires.third_lt_len.0 c.requires.places.1 in
    let h : c.in-Some.k < (move_done axis c.args.third d).len = rw (done-len axis c.args.third d) (c.requires.third_lt_len.1.at _ c.in-Some.is) in (
      subst (λ (a : Axis). Between thrice_moved thrice_moved (edge_at a c.in-Some.k).pos) (sym m) (further once_moved _ (omega arith) (p.at _ h)),
      held _ c.ranges.delta c.requires.places.1,
    )

pub bounds-moved-at-2 : goal.bounds-moved-at-2
bounds-moved-at-2 c = let h = c.requires.third_lt_len.1.at _ c.in-Some.is in let g = c.requires.places.0.few in omega arith

pub move_serifs-requires-2 : goal.move_serifs-requires-2
move_serifs-requires-2 c =
    let axis = c.args.axis in
    let d = c.args.delta in
    let m : put_edge axis c.args.third c.with_done_flag.result ≡ move_done axis c.args.third d =
    put-done axis c.args.third d c.moved_back.ensures c.with_done_flag.ensures c.ranges.delta in
    let p : Places once_moved (move_done axis c.args.third d) =
    done-places unmoved c.args.third axis d c.requires.places.0 c.requires.third_lt_len.0 c.requires.places.1 in
    let h : c.in-Some.k < (move_done axis c.args.third d).len = rw (done-len axis c.args.third d) (c.requires.third_lt_len.1.at _ c.in-Some.is) in
    let m2 : put_edge (put_edge axis c.args.third c.with_done_flag.result) c.in-Some.k c.with_done_flag-2.result ≡ move_done (move_done axis c.args.third d) c.in-Some.k d =
    put-done (put_edge axis c.args.third c.with_done_flag.result) c.in-Some.k d c.moved_back-2.ensures c.with_done_flag-2.ensures c.ranges.delta
    ∙ ap (λ (a : Axis). move_done a c.in-Some.k d) m in (
      subst (Places twice_moved) (sym m2) (done-places once_moved c.in-Some.k (move_done axis c.args.third d) d p h c.requires.places.1),
      held _ c.ranges.delta c.requires.places.1,
    )

pub returns : goal.returns
unfolding move_stem move_link
returns c =
    let axis = c.args.axis in
    let d = c.args.delta in
    let m : put_edge axis c.args.third c.with_done_flag.result ≡ move_done axis c.args.third d =
    put-done axis c.args.third d c.moved_back.ensures c.with_done_flag.ensures c.ranges.delta in
    let m2 : put_edge (put_edge axis c.args.third c.with_done_flag.result) c.in-Some.k c.with_done_flag-2.result ≡ move_done (move_done axis c.args.third d) c.in-Some.k d =
    put-done (put_edge axis c.args.third c.with_done_flag.result) c.in-Some.k d c.moved_back-2.ensures c.with_done_flag-2.ensures c.ranges.delta
    ∙ ap (λ (a : Axis). move_done a c.in-Some.k d) m in
    by₂ move_serifs c.move_serifs-2.ensures m2 (is c.ranges.delta)
    ∙ ap (λ (l : Link). move_serifs (move_link (move_done axis c.args.third d) l d) d) (sym c.in-Some.is)
