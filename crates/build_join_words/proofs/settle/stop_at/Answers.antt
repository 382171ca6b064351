-- `build_join_words::settle::stop_at` meets its contract: what is left of the walk back gives the whole.
use mathlib.Core.Path.{◌≡◌, refl, sym, ap, ◌∙◌}
use Prim.Native.Nat.{◌+◌, ◌-◌}
use native.Mathlib.Omega.{arith}
use lib.IntN.{pos}
use lib.ListN.{get_or}
use mir.Syntax.{w16}
use Rattle.signed.proofs.Signed.{is, got}
use Rattle.build_join.specs.Joining.{stops_behind}
use Rattle.build_join_words.specs.Reading.{edge_at_place}
use Rattle.build_join_words.specs.Lists.{stops_at}
use Rattle.build_join_words.proofs.Inserting.{stop-end, stop-here, stop-on}
use Rattle.build_join_words.proofs.settle.stop_at.Goals as goal

pub loop-at-init : goal.loop-at-init
loop-at-init c = refl

pub returns-then-stops_behind : goal.returns-then-stops_behind
returns-then-stops_behind c =
    let a = c.args in
    let stopped : c.stops_behind.result ≡ stops_at a.rules a.edge (get_or a.places.now (c.loop-at.at - 1) (pos 0)) =
    c.stops_behind.ensures ∙ ap (stops_behind a.rules a.edge) (c.edge_at.ensures ∙ ap edge_at_place (is (got w16 _ c.edge_at-arg-1.given))) in
    let behind : c.loop-at.at - 1 + 1 ≡ c.loop-at.at = omega arith in
    (behind ∙ sym (stop-here _ _ _ _ c.loop-at-test.true (sym stopped ∙ c.if-stops_behind.true)) ∙ c.loop-at.invariant, omega arith)

pub loop-at-preserved : goal.loop-at-preserved
loop-at-preserved c =
    let a = c.args in
    let stopped : c.stops_behind.result ≡ stops_at a.rules a.edge (get_or a.places.now (c.loop-at.at - 1) (pos 0)) =
    c.stops_behind.ensures ∙ ap (stops_behind a.rules a.edge) (c.edge_at.ensures ∙ ap edge_at_place (is (got w16 _ c.edge_at-arg-1.given))) in
    stop-on _ _ _ _ c.loop-at-test.true (sym stopped ∙ c.if-stops_behind.false) ∙ c.loop-at.invariant

pub returns : goal.returns
returns c = (sym (stop-end _ _ _ _ (omega arith)) ∙ c.loop-at.invariant, omega arith)
