-- `build_join_words::join::make_edge` meets its contract.
use mathlib.Core.Path.{refl, ap, ◌∙◌}
use lib.IntN.{pos}
use mir.Syntax.{w16}
use Rattle.signed.proofs.Signed.{is, got}
use Rattle.axis.specs.declared.edge.Edge.{Edge}
use Rattle.build_join_words.specs.Lists.{stops_at, stop_at}
use Rattle.build_join_words.proofs.Listings.{inserted-as}
use borrow.Author.Rules.{rules}
use Rattle.build_join_words.proofs.join.make_edge.Goals as goal

pub returns : goal.returns
returns c =
    let stop-at = c in
    let edge_in = stop-at in
    let g = edge_in.args in
    let at = stop-at.stop_at-at.ensures.0 ∙ ap (λ (e : Edge). stop_at (stops_at g.rules e) (pos 0) g.places.now g.count)
    edge_in.read_edge-edge.ensures in
    let place = is (got w16 edge_in.read_edge-edge.result.fpos c.struct_told-1.given.0.1)
    ∙ ap (λ (e : Edge). e.fpos) edge_in.read_edge-edge.ensures in
    record { inserted = inserted-as at place c.insert_at.ensures; nexts = refl }
