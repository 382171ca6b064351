-- `build_join_words::join::visit_in` meets its contract: by where the segment goes.
use native.Mathlib.Omega.{arith}
use mathlib.Core.Path.{◌≡◌, sym, ap, ◌∙◌}
use mathlib.Core.Bool.{false}
use Prim.Native.Nat.{◌<◌}
use Rattle.axis.specs.Limits.{most_edges}
use Rattle.build_join.specs.Joining as J
use Rattle.build_join_words.specs.Reading.{segment_in}
use Rattle.build_join_words.proofs.Visits.{visit-room, visit-inside, last-inside, visit-skips, visit-joins, visit-stays, visit-fills, visit-makes}
use borrow.Author.Rules.{rules}
use Rattle.build_join_words.proofs.join.visit_in.Goals as goal

pub read_segment-segment-requires : goal.read_segment-segment-requires
read_segment-segment-requires c = c.requires.inside

pub returns-then-skips : goal.returns-then-skips
returns-then-skips c =
    let skips-said : let g = c.args in
    c.skips.result ≡ J.skips g.rules g.second (segment_in g.words.now g.i) = let g = c.args in c.skips.ensures ∙ ap (J.skips g.rules g.second) c.read_segment-segment.ensures in
    visit-skips c.requires (sym skips-said ∙ c.if-skips.true)

pub offset_bounds-first-best : goal.offset_bounds-first-best
offset_bounds-first-best c =
    let low : c.place_of-best.result < most_edges = omega (arith, c.if-best-count.true, visit-room c.requires) in
    omega (arith, low)

pub bounds-first-best : goal.bounds-first-best
bounds-first-best c =
    let low : c.place_of-best.result < most_edges = omega (arith, c.if-best-count.true, visit-room c.requires) in
    low

pub offset_bounds-last-best : goal.offset_bounds-last-best
offset_bounds-last-best c =
    let low : c.place_of-best.result < most_edges = omega (arith, c.if-best-count.true, visit-room c.requires) in
    omega (arith, low)

pub bounds-last-best : goal.bounds-last-best
bounds-last-best c =
    let low : c.place_of-best.result < most_edges = omega (arith, c.if-best-count.true, visit-room c.requires) in
    low

pub append-requires : goal.append-requires
append-requires c = (visit-inside c.requires, last-inside c.requires _ c.if-best-count.true)

pub offset_bounds-last-best-then-best-count : goal.offset_bounds-last-best-then-best-count
offset_bounds-last-best-then-best-count c =
    let low : c.place_of-best.result < most_edges = omega (arith, c.if-best-count.true, visit-room c.requires) in
    omega (arith, low)

pub bounds-last-best-then-best-count : goal.bounds-last-best-then-best-count
bounds-last-best-then-best-count c =
    let low : c.place_of-best.result < most_edges = omega (arith, c.if-best-count.true, visit-room c.requires) in
    low

pub returns-then-best-count : goal.returns-then-best-count
returns-then-best-count c =
    let skips-said : let g = c.args in
    c.skips.result ≡ J.skips g.rules g.second (segment_in g.words.now g.i) = let g = c.args in c.skips.ensures ∙ ap (J.skips g.rules g.second) c.read_segment-segment.ensures in
    let asks : let g = c.args in
    J.skips g.rules g.second (segment_in g.words.now g.i) ≡ false = sym skips-said ∙ c.if-skips.false in
    visit-joins c.requires asks _ c.place_of-best.ensures.0 _ c.if-best-count.true c.append.ensures

pub returns-then-second : goal.returns-then-second
returns-then-second c =
    let skips-said : let g = c.args in
    c.skips.result ≡ J.skips g.rules g.second (segment_in g.words.now g.i) = let g = c.args in c.skips.ensures ∙ ap (J.skips g.rules g.second) c.read_segment-segment.ensures in
    let asks : let g = c.args in
    J.skips g.rules g.second (segment_in g.words.now g.i) ≡ false = sym skips-said ∙ c.if-skips.false in
    visit-stays c.requires asks _ c.place_of-best.ensures.0 c.if-best-count.false c.if-second.true

pub returns-then-count-eq-MOST_EDGES : goal.returns-then-count-eq-MOST_EDGES
returns-then-count-eq-MOST_EDGES c =
    let skips-said : let g = c.args in
    c.skips.result ≡ J.skips g.rules g.second (segment_in g.words.now g.i) = let g = c.args in c.skips.ensures ∙ ap (J.skips g.rules g.second) c.read_segment-segment.ensures in
    let asks : let g = c.args in
    J.skips g.rules g.second (segment_in g.words.now g.i) ≡ false = sym skips-said ∙ c.if-skips.false in
    visit-fills c.requires asks _ c.place_of-best.ensures.0 c.if-best-count.false c.if-second.false c.if-count-eq-MOST_EDGES.true

pub make_edge-requires : goal.make_edge-requires
make_edge-requires c =
    let room : c.args.count < most_edges = omega (arith, c.if-count-eq-MOST_EDGES.false, visit-room c.requires) in
    (room, visit-inside c.requires, c.requires.inside)

pub overflow_add-more : goal.overflow_add-more
overflow_add-more c =
    let room : c.args.count < most_edges = omega (arith, c.if-count-eq-MOST_EDGES.false, visit-room c.requires) in
    omega (arith, room)

pub returns : goal.returns
returns c =
    let skips-said : let g = c.args in
    c.skips.result ≡ J.skips g.rules g.second (segment_in g.words.now g.i) = let g = c.args in c.skips.ensures ∙ ap (J.skips g.rules g.second) c.read_segment-segment.ensures in
    let asks : let g = c.args in
    J.skips g.rules g.second (segment_in g.words.now g.i) ≡ false = sym skips-said ∙ c.if-skips.false in
    let room : c.args.count < most_edges = omega (arith, c.if-count-eq-MOST_EDGES.false, visit-room c.requires) in
    visit-makes c.requires asks _ c.place_of-best.ensures.0 c.if-best-count.false c.if-second.false room
    c.make_edge.ensures
