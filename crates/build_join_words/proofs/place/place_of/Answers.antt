-- `build_join_words::place::place_of` meets its contract: what is left of the search gives the whole.
use borrow.Author.Rules.{rules}
use borrow.Author.Tests.{not-true, not-false}
use native.Mathlib.Omega.{arith}
use mathlib.Core.Path.{◌≡◌, refl, sym, ap, subst, ◌∙◌}
use mathlib.Core.Bool.{true, ◌&&◌, ◌||◌}
use Prim.Native.Nat.{◌-◌, ◌≤◌, ◌<◌}
use lib.IntN.{ℤ, pos}
use lib.ListN.{get_or}
use lib.Signed.{le_z}
use mir.Syntax.{w16, w32}
use Rattle.signed.specs.Distance.{distance}
use Rattle.signed.proofs.Signed.{is, got}
use Rattle.signed.proofs.By.{by₂, by₃}
use Rattle.axis.specs.declared.edge.Edge.{Edge}
use Rattle.axis.specs.declared.segment.Segment.{Segment}
use Rattle.axis.specs.Limits.{most_edges, most_segments}
use Rattle.axis.specs.Ring.{walk, ends}
use Rattle.build_join.specs.Joining.{fits_in, limit_behind, may_join, state_at}
use Rattle.build_join.specs.Walks.{next_in, no_stem, stems_agree}
use Rattle.build_join.proofs.Turns.{place, left}
use Rattle.words.specs.Segment.{flat_segments}
use Rattle.build_join_words.specs.Reading.{edge_at_place, stems_in}
use Rattle.build_join_words.proofs.Visits.{visit-room, first-inside, edge-ring, may-said, may-far, search-start, search_no, search-yes, search-end, search-stop}
use Rattle.build_join_words.proofs.place.place_of.Goals as goal

pub loop-k-init : goal.loop-k-init
loop-k-init c = (omega arith, visit-room c.requires.0, omega arith, search-start c.requires.0)

pub offset_bounds-places-k : goal.offset_bounds-places-k
offset_bounds-places-k c = omega arith

pub bounds-places-k : goal.bounds-places-k
bounds-places-k c = omega arith

pub overflow_step-k : goal.overflow_step-k
overflow_step-k c = omega arith

pub loop-k-smaller-then-limit-distance_to : goal.loop-k-smaller-then-limit-distance_to
loop-k-smaller-then-limit-distance_to c = omega arith

pub loop-k-preserved-then-limit-distance_to : goal.loop-k-preserved-then-limit-distance_to
loop-k-preserved-then-limit-distance_to c = let far = by₂ (λ (s : Segment) (e : Edge). distance s.pos e.fpos) c.distance_to.ensures c.requires.1
    (c.edge_at.ensures ∙ ap edge_at_place
    (is (got w16 (get_or c.args.places.now c.loop-k.k (pos 0)) c.edge_at-arg-1.given))) in (
      omega arith,
      c.loop-k.invariant.1,
      c.loop-k.invariant.2,
      search_no c.requires.0 _ c.loop-k-test.true _ _ _ c.loop-k.invariant.3 _
          (may-far c.requires.0 _ c.loop-k-test.true _ _ far c.if-limit-distance_to.true) refl,
    )

pub offset_bounds-first-k : goal.offset_bounds-first-k
offset_bounds-first-k c = omega arith

pub bounds-first-k : goal.bounds-first-k
bounds-first-k c = omega arith

pub offset_bounds-last-k : goal.offset_bounds-last-k
offset_bounds-last-k c = omega arith

pub bounds-last-k : goal.bounds-last-k
bounds-last-k c = omega arith

pub read_edge-edge-requires : goal.read_edge-edge-requires
read_edge-edge-requires c = first-inside c.requires.0 _ c.loop-k-test.true

pub may_join_in-requires : goal.may_join_in-requires
may_join_in-requires c = subst (λ (e : Edge). (e.first < most_segments) × (ends (next_in c.args.next.now) most_segments e.last most_segments e.first ≡ true))
    (sym c.read_edge-edge.ensures)
    (edge-ring c.requires.0 _ c.loop-k-test.true)

pub overflow_step-k-then-not-may_join_in : goal.overflow_step-k-then-not-may_join_in
overflow_step-k-then-not-may_join_in c = omega arith

pub loop-k-smaller-then-not-may_join_in : goal.loop-k-smaller-then-not-may_join_in
loop-k-smaller-then-not-may_join_in c = omega arith

pub loop-k-preserved-then-not-may_join_in : goal.loop-k-preserved-then-not-may_join_in
loop-k-preserved-then-not-may_join_in c =
    let said : let g = c.args in
    let t = flat_segments g.words.now in
    c.may_join_in.result ≡ may_join t g.rules g.second (state_at t g.rules g.second g.i) g.i c.loop-k.k c.loop-k.limit = let g = c.args in
    may-said c.requires.0 _ c.loop-k-test.true _ c.own_stem-stem.result _ c.own_stem-stem.ensures
    (by₃ (λ (s : Segment) (e : Edge) (z : ℤ). fits_in g.second c.loop-k.limit s e
    && (le_z no_stem z || stems_agree (stems_in g.words.now) g.rules.near z (walk (next_in g.next.now) e.last most_segments e.first)))
    c.may_join_in.ensures c.requires.1 c.read_edge-edge.ensures (is (got w32 c.own_stem-stem.result c.own_stem-stem.type_inv))) in (
      omega arith,
      c.loop-k.invariant.1,
      c.loop-k.invariant.2,
      search_no c.requires.0 _ c.loop-k-test.true _ _ _ c.loop-k.invariant.3 _ said c.if-not-may_join_in.true,
    )

pub overflow_step-k-in-loop-k : goal.overflow_step-k-in-loop-k
overflow_step-k-in-loop-k c = omega arith

pub loop-k-smaller : goal.loop-k-smaller
loop-k-smaller c = omega arith

pub loop-k-preserved : goal.loop-k-preserved
loop-k-preserved c =
    let said : let g = c.args in
    let t = flat_segments g.words.now in
    c.may_join_in.result ≡ may_join t g.rules g.second (state_at t g.rules g.second g.i) g.i c.loop-k.k c.loop-k.limit = let g = c.args in
    may-said c.requires.0 _ c.loop-k-test.true _ c.own_stem-stem.result _ c.own_stem-stem.ensures
    (by₃ (λ (s : Segment) (e : Edge) (z : ℤ). fits_in g.second c.loop-k.limit s e
    && (le_z no_stem z || stems_agree (stems_in g.words.now) g.rules.near z (walk (next_in g.next.now) e.last most_segments e.first)))
    c.may_join_in.ensures c.requires.1 c.read_edge-edge.ensures (is (got w32 c.own_stem-stem.result c.own_stem-stem.type_inv))) in (
      omega arith,
      c.loop-k.invariant.1,
      omega arith,
      search-yes c.requires.0 _ c.loop-k-test.true _ _ _ c.loop-k.invariant.3 _ said c.if-not-may_join_in.false _
          (by₂ (λ (s : Segment) (e : Edge). limit_behind c.args.rules.cjk (distance s.pos e.fpos)) c.limit_behind-limit.ensures c.requires.1
          c.read_edge-edge.ensures),
    )

pub returns-after-loop-k : goal.returns-after-loop-k
returns-after-loop-k c = (sym (search-end c.requires.0 _ _ _ _ c.loop-k.invariant.3 c.loop-k-test.false), c.loop-k.invariant.2)

pub returns-then-limit-eq0 : goal.returns-then-limit-eq0
returns-then-limit-eq0 c = (sym (search-stop c.requires.0 _ _ _ _ c.loop-k.invariant.3 c.if-limit-eq0.true), c.loop-k.invariant.2)
