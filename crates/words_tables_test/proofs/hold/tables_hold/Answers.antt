-- `words_tables_test::hold::tables_hold` meets its contract.
use borrow.Author.Rules.{rules}
use native.Mathlib.Omega.{arith}
use borrow.Author.Tests.{not-false, leb-true}
use mathlib.Core.Path.{ap, ◌∙◌}
use mathlib.Core.Bool.{true}
use Prim.Native.Nat.{ℕ}
use Rattle.axis.specs.Limits.{most_edges, most_segments}
use Rattle.turn.specs.Indices.{segments_edges, edges_segments}
use Rattle.words.specs.Edge.{edges_in}
use Rattle.words.specs.Segment.{segments_in, flat_segments}
use Rattle.words_call.specs.Lent.{edges_of}
use Rattle.words_call.proofs.Holding.{clash}
use Rattle.words_edge_test.specs.Held as Edges
use Rattle.words_segment_test.specs.Held as Segments
use Rattle.words_segment.specs.Whole.{Whole}
use Rattle.words_edge.proofs.Wholes.{shown-whole, edges-len}
use Rattle.words_segment.proofs.Wholes.{shown-whole as segments_whole, segments-len}
use Rattle.words_tables_test.proofs.hold.tables_hold.Goals as goal

pub returns-then-not-segments_hold : goal.returns-then-not-segments_hold
returns-then-not-segments_hold c = λ h. absurd (clash h)

pub returns-then-not-edges_hold : goal.returns-then-not-edges_hold
returns-then-not-edges_hold c = λ h. absurd (clash h)

pub edges_named-requires : goal.edges_named-requires
edges_named-requires c =
    let first : Segments.Held c.args.segments.now true = c.segments_hold.ensures c.if-not-segments_hold.false in
    let first-whole : Whole c.args.segments.now = let ws = c.args.segments.now in let h = first in segments_whole ws h.words (leb-true (segments_in ws) most_segments h.few) in
    let second : Edges.Held c.args.edges.now = c.edges_hold.ensures c.if-not-edges_hold.false in
    let es = c.args.edges.now in (first-whole, omega (arith, leb-true (edges_in es) most_edges second.few))

pub returns-then-not-edges_named : goal.returns-then-not-edges_named
returns-then-not-edges_named c = λ h. absurd (clash h)

pub segments_named-requires : goal.segments_named-requires
segments_named-requires c =
    let first : Segments.Held c.args.segments.now true = c.segments_hold.ensures c.if-not-segments_hold.false in
    let second : Edges.Held c.args.edges.now = c.edges_hold.ensures c.if-not-edges_hold.false in
    let ws = c.args.segments.now in
    let es = c.args.edges.now in
    let h = second in
    (shown-whole es h.words (leb-true (edges_in es) most_edges h.few), leb-true (segments_in ws) most_segments first.few)

pub returns : goal.returns
returns c =
    let first : Segments.Held c.args.segments.now true = c.segments_hold.ensures c.if-not-segments_hold.false in
    let second : Edges.Held c.args.edges.now = c.edges_hold.ensures c.if-not-edges_hold.false in
    λ t.
    let ws = c.args.segments.now in
    let es = c.args.edges.now in
    record {
      segments = first;
      edges = second;
      to_edges = ap (λ (m : ℕ). segments_edges m (flat_segments ws)) (edges-len es) ∙ c.edges_named.ensures c.if-not-edges_named.false;
      to_segments = ap (λ (m : ℕ). edges_segments m (edges_of es)) (segments-len ws) ∙ c.segments_named.ensures t;
    }
