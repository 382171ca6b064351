-- `edge_points_words::front::points_front` meets its contract.
use borrow.Author.Tests.{eq-eqb, ne_eqb}
use mathlib.Core.Path.{◌≡◌, refl, sym, ap, ◌∙◌}
use mathlib.Core.Bool.{Bool, true, false, ◌&&◌}
use Prim.Native.Nat.{◌%◌}
use lib.Dec.{eqb, leb}
use lib.ListN.{length}
use Rattle.signed.proofs.Signed.{is}
use Rattle.axis.specs.Limits.{most_segments, most_edges}
use Rattle.weak_contour.specs.Limits.{most_points}
use Rattle.words.specs.Edge.{edge_size, edges_in}
use Rattle.words.specs.Segment.{segment_size, segments_in}
use Rattle.words_shape.specs.Shape.{choice, edges_shown, segments_shown}
use Rattle.words_call.specs.Lent.{both_in}
use Rattle.words_call.proofs.Lents.{not-whole, not_short, not-shown, all_shown}
use Rattle.edge_points_words.specs.Align.{points_front}
use Rattle.edge_points_words.proofs.front.points_front.Goals as goal
use Rattle.edge_points_words.proofs.front.points_front.Goals.{then-segments-eq0, else-segments-eq0, then-few_segments, else-few_segments, then-few, else-few, else-tables_shown-via-then-tables_shown+else-both_in, else-tables_shown-via-else-tables_shown}

-- `v` is `r && x`, where `r` is told by `s`
and-then : (s x r v : Bool) → r ≡ s → r ≡ true → v ≡ x → v ≡ (s && x)
and-then s x r v e t q = q ∙ ap (λ (b : Bool). b && x) (sym t ∙ e)

and-else : (s x r v : Bool) → r ≡ s → r ≡ false → v ≡ r → v ≡ (s && x)
and-else s x r v e t q = q ∙ t ∙ ap (λ (b : Bool). b && x) (sym t ∙ e)

pub returns-then-not-edges : goal.returns-then-not-edges
unfolding points_front
returns-then-not-edges c =
    let whole : Bool = eqb (length c.args.segments.now % segment_size) 0 && eqb (length c.args.edges.now % edge_size) 0 in
    let records : Bool = leb (segments_in c.args.segments.now) most_segments && leb (edges_in c.args.edges.now) most_edges in
    let short : Bool = records && (leb (length c.args.currents.now) most_points && eqb (length c.args.touched.now) (length c.args.currents.now)) in
    let tables : Bool = segments_shown c.args.segments.now && edges_shown c.args.edges.now in
    let shown : Bool = tables && both_in choice c.args.snap c.args.alone in
    let is-whole : c.if-segments-eq0.value ≡ whole = elim c.if-segments-eq0.branch [
      | then-segments-eq0 w ↦ and-then _ _ _ _ refl (eq-eqb _ _ w.if-segments-eq0.true) w.value-is
      | else-segments-eq0 w ↦ and-else _ _ _ _ refl (ne_eqb _ _ w.if-segments-eq0.false) w.value-is
    ] in
    not-whole whole short shown (sym is-whole ∙ c.if-not-edges.true)

pub returns-then-not-few_points : goal.returns-then-not-few_points
unfolding points_front
returns-then-not-few_points c =
    let whole : Bool = eqb (length c.args.segments.now % segment_size) 0 && eqb (length c.args.edges.now % edge_size) 0 in
    let records : Bool = leb (segments_in c.args.segments.now) most_segments && leb (edges_in c.args.edges.now) most_edges in
    let short : Bool = records && (leb (length c.args.currents.now) most_points && eqb (length c.args.touched.now) (length c.args.currents.now)) in
    let tables : Bool = segments_shown c.args.segments.now && edges_shown c.args.edges.now in
    let shown : Bool = tables && both_in choice c.args.snap c.args.alone in
    let is-whole : c.if-segments-eq0.value ≡ whole = elim c.if-segments-eq0.branch [
      | then-segments-eq0 w ↦ and-then _ _ _ _ refl (eq-eqb _ _ w.if-segments-eq0.true) w.value-is
      | else-segments-eq0 w ↦ and-else _ _ _ _ refl (ne_eqb _ _ w.if-segments-eq0.false) w.value-is
    ] in
    let is-few : c.if-few_segments.few ≡ records = elim c.if-few_segments.branch [
      | then-few_segments w ↦ and-then _ _ _ _ c.few_segments.ensures w.if-few_segments.true (w.few-is ∙ w.few_edges-few.ensures)
      | else-few_segments w ↦ and-else _ _ _ _ c.few_segments.ensures w.if-few_segments.false w.few-is
    ] in
    let is-short : c.if-few.value ≡ short = elim c.if-few.branch [
      | then-few w ↦ and-then _ _ _ _ is-few w.if-few.true (w.value-is ∙ w.few_points.ensures)
      | else-few w ↦ and-else _ _ _ _ is-few w.if-few.false w.value-is
    ] in
    not_short whole short shown (sym is-whole ∙ c.if-not-edges.false) (sym is-short ∙ c.if-not-few_points.true)

pub returns-then-both_in : goal.returns-then-both_in
unfolding points_front
returns-then-both_in c =
    let whole : Bool = eqb (length c.args.segments.now % segment_size) 0 && eqb (length c.args.edges.now % edge_size) 0 in
    let records : Bool = leb (segments_in c.args.segments.now) most_segments && leb (edges_in c.args.edges.now) most_edges in
    let short : Bool = records && (leb (length c.args.currents.now) most_points && eqb (length c.args.touched.now) (length c.args.currents.now)) in
    let tables : Bool = segments_shown c.args.segments.now && edges_shown c.args.edges.now in
    let shown : Bool = tables && both_in choice c.args.snap c.args.alone in
    let is-whole : c.if-segments-eq0.value ≡ whole = elim c.if-segments-eq0.branch [
      | then-segments-eq0 w ↦ and-then _ _ _ _ refl (eq-eqb _ _ w.if-segments-eq0.true) w.value-is
      | else-segments-eq0 w ↦ and-else _ _ _ _ refl (ne_eqb _ _ w.if-segments-eq0.false) w.value-is
    ] in
    let is-few : c.if-few_segments.few ≡ records = elim c.if-few_segments.branch [
      | then-few_segments w ↦ and-then _ _ _ _ c.few_segments.ensures w.if-few_segments.true (w.few-is ∙ w.few_edges-few.ensures)
      | else-few_segments w ↦ and-else _ _ _ _ c.few_segments.ensures w.if-few_segments.false w.few-is
    ] in
    let is-short : c.if-few.value ≡ short = elim c.if-few.branch [
      | then-few w ↦ and-then _ _ _ _ is-few w.if-few.true (w.value-is ∙ w.few_points.ensures)
      | else-few w ↦ and-else _ _ _ _ is-few w.if-few.false w.value-is
    ] in
    let choices : c.both_in.result ≡ both_in choice c.args.snap c.args.alone = c.both_in.ensures ∙ (λ x. both_in choice (is c.ranges.snap x) (is c.ranges.alone x)) in
    all_shown whole short shown (sym is-whole ∙ c.if-not-edges.false) (sym is-short ∙ c.if-not-few_points.false)
    (sym (and-then _ _ _ true c.tables_shown.ensures c.if-tables_shown.true (sym c.if-both_in.true ∙ choices)))

pub returns : goal.returns
unfolding points_front
returns c =
    let whole : Bool = eqb (length c.args.segments.now % segment_size) 0 && eqb (length c.args.edges.now % edge_size) 0 in
    let records : Bool = leb (segments_in c.args.segments.now) most_segments && leb (edges_in c.args.edges.now) most_edges in
    let short : Bool = records && (leb (length c.args.currents.now) most_points && eqb (length c.args.touched.now) (length c.args.currents.now)) in
    let tables : Bool = segments_shown c.args.segments.now && edges_shown c.args.edges.now in
    let shown : Bool = tables && both_in choice c.args.snap c.args.alone in
    let is-whole : c.if-segments-eq0.value ≡ whole = elim c.if-segments-eq0.branch [
      | then-segments-eq0 w ↦ and-then _ _ _ _ refl (eq-eqb _ _ w.if-segments-eq0.true) w.value-is
      | else-segments-eq0 w ↦ and-else _ _ _ _ refl (ne_eqb _ _ w.if-segments-eq0.false) w.value-is
    ] in
    let is-few : c.if-few_segments.few ≡ records = elim c.if-few_segments.branch [
      | then-few_segments w ↦ and-then _ _ _ _ c.few_segments.ensures w.if-few_segments.true (w.few-is ∙ w.few_edges-few.ensures)
      | else-few_segments w ↦ and-else _ _ _ _ c.few_segments.ensures w.if-few_segments.false w.few-is
    ] in
    let is-short : c.if-few.value ≡ short = elim c.if-few.branch [
      | then-few w ↦ and-then _ _ _ _ is-few w.if-few.true (w.value-is ∙ w.few_points.ensures)
      | else-few w ↦ and-else _ _ _ _ is-few w.if-few.false w.value-is
    ] in
    let not-all : shown ≡ false = elim c.else-tables_shown.branch [
      | else-tables_shown-via-then-tables_shown+else-both_in w ↦ sym (and-then _ _ _ false c.tables_shown.ensures w.if-tables_shown.true
          (sym w.if-both_in.false ∙ w.both_in.ensures ∙ (λ x. both_in choice (is c.ranges.snap x) (is c.ranges.alone x))))
      | else-tables_shown-via-else-tables_shown w ↦ sym (and-else _ _ _ false c.tables_shown.ensures w.if-tables_shown.false (sym w.if-tables_shown.false))
    ] in
    not-shown whole short shown (sym is-whole ∙ c.if-not-edges.false) (sym is-short ∙ c.if-not-few_points.false) not-all
