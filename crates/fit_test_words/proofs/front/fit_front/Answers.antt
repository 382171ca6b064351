-- `fit_test_words::front::fit_front` meets its contract.
use mathlib.Core.Path.{◌≡◌, sym, ap, ◌∙◌}
use mathlib.Core.Bool.{Bool, true, false, ◌&&◌}
use Prim.Native.Nat.{ℕ, ◌%◌}
use lib.Dec.{eqb, leb}
use lib.ListN.{length}
use Rattle.refusals.specs.Refusal.{refusal}
use Rattle.axis.specs.Limits.{most_segments, most_edges}
use Rattle.words.specs.Edge.{edge_size, edges_in}
use Rattle.words.specs.Segment.{segment_size, segments_in}
use Rattle.words_shape.specs.Shape.{edges_shown, segments_shown}
use Rattle.words_call.proofs.Lents.{not-whole, not_short, not-shown, all_shown}
use Rattle.strong.specs.Strong.{list_tests}
use Rattle.strong.proofs.Told.{told-by}
use Rattle.fit.specs.Numbers.{number_size, numbers_shown}
use Rattle.fit.specs.Fit.{told_size, fit_front}
use Rattle.fit_test_words.proofs.front.fit_front.Goals as goal
use Rattle.fit_test_words.proofs.front.fit_front.Goals.{then-few_segments, else-few_segments, then-few, else-few, else-tables_shown-via-then-tables_shown+else-numbers_shown, else-tables_shown-via-else-tables_shown}

-- a conjunction is its second where the first holds, and false where it does not
then-last : (x y : Bool) → x ≡ true → y ≡ (x && y)
then-last x y h = rw h

then-not : (x y : Bool) → x ≡ false → false ≡ (x && y)
then-not x y h = rw h

pub returns-then-not-lengths_hold : goal.returns-then-not-lengths_hold
unfolding fit_front
returns-then-not-lengths_hold c =
    let whole : Bool =
    let a = c.args in
    (eqb (length a.segments.now % segment_size) 0 && eqb (length a.edges.now % edge_size) 0)
    && (eqb (length a.numbers.now) number_size && eqb (length a.told.now) told_size) in
    let short : Bool =
    let a = c.args in
    (leb (segments_in a.segments.now) most_segments && leb (edges_in a.edges.now) most_edges)
    && eqb (refusal (list_tests a.fonts.now a.originals.now a.currents.now a.touched.now a.weak.now)) 0 in
    let shown : Bool =
    let a = c.args in (segments_shown a.segments.now && edges_shown a.edges.now) && numbers_shown a.numbers.now in
    not-whole whole short shown (sym c.lengths_hold.ensures ∙ c.if-not-lengths_hold.true)

pub returns-then-not-is_ok : goal.returns-then-not-is_ok
unfolding fit_front
returns-then-not-is_ok c =
    let whole : Bool =
    let a = c.args in
    (eqb (length a.segments.now % segment_size) 0 && eqb (length a.edges.now % edge_size) 0)
    && (eqb (length a.numbers.now) number_size && eqb (length a.told.now) told_size) in
    let short : Bool =
    let a = c.args in
    (leb (segments_in a.segments.now) most_segments && leb (edges_in a.edges.now) most_edges)
    && eqb (refusal (list_tests a.fonts.now a.originals.now a.currents.now a.touched.now a.weak.now)) 0 in
    let shown : Bool =
    let a = c.args in (segments_shown a.segments.now && edges_shown a.edges.now) && numbers_shown a.numbers.now in
    let are-whole : whole ≡ true = sym c.lengths_hold.ensures ∙ c.if-not-lengths_hold.false in
    let few : Bool = leb (segments_in c.args.segments.now) most_segments && leb (edges_in c.args.edges.now) most_edges in
    let are-few-of : c.if-few_segments.few ≡ few =
    elim c.if-few_segments.branch [
      | then-few_segments w ↦ w.few-is ∙ w.few_edges-few.ensures ∙ then-last _ _ (sym c.few_segments.ensures ∙ w.if-few_segments.true)
      | else-few_segments w ↦ let e = then-not _ (leb (edges_in c.args.edges.now) most_edges) (sym c.few_segments.ensures ∙ w.if-few_segments.false) in cc
    ] in
    let are-short : c.if-few.value ≡ short =
    elim c.if-few.branch [
      | then-few w ↦
          w.value-is ∙ w.is_ok.ensures.value ∙ told-by c.list_refusal-lists.result ∙ ap (λ (k : ℕ). eqb k 0) c.list_refusal-lists.ensures
          ∙ then-last few _ (sym are-few-of ∙ w.if-few.true)
      | else-few w ↦
          let a = c.args in
          let e = then-not few (eqb (refusal (list_tests a.fonts.now a.originals.now a.currents.now a.touched.now a.weak.now)) 0) (sym are-few-of ∙ w.if-few.false) in cc
    ] in
    not_short whole short shown are-whole (sym are-short ∙ c.if-not-is_ok.true)

pub tables_shown-requires : goal.tables_shown-requires
tables_shown-requires c = c.requires

pub returns-then-numbers_shown : goal.returns-then-numbers_shown
unfolding fit_front
returns-then-numbers_shown c =
    let whole : Bool =
    let a = c.args in
    (eqb (length a.segments.now % segment_size) 0 && eqb (length a.edges.now % edge_size) 0)
    && (eqb (length a.numbers.now) number_size && eqb (length a.told.now) told_size) in
    let short : Bool =
    let a = c.args in
    (leb (segments_in a.segments.now) most_segments && leb (edges_in a.edges.now) most_edges)
    && eqb (refusal (list_tests a.fonts.now a.originals.now a.currents.now a.touched.now a.weak.now)) 0 in
    let shown : Bool =
    let a = c.args in (segments_shown a.segments.now && edges_shown a.edges.now) && numbers_shown a.numbers.now in
    let are-whole : whole ≡ true = sym c.lengths_hold.ensures ∙ c.if-not-lengths_hold.false in
    let few : Bool = leb (segments_in c.args.segments.now) most_segments && leb (edges_in c.args.edges.now) most_edges in
    let are-few-of : c.if-few_segments.few ≡ few =
    elim c.if-few_segments.branch [
      | then-few_segments w ↦ w.few-is ∙ w.few_edges-few.ensures ∙ then-last _ _ (sym c.few_segments.ensures ∙ w.if-few_segments.true)
      | else-few_segments w ↦ let e = then-not _ (leb (edges_in c.args.edges.now) most_edges) (sym c.few_segments.ensures ∙ w.if-few_segments.false) in cc
    ] in
    let are-short : c.if-few.value ≡ short =
    elim c.if-few.branch [
      | then-few w ↦
          w.value-is ∙ w.is_ok.ensures.value ∙ told-by c.list_refusal-lists.result ∙ ap (λ (k : ℕ). eqb k 0) c.list_refusal-lists.ensures
          ∙ then-last few _ (sym are-few-of ∙ w.if-few.true)
      | else-few w ↦
          let a = c.args in
          let e = then-not few (eqb (refusal (list_tests a.fonts.now a.originals.now a.currents.now a.touched.now a.weak.now)) 0) (sym are-few-of ∙ w.if-few.false) in cc
    ] in
    let are-few : short ≡ true = sym are-short ∙ c.if-not-is_ok.false in
    let tables : Bool = let a = c.args in segments_shown a.segments.now && edges_shown a.edges.now in
    let are-shown : shown ≡ true =
    sym (then-last tables _ (sym c.tables_shown.ensures ∙ c.if-tables_shown.true)) ∙ sym c.numbers_shown.ensures ∙ c.if-numbers_shown.true in
    all_shown whole short shown are-whole are-few are-shown

pub returns : goal.returns
unfolding fit_front
returns c =
    let whole : Bool =
    let a = c.args in
    (eqb (length a.segments.now % segment_size) 0 && eqb (length a.edges.now % edge_size) 0)
    && (eqb (length a.numbers.now) number_size && eqb (length a.told.now) told_size) in
    let short : Bool =
    let a = c.args in
    (leb (segments_in a.segments.now) most_segments && leb (edges_in a.edges.now) most_edges)
    && eqb (refusal (list_tests a.fonts.now a.originals.now a.currents.now a.touched.now a.weak.now)) 0 in
    let shown : Bool =
    let a = c.args in (segments_shown a.segments.now && edges_shown a.edges.now) && numbers_shown a.numbers.now in
    let are-whole : whole ≡ true = sym c.lengths_hold.ensures ∙ c.if-not-lengths_hold.false in
    let few : Bool = leb (segments_in c.args.segments.now) most_segments && leb (edges_in c.args.edges.now) most_edges in
    let are-few-of : c.if-few_segments.few ≡ few =
    elim c.if-few_segments.branch [
      | then-few_segments w ↦ w.few-is ∙ w.few_edges-few.ensures ∙ then-last _ _ (sym c.few_segments.ensures ∙ w.if-few_segments.true)
      | else-few_segments w ↦ let e = then-not _ (leb (edges_in c.args.edges.now) most_edges) (sym c.few_segments.ensures ∙ w.if-few_segments.false) in cc
    ] in
    let are-short : c.if-few.value ≡ short =
    elim c.if-few.branch [
      | then-few w ↦
          w.value-is ∙ w.is_ok.ensures.value ∙ told-by c.list_refusal-lists.result ∙ ap (λ (k : ℕ). eqb k 0) c.list_refusal-lists.ensures
          ∙ then-last few _ (sym are-few-of ∙ w.if-few.true)
      | else-few w ↦
          let a = c.args in
          let e = then-not few (eqb (refusal (list_tests a.fonts.now a.originals.now a.currents.now a.touched.now a.weak.now)) 0) (sym are-few-of ∙ w.if-few.false) in cc
    ] in
    let are-few : short ≡ true = sym are-short ∙ c.if-not-is_ok.false in
    let tables : Bool = let a = c.args in segments_shown a.segments.now && edges_shown a.edges.now in
    let are-not : shown ≡ false =
    elim c.else-tables_shown.branch [
      | else-tables_shown-via-then-tables_shown+else-numbers_shown w ↦
          sym (then-last tables _ (sym c.tables_shown.ensures ∙ w.if-tables_shown.true)) ∙ sym w.numbers_shown.ensures ∙ w.if-numbers_shown.false
      | else-tables_shown-via-else-tables_shown w ↦ sym (then-not tables (numbers_shown c.args.numbers.now) (sym c.tables_shown.ensures ∙ w.if-tables_shown.false))
    ] in
    not-shown whole short shown are-whole are-few are-not
