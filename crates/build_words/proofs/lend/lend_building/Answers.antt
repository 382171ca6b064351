-- `build_words::lend::lend_building` meets its contract.
use mathlib.Core.Path.{◌≡◌, refl, sym, ap, subst, ◌∙◌}
use mathlib.Core.Bool.{◌&&◌}
use Prim.Native.Nat.{ℕ, ◌≤◌, ◌<◌}
use lib.IntN.{ℤ, pos}
use mir.Syntax.{w32}
use mir.Val.{to_z, of_z}
use Rattle.signed.proofs.By.{by₂, by₃}
use Rattle.signed.proofs.Signed.{is}
use native.Mathlib.Omega.{arith}
use Rattle.refusals.specs.Outcome.{answer_of}
use Rattle.refusals.specs.Refusal.{refusal}
use Rattle.refusals.proofs.Outcomes.{number-above, exit-answer}
use Rattle.axis.specs.Limits.{most_segments}
use Rattle.build.specs.Building.{numbers_hold, products_hold, is_cjk, rules_of}
use Rattle.words.specs.Field.{choice_of, dimension_of, direction_of, group_of}
use Rattle.words.specs.Segment.{segments_in, flat_segments}
use Rattle.words.proofs.Fields.{kept}
use Rattle.words_shape.specs.Shape.{is_in, direction}
use Rattle.words_call.specs.Lent.{choices}
use Rattle.words_call.proofs.Counting.{count-is}
use Rattle.build_words.proofs.Lending.{own_tests, TestedBuilding, numbers-hold, building-ready, building-refused, building-full, building-done}
use Rattle.words_edge_test.proofs.Answers.{second-asked, first-fails}
use Rattle.build_words.proofs.lend.lend_building.Goals.{then-is_in, else-is_in}
use Rattle.build_words.proofs.lend.lend_building.Goals as goal

pub returns-in_err-segments_test : goal.returns-in_err-segments_test
returns-in_err-segments_test c =
    let found : TestedBuilding c.args.segments.now c.args.edges.now c.args.dim c.args.major_dir c.args.group c.args.top_to_bottom c.args.scale c.args.thresholds (answer_of c.from_residual.result) =
    record {
      right = _;
      others = c.if-is_in.others;
      own = _;
      products = c.products_hold-products.result;
      right_is = refl;
      others_are =
          let first = c.is_in.ensures ∙ ap (is_in direction) (is c.ranges.major_dir) in
          elim c.if-is_in.branch [
            | then-is_in w ↦ second-asked w.if-is_in.true w.others-is first
                (by₃ choices w.are_choices-others.ensures (is c.ranges.dim) (is c.ranges.group) (is c.ranges.top_to_bottom))
            | else-is_in w ↦ first-fails (choices c.args.dim c.args.group c.args.top_to_bottom) w.if-is_in.false w.others-is first
          ];
      own_is = record {
        refused = c.own_refusal-own.ensures
            ∙ (λ i. refusal (own_tests ((c.choice_of.ensures ∙ ap choice_of (is c.ranges.top_to_bottom)) i) (is c.ranges.scale i) c.args.thresholds));
        numbers = refl;
      };
      products_are =
          λ (h : segments_in c.args.segments.now ≤ most_segments). c.products_hold-products.ensures h
          ∙ ap (products_hold (flat_segments c.args.segments.now)) (is c.ranges.scale);
      answer = exit-answer _ _ c.from_residual.ensures.1 ∙ c.in_err-segments_test.ensures;
    } in
    let a = c.args in
    building-refused a.segments.now a.edges.now a.dim a.major_dir a.group a.top_to_bottom a.scale a.thresholds found a.count.now
    (subst (λ (k : ℕ). 0 < k) (sym (exit-answer _ _ c.from_residual.ensures.1)) (number-above _))

pub rules_of-rules-requires : goal.rules_of-rules-requires
rules_of-rules-requires c =
    let found : TestedBuilding c.args.segments.now c.args.edges.now c.args.dim c.args.major_dir c.args.group c.args.top_to_bottom c.args.scale c.args.thresholds 0 =
    record {
      right = _;
      others = c.if-is_in.others;
      own = _;
      products = c.products_hold-products.result;
      right_is = refl;
      others_are =
          let first = c.is_in.ensures ∙ ap (is_in direction) (is c.ranges.major_dir) in
          elim c.if-is_in.branch [
            | then-is_in w ↦ second-asked w.if-is_in.true w.others-is first
                (by₃ choices w.are_choices-others.ensures (is c.ranges.dim) (is c.ranges.group) (is c.ranges.top_to_bottom))
            | else-is_in w ↦ first-fails (choices c.args.dim c.args.group c.args.top_to_bottom) w.if-is_in.false w.others-is first
          ];
      own_is = record {
        refused = c.own_refusal-own.ensures
            ∙ (λ i. refusal (own_tests ((c.choice_of.ensures ∙ ap choice_of (is c.ranges.top_to_bottom)) i) (is c.ranges.scale i) c.args.thresholds));
        numbers = refl;
      };
      products_are =
          λ (h : segments_in c.args.segments.now ≤ most_segments). c.products_hold-products.ensures h
          ∙ ap (products_hold (flat_segments c.args.segments.now)) (is c.ranges.scale);
      answer = c.in_ok-segments_test.ensures;
    } in
    let a = c.args in
    ap (λ (z : ℤ). numbers_hold z a.thresholds) (is c.ranges.scale)
    ∙ numbers-hold a.segments.now a.edges.now a.dim a.major_dir a.group a.top_to_bottom a.scale a.thresholds found (omega arith)

pub build_in-joined-requires : goal.build_in-joined-requires
build_in-joined-requires c =
    let found : TestedBuilding c.args.segments.now c.args.edges.now c.args.dim c.args.major_dir c.args.group c.args.top_to_bottom c.args.scale c.args.thresholds 0 =
    record {
      right = _;
      others = c.if-is_in.others;
      own = _;
      products = c.products_hold-products.result;
      right_is = refl;
      others_are =
          let first = c.is_in.ensures ∙ ap (is_in direction) (is c.ranges.major_dir) in
          elim c.if-is_in.branch [
            | then-is_in w ↦ second-asked w.if-is_in.true w.others-is first
                (by₃ choices w.are_choices-others.ensures (is c.ranges.dim) (is c.ranges.group) (is c.ranges.top_to_bottom))
            | else-is_in w ↦ first-fails (choices c.args.dim c.args.group c.args.top_to_bottom) w.if-is_in.false w.others-is first
          ];
      own_is = record {
        refused = c.own_refusal-own.ensures
            ∙ (λ i. refusal (own_tests ((c.choice_of.ensures ∙ ap choice_of (is c.ranges.top_to_bottom)) i) (is c.ranges.scale i) c.args.thresholds));
        numbers = refl;
      };
      products_are =
          λ (h : segments_in c.args.segments.now ≤ most_segments). c.products_hold-products.ensures h
          ∙ ap (products_hold (flat_segments c.args.segments.now)) (is c.ranges.scale);
      answer = c.in_ok-segments_test.ensures;
    } in
    let rules-are : c.rules_of-rules.result
    ≡ rules_of (dimension_of c.args.dim) (direction_of c.args.major_dir)
    (is_cjk (group_of c.args.group))
    c.args.scale c.args.thresholds = c.rules_of-rules.ensures
    ∙ (λ i. rules_of ((c.dimension_of.ensures ∙ ap dimension_of (is c.ranges.dim)) i)
    ((c.direction_of.ensures ∙ ap direction_of (is c.ranges.major_dir)) i)
    ((c.is_cjk.ensures ∙ ap is_cjk (c.group_of.ensures ∙ ap group_of (is c.ranges.group))) i) (is c.ranges.scale i) c.args.thresholds) in
    let a = c.args in
    building-ready a.segments.now a.edges.now a.dim a.major_dir a.group a.top_to_bottom a.scale a.thresholds found
    (omega arith) rules-are

pub returns-then-joined : goal.returns-then-joined
returns-then-joined c =
    let found : TestedBuilding c.args.segments.now c.args.edges.now c.args.dim c.args.major_dir c.args.group c.args.top_to_bottom c.args.scale c.args.thresholds 0 =
    record {
      right = _;
      others = c.if-is_in.others;
      own = _;
      products = c.products_hold-products.result;
      right_is = refl;
      others_are =
          let first = c.is_in.ensures ∙ ap (is_in direction) (is c.ranges.major_dir) in
          elim c.if-is_in.branch [
            | then-is_in w ↦ second-asked w.if-is_in.true w.others-is first
                (by₃ choices w.are_choices-others.ensures (is c.ranges.dim) (is c.ranges.group) (is c.ranges.top_to_bottom))
            | else-is_in w ↦ first-fails (choices c.args.dim c.args.group c.args.top_to_bottom) w.if-is_in.false w.others-is first
          ];
      own_is = record {
        refused = c.own_refusal-own.ensures
            ∙ (λ i. refusal (own_tests ((c.choice_of.ensures ∙ ap choice_of (is c.ranges.top_to_bottom)) i) (is c.ranges.scale i) c.args.thresholds));
        numbers = refl;
      };
      products_are =
          λ (h : segments_in c.args.segments.now ≤ most_segments). c.products_hold-products.ensures h
          ∙ ap (products_hold (flat_segments c.args.segments.now)) (is c.ranges.scale);
      answer = c.in_ok-segments_test.ensures;
    } in
    let rules-are : c.rules_of-rules.result
    ≡ rules_of (dimension_of c.args.dim) (direction_of c.args.major_dir)
    (is_cjk (group_of c.args.group))
    c.args.scale c.args.thresholds = c.rules_of-rules.ensures
    ∙ (λ i. rules_of ((c.dimension_of.ensures ∙ ap dimension_of (is c.ranges.dim)) i)
    ((c.direction_of.ensures ∙ ap direction_of (is c.ranges.major_dir)) i)
    ((c.is_cjk.ensures ∙ ap is_cjk (c.group_of.ensures ∙ ap group_of (is c.ranges.group))) i) (is c.ranges.scale i) c.args.thresholds) in
    let a = c.args in
    building-full a.segments.now a.edges.now a.dim a.major_dir a.group a.top_to_bottom a.scale a.thresholds found
    a.count.now (omega arith) rules-are
    c.build_in-joined.ensures c.if-joined.true

pub returns : goal.returns
returns c =
    let found : TestedBuilding c.args.segments.now c.args.edges.now c.args.dim c.args.major_dir c.args.group c.args.top_to_bottom c.args.scale c.args.thresholds 0 =
    record {
      right = _;
      others = c.if-is_in.others;
      own = _;
      products = c.products_hold-products.result;
      right_is = refl;
      others_are =
          let first = c.is_in.ensures ∙ ap (is_in direction) (is c.ranges.major_dir) in
          elim c.if-is_in.branch [
            | then-is_in w ↦ second-asked w.if-is_in.true w.others-is first
                (by₃ choices w.are_choices-others.ensures (is c.ranges.dim) (is c.ranges.group) (is c.ranges.top_to_bottom))
            | else-is_in w ↦ first-fails (choices c.args.dim c.args.group c.args.top_to_bottom) w.if-is_in.false w.others-is first
          ];
      own_is = record {
        refused = c.own_refusal-own.ensures
            ∙ (λ i. refusal (own_tests ((c.choice_of.ensures ∙ ap choice_of (is c.ranges.top_to_bottom)) i) (is c.ranges.scale i) c.args.thresholds));
        numbers = refl;
      };
      products_are =
          λ (h : segments_in c.args.segments.now ≤ most_segments). c.products_hold-products.ensures h
          ∙ ap (products_hold (flat_segments c.args.segments.now)) (is c.ranges.scale);
      answer = c.in_ok-segments_test.ensures;
    } in
    let rules-are : c.rules_of-rules.result
    ≡ rules_of (dimension_of c.args.dim) (direction_of c.args.major_dir)
    (is_cjk (group_of c.args.group))
    c.args.scale c.args.thresholds = c.rules_of-rules.ensures
    ∙ (λ i. rules_of ((c.dimension_of.ensures ∙ ap dimension_of (is c.ranges.dim)) i)
    ((c.direction_of.ensures ∙ ap direction_of (is c.ranges.major_dir)) i)
    ((c.is_cjk.ensures ∙ ap is_cjk (c.group_of.ensures ∙ ap group_of (is c.ranges.group))) i) (is c.ranges.scale i) c.args.thresholds) in
    let count-word-is : to_z w32 (of_z w32 c.count_word.result) ≡ pos c.build_in-joined.result.count = let w = c.count_word in kept w32 w.result w.type_inv ∙ w.ensures ∙ count-is _ c.build_in-joined.ensures.few in
    let a = c.args in
    building-done a.segments.now a.edges.now a.dim a.major_dir a.group a.top_to_bottom a.scale a.thresholds found
    a.count.now (omega arith) rules-are
    c.build_in-joined.ensures c.if-joined.false count-word-is
