-- What each row needs, where no test of the call refuses what is given and lent.
use mathlib.Core.Path.{◌≡◌, refl, sym, ap, ◌∙◌}
use mathlib.Core.Bool.{Bool, true, false}
use mathlib.Core.List.{List}
use Prim.Native.Nat.{ℕ, ◌≤◌}
use native.Mathlib.Omega.{arith}
use borrow.Author.Tests.{leb-true, eqb-true}
use lib.ListN.{length}
use lib.IntN.{ℤ}
use Rattle.refusals.specs.Refusal.{refusal}
use Rattle.refusals.proofs.Tests.{AllHold, all_hold, no-refusal}
use Rattle.axis.specs.declared.edge.Axis.{Axis}
use Rattle.axis.specs.Handed.{EdgesAccepted}
use Rattle.axis.specs.Refusals.{edges_indices, edges_numbers}
use Rattle.weak_contour.specs.Limits.{most_points}
use Rattle.weak.specs.Weak.{ends_hold}
use Rattle.turn.specs.Indices.{index_tests, segments_edges, edges_segments}
use Rattle.zones_stems.specs.Joined.{joined_tests}
use Rattle.words.specs.Edge.{axis_run, flat_axis}
use Rattle.words.specs.Segment.{flat_segments}
use Rattle.words_call.specs.Lent.{edges_of}
use Rattle.words_edge.specs.Whole as Edges
use Rattle.strong.specs.Strong.{list_tests}
use Rattle.fit.specs.declared.numbers.Numbers.{Numbers}
use Rattle.fit.specs.Fit.{Given, Fitted, fit_tests}
use Rattle.fit_edges_words.specs.Row.{Kin, Begun}
use Rattle.fit_edges_words.proofs.Kin.{kin-segments}
use Rattle.fit_points_words.specs.Row.{Ready}
use Rattle.fit_back_words.specs.Back.{Accepted}

module _ (n : Numbers) (g : Given) (l : Fitted) (a : Accepted n g l) where
  tests-hold : AllHold (fit_tests n g l)
  tests-hold = all_hold (fit_tests n g l) refl a.tests

  lists-hold : AllHold (list_tests g.fonts g.originals l.points.currents l.points.touched g.weak)
  lists-hold = all_hold (list_tests g.fonts g.originals l.points.currents l.points.touched g.weak) refl a.lists

  -- the row of the edges
  pub edges-begun : Begun n g.standards l.edges
  unfolding edges_indices edges_numbers flat_axis axis_run
  edges-begun =
      let t = tests-hold in
      let i = t.1.1.1 in
      let r = i.1.1.1.1.1.1.1.1.1.1 in
      record {
        whole = a.edges;
        tests =
            no-refusal (joined_tests _ n.group false n.rule g.standards) (i.1.0, (refl, (t.0, (t.1.1.0, (i.1.1.1.1.1.0, (r.0, refl))))));
        least = t.1.0;
      }

  same_count : length g.originals ≡ length l.points.currents
  same_count =
      let k = lists-hold in
      eqb-true (length g.originals) (length g.fonts) k.1.0 ∙ sym (eqb-true (length l.points.currents) (length g.fonts) k.1.1.0)

  pub few-points : length l.points.currents ≤ most_points
  few-points =
      let k = lists-hold in
      omega (arith, leb-true (length g.fonts) most_points k.0, eqb-true (length l.points.currents) (length g.fonts) k.1.1.0)

  pub same-marks : length l.points.touched ≡ length l.points.currents
  same-marks =
      let k = lists-hold in
      eqb-true (length l.points.touched) (length g.fonts) k.1.1.1.0
      ∙ sym (eqb-true (length l.points.currents) (length g.fonts) k.1.1.0)

  -- the row of the points, by fitted edges
  pub points-ready : {ws : List ℤ} → Edges.Whole ws → EdgesAccepted (edges_of ws) → Kin (edges_of l.edges) (edges_of ws)
      → Ready g.segments ws g.fonts g.originals g.weak g.ends l.points
  points-ready {ws} w e k =
      let i = tests-hold.1.1.1 in
      let r = i.1.1.1.1.1.1.1 in
      record {
        segments = a.segments;
        strong =
            record {
              whole = w;
              edges = e;
              lists = a.lists;
              contours = ap (λ (m : ℕ). ends_hold 0 m g.ends) (sym same_count)
                  ∙ r.0;
              originals = r.1.1.1.1.0;
            };
        indices =
            no-refusal (index_tests (edges_of ws) (flat_segments g.segments)) (
              i.0,
              (
                e.short,
                (
                  i.1.1.0,
                  (
                    i.1.1.1.0,
                    (
                      ap (λ (m : ℕ). segments_edges m (flat_segments g.segments)) k.len
                          ∙ i.1.1.1.1.0,
                      (e.indexed, (kin-segments k (flat_segments g.segments).len ∙ i.1.1.1.1.1.1.0, refl)),
                    ),
                  ),
                ),
              ),
            );
        on_one = r.1.0;
        in_range = r.1.1.0;
        near = r.1.1.1.1.1.0;
      }
