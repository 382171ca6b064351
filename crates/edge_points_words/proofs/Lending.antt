-- The call by its tests and its pass.
use mathlib.Core.Path.{◌≡◌, refl, sym, ap, ◌∙◌}
use mathlib.Core.Bool.{Bool, ◌&&◌}
use mathlib.Core.List.{List}
use Prim.Native.Nat.{ℕ, ◌≤◌, ◌<◌}
use native.Mathlib.Omega.{arith}
use borrow.Author.Tests.{leb-true, eqb-true, ne_eqb}
use lib.Dec.{leb}
use lib.ListN.{length}
use lib.IntN.{ℤ}
use Rattle.signed.proofs.Signed.{nat_abs-is}
use Rattle.refusals.specs.Refusal.{refusal}
use Rattle.refusals.proofs.Tests.{and_first, and_second, all_hold, answered-yes}
use Rattle.axis.specs.Limits.{most_edges, most_segments}
use Rattle.axis.proofs.Acceptance.{axis-within}
use Rattle.weak_contour.specs.Limits.{most_points, most_coordinate}
use Rattle.weak_contour.specs.Contour.{at}
use Rattle.weak.proofs.Refusals.{coordinates-of}
use Rattle.turn.specs.Indices.{segments_edges}
use Rattle.words.specs.Edge.{edges_in}
use Rattle.words.specs.Field.{choice_of}
use Rattle.words.specs.Segment.{segments_in, flat_segments}
use Rattle.words_shape.specs.Shape.{edges_shown, segments_shown}
use Rattle.words_call.specs.Lent.{edges_of}
use Rattle.words_call.proofs.Lents.{passed_first}
use Rattle.words_edge.specs.Whole as E
use Rattle.words_edge.proofs.Wholes.{shown-whole, edges-len}
use Rattle.words_segment.specs.Whole as S
use Rattle.words_segment.proofs.Wholes.{shown-whole as segments_whole}
use Rattle.edge_points.specs.EdgePoints.{Points, move_all, points_tests, edge_answer, edge_result}
use Rattle.edge_points.specs.Steps.{reached, Reach}
use Rattle.edge_points_words.specs.Align.{points_front, EdgePointsLent}
use Rattle.edge_points_words.specs.Steps.{Accepted}

-- ---- the tests in front
-- what they say where none refuses
pub record Shown (ws es c : List ℤ) (t : List ℕ) : Type 0 where
  pub segments : S.Whole ws
  pub edges : E.Whole es
  pub few : length c ≤ most_points
  pub same : length t ≡ length c

pub all_shown : (ws es : List ℤ) (snap alone : ℤ) (c : List ℤ) (t : List ℕ) → refusal (points_front ws es snap alone c t) ≡ 0 → Shown ws es c t
unfolding points_front
all_shown ws es snap alone c t e =
    let h = all_hold (points_front ws es snap alone c t) refl e in
    let tables = and_first (leb (segments_in ws) most_segments && leb (edges_in es) most_edges) _ h.1.0 in
    let lists = and_second (leb (segments_in ws) most_segments && leb (edges_in es) most_edges) _ h.1.0 in
    let words = and_first (segments_shown ws && edges_shown es) _ h.1.1.0 in
    record {
      segments = segments_whole ws (and_first (segments_shown ws) _ words) (leb-true (segments_in ws) most_segments (and_first _ _ tables));
      edges = shown-whole es (and_second (segments_shown ws) _ words) (leb-true (edges_in es) most_edges (and_second (leb (segments_in ws) most_segments) _ tables));
      few = leb-true (length c) most_points (and_first _ _ lists);
      same = eqb-true (length t) (length c) (and_second (leb (length c) most_points) _ lists);
    }

-- ---- behind them
module _ (ws es : List ℤ) (snap alone : ℤ) (ends : List ℕ) (s : Points) {k : ℕ} (f : k ≡ refusal (points_front ws es snap alone s.currents s.touched))
    (none : k ≤ 0) where
  pub shown : Shown ws es s.currents s.touched
  shown = let z : k ≡ 0 = omega arith in all_shown ws es snap alone s.currents s.touched (sym f ∙ z)

  module _ {b : Bool} {r : ℕ} (q : b ≡ choice_of alone) (e : r ≡ refusal (points_tests b (edges_of es) (flat_segments ws) s ends)) where
    answers : r ≡ edge_answer (choice_of alone) (edges_of es) (flat_segments ws) s ends
    unfolding edge_answer
    answers = e ∙ ap (λ (x : Bool). refusal (points_tests x (edges_of es) (flat_segments ws) s ends)) q

    -- a test refuses
    pub refuses : 0 < r → EdgePointsLent ws es snap alone ends s r s
    refuses h = record { number = passed_first _ f none answers; held = rw (ne_eqb r 0 (λ z. omega arith)) }

    -- none does: what the pass needs
    module _ (h : r ≤ 0) where
      pub accepted : Accepted ws es b (length s.currents) ends
      accepted =
          let z : r ≡ 0 = omega arith in
          let t = all_hold (points_tests b (edges_of es) (flat_segments ws) s ends) refl (sym e ∙ z) in
          let i = t.1.1 in
          let o = i.1.1.1.1.1.1.1 in
          record {
            segments = shown.segments;
            edges = shown.edges;
            few = shown.few;
            to_edges = ap (λ (m : ℕ). segments_edges m (flat_segments ws)) (sym (edges-len es)) ∙ i.1.1.1.1.0;
            in_range = axis-within (edges_of es) i.1.0 i.1.1.1.1.1.0 o.1.1.1.0;
            contours = o.0;
            on_one = o.1.0;
            movers = o.1.1.1.1.1.0;
          }

      pub near : Reach (reached 0) s.currents
      near j =
          let z : r ≡ 0 = omega arith in
          let t = all_hold (points_tests b (edges_of es) (flat_segments ws) s ends) refl (sym e ∙ z) in
          let n = coordinates-of most_coordinate s.currents t.1.1.1.1.1.1.1.1.1.1.1.1.1.0 j in
          omega (arith, nat_abs-is (at s.currents j), n)

      -- and what it makes
      pub moved : {c : Bool} (x : Points) → c ≡ choice_of snap → x ≡ move_all c b (edges_of es) (flat_segments ws) ends s
          → EdgePointsLent ws es snap alone ends s 0 x
      unfolding edge_result
      moved {c} x p m =
          let z : 0 ≡ r = omega arith in
          record {
            number = passed_first _ f none (z ∙ answers);
            held = answered-yes r _ (λ _. s) _ x answers h (m ∙ (λ y. move_all (p y) (q y) (edges_of es) (flat_segments ws) ends s));
          }
