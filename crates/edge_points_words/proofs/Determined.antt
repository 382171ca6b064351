-- What the call leaves: it is determined; with a refusal everything is as it was; and a point that no walk leads over keeps its current and its mark.
use Rattle.std.specs.Prelude.{None, Some, Result}
use mathlib.Core.Path.{◌≡◌, refl, sym, subst, ◌∙◌}
use mathlib.Core.Bool.{Bool, true, false, cond}
use mathlib.Core.List.{List, []}
use mathlib.Core.Option.{Option, some, none}
use Prim.Native.Nat.{ℕ, zero, suc, ◌<◌}
use native.Mathlib.Omega.{arith}
use lib.Dec.{eqb}
use lib.IntN.{ℤ}
use Rattle.refusals.specs.declared.order.Refusal.{Refusal}
use Rattle.refusals.specs.Refusal.{answered}
use Rattle.refusals.specs.Outcome.{answer_of}
use Rattle.axis.specs.declared.edge.Edge.{Edge}
use Rattle.axis.specs.declared.edge.Axis.{Axis}
use Rattle.axis.specs.Link.{Link}
use Rattle.axis.specs.declared.segment.Segments.{Segments}
use Rattle.axis.specs.Edge.{edge_at}
use Rattle.axis.specs.Ring.{times}
use Rattle.axis.specs.Segment.{segment_at}
use Rattle.axis.proofs.Visits.{visits-keep}
use Rattle.weak_contour.specs.Contour.{Contour}
use Rattle.weak.specs.Weak.{contour_of}
use Rattle.words.specs.Field.{choice_of}
use Rattle.words.specs.Segment.{flat_segments}
use Rattle.words_call.specs.Lent.{edges_of}
use Rattle.words_call.proofs.Determined.{lent-determined, lent-determined-result}
use Rattle.words_call.proofs.Kept.{not_new}
use Rattle.edge_points.specs.EdgePoints.{Points, move_points, walked, moves, move_segment, along_edge, visit_segment, move_all, edge_answer, edge_result}
use Rattle.edge_points.proofs.Moves.{currents_long, marks_long, current-kept, mark-kept}
use Rattle.edge_points_words.specs.Align.{EdgePointsLent}
use Rattle.edge_points_words.specs.Kept.{walk_on, walk_along, walk_of, Unmet, PointsKept}

-- ---- points kept
kept-all : (free : ℕ → Type 0) (s : Points) → PointsKept free s s
kept-all free s = record { currents_size = refl; marks_size = refl; current = λ p f. refl; mark = λ p f. refl }

kept-moved : (snap : Bool) (e : Edge) (ps : List ℕ) (s : Points) → PointsKept (λ (p : ℕ). times p ps ≡ 0) s (move_points snap e ps s)
kept-moved snap e ps s =
    record {
      currents_size = currents_long snap e ps s;
      marks_size = marks_long snap e ps s;
      current = λ p f. current-kept snap e ps s p f;
      mark = λ p f.
          mark-kept snap e ps s p f;
    }

-- by a visit
visit-kept : (snap alone : Bool) (axis : Axis) (t : Segments) (es : List ℕ) (s : Points) (i : ℕ)
    → PointsKept (λ (p : ℕ). times p (walk_of alone axis t es i) ≡ 0) s (visit_segment snap alone axis t es s i)
unfolding visit_segment along_edge move_segment walk_on walk_along
visit-kept snap alone axis t es s i = by (segment_at t i).edge
  where
    moved : (e : Edge) (ps : List ℕ) (b : Bool) → PointsKept (λ (p : ℕ). times p (cond b ps []) ≡ 0) s (cond b (move_points snap e ps s) s)
    moved e ps true = kept-moved snap e ps s
    moved e ps false = kept-all _ s

    on : (e : Edge) (o : Option Contour) → PointsKept (λ (p : ℕ). times p (walk_on alone (segment_at t i) e o) ≡ 0) s
        (move_segment snap alone (segment_at t i) e o s)
    on e none = kept-all _ s
    on e (some k) = moved e (walked k (segment_at t i).first (segment_at t i).last) (moves alone e)

    by : (l : Link) → PointsKept (λ (p : ℕ). times p (walk_along alone axis es (segment_at t i) l) ≡ 0) s (along_edge snap alone axis es (segment_at t i) l s)
    by None = kept-all _ s
    by (Some k) = on (edge_at axis k) (contour_of 0 es (segment_at t i).first)

-- by all
all-kept : (snap alone : Bool) (axis : Axis) (t : Segments) (es : List ℕ) (s : Points) → PointsKept (Unmet alone axis t es) s (move_all snap alone axis t es s)
all-kept snap alone axis t es s =
    visits-keep (PointsKept (Unmet alone axis t es) s) (visit_segment snap alone axis t es) t.len (λ x i h k. one x i h k) t.len 0 s (omega arith)
    (kept-all _ s)
  where
    one : (x : Points) (i : ℕ) → i < t.len → PointsKept (Unmet alone axis t es) s x
        → PointsKept (Unmet alone axis t es) s (visit_segment snap alone axis t es x i)
    one x i h k =
        let v = visit-kept snap alone axis t es x i in
        record {
          currents_size = v.currents_size ∙ k.currents_size;
          marks_size = v.marks_size ∙ k.marks_size;
          current = λ p f. v.current p (f i h) ∙ k.current p f;
          mark = λ p f. v.mark p (f i h) ∙ k.mark p f;
        }

-- ---- the call
module _ (ws es : List ℤ) (snap alone : ℤ) (ends : List ℕ) (s : Points) where
  -- two outcomes that its promise allows coincide
  pub determined : {r r' : ℕ} {now now' : Points} → EdgePointsLent ws es snap alone ends s r now → EdgePointsLent ws es snap alone ends s r' now'
      → (r ≡ r') × (now ≡ now')
  determined a b = lent-determined a b

  -- and so do two results
  pub determined-result : {r r' : Result (Unit {0}) Refusal} {now now' : Points}
      → EdgePointsLent ws es snap alone ends s (answer_of r) now → EdgePointsLent ws es snap alone ends s (answer_of r') now' → (r ≡ r') × (now ≡ now')
  determined-result {r} {r'} a b = lent-determined-result {r = r} {r' = r'} a b

  abbrev new : Points
  new = edge_result (choice_of snap) (choice_of alone) (edges_of es) (flat_segments ws) s ends

  -- a refusal leaves every point and every mark
  pub refused-left : {r : ℕ} {now : Points} → EdgePointsLent ws es snap alone ends s r now → 0 < r → now ≡ s
  refused-left {r} {now} l h = by r h l.held
    where
      by : (r : ℕ) → 0 < r → now ≡ cond (eqb r 0) new s → now ≡ s
      by zero h e = absurd (omega arith)
      by (suc k) h e = e ∙ not_new k new s

  -- a point that no walk leads over keeps its current and its mark
  new-kept : PointsKept (Unmet (choice_of alone) (edges_of es) (flat_segments ws) ends) s new
  unfolding edge_result
  new-kept = by (edge_answer (choice_of alone) (edges_of es) (flat_segments ws) s ends)
    where
      by : (k : ℕ) → PointsKept (Unmet (choice_of alone) (edges_of es) (flat_segments ws) ends) s
          (answered k (λ _. s) (move_all (choice_of snap) (choice_of alone) (edges_of es) (flat_segments ws) ends s))
      by zero = all-kept (choice_of snap) (choice_of alone) (edges_of es) (flat_segments ws) ends s
      by (suc k) = kept-all _ s

  pub points_kept : {r : ℕ} {now : Points} → EdgePointsLent ws es snap alone ends s r now
      → PointsKept (Unmet (choice_of alone) (edges_of es) (flat_segments ws) ends) s now
  points_kept {r} {now} l = by (eqb r 0) l.held
    where
      by : (b : Bool) → now ≡ cond b new s → PointsKept (Unmet (choice_of alone) (edges_of es) (flat_segments ws) ends) s now
      by true e = subst (PointsKept (Unmet (choice_of alone) (edges_of es) (flat_segments ws) ends) s) (sym e) new-kept
      by false e = subst (PointsKept (Unmet (choice_of alone) (edges_of es) (flat_segments ws) ends) s) (sym e) (kept-all _ s)
