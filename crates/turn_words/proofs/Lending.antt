-- The converter by its tests and its two passes.
use mathlib.Core.Path.{◌≡◌, refl, sym, ap, subst, ◌∙◌}
use mathlib.Core.Bool.{Bool, true, false, cond, ◌&&◌}
use mathlib.Core.List.{List, [], ◌∷◌}
use Prim.Native.Nat.{ℕ, ◌%◌, ◌≤◌, ◌<◌}
use native.Mathlib.Omega.{arith}
use borrow.Author.Tests.{leb-true}
use lib.Dec.{eqb, leb}
use lib.ListN.{length}
use lib.IntN.{ℤ}
use Rattle.refusals.specs.Refusal.{Test, ◌unless◌, too_long, refusal, answered}
use Rattle.refusals.proofs.Tests.{and_first, and_second, all_hold}
use Rattle.axis.specs.declared.edge.Axis.{Axis}
use Rattle.axis.specs.declared.segment.Segments.{Segments}
use Rattle.axis.specs.Limits.{most_edges, most_segments}
use Rattle.axis.specs.Refusals.{edges_indices}
use Rattle.turn.specs.Answer.{Turned}
use Rattle.turn.specs.Indices.{segments_edges}
use Rattle.turn.specs.Turning.{turned_axis, turned_segments, turning_tests, beside, turn_over}
use Rattle.turn.proofs.Calls.{Taken, took}
use Rattle.words.specs.Edge.{edge_size, edges_in, edges_over}
use Rattle.words.specs.Segment.{segment_size, segments_in, flat_segments, segments_over}
use Rattle.words_shape.specs.Shape.{edges_shown, segments_shown}
use Rattle.words_call.specs.Lent.{not_words, refused_or, edges_of}
use Rattle.words_edge.specs.Whole as E
use Rattle.words_edge.proofs.Wholes.{shown-whole, edges-len}
use Rattle.words_edge_test.proofs.Calls.{lent-refused, lent-done}
use Rattle.words_segment.specs.Whole as S
use Rattle.words_segment.proofs.Wholes.{shown-whole as segments_whole}
use Rattle.turn_words.specs.Lent.{turn_front, turned_words, TurnedLent}

-- ---- the tests in front
-- two tests by one number are one
two-as-one : (a b : Bool) (n : ℕ) (ts us : List Test) → refusal ts ≡ refusal us → refusal (n unless a ∷ n unless b ∷ ts) ≡ refusal (n unless (a && b) ∷ us)
unfolding refusal
two-as-one true b n ts us e = ap (λ (k : ℕ). cond b k n) e
two-as-one false b n ts us e = refl

-- the tests of each list by itself
pub each-test : (ws es : List ℤ)
    → refusal (not_words unless eqb (length ws % segment_size) 0 ∷ not_words unless eqb (length es % edge_size) 0 ∷ too_long unless leb (segments_in ws) most_segments
    ∷ too_long unless leb (edges_in es) most_edges ∷ not_words unless segments_shown ws ∷ not_words unless edges_shown es ∷ [])
    ≡ refusal (turn_front ws es)
unfolding turn_front
each-test ws es =
    two-as-one (eqb (length ws % segment_size) 0) (eqb (length es % edge_size) 0) not_words _ _
    (two-as-one (leb (segments_in ws) most_segments) (leb (edges_in es) most_edges) too_long _ _
    (two-as-one (segments_shown ws) (edges_shown es) not_words [] [] refl))

-- what they say where none refuses
pub record Shown (ws es : List ℤ) : Type 0 where
  pub few-segments : segments_in ws ≤ most_segments
  pub few-edges : edges_in es ≤ most_edges
  pub segments-shown : segments_shown ws ≡ true
  pub edges-shown : edges_shown es ≡ true

pub all_shown : (ws es : List ℤ) → refusal (turn_front ws es) ≡ 0 → Shown ws es
unfolding turn_front
all_shown ws es e =
    let h = all_hold (turn_front ws es) refl e in
    record {
      few-segments = leb-true (segments_in ws) most_segments (and_first _ _ h.1.0);
      few-edges = leb-true (edges_in es) most_edges (and_second (leb (segments_in ws) most_segments) _ h.1.0);
      segments-shown = and_first (segments_shown ws) _ h.1.1.0;
      edges-shown = and_second (segments_shown ws) _ h.1.1.0;
    }

-- ---- behind them
module _ (ws es : List ℤ) {k r : ℕ} (f : k ≡ refusal (turn_front ws es)) (none : k ≤ 0) (e : r ≡ refusal (turning_tests (edges_of es) (flat_segments ws))) where
  abbrev A : Axis
  A = edges_of es

  abbrev T : Segments
  T = flat_segments ws

  in_front : refusal (turn_front ws es) ≡ 0
  in_front = let z : k ≡ 0 = omega arith in sym f ∙ z

  shown : Shown ws es
  shown = all_shown ws es in_front

  numbered : r ≡ refused_or (turn_front ws es) (refusal (turning_tests A T))
  unfolding refused_or
  numbered = e ∙ ap (λ (j : ℕ). answered j (λ (i : ℕ). i) (refusal (turning_tests A T))) (sym in_front)

  -- a test refuses
  pub refuses : 0 < r → TurnedLent ws es r (ws, es)
  unfolding turn_over
  refuses h =
      lent-refused (turn_front ws es) (refusal (turning_tests A T)) numbered (λ (x : Turned). x.answer) (turned_words ws es) (turning_tests A T) (beside A T)
      (beside (turned_axis A) (turned_segments A.len T) 0) (λ (j : ℕ). refl) refl (λ q. refl) h

  -- none does: what each pass needs
  module _ (h : r ≤ 0) where
    tests : Taken A T
    tests = took A T r e h

    pub segments-ready : S.Whole ws × (edges_in es ≤ most_edges) × (segments_edges (edges_in es) T ≡ true)
    segments-ready = (
      segments_whole ws shown.segments-shown shown.few-segments,
      shown.few-edges,
      subst (λ (m : ℕ). segments_edges m T ≡ true) (edges-len es) tests.to_edges,
    )

    pub edges-ready : E.Whole es × (edges_indices A ≡ true)
    edges-ready = (shown-whole es shown.edges-shown shown.few-edges, tests.edges.indexed)

    -- and what both make
    pub turns : {ws' es' : List ℤ} → ws' ≡ segments_over ws (turned_segments (edges_in es) T) → es' ≡ edges_over es (turned_axis A) → TurnedLent ws es 0 (ws', es')
    unfolding turn_over
    turns p q =
        let s = p ∙ ap (λ (m : ℕ). segments_over ws (turned_segments m T)) (sym (edges-len es)) in
        lent-done (turn_front ws es) (refusal (turning_tests A T)) numbered (λ (x : Turned). x.answer) (turned_words ws es) (turning_tests A T) (beside A T)
        (beside (turned_axis A) (turned_segments A.len T) 0) (λ (j : ℕ). refl) refl (λ x. refl) h (λ i. (s i, q i))
