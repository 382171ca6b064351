-- The calls on the points of an axis in a row: edge points, strong points, weak points, each as its own call is defined on what the one before left. The first that refuses ends the row. The
-- words of segments are ss and those of the fitted edges ws; an outline is its points' font positions f, originals o, weak marks w, currents and touch marks s, and contour ends es.
use Rattle.std.specs.Prelude.{List, ℕ, ℤ}
use Rattle.refusals.specs.Refusal.{refusal, answered}
use Rattle.weak.specs.Weak.{weak_tests, result}
use Rattle.edge_points.specs.EdgePoints.{Points, edge_answer, edge_result}
use Rattle.strong.specs.Strong.{Aligned, align_strong}
use Rattle.words.specs.Segment.{flat_segments}
use Rattle.words_call.specs.Lent.{edges_of}
use Rattle.fit.specs.declared.numbers.Numbers.{Numbers}

-- an answer, and the points that are left
pub record LeftPoints : Type 0 where
  pub answer : ℕ
  pub points : Points

-- a call refuses these points
abbrev pub halted : Points → ℕ → LeftPoints
halted s k = record { answer = k; points = s }

-- ---- weak points
abbrev pub then_weak : List ℤ → List ℕ → Points → LeftPoints
then_weak o es s = record {
  answer = refusal (weak_tests o s.currents s.touched es);
  points = record { currents = result o s.currents s.touched es; touched = s.touched };
}

-- ---- strong points
abbrev pub behind_strong : List ℤ → List ℕ → Points → Aligned → LeftPoints
behind_strong o es s a = answered a.answer (halted s) (then_weak o es (record { currents = a.currents; touched = a.touched }))

unfoldable pub then_strong : List ℤ → List ℤ → List ℤ → List ℕ → List ℕ → Points → LeftPoints
then_strong ws f o w es s = behind_strong o es s (align_strong (edges_of ws) f o s.currents s.touched w)

-- ---- edge points, and all behind them
unfoldable pub fit_points : Numbers → List ℤ → List ℤ → List ℤ → List ℤ → List ℕ → List ℕ → Points → LeftPoints
fit_points n ss ws f o w es s =
    answered (edge_answer n.alone (edges_of ws) (flat_segments ss) s es) (halted s)
    (then_strong ws f o w es (edge_result n.snap n.alone (edges_of ws) (flat_segments ss) s es))
