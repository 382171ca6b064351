-- Both rows on what is lent: what they need, and what is left beside a refusal and without one.
use Rattle.std.specs.Prelude.{◌≡◌, List, ℕ, ◌<◌, length, ℤ}
use Rattle.refusals.specs.Refusal.{refusal}
use Rattle.edge_points.specs.EdgePoints.{Points}
use Rattle.strong.specs.Strong.{list_tests}
use Rattle.words_edge.specs.Whole as Edges
use Rattle.words_segment.specs.Whole as Segments
use Rattle.fit.specs.declared.numbers.Numbers.{Numbers}
use Rattle.fit.specs.Answer.{FittedEdges}
use Rattle.fit.specs.Edges.{Left}
use Rattle.fit.specs.Points.{LeftPoints}
use Rattle.fit.specs.Fit.{Given, Fitted, told_size, fit_tests, fit_in_row}
use Rattle.fit_edges_words.specs.Row.{Gone}

-- ---- what they need
-- no test refuses what is given and lent
pub record Accepted (n : Numbers) (g : Given) (l : Fitted) : Type 0 where
  pub segments : Segments.Whole g.segments
  pub edges : Edges.Whole l.edges
  pub lists : refusal (list_tests g.fonts g.originals l.points.currents l.points.touched g.weak) ≡ 0
  pub tests : refusal (fit_tests n g l) ≡ 0
  pub told : length l.told ≡ told_size

-- rooms for copies of what is changed
pub record Rooms (edges currents : List ℤ) (touched : List ℕ) (room spare : List ℤ) (marks : List ℕ) : Type 0 where
  pub edges_long : length room ≡ length edges
  pub currents_long : length spare ≡ length currents
  pub marks_long : length marks ≡ length touched

-- ---- what they leave
-- the row d of the edges: a room holds the words as they came, which are left beside a refusal
pub record EdgesBack (d : Left) (r : FittedEdges) (ws ws' room : List ℤ) : Type 0 where
  pub told : r ≡ d.told
  pub kept : room ≡ ws
  pub left : 0 < r.answer → ws' ≡ ws
  pub goes : r.answer ≡ 0 → Gone d r ws ws'

-- the row d of the points
pub record PointsBack (d : LeftPoints) (r : ℕ) (s s' : Points) : Type 0 where
  pub answer : r ≡ d.answer
  pub left : 0 < r → s' ≡ s
  pub goes : r ≡ 0 → s' ≡ d.points

-- both
pub record FitsIn (n : Numbers) (g : Given) (l : Fitted) (r : ℕ) (l' : Fitted) : Type 0 where
  pub answer : r ≡ (fit_in_row n g l).answer
  pub left : 0 < r → l' ≡ l
  pub goes : r ≡ 0 → l' ≡ (fit_in_row n g l).left
