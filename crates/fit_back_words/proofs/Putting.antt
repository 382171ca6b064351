-- A row of which everything is put back where it refuses.
use Rattle.std.specs.Prelude.{true, false, Result, Ok, Err}
use Rattle.std.specs.Result.{is_ok}
use mathlib.Core.Path.{◌≡◌, refl, sym, ◌∙◌}
use mathlib.Core.List.{List}
use Prim.Native.Nat.{ℕ, ◌<◌}
use native.Mathlib.Omega.{arith}
use lib.IntN.{ℤ}
use Rattle.refusals.specs.declared.order.Refusal.{Refusal}
use Rattle.refusals.proofs.Outcomes.{number-above}
use Rattle.edge_points.specs.EdgePoints.{Points}
use Rattle.fit.specs.declared.outcome.FittedEdges as Told
use Rattle.fit.specs.Answer.{FittedEdges, edges_of}
use Rattle.fit.specs.Edges.{Left}
use Rattle.fit.specs.Points.{LeftPoints}
use Rattle.fit_edges_words.specs.Row.{Went}
use Rattle.fit_points_words.specs.Row.{WentPoints}
use Rattle.fit_back_words.specs.Back.{EdgesBack, PointsBack}

-- ---- edges
-- the answer beside an outcome is 0 where there is one
pub answer-none : (o : Result Told.FittedEdges Refusal) → is_ok o ≡ true → (edges_of o).answer ≡ 0
answer-none (Ok x) e = refl
answer-none (Err r) e = cc

pub answer-above : (o : Result Told.FittedEdges Refusal) → is_ok o ≡ false → (edges_of o).answer ≡ 0 → ⊥
answer-above (Ok x) e z = cc
answer-above (Err r) e z = let p = number-above r in omega (arith, p, z)

module _ {d : Left} {r : FittedEdges} {ws w1 room : List ℤ} (k : room ≡ ws) (g : Went d r ws w1) where
  pub edges-go : r.answer ≡ 0 → EdgesBack d r ws w1 room
  edges-go z = record { told = g.told; kept = k; left = λ h. absurd (omega (arith, z, h)); goes = g.goes }

  pub edges-put : {w2 : List ℤ} → (r.answer ≡ 0 → ⊥) → w2 ≡ room → EdgesBack d r ws w2 room
  edges-put h q = record { told = g.told; kept = k; left = λ _. q ∙ k; goes = λ z. absurd (h z) }

-- ---- points
module _ {d : LeftPoints} {r : ℕ} {s x : Points} (g : WentPoints d r x) where
  pub points-went : r ≡ 0 → PointsBack d r s x
  points-went z = record { answer = g.answer; left = λ h. absurd (omega (arith, z, h)); goes = g.goes }

  pub points-put : {y : Points} → (r ≡ 0 → ⊥) → y ≡ s → PointsBack d r s y
  points-put h q = record { answer = g.answer; left = λ _. q; goes = λ z. absurd (h z) }
