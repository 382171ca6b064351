-- What is read of an edge, and which edges it names.
use Rattle.std.specs.Prelude.{None, Some}
use mathlib.Core.Path.{◌≡◌, sym, ap, subst, ◌∙◌}
use mathlib.Core.Bool.{Bool, true, false, cond}
use mathlib.Core.List.{List}
use Prim.Native.Nat.{ℕ, ◌<◌}
use native.Mathlib.Omega.{arith}
use lib.IntN.{ℤ}
use Rattle.axis.specs.Link.{Link}
use Rattle.axis.specs.declared.edge.Edge.{Edge}
use Rattle.axis.specs.declared.edge.Axis.{Axis}
use Rattle.axis.specs.Edge.{edge_at}
use Rattle.axis.specs.Limits.{most_pos}
use Rattle.axis.specs.Accepted.{AxisWithin}
use Rattle.place.specs.Steps.{InReach}
use Rattle.words.specs.Edge.{edges_in}
use Rattle.words_call.specs.Lent.{edges_of}
use Rattle.words_edge.proofs.Wholes.{edges-len}
use Rattle.place_words.proofs.Places.{edge-reach}
use Rattle.remaining.specs.Plan.{is_near}
use Rattle.remaining.specs.Remaining.{near_of}
use Rattle.remaining_pass_words.specs.Words.{asked}

-- what is read of an accepted edge is within reach
pub reach : (ws : List ℤ) (j : ℕ) {e : Edge} → AxisWithin most_pos (edges_of ws) → j < edges_in ws → e ≡ asked (edge_at (edges_of ws) j) → InReach e
reach ws j {e} w h q = let r = edge-reach ws most_pos j (omega arith) w h in subst InReach (sym q) (record { opos = r.opos; pos = r.pos })

-- its serif is an edge
pub serif-below : (ws : List ℤ) (i k : ℕ) → AxisWithin most_pos (edges_of ws) → i < edges_in ws → (edge_at (edges_of ws) i).serif ≡ Some k → k < edges_in ws
serif-below ws i k w h e = omega (arith, edges-len ws, (w.edge i (omega (arith, edges-len ws))).serif.at k e)

-- ---- a serif that is near
none-to : (k : ℕ) → None ≡ Some k → ⊥
none-to k e = let z : ◌≡◌ {A = ℕ} 0 1 = cc in omega arith

module _ (axis : Axis) (i : ℕ) where
  pub near_none : (l : Link) → l ≡ None → None ≡ near_of axis i l
  unfolding near_of
  near_none l e = rw e

  pub near-is : (k : ℕ) (l : Link) {t : Bool} → l ≡ Some k → is_near (edge_at axis i) (edge_at axis k) ≡ t → cond t (Some k) None ≡ near_of axis i l
  unfolding near_of
  near-is k l {t} e q = sym (ap (near_of axis i) e ∙ ap (λ (x : Bool). cond x (Some k) None) q)

  -- it is the edge's serif
  pub near-was : (k : ℕ) (l : Link) → near_of axis i l ≡ Some k → l ≡ Some k
  unfolding near_of
  near-was k None e = e
  near-was k (Some m) e = by (is_near (edge_at axis i) (edge_at axis m)) e
    where
      by : (t : Bool) → cond t (Some m) None ≡ Some k → Some m ≡ Some k
      by true e = e
      by false e = absurd (none-to k e)
