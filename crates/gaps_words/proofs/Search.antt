-- The search where the words of the edges stand, of which the code reads what fitting reads.
use mathlib.Core.Path.{◌≡◌, refl, sym, ap, subst, ◌∙◌}
use mathlib.Core.Bool.{Bool}
use mathlib.Core.List.{List}
use Prim.Native.Nat.{ℕ, ◌<◌}
use lib.IntN.{ℤ}
use Rattle.axis.specs.declared.edge.Edge.{Edge}
use Rattle.axis.specs.declared.edge.Axis.{Axis}
use Rattle.axis.specs.Edge.{edge_at}
use Rattle.axis.specs.Accepted.{AxisWithin}
use Rattle.axis.specs.Limits.{most_pos}
use Rattle.gaps.specs.Answer.{Gaps}
use Rattle.gaps.specs.Gaps.{is_done, asked_for, found_in}
use Rattle.gaps.specs.Steps.{Placed, Few, with_pair}
use Rattle.gaps.proofs.Turns.{found-few, placed_at}
use Rattle.words_call.specs.Lent.{edges_of}
use Rattle.words_edge.specs.Whole.{reduced}

-- no more is found than a table holds
pub few-found : (least : ℤ) (linked : Bool) (axis : Axis) → AxisWithin most_pos axis → Few (found_in least linked axis)
few-found least linked axis w = found-few least linked axis axis.len w.few

-- ---- what is read of an edge
module _ (ws : List ℤ) (i : ℕ) {e : Edge} (q : e ≡ reduced (edge_at (edges_of ws) i)) where
  -- it is placed as the edge is
  pub read-placed : AxisWithin most_pos (edges_of ws) → i < (edges_of ws).len → Placed i e
  read-placed w h = let p = placed_at (edges_of ws) i w h in subst (Placed i) (sym q) (record { place = p.place; opos = p.opos; pos = p.pos })

  -- it is done where the edge is, and asked for where the edge's link is
  pub read_done : {t : Bool} → e.flags.done ≡ t → is_done (edges_of ws) i ≡ t
  read_done h = sym (ap (λ (x : Edge). x.flags.done) q) ∙ h

  pub read_asked : (linked : Bool) {t : Bool} → t ≡ asked_for linked e.link → t ≡ asked_for linked (edge_at (edges_of ws) i).link
  read_asked linked h = h ∙ ap (λ (x : Edge). asked_for linked x.link) q

  -- and the pair from it to another is that of the edges
  pub read-pair : (least : ℤ) (found : Gaps) (j : ℕ) {f : Edge} {g : Gaps} → f ≡ reduced (edge_at (edges_of ws) j) → g ≡ with_pair least found i e j f
      → g ≡ with_pair least found i (edge_at (edges_of ws) i) j (edge_at (edges_of ws) j)
  read-pair least found j p r = r ∙ (λ x. with_pair least found i (q x) j (p x))
