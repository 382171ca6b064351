-- An edge placed by another one, of which the code reads what fitting reads.
use mathlib.Core.Path.{◌≡◌, refl, sym, ap, subst, ◌∙◌}
use mathlib.Core.List.{List}
use Prim.Native.Nat.{ℕ, ◌<◌, ◌≤◌}
use native.Mathlib.Omega.{arith}
use lib.IntN.{ℤ}
use Rattle.fixed.specs.declared.width.WidthRule.{WidthRule}
use Rattle.axis.specs.declared.kinds.Dimension.{Dimension}
use Rattle.axis.specs.declared.kinds.Mark.{Mark}
use Rattle.axis.specs.declared.kinds.Mark.TheVariants.{Linked, Serif}
use Rattle.axis.specs.declared.edge.Edge.{Edge}
use Rattle.axis.specs.declared.edge.Axis.{Axis}
use Rattle.axis.specs.Edge.{edge_at, put_edge, placed}
use Rattle.axis.specs.Accepted.{AxisWithin}
use Rattle.place.specs.Placing.{linked_pos, linked_edge, serif_pos, serif_edge}
use Rattle.place.specs.Steps.{most_reach, InReach}
use Rattle.place.proofs.Reach.{in_reach}
use Rattle.words.specs.Edge.{axis_run, flat_axis, edges_in}
use Rattle.words_call.specs.Lent.{edges_of}
use Rattle.words_edge.specs.Whole.{axis_in, reduced, Became, placing}
use Rattle.words_edge.proofs.Wholes.{edges-len}
use Rattle.words_edge.proofs.Became.{became-as}
use Rattle.place_words.specs.Placing.{linked_to, serif_to}

-- what is read of an edge within reach is within reach
pub read-reach : (e : Edge) {x : Edge} → e ≡ reduced x → InReach x → InReach e
read-reach e {x} q h = subst InReach (sym q) (record { opos = h.opos; pos = h.pos })

-- an edge of accepted edges is
pub edge-reach : (ws : List ℤ) (m i : ℕ) → m ≤ most_reach → AxisWithin m (edges_of ws) → i < edges_in ws → InReach (edge_at (edges_of ws) i)
edge-reach ws m i h a l = in_reach m i (edges_of ws) h a (omega (arith, edges-len ws))

-- the position that the code comes to, by its bits, is that of the step
module _ {ws ws' : List ℤ} {i : ℕ} {z : ℤ} {moved from to : Edge} (base : ℕ) (p : z ≡ moved.pos) (e : from ≡ reduced (edge_at (edges_of ws) base))
    (f : to ≡ reduced (edge_at (edges_of ws) i)) where
  pub linked-law : (rule : WidthRule) (xs : List ℤ) → moved ≡ linked_edge rule xs from to → Became (placing i z Linked) ws ws'
      → Became (linked_to rule xs base i) ws ws'
  unfolding flat_axis axis_run
  linked-law rule xs m a =
      became-as
      (λ (d : Dimension).
      ap (λ (x : ℤ). put_edge (axis_in ws d) i (placed (edge_at (axis_in ws d) i) x Linked))
      (p ∙ ap (λ (x : Edge). x.pos) m ∙ (λ k. linked_pos rule xs (e k).pos (e k).opos (f k).opos)))
      a

  pub serif-law : moved ≡ serif_edge from to → Became (placing i z Serif) ws ws' → Became (serif_to base i) ws ws'
  unfolding flat_axis axis_run
  serif-law m a =
      became-as
      (λ (d : Dimension).
      ap (λ (x : ℤ). put_edge (axis_in ws d) i (placed (edge_at (axis_in ws d) i) x Serif))
      (p ∙ ap (λ (x : Edge). x.pos) m ∙ (λ k. serif_pos (e k).pos (e k).opos (f k).opos)))
      a
