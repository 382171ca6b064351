-- The m rule, by what the code reads of the stems' first edges.
use mathlib.Core.Path.{◌≡◌, sym, ap, subst, ◌∙◌}
use mathlib.Core.Bool.{Bool, true, false}
use mathlib.Core.List.{List}
use Prim.Native.Nat.{ℕ, ◌<◌}
use lib.IntN.{ℤ}
use Rattle.signed.specs.Range.{Between}
use Rattle.signed.proofs.Choices.{cond-true, cond-false}
use Rattle.axis.specs.declared.kinds.Dimension.{Dimension}
use Rattle.axis.specs.declared.kinds.Group.{Group}
use Rattle.axis.specs.declared.edge.Edge.{Edge}
use Rattle.axis.specs.Edge.{edge_at}
use Rattle.axis.specs.Limits.{most_units, most_pos}
use Rattle.axis.specs.Accepted.{Below, AxisWithin}
use Rattle.lowercase_m.specs.declared.stems.Stems.{Stems}
use Rattle.lowercase_m.specs.M.{stems_of, delta, applies, move_stem, aligned, count_holds}
use Rattle.lowercase_m.specs.Steps.{StemsOf}
use Rattle.lowercase_m.proofs.Places.{stems-hold}
use Rattle.lowercase_m.proofs.Reading.{SameRead, applies-by}
use Rattle.words.specs.Edge.{axis_run, flat_axis, edges_in}
use Rattle.words_call.specs.Lent.{edges_of}
use Rattle.words_edge.specs.Whole.{Whole, axis_in, reduced, Became}
use Rattle.words_edge.proofs.Wholes.{edges-len}
use Rattle.words_edge.proofs.Became.{stays, became-as}
use Rattle.lowercase_m_words.specs.M.{moving_stem, aligning}

-- the stems are edges
pub stems-in : (ws : List ℤ) {s : Stems} → s ≡ stems_of (edges_in ws) → AxisWithin most_pos (edges_of ws) → count_holds (edges_in ws) ≡ true → StemsOf (edges_of ws) s
stems-in ws {s} p w h =
    subst (StemsOf (edges_of ws)) (ap stems_of (edges-len ws) ∙ sym p) (stems-hold (edges_of ws) w.few (ap count_holds (edges-len ws) ∙ h))

-- what is read of an edge is read of what fitting reads of it
same_read : {e x : Edge} → e ≡ reduced x → SameRead e x
same_read q = record { opos = ap (λ (e : Edge). e.opos) q; link = ap (λ (e : Edge). e.link) q }

-- and its positions are within their limits
pub record ReadWithin (e : Edge) : Type 0 where
  pub opos : Between most_units most_units e.opos
  pub pos : Between most_pos most_pos e.pos

pub read-within : (ws : List ℤ) (i : ℕ) {e : Edge} → e ≡ reduced (edge_at (edges_of ws) i) → AxisWithin most_pos (edges_of ws) → i < (edges_of ws).len → ReadWithin e
read-within ws i q w h = let x = w.edge i h in subst ReadWithin (sym q) (record { opos = x.opos; pos = x.pos })

-- the edge that it is linked to is one
pub link-in : (ws : List ℤ) (i : ℕ) → AxisWithin most_pos (edges_of ws) → i < (edges_of ws).len → Below (edges_in ws) (edge_at (edges_of ws) i).link
link-in ws i w h = subst (λ (n : ℕ). Below n (edge_at (edges_of ws) i).link) (edges-len ws) (w.edge i h).link

-- ---- the rule
module _ (ws : List ℤ) (group : Group) {s : Stems} {e1 e2 e3 : Edge} {t : Bool} (p : s ≡ stems_of (edges_in ws))
    (q1 : e1 ≡ reduced (edge_at (edges_of ws) s.first))
    (q2 : e2 ≡ reduced (edge_at (edges_of ws) s.second)) (q3 : e3 ≡ reduced (edge_at (edges_of ws) s.third)) (a : t ≡ applies group s e1 e2 e3) where
  abbrev E : ℕ → Edge
  E i = edge_at (edges_of ws) i

  abbrev S : Stems
  S = stems_of (edges_in ws)

  -- the test is that of the stems
  applied : t ≡ applies group S (E S.first) (E S.second) (E S.third)
  applied = a ∙ applies-by group s (same_read q1) (same_read q2) (same_read q3) ∙ (λ k. applies group (p k) (E (p k).first) (E (p k).second) (E (p k).third))

  pub rule-stays : Whole ws → t ≡ false → Became (aligning group) ws ws
  unfolding aligned flat_axis axis_run
  rule-stays w n = stays (aligning group) w (λ (dim : Dimension). sym (cond-false _ _ _ (sym applied ∙ n)))

  pub rule-law : {ws' : List ℤ} {d : ℤ} → t ≡ true → d ≡ delta e1.pos e2.pos e3.pos → Became (moving_stem s.third d) ws ws'
      → Became (aligning group) ws ws'
  unfolding aligned flat_axis axis_run
  rule-law {ws'} {d} y q b =
      became-as
      (λ (dim : Dimension).
      ap (move_stem (axis_in ws dim) s.third) (q ∙ (λ k. delta (q1 k).pos (q2 k).pos (q3 k).pos))
      ∙ (λ k. move_stem (axis_in ws dim) (p k).third (delta (E (p k).first).pos (E (p k).second).pos (E (p k).third).pos))
      ∙ sym (cond-true _ _ (axis_in ws dim) (sym applied ∙ y)))
      b
