-- The moves of the m rule, by the stores that the code does.
use Rattle.std.specs.Prelude.{None, Some}
use mathlib.Core.Path.{◌≡◌, sym, ap, subst, ◌∙◌}
use mathlib.Core.List.{List}
use Prim.Native.Nat.{ℕ, ◌+◌, ◌<◌}
use native.Mathlib.Omega.{arith}
use borrow.Author.Tests.{eq-eqb, ne_eqb}
use lib.IntN.{ℤ, ◌-ℤ◌}
use Rattle.signed.specs.Range.{Between}
use Rattle.signed.proofs.Choices.{cond-true, cond-false}
use Rattle.axis.specs.declared.kinds.Dimension.{Dimension}
use Rattle.axis.specs.declared.kinds.Dimension.TheVariants as Dimensions
use Rattle.axis.specs.Link.{Link}
use Rattle.axis.specs.declared.kinds.Mark.TheVariants.{LowercaseM}
use Rattle.axis.specs.declared.edge.Edge.{Edge}
use Rattle.axis.specs.Edge.{edge_at}
use Rattle.lowercase_m.specs.M.{most_delta, moved_back, move_done, move_only, move_link, move_serifs, move_stem}
use Rattle.lowercase_m.specs.Steps.{Places}
use Rattle.lowercase_m.proofs.Places.{done-places, only-places}
use Rattle.words.specs.Edge.{axis_run, flat_axis, edges_in}
use Rattle.words_call.specs.Lent.{edges_of}
use Rattle.words_edge.specs.Whole.{Whole, axis_in, reduced, Became, placing, fixing}
use Rattle.words_edge.proofs.Wholes.{edges-len}
use Rattle.words_edge.proofs.Became.{stays, became-then, became-as}
use Rattle.lowercase_m_words.specs.M.{moving_done, moving_only, moving_serifs, moving_stem}

-- an edge of the words is one of their axis, and back
pub of-axis : (ws : List ℤ) (i : ℕ) → i < edges_in ws → i < (edges_of ws).len
of-axis ws i h = omega (arith, edges-len ws)

pub of_words : (ws : List ℤ) (i : ℕ) → i < (edges_of ws).len → i < edges_in ws
of_words ws i h = omega (arith, edges-len ws)

-- ---- one edge
module _ (ws : List ℤ) {a d z : ℤ} {e moved : Edge} (i : ℕ) (r : e ≡ reduced (edge_at (edges_of ws) i)) (p : a ≡ d) (m : moved ≡ moved_back e a)
    (q : z ≡ moved.pos) where
  -- the position that is written, by its bits
  written : z ≡ (edge_at (edges_of ws) i).pos -ℤ d
  written = q ∙ ap (λ (x : Edge). x.pos) m ∙ (λ k. (r k).pos -ℤ p k)

  pub done-law : {ws' : List ℤ} → Became (fixing i z LowercaseM) ws ws' → Became (moving_done i d) ws ws'
  unfolding move_done flat_axis axis_run
  done-law b = became-as (λ (dim : Dimension). ap (λ (x : ℤ). fixing i x LowercaseM (axis_in ws dim)) written) b

  pub only-law : {ws' : List ℤ} → Became (placing i z LowercaseM) ws ws' → Became (moving_only i d) ws ws'
  unfolding move_only flat_axis axis_run
  only-law b = became-as (λ (dim : Dimension). ap (λ (x : ℤ). placing i x LowercaseM (axis_in ws dim)) written) b

-- the positions behind it
module _ {ws ws' : List ℤ} (m i : ℕ) (d : ℤ) (p : Places m (edges_of ws)) (h : i < edges_in ws) (g : Between most_delta most_delta d) where
  pub done-within : Became (moving_done i d) ws ws' → Places (m + most_delta) (edges_of ws')
  done-within b = subst (Places (m + most_delta)) (sym (b.table Dimensions.Horizontal)) (done-places m i (edges_of ws) d p (of-axis ws i h) g)

  pub only-within : Became (moving_only i d) ws ws' → Places (m + most_delta) (edges_of ws')
  only-within b = subst (Places (m + most_delta)) (sym (b.table Dimensions.Horizontal)) (only-places m i (edges_of ws) d p (of-axis ws i h) g)

-- ---- the serifs
pub serifs-stay : (ws : List ℤ) (d : ℤ) → Whole ws → (edges_in ws ≡ 12 → ⊥) → Became (moving_serifs d) ws ws
unfolding move_serifs flat_axis axis_run
serifs-stay ws d w n = stays (moving_serifs d) w (λ (dim : Dimension). sym (cond-false _ _ _ (ne_eqb (edges_in ws) 12 n)))

pub serifs-law : {ws w1 w2 : List ℤ} {a d : ℤ} → edges_in ws ≡ 12 → a ≡ d → Became (moving_only 8 a) ws w1 → Became (moving_only 11 a) w1 w2
    → Became (moving_serifs d) ws w2
unfolding move_serifs flat_axis axis_run
serifs-law {ws} {w1} {w2} {a} {d} n e b c =
    became-as
    (λ (dim : Dimension). (λ k. move_only (move_only (axis_in ws dim) 8 (e k)) 11 (e k)) ∙ sym (cond-true _ _ (axis_in ws dim) (eq-eqb (edges_in ws) 12 n)))
    (became-then b c)

-- ---- the stem, its link and the serifs
module _ {ws w1 : List ℤ} {a d : ℤ} {stem : Edge} (i : ℕ) (r : stem ≡ reduced (edge_at (edges_of ws) i)) (e : a ≡ d) (b : Became (moving_done i a) ws w1) where
  pub unlinked-law : {w2 : List ℤ} → stem.link ≡ None → Became (moving_serifs a) w1 w2 → Became (moving_stem i d) ws w2
  unfolding move_stem move_link flat_axis axis_run
  unlinked-law q c =
      became-as
      (λ (dim : Dimension).
      (λ k. move_serifs (move_done (axis_in ws dim) i (e k)) (e k))
      ∙ ap (λ (l : Link). move_serifs (move_link (move_done (axis_in ws dim) i d) l d) d) (sym q ∙ ap (λ (x : Edge). x.link) r))
      (became-then b c)

  pub linked-law : {w2 w3 : List ℤ} (j : ℕ) → stem.link ≡ Some j → Became (moving_done j a) w1 w2 → Became (moving_serifs a) w2 w3
      → Became (moving_stem i d) ws w3
  unfolding move_stem move_link flat_axis axis_run
  linked-law j q f c =
      became-as
      (λ (dim : Dimension).
      (λ k. move_serifs (move_done (move_done (axis_in ws dim) i (e k)) j (e k)) (e k))
      ∙ ap (λ (l : Link). move_serifs (move_link (move_done (axis_in ws dim) i d) l d) d) (sym q ∙ ap (λ (x : Edge). x.link) r))
      (became-then (became-then b f) c)
