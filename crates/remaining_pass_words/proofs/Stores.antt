-- A position stored as a plan says.
use mathlib.Core.Path.{◌≡◌, sym, ap, subst, ◌∙◌}
use mathlib.Core.List.{List}
use Prim.Native.Nat.{ℕ, ◌<◌}
use native.Mathlib.Omega.{arith}
use lib.IntN.{ℤ}
use Rattle.signed.specs.Range.{Between}
use Rattle.axis.specs.declared.kinds.Dimension.{Dimension}
use Rattle.axis.specs.declared.kinds.Dimension.TheVariants.{Horizontal}
use Rattle.axis.specs.declared.kinds.Mark.{Mark}
use Rattle.axis.specs.Limits.{most_pos}
use Rattle.axis.specs.Accepted.{AxisWithin}
use Rattle.place.specs.declared.adjust.LinkDir.{LinkDir}
use Rattle.place.specs.declared.adjust.LinkDir.TheVariants.{Prev, Next}
use Rattle.place.specs.Placing.{adjusted}
use Rattle.words.specs.Edge.{edges_in}
use Rattle.words_call.specs.Lent.{edges_of}
use Rattle.words_edge.specs.Whole.{Whole, axis_in, Became, placing, fixing}
use Rattle.words_edge.proofs.Wholes.{edges-len}
use Rattle.words_edge.proofs.Became.{stays, became-then, became-as}
use Rattle.place_words.specs.Placing.{adjusting}
use Rattle.remaining.specs.declared.kinds.Way.{Way}
use Rattle.remaining.specs.declared.kinds.Way.TheVariants as Ways
use Rattle.remaining.specs.Remaining.{stored}
use Rattle.remaining.proofs.Kept.{fixed-within, adjusted-within}
use Rattle.remaining_pass_words.specs.Words.{storing, holding}

-- ---- edges stay accepted
module _ {ws w1 : List ℤ} (i : ℕ) (w : AxisWithin most_pos (edges_of ws)) (h : i < edges_in ws) where
  pub fixed_in : (p : ℤ) (m : Mark) → Between most_pos most_pos p → Became (fixing i p m) ws w1 → AxisWithin most_pos (edges_of w1)
  fixed_in p m b a = subst (AxisWithin most_pos) (sym (a.table Horizontal)) (fixed-within (edges_of ws) w i p m (omega (arith, edges-len ws)) b)

  pub adjusted-in : (dir : LinkDir) → Became (adjusting i dir) ws w1 → AxisWithin most_pos (edges_of w1)
  adjusted-in dir a = subst (AxisWithin most_pos) (sym (a.table Horizontal)) (adjusted-within (edges_of ws) w i dir (omega (arith, edges-len ws)))

-- ---- the stores
module _ {ws : List ℤ} (i : ℕ) (p : ℤ) (m : Mark) {z : ℤ} (q : z ≡ p) where
  pub hold-law : {w1 w2 w3 : List ℤ} → Became (fixing i z m) ws w1 → Became (adjusting i Prev) w1 w2 → Became (adjusting i Next) w2 w3
      → Became (holding i p m) ws w3
  unfolding stored
  hold-law a b c =
      became-as (λ (d : Dimension). ap (λ (x : ℤ). adjusted (adjusted (fixing i x m (axis_in ws d)) i Prev) i Next) q) (became-then (became-then a b) c)

  module _ {way : Way} where
    pub placed-law : {w1 : List ℤ} → way ≡ Ways.Placed → Became (placing i z m) ws w1 → Became (storing way i p m) ws w1
    unfolding stored
    placed-law e a = became-as (λ (d : Dimension). ap (λ (x : ℤ). placing i x m (axis_in ws d)) q ∙ ap (λ (x : Way). stored x (axis_in ws d) i p m) (sym e)) a

    pub fixed-law : {w1 : List ℤ} → way ≡ Ways.Fixed → Became (fixing i z m) ws w1 → Became (storing way i p m) ws w1
    unfolding stored
    fixed-law e a = became-as (λ (d : Dimension). ap (λ (x : ℤ). fixing i x m (axis_in ws d)) q ∙ ap (λ (x : Way). stored x (axis_in ws d) i p m) (sym e)) a

    pub held-law : {w1 : List ℤ} → way ≡ Ways.Held → Became (holding i z m) ws w1 → Became (storing way i p m) ws w1
    held-law e a = became-as (λ (d : Dimension). ap (λ (x : ℤ). holding i x m (axis_in ws d)) q ∙ ap (λ (x : Way). stored x (axis_in ws d) i p m) (sym e)) a

pub stays-law : {ws : List ℤ} (i : ℕ) (p : ℤ) (m : Mark) {way : Way} → Whole ws → way ≡ Ways.Stays → Became (storing way i p m) ws ws
unfolding stored
stays-law {ws} i p m {way} w e = stays (storing way i p m) w (λ (d : Dimension). ap (λ (x : Way). stored x (axis_in ws d) i p m) (sym e))
