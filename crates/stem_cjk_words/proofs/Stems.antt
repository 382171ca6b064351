-- A CJK stem placed in place, by what the code has read of its edges.
use mathlib.Core.Path.{◌≡◌, refl, sym, ap, ◌∙◌}
use mathlib.Core.Bool.{Bool, true, false, cond}
use mathlib.Core.List.{List}
use Prim.Native.Nat.{ℕ}
use lib.IntN.{ℤ, ◌+ℤ◌}
use lib.Signed.{lt_z}
use Rattle.fixed.specs.declared.width.WidthRule.{WidthRule}
use Rattle.axis.specs.declared.kinds.Dimension.{Dimension}
use Rattle.axis.specs.declared.kinds.Mark.TheVariants as Marks
use Rattle.axis.specs.declared.edge.Edge.{Edge}
use Rattle.axis.specs.declared.edge.Axis.{Axis}
use Rattle.axis.specs.Edge.{edge_at}
use Rattle.stems_cjk.specs.declared.stem.Stem.{Stem}
use Rattle.stems_cjk.specs.Cjk.{stem_of, placed_stem, hinted_stem}
use Rattle.words.specs.Edge.{axis_run, flat_axis}
use Rattle.words_call.specs.Lent.{edges_of}
use Rattle.words_edge.specs.Whole.{axis_in, reduced, Became, placing}
use Rattle.words_edge.proofs.Became.{became-then, became-as}
use Rattle.stem_cjk_words.specs.Stem.{placing_stem, hinting_stem, stem_read, StemPlaced}

-- the two stores
pub pair-law : (lower upper : ℕ) (p w : ℤ) {a b : ℤ} {ws w1 w2 : List ℤ} → a ≡ p → b ≡ p +ℤ w → Became (placing lower a Marks.Stem) ws w1
    → Became (placing upper b Marks.Stem) w1 w2
    → Became (placing_stem lower upper p w) ws w2
unfolding placed_stem
pair-law lower upper p w {a} {b} {ws} e f x y =
    became-as (λ (d : Dimension). λ k. placing upper (f k) Marks.Stem (placing lower (e k) Marks.Stem (axis_in ws d))) (became-then x y)

-- a stem is that of what is read of its edges
read-stem : (dim : Dimension) (adjust : Bool) (rule : WidthRule) (xs : List ℤ) (e g : Edge) (d : ℤ)
    → stem_of dim adjust rule xs (reduced e) (reduced g) d ≡ stem_of dim adjust rule xs e g d
unfolding stem_of
read-stem dim adjust rule xs e g d = refl

pub stem-read : (dim : Dimension) (adjust : Bool) (rule : WidthRule) (xs : List ℤ) (i j : ℕ) (ws : List ℤ) {e g : Edge} {d z : ℤ} {s : Stem}
    → e ≡ reduced (edge_at (edges_of ws) i)
    → g ≡ reduced (edge_at (edges_of ws) j) → z ≡ d → s ≡ stem_of dim adjust rule xs e g z → s ≡ stem_read dim adjust rule xs i j d ws
stem-read dim adjust rule xs i j ws {e} {g} {d} {z} {s} p q r t =
    t ∙ (λ k. stem_of dim adjust rule xs (p k) (q k) (r k)) ∙ read-stem dim adjust rule xs (edge_at (edges_of ws) i) (edge_at (edges_of ws) j) d

-- which of its edges is below
module _ (i j : ℕ) (s : Stem) {a b : ℤ} {ws ws' : List ℤ} (x : a ≡ (edge_at (edges_of ws) i).opos) (y : b ≡ (edge_at (edges_of ws) j).opos) where
  pub first_below : lt_z a b ≡ true → {p w : ℤ} → p ≡ s.pos → w ≡ s.width → Became (placing_stem i j p w) ws ws' → Became (hinting_stem i j s) ws ws'
  unfolding hinted_stem flat_axis axis_run
  first_below t e f c =
      became-as
      (λ (d : Dimension).
      (λ k. placed_stem (axis_in ws d) i j (e k) (f k))
      ∙ ap (λ (u : Bool). cond u (placed_stem (axis_in ws d) i j s.pos s.width) (placed_stem (axis_in ws d) j i s.pos s.width))
      (sym t ∙ (λ k. lt_z (x k) (y k))))
      c

  pub second_below : lt_z a b ≡ false → {p w : ℤ} → p ≡ s.pos → w ≡ s.width → Became (placing_stem j i p w) ws ws' → Became (hinting_stem i j s) ws ws'
  unfolding hinted_stem flat_axis axis_run
  second_below t e f c =
      became-as
      (λ (d : Dimension).
      (λ k. placed_stem (axis_in ws d) j i (e k) (f k))
      ∙ ap (λ (u : Bool). cond u (placed_stem (axis_in ws d) i j s.pos s.width) (placed_stem (axis_in ws d) j i s.pos s.width))
      (sym t ∙ (λ k. lt_z (x k) (y k))))
      c
