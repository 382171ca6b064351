-- Edges that are alike but for their marks have the same stem, and are placed alike by it (request #105).
use mathlib.Core.Path.{◌≡◌, refl}
use mathlib.Core.Bool.{Bool}
use mathlib.Core.List.{List}
use Prim.Native.Nat.{ℕ}
use lib.IntN.{ℤ, ◌+ℤ◌}
use lib.Signed.{lt_z}
use Rattle.fixed.specs.declared.width.WidthRule.{WidthRule}
use Rattle.axis.specs.declared.kinds.Dimension.{Dimension}
use Rattle.axis.specs.declared.edge.Edge.{Edge}
use Rattle.axis.specs.declared.edge.Axis.{Axis}
use Rattle.axis.proofs.Alike.{Alike, AlikeAxis, placed_alike, at-alike, put-alike, cond-alike}
use Rattle.stems_cjk.specs.declared.stem.Stem.{Stem}
use Rattle.stems_cjk.specs.Cjk.{stem_of, placed_at, placed_stem, hinted_stem}

pub stem-same : (dim : Dimension) (adjust : Bool) (rule : WidthRule) (xs : List ℤ) (e e2 f f2 : Edge) (d : ℤ) → Alike e f → Alike e2 f2
    → stem_of dim adjust rule xs e e2 d ≡ stem_of dim adjust rule xs f f2 d
unfolding stem_of
stem-same dim adjust rule xs e e2 f f2 d h g = λ i. stem_of dim adjust rule xs (h.same i) (g.same i) d

module _ (a b : Axis) (alike : AlikeAxis a b) where
  stem-alike : (lower upper : ℕ) (p w : ℤ) → AlikeAxis (placed_stem a lower upper p w) (placed_stem b lower upper p w)
  unfolding placed_stem
  stem-alike lower upper p w = at (placed_at a lower p) (placed_at b lower p) upper (p +ℤ w) (at a b lower p alike)
    where
      at : (x y : Axis) (i : ℕ) (q : ℤ) → AlikeAxis x y → AlikeAxis (placed_at x i q) (placed_at y i q)
      at x y i q h = put-alike x y i _ _ h (placed_alike _ _ _ _ _ _ (at-alike x y i h) refl)

  pub hinted-alike : (i j : ℕ) (s : Stem) → AlikeAxis (hinted_stem a i j s) (hinted_stem b i j s)
  unfolding hinted_stem
  hinted-alike i j s =
      cond-alike AlikeAxis _ _ _ _ _ _ (λ k. lt_z ((at-alike a b i alike).same k).opos ((at-alike a b j alike).same k).opos)
      (stem-alike i j s.pos s.width) (stem-alike j i s.pos s.width)
