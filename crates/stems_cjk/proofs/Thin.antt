-- Request #102: the edges of a CJK stem are exactly its fitted width apart, which is a pixel or more by Snap; the call and the stem pass share it.
use mathlib.Core.Path.{◌≡◌, refl, sym, subst}
use mathlib.Core.Bool.{Bool}
use mathlib.Core.List.{List}
use Prim.Native.Nat.{ℕ, ◌≤◌, ◌<◌}
use lib.ListN.{length}
use lib.IntN.{ℤ, nat_abs, ◌-ℤ◌}
use lib.Signed.{lt_z}
use Rattle.signed.proofs.Choices.{either_way}
use Rattle.fixed.specs.declared.width.WidthRule.{WidthRule}
use Rattle.fixed.specs.declared.width.WidthRule.TheVariants.{Snap}
use Rattle.fixed.specs.Width.{one_pixel, fitted_width}
use Rattle.axis.specs.declared.kinds.Dimension.{Dimension}
use Rattle.axis.specs.declared.edge.Edge.{Edge}
use Rattle.axis.specs.declared.edge.Axis.{Axis}
use Rattle.axis.specs.Edge.{edge_at}
use Rattle.place.specs.Thin.{HasWidth}
use Rattle.place.proofs.Thin.{apart-behind, fitted-pixel, Seen, two_edges, put_both, seen-both-ways}
use Rattle.stems_cjk.specs.Cjk.{stem_at, stem_of, placed_stem, hinted_stem}

-- the width of a stem is the fitted one
stem-width : (dim : Dimension) (adjust : Bool) (rule : WidthRule) (xs : List ℤ) (e e2 : Edge) (d : ℤ)
    → (stem_of dim adjust rule xs e e2 d).width ≡ fitted_width rule xs (e2.opos -ℤ e.opos)
unfolding stem_of stem_at
stem-width dim adjust rule xs e e2 d = refl

-- two edges placed, one at p and one the width w behind it
placed-seen : (axis : Axis) (i j : ℕ) (p w : ℤ) → i < length axis.edges → j < length axis.edges → (i ≡ j → ⊥) → one_pixel ≤ nat_abs w
    → Seen (placed_stem axis i j p w).edges i j
unfolding placed_stem
placed-seen axis i j p w hi hj n h = put_both axis.edges i j _ _ hi hj n (apart-behind p w h)

pub hinted-seen : (axis : Axis) (dim : Dimension) (adjust : Bool) (xs : List ℤ) (i j : ℕ) (d : ℤ)
    → i < length axis.edges → j < length axis.edges → HasWidth xs (edge_at axis i).opos (edge_at axis j).opos
    → Seen (hinted_stem axis i j (stem_of dim adjust Snap xs (edge_at axis i) (edge_at axis j) d)).edges i j
unfolding hinted_stem
hinted-seen axis dim adjust xs i j d hi hj h =
    let e = edge_at axis i in
    let e2 = edge_at axis j in
    let s = stem_of dim adjust Snap xs e e2 d in
    let n = two_edges axis.edges xs i j h in
    let w : one_pixel ≤ nat_abs s.width = subst (λ (z : ℤ). one_pixel ≤ nat_abs z) (sym (stem-width dim adjust Snap xs e e2 d))
    (fitted-pixel xs e.opos e2.opos h) in
    either_way (λ (a : Axis). Seen a.edges i j) (lt_z e.opos e2.opos) _ _
    (placed-seen axis i j s.pos s.width hi hj n w)
    (seen-both-ways _ j i (placed-seen axis j i s.pos s.width hj hi (λ q. n (sym q)) w))
