-- How far a stem can be moved, and where it can start.
use mathlib.Core.Path.{◌≡◌}
use mathlib.Core.Bool.{Bool, ◌||◌}
use mathlib.Core.List.{List}
use Prim.Native.Nat.{ℕ, ◌%◌}
use native.Mathlib.Omega.{arith}
use lib.Dec.{leb}
use lib.IntN.{ℤ, pos, neg_ℤ, nat_abs, ◌+ℤ◌, ◌-ℤ◌}
use lib.Signed.{lt_z, le_z, quot_z, rem_z}
use mir.Syntax.{w32}
use mir.Val.{to_z, of_z}
use Rattle.signed.specs.Parts.{up, dn}
use Rattle.signed.specs.Equality.{eq_z}
use Rattle.signed.specs.Range.{Between}
use Rattle.signed.proofs.Operations.{quot-up, quot-dn, rem-up, rem-dn}
use Rattle.signed.proofs.Signed.{add-law, sub-law, up_neg, dn-neg, one-zero, fits-in, is}
use Rattle.signed.proofs.Choices.{either_way}
use Rattle.fixed.specs.Pixel.{pix_floor}
use Rattle.fixed.proofs.Pixels.{floor-law}
use Rattle.fixed.specs.declared.width.WidthRule.{WidthRule}
use Rattle.fixed.specs.Width.{fitted_width}
use Rattle.axis.specs.Limits.{most_units, most_passed}
use Rattle.axis.specs.declared.kinds.Dimension.{Dimension}
use Rattle.axis.specs.declared.kinds.Dimension.TheVariants.{Horizontal, Vertical}
use Rattle.axis.specs.declared.edge.Edge.{Edge}
use Rattle.place.specs.Steps.{InReach}
use Rattle.place.proofs.Reach.{width-range}
use Rattle.stems_cjk.specs.Cjk.{
  most_width,
  most_move,
  most_cjk_start,
  max_gap,
  gap_of,
  both_round,
  pixel_offset,
  narrow_delta,
  is_blocked,
  down_or_up,
  smaller_of,
  shortest_move,
  wide_delta,
  offsets_delta,
}
use Rattle.stems_cjk.specs.Cjk.{start_of, clamped, delta_of, stem_at, stem_of}

-- a move, up or down
abbrev Move : ℤ → Type 0
Move z = Between most_move most_move z

none_is : Move (pos 0)
none_is = omega arith

-- ---- moves by the offsets
offset-range : (z : ℤ) → Between 0 63 (pixel_offset z)
unfolding pixel_offset
offset-range z = omega (arith, floor-law z, sub-law z (pix_floor z))

narrow-range : (d1 d2 w : ℤ) → Between 0 63 d1 → Between 0 63 d2 → Move (narrow_delta d1 d2 w)
unfolding narrow_delta
narrow-range d1 d2 w h g =
    either_way Move (lt_z d2 w) _ (pos 0)
    (either_way Move (le_z (pos 64 -ℤ d1) d2) (pos 64 -ℤ d1) (neg_ℤ d2) (omega (arith, sub-law (pos 64) d1)) (omega (arith, up_neg d2, dn-neg d2)))
    none_is

down-or-up-range : (d u : ℤ) → Move d → Move u → Move (down_or_up d u)
down-or-up-range d u h g = either_way Move (le_z d u) (neg_ℤ d) u (omega (arith, up_neg d, dn-neg d)) g

smaller-range : (a b : ℤ) → Move a → Move b → Move (smaller_of a b)
smaller-range a b h g = either_way Move (leb (nat_abs a) (nat_abs b)) a b h g

shortest-range : (d1 d2 offset t : ℤ) → Between 0 63 d1 → Between 0 63 d2 → Between 64 64 offset → Between 0 64 t → Move (shortest_move d1 d2 offset t)
unfolding shortest_move
shortest-range d1 d2 offset t h g k l =
    let u = pos 64 -ℤ d1 in
    smaller-range _ _
    (down-or-up-range (t -ℤ u) (u -ℤ offset) (omega (arith, sub-law (pos 64) d1, sub-law t u)) (omega (arith, sub-law (pos 64) d1, sub-law u offset)))
    (down-or-up-range (d2 -ℤ offset) (t -ℤ d2) (omega (arith, sub-law d2 offset)) (omega (arith, sub-law t d2)))

part-range : (w : ℤ) → Between 64 64 (rem_z w (pos 64))
part-range w = by (rem-up w (pos 64)) (rem-dn w (pos 64))
  where
    by : up (rem_z w (pos 64)) ≡ up w % 64 → dn (rem_z w (pos 64)) ≡ dn w % 64 → Between 64 64 (rem_z w (pos 64))
    by h g = omega arith

wide-range : (d1 d2 w t : ℤ) → Between 0 63 d1 → Between 0 63 d2 → Between 0 64 t → Move (wide_delta d1 d2 w t)
unfolding wide_delta
wide-range d1 d2 w t h g l =
    either_way Move (lt_z (rem_z w (pos 64)) (pos 32)) _ _
    (either_way Move (le_z (pos 64 -ℤ d1) (rem_z w (pos 64)) || le_z d2 (rem_z w (pos 64))) (pos 0) _ none_is
    (shortest-range d1 d2 (rem_z w (pos 64)) t h g (part-range w) l))
    (shortest-range d1 d2 (pos 64 -ℤ t) t h g (omega (arith, sub-law (pos 64) t)) l)

offsets-range : (d1 d2 w t : ℤ) → Between 0 63 d1 → Between 0 63 d2 → Between 0 64 t → Move (offsets_delta d1 d2 w t)
unfolding offsets_delta
offsets-range d1 d2 w t h g l =
    either_way Move (eq_z d1 (pos 0) || eq_z d2 (pos 0)) (pos 0) _ none_is
    (either_way Move (le_z w t) _ _ (narrow-range d1 d2 w h g) (either_way Move (is_blocked d1 d2 t) (pos 0) _ none_is (wide-range d1 d2 w t h g l)))

-- ---- the stem
clamp-range : (adjust : Bool) (d : ℤ) → Move d → Move (clamped adjust d)
unfolding clamped
clamp-range adjust d h =
    either_way Move adjust d _ h
    (either_way Move (lt_z d (neg_ℤ (pos 14))) (neg_ℤ (pos 14)) _ (omega arith) (either_way Move (lt_z (pos 14) d) (pos 14) d (omega arith) h))

pub delta-range : (adjust : Bool) (p w t : ℤ) → Between 0 64 t → Between most_move most_move (delta_of adjust p w t)
unfolding delta_of
delta-range adjust p w t l = clamp-range adjust _ (offsets-range (pixel_offset p) (pixel_offset (p +ℤ w)) w t (offset-range p) (offset-range (p +ℤ w)) l)

-- what the start of a stem can be before it is moved: a position, a passed delta and half a width
abbrev pub most_unmoved : ℕ
most_unmoved = 147461

pub start-range : (o1 o2 w d : ℤ) → Between most_units most_units o1 → Between most_units most_units o2 → Between most_width most_width w
    → Between most_passed most_passed d
    → Between most_unmoved most_unmoved (start_of o1 o2 w d)
unfolding start_of
start-range o1 o2 w d h g k l =
    let c = quot_z (o1 +ℤ o2) (pos 2) in
    let b = quot_z w (pos 2) in
    let m : Between most_units most_units c = omega (arith, add-law o1 o2, quot-up (o1 +ℤ o2) 2, quot-dn (o1 +ℤ o2) 2, one-zero (o1 +ℤ o2)) in
    omega (arith, m, add-law c d, sub-law (c +ℤ d) b, quot-up w 2, quot-dn w 2, one-zero w)

gap-range : (adjust : Bool) (dim : Dimension) (round : Bool) → Between 0 15 (gap_of adjust dim round)
unfolding gap_of max_gap
gap-range adjust Horizontal round =
    either_way (Between 0 15) adjust (pos 0) _ (omega arith) (either_way (Between 0 15) round (pos 15) _ (omega arith) (omega arith))
gap-range adjust Vertical round =
    either_way (Between 0 15) adjust (pos 0) _ (omega arith) (either_way (Between 0 15) round (pos 9) _ (omega arith) (omega arith))

threshold-range : (adjust : Bool) (dim : Dimension) (round : Bool) → Between 0 64 (pos 64 -ℤ gap_of adjust dim round)
threshold-range adjust dim round = omega (arith, gap-range adjust dim round, sub-law (pos 64) (gap_of adjust dim round))

-- the place of a stem's lower edge, its width, and what it is moved by
pub stem-pos-range : (dim : Dimension) (adjust : Bool) (rule : WidthRule) (xs : List ℤ) (e e2 : Edge) (d : ℤ) → InReach e → InReach e2
    → Between most_passed most_passed d
    → Between most_cjk_start most_cjk_start (stem_of dim adjust rule xs e e2 d).pos
unfolding stem_of stem_at
stem-pos-range dim adjust rule xs e e2 d h g k =
    let w = width-range rule xs e.opos e2.opos h.opos g.opos in
    let p = start-range e.opos e2.opos _ d h.opos g.opos w k in
    let s = start_of e.opos e2.opos (fitted_width rule xs (e2.opos -ℤ e.opos)) d in
    let m = delta-range adjust s (fitted_width rule xs (e2.opos -ℤ e.opos)) _ (threshold-range adjust dim (both_round e e2)) in
    omega (arith, p, m, add-law s (delta_of adjust s (fitted_width rule xs (e2.opos -ℤ e.opos)) (pos 64 -ℤ gap_of adjust dim (both_round e e2))))

pub stem-width-range : (dim : Dimension) (adjust : Bool) (rule : WidthRule) (xs : List ℤ) (e e2 : Edge) (d : ℤ) → InReach e → InReach e2
    → Between most_width most_width (stem_of dim adjust rule xs e e2 d).width
unfolding stem_of stem_at
stem-width-range dim adjust rule xs e e2 d h g = width-range rule xs e.opos e2.opos h.opos g.opos

pub stem-delta-range : (dim : Dimension) (adjust : Bool) (rule : WidthRule) (xs : List ℤ) (e e2 : Edge) (d : ℤ)
    → Between most_move most_move (stem_of dim adjust rule xs e e2 d).delta
unfolding stem_of stem_at
stem-delta-range dim adjust rule xs e e2 d = delta-range adjust _ _ _ (threshold-range adjust dim (both_round e e2))

-- a stem's numbers, and the delta passed to it, are read back from their bits
pub passed-read : (z : ℤ) → Between most_passed most_passed z → to_z w32 (of_z w32 z) ≡ z
passed-read z h = is (fits-in w32 h tt tt)

pub start-read : (z : ℤ) → Between most_cjk_start most_cjk_start z → to_z w32 (of_z w32 z) ≡ z
start-read z h = is (fits-in w32 h tt tt)

pub width_read : (z : ℤ) → Between most_width most_width z → to_z w32 (of_z w32 z) ≡ z
width_read z h = is (fits-in w32 h tt tt)

pub move_read : (z : ℤ) → Between most_move most_move z → to_z w32 (of_z w32 z) ≡ z
move_read z h = is (fits-in w32 h tt tt)
