-- Request #102, the linked edge: it is exactly its fitted width from the base edge, which is a pixel or more by Snap.
use mathlib.Core.Path.{◌≡◌, subst}
use mathlib.Core.List.{List}
use Prim.Native.Nat.{ℕ, ◌≤◌, ◌<◌}
use native.Mathlib.Omega.{arith}
use lib.ListN.{length, get_or, set, length-set}
use lib.Seq.{get_or-set_same, get_or-set_other}
use lib.IntN.{ℤ, nat_abs, ◌+ℤ◌, ◌-ℤ◌}
use Rattle.signed.specs.Distance.{distance}
use Rattle.signed.proofs.Signed.{nat_abs-is, one-zero, add-law, sub-law, same}
use Rattle.fixed.specs.declared.width.WidthRule.{WidthRule}
use Rattle.fixed.specs.declared.width.WidthRule.TheVariants.{Snap}
use Rattle.fixed.specs.Width.{one_pixel, fitted_width}
use Rattle.fixed.proofs.Widths.{not-thinner}
use Rattle.axis.specs.declared.edge.Edge.{Edge}
use Rattle.axis.specs.Edge.{empty_edge}
use Rattle.place.specs.Placing.{linked_pos}
use Rattle.place.specs.Thin.{PixelApart, HasWidth}

-- ---- positions that a width takes apart
-- by how much they are apart
pub added : (p w : ℤ) → (p +ℤ w) -ℤ p ≡ w
added p w = same (omega (arith, sub-law (p +ℤ w) p, add-law p w))

-- a width of a pixel and more, behind a position or before it
pub apart-behind : (p w : ℤ) → one_pixel ≤ nat_abs w → PixelApart p (p +ℤ w)
apart-behind p w h = let q = p -ℤ (p +ℤ w) in omega (arith, h, nat_abs-is w, nat_abs-is q, one-zero w, one-zero q, sub-law p (p +ℤ w), add-law p w)

pub apart-before : (p w : ℤ) → one_pixel ≤ nat_abs w → PixelApart (p -ℤ w) p
apart-before p w h = let q = (p -ℤ w) -ℤ p in omega (arith, h, nat_abs-is w, nat_abs-is q, one-zero w, one-zero q, sub-law (p -ℤ w) p, sub-law p w)

-- whichever is named first
pub swapped : (p q : ℤ) → PixelApart p q → PixelApart q p
swapped p q h = omega (arith, h, nat_abs-is (p -ℤ q), nat_abs-is (q -ℤ p), one-zero (p -ℤ q), one-zero (q -ℤ p), sub-law p q, sub-law q p)

-- ---- the fitted width of a stem that has one
pub fitted-pixel : (xs : List ℤ) (o1 o2 : ℤ) → HasWidth xs o1 o2 → one_pixel ≤ nat_abs (fitted_width Snap xs (o2 -ℤ o1))
fitted-pixel xs o1 o2 h = not-thinner xs (o2 -ℤ o1) h.standards h.width

-- a stem from one edge to the other has a width too
pub turned : (xs : List ℤ) (o1 o2 : ℤ) → HasWidth xs o1 o2 → HasWidth xs o2 o1
turned xs o1 o2 h = record {
  standards = h.standards;
  width = omega (arith, h.width, nat_abs-is (o1 -ℤ o2), nat_abs-is (o2 -ℤ o1), one-zero (o1 -ℤ o2), one-zero (o2 -ℤ o1), sub-law o1 o2, sub-law o2 o1);
}

-- ---- the linked edge
pub linked-by-width : (rule : WidthRule) (xs : List ℤ) (p base stem : ℤ) → linked_pos rule xs p base stem -ℤ p ≡ fitted_width rule xs (stem -ℤ base)
unfolding linked_pos
linked-by-width rule xs p base stem = added p (fitted_width rule xs (stem -ℤ base))

pub linked-apart : (xs : List ℤ) (p base stem : ℤ) → HasWidth xs base stem → PixelApart p (linked_pos Snap xs p base stem)
unfolding linked_pos
linked-apart xs p base stem h = apart-behind p (fitted_width Snap xs (stem -ℤ base)) (fitted-pixel xs base stem h)

-- ---- edges in their places
-- the positions of edges i and k are at least a pixel apart
pub record Seen (es : List Edge) (i k : ℕ) : Type 0 where
  pub apart : PixelApart (get_or es i empty_edge).pos (get_or es k empty_edge).pos

-- edges with a width between them are two
pub two_edges : (es : List Edge) (xs : List ℤ) (i k : ℕ) → HasWidth xs (get_or es i empty_edge).opos (get_or es k empty_edge).opos → i ≡ k → ⊥
two_edges es xs i k h e =
    let o = (get_or es k empty_edge).opos in
    let z : 0 < distance o o = subst (λ (j : ℕ). 0 < distance o (get_or es j empty_edge).opos) e h.width in
    omega (arith, z, nat_abs-is (o -ℤ o), one-zero (o -ℤ o), sub-law o o)

-- one edge put in its place
pub put_one : (es : List Edge) (i k : ℕ) (e : Edge) → k < length es → (i ≡ k → ⊥) → PixelApart (get_or es i empty_edge).pos e.pos → Seen (set es k e) i k
put_one es i k e h n a = record { apart = rw (get_or-set_other es k i e empty_edge n, get_or-set_same es k e empty_edge h) a }

-- both edges, one after the other
pub put_both : (es : List Edge) (i k : ℕ) (a b : Edge) → i < length es → k < length es → (i ≡ k → ⊥) → PixelApart a.pos b.pos
    → Seen (set (set es i a) k b) i k
put_both es i k a b hi hk n p = put_one (set es i a) i k b (rw length-set hk) n (rw (get_or-set_same es i a empty_edge hi) p)

-- whichever is named first
pub seen-both-ways : (es : List Edge) (i k : ℕ) → Seen es i k → Seen es k i
seen-both-ways es i k s = record { apart = swapped (get_or es i empty_edge).pos (get_or es k empty_edge).pos s.apart }
