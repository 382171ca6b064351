-- Words that name an edge: what the code's tests show of them, and which edge they name.
use Rattle.std.specs.Prelude.{None, Some}
use mathlib.Core.Path.{◌≡◌, refl, ap}
use Prim.Native.Nat.{ℕ, ◌≤◌, ◌<◌, min}
use native.Mathlib.Omega.{arith}
use lib.IntN.{ℤ, pos, negsuc}
use Rattle.signed.specs.Parts.{up, dn}
use Rattle.signed.proofs.Signed.{eq_z-yes, eq_z-no}
use Rattle.axis.specs.Limits.{most_edges}
use Rattle.words_call.specs.Lent.{named_edge, named_anchor}

-- ---- as the code reads them
pub names-none : (w : ℤ) → up w < dn w → most_edges ≡ named_edge w
unfolding named_edge
names-none (pos n) h = absurd (omega arith)
names-none (negsuc n) h = refl

pub names-one : (w : ℤ) → dn w ≤ up w → min (up w) most_edges ≡ named_edge w
unfolding named_edge
names-one (pos n) h = refl
names-one (negsuc n) h = absurd (omega arith)

pub anchor-none : (w : ℤ) → w ≡ negsuc 0 → None ≡ named_anchor w
unfolding named_anchor
anchor-none w e = rw (eq_z-yes w (negsuc 0) e)

pub anchor-named : (w : ℤ) → (w ≡ negsuc 0 → ⊥) → Some (named_edge w) ≡ named_anchor w
unfolding named_anchor
anchor-named w h = rw (eq_z-no w (negsuc 0) h)

-- ---- which edge it is
-- none behind the longest list's end
pub named-short : (w : ℤ) → named_edge w ≤ most_edges
unfolding named_edge
named-short (pos n) = omega arith
named-short (negsuc n) = omega arith

-- an edge of a list that is not too long is named by its own index, and by no other word
pub named_is : (w : ℤ) (n : ℕ) → n ≤ most_edges → named_edge w < n → w ≡ pos (named_edge w)
unfolding named_edge
named_is (pos k) n h l = let z : k ≡ min k most_edges = omega arith in ap pos z
named_is (negsuc k) n h l = absurd (omega arith)

pub index-names : (i n : ℕ) → n ≤ most_edges → i < n → named_edge (pos i) ≡ i
unfolding named_edge
index-names i n h l = omega arith
