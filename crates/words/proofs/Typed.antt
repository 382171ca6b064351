-- The segments and edges that words are read as are values of the declared types: whatever the words are, coordinates are of 16 bits, and the tables have all
-- their places.
use mathlib.Core.Path.{◌≡◌, subst, ◌∙◌}
use mathlib.Core.List.{List, [], ◌∷◌, ◌++◌}
use mathlib.Core.Logic.{⊎_elim}
use Prim.Native.Nat.{ℕ, zero, suc, ◌+◌, ◌-◌, ◌≤◌, ◌<◌, min}
use native.Mathlib.Omega.{arith}
use lib.IntN.{ℤ, pos}
use lib.ListN.{length, get_or, replicate, length-append, length-replicate}
use Rattle.signed.specs.Parts.{up, dn}
use Rattle.signed.proofs.Signed.{lt-or-le}
use Rattle.axis.specs.declared.kinds.Dimension.{Dimension}
use Rattle.axis.specs.declared.kinds.Direction.{Direction}
use Rattle.axis.specs.Edge.{empty_edge}
use Rattle.axis.specs.Handed.{Short, TypedSegment, Typed, TypedAxis}
use Rattle.axis.specs.Limits.{most_edges, most_segments}
use Rattle.axis.specs.Segment.{empty_segment}
use Rattle.axis.proofs.Declared.{empty-typed}
use Rattle.words.specs.Edge.{edge_in_run, axis_run, edges_in, flat_axis}
use Rattle.words.specs.Field.{short_of}
use Rattle.words.specs.Segment.{segment_from, segment_in_run, segments_run, segments_in, flat_segments}
use Rattle.words.specs.Word.{firsts, table}
use Rattle.words.proofs.Fields.{short-low, short-high, short-is}
use Rattle.words.proofs.Tables.{firsts-length}

-- ---- a segment
zero-short : Short (pos 0)
zero-short = omega arith

short : (w : ℤ) → Short (short_of w)
short w = ⊎_elim
    (λ (l : up w + 32768 < dn w). subst Short (short-low w l) zero-short)
    (λ (l : dn w ≤ up w + 32768). ⊎_elim
    (λ (h : dn w + 32767 < up w). subst Short (short-high w h) zero-short)
    (λ (h : up w ≤ dn w + 32767). subst Short (short-is w l h) (record { low = l; high = h }))
    (lt-or-le (dn w + 32767) (up w)))
    (lt-or-le (up w + 32768) (dn w))

read : (ws : List ℤ) (at : ℕ) → TypedSegment (segment_from ws at)
unfolding segment_from
read ws at = record { pos = short _; low = short _; high = short _ }

-- ---- a table
-- what holds of every element and of the empty place holds in every place
module _ {A : Type 0} (P : A → Type 0) (d : A) (e : P d) where
  all_append : (xs ys : List A) → ((i : ℕ) → P (get_or xs i d)) → ((i : ℕ) → P (get_or ys i d)) → (i : ℕ) → P (get_or (xs ++ ys) i d)
  all_append [] ys p q i = q i
  all_append (x ∷ xs) ys p q zero = p 0
  all_append (x ∷ xs) ys p q (suc i) = all_append xs ys (λ j. p (suc j)) q i

  all_one : (x : A) → P x → (i : ℕ) → P (get_or (x ∷ []) i d)
  all_one x p zero = p
  all_one x p (suc i) = e

  all_firsts : (f : ℕ → A) → ((i : ℕ) → P (f i)) → (n i : ℕ) → P (get_or (firsts f n) i d)
  unfolding firsts
  all_firsts f p zero i = e
  all_firsts f p (suc n) i = all_append (firsts f n) (f n ∷ []) (all_firsts f p n) (all_one (f n) (p n)) i

  all-empty : (n i : ℕ) → P (get_or (replicate n d) i d)
  all-empty zero i = e
  all-empty (suc n) zero = e
  all-empty (suc n) (suc i) = all-empty n i

  all-table : (size : ℕ) (f : ℕ → A) → ((i : ℕ) → P (f i)) → (n i : ℕ) → P (get_or (table size d f n) i d)
  unfolding table
  all-table size f p n i = all_append (firsts f n) (replicate (size - n) d) (all_firsts f p n) (all-empty (size - n)) i

table-length : {A : Type 0} (size : ℕ) (d : A) (f : ℕ → A) (n : ℕ) → n ≤ size → length (table size d f n) ≡ size
unfolding table
table-length size d f n h = length-append (firsts f n) (replicate (size - n) d) ∙ omega (arith, firsts-length f n, length-replicate (size - n) d)

-- ---- the segments that words are read as
pub typed : (ws : List ℤ) (first len : ℕ) → Typed (segments_run ws first len)
unfolding segments_run
typed ws first len = record {
  places = table-length most_segments empty_segment (segment_in_run ws first) (min len most_segments) (omega arith);
  segment = all-table TypedSegment empty_segment empty-typed most_segments (segment_in_run ws first) (λ i. read ws _) (min len most_segments);
}

-- a list without a count among them
pub flat-typed : (ws : List ℤ) → Typed (flat_segments ws)
unfolding flat_segments
flat-typed ws = typed ws 0 (segments_in ws)

-- ---- the edges
pub axis-typed : (ws : List ℤ) (d : Dimension) (major : Direction) → TypedAxis (flat_axis ws d major)
unfolding flat_axis axis_run
axis-typed ws d major = record { places = table-length most_edges empty_edge (edge_in_run ws 0) (min (edges_in ws) most_edges) (omega arith) }
