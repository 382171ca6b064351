-- Which words of the edges the call can change: position, mark and flags; with a refusal none.
use mathlib.Core.Path.{refl}
use mathlib.Core.Bool.{◌&&◌}
use mathlib.Core.List.{List}
use Prim.Native.Nat.{ℕ}
use lib.Dec.{ltb}
use lib.IntN.{ℤ}
use Rattle.signed.specs.Parts.{up}
use Rattle.axis.specs.declared.kinds.Dimension.TheVariants.{Horizontal}
use Rattle.axis.specs.declared.kinds.Direction.TheVariants as Directions
use Rattle.axis.specs.Changes.{place}
use Rattle.words.specs.Field.{group_of}
use Rattle.words_shape.specs.Shape.{is_in, choice, index}
use Rattle.words_call.specs.Lent.{both_in, named_anchor, edges_of}
use Rattle.words_call.specs.Kept.{KeptBut, of_edges, is_one_of, place_words}
use Rattle.words_call.proofs.Kept.{edges-left, lent-first}
use Rattle.words_call.proofs.Extents.{wherever-words}
use Rattle.remaining.specs.Remaining.{remaining_marks}
use Rattle.remaining.proofs.Changed.{changed}
use Rattle.remaining_words.specs.Lent.{remaining_aligned, RemainingLent}

pub remaining-kept : (ws : List ℤ) (dim group count anchor found : ℤ) {r : ℕ} {now : List ℤ} {a : ℤ} → RemainingLent ws dim group count anchor found r (now, a)
    → KeptBut (of_edges (λ (i : ℕ). is_one_of place_words)) ws now
remaining-kept ws dim group count anchor found l =
    edges-left (λ (i : ℕ). is_one_of place_words) ws (both_in choice dim group && is_in index count) Horizontal Directions.None
    (remaining_aligned ws group count anchor).axis (lent-first l)
    (λ e. wherever-words (λ (i : ℕ). ltb i (edges_of ws).len) (place remaining_marks) (edges_of ws) _
    (changed (edges_of ws) (group_of group) (up count) (named_anchor anchor) refl).only)
