-- Which words of the edges the call can change: position, mark, flags and zone; and with a refusal none.
use mathlib.Core.Path.{refl}
use mathlib.Core.Bool.{◌&&◌}
use mathlib.Core.List.{List}
use Prim.Native.Nat.{ℕ}
use lib.Dec.{ltb}
use lib.IntN.{ℤ}
use Rattle.axis.specs.declared.kinds.Direction.TheVariants as Directions
use Rattle.axis.specs.Changes.{zone}
use Rattle.zones_stems.specs.Joined.{joined_marks}
use Rattle.zones_stems.proofs.Changed as Joined
use Rattle.words.specs.Field.{dimension_of, rule_of, choice_of, group_of}
use Rattle.words.specs.Edge.{flat_axis}
use Rattle.words_shape.specs.Shape.{choice}
use Rattle.words_call.specs.Lent.{choices, both_in}
use Rattle.words_call.specs.Kept.{KeptBut, of_edges, is_one_of, zone_words}
use Rattle.words_call.proofs.Kept.{edges-left, lent-first}
use Rattle.words_call.proofs.Extents.{wherever-words}
use Rattle.zones_stems_words.specs.Lent.{joined_aligned, JoinedLent}

pub joined-kept :
    (ws : List ℤ) (dim group adjust ttb rule : ℤ) (standards : List ℤ) (count found : ℤ) {r : ℕ} {now : List ℤ} {n a : ℤ}
    → JoinedLent ws dim group adjust ttb rule standards count found r (now, (n, a)) → KeptBut (of_edges (λ (i : ℕ). is_one_of zone_words)) ws now
joined-kept ws dim group adjust ttb rule standards count found l =
    let axis = flat_axis ws (dimension_of dim) Directions.None in
    edges-left (λ (i : ℕ). is_one_of zone_words) ws (choices dim group adjust && both_in choice ttb rule) (dimension_of dim) Directions.None
    (joined_aligned ws dim group adjust ttb rule standards).axis (lent-first l)
    (λ e. wherever-words (λ (i : ℕ). ltb i axis.len) (zone joined_marks) axis _
    (Joined.changed axis (group_of group) (choice_of adjust) (choice_of ttb) (rule_of rule) standards refl).only)
