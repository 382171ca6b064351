-- Which words of the edges the stem pass can change: position, mark and flags; with a refusal none.
use mathlib.Core.Path.{refl}
use mathlib.Core.Bool.{◌&&◌}
use mathlib.Core.List.{List}
use Prim.Native.Nat.{ℕ}
use lib.Dec.{ltb}
use lib.IntN.{ℤ}
use Rattle.axis.specs.declared.kinds.Direction.TheVariants as Directions
use Rattle.axis.specs.Changes.{position, place}
use Rattle.stems.specs.Stems.{stems_marks}
use Rattle.stems.proofs.Changed as Stems
use Rattle.words.specs.Field.{dimension_of, rule_of, choice_of, group_of}
use Rattle.words.specs.Edge.{flat_axis}
use Rattle.words_shape.specs.Shape.{choice}
use Rattle.words_call.specs.Lent.{choices, both_in, named_anchor}
use Rattle.words_call.specs.Kept.{KeptBut, of_edges, is_one_of, place_words}
use Rattle.words_call.proofs.Kept.{edges-left, lent-first}
use Rattle.words_call.proofs.Extents.{wherever-words}
use Rattle.stems_words.specs.Lent.{stems_aligned, StemsLent}

-- the stem pass: positions, marks and flags of edges
pub stems-kept :
    (ws : List ℤ) (dim group adjust ttb anchor rule : ℤ) (standards : List ℤ) (count found : ℤ) {r : ℕ} {now : List ℤ} {n a : ℤ}
    → StemsLent ws dim group adjust ttb anchor rule standards count found r (now, (n, a)) → KeptBut (of_edges (λ (i : ℕ). is_one_of place_words)) ws now
stems-kept ws dim group adjust ttb anchor rule standards count found l =
    let axis = flat_axis ws (dimension_of dim) Directions.None in
    edges-left (λ (i : ℕ). is_one_of place_words) ws (choices dim group adjust && both_in choice ttb rule) (dimension_of dim) Directions.None
    (stems_aligned ws dim group adjust ttb anchor rule standards).axis (lent-first l)
    (λ e. wherever-words (λ (i : ℕ). ltb i axis.len) (place stems_marks) axis _
    (Stems.changed axis (group_of group) (choice_of adjust) (choice_of ttb) (named_anchor anchor) (rule_of rule) standards refl).only)
