-- Which words of the edges the CJK stem can change: positions and marks of its two edges; with a refusal none.
use mathlib.Core.Path.{◌≡◌, refl}
use mathlib.Core.Bool.{◌||◌}
use mathlib.Core.List.{List}
use Prim.Native.Nat.{ℕ}
use lib.Dec.{eqb}
use lib.IntN.{ℤ}
use Rattle.axis.specs.declared.kinds.Direction.TheVariants as Directions
use Rattle.axis.specs.Changes.{position, wherever}
use Rattle.stems_cjk.specs.Hint.{stem_marks}
use Rattle.stems_cjk.proofs.Changed as Cjk
use Rattle.words.specs.Field.{dimension_of, rule_of, choice_of}
use Rattle.words.specs.Word.{word_at}
use Rattle.words.specs.Edge.{flat_axis}
use Rattle.words_call.specs.Lent.{choices, named_edge}
use Rattle.words_call.specs.Kept.{KeptBut, of_edges, in_extent, Beside}
use Rattle.words_call.proofs.Kept.{edges-left, lent-first}
use Rattle.words_call.proofs.Extents.{only-words, other-words}
use Rattle.stem_cjk_words.specs.Lent.{stem_hinted, StemLent}

-- the CJK stem: positions and marks of its two edges
pub stem-kept :
    (ws : List ℤ) (dim adjust rule : ℤ) (standards : List ℤ) (edge edge2 delta own : ℤ) {r : ℕ} {now : List ℤ} {d : ℤ}
    → StemLent ws dim adjust rule standards edge edge2 delta own r (now, d)
    → KeptBut (of_edges (in_extent (wherever (λ (k : ℕ). eqb k (named_edge edge) || eqb k (named_edge edge2)) (position stem_marks)))) ws now
stem-kept ws dim adjust rule standards edge edge2 delta own l =
    let axis = flat_axis ws (dimension_of dim) Directions.None in
    let extent = wherever (λ (k : ℕ). eqb k (named_edge edge) || eqb k (named_edge edge2)) (position stem_marks) in
    edges-left (in_extent extent) ws (choices dim adjust rule) (dimension_of dim) Directions.None
    (stem_hinted ws dim adjust rule standards edge edge2 delta).axis (lent-first l)
    (λ e. only-words extent axis _ (Cjk.changed axis (named_edge edge) (named_edge edge2) (choice_of adjust) (rule_of rule) standards delta refl).only)

-- so that every word but those four stays
pub stem-word :
    (ws : List ℤ) (dim adjust rule : ℤ) (standards : List ℤ) (edge edge2 delta own : ℤ) {r : ℕ} {now : List ℤ} {d : ℤ}
    → StemLent ws dim adjust rule standards edge edge2 delta own r (now, d) → (k : ℕ) → Beside (named_edge edge) k → Beside (named_edge edge2) k
    → word_at now k ≡ word_at ws k
stem-word ws dim adjust rule standards edge edge2 delta own l k g h =
    (stem-kept ws dim adjust rule standards edge edge2 delta own l).word k (other-words stem_marks (named_edge edge) (named_edge edge2) k g h)
