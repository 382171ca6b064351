-- Which words of the edges the calls that place one edge can change: its position and its mark; with a refusal none.
use mathlib.Core.Path.{◌≡◌, refl}
use mathlib.Core.Bool.{true}
use mathlib.Core.List.{List, [], ◌∷◌}
use Prim.Native.Nat.{ℕ}
use lib.Dec.{eqb}
use lib.IntN.{ℤ}
use Rattle.axis.specs.declared.kinds.Dimension.TheVariants as Dimensions
use Rattle.axis.specs.declared.kinds.Direction.TheVariants as Directions
use Rattle.axis.specs.declared.kinds.Mark.TheVariants.{Linked, Serif, Bound}
use Rattle.axis.specs.Changes.{position, wherever}
use Rattle.place.proofs.ChangedCalls as Fitting
use Rattle.words.specs.Word.{word_at}
use Rattle.words.specs.Field.{choice_of, rule_of}
use Rattle.words_shape.specs.Shape.{is_in, choice}
use Rattle.words_call.specs.Lent.{both_in, named_edge, edges_of}
use Rattle.words_call.specs.Kept.{KeptBut, of_edges, in_extent, Beside}
use Rattle.words_call.proofs.Kept.{edges-left}
use Rattle.words_call.proofs.Extents.{only-words, other_word}
use Rattle.place_words.specs.Lent.{link_dir_of, linked_fitted, LinkedLent, serif_fitted, SerifLent, adjust_fitted, AdjustLent}

-- the linked edge: position and mark of the stem edge
pub linked-kept : (ws : List ℤ) (rule : ℤ) (standards : List ℤ) (base stem : ℤ) {r : ℕ} {now : List ℤ} → LinkedLent ws rule standards base stem r now
    → KeptBut (of_edges (in_extent (wherever (eqb (named_edge stem)) (position (Linked ∷ []))))) ws now
linked-kept ws rule standards base stem l =
    let extent = wherever (eqb (named_edge stem)) (position (Linked ∷ [])) in
    edges-left (in_extent extent) ws (is_in choice rule) Dimensions.Horizontal Directions.None (linked_fitted ws rule standards base stem).axis l
    (λ e. only-words extent (edges_of ws) _ (Fitting.align-linked-edge (edges_of ws) (rule_of rule) standards (named_edge base) (named_edge stem) refl).only)

-- the serif edge: position and mark of the serif edge
pub serif-kept : (ws : List ℤ) (base serif : ℤ) {r : ℕ} {now : List ℤ} → SerifLent ws base serif r now
    → KeptBut (of_edges (in_extent (wherever (eqb (named_edge serif)) (position (Serif ∷ []))))) ws now
serif-kept ws base serif l =
    let extent = wherever (eqb (named_edge serif)) (position (Serif ∷ [])) in
    edges-left (in_extent extent) ws true Dimensions.Horizontal Directions.None (serif_fitted ws base serif).axis l
    (λ e. only-words extent (edges_of ws) _ (Fitting.align-serif-edge (edges_of ws) (named_edge base) (named_edge serif) refl).only)

-- the adjustment: position and mark of the edge, where it is moved
pub adjust-kept : (ws : List ℤ) (edge dir ttb : ℤ) {r : ℕ} {now : List ℤ} → AdjustLent ws edge dir ttb r now
    → KeptBut (of_edges (in_extent (wherever (eqb (named_edge edge)) (position (Bound ∷ []))))) ws now
adjust-kept ws edge dir ttb l =
    let extent = wherever (eqb (named_edge edge)) (position (Bound ∷ [])) in
    edges-left (in_extent extent) ws (both_in choice dir ttb) Dimensions.Horizontal Directions.None (adjust_fitted ws edge dir ttb).axis l
    (λ e. only-words extent (edges_of ws) _ (Fitting.adjust-link (edges_of ws) (named_edge edge) (link_dir_of dir) (choice_of ttb) refl).only)

-- ---- word by word: every word but those two stays
pub linked-word : (ws : List ℤ) (rule : ℤ) (standards : List ℤ) (base stem : ℤ) {r : ℕ} {now : List ℤ} → LinkedLent ws rule standards base stem r now
    → (k : ℕ) → Beside (named_edge stem) k → word_at now k ≡ word_at ws k
linked-word ws rule standards base stem l k h = (linked-kept ws rule standards base stem l).word k (other_word (Linked ∷ []) (named_edge stem) k h)

pub serif-word : (ws : List ℤ) (base serif : ℤ) {r : ℕ} {now : List ℤ} → SerifLent ws base serif r now → (k : ℕ) → Beside (named_edge serif) k
    → word_at now k ≡ word_at ws k
serif-word ws base serif l k h = (serif-kept ws base serif l).word k (other_word (Serif ∷ []) (named_edge serif) k h)

pub adjust-word : (ws : List ℤ) (edge dir ttb : ℤ) {r : ℕ} {now : List ℤ} → AdjustLent ws edge dir ttb r now → (k : ℕ) → Beside (named_edge edge) k
    → word_at now k ≡ word_at ws k
adjust-word ws edge dir ttb l k h = (adjust-kept ws edge dir ttb l).word k (other_word (Bound ∷ []) (named_edge edge) k h)
