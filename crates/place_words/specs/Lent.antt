-- The calls that place one edge over lent edges: by its link, by its serif, by its neighbours.
use Rattle.std.specs.Prelude.{true, cond, List, ℕ, ℤ}
use Rattle.place.specs.Answer.{Bounds}
use Rattle.place.specs.Answer.{Fitted}
use Rattle.place.specs.Fitting.{align_linked_edge, align_serif_edge, adjust_link, latin_remaining_bounds}
use Rattle.place.specs.declared.adjust.LinkDir.{LinkDir}
use Rattle.place.specs.declared.adjust.LinkDir.TheVariants.{Prev, Next}
use Rattle.words.specs.Field.{choice_of, rule_of, link_word}
use Rattle.words.specs.Edge.{edges_over}
use Rattle.words_shape.specs.Shape.{is_in, choice}
use Rattle.words_call.specs.Lent.{Lent, edges_front, both_in, named_edge, edges_of}

-- ---- the linked edge: edges, the width rule with its standards, the base edge and the stem edge
abbrev pub linked_fitted : List ℤ → ℤ → List ℤ → ℤ → ℤ → Fitted
linked_fitted ws rule standards base stem = align_linked_edge (edges_of ws) (rule_of rule) standards (named_edge base) (named_edge stem)

abbrev pub LinkedLent : List ℤ → ℤ → List ℤ → ℤ → ℤ → ℕ → List ℤ → Type 0
LinkedLent ws rule standards base stem =
    Lent (edges_front ws (is_in choice rule)) (linked_fitted ws rule standards base stem).answer (edges_over ws (linked_fitted ws rule standards base stem).axis) ws

-- ---- the serif edge: edges, the base edge and the serif edge
abbrev pub serif_fitted : List ℤ → ℤ → ℤ → Fitted
serif_fitted ws base serif = align_serif_edge (edges_of ws) (named_edge base) (named_edge serif)

abbrev pub SerifLent : List ℤ → ℤ → ℤ → ℕ → List ℤ → Type 0
SerifLent ws base serif = Lent (edges_front ws true) (serif_fitted ws base serif).answer (edges_over ws (serif_fitted ws base serif).axis) ws

-- ---- the adjustment: edges, the edge, its neighbour, and whether the retired order is asked for
-- a neighbour: the previous edge or the next
unfoldable pub link_dir_of : ℤ → LinkDir
link_dir_of w = cond (choice_of w) Next Prev

abbrev pub adjust_fitted : List ℤ → ℤ → ℤ → ℤ → Fitted
adjust_fitted ws edge dir ttb = adjust_link (edges_of ws) (named_edge edge) (link_dir_of dir) (choice_of ttb)

abbrev pub AdjustLent : List ℤ → ℤ → ℤ → ℤ → ℕ → List ℤ → Type 0
AdjustLent ws edge dir ttb =
    Lent (edges_front ws (both_in choice dir ttb)) (adjust_fitted ws edge dir ttb).answer (edges_over ws (adjust_fitted ws edge dir ttb).axis) ws

-- ---- the bounds: edges, which are not written, and the edge; two places are lent for the bounds
abbrev pub bounds_found : List ℤ → ℤ → Bounds
bounds_found ws edge = latin_remaining_bounds (edges_of ws) (named_edge edge)

abbrev pub bounds_words : Bounds → ℤ × ℤ
bounds_words b = (link_word b.lower, link_word b.upper)

abbrev pub BoundsLent : List ℤ → ℤ → ℤ × ℤ → ℕ → ℤ × ℤ → Type 0
BoundsLent ws edge old = Lent (edges_front ws true) (bounds_found ws edge).answer (bounds_words (bounds_found ws edge)) old
