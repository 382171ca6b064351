-- Each field of an edge, by its words.
use mathlib.Core.Path.{◌≡◌, ap, ◌∙◌}
use mathlib.Core.List.{List}
use Prim.Native.Nat.{ℕ, ◌*◌, ◌<◌}
use lib.IntN.{ℤ}
use Rattle.axis.specs.declared.kinds.Dimension.{Dimension}
use Rattle.axis.specs.declared.edge.Edge.{Edge}
use Rattle.axis.specs.Edge.{edge_at}
use Rattle.words.specs.Word.{word_at}
use Rattle.words.specs.Field.{short_of, index_of, link_of, direction_of, blue_of, flags_of, mark_of}
use Rattle.words.specs.Edge.{
  edge_size,
  fpos_place,
  opos_place,
  pos_place,
  flags_place,
  dir_place,
  blue_place,
  fitted_place,
  link_place,
  serif_place,
  first_place,
  last_place,
  mark_place,
  word_of_edge,
  edges_in,
}
use Rattle.words.proofs.Codecs.{behind}
use Rattle.words.proofs.Layouts.{edge_by, edge-by}
use Rattle.words_edge.specs.Whole.{Whole, axis_in}
use Rattle.words_edge.proofs.Wholes.{edge_in}

module _ (ws : List ℤ) (d : Dimension) (i : ℕ) (w : Whole ws) (h : i < edges_in ws) where
  by-words : edge_at (axis_in ws d) i ≡ edge_by (behind ws (edge_size * i))
  by-words = edge_in ws d i w h ∙ edge-by ws (edge_size * i)

  pub fpos-in : (edge_at (axis_in ws d) i).fpos ≡ short_of (word_at ws (word_of_edge i fpos_place))
  fpos-in = ap (λ (e : Edge). e.fpos) by-words

  pub opos-in : (edge_at (axis_in ws d) i).opos ≡ word_at ws (word_of_edge i opos_place)
  opos-in = ap (λ (e : Edge). e.opos) by-words

  pub pos-in : (edge_at (axis_in ws d) i).pos ≡ word_at ws (word_of_edge i pos_place)
  pos-in = ap (λ (e : Edge). e.pos) by-words

  pub flags-in : (edge_at (axis_in ws d) i).flags ≡ flags_of (word_at ws (word_of_edge i flags_place))
  flags-in = ap (λ (e : Edge). e.flags) by-words

  pub dir-in : (edge_at (axis_in ws d) i).dir ≡ direction_of (word_at ws (word_of_edge i dir_place))
  dir-in = ap (λ (e : Edge). e.dir) by-words

  pub blue-in : (edge_at (axis_in ws d) i).blue ≡ blue_of (word_at ws (word_of_edge i blue_place)) (word_at ws (word_of_edge i fitted_place))
  blue-in = ap (λ (e : Edge). e.blue) by-words

  pub link-in : (edge_at (axis_in ws d) i).link ≡ link_of (word_at ws (word_of_edge i link_place))
  link-in = ap (λ (e : Edge). e.link) by-words

  pub serif-in : (edge_at (axis_in ws d) i).serif ≡ link_of (word_at ws (word_of_edge i serif_place))
  serif-in = ap (λ (e : Edge). e.serif) by-words

  pub first-in : (edge_at (axis_in ws d) i).first ≡ index_of (word_at ws (word_of_edge i first_place))
  first-in = ap (λ (e : Edge). e.first) by-words

  pub last-in : (edge_at (axis_in ws d) i).last ≡ index_of (word_at ws (word_of_edge i last_place))
  last-in = ap (λ (e : Edge). e.last) by-words

  pub mark-in : (edge_at (axis_in ws d) i).mark ≡ mark_of (word_at ws (word_of_edge i mark_place))
  mark-in = ap (λ (e : Edge). e.mark) by-words
