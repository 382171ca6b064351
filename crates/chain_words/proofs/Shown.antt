-- The words of records whose fields are of their types are within their fields' values, and a list of them is records and no more.
use Rattle.std.specs.Prelude.{None, Some}
use mathlib.Core.Path.{◌≡◌, refl, ap, ◌∙◌}
use mathlib.Core.Bool.{Bool, true, false, ◌||◌}
use mathlib.Core.List.{List, [], ◌∷◌}
use Prim.Native.Nat.{ℕ, zero, suc, ◌+◌, ◌*◌, ◌≤◌, ◌<◌}
use native.Mathlib.Omega.{arith}
use borrow.Author.Tests.{eq-eqb}
use lib.ListN.{length, get_or}
use lib.IntN.{ℤ, pos}
use Rattle.signed.specs.Equality.{eq_z}
use Rattle.signed.specs.Range.{Between}
use Rattle.axis.specs.declared.flags.Flags.{Flags}
use Rattle.axis.specs.Link.{Blue}
use Rattle.axis.specs.declared.kinds.Direction.{Direction}
use Rattle.axis.specs.declared.kinds.Direction.TheVariants as Directions
use Rattle.axis.specs.Link.{Link}
use Rattle.axis.specs.declared.kinds.Mark.{Mark}
use Rattle.axis.specs.declared.kinds.Mark.TheVariants as Marks
use Rattle.axis.specs.declared.edge.Edge.{Edge}
use Rattle.axis.specs.declared.segment.Segment.{Segment}
use Rattle.axis.specs.Accepted.{Below}
use Rattle.axis.specs.Handed.{Short, TypedEdge}
use Rattle.words.specs.Field.{link_word, direction_word, present_word, fitted_word, weight_of, flags_word, mark_word}
use Rattle.words.specs.Word.{word_at}
use Rattle.words.specs.Edge.{edge_size, edges_in, edge_words}
use Rattle.words.specs.Segment.{segment_size, segments_in, segment_words}
use Rattle.words_shape.specs.declared.field.Range.{Range}
use Rattle.words_shape.specs.declared.element.Record.TheVariants as Records
use Rattle.words_shape.specs.declared.element.Element.{Element}
use Rattle.words_shape.specs.declared.element.Element.TheVariants as Elements
use Rattle.words_shape.specs.Shape.{
  is_in,
  word,
  short,
  index,
  link,
  choice,
  direction,
  flags,
  mark,
  no_range,
  and_then,
  fields,
  ranges_of,
  blue_shown,
  edge,
  element,
  elements,
  is_run,
  edges_shown,
  segments_shown,
}
use Rattle.words_shape.proofs.Shapes.{in_range, field-on}

-- ---- fields
-- a number of 32 bits
abbrev pub Word : ℤ → Type 0
Word z = Between 2147483648 2147483647 z

word_in : (z : ℤ) → Word z → is_in word z ≡ true
word_in z h = in_range word z (omega (arith, h)) (omega (arith, h))

short-in : (z : ℤ) → Short z → is_in short z ≡ true
short-in z h = in_range short z (omega (arith, h)) (omega (arith, h))

index_in : (k : ℕ) → k < 65536 → is_in index (pos k) ≡ true
index_in k h = in_range index (pos k) (omega arith) (omega arith)

link-in : (l : Link) → Below 65536 l → is_in link (link_word l) ≡ true
link-in None h = refl
link-in (Some k) h = in_range link (pos k) (omega arith) (omega (arith, h.at k refl))

direction-in : (d : Direction) → is_in direction (direction_word d) ≡ true
direction-in Directions.None = refl
direction-in Directions.Right = refl
direction-in Directions.Left = refl
direction-in Directions.Up = refl
direction-in Directions.Down = refl

mark-in : (m : Mark) → is_in mark (mark_word m) ≡ true
mark-in Marks.Nothing = refl
mark-in Marks.BlueAnchor = refl
mark-in Marks.Blue = refl
mark-in Marks.Linked = refl
mark-in Marks.Anchor = refl
mark-in Marks.Stem = refl
mark-in Marks.Adjusted = refl
mark-in Marks.Bound = refl
mark-in Marks.Serif = refl
mark-in Marks.LowercaseM = refl
mark-in Marks.Between = refl
mark-in Marks.Spaced = refl
mark-in Marks.RemainingAnchor = refl

present-in : (b : Blue) → is_in choice (present_word b) ≡ true
present-in None = refl
present-in (Some z) = refl

weight-most : (b : Bool) (n : ℕ) → weight_of b n ≤ n
weight-most true n = omega arith
weight-most false n = omega arith

flags-in : (f : Flags) → is_in flags (flags_word f) ≡ true
unfolding flags_word
flags-in f =
    in_range flags (flags_word f) (omega arith)
    (omega (arith, weight-most f.round 1, weight-most f.serif 2, weight-most f.done 4, weight-most f.neutral 8))

-- ---- records
-- an edge and a segment whose numbers are of their types
pub record EdgeFits (e : Edge) : Type 0 where
  pub typed : TypedEdge e
  pub opos : Word e.opos
  pub pos : Word e.pos
  pub fitted : Word (fitted_word e.blue)

pub record SegmentFits (s : Segment) : Type 0 where
  pub pos : Short s.pos
  pub delta : Short s.delta
  pub low : Short s.min_coord
  pub high : Short s.max_coord
  pub height : Short s.height
  pub score : Word s.score
  pub len : Word s.len
  pub link : Below 65536 s.link
  pub serif : Below 65536 s.serif
  pub first : s.first < 65536
  pub last : s.last < 65536
  pub edge : Below 65536 s.edge
  pub next : Below 65536 s.next

-- each word of such a record is one of its field
abbrev AllIn : List Range → List ℤ → Type 0
AllIn rs ws = (k : ℕ) → k < length rs → is_in (get_or rs k no_range) (word_at ws k) ≡ true

edge_in : (e : Edge) → EdgeFits e → AllIn (ranges_of Records.Edge) (edge_words e)
unfolding edge_words
edge_in e h zero l = short-in e.fpos h.typed.fpos
edge_in e h (suc zero) l = word_in e.opos h.opos
edge_in e h (suc (suc zero)) l = word_in e.pos h.pos
edge_in e h (suc (suc (suc zero))) l = flags-in e.flags
edge_in e h (suc (suc (suc (suc zero)))) l = direction-in e.dir
edge_in e h (suc (suc (suc (suc (suc zero))))) l = present-in e.blue
edge_in e h (suc (suc (suc (suc (suc (suc zero)))))) l = word_in (fitted_word e.blue) h.fitted
edge_in e h (suc (suc (suc (suc (suc (suc (suc zero))))))) l = link-in e.link h.typed.link
edge_in e h (suc (suc (suc (suc (suc (suc (suc (suc zero)))))))) l = link-in e.serif h.typed.serif
edge_in e h (suc (suc (suc (suc (suc (suc (suc (suc (suc zero))))))))) l = index_in e.first h.typed.first
edge_in e h (suc (suc (suc (suc (suc (suc (suc (suc (suc (suc zero)))))))))) l = index_in e.last h.typed.last
edge_in e h (suc (suc (suc (suc (suc (suc (suc (suc (suc (suc (suc zero))))))))))) l = mark-in e.mark
edge_in e h (suc (suc (suc (suc (suc (suc (suc (suc (suc (suc (suc (suc k)))))))))))) l = absurd (omega arith)

-- and a position without a zone is 0
blue-in : (e : Edge) → blue_shown (edge_words e) 0 ≡ true
unfolding blue_shown edge_words
blue-in e = by e.blue
  where
    by : (b : Blue) → (eq_z (present_word b) (pos 1) || eq_z (fitted_word b) (pos 0)) ≡ true
    by None = refl
    by (Some z) = refl

segment-in : (s : Segment) → SegmentFits s → AllIn (ranges_of Records.Segment) (segment_words s)
unfolding segment_words
segment-in s h zero l = flags-in s.flags
segment-in s h (suc zero) l = direction-in s.dir
segment-in s h (suc (suc zero)) l = short-in s.pos h.pos
segment-in s h (suc (suc (suc zero))) l = short-in s.delta h.delta
segment-in s h (suc (suc (suc (suc zero)))) l = short-in s.min_coord h.low
segment-in s h (suc (suc (suc (suc (suc zero))))) l = short-in s.max_coord h.high
segment-in s h (suc (suc (suc (suc (suc (suc zero)))))) l = short-in s.height h.height
segment-in s h (suc (suc (suc (suc (suc (suc (suc zero))))))) l = word_in s.score h.score
segment-in s h (suc (suc (suc (suc (suc (suc (suc (suc zero)))))))) l = word_in s.len h.len
segment-in s h (suc (suc (suc (suc (suc (suc (suc (suc (suc zero))))))))) l = link-in s.link h.link
segment-in s h (suc (suc (suc (suc (suc (suc (suc (suc (suc (suc zero)))))))))) l = link-in s.serif h.serif
segment-in s h (suc (suc (suc (suc (suc (suc (suc (suc (suc (suc (suc zero))))))))))) l = index_in s.first h.first
segment-in s h (suc (suc (suc (suc (suc (suc (suc (suc (suc (suc (suc (suc zero)))))))))))) l = index_in s.last h.last
segment-in s h (suc (suc (suc (suc (suc (suc (suc (suc (suc (suc (suc (suc (suc zero))))))))))))) l = link-in s.edge h.edge
segment-in s h (suc (suc (suc (suc (suc (suc (suc (suc (suc (suc (suc (suc (suc (suc zero)))))))))))))) l = link-in s.next h.next
segment-in s h (suc (suc (suc (suc (suc (suc (suc (suc (suc (suc (suc (suc (suc (suc (suc k))))))))))))))) l = absurd (omega arith)

-- ---- places
-- fields that stand in their places are there
fields-there : (rs : List Range) (ws : List ℤ) (at : ℕ) → at + length rs ≤ length ws
    → ((k : ℕ) → k < length rs → is_in (get_or rs k no_range) (word_at ws (at + k)) ≡ true) → fields rs ws at ≡ Some (at + length rs)
unfolding fields and_then
fields-there [] ws at l h = let q : at ≡ at + 0 = omega arith in ap Some q
fields-there (r ∷ rs) ws at l h =
    let z : at + 0 ≡ at = omega arith in
    let e : at + 1 + length rs ≡ at + suc (length rs) = omega arith in
    let one = field-on r ws at (omega arith) (rw z at (h 0 (omega arith))) in
    ap (λ p. and_then p (fields rs ws)) one
    ∙ fields-there rs ws (at + 1) (omega arith)
    (λ (k : ℕ) (b : k < length rs). let q : at + suc k ≡ at + 1 + k = omega arith in rw q at (h (suc k) (omega arith)))
    ∙ ap Some e

-- elements of k words each, one behind the other, are a run
module _ (e : Element) (k : ℕ) (ws : List ℤ) where
  elements-there : (n at : ℕ) → ((i : ℕ) → i < n → element e ws (at + k * i) ≡ Some (at + k * i + k)) → elements n e ws at ≡ Some (at + k * n)
  unfolding elements and_then
  elements-there zero at h = let q : at ≡ at + k * 0 = omega arith in ap Some q
  elements-there (suc n) at h =
      let z : at + k * 0 ≡ at = omega arith in
      let one : element e ws at ≡ Some (at + k) = rw z at (h 0 (omega arith)) in
      let q : at + k + k * n ≡ at + k * suc n = omega arith in
      ap (λ p. and_then p (elements n e ws)) one
      ∙ elements-there n (at + k) (λ (i : ℕ) (l : i < n). let p : at + k * suc i ≡ at + k + k * i = omega arith in rw p at (h (suc i) (omega arith)))
      ∙ ap Some q

  run-there : (n : ℕ) → length ws ≡ k * n → ((i : ℕ) → i < n → element e ws (k * i) ≡ Some (k * i + k)) → is_run n e ws ≡ true
  unfolding is_run
  run-there n l h =
      let all = elements-there n 0 (λ (i : ℕ) (b : i < n). let z : k * i ≡ 0 + k * i = omega arith in rw z at (h i b)) in
      rw all (eq-eqb (0 + k * n) (length ws) (omega (arith, l)))

-- ---- lists
-- words that are those of edges, each in its place
pub edges-are-shown : (ws : List ℤ) (n : ℕ) (e : ℕ → Edge) → length ws ≡ edge_size * n → ((i : ℕ) → i < n → EdgeFits (e i))
    → ((i j : ℕ) → i < n → j < edge_size → word_at ws (edge_size * i + j) ≡ word_at (edge_words (e i)) j) → edges_shown ws ≡ true
unfolding edges_shown element edge and_then blue_shown
edges-are-shown ws n e l fit at =
    let c : edges_in ws ≡ n = omega (arith, l) in
    rw c (run-there Elements.Edge edge_size ws n l one)
  where
    fields_at : (i : ℕ) → i < n → fields (ranges_of Records.Edge) ws (edge_size * i) ≡ Some (edge_size * i + edge_size)
    fields_at i h =
        fields-there (ranges_of Records.Edge) ws (edge_size * i) (omega (arith, l)) (λ (k : ℕ) (b : k < edge_size). rw (at i k h b) (edge_in (e i) (fit i h) k b))

    one : (i : ℕ) → i < n → element Elements.Edge ws (edge_size * i) ≡ Some (edge_size * i + edge_size)
    one i h = rw (fields_at i h, at i 5 h (omega arith), at i 6 h (omega arith), blue-in (e i))

-- words that are those of segments
pub segments-are-shown : (ws : List ℤ) (n : ℕ) (s : ℕ → Segment) → length ws ≡ segment_size * n → ((i : ℕ) → i < n → SegmentFits (s i))
    → ((i j : ℕ) → i < n → j < segment_size → word_at ws (segment_size * i + j) ≡ word_at (segment_words (s i)) j) → segments_shown ws ≡ true
unfolding segments_shown element
segments-are-shown ws n s l fit at =
    let c : segments_in ws ≡ n = omega (arith, l) in
    rw c
    (run-there Elements.Segment segment_size ws n l (λ (i : ℕ) (h : i < n).
    fields-there (ranges_of Records.Segment) ws (segment_size * i) (omega (arith, l))
    (λ (k : ℕ) (b : k < segment_size). rw (at i k h b) (segment-in (s i) (fit i h) k b))))
