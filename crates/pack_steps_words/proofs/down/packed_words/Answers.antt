-- `pack_steps_words::down::packed_words` meets its contract: the words are copied, and three of them are others.
use Rattle.std.specs.Prelude.{None}
use borrow.Author.Rules.{rules}
use mir.Syntax.{w32}
use native.Mathlib.Omega.{arith}
use mathlib.Core.Path.{◌≡◌, refl, sym, ap, subst, ◌∙◌}
use mathlib.Core.Bool.{cond}
use mathlib.Core.List.{List}
use Prim.Native.Nat.{ℕ, ◌+◌, ◌-◌, ◌*◌, ◌≤◌, ◌<◌}
use lib.IntN.{ℤ}
use lib.ListN.{length, take, drop}
use Rattle.signed.proofs.Signed.{is, got}
use Rattle.axis.specs.Link.{Link}
use Rattle.axis.specs.Accepted.{Below}
use Rattle.axis.specs.Link.{is_linked}
use Rattle.axis.specs.Limits.{most_segments}
use Rattle.axis.specs.Segment.{segment_at}
use Rattle.pack.specs.Sets.{number_at}
use Rattle.pack.specs.Packed.{moved}
use Rattle.words.specs.Word.{word_at}
use Rattle.words.specs.Field.{link_of, link_word}
use Rattle.words_segment.specs.Whole.{Whole}
use Rattle.words.specs.Segment.{segments_in, segment_size, link_place, serif_place, edge_place, next_place, word_of_segment, flat_segments}
use Rattle.words_segment.proofs.Reading.{link-in, serif-in, edge_in, next-in}
use Rattle.words_segment.proofs.Wholes.{room}
use Rattle.pack_steps_words.proofs.Moves.{part_length, part-copied, renumbered-words}
use Rattle.pack_steps_words.proofs.down.packed_words.Goals as goal

-- what is read
module _ (ws : List ℤ) (i : ℕ) (w : Whole ws) (h : i < segments_in ws) where
  link-is : (l : Link) → l ≡ link_of (word_at ws (word_of_segment i link_place)) → l ≡ (segment_at (flat_segments ws) i).link
  link-is l e = e ∙ sym (link-in ws i w h)

  serif-is : (l : Link) → l ≡ link_of (word_at ws (word_of_segment i serif_place)) → l ≡ (segment_at (flat_segments ws) i).serif
  serif-is l e = e ∙ sym (serif-in ws i w h)

  edge-is : (l : Link) → l ≡ link_of (word_at ws (word_of_segment i edge_place)) → l ≡ (segment_at (flat_segments ws) i).edge
  edge-is l e = e ∙ sym (edge_in ws i w h)

  next_is : (l : Link) → l ≡ link_of (word_at ws (word_of_segment i next_place)) → l ≡ (segment_at (flat_segments ws) i).next
  next_is l e = e ∙ sym (next-in ws i w h)

pub overflow_mul-at : goal.overflow_mul-at
overflow_mul-at c = omega (arith, c.requires.0.few)

pub overflow_add-at : goal.overflow_add-at
overflow_add-at c = omega (arith, c.requires.0.few)

pub overflow_add-at-2 : goal.overflow_add-at-2
overflow_add-at-2 c = omega (arith, c.requires.0.few)

pub overflow_add-at-3 : goal.overflow_add-at-3
overflow_add-at-3 c = omega (arith, c.requires.0.few)

pub overflow_add-at-4 : goal.overflow_add-at-4
overflow_add-at-4 c = omega (arith, c.requires.0.few)

pub overflow_add-at-5 : goal.overflow_add-at-5
overflow_add-at-5 c = omega (arith, c.requires.0.few)

pub offset_bounds-words-at : goal.offset_bounds-words-at
offset_bounds-words-at c = omega (arith, c.requires.0.few)

pub slice_bounds-write_words-count : goal.slice_bounds-write_words-count
slice_bounds-write_words-count c = omega arith

pub slice_bounds-write_words-start : goal.slice_bounds-write_words-start
slice_bounds-write_words-start c = omega (arith, room c.args.words.now c.args.i c.requires.0 c.requires.1)

pub slice_bounds-write_words-end : goal.slice_bounds-write_words-end
slice_bounds-write_words-end c = omega (arith, room c.args.words.now c.args.i c.requires.0 c.requires.1)

pub write_words-requires : goal.write_words-requires
write_words-requires c =
    let n : segment_size * c.args.i + segment_size - segment_size * c.args.i ≡ segment_size = omega arith in
    omega (
      arith,
      ap (λ (k : ℕ). length (take k (drop (segment_size * c.args.i) c.args.words.now))) n,
      part_length c.args.words.now c.args.i c.requires.0 c.requires.1,
    )

pub moved_link-requires : goal.moved_link-requires
moved_link-requires c = subst (Below most_segments) (sym (link-is _ _ c.requires.0 c.requires.1 _ c.link_at-link.ensures)) c.requires.2

pub bounds-packed-9 : goal.bounds-packed-9
bounds-packed-9 c = omega arith

pub moved_link-requires-2 : goal.moved_link-requires-2
moved_link-requires-2 c = subst (Below most_segments) (sym (serif-is _ _ c.requires.0 c.requires.1 _ c.link_at-serif.ensures)) c.requires.3

pub bounds-packed-10 : goal.bounds-packed-10
bounds-packed-10 c = omega arith

pub moved_next-requires : goal.moved_next-requires
moved_next-requires c = subst (Below most_segments) (sym (next_is _ _ c.requires.0 c.requires.1 _ c.link_at-next.ensures)) c.requires.4

pub bounds-packed-14 : goal.bounds-packed-14
bounds-packed-14 c = omega arith

pub returns : goal.returns
returns c =
    let i = c.args.i in
    let ws = c.args.words.now in
    let w = c.requires.0 in
    let h = c.requires.1 in
    let f = number_at c.args.new.now in
    let edge = edge-is ws i w h _ c.link_at-edge.ensures in
    let led = next_is ws i w h _ c.link_at-next.ensures in
    renumbered-words f (segment_at (flat_segments ws) i) _ _ _ _
    (part-copied ws i w h _ _ (segment_size * i + segment_size - segment_size * i) c.write_words.ensures refl
    (omega arith))
    (is (got w32 c.link_word.result c.link_word.type_inv) ∙ c.link_word.ensures
    ∙ ap link_word (c.moved_link.ensures ∙ ap (moved f) (link-is ws i w h _ c.link_at-link.ensures)))
    (is (got w32 c.link_word-2.result c.link_word-2.type_inv) ∙ c.link_word-2.ensures
    ∙ ap link_word (c.moved_link-2.ensures ∙ ap (moved f) (serif-is ws i w h _ c.link_at-serif.ensures)))
    (is (got w32 c.link_word-3.result c.link_word-3.type_inv) ∙ c.link_word-3.ensures
    ∙ ap link_word (c.moved_next.ensures ∙ (λ j. cond (is_linked (edge j)) (moved f (led j)) None)))
