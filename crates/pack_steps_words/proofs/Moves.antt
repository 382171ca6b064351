-- Segments moved down where their words stand, and places emptied.
use Rattle.std.specs.Prelude.{None, Some}
use mathlib.Core.Path.{◌≡◌, refl, sym, ap, ◌∙◌}
use mathlib.Core.Bool.{Bool, true, false, cond}
use mathlib.Core.List.{List, ◌++◌, append-nil}
use Prim.Native.Nat.{ℕ, ◌+◌, ◌*◌, ◌≤◌, ◌<◌}
use native.Mathlib.Omega.{arith}
use lib.ListN.{length, set, take, drop, length-drop}
use lib.Seq.{ext_get_or, get_or-take, get_or-drop, length-take-le, drop-length}
use lib.IntN.{ℤ, pos}
use Rattle.axis.specs.Link.{Link}
use Rattle.axis.specs.declared.segment.Segment.{Segment}
use Rattle.axis.specs.declared.segment.Segments.{Segments}
use Rattle.axis.specs.Accepted.{Below}
use Rattle.axis.specs.Link.{is_linked}
use Rattle.axis.specs.Limits.{most_segments}
use Rattle.axis.specs.Segment.{empty_segment, segment_at, put_segment}
use Rattle.axis.proofs.Acceptance.{below_none, below-to}
use Rattle.mend.proofs.Sums.{count-few}
use Rattle.pack.specs.Sets.{number_at}
use Rattle.pack.specs.Kept.{kept, new_index}
use Rattle.pack.specs.Packed.{moved, packed_segment, moved_segments, cleared, Renumbers, SegmentsHold}
use Rattle.pack.proofs.Stages.{segment-same, stage, stage-in, stage-out, stage-all, stage-left, emptied, emptied-next, emptied-all}
use Rattle.words.specs.Word.{word_at, written}
use Rattle.words.specs.Field.{short_of, flags_of, flags_word, direction_of, link_of, link_word}
use Rattle.words.specs.Segment.{segment_size, link_place, serif_place, next_place, segment_from, segment_words, segments_in, flat_segments}
use Rattle.words.proofs.RoundTrip.{link-back}
use Rattle.words.proofs.Segments.{segment-length}
use Rattle.words.proofs.Typed.{flat-typed}
use Rattle.words.proofs.Writing.{written-front}
use Rattle.words.proofs.Codecs.{alike}
use Rattle.words.proofs.Layouts.{segment_codec}
use Rattle.words.proofs.Writes.{as_written}
use Rattle.words_segment.specs.Whole.{Whole, Became}
use Rattle.words_segment.proofs.Became.{count_in, became-as}
use Rattle.words_segment.proofs.Wholes.{room, segments-len, segment-in}
use Rattle.words_segment.proofs.Writes.{Wrote, segment-wrote}

-- ---- the words of one segment
-- a part of the list, written over as many words
module _ (ws : List ℤ) (i : ℕ) (w : Whole ws) (h : i < segments_in ws) where
  abbrev part : List ℤ
  part = take segment_size (drop (segment_size * i) ws)

  pub part_length : length part ≡ segment_size
  part_length = length-take-le segment_size (drop (segment_size * i) ws) (omega (arith, length-drop (segment_size * i) ws, room ws i w h))

  part-words : part ≡ segment_words (segment_at (flat_segments ws) i)
  part-words =
      ext_get_or (pos 0) part (segment_words (segment_at (flat_segments ws) i)) (part_length ∙ sym (segment-length _))
      (λ j l.
      let b : j < segment_size = omega (arith, l, part_length) in
      get_or-take segment_size (drop (segment_size * i) ws) j (pos 0) b ∙ get_or-drop (segment_size * i) ws j (pos 0) ∙ sym (w.word i j h b)
      ∙ ap (λ (s : Segment). word_at (segment_words s) j) (sym (segment-in ws i w h)))

  pub part-copied : (xs copy : List ℤ) (n : ℕ) → copy ≡ written xs 0 (take n (drop (segment_size * i) ws)) → length xs ≡ segment_size → n ≡ segment_size
      → copy ≡ segment_words (segment_at (flat_segments ws) i)
  part-copied xs copy n e l m =
      let q : length part ≡ length xs = part_length ∙ sym l in
      e ∙ ap (λ (k : ℕ). written xs 0 (take k (drop (segment_size * i) ws))) m ∙ written-front xs part ∙ ap (λ (k : ℕ). part ++ drop k xs) q
      ∙ ap (λ (r : List ℤ). part ++ r) (drop-length xs) ∙ append-nil part ∙ part-words

-- three of them are others
pub renumbered-words : (f : ℕ → ℕ) (s : Segment) (copy : List ℤ) (a b c : ℤ) → copy ≡ segment_words s → a ≡ link_word (moved f s.link)
    → b ≡ link_word (moved f s.serif)
    → c ≡ link_word (cond (is_linked s.edge) (moved f s.next) None)
    → set (set (set copy link_place a) serif_place b) next_place c ≡ segment_words (packed_segment f s)
unfolding segment_words
renumbered-words f s copy a b c e p q r = λ j. set (set (set (e j) link_place (p j)) serif_place (q j)) next_place (r j)

-- ---- read back
-- a segment of the list
given_back : (ws : List ℤ) (i : ℕ) → Whole ws → i < segments_in ws → segment_from (segment_words (segment_at (flat_segments ws) i)) 0 ≡ segment_at (flat_segments ws) i
given_back ws i w h =
    ap (λ (s : Segment). segment_from (segment_words s) 0) (segment-in ws i w h)
    ∙ alike segment_codec ws _ (segment_size * i) 0
    (λ k b. (let q : 0 + k ≡ k = omega arith in ap (word_at (segment_words (segment_from ws (segment_size * i)))) q) ∙ w.word i k h b)
    ∙ sym (segment-in ws i w h)

moved-small : (f : ℕ → ℕ) (n : ℕ) (l : Link) → ((k : ℕ) → f k ≤ k) → n ≤ 65536 → Below n l → Below 65536 (moved f l)
moved-small f n None g few b = below_none 65536
moved-small f n (Some k) g few b = below-to 65536 (f k) (omega (arith, g k, b.at k refl))

next_small : (f : ℕ → ℕ) (n : ℕ) (b : Bool) (l : Link) → ((k : ℕ) → f k ≤ k) → n ≤ 65536 → Below n l → Below 65536 (cond b (moved f l) None)
next_small f n true l g few b = moved-small f n l g few b
next_small f n false l g few b = below_none 65536

-- and renumbered
packed-back : (f : ℕ → ℕ) (n : ℕ) (s : Segment) → ((k : ℕ) → f k ≤ k) → n ≤ 65536 → Below n s.link → Below n s.serif → Below n s.next
    → segment_from (segment_words s) 0 ≡ s
    → segment_from (segment_words (packed_segment f s)) 0 ≡ packed_segment f s
unfolding segment_from segment_words
packed-back f n s g few a b c e =
    let p = link-back (moved f s.link) (moved-small f n s.link g few a) in
    let q = link-back (moved f s.serif) (moved-small f n s.serif g few b) in
    let r = link-back (cond (is_linked s.edge) (moved f s.next) None) (next_small f n (is_linked s.edge) s.next g few c) in
    λ j. record {
      flags = (e j).flags;
      dir = (e j).dir;
      pos = (e j).pos;
      delta = (e j).delta;
      min_coord = (e j).min_coord;
      max_coord = (e j).max_coord;
      height = (e j).height;
      score = (e j).score;
      len = (e j).len;
      link = p j;
      serif = q j;
      first = (e j).first;
      last = (e j).last;
      edge = (e j).edge;
      next = r j;
    }

-- ---- the table
-- one segment of it written over
put-wrote : (f g : Segments → Segments) (ws₀ ws ws' : List ℤ) (i : ℕ) (s : Segment) → Became f ws₀ ws → Wrote ws ws' i s
    → put_segment (f (flat_segments ws₀)) i s ≡ g (flat_segments ws₀) → Became g ws₀ ws'
put-wrote f g ws₀ ws ws' i s a b e =
    record { whole = b.whole; long = b.long ∙ a.long; table = λ d. b.table d ∙ ap (λ (t : Segments). put_segment t i s) (a.table d) ∙ e }

module _ (ws₀ : List ℤ) (w : Whole ws₀) where
  abbrev T : Segments
  T = flat_segments ws₀

  pub all-places : T.len ≤ length T.segments
  all-places = omega (arith, segments-len ws₀, (flat-typed ws₀).places, w.few)

  -- ---- moved down
  module _ (new : List ℕ) (holds : SegmentsHold T) (r : Renumbers T new) (ws : List ℤ) (i : ℕ) (h : i < segments_in ws₀)
      (a : Became (λ (t : Segments). stage t i) ws₀ ws) where
    inside : i < T.len
    inside = omega (arith, segments-len ws₀)

    still : i < segments_in ws
    still = omega (arith, count_in a)

    -- the segment is what it was
    here : segment_at (flat_segments ws) i ≡ segment_at T i
    here = ap (λ (t : Segments). segment_at t i) (a.table tt) ∙ stage-left T i i (count-few (kept T) i)

    -- and its indices are segments
    below : {n : ℕ} (g : Segment → Link) → Below n (g (segment_at T i)) → n ≤ most_segments → Below most_segments (g (segment_at (flat_segments ws) i))
    below {n} g b few = record { at = λ (k : ℕ) (e : g (segment_at (flat_segments ws) i) ≡ Some k). omega (arith, b.at k (sym (ap g here) ∙ e)) }

    pub down-ready : Whole ws × (i < segments_in ws) × Below most_segments (segment_at (flat_segments ws) i).link
        × Below most_segments (segment_at (flat_segments ws) i).serif
        × Below most_segments (segment_at (flat_segments ws) i).next
    down-ready = (
      a.whole,
      still,
      below (λ (s : Segment). s.link) (holds.link i inside) holds.few,
      below (λ (s : Segment). s.serif) (holds.serif i inside) holds.few,
      below (λ (s : Segment). s.next) (holds.next i inside) holds.few,
    )

    -- its new place is its own or a lower one
    pub new-room : number_at new i ≤ i
    new-room = omega (arith, r.at i inside, count-few (kept T) i)

    pub down-room : segment_size * number_at new i + segment_size ≤ length ws
    down-room = room ws (number_at new i) a.whole (omega (arith, new-room, still))

    moves : packed_segment (number_at new) (segment_at (flat_segments ws) i) ≡ packed_segment (new_index T) (segment_at T i)
    moves =
        ap (packed_segment (number_at new)) here
        ∙ segment-same (number_at new) (new_index T) T.len r.at (segment_at T i) (holds.link i inside) (holds.serif i inside) (holds.next i inside)

    pub one_down : (v ws' : List ℤ) → kept T i ≡ true → v ≡ segment_words (packed_segment (number_at new) (segment_at (flat_segments ws) i))
        → ws' ≡ written ws (segment_size * number_at new i) v
        → Became (λ (t : Segments). stage t (i + 1)) ws₀ ws'
    one_down v ws' k e q =
        put-wrote (λ (t : Segments). stage t i) (λ (t : Segments). stage t (i + 1)) ws₀ ws ws' (number_at new i) (packed_segment (new_index T) (segment_at T i)) a
        (as_written (q ∙ ap (written ws (segment_size * number_at new i)) (e ∙ ap segment_words moves))
        (segment-wrote ws (number_at new i) a.whole (omega (arith, new-room, still)) (packed_segment (new_index T) (segment_at T i))
        (packed-back (new_index T) T.len (segment_at T i) (λ j. count-few (kept T) j) (omega (arith, holds.few)) (holds.link i inside)
        (holds.serif i inside) (holds.next i inside)
        (given_back ws₀ i w h))))
        (ap (λ (j : ℕ). put_segment (stage T i) j (packed_segment (new_index T) (segment_at T i))) (r.at i inside) ∙ stage-in T i _ k inside all-places refl)

    pub none-down : kept T i ≡ false → Became (λ (t : Segments). stage t (i + 1)) ws₀ ws
    none-down k = became-as (stage-out T i k) a

  pub all-down : (ws : List ℤ) (i : ℕ) → i ≤ segments_in ws₀ → segments_in ws₀ ≤ i → Became (λ (t : Segments). stage t i) ws₀ ws → Became moved_segments ws₀ ws
  all-down ws i h g a = became-as (stage-all T i (omega (arith, segments-len ws₀)) (omega (arith, segments-len ws₀))) a

  -- ---- emptied
  module _ (c : ℕ) (ws : List ℤ) (i : ℕ) (l : c ≤ i) (h : i < segments_in ws₀) (a : Became (λ (t : Segments). emptied c t i) ws₀ ws) where
    pub one-empty : (v ws' : List ℤ) → v ≡ segment_words empty_segment → ws' ≡ written ws (segment_size * i) v
        → Became (λ (t : Segments). emptied c t (i + 1)) ws₀ ws'
    unfolding segment_from segment_words short_of flags_of flags_word direction_of link_of
    one-empty v ws' e q =
        put-wrote (λ (t : Segments). emptied c t i) (λ (t : Segments). emptied c t (i + 1)) ws₀ ws ws' i empty_segment a
        (as_written (q ∙ ap (written ws (segment_size * i)) e) (segment-wrote ws i a.whole (omega (arith, count_in a, h)) empty_segment refl))
        (emptied-next c T i l (omega (arith, segments-len ws₀, all-places, h)))

  pub all-empty : (c : ℕ) (ws : List ℤ) (i : ℕ) → i ≤ segments_in ws₀ → segments_in ws₀ ≤ i → Became (λ (t : Segments). emptied c t i) ws₀ ws
      → Became (cleared c) ws₀ ws
  all-empty c ws i h g a = became-as (emptied-all c T i (omega (arith, segments-len ws₀)) (omega (arith, segments-len ws₀))) a
