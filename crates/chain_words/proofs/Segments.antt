-- Lent segments over which a call has written its table are words of whole segments, every one within its field's values, and are read as that table.
use mathlib.Core.Path.{◌≡◌, refl, sym, ap, subst, ◌∙◌}
use mathlib.Core.Bool.{Bool, true}
use mathlib.Core.List.{List}
use mathlib.Core.Logic.{⊎_elim}
use Prim.Native.Nat.{ℕ, ◌+◌, ◌-◌, ◌*◌, ◌≤◌, ◌<◌, min}
use native.Mathlib.Nat.{mod-eq_of_lt}
use native.Mathlib.Omega.{arith}
use borrow.Author.Tests.{leb-true}
use lib.ListN.{length}
use lib.Seq.{ext_get_or}
use lib.IntN.{ℤ, pos}
use Rattle.signed.proofs.Signed.{lt-or-le}
use Rattle.refusals.proofs.Tests.{and_first, all_hold}
use Rattle.axis.specs.declared.kinds.Direction.{Direction}
use Rattle.axis.specs.declared.kinds.Direction.TheVariants as Directions
use Rattle.axis.specs.declared.segment.Segment.{Segment}
use Rattle.axis.specs.declared.segment.Segments.{Segments}
use Rattle.axis.specs.Accepted.{SegmentWithin, SegmentsWithin}
use Rattle.axis.specs.Handed.{Short}
use Rattle.axis.specs.Limits.{most_segments}
use Rattle.axis.specs.Segment.{empty_segment, segment_at}
use Rattle.words.specs.Field.{short_of, index_of, direction_of, direction_word}
use Rattle.words.specs.Word.{word_at, firsts, joined, table}
use Rattle.words.specs.Segment.{segment_size, segments_in, segment_from, segment_in_run, segments_run, flat_segments, segment_words, segment_words_at, segments_over}
use Rattle.words.proofs.Fields.{short-is}
use Rattle.words.proofs.Places.{joined_at, segment-read}
use Rattle.words.proofs.RoundTrip.{link-back, flags-back}
use Rattle.words.proofs.Segments.{segment-lengths}
use Rattle.words.proofs.Tables.{firsts-length, joined_length}
use Rattle.words.proofs.Typed.{flat-typed}
use Rattle.words_shape.specs.Shape.{segments_shown}
use Rattle.words_call.specs.Lent.{Lent, segments_front}
use Rattle.words_call.proofs.Kept.{passed}
use Rattle.words_segment.specs.Whole.{Whole}
use Rattle.words_segment.proofs.Wholes.{shown-whole, segments-len, segment-in}
use Rattle.words.proofs.Layouts.{segment_codec}
use Rattle.words.proofs.Wholes.{over, joined-whole}
use Rattle.build_words.proofs.Back.{past_end as behind-all}
use Rattle.chain_words.specs.Left.{SegmentsLeft}
use Rattle.chain_words.proofs.Shown.{SegmentFits, segments-are-shown}
use Rattle.chain_words.proofs.Edges.{short-of, link-of}

-- ---- one segment
-- its fields are read back
short_back : (z : ℤ) → Short z → short_of z ≡ z
short_back z h = sym (short-is z h.low h.high)

index_back : (k : ℕ) → k < 65536 → index_of (pos k) ≡ k
index_back k h = mod-eq_of_lt h

direction-back : (d : Direction) → direction_of (direction_word d) ≡ d
unfolding direction_of
direction-back Directions.None = refl
direction-back Directions.Right = refl
direction-back Directions.Left = refl
direction-back Directions.Up = refl
direction-back Directions.Down = refl

segment-back : (s : Segment) → SegmentFits s → segment_from (segment_words s) 0 ≡ s
unfolding segment_from segment_words
segment-back s h =
    rw (
      flags-back s.flags,
      direction-back s.dir,
      short_back s.pos h.pos,
      short_back s.delta h.delta,
      short_back s.min_coord h.low,
      short_back s.max_coord h.high,
      short_back s.height h.height,
      link-back s.link h.link,
      link-back s.serif h.serif,
      index_back s.first h.first,
      index_back s.last h.last,
      link-back s.edge h.edge,
      link-back s.next h.next,
    )

-- one whose words stand elsewhere
segment-moved : (ws vs : List ℤ) (at : ℕ) → ((k : ℕ) → k < segment_size → word_at ws (at + k) ≡ word_at vs k) → segment_from ws at ≡ segment_from vs 0
unfolding segment_from
segment-moved ws vs at h =
    let q : at + 0 ≡ at = omega arith in
    let h0 : word_at ws at ≡ word_at vs 0 = rw q at (h 0 (omega arith)) in
    rw (
      h0,
      h 1 (omega arith),
      h 2 (omega arith),
      h 3 (omega arith),
      h 4 (omega arith),
      h 5 (omega arith),
      h 6 (omega arith),
      h 7 (omega arith),
      h 8 (omega arith),
      h 9 (omega arith),
      h 10 (omega arith),
      h 11 (omega arith),
      h 12 (omega arith),
      h 13 (omega arith),
      h 14 (omega arith),
    )

-- ---- the law
-- a table of n segments, each of its types
pub record Fits (n : ℕ) (t : Segments) : Type 0 where
  pub len : t.len ≡ n
  pub segment : (i : ℕ) → i < n → SegmentFits (segment_at t i)

-- its words, one segment behind the other
module _ (n : ℕ) (t : Segments) (few : n ≤ most_segments) (f : Fits n t) where
  abbrev words : List ℤ
  words = joined (segment_words_at t) n

  words_long : length words ≡ segment_size * n
  words_long = joined_length (segment_words_at t) segment_size (segment-lengths t) n

  count : segments_in words ≡ n
  count = omega (arith, words_long)

  word-is : (i j : ℕ) → i < n → j < segment_size → word_at words (segment_size * i + j) ≡ word_at (segment_words_at t i) j
  word-is i j h b = joined_at (segment_words_at t) segment_size (segment-lengths t) n i j h b

  words-shown : segments_shown words ≡ true
  words-shown = segments-are-shown words n (segment_at t) words_long f.segment word-is

  words-read : (i : ℕ) → i < n → segment_at (flat_segments words) i ≡ segment_at t i
  words-read i h =
      segment-read words i (omega (arith, count)) (omega (arith, count))
      ∙ segment-moved words (segment_words_at t i) (segment_size * i) (λ (k : ℕ) (l : k < segment_size). word-is i k h l)
      ∙ segment-back (segment_at t i) (f.segment i h)

-- words of segments are those of their table
pub words-joined : (ws : List ℤ) → Whole ws → ws ≡ joined (segment_words_at (flat_segments ws)) (segments_in ws)
words-joined ws w = joined-whole segment_codec ws (segment_at (flat_segments ws)) w (λ i h. segment-in ws i w h)

-- a table written over the words of segments
pub segments-over : (ws : List ℤ) (t : Segments) → Whole ws → segments_over ws t ≡ joined (segment_words_at t) (segments_in ws)
unfolding segments_over
segments-over ws t w = over segment_codec ws (segment_at t) w

-- written over words of as many segments
pub segments-left : (ws : List ℤ) (t : Segments) → Whole ws → Fits (segments_in ws) t → SegmentsLeft ws (segments_over ws t) t
segments-left ws t w f =
    let e = segments-over ws t w in
    let n = f.len in
    record {
      size = ap length e ∙ words_long (segments_in ws) t w.few f ∙ sym w.long;
      shown = ap segments_shown e ∙ words-shown (segments_in ws) t w.few f;
      count = ap (λ (l : List ℤ). (flat_segments l).len) e ∙ segments-len _ ∙ count (segments_in ws) t w.few f ∙ sym n;
      read = λ (i : ℕ) (h : i < t.len). ap (λ (l : List ℤ). segment_at (flat_segments l) i) e ∙ words-read (segments_in ws) t w.few f i (omega arith);
    }

-- the whole table, where nothing stands behind its segments
pub past_end : (ws : List ℤ) (i : ℕ) → segments_in ws ≤ i → segment_at (flat_segments ws) i ≡ empty_segment
unfolding flat_segments segments_run table
past_end ws i h =
    let n = min (segments_in ws) most_segments in
    behind-all (firsts (segment_in_run ws 0) n) empty_segment (most_segments - n) i (omega (arith, firsts-length (segment_in_run ws 0) n))

pub whole-table : {ws now : List ℤ} {t : Segments} → SegmentsLeft ws now t → length t.segments ≡ most_segments
    → ((i : ℕ) → t.len ≤ i → segment_at t i ≡ empty_segment)
    → flat_segments now ≡ t
whole-table {ws} {now} {t} l places empty =
    let n = sym (segments-len now) ∙ l.count in
    let at : (i : ℕ) → segment_at (flat_segments now) i ≡ segment_at t i =
    λ i. ⊎_elim (l.read i) (λ (h : t.len ≤ i). past_end now i (omega (arith, n)) ∙ sym (empty i h)) (lt-or-le i t.len) in
    let rows = ext_get_or empty_segment (flat_segments now).segments t.segments ((flat-typed now).places ∙ sym places) (λ i h. at i) in
    λ k. record { segments = rows k; len = l.count k }

-- ---- what words are read as
-- is of its types, where scores and lens are accepted
from-fits : (ws : List ℤ) (at : ℕ) (n : ℕ) → SegmentWithin n (segment_from ws at) → SegmentFits (segment_from ws at)
unfolding segment_from
from-fits ws at n w =
    let score = w.score in
    let len = w.len in
    record {
      pos = short-of _;
      delta = short-of _;
      low = short-of _;
      high = short-of _;
      height = short-of _;
      score = omega (arith, score);
      len = omega (arith, len);
      link = link-of _;
      serif = link-of _;
      first = omega arith;
      last = omega arith;
      edge = link-of _;
      next = link-of _;
    }

pub read_fits : (ws : List ℤ) → segments_in ws ≤ most_segments → SegmentsWithin (flat_segments ws) → (i : ℕ) → i < segments_in ws
    → SegmentFits (segment_at (flat_segments ws) i)
read_fits ws few w i h =
    let e = segment-read ws i h few in
    subst SegmentFits (sym e) (from-fits ws (segment_size * i) (flat_segments ws).len
    (subst (SegmentWithin (flat_segments ws).len) e (w.segment i (omega (arith, segments-len ws)))))

-- ---- a call
-- with answer 0: the words were shown, the call's own answer is 0, and the table stands over the words
pub record Done {A : Type 0} (ws : List ℤ) (answer : ℕ) (new now : A) : Type 0 where
  pub whole : Whole ws
  pub shown : segments_shown ws ≡ true
  pub answered : answer ≡ 0
  pub held : now ≡ new

pub call-done : {A : Type 0} (ws : List ℤ) (room others : Bool) {answer : ℕ} {new old now : A} → Lent (segments_front ws room others) answer new old 0 now
    → Done ws answer new now
unfolding segments_front
call-done ws room others {answer} l =
    let p = passed (segments_front ws room others) answer l.number in
    let t = all_hold (segments_front ws room others) refl p.0 in
    let s = and_first (segments_shown ws) others t.1.1.0 in
    record { whole = shown-whole ws s (leb-true (segments_in ws) most_segments t.1.0); shown = s; answered = p.1; held = l.held }
