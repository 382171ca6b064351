-- What the words of segments become by the stores of a call.
use Rattle.std.specs.Prelude.{None, Some}
use mathlib.Core.Path.{◌≡◌, sym, ap, ◌∙◌}
use mathlib.Core.List.{List}
use Prim.Native.Nat.{ℕ, ◌*◌, ◌<◌}
use native.Mathlib.Omega.{arith}
use lib.ListN.{set}
use lib.Seq.{set-set}
use lib.IntN.{ℤ, pos}
use Rattle.axis.specs.Link.{Link}
use Rattle.axis.specs.declared.segment.Segment.{Segment}
use Rattle.axis.specs.declared.segment.Segments.{Segments}
use Rattle.axis.specs.Accepted.{Below}
use Rattle.axis.specs.Limits.{most_edges, most_segments}
use Rattle.axis.specs.Segment.{segment_at, put_segment}
use Rattle.axis.proofs.Acceptance.{below_none, below-to}
use Rattle.link.specs.Pairs.{relinked, serif_of, unlinked}
use Rattle.link.specs.Rounds.{unlink}
use Rattle.build_mark.specs.Marks.{ringed}
use Rattle.words.specs.Field.{link_word}
use Rattle.words.specs.Segment.{
  segment_size,
  score_place,
  len_place,
  link_place,
  serif_place,
  edge_place,
  next_place,
  word_of_segment,
  segment_from,
  segments_in,
  flat_segments,
  segments_over,
}
use Rattle.words.specs.Record.{segment_layout}
use Rattle.words.proofs.Wholes.{still-below}
use Rattle.words.proofs.Writes.{wrote-again, wrote_as, as_written, as-set, became}
use Rattle.words.proofs.Became as Of
pub use Rattle.words.proofs.Became.{count_in, below_in, became-then}
use Rattle.words.proofs.Layouts.{segment_codec}
use Rattle.words_segment.specs.Whole.{Whole, Became, joining, loosing, leading, ringing}
use Rattle.words_segment.proofs.Wholes.{segment_table, segment-in}
use Rattle.words_segment.proofs.Writes.{Wrote, score-wrote, len-wrote, link-wrote, serif-wrote, edge-wrote, next-wrote}

-- ---- one store behind the other
-- nothing is written
pub stays : (f : Segments → Segments) {ws : List ℤ} → Whole ws → flat_segments ws ≡ f (flat_segments ws) → Became f ws ws
stays f w e = Of.stays f w (λ d. e)

-- what is made of the table, by another name
pub became-as : {f g : Segments → Segments} {ws w1 : List ℤ} → f (flat_segments ws) ≡ g (flat_segments ws) → Became f ws w1 → Became g ws w1
became-as e a = Of.became-as (λ d. e) a

-- the words are then that table written over the words
pub became-over : {f : Segments → Segments} {ws ws' : List ℤ} → Whole ws → Became f ws ws' → ws' ≡ segments_over ws (f (flat_segments ws))
unfolding segments_over
became-over {f} {ws} {ws'} w a =
    Of.table-over segment_codec ws ws' (segment_at (f (flat_segments ws))) w a.whole a.long
    (λ i h. ap (λ (t : Segments). segment_at t i) (sym (a.table tt)) ∙ segment-in ws' i a.whole h)

-- ---- the stores
-- the segment whose words stand in a place
abbrev held : List ℤ → ℕ → Segment
held ws i = segment_from ws (segment_size * i)

-- its score, its length and its link
pub join-law : (ws w1 w2 w3 : List ℤ) (i : ℕ) (score len a b c : ℤ) (ix : ℕ) → Whole ws → i < segments_in ws → ix < 65536
    → w1 ≡ set ws (word_of_segment i score_place) a → a ≡ score
    → w2 ≡ set w1 (word_of_segment i len_place) b → b ≡ len → w3 ≡ set w2 (word_of_segment i link_place) c → c ≡ pos ix → Became (joining i score len ix) ws w3
join-law ws w1 w2 w3 i score len a b c ix w h l p p' q q' r r' =
    became segment_table (λ (s : Segment). relinked s score len (Some ix) s.serif) i w h
    (wrote-again segment_table one
    (wrote-again segment_table two
    (wrote_as (ap (λ (x : Segment). relinked x x.score x.len (Some ix) x.serif) two.read
    ∙ ap (λ (x : Segment). relinked x x.score len (Some ix) x.serif) one.read) three)))
  where
    one : Wrote ws w1 i (relinked (held ws i) score (held ws i).len (held ws i).link (held ws i).serif)
    one = as-set (word_of_segment i score_place) p p' (score-wrote ws i w h score)

    below1 : i < segments_in w1
    below1 = still-below segment_layout ws w1 i one.long h

    two : Wrote w1 w2 i (relinked (held w1 i) (held w1 i).score len (held w1 i).link (held w1 i).serif)
    two = as-set (word_of_segment i len_place) q q' (len-wrote w1 i one.whole below1 len)

    three : Wrote w2 w3 i (relinked (held w2 i) (held w2 i).score (held w2 i).len (Some ix) (held w2 i).serif)
    three =
        as-set (word_of_segment i link_place) r r'
        (link-wrote w2 i two.whole (still-below segment_layout w1 w2 i two.long below1) (Some ix) (below-to 65536 ix l))

-- its link taken
unlink-wrote : (ws ws' : List ℤ) (i : ℕ) → Whole ws → i < segments_in ws → ws' ≡ set ws (word_of_segment i link_place) (link_word None)
    → Wrote ws ws' i (unlinked (held ws i))
unlink-wrote ws ws' i w h e = as_written e (link-wrote ws i w h None (below_none 65536))

pub unlink-law : (ws ws' : List ℤ) (i : ℕ) (z : ℤ) → Whole ws → i < segments_in ws → ws' ≡ set ws (word_of_segment i link_place) z → z ≡ link_word None
    → Became (unlink i) ws ws'
unfolding unlink
unlink-law ws ws' i z w h e q = became segment_table unlinked i w h (unlink-wrote ws ws' i w h (e ∙ ap (λ (x : ℤ). set ws (word_of_segment i link_place) x) q))

-- behind that, its serif
pub serif-law : (ws w1 w2 : List ℤ) (i : ℕ) (a b : ℤ) (serif : Link) → Whole ws → i < segments_in ws → Below most_segments serif
    → w1 ≡ set ws (word_of_segment i link_place) a → a ≡ link_word None
    → w2 ≡ set w1 (word_of_segment i serif_place) b → b ≡ link_word serif → Became (loosing i serif) ws w2
serif-law ws w1 w2 i a b serif w h l p p' q q' =
    became segment_table (λ (s : Segment). serif_of s serif) i w h
    (wrote-again segment_table one (wrote_as (ap (λ (x : Segment). relinked x x.score x.len x.link serif) one.read) two))
  where
    one : Wrote ws w1 i (unlinked (held ws i))
    one = unlink-wrote ws w1 i w h (p ∙ ap (λ (z : ℤ). set ws (word_of_segment i link_place) z) p')

    two : Wrote w1 w2 i (relinked (held w1 i) (held w1 i).score (held w1 i).len (held w1 i).link serif)
    two =
        as-set (word_of_segment i serif_place) q q'
        (serif-wrote w1 i one.whole (still-below segment_layout ws w1 i one.long h) serif
        (record { at = λ (k : ℕ) (e : serif ≡ Some k). omega (arith, l.at k e) }))

-- its edge
pub edge-law : (ws ws' : List ℤ) (i : ℕ) (z : ℤ) (edge : Link) → Whole ws → i < segments_in ws → Below most_edges edge
    → ws' ≡ set ws (word_of_segment i edge_place) z → z ≡ link_word edge
    → Became (leading i edge) ws ws'
edge-law ws ws' i z edge w h l e q =
    became segment_table (λ (s : Segment). ringed s edge s.next) i w h
    (as-set (word_of_segment i edge_place) e q (edge-wrote ws i w h edge (record { at = λ (k : ℕ) (r : edge ≡ Some k). omega (arith, l.at k r) })))

-- its next
next-written : (ws ws' : List ℤ) (i : ℕ) (z : ℤ) (next : Link) → Whole ws → i < segments_in ws → Below 65536 next → ws' ≡ set ws (word_of_segment i next_place) z
    → z ≡ link_word next
    → Wrote ws ws' i (ringed (held ws i) (held ws i).edge next)
next-written ws ws' i z next w h l e q = as-set (word_of_segment i next_place) e q (next-wrote ws i w h next l)

-- the words stay the words of their segments, as many
pub next-law : (ws ws' : List ℤ) (i : ℕ) (z : ℤ) (next : Link) → Whole ws → i < segments_in ws → Below 65536 next → ws' ≡ set ws (word_of_segment i next_place) z
    → z ≡ link_word next
    → Whole ws' × (i < segments_in ws')
next-law ws ws' i z next w h l e q = let a = next-written ws ws' i z next w h l e q in (a.whole, still-below segment_layout ws ws' i a.long h)

-- behind that, its edge
pub ring-law : (ws w1 w2 : List ℤ) (i : ℕ) (z : ℤ) (edge next : Link) → Whole ws → i < segments_in ws → Below 65536 next
    → w1 ≡ set ws (word_of_segment i next_place) z → z ≡ link_word next
    → Became (leading i edge) w1 w2 → Became (ringing i edge next) ws w2
ring-law ws w1 w2 i z edge next w h l e q b = record {
  whole = b.whole;
  long = b.long ∙ a.long;
  table = λ d.
      b.table d ∙ (λ k. put_segment (a.table d k) i (ringed (own k) edge (own k).next))
      ∙ ap (λ (ss : List Segment). record { segments = ss; len = (flat_segments ws).len }) (set-set (flat_segments ws).segments i _ _)
      ∙ ap (λ (s : Segment). put_segment (flat_segments ws) i (ringed s edge next)) (sym (segment-in ws i w h));
}
  where
    a : Wrote ws w1 i (ringed (held ws i) (held ws i).edge next)
    a = next-written ws w1 i z next w h l e q

    -- the segment as the edge finds it
    own : segment_at (flat_segments w1) i ≡ ringed (held ws i) (held ws i).edge next
    own = segment-in w1 i a.whole (still-below segment_layout ws w1 i a.long h) ∙ a.read
