-- One word of a segment written, or all of them, where the words stand, is that segment changed in the table that they are read as.
use mathlib.Core.Path.{◌≡◌, refl, sym, ap, ◌∙◌}
use mathlib.Core.List.{List}
use Prim.Native.Nat.{ℕ, ◌*◌, ◌<◌}
use native.Mathlib.Omega.{arith}
use lib.ListN.{set}
use lib.IntN.{ℤ}
use Rattle.axis.specs.Link.{Link}
use Rattle.axis.specs.declared.segment.Segment.{Segment}
use Rattle.axis.specs.Accepted.{Below}
use Rattle.axis.specs.Segment.{put_segment}
use Rattle.link.specs.Pairs.{relinked}
use Rattle.build_mark.specs.Marks.{ringed}
use Rattle.words.specs.Word.{written}
use Rattle.words.specs.Field.{link_word}
use Rattle.words.specs.Segment.{
  segment_size,
  score_place,
  len_place,
  link_place,
  serif_place,
  edge_place,
  next_place,
  word_of_segment,
  segment_from,
  segments_in,
  segment_words,
}
use Rattle.words.proofs.RoundTrip.{link-back}
use Rattle.words.specs.Record.{segment_layout}
use Rattle.words.proofs.Codecs.{but, behind, read-but}
use Rattle.words.proofs.Wholes.{room}
use Rattle.words.proofs.Writes.{WroteOf, word-wrote, record-wrote, record-copied}
use Rattle.words.proofs.Layouts.{segment_by, segment-by, segment_codec}
use Rattle.words_segment.specs.Whole.{Whole, table_in}
use Rattle.words_segment.proofs.Wholes.{segment_table}

-- the words of one segment are others
abbrev pub Wrote : List ℤ → List ℤ → ℕ → Segment → Type 0
Wrote = WroteOf segment_layout table_in put_segment

-- ---- one word: each field that is ever written by itself
module _ (ws : List ℤ) (i : ℕ) (w : Whole ws) (h : i < segments_in ws) where
  abbrev old : Segment
  old = segment_from ws (segment_size * i)

  back : segment_by (behind ws (segment_size * i)) ≡ old
  back = sym (segment-by ws (segment_size * i))

  one-wrote : (j : ℕ) (v : ℤ) (s : Segment) → j < segment_size → segment_by (but j v (behind ws (segment_size * i))) ≡ s
      → segment_words s ≡ set (segment_words old) j v
      → Wrote ws (set ws (word_of_segment i j) v) i s
  one-wrote j v s b read new =
      word-wrote segment_table segment_codec ws i w h j v s b (read-but segment_codec ws (segment_size * i) j v (omega (arith, room ws i w h, b)) ∙ read) new

  -- its score
  pub score-wrote : (z : ℤ) → Wrote ws (set ws (word_of_segment i score_place) z) i (relinked old z old.len old.link old.serif)
  unfolding segment_words
  score-wrote z = one-wrote score_place z _ (omega arith) (ap (λ (s : Segment). relinked s z s.len s.link s.serif) back) refl

  -- its length
  pub len-wrote : (z : ℤ) → Wrote ws (set ws (word_of_segment i len_place) z) i (relinked old old.score z old.link old.serif)
  unfolding segment_words
  len-wrote z = one-wrote len_place z _ (omega arith) (ap (λ (s : Segment). relinked s s.score z s.link s.serif) back) refl

  -- its link
  pub link-wrote : (l : Link) → Below 65536 l → Wrote ws (set ws (word_of_segment i link_place) (link_word l)) i
      (relinked old old.score old.len l old.serif)
  unfolding segment_words
  link-wrote l b =
      one-wrote link_place (link_word l) _ (omega arith) (λ n. relinked (back n) (back n).score (back n).len (link-back l b n) (back n).serif) refl

  -- its serif
  pub serif-wrote : (l : Link) → Below 65536 l → Wrote ws (set ws (word_of_segment i serif_place) (link_word l)) i
      (relinked old old.score old.len old.link l)
  unfolding segment_words
  serif-wrote l b =
      one-wrote serif_place (link_word l) _ (omega arith) (λ n. relinked (back n) (back n).score (back n).len (back n).link (link-back l b n)) refl

  -- its edge
  pub edge-wrote : (l : Link) → Below 65536 l → Wrote ws (set ws (word_of_segment i edge_place) (link_word l)) i (ringed old l old.next)
  unfolding segment_words
  edge-wrote l b = one-wrote edge_place (link_word l) _ (omega arith) (λ n. ringed (back n) (link-back l b n) (back n).next) refl

  -- its next
  pub next-wrote : (l : Link) → Below 65536 l → Wrote ws (set ws (word_of_segment i next_place) (link_word l)) i (ringed old old.edge l)
  unfolding segment_words
  next-wrote l b = one-wrote next_place (link_word l) _ (omega arith) (λ n. ringed (back n) (back n).edge (link-back l b n)) refl

  -- ---- all its words: another segment that they give back, and one that stands elsewhere in the list
  pub segment-wrote : (s : Segment) → segment_from (segment_words s) 0 ≡ s → Wrote ws (written ws (segment_size * i) (segment_words s)) i s
  segment-wrote s q = record-wrote segment_table segment_codec ws i w h s q

  pub segment-copied : (m : ℕ) → m < segments_in ws → Wrote ws (written ws (segment_size * i) (segment_words (segment_from ws (segment_size * m)))) i
      (segment_from ws (segment_size * m))
  segment-copied m l = record-copied segment_table segment_codec ws i w h m l
