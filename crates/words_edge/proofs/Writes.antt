-- One word of an edge written, or all of them, where the words stand, is that edge changed in the axis that they are read as.
use Rattle.std.specs.Prelude.{None, Some}
use mathlib.Core.Path.{◌≡◌, refl, sym, ap, ◌∙◌}
use mathlib.Core.Bool.{Bool, true, false, cond}
use mathlib.Core.List.{List}
use Prim.Native.Nat.{ℕ, ◌+◌, ◌*◌, ◌<◌}
use native.Mathlib.Omega.{arith}
use lib.ListN.{set}
use lib.IntN.{ℤ, pos}
use Rattle.axis.specs.declared.flags.Flags.{Flags}
use Rattle.axis.specs.Link.{Blue}
use Rattle.axis.specs.Link.{Link}
use Rattle.axis.specs.declared.kinds.Mark.{Mark}
use Rattle.axis.specs.declared.edge.Edge.{Edge}
use Rattle.axis.specs.Accepted.{Below}
use Rattle.axis.specs.Edge.{put_edge, placed, flagged, joined_to}
use Rattle.axis.specs.Handed.{TypedEdge}
use Rattle.words.specs.Word.{word_at, written}
use Rattle.words.specs.Field.{choice_of, blue_of, present_word, fitted_word, flags_word, link_word, mark_word}
use Rattle.words.specs.Edge.{edge_size, pos_place, flags_place, blue_place, fitted_place, link_place, serif_place, first_place, last_place, mark_place}
use Rattle.words.specs.Edge.{word_of_edge, edge_from, edges_in, edge_words}
use Rattle.words.proofs.RoundTrip.{flags-back, link-back, index_back, mark-back, edge-back}
use Rattle.words.specs.Record.{edge_layout}
use Rattle.words.proofs.Codecs.{but, behind, alike, read-but}
use Rattle.words.proofs.Wholes.{room}
use Rattle.words.proofs.Writes.{WroteOf, word-wrote, record-wrote, record-copied}
use Rattle.words.proofs.Layouts.{edge_by, edge-by, edge_codec}
use Rattle.words_edge.specs.Whole.{Whole, axis_in, zoned, ended}
use Rattle.words_edge.proofs.Wholes.{edge_table}

-- its words are kept
pub edge_same : (ws ws' : List ℤ) (at : ℕ) → ((k : ℕ) → k < edge_size → word_at ws' (at + k) ≡ word_at ws (at + k)) → edge_from ws' at ≡ edge_from ws at
edge_same ws ws' at h = alike edge_codec ws ws' at at h

-- the words of one edge are others
abbrev pub Wrote : List ℤ → List ℤ → ℕ → Edge → Type 0
Wrote = WroteOf edge_layout axis_in put_edge

-- ---- one word: each field that is ever written by itself
module _ (ws : List ℤ) (i : ℕ) (w : Whole ws) (h : i < edges_in ws) where
  abbrev old : Edge
  old = edge_from ws (edge_size * i)

  back : edge_by (behind ws (edge_size * i)) ≡ old
  back = sym (edge-by ws (edge_size * i))

  one-wrote : (j : ℕ) (v : ℤ) (e : Edge) → j < edge_size → edge_by (but j v (behind ws (edge_size * i))) ≡ e → edge_words e ≡ set (edge_words old) j v
      → Wrote ws (set ws (word_of_edge i j) v) i e
  one-wrote j v e b read new =
      word-wrote edge_table edge_codec ws i w h j v e b (read-but edge_codec ws (edge_size * i) j v (omega (arith, room ws i w h, b)) ∙ read) new

  -- its position
  pub pos-wrote : (z : ℤ) → Wrote ws (set ws (word_of_edge i pos_place) z) i (placed old z old.mark)
  unfolding edge_words
  pos-wrote z = one-wrote pos_place z _ (omega arith) (ap (λ (e : Edge). placed e z e.mark) back) refl

  -- its flags
  pub flags-wrote : (f : Flags) → Wrote ws (set ws (word_of_edge i flags_place) (flags_word f)) i (flagged old f)
  unfolding edge_words
  flags-wrote f = one-wrote flags_place (flags_word f) _ (omega arith) (λ n. flagged (back n) (flags-back f n)) refl

  -- its link
  pub link-wrote : (l : Link) → Below 65536 l → Wrote ws (set ws (word_of_edge i link_place) (link_word l)) i (joined_to old l old.serif)
  unfolding edge_words
  link-wrote l b = one-wrote link_place (link_word l) _ (omega arith) (λ n. joined_to (back n) (link-back l b n) (back n).serif) refl

  -- its serif
  pub serif-wrote : (l : Link) → Below 65536 l → Wrote ws (set ws (word_of_edge i serif_place) (link_word l)) i (joined_to old old.link l)
  unfolding edge_words
  serif-wrote l b = one-wrote serif_place (link_word l) _ (omega arith) (λ n. joined_to (back n) (back n).link (link-back l b n)) refl

  -- its first segment
  pub first-wrote : (k : ℕ) → k < 65536 → Wrote ws (set ws (word_of_edge i first_place) (pos k)) i (ended old k old.last)
  unfolding edge_words
  first-wrote k b = one-wrote first_place (pos k) _ (omega arith) (λ n. ended (back n) (index_back k b n) (back n).last) refl

  -- its last segment
  pub last-wrote : (k : ℕ) → k < 65536 → Wrote ws (set ws (word_of_edge i last_place) (pos k)) i (ended old old.first k)
  unfolding edge_words
  last-wrote k b = one-wrote last_place (pos k) _ (omega arith) (λ n. ended (back n) (back n).first (index_back k b n)) refl

  -- its mark
  pub mark-wrote : (m : Mark) → Wrote ws (set ws (word_of_edge i mark_place) (mark_word m)) i (placed old old.pos m)
  unfolding edge_words
  mark-wrote m = one-wrote mark_place (mark_word m) _ (omega arith) (λ n. placed (back n) (back n).pos (mark-back m n)) refl

  -- ---- all its words: another edge, and one that stands elsewhere in the list
  pub edge-wrote : (e : Edge) → TypedEdge e → Wrote ws (written ws (edge_size * i) (edge_words e)) i e
  edge-wrote e t = record-wrote edge_table edge_codec ws i w h e (edge-back e t)

  pub edge-copied : (m : ℕ) → m < edges_in ws → Wrote ws (written ws (edge_size * i) (edge_words (edge_from ws (edge_size * m)))) i (edge_from ws (edge_size * m))
  edge-copied m l = record-copied edge_table edge_codec ws i w h m l

-- ---- no zone, by its two words: first its position is 0, then it is absent
present-kept : (p v : ℤ) → present_word (blue_of p (pos 0)) ≡ present_word (blue_of p v)
unfolding blue_of
present-kept p v = by (choice_of p)
  where
    by : (t : Bool) → present_word (cond t (Some (pos 0)) None) ≡ present_word (cond t (Some v) None)
    by true = refl
    by false = refl

fitted-zero : (p : ℤ) → fitted_word (blue_of p (pos 0)) ≡ pos 0
unfolding blue_of
fitted-zero p = by (choice_of p)
  where
    by : (t : Bool) → fitted_word (cond t (Some (pos 0)) None) ≡ pos 0
    by true = refl
    by false = refl

none_is : (v : ℤ) → blue_of (pos 0) v ≡ None
unfolding blue_of choice_of
none_is v = refl

-- the words of an edge by the two of its zone
fitted-words : (e : Edge) (b : Blue) (v : ℤ) → present_word b ≡ present_word e.blue → fitted_word b ≡ v
    → edge_words (zoned e b) ≡ set (edge_words e) fitted_place v
unfolding edge_words
fitted-words e b v p q = rw (p, q)

none-words : (e : Edge) → fitted_word e.blue ≡ pos 0 → edge_words (zoned e None) ≡ set (edge_words e) blue_place (pos 0)
unfolding edge_words
none-words e p = rw p

module _ (ws : List ℤ) (i : ℕ) (w : Whole ws) (h : i < edges_in ws) where
  abbrev before : Edge
  before = edge_from ws (edge_size * i)

  -- the position of its zone, where it has one
  pub fitted-wrote : Wrote ws (set ws (word_of_edge i fitted_place) (pos 0)) i (zoned before (blue_of (word_at ws (word_of_edge i blue_place)) (pos 0)))
  fitted-wrote =
      let present = word_at ws (word_of_edge i blue_place) in
      one-wrote ws i w h fitted_place (pos 0) _ (omega arith) (ap (λ (e : Edge). zoned e (blue_of present (pos 0))) (back ws i w h))
      (fitted-words before _ (pos 0) (present-kept present (word_at ws (word_of_edge i fitted_place)) ∙ ap (λ (e : Edge). present_word e.blue) (back ws i w h))
      (fitted-zero present))

  -- that it has one, where its position is 0 already
  pub present-wrote : (p : ℤ) → before.blue ≡ blue_of p (pos 0) → Wrote ws (set ws (word_of_edge i blue_place) (pos 0)) i (zoned before None)
  present-wrote p q =
      one-wrote ws i w h blue_place (pos 0) _ (omega arith) (λ n. zoned (back ws i w h n) (none_is (word_at ws (word_of_edge i fitted_place)) n))
      (none-words before (ap (λ (b : Blue). fitted_word b) q ∙ fitted-zero p))
