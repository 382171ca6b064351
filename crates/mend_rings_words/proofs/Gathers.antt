-- The lists of lent segments, one segment after the other.
use mathlib.Core.Path.{◌≡◌, refl, sym, ap, ◌∙◌}
use mathlib.Core.List.{List}
use mathlib.Core.Logic.{⊎_elim}
use Prim.Native.Nat.{ℕ, ◌+◌, ◌*◌, ◌≤◌, ◌<◌}
use native.Mathlib.Nat.{eq-or-lt_of_le}
use native.Mathlib.Omega.{arith}
use lib.ListN.{length, get_or, set, replicate, length-set, length-replicate}
use lib.Seq.{get_or-set_same, get_or-set_other}
use lib.IntN.{ℤ}
use Rattle.axis.specs.declared.segment.Segment.{Segment}
use Rattle.axis.specs.Limits.{most_edges, most_segments}
use Rattle.axis.specs.Link.{index_or}
use Rattle.axis.specs.Segment.{segment_at}
use Rattle.mend_rings_words.specs.Followed.{GatheredIn}
use Rattle.words.specs.Word.{word_at}
use Rattle.words.specs.Field.{link_of}
use Rattle.words.specs.Segment.{word_of_segment, edge_place, next_place, segment_from, segments_in, segments_run, flat_segments}
use Rattle.words.proofs.Places.{segment-read}

-- so it is of the first i segments
pub record GatheredTo (ws : List ℤ) (i : ℕ) (edges next : List ℕ) : Type 0 where
  pub edges-size : length edges ≡ most_segments
  pub next_size : length next ≡ most_segments
  pub edge_of : (x : ℕ) → x < i → get_or edges x 0 ≡ index_or most_edges (link_of (word_at ws (word_of_segment x edge_place)))
  pub next_of : (x : ℕ) → x < i → get_or next x 0 ≡ index_or (segments_in ws) (link_of (word_at ws (word_of_segment x next_place)))

module _ (ws : List ℤ) where
  pub gathered_none : {edges next : List ℕ} → edges ≡ replicate most_segments 0 → next ≡ replicate most_segments 0 → GatheredTo ws 0 edges next
  gathered_none a b = record {
    edges-size = ap (length {A = ℕ}) a ∙ length-replicate {A = ℕ} most_segments 0;
    next_size = ap (length {A = ℕ}) b ∙ length-replicate {A = ℕ} most_segments 0;
    edge_of = λ x h. absurd (omega arith);
    next_of = λ x h. absurd (omega arith);
  }

  pub gathered-more : (i : ℕ) {edges next : List ℕ} → GatheredTo ws i edges next → i < most_segments → (a b : ℕ)
      → a ≡ index_or most_edges (link_of (word_at ws (word_of_segment i edge_place))) → b ≡ index_or (segments_in ws) (link_of (word_at ws (word_of_segment i next_place)))
      → GatheredTo ws (i + 1) (set edges i a) (set next i b)
  gathered-more i {edges} {next} g l a b p q = record {
    edges-size = length-set edges i a ∙ g.edges-size;
    next_size = length-set next i b ∙ g.next_size;
    edge_of = λ x h.
        ⊎_elim
        (λ (e : x ≡ i). ap (λ (k : ℕ). get_or (set edges i a) k 0) e ∙ get_or-set_same edges i a 0 (omega (arith, g.edges-size)) ∙ p
        ∙ ap (λ (k : ℕ). index_or most_edges (link_of (word_at ws (word_of_segment k edge_place)))) (sym e))
        (λ (e : x < i). get_or-set_other edges i x a 0 (λ (r : x ≡ i). omega arith) ∙ g.edge_of x e)
        (eq-or-lt_of_le (omega arith));
    next_of = λ x h.
        ⊎_elim
        (λ (e : x ≡ i). ap (λ (k : ℕ). get_or (set next i b) k 0) e ∙ get_or-set_same next i b 0 (omega (arith, g.next_size)) ∙ q
        ∙ ap (λ (k : ℕ). index_or (segments_in ws) (link_of (word_at ws (word_of_segment k next_place)))) (sym e))
        (λ (e : x < i). get_or-set_other next i x b 0 (λ (r : x ≡ i). omega arith) ∙ g.next_of x e)
        (eq-or-lt_of_le (omega arith));
  }

  pub gathered-all : {i : ℕ} {edges next : List ℕ} → segments_in ws ≤ most_segments → segments_in ws ≤ i → GatheredTo ws i edges next → GatheredIn ws edges next
  unfolding flat_segments segments_run segment_from
  gathered-all few h g = record {
    gathered = record {
      edge_of = λ x l. g.edge_of x (omega arith) ∙ ap (λ (s : Segment). index_or most_edges s.edge) (sym (segment-read ws x (omega arith) few));
      next_of = λ x l. g.next_of x (omega arith) ∙ ap (λ (s : Segment). index_or (segments_in ws) s.next) (sym (segment-read ws x (omega arith) few));
    };
    next_size = g.next_size;
  }
