-- Which words of the segments linking can change: score, len, link and serif; with a refusal none.
use mathlib.Core.Path.{◌≡◌, refl, ap, ◌∙◌}
use mathlib.Core.Bool.{true, false}
use mathlib.Core.List.{List, [], ◌∷◌}
use Prim.Native.Nat.{ℕ, zero, suc}
use lib.ListN.{set}
use lib.IntN.{ℤ}
use Rattle.refusals.specs.Refusal.{refusal}
use Rattle.axis.specs.declared.kinds.Direction.{Direction}
use Rattle.axis.specs.Link.{Link}
use Rattle.axis.specs.declared.segment.Segment.{Segment}
use Rattle.axis.specs.declared.segment.Segments.{Segments}
use Rattle.axis.specs.Segment.{segment_at}
use Rattle.link.specs.Pairs.{relinked}
use Rattle.link.specs.Answer.{Linked}
use Rattle.link.specs.Linking.{linking_tests, link_segments_cjk}
use Rattle.link.proofs.Determined as Linking
use Rattle.words.specs.Word.{word_at}
use Rattle.words.specs.Field.{direction_of, link_word}
use Rattle.words.specs.Segment.{score_place, len_place, link_place, serif_place, flat_segments, segment_words, segment_words_at}
use Rattle.words_shape.specs.Shape.{is_in, direction}
use Rattle.words_call.specs.Kept.{KeptBut, of_segments, is_one_of}
use Rattle.words_call.proofs.Kept.{SameSegments, segments-left}
use Rattle.words_call.proofs.Moved.{none_of, word-beside}
use Rattle.link_words.specs.Lent.{linking_linked, LinkingLent}

abbrev pub linked_words : List ℕ
linked_words = score_place ∷ len_place ∷ link_place ∷ serif_place ∷ []

relinked-word : (s : Segment) (score len : ℤ) (link serif : Link) (j : ℕ) → is_one_of linked_words j ≡ false
    → word_at (segment_words (relinked s score len link serif)) j ≡ word_at (segment_words s) j
unfolding segment_words
relinked-word s score len link serif j h =
    let a = none_of score_place (len_place ∷ link_place ∷ serif_place ∷ []) j h in
    let b = none_of len_place (link_place ∷ serif_place ∷ []) j a.1 in
    let c = none_of link_place (serif_place ∷ []) j b.1 in
    let d = none_of serif_place [] j c.1 in
    let xs = segment_words s in
    word-beside (set (set (set xs score_place score) len_place len) link_place (link_word link)) serif_place j (link_word serif) d.0
    ∙ word-beside (set (set xs score_place score) len_place len) link_place j (link_word link) c.0 ∙ word-beside (set xs score_place score) len_place j len b.0
    ∙ word-beside xs score_place j score a.0

linked-same : (t : Segments) (major : Direction) (upem scale : ℤ)
    → SameSegments (λ (i : ℕ). is_one_of linked_words) t (link_segments_cjk t major upem scale).segments
linked-same t major upem scale i j h f = by (refusal (linking_tests t upem scale)) refl
  where
    by : (k : ℕ) → refusal (linking_tests t upem scale) ≡ k → word_at (segment_words_at (link_segments_cjk t major upem scale).segments i) j
        ≡ word_at (segment_words_at t i) j
    by zero e =
        ap (λ (s : Segment). word_at (segment_words s) j) ((Linking.only-linked t major upem scale e).rest i h).same ∙ relinked-word (segment_at t i) _ _ _ _ j f
    by (suc k) e = ap (λ (x : Linked). word_at (segment_words_at x.segments i) j) (Linking.refused t major upem scale k e)

pub linking-kept : (ws : List ℤ) (major upem scale : ℤ) {r : ℕ} {now : List ℤ} → LinkingLent ws major upem scale r now
    → KeptBut (of_segments (λ (i : ℕ). is_one_of linked_words)) ws now
linking-kept ws major upem scale l =
    segments-left (λ (i : ℕ). is_one_of linked_words) ws true (is_in direction major) (linking_linked ws major upem scale).segments l
    (λ e. linked-same (flat_segments ws) (direction_of major) upem scale)
