-- Which words of the segments building can change: edge and next; with a refusal none.
use mathlib.Core.Path.{◌≡◌, refl, ap, subst, sym, ◌∙◌}
use mathlib.Core.Bool.{Bool, false, ◌&&◌}
use mathlib.Core.List.{List, [], ◌∷◌}
use Prim.Native.Nat.{ℕ, zero, suc}
use lib.Dec.{eqb}
use lib.ListN.{length, set}
use lib.IntN.{ℤ}
use Rattle.signed.proofs.Choices.{either_way}
use Rattle.refusals.specs.Refusal.{refusal}
use Rattle.axis.specs.declared.kinds.Group.{Group}
use Rattle.axis.specs.Link.{Link}
use Rattle.axis.specs.declared.edge.Axis.{Axis}
use Rattle.axis.specs.declared.segment.Segment.{Segment}
use Rattle.axis.specs.declared.segment.Segments.{Segments}
use Rattle.axis.specs.Edge.{empty_axis}
use Rattle.axis.specs.Segment.{empty_segment, segment_at, put_segment}
use Rattle.build_join.specs.Joining.{State, group}
use Rattle.build_mark.specs.Marks.{ringed, clear, cleared, marks, group_marks}
use Rattle.build.specs.Answer.{Built}
use Rattle.build.specs.declared.numbers.Thresholds.{Thresholds}
use Rattle.build.specs.Building.{building_tests, is_cjk, rules_of, last_state, built_segments, built, compute_edges}
use Rattle.build.proofs.Determined as Building
use Rattle.words.specs.Word.{word_at}
use Rattle.words.specs.Edge.{table_size}
use Rattle.words.specs.Field.{choice_of, dimension_of, direction_of, group_of, link_word}
use Rattle.words.specs.Segment.{edge_place, next_place, flat_segments, segment_words, segment_words_at}
use Rattle.words_shape.specs.Shape.{is_in, direction}
use Rattle.words_call.specs.Lent.{choices}
use Rattle.words_call.specs.Kept.{KeptBut, of_segments, is_one_of}
use Rattle.words_call.proofs.Kept.{segments-left, lent-first}
use Rattle.words_call.proofs.Moved.{stored, none_of, word-beside}
use Rattle.build_words.specs.Lent as Build

abbrev pub built_words : List ℕ
built_words = edge_place ∷ next_place ∷ []

ringed-word : (s : Segment) (edge next : Link) (j : ℕ) → is_one_of built_words j ≡ false → word_at (segment_words (ringed s edge next)) j ≡ word_at (segment_words s) j
unfolding segment_words
ringed-word s edge next j h =
    let a = none_of edge_place (next_place ∷ []) j h in
    let b = none_of next_place [] j a.1 in
    word-beside (set (segment_words s) edge_place (link_word edge)) next_place j (link_word next) b.0
    ∙ word-beside (segment_words s) edge_place j (link_word edge) a.0

-- every word of a segment but those two
abbrev pub Same : Segments → Segments → Type 0
Same t u = (i j : ℕ) → is_one_of built_words j ≡ false → word_at (segment_words_at u i) j ≡ word_at (segment_words_at t i) j

same-put : (t u : Segments) (m : ℕ) (edge next : Link) → Same t u → Same t (put_segment u m (ringed (segment_at u m) edge next))
same-put t u m edge next h i j f =
    stored (λ (n : ℕ) (s : Segment). word_at (segment_words s) j ≡ word_at (segment_words_at t n) j) empty_segment u.segments m i
    (ringed (segment_at u m) edge next)
    (λ (q : i ≡ m). ringed-word (segment_at u m) edge next j f ∙ ap (λ (n : ℕ). word_at (segment_words_at u n) j) (sym q) ∙ h i j f) (h i j f)

same-clear : (t : Segments) (n : ℕ) → Same t (clear n t)
unfolding clear
same-clear t zero = λ i j f. refl
same-clear t (suc n) = same-put t (clear n t) n _ _ (same-clear t n)

same-marks : (t u : Segments) (next : List ℕ) (k : ℕ) (ms : List ℕ) → Same t u → Same t (marks next k ms u)
unfolding marks
same-marks t u next k [] h = h
same-marks t u next k (m ∷ ms) h = same-marks t (put_segment u m _) next k ms (same-put t u m _ _ h)

same-groups : (t u : Segments) (s : State) (n : ℕ) → Same t u → Same t (group_marks s n u)
unfolding group_marks
same-groups t u s zero h = h
same-groups t u s (suc k) h = same-marks t (group_marks s k u) s.next k (group s k) (same-groups t u s k h)

same-built : (t : Segments) (s : State) → Same t (built_segments t s)
unfolding built_segments cleared
same-built t s = same-groups t (clear t.len t) s s.count (same-clear t t.len)

pub computed_same : (t : Segments) (old : Axis) (group : Group) (ttb : Bool) (scale : ℤ) (by : Thresholds)
    → Same t (compute_edges t old group ttb scale by).segments
unfolding built
computed_same t old group ttb scale by = go (refusal (building_tests t old.len ttb scale by)) refl
  where
    go : (k : ℕ) → refusal (building_tests t old.len ttb scale by) ≡ k → Same t (compute_edges t old group ttb scale by).segments
    go zero e =
        let s = last_state t (rules_of old.dim old.major_dir (is_cjk group) scale by) in
        subst (λ (b : Built). Same t b.segments) (sym (Building.not-refused t old group ttb scale by e))
        (either_way (λ (b : Built). Same t b.segments) s.full _ _ (λ i j f. refl) (same-built t s))
    go (suc k) e = subst (λ (b : Built). Same t b.segments) (sym (Building.refused t old group ttb scale by k e)) (λ i j f. refl)

pub building-kept :
    (ws room : List ℤ) (dim major group ttb scale : ℤ) (t : Thresholds) (count : ℤ) {r : ℕ} {now edges : List ℤ} {n : ℤ}
    → Build.BuiltLent ws room dim major group ttb scale t count r (now, (edges, n)) → KeptBut (of_segments (λ (i : ℕ). is_one_of built_words)) ws now
building-kept ws room dim major group ttb scale t count l =
    segments-left (λ (i : ℕ). is_one_of built_words) ws (eqb (length room) table_size) (is_in direction major && choices dim group ttb)
    (Build.built ws dim major group ttb scale t).segments
    (lent-first l)
    (λ e i j h f. computed_same (flat_segments ws) (empty_axis (dimension_of dim) (direction_of major)) (group_of group) (choice_of ttb) scale t i j f)
