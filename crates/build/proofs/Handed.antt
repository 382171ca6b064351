-- What building hands on is accepted by every later call and by linking; every edge of it is a sound ring that nothing has placed yet, and edges stand by
-- rising position.
use mathlib.Core.Path.{◌≡◌, refl, sym, ap, ◌∙◌}
use mathlib.Core.Bool.{Bool, true, false, cond, not}
use mathlib.Core.List.{List, [], ◌∷◌}
use Prim.Native.Nat.{ℕ, zero, suc, ◌≤◌, ◌<◌}
use native.Mathlib.Omega.{arith}
use lib.Dec.{leb}
use lib.IntN.{ℤ}
use lib.ListN.{get_or}
use lib.Signed.{◌≤ℤ◌}
use Rattle.signed.proofs.Choices.{cond-false, at_set}
use Rattle.refusals.specs.Refusal.{refusal, no_room}
use Rattle.refusals.proofs.Answers.{none-refused}
use Rattle.refusals.proofs.Tests.{no-refusal}
use Rattle.axis.specs.declared.edge.Edge.{Edge}
use Rattle.axis.specs.declared.edge.Axis.{Axis}
use Rattle.axis.specs.declared.kinds.Group.{Group}
use Rattle.axis.specs.declared.kinds.Mark.TheVariants.{Nothing}
use Rattle.axis.specs.declared.segment.Segment.{Segment}
use Rattle.axis.specs.declared.segment.Segments.{Segments}
use Rattle.axis.specs.Accepted.{Below, SegmentsWithin}
use Rattle.axis.specs.Edge.{edge_at}
use Rattle.axis.specs.Handed.{Typed, EdgesAccepted, SegmentsAccepted}
use Rattle.axis.specs.Limits.{most_edges}
use Rattle.axis.specs.Refusals.{segments_nexts}
use Rattle.axis.specs.Ring.{times, Sound}
use Rattle.axis.specs.Segment.{empty_segment, segment_at}
use Rattle.axis.proofs.Acceptance.{below_none, below-to}
use Rattle.axis.proofs.Accepting.{edges-accepted, segments-accepted, nexts-hold}
use Rattle.build_join.specs.declared.rules.Rules.{Rules}
use Rattle.build_join.specs.Joining.{head_or, edge_of, State, group, shown}
use Rattle.build_join.specs.Walks.{Joinable}
use Rattle.build_join.proofs.Good.{Good, members-below}
use Rattle.build_join.proofs.Members.{times-head, times_more, first-in}
use Rattle.build_join.proofs.Rings.{Chain}
use Rattle.build_join.proofs.Steps.{of-len, of-edge}
use Rattle.build_properties.specs.Properties.{edge_properties}
use Rattle.build_properties.proofs.Kept.{properties-kept}
use Rattle.build_mark.specs.Marks.{cleared, marks, group_marks}
use Rattle.build.specs.Answer.{Built}
use Rattle.build.specs.declared.numbers.Thresholds.{Thresholds}
use Rattle.build.specs.Building.{
  numbers_hold,
  products_hold,
  building_tests,
  is_cjk,
  rules_of,
  last_state,
  built_segments,
  built_edges,
  beside,
  built,
  compute_edges,
}
use Rattle.build.proofs.Calls.{Accepted, accepted, joinable}
use Rattle.build.proofs.Handing.{built-rows, ready}
use Rattle.build.proofs.Joins.{last-good}
use Rattle.build.proofs.Determined.{segments-within, properties-within, not-refused}
use Rattle.build.proofs.Rings.{sound}
use Rattle.build.proofs.Rising.{fpos-rises, opos-rises}
use Rattle.build.proofs.Scales.{right}
use Rattle.build.proofs.Sound.{clear_at}

-- ---- the next of each segment
-- is a segment of n, for each of n
record Nexts (n : ℕ) (u : Segments) : Type 0 where
  at : (i : ℕ) → i < n → Below n (segment_at u i).next

-- the head of a list is in it
head-below : (n f : ℕ) (ms : List ℕ) → f < n → ((x : ℕ) → 0 < times x ms → x < n) → head_or f ms < n
head-below n f [] h b = h
head-below n f (m ∷ ms) h b = b m (omega (arith, times-head m ms))

nexts-marks : (n : ℕ) (next : List ℕ) (k f : ℕ) (ms : List ℕ) (u : Segments) → f < n → ((x : ℕ) → 0 < times x ms → x < n) → Chain next f ms → Nexts n u
    → Nexts n (marks next k ms u)
unfolding marks Chain
nexts-marks n next k f [] u h b r N = N
nexts-marks n next k f (m ∷ ms) u h b r N =
    let b' : (x : ℕ) → 0 < times x ms → x < n = λ x p. b x (omega (arith, times_more x m ms)) in
    let l : get_or next m 0 < n = rw r.0 (head-below n f ms h b') in
    nexts-marks n next k f ms _ h b' r.1
    (record { at = λ i q. at_set (λ (s : Segment). Below n s.next) u.segments m i _ empty_segment (below-to n (get_or next m 0) l) (N.at i q) })

nexts-cleared : (t : Segments) → Nexts t.len (cleared t)
unfolding cleared
nexts-cleared t = record { at = λ i q. rw (clear_at t t.len i q) (below_none t.len) }

module _ (t : Segments) (r : Rules) (W : SegmentsWithin t) where
  abbrev s : State
  s = last_state t r

  G : Good t r (not r.cjk) s t.len
  G = last-good t r W.few

  below : (k : ℕ) → k < s.count → (x : ℕ) → 0 < times x (group s k) → x < t.len
  below k h = members-below t r (not r.cjk) s t.len k W.few G h

  nexts-groups : (n : ℕ) → n ≤ s.count → Nexts t.len (group_marks s n (cleared t))
  unfolding group_marks
  nexts-groups zero h = nexts-cleared t
  nexts-groups (suc n) h =
      let b = below n (omega arith) in
      let f = b (head_or 0 (group s n)) (omega (arith, first-in (group s n) (G.used n (omega arith)))) in
      nexts-marks t.len s.next n (head_or 0 (group s n)) (group s n) _ f b (G.rings n (omega (arith, G.room))) (nexts-groups n (omega arith))

  nexts-built : Nexts t.len (built_segments t s)
  unfolding built_segments
  nexts-built = nexts-groups s.count (omega arith)

  -- ---- the properties change no ring
  abbrev edges : Axis
  edges = built_edges t r s

  abbrev segments : Segments
  segments = built_segments t s

  -- and place no edge: it has the mark of a new one
  of-group : (scale : ℤ) (ms : List ℕ) → (edge_of t scale ms).mark ≡ Nothing
  of-group scale [] = refl
  of-group scale (m ∷ ms) = refl

  unplaced : (k : ℕ) → k < (edge_properties edges segments).len → (edge_at (edge_properties edges segments) k).mark ≡ Nothing
  unplaced k h =
      let j = shown t r s in
      let K = properties-kept edges segments (ready t r j refl W) in
      (K.edge k (rw K.len at h)).mark ∙ ap (λ (e : Edge). e.mark) (of-edge t r s j.full j.axis j.next refl k) ∙ of-group r.scale (group s k)

  sound-kept : Typed t → (k : ℕ) → k < (edge_properties edges segments).len → Sound (edge_properties edges segments) segments k
  sound-kept T k h =
      let j = shown t r s in
      let K = properties-kept edges segments (ready t r j refl W) in
      let l : k < edges.len = rw K.len at h in
      let g = K.edge k l in
      let c : k < s.count = omega (arith, of-len t r s j.full j.axis j.next refl, l) in
      rw (g.first, g.last) (sound t r W T k c)

-- ---- the call
module _ (t : Segments) (old : Axis) (group : Group) (ttb : Bool) (scale : ℤ) (by : Thresholds) where
  abbrev rules : Rules
  rules = rules_of old.dim old.major_dir (is_cjk group) scale by

  abbrev handed : Built
  handed = compute_edges t old group ttb scale by

  built-answer : (s : State) → (built t old rules s).answer ≡ cond s.full no_room 0
  unfolding built
  built-answer s = by-room s.full
    where
      by-room : (full : Bool) → (cond full (beside t old no_room) (beside (built_segments t s) (edge_properties (built_edges t rules s) (built_segments t s)) 0)
          ).answer ≡ cond full no_room 0
      by-room true = refl
      by-room false = refl

  -- accepted segments, at most 128 old edges, from bottom to top, and numbers and products within the table are refused by 5 alone, where a 129th edge is
  -- called for
  pub accepts : SegmentsAccepted t → leb old.len most_edges ≡ true → not ttb ≡ true → numbers_hold scale by ≡ true → products_hold t scale ≡ true
      → (compute_edges t old group ttb scale by).answer ≡ cond (last_state t rules).full no_room 0
  accepts a few b n p =
      ap (λ (b : Built). b.answer)
      (not-refused t old group ttb scale by (no-refusal (building_tests t old.len ttb scale by)
      (a.short, (few, (b, (n, (a.indexed, (a.in_range, (p, refl)))))))))
      ∙ built-answer (last_state t rules)

  module _ (e : (compute_edges t old group ttb scale by).answer ≡ 0) where
    unrefused : refusal (building_tests t old.len ttb scale by) ≡ 0
    unfolding compute_edges
    unrefused =
        none-refused (beside t old) (built t old rules (last_state t rules)) (λ (b : Built). b.answer) (λ j. refl)
        (refusal (building_tests t old.len ttb scale by)) e

    room : (last_state t rules).full ≡ false
    room =
        go (last_state t rules).full (sym (built-answer (last_state t rules))
        ∙ sym (ap (λ (b : Built). b.answer) (not-refused t old group ttb scale by unrefused)) ∙ e)
      where
        go : (full : Bool) → cond full no_room 0 ≡ 0 → full ≡ false
        go true h = absurd (omega (arith, h))
        go false h = refl

    pub outcome : handed ≡ beside (built_segments t (last_state t rules))
        (edge_properties (built_edges t rules (last_state t rules)) (built_segments t (last_state t rules))) 0
    unfolding built
    outcome = not-refused t old group ttb scale by unrefused ∙ cond-false _ _ _ room

    pub taken : Accepted t scale by
    taken = accepted t old.len ttb scale by 0 (sym unrefused) (omega arith)

    ready-to-join : Joinable t rules
    ready-to-join = joinable t scale by taken _ _ _ rules refl

    -- with answer 0 its edges pass the tests that blue zones, stems, the calls on one edge and the m rule make of edges
    pub edges-handed-on : EdgesAccepted (compute_edges t old group ttb scale by).axis
    edges-handed-on = rw outcome (edges-accepted _ (properties-within t rules taken.within ready-to-join))

    -- and its segments those of building and of linking
    pub segments-handed-on : SegmentsAccepted (compute_edges t old group ttb scale by).segments
    segments-handed-on = rw outcome (segments-accepted _ (segments-within t rules taken.within ready-to-join))

    pub nexts-handed-on : segments_nexts (compute_edges t old group ttb scale by).segments ≡ true
    nexts-handed-on =
        let R = built-rows t rules (shown t rules (last_state t rules)) refl taken.within in
        rw outcome (nexts-hold (built_segments t (last_state t rules)) (λ i h. rw R.size ((nexts-built t rules taken.within).at i (rw R.size at h))))

    -- every edge that is handed back is a sound ring over the segments that are
    pub rings-sound : Typed t → (k : ℕ) → k < (compute_edges t old group ttb scale by).axis.len
        → Sound (compute_edges t old group ttb scale by).axis (compute_edges t old group ttb scale by).segments k
    rings-sound T k h = rw outcome (sound-kept t rules taken.within T k (rw outcome at h))

    -- and was placed by nothing yet
    pub edges-unplaced : (k : ℕ) → k < (compute_edges t old group ttb scale by).axis.len → (edge_at (compute_edges t old group ttb scale by).axis k).mark ≡ Nothing
    edges-unplaced k h = rw outcome (unplaced t rules taken.within k (rw outcome at h))

    -- the edges stand by rising position, in font units and, at a scale that is above 0, at the scale
    pub edges-rise-in-font : (i j : ℕ) → i < j → j < (compute_edges t old group ttb scale by).axis.len
        → (edge_at (compute_edges t old group ttb scale by).axis i).fpos ≤ℤ (edge_at (compute_edges t old group ttb scale by).axis j).fpos
    edges-rise-in-font i j o h = rw outcome (fpos-rises t rules taken.within i j o (rw outcome at h))

    pub edges-rise : (i j : ℕ) → i < j → j < (compute_edges t old group ttb scale by).axis.len
        → (edge_at (compute_edges t old group ttb scale by).axis i).opos ≤ℤ (edge_at (compute_edges t old group ttb scale by).axis j).opos
    edges-rise i j o h = rw outcome (opos-rises t rules taken.within (omega (arith, (right scale by taken.numbers).scale_within)) i j o (rw outcome at h))
