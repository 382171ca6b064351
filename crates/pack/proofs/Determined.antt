-- The outcome of the call: for refused tables, for accepted ones, and what is handed back.
use mathlib.Core.Path.{◌≡◌, refl, sym, ap, subst, ◌∙◌}
use mathlib.Core.Bool.{true}
use mathlib.Core.List.{List, [], ◌∷◌, map}
use Prim.Native.Nat.{ℕ, suc, ◌≤◌, ◌<◌}
use native.Mathlib.Omega.{arith}
use Rattle.refusals.specs.Refusal.{refusal}
use Rattle.refusals.proofs.Answers.{none-refused}
use Rattle.refusals.proofs.Tests.{all_hold, no-refusal}
use Rattle.axis.specs.declared.edge.Axis.{Axis}
use Rattle.axis.specs.declared.segment.Segments.{Segments}
use Rattle.axis.specs.Edge.{edge_at}
use Rattle.axis.specs.Handed.{TypedAxis, Typed}
use Rattle.axis.specs.Link.{is_linked}
use Rattle.axis.specs.Ring.{times, members, is_of, led_to, Sound}
use Rattle.axis.specs.Segment.{empty_segment, segment_at}
use Rattle.axis.proofs.Accepting.{every_holds}
use Rattle.axis.proofs.Sound.{is-sound, sound-members}
use Rattle.axis.proofs.Walks.{times-here, met-behind}
use Rattle.turn.specs.Indices.{index_tests}
use Rattle.turn.specs.Turning.{turning_tests}
use Rattle.mend.specs.Mend.{mending_tests}
use Rattle.mend.specs.Mended.{mended_axis, mended_segments}
use Rattle.mend.proofs.Determined.{turns, handed-on as mended-on}
use Rattle.pack.specs.Kept.{kept, new_index}
use Rattle.pack.specs.Packed.{packed_segment, packed_edge, kept_count, packed_segments, packed_axis, unnumbered}
use Rattle.pack.specs.Call.{rings_sound, packing_tests, Packed, beside, pack}
use Rattle.pack.proofs.Keeping.{kept-starts}
use Rattle.pack.proofs.Choices.{Chosen, chosen_is}
use Rattle.pack.proofs.Places.{kept-few, packed-at, freed-at, packed-len, packed-edge-at}
use Rattle.pack.proofs.Rings.{mine, members-moved}
use Rattle.pack.proofs.Twice.{Indexed, segments-twice, axis-twice}
use Rattle.pack.proofs.Calls.{Taken, taken}
use Rattle.pack.proofs.Handing.{edges_whole, segments_whole, sound, sound-new, not-refused}

module _ (axis : Axis) (t : Segments) where
  -- a refusal hands back its number, and the axis and the segments as they were
  pub refused : (k : ℕ) → refusal (packing_tests axis t) ≡ suc k → pack axis t ≡ beside axis t (suc k)
  unfolding pack
  refused k e = rw e

  -- an accepted call hands back 0, and both packed
  pub when-accepted : refusal (packing_tests axis t) ≡ 0 → pack axis t ≡ beside (packed_axis t axis) (packed_segments t) 0
  unfolding pack
  when-accepted e = rw e

  -- answer 0 says that nothing was refused
  pub accepted : (pack axis t).answer ≡ 0 → refusal (packing_tests axis t) ≡ 0
  unfolding pack
  accepted e =
      none-refused (beside axis t) (beside (packed_axis t axis) (packed_segments t) 0) (λ (x : Packed). x.answer) (λ j. refl) (refusal (packing_tests axis t)) e

  -- an axis whose indices all hold and whose rings are sound is accepted: what mending hands on, and what turning over makes of it
  pub accepts : refusal (index_tests axis t) ≡ 0 → ((k : ℕ) → k < axis.len → Sound axis t k) → refusal (packing_tests axis t) ≡ 0
  unfolding rings_sound
  accepts e s =
      let h = all_hold (index_tests axis t) refl e in
      let rings = every_holds _ axis.len (λ k b. is-sound (is_of t k) (led_to t) t.len (edge_at axis k).first (edge_at axis k).last (s k b)) in
      no-refusal (packing_tests axis t)
      (h.0, (h.1.0, (h.1.1.0, (h.1.1.1.0, (h.1.1.1.1.0, (h.1.1.1.1.1.0, (h.1.1.1.1.1.1.0, (rings, refl))))))))

-- what mending hands on is accepted
pub mended-accepted : (axis : Axis) (t : Segments) → TypedAxis axis → Typed t → refusal (mending_tests axis t) ≡ 0
    → refusal (packing_tests (mended_axis axis t) (mended_segments axis t)) ≡ 0
mended-accepted axis t w v e =
    let h = all_hold (turning_tests (mended_axis axis t) (mended_segments axis t)) refl (turns axis t w v e) in
    accepts (mended_axis axis t) (mended_segments axis t)
    (no-refusal (index_tests (mended_axis axis t) (mended_segments axis t))
    (h.0, (h.1.0, (h.1.1.0, (h.1.1.1.0, (h.1.1.1.1.0, (h.1.1.1.1.1.0, (h.1.1.1.1.1.1.0, refl))))))))
    (mended-on axis t w v e).sound

-- one list is another's, element by element
map-by : {A : Type 0} (new : ℕ → ℕ) (f g : ℕ → A) (l : List ℕ) → ((i : ℕ) → 0 < times i l → f (new i) ≡ g i) → map f (map new l) ≡ map g l
map-by new f g [] h = refl
map-by new f g (x ∷ l) h =
    let p = h x (omega (arith, times-here x x l refl)) in
    let q = map-by new f g l (λ i m. h i (met-behind i x l m)) in
    λ j. p j ∷ q j

-- ---- what an accepted call hands back
module _ (axis : Axis) (t : Segments) (w : TypedAxis axis) (v : Typed t) (e : (pack axis t).answer ≡ 0) where
  abbrev packed : Axis
  packed = (pack axis t).axis

  abbrev table : Segments
  table = (pack axis t).segments

  is-taken : Taken axis t
  is-taken = taken axis t (accepted axis t e)

  outcome : pack axis t ≡ beside (packed_axis t axis) (packed_segments t) 0
  outcome = when-accepted axis t (accepted axis t e)

  -- every kept segment in its new place, its indices renumbered and nothing else changed
  pub segment-moved : (i : ℕ) → i < t.len → kept t i ≡ true → segment_at table (new_index t i) ≡ packed_segment (new_index t) (segment_at t i)
  segment-moved i l k = ap (λ (x : Packed). segment_at x.segments (new_index t i)) outcome ∙ packed-at t i l k

  -- as many as are kept, at most as many as before, and the places that are freed are empty
  pub as_many : table.len ≡ kept_count t
  as_many = ap (λ (x : Packed). x.segments.len) outcome ∙ packed-len t

  pub no_more : table.len ≤ t.len
  no_more = omega (arith, as_many, kept-few t)

  -- only kept ones: every place up to the new count is the new place of a kept segment
  pub only_kept : (j : ℕ) → j < table.len → Chosen (kept t) t.len j
  only_kept j l = chosen_is (kept t) t.len j (subst (λ (n : ℕ). j < n) as_many l)

  pub freed-empty : (i : ℕ) → kept_count t ≤ i → i < t.len → segment_at table i ≡ empty_segment
  freed-empty i h g = ap (λ (x : Packed). segment_at x.segments i) outcome ∙ freed-at t i h g

  -- of an edge first and last change, and nothing else
  pub edge-ends : (k : ℕ) → k < axis.len → edge_at packed k ≡ packed_edge (new_index t) (edge_at axis k)
  edge-ends k h = ap (λ (x : Packed). edge_at x.axis k) outcome ∙ packed-edge-at t axis (edges_whole axis t w v is-taken) k h

  -- every edge shows the same segments in the same ring order: by their new numbers, and by what they are
  pub same-ring : (k : ℕ) → k < axis.len → members packed table k ≡ map (new_index t) (members axis t k)
  same-ring k h =
      ap (λ (x : Packed). members x.axis x.segments k) outcome
      ∙ members-moved axis t (edges_whole axis t w v is-taken) k h (sound axis t w v is-taken k h)

  pub same-shown : (k : ℕ) → k < axis.len
      → map (λ (i : ℕ). unnumbered (segment_at table i)) (members packed table k) ≡ map (λ (i : ℕ). unnumbered (segment_at t i)) (members axis t k)
  same-shown k h =
      let s = sound axis t w v is-taken k h in
      ap (map (λ (i : ℕ). unnumbered (segment_at table i))) (same-ring k h)
      ∙ map-by (new_index t) (λ (i : ℕ). unnumbered (segment_at table i)) (λ (i : ℕ). unnumbered (segment_at t i)) (members axis t k)
      (λ i m.
      let o = mine axis t k s i (subst (λ (l : List ℕ). 0 < times i l) (sym (sound-members axis t k s)) m) in
      ap unnumbered (segment-moved i o.0 (kept-starts t i o.0 (ap is_linked o.1))))

  -- its ring is sound
  pub sound-ring : (k : ℕ) → k < axis.len → Sound packed table k
  sound-ring k h = subst (λ (x : Packed). Sound x.axis x.segments k) (sym outcome) (sound-new axis t w v is-taken k h)

  -- it passes every test of the call: 1, 3 and 7
  pub handed-on : refusal (packing_tests packed table) ≡ 0
  handed-on = subst (λ (x : Packed). refusal (packing_tests x.axis x.segments) ≡ 0) (sym outcome) (not-refused axis t w v is-taken)

  -- doing it twice changes nothing more
  indexed : Indexed t
  indexed = let h = is-taken.holding.segments in record { whole = segments_whole axis t w v is-taken; linked = h.link; serifed = h.serif; nexts = h.next }

  again : beside (packed_axis (packed_segments t) (packed_axis t axis)) (packed_segments (packed_segments t)) 0 ≡ beside (packed_axis t axis) (packed_segments t) 0
  again =
      let h = is-taken.holding.edges in
      λ j. beside (axis-twice t indexed axis (edges_whole axis t w v is-taken) h.first h.last j) (segments-twice t indexed j) 0

  pub twice : pack packed table ≡ beside packed table 0
  twice =
      when-accepted packed table handed-on
      ∙ ap (λ (x : Packed). beside (packed_axis x.segments x.axis) (packed_segments x.segments) 0) outcome
      ∙ again
      ∙ sym (ap (λ (x : Packed). beside x.axis x.segments 0) outcome)
