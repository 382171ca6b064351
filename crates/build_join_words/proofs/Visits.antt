-- The visit of one segment, on the words and the lists.
use mathlib.Core.Path.{◌≡◌, refl, sym, ap, ◌∙◌}
use mathlib.Core.Bool.{Bool, true, false, not, ◌&&◌, ◌||◌}
use mathlib.Core.List.{List, [], ◌∷◌}
use Prim.Native.Nat.{ℕ, ◌+◌, ◌-◌, ◌≤◌, ◌<◌}
use native.Mathlib.Nat.{sub-zero}
use native.Mathlib.Omega.{arith}
use lib.IntN.{ℤ, pos}
use lib.ListN.{get_or, set}
use lib.Signed.{le_z}
use Rattle.signed.specs.Distance.{distance}
use Rattle.signed.proofs.By.{by₂}
use Rattle.signed.proofs.Choices.{clash}
use Rattle.axis.specs.declared.kinds.Direction.TheVariants as Directions
use Rattle.axis.specs.declared.segment.Segment.{Segment}
use Rattle.axis.specs.declared.segment.Segments.{Segments}
use Rattle.axis.specs.Accepted.{SegmentsWithin}
use Rattle.axis.specs.Direction.{same}
use Rattle.axis.specs.Limits.{most_edges, most_segments}
use Rattle.axis.specs.Ring.{walk, ends}
use Rattle.axis.specs.Segment.{segment_at}
use Rattle.build_join.specs.declared.rules.Rules.{Rules}
use Rattle.build_join.specs.Joining.{
  skips,
  fits_in,
  agrees,
  stops_behind,
  head_or,
  edge_of,
  appended,
  State,
  group,
  limit_behind,
  may_join,
  behind,
  place_of,
  visit,
  begun,
  state_at,
}
use Rattle.build_join.specs.Walks.{next_in, no_stem, stems_agree}
use Rattle.build_join.proofs.Members.{first-in}
use Rattle.build_join.proofs.Good.{Good, good, last-below, members-below, ring-walk}
use Rattle.build_join.proofs.Steps.{visit-skip, visit-join, visit-none, visit-full, visit-made, after_next}
use Rattle.build_join.proofs.Searching.{fits-far, seek-no, seek-yes, seek-end, seek_stop}
use Rattle.build_join.proofs.Turns.{place, left, never-0}
use Rattle.words.specs.Segment.{segments_in, flat_segments}
use Rattle.build_join_words.specs.Reading.{words_of, segment_in, edge_by, edge_in, edge_at_place, stems_in, own_stem}
use Rattle.build_join_words.specs.Lists.{Placed, Before, stops_at, stop_at, Made}
use Rattle.build_join_words.proofs.Readings.{segments-len, skips-asked, fits-asked, place-by, fits_by, stops-by, segment-of, links-said}
use Rattle.build_join_words.proofs.Inserting.{stop-alike}
use Rattle.build_join_words.proofs.Listings.{first-at, last-at, placed-as, place_at, placed-join, placed-full, placed-made}

-- a loop leaves out what it leaves out by its direction
left_out : (r : Rules) (second : Bool) (x : Segment) → (second && not (same x.dir Directions.None)) ≡ true → skips r second x ≡ true
unfolding skips
left_out r true x e = e
left_out r false x e = absurd (clash false refl e)

module _ {ws : List ℤ} {r : Rules} {second : Bool} {i : ℕ} {places : List ℤ} {first last next : List ℕ} {count : ℕ}
    (B : Before ws r second i places first last next count) where
  abbrev t : Segments
  t = flat_segments ws

  abbrev s : State
  s = state_at t r second i

  W : SegmentsWithin t
  W = B.ready.within

  hi : i < t.len
  hi = omega (arith, segments-len ws, B.inside)

  G : Good t r second s i
  G = good t r second B.ready.latin W.few i (omega (arith, hi))

  going : s.full ≡ false
  going = sym B.placed.listed.fulls

  count-is : count ≡ s.count
  count-is = B.placed.listed.counts

  one : visit t r second s i ≡ state_at t r second (i + 1)
  one = sym (after_next t r second (begun t r second) i)

  own : words_of ws i ≡ segment_at t i
  own = sym (segment-of ws W i hi)

  pub visit-room : count ≤ most_edges
  visit-room = omega (arith, count-is, G.room)

  pub visit-inside : i < most_segments
  visit-inside = omega (arith, hi, W.few)

  -- ---- a segment that is left out
  skips-is : skips r second (segment_in ws i) ≡ skips r second (segment_at t i)
  skips-is = skips-asked r second (words_of ws i) ∙ ap (skips r second) own

  pub visit-skips : skips r second (segment_in ws i) ≡ true → Placed t r (state_at t r second (i + 1)) places first last next false count
  visit-skips h = placed-as B.placed (sym (visit-skip t r second s i going (sym skips-is ∙ h)) ∙ one)

  -- the second loop leaves out what has a direction
  pub visit-left-out : (second && not (same (segment_in ws i).dir Directions.None)) ≡ true
      → Placed t r (state_at t r second (i + 1)) places first last next false count
  visit-left-out h = visit-skips (left_out r second (segment_in ws i) h)

  -- ---- an edge that it may join
  module _ (k : ℕ) (hk : k < count) where
    used : k < s.count
    used = omega (arith, count-is)

    -- its first segment
    head-below : head_or 0 (group s k) < t.len
    head-below = members-below t r second s i k W.few G used _ (first-in (group s k) (G.used k used))

    first_of : words_of ws (get_or first k 0) ≡ segment_at t (head_or 0 (group s k))
    first_of =
        ap (words_of ws) (first-at B.placed.listed k) ∙ sym (segment-of ws W (head_or 0 (group s k)) head-below)

    pub first-inside : get_or first k 0 < segments_in ws
    first-inside = omega (arith, first-at B.placed.listed k, head-below, segments-len ws)

    pub last-inside : get_or last k 0 < most_segments
    last-inside = omega (arith, last-below t r second s i W.few hi G k used, last-at B.placed.listed k, W.few)

    -- its ring
    pub edge-ring : (get_or first k 0 < most_segments) × (ends (next_in next) most_segments (get_or last k 0) most_segments (get_or first k 0) ≡ true)
    edge-ring = (
      omega (arith, first-at B.placed.listed k, head-below, W.few),
      rw (first-at B.placed.listed k, last-at B.placed.listed k, B.placed.listed.nexts) (ring-walk t r second s i k W.few G used).1,
    )

    ring-is : walk (next_in next) (get_or last k 0) most_segments (get_or first k 0) ≡ group s k
    ring-is = rw (first-at B.placed.listed k, last-at B.placed.listed k, B.placed.listed.nexts) (ring-walk t r second s i k W.few G used).0

    -- what the test of the edge said
    pub may-said : (limit : ℕ) (stem : ℤ) (v : Bool) → stem ≡ own_stem ws r.cjk i
        → v ≡ (fits_in second limit (segment_in ws i) (edge_in ws (get_or first k 0) (get_or last k 0))
        && (le_z no_stem stem || stems_agree (stems_in ws) r.near stem (walk (next_in next) (get_or last k 0) most_segments (get_or first k 0))))
        → v ≡ may_join t r second s i k limit
    unfolding may_join
    may-said limit stem v e h =
        by₂ ◌&&◌ h
        (fits-asked second limit (words_of ws i) _ ∙ (λ n. fits_in second limit (own n) (edge_by (first_of n) (get_or first k 0) (get_or last k 0)))
        ∙ fits_by t r.scale second limit (segment_at t i) (group s k) (get_or first k 0) (get_or last k 0) (G.used k used))
        (ap (λ (ms : List ℕ). le_z no_stem stem || stems_agree (stems_in ws) r.near stem ms) ring-is
        ∙ links-said ws W r.cjk r.near i (group s k) stem e hi (λ x h. members-below t r second s i k W.few G used x h))

    -- an edge that is too far
    pub may-far : (limit d : ℕ) → d ≡ distance (words_of ws i).pos (get_or places k (pos 0)) → limit ≤ d → false ≡ may_join t r second s i k limit
    unfolding may_join
    may-far limit d e h =
        let far = fits-far second limit d (segment_at t i) (edge_of t r.scale (group s k))
        (by₂ distance e (ap (λ (z : Segment). z.pos) own) (place_at B.placed k)) h in
        ap (λ (v : Bool). v && (not r.cjk || agrees t r.near (segment_at t i).link (group s k))) far

    module _ (best limit x : ℕ) (p : left t r second i count k best limit ≡ x) (v : Bool) (said : v ≡ may_join t r second s i k limit) where
      pub search_no : v ≡ false → left t r second i count (k + 1) best limit ≡ x
      search_no e = seek-no _ _ count k best limit x p hk (sym said ∙ e)

      pub search-yes : v ≡ true → (l : ℕ) → l ≡ limit_behind r.cjk (distance (words_of ws i).pos (words_of ws (get_or first k 0)).pos)
          → left t r second i count (k + 1) k l ≡ x
      unfolding behind
      search-yes e l g =
          seek-yes _ _ count k best limit x p hk (sym said ∙ e) l
          (by₂ (λ (a b : ℤ). limit_behind r.cjk (distance a b)) g
          (ap (λ (z : Segment). z.pos) own)
          (ap (λ (z : Segment). z.pos) first_of ∙ sym (place-by t r.scale (group s k) (G.used k used))))

  -- ---- the search
  pub search-start : left t r second i count 0 count r.near ≡ place t r second i
  unfolding place_of
  search-start = rw (sub-zero, count-is)

  pub search-end : (k best limit x : ℕ) → left t r second i count k best limit ≡ x → count ≤ k → x ≡ best
  search-end k best limit x p h = seek-end _ _ count k best limit x p h

  pub search-stop : (k best limit x : ℕ) → left t r second i count k best limit ≡ x → limit ≡ 0 → x ≡ best
  unfolding may_join
  search-stop k best limit x p h = seek_stop _ _ (λ k. rw (never-0 second (segment_at t i) (edge_of t r.scale (group s k)))) (count - k) k best limit x h p

  -- ---- the place is known
  module _ (asks : skips r second (segment_in ws i) ≡ false) (k : ℕ) (found : k ≡ place t r second i) where
    free : skips r second (segment_at t i) ≡ false
    free = sym skips-is ∙ asks

    pub visit-joins : (next' : List ℕ) → k < count → next' ≡ appended next (get_or first k 0) (get_or last k 0) i
        → Placed t r (state_at t r second (i + 1)) places first (set last k i) next' false count
    visit-joins next' hk e =
        let h : k < s.count = omega (arith, count-is) in
        placed-as (placed-join B.placed k i next' (G.used k h) e) (sym (visit-join t r second s i going free k (sym found) h) ∙ one)

    module _ (none : count ≤ k) where
      pub visit-stays : second ≡ true → Placed t r (state_at t r second (i + 1)) places first last next false count
      visit-stays b = placed-as B.placed (sym (visit-none t r second s i going free k (sym found) (omega (arith, count-is)) b) ∙ one)

      module _ (b : second ≡ false) where
        pub visit-fills : count ≡ most_edges → Placed t r (state_at t r second (i + 1)) places first last next true count
        visit-fills e =
            placed-as (placed-full B.placed) (sym (visit-full t r second s i going free k (sym found) (omega (arith, count-is)) b
            (omega (arith, count-is))) ∙ one)

        -- edges stop it as their groups do
        stops-alike : stop_at (stops_at r (edge_in ws i i)) (pos 0) places count
            ≡ stop_at (λ (g : List ℕ). stops_behind r (edge_of t r.scale (i ∷ [])) (edge_of t r.scale g)) [] s.groups s.count
        stops-alike =
            stop-alike _ _ (pos 0) [] places s.groups count
            (λ j hj. (λ n. stops_behind r (edge_by (own n) i i) (edge_at_place (place_at B.placed j n))) ∙ stops-by t r.scale r i (group s j) i i)
            ∙ ap (stop_at _ [] s.groups) count-is

        pub visit-makes : {places' : List ℤ} {first' last' next' : List ℕ} → count < most_edges
            → Made ws r i count places first last next places' first' last' next'
            → Placed t r (state_at t r second (i + 1)) places' first' last' next' false (count + 1)
        visit-makes {places'} {first'} {last'} {next'} h M =
            placed-as (placed-made B.placed i _ _ places' first' last' next' stops-alike (ap (λ (z : Segment). z.pos) own) M.inserted M.nexts)
            (sym (visit-made t r second s i going free k (sym found) (omega (arith, count-is)) b (omega (arith, count-is))) ∙ one)
