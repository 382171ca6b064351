-- The rings of a packed axis: every edge has the same segments in the same order, and where its ring was sound it is sound.
use Rattle.std.specs.Prelude.{None, Some}
use mathlib.Core.Path.{◌≡◌, refl, sym, ap, subst, ◌∙◌}
use mathlib.Core.Bool.{Bool, true, false, cond, false≢true}
use mathlib.Core.List.{List, map}
use mathlib.Core.Logic.{⊎_elim}
use Prim.Native.Nat.{ℕ, ◌≤◌, ◌<◌}
use native.Mathlib.Omega.{arith}
use lib.ListN.{length}
use Rattle.axis.specs.declared.edge.Edge.{Edge}
use Rattle.axis.specs.declared.edge.Axis.{Axis}
use Rattle.axis.specs.Link.{Link}
use Rattle.axis.specs.declared.segment.Segment.{Segment}
use Rattle.axis.specs.declared.segment.Segments.{Segments}
use Rattle.axis.specs.Edge.{edge_at}
use Rattle.axis.specs.Limits.{most_segments}
use Rattle.axis.specs.Link.{is_linked, links_to, index_or}
use Rattle.axis.specs.Ring.{ends, times, members, visited, is_of, led_to, Sound}
use Rattle.axis.specs.Segment.{segment_at}
use Rattle.axis.proofs.Sound.{links-to, sound-led, sound-members}
use Rattle.axis.proofs.Walks.{same?, met-below}
use Rattle.pack.specs.Kept.{kept, new_index}
use Rattle.pack.specs.Packed.{moved, packed_segment, packed_segments, packed_axis}
use Rattle.pack.proofs.Counts.{count-injective}
use Rattle.pack.proofs.Keeping.{kept-starts}
use Rattle.pack.proofs.Choices.{chosen_is}
use Rattle.pack.proofs.Places.{new-below, packed-at, packed-len, packed-edge-at}
use Rattle.pack.proofs.Walks.{head-met, last-met, next-met, walk-moved, ends-moved, times-moved}

-- an index that there is, renumbered
index-moved : (new : ℕ → ℕ) (a b : ℕ) (x : Link) → is_linked x ≡ true → index_or a (moved new x) ≡ new (index_or b x)
index-moved new a b None e = absurd (false≢true e)
index-moved new a b (Some k) e = refl

-- ---- what a sound ring visits
module _ (axis : Axis) (t : Segments) (k : ℕ) (s : Sound axis t k) where
  abbrev first : ℕ
  first = (edge_at axis k).first

  abbrev last : ℕ
  last = (edge_at axis k).last

  abbrev ring : List ℕ
  ring = visited (led_to t) first last

  -- a segment of the edge
  abbrev pub Mine : ℕ → Type 0
  Mine i = (i < t.len) × ((segment_at t i).edge ≡ Some k)

  pub mine : (i : ℕ) → 0 < times i ring → Mine i
  mine i g =
      let b = met-below (led_to t) t.len last most_segments first i s.starts s.stops g in
      (b, links-to (segment_at t i).edge k (own (is_of t k i) (s.visits i b)))
    where
      own : (x : Bool) → times i ring ≡ cond x 1 0 → x ≡ true
      own true e = refl
      own false e = absurd (omega arith)

  pub first-mine : Mine first
  first-mine = mine first (head-met (led_to t) last most_segments first)

  pub last-mine : Mine last
  last-mine = mine last (last-met (led_to t) t.len last most_segments first s.stops)

  -- the next of a segment of the edge is one
  pub next-mine : (i : ℕ) → 0 < times i ring → Mine (led_to t i)
  next-mine i g =
      ⊎_elim
      (λ (e : i ≡ last). subst Mine (sym (ap (led_to t) e ∙ s.closed)) first-mine)
      (λ (e : i ≡ last → ⊥). mine (led_to t i) (next-met (led_to t) t.len last most_segments (length ring) first i (omega arith) s.stops g e))
      (same? i last)

-- ---- renumbered
module _ (axis : Axis) (t : Segments) (whole : axis.len ≤ length axis.edges) (k : ℕ) (h : k < axis.len) (s : Sound axis t k) where
  abbrev new : ℕ → ℕ
  new = new_index t

  abbrev packed : Axis
  packed = packed_axis t axis

  abbrev table : Segments
  table = packed_segments t

  abbrev from : ℕ
  from = (edge_at axis k).first

  abbrev to : ℕ
  to = (edge_at axis k).last

  abbrev Own : ℕ → Type 0
  Own i = Mine axis t k s i

  abbrev Kept : ℕ → Type 0
  Kept i = kept t i ≡ true

  is-kept : (i : ℕ) → Own i → Kept i
  is-kept i m = kept-starts t i m.0 (ap is_linked m.1)

  at_new : (i : ℕ) → Own i → segment_at table (new i) ≡ packed_segment new (segment_at t i)
  at_new i m = packed-at t i m.0 (is-kept i m)

  step : (i : ℕ) → Own i → led_to table (new i) ≡ new (led_to t i)
  step i m =
      ap (λ (x : Segment). index_or table.len x.next) (at_new i m)
      ∙ ap (λ (b : Bool). index_or table.len (cond b (moved new (segment_at t i).next) None)) (ap is_linked m.1)
      ∙ index-moved new table.len t.len (segment_at t i).next (sound-led axis t k s i m.0 m.1)

  one : (i j : ℕ) → Kept i → Kept j → new i ≡ new j → i ≡ j
  one i j a b e = count-injective (kept t) i j a b e

  one-own : (i j : ℕ) → Own i → Own j → new i ≡ new j → i ≡ j
  one-own i j a b e = one i j (is-kept i a) (is-kept j b) e

  own : (i : ℕ) → 0 < times i (visited (led_to t) from to) → Own i
  own = mine axis t k s

  end : Own to
  end = last-mine axis t k s

  first-new : (edge_at packed k).first ≡ new from
  first-new = ap (λ (e : Edge). e.first) (packed-edge-at t axis whole k h)

  last-new : (edge_at packed k).last ≡ new to
  last-new = ap (λ (e : Edge). e.last) (packed-edge-at t axis whole k h)

  -- the same segments in the same order
  visited-moved : visited (led_to table) (edge_at packed k).first (edge_at packed k).last ≡ map new (visited (led_to t) from to)
  visited-moved =
      (λ j. visited (led_to table) (first-new j) (last-new j))
      ∙ walk-moved (led_to t) (led_to table) new to Own step one-own end most_segments from own

  new-few : (i : ℕ) → Own i → new i < table.len
  new-few i m = subst (λ (n : ℕ). new i < n) (sym (packed-len t)) (new-below t i m.0 (is-kept i m))

  stops : ends (led_to table) table.len (edge_at packed k).last most_segments (edge_at packed k).first ≡ true
  stops =
      (λ j. ends (led_to table) table.len (last-new j) most_segments (first-new j))
      ∙ ends-moved (led_to t) (led_to table) new to Own step one-own end t.len table.len new-few most_segments from own s.stops

  -- each segment of the edge once, and no other
  visits : (j : ℕ) → j < table.len → times j (visited (led_to table) (edge_at packed k).first (edge_at packed k).last) ≡ cond (is_of table k j) 1 0
  visits j l =
      let c = chosen_is (kept t) t.len j (subst (λ (n : ℕ). j < n) (packed-len t) l) in
      subst (λ (i : ℕ). times i (visited (led_to table) (edge_at packed k).first (edge_at packed k).last) ≡ cond (is_of table k i) 1 0) c.place
      (ap (times (new c.it)) visited-moved
      ∙ times-moved new Kept one (visited (led_to t) from to) c.it c.mine (λ i g. is-kept i (own i g))
      ∙ s.visits c.it c.below
      ∙ ap (λ (x : Segment). cond (links_to x.edge k) 1 0) (sym (packed-at t c.it c.below c.mine)))

  pub ring-sound : Sound packed table k
  ring-sound = record {
    starts = subst (λ (i : ℕ). i < table.len) (sym first-new) (new-few from (first-mine axis t k s));
    stops = stops;
    closed = ap (led_to table) last-new ∙ step to end ∙ ap new s.closed ∙ sym first-new;
    visits = visits;
  }

  pub members-moved : members packed table k ≡ map new (members axis t k)
  members-moved = sym (sound-members packed table k ring-sound) ∙ visited-moved ∙ ap (map new) (sound-members axis t k s)
