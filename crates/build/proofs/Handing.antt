-- What joining hands on: its walks end, so that the segments learn their edges, and what comes of it is ready for the edges' properties.
use mathlib.Core.Path.{◌≡◌, ap, ◌∙◌}
use mathlib.Core.Bool.{true, not}
use mathlib.Core.List.{List, [], ◌∷◌}
use Prim.Native.Nat.{ℕ, ◌≤◌, ◌<◌}
use native.Mathlib.Nat.{lt_of_lt_of_le}
use native.Mathlib.Omega.{arith}
use lib.IntN.{ℤ}
use lib.ListN.{length}
use Rattle.axis.specs.declared.segment.Segments.{Segments}
use Rattle.axis.specs.Accepted.{SegmentsWithin}
use Rattle.axis.specs.Edge.{edge_at}
use Rattle.axis.specs.Limits.{most_edges, most_segments}
use Rattle.axis.specs.Ring.{walk, ends, next_of, times}
use Rattle.axis.proofs.Acceptance.{below_none}
use Rattle.build_join.specs.declared.join.Joined.{Joined}
use Rattle.build_join.specs.declared.rules.Rules.{Rules}
use Rattle.build_join.specs.Joining.{head_or, last_in, edge_of, State, group, shown}
use Rattle.build_join.specs.Walks.{next_in}
use Rattle.build_join.proofs.Members.{Once, first-in, few}
use Rattle.build_join.proofs.Rings.{Chain}
use Rattle.build_join.proofs.Good.{Good, members-below, members-once, ring-walk}
use Rattle.build_join.proofs.Steps.{of-len, of-next, of-edge, of-first, of-last}
use Rattle.build_properties.specs.Steps.{EdgeBelow, Ready}
use Rattle.build_mark.specs.Marks.{cleared}
use Rattle.build_mark.specs.Steps.{marked, Ended}
use Rattle.build_mark.proofs.Marking.{marked-is}
use Rattle.build.specs.Building.{last_state, built_segments}
use Rattle.build.proofs.Joins.{last-good}
use Rattle.build.proofs.Sound.{Rows, rows, ends-chain}

-- a new edge has neither link nor serif
no-link : (t : Segments) (scale : ℤ) (n : ℕ) (g : List ℕ) → EdgeBelow n (edge_of t scale g)
no-link t scale n [] = record { link = below_none n; serif = below_none n }
no-link t scale n (m ∷ ms) = record { link = below_none n; serif = below_none n }

module _ (t : Segments) (r : Rules) (j : Joined) (J : j ≡ shown t r (last_state t r)) (W : SegmentsWithin t) where
  abbrev s : State
  s = last_state t r

  G : Good t r (not r.cjk) s t.len
  G = last-good t r W.few

  count-is : j.axis.len ≡ s.count
  count-is = of-len t r s j.full j.axis j.next J

  first_is : (k : ℕ) → (edge_at j.axis k).first ≡ head_or 0 (group s k)
  first_is = of-first t r s j.full j.axis j.next J

  last_is : (k : ℕ) → (edge_at j.axis k).last ≡ last_in (group s k)
  last_is = of-last t r s j.full j.axis j.next J

  next_is : j.next ≡ s.next
  next_is = of-next t r s j.full j.axis j.next J

  inside : (k x : ℕ) → k < s.count → 0 < times x (group s k) → x < t.len
  inside k x h p = members-below t r (not r.cjk) s t.len k W.few G h x p

  first_below : (k : ℕ) → k < s.count → (edge_at j.axis k).first < t.len
  first_below k h = omega (arith, first_is k, inside k _ h (first-in (group s k) (G.used k h)))

  in_count : (k : ℕ) → k < j.axis.len → k < s.count
  in_count k h = omega (arith, count-is)

  -- ---- the walks end
  pub few-edges : j.axis.len ≤ most_edges
  few-edges = omega (arith, count-is, G.room)

  pub ended : Ended j.next j.axis
  ended = record {
    starts = λ k h. lt_of_lt_of_le (first_below k (in_count k h)) W.few;
    stops = λ k h. rw (first_is k, last_is k, next_is) (ring-walk t r (not r.cjk) s t.len k W.few G (in_count k h)).1;
  }

  walk_is : (k : ℕ) → k < s.count → walk (next_in j.next) (edge_at j.axis k).last most_segments (edge_at j.axis k).first ≡ group s k
  walk_is k h = rw (first_is k, last_is k, next_is) (ring-walk t r (not r.cjk) s t.len k W.few G h).0

  -- and lead along the groups
  pub segments-are : (u : Segments) → u ≡ marked j.next j.axis j.axis.len (cleared t) → u ≡ built_segments t s
  unfolding built_segments
  segments-are u e =
      e ∙ ap (λ (n : ℕ). marked j.next j.axis n (cleared t)) count-is
      ∙ marked-is j.next j.axis s next_is walk_is s.count (omega arith) (cleared t)

  -- ---- what is built
  pub built-rows : Rows t s.next s.count (built_segments t s)
  unfolding built_segments
  built-rows = rows t s inside

  ring-ends : (k : ℕ) → k < s.count → ends (next_of (built_segments t s) (last_in (group s k))) (built_segments t s).len (last_in (group s k)) most_segments
      (head_or 0 (group s k)) ≡ true
  ring-ends k h =
      go (group s k) (G.used k h) (members-once t r (not r.cjk) s t.len k W.few G h) (λ x p. inside k x h p) (G.rings k (omega (arith, G.room)))
    where
      go : (g : List ℕ) → 0 < length g → Once g → ((x : ℕ) → 0 < times x g → x < t.len) → Chain s.next (head_or 0 g) g
          → ends (next_of (built_segments t s) (last_in g)) (built_segments t s).len (last_in g) most_segments (head_or 0 g) ≡ true
      go [] p o b c = absurd (omega arith)
      go (m ∷ ms) p o b c =
          let R = built-rows in
          let f = few most_segments (m ∷ ms) o (λ x q. lt_of_lt_of_le (b x q) W.few) in
          ends-chain (built_segments t s) s.next (λ i l. (R.row i (rw R.size at l)).next_is) m m ms most_segments o (λ x q. rw R.size (b x q))
          (omega arith) c

  pub ready : Ready j.axis (built_segments t s)
  ready =
      let R = built-rows in
      record {
        few-edges = few-edges;
        few-segments = rw R.size W.few;
        edge = λ k h. rw (of-edge t r s j.full j.axis j.next J k) (no-link t r.scale j.axis.len (group s k));
        segment = λ i h.
            let l = rw R.size at h in
            let q = R.row i l in
            let w = W.segment i l in
            record { link = rw (q.link, R.size) w.link; serif = rw (q.serif, R.size) w.serif; edge = rw count-is q.edge };
        rings =
            record {
              ring = λ k h. record {
                starts = rw R.size (first_below k (in_count k h));
                stops = rw (first_is k, last_is k)
                    (ring-ends k (in_count k h));
              };
            };
      }
