-- The lists that joining leaves, against what building makes of its last state.
use mathlib.Core.Path.{◌≡◌, refl, sym, ap, subst, ◌∙◌}
use mathlib.Core.Bool.{Bool, true, false, cond, not, ◌&&◌}
use mathlib.Core.List.{List, [], ◌∷◌, map}
use mathlib.Core.Logic.{⊎_elim}
use Prim.Native.Nat.{ℕ, zero, suc, ◌+◌, ◌≤◌, ◌<◌}
use native.Mathlib.Omega.{arith}
use borrow.Author.Tests.{lt-ltb}
use lib.Dec.{eqb, ltb}
use lib.IntN.{ℤ, pos}
use lib.ListN.{length, get_or, length-map}
use mir.Syntax.{w32}
use mir.Val.{SFits}
use Rattle.signed.proofs.Choices.{either_way}
use Rattle.signed.proofs.Signed.{fits-in, lt-or-le}
use Rattle.refusals.proofs.Tests.{and_second}
use Rattle.fixed.specs.Point.{mul_fix}
use Rattle.axis.specs.declared.edge.Axis.{Axis}
use Rattle.axis.specs.declared.edge.Edge.{Edge}
use Rattle.axis.specs.declared.kinds.Dimension.{Dimension}
use Rattle.axis.specs.declared.kinds.Direction.TheVariants as Directions
use Rattle.axis.specs.declared.segment.Segment.{Segment}
use Rattle.axis.specs.declared.segment.Segments.{Segments}
use Rattle.axis.specs.Accepted.{SegmentsWithin}
use Rattle.axis.specs.Edge.{empty_edge, edge_at, with_last}
use Rattle.axis.specs.Handed.{Typed, TypedEdge, TypedAxis}
use Rattle.axis.specs.Limits.{most_edges, most_segments}
use Rattle.axis.specs.Ring.{walk, ends, times}
use Rattle.axis.specs.Segment.{segment_at}
use Rattle.axis.proofs.Acceptance.{below_none}
use Rattle.build_join.specs.declared.rules.Rules.{Rules}
use Rattle.build_join.specs.Joining.{head_or, last_of, last_in, new_edge, edge_of, State, group, shown, last_state}
use Rattle.build_join.specs.Walks.{next_in, Joinable}
use Rattle.build_join.proofs.Good.{Good, members-below, ring-walk}
use Rattle.build_join.proofs.Members.{first-in, last-in, times-head, times_more}
use Rattle.build_join.proofs.Steps.{of-edge, of-len}
use Rattle.build.specs.Building.{built_edges}
use Rattle.build.proofs.Joins.{last-good}
use Rattle.words.specs.Edge.{edges_in, edge_words, edge_words_at}
use Rattle.words.specs.Segment.{segments_in, flat_segments}
use Rattle.words.specs.Word.{joined}
use Rattle.words.proofs.Typed.{flat-typed}
use Rattle.words_edge.specs.Whole.{Whole, axis_in}
use Rattle.build_join_words.specs.Reading.{words_of}
use Rattle.build_join_words.specs.Lists.{Listed}
use Rattle.build_join_words.proofs.Listings.{first-at, last-at}
use Rattle.build_join_words.proofs.Readings.{segments-len, segment-of}
use Rattle.build_words.specs.Edges.{edge_between, listed_words, Room}
use Rattle.build_words.proofs.Back.{joined-alike, count-back, whole_back, axis-back}

-- ---- walks
-- a walk begins where it starts
first-walked : (next : ℕ → ℕ) (last n ix : ℕ) → 0 < times ix (walk next last n ix)
unfolding walk
first-walked next last zero ix = times-head ix []
first-walked next last (suc n) ix = either_way (λ (l : List ℕ). 0 < times ix l) (eqb ix last) _ _ (times-head ix []) (times-head ix _)

-- a walk that ends leads over numbers below m where its members are
ends-below : (next : ℕ → ℕ) (most m last n ix : ℕ) → ((x : ℕ) → 0 < times x (walk next last n ix) → x < m) → ends next most last n ix ≡ true
    → ends next m last n ix ≡ true
unfolding walk ends
ends-below next most m last zero ix b e = e
ends-below next most m last (suc n) ix b e =
    by (eqb ix last) refl (λ (c : (x : ℕ) → 0 < times x (walk next last n (next ix)) → x < m) (f : ends next most last n (next ix) ≡ true). ends-below next
    most m last n (next ix) c f)
  where
    by : (v : Bool) → eqb ix last ≡ v
        → (((x : ℕ) → 0 < times x (walk next last n (next ix)) → x < m) → ends next most last n (next ix) ≡ true → ends next m last n (next ix) ≡ true)
        → cond (eqb ix last) true (ltb (next ix) m && ends next m last n (next ix)) ≡ true
    by true q more = rw q
    by false q more =
        let on : (ltb (next ix) most && ends next most last n (next ix)) ≡ true = rw q at e in
        let rest : (x : ℕ) → 0 < times x (walk next last n (next ix)) → x < m =
        λ x p. let all = rw q at (b x) in all (omega (arith, times_more x ix (walk next last n (next ix)))) in
        rw (q, lt-ltb (next ix) m (rest (next ix) (first-walked next last n (next ix)))) (more rest (and_second (ltb (next ix) most) _ on))

-- ---- the edge of a group
module _ (t : Segments) (scale : ℤ) where
  between_is : (ws : List ℤ) (g : List ℕ) (a b : ℕ) → 0 < length g → a ≡ head_or 0 g → b ≡ last_in g → words_of ws a ≡ segment_at t (head_or 0 g)
      → edge_between ws scale a b ≡ edge_of t scale g
  between_is ws [] a b h p q e = absurd (omega arith)
  between_is ws (m ∷ ms) a b h p q e = λ i. with_last (new_edge (e i) scale (p i)) (q i)

  group-typed : (g : List ℕ) → ((x : ℕ) → 0 < times x g → x < 65536) → Typed t → 0 < length g → TypedEdge (edge_of t scale g)
  group-typed [] b T h = absurd (omega arith)
  group-typed (m ∷ ms) b T h =
      record {
        fpos = (T.segment m).pos;
        link = below_none 65536;
        serif = below_none 65536;
        first = b m (times-head m ms);
        last = b (last_of m ms)
            (last-in (m ∷ ms) h);
      }

module _ (ws : List ℤ) (r : Rules) (W : SegmentsWithin (flat_segments ws)) (J : Joinable (flat_segments ws) r) {first last next : List ℕ} {full : Bool}
    {count : ℕ}
    (L : Listed (last_state (flat_segments ws) r) first last next full count) where
  abbrev t : Segments
  t = flat_segments ws

  abbrev s : State
  s = last_state t r

  G : Good t r (not r.cjk) s t.len
  G = last-good t r W.few

  used : (k : ℕ) → k < count → k < s.count
  used k h = omega (arith, L.counts)

  members : (k : ℕ) → k < count → (x : ℕ) → 0 < times x (group s k) → x < t.len
  members k h x p = members-below t r (not r.cjk) s t.len k W.few G (used k h) x p

  some : (k : ℕ) → k < count → 0 < length (group s k)
  some k h = G.used k (used k h)

  -- ---- the edges
  abbrev edges : Axis
  edges = built_edges t r s

  edge-at : (k : ℕ) → edge_at edges k ≡ edge_of t r.scale (group s k)
  edge-at = of-edge t r s _ _ _ refl

  head-below : (k : ℕ) → k < count → head_or 0 (group s k) < t.len
  head-below k h = members k h _ (first-in (group s k) (some k h))

  pub listed-starts : (k : ℕ) → k < count → get_or first k 0 < segments_in ws
  listed-starts k h = omega (arith, first-at L k, head-below k h, segments-len ws)

  first_of : (k : ℕ) → k < count → words_of ws (get_or first k 0) ≡ segment_at t (head_or 0 (group s k))
  first_of k h = ap (words_of ws) (first-at L k) ∙ sym (segment-of ws W (head_or 0 (group s k)) (head-below k h))

  listed-edge : (k : ℕ) → k < count → edge_between ws r.scale (get_or first k 0) (get_or last k 0) ≡ edge_at edges k
  listed-edge k h = between_is t r.scale ws (group s k) _ _ (some k h) (first-at L k) (last-at L k) (first_of k h) ∙ sym (edge-at k)

  pub few-listed : count ≤ most_edges
  few-listed = omega (arith, L.counts, G.room)

  -- their words are written where they fit
  pub listed-room : Room ws r.scale first count
  listed-room = record {
    few = few-listed;
    starts = listed-starts;
    fits =
        λ (k : ℕ) (h : k < count). subst (λ (x : Segment). SFits w32 (mul_fix x.pos r.scale)) (sym (first_of k h))
        (fits-in w32 (J.opos (head_or 0 (group s k)) (head-below k h)) tt tt);
  }

  -- ---- as words
  pub listed-words : joined (listed_words ws r.scale first last) count ≡ joined (edge_words_at edges) count
  listed-words = joined-alike _ _ count (λ (k : ℕ) (h : k < count). ap edge_words (listed-edge k h))

  edge-typed : (k : ℕ) → k < count → TypedEdge (edge_at edges k)
  edge-typed k h =
      subst TypedEdge (sym (edge-at k))
      (group-typed t r.scale (group s k) (λ (x : ℕ) (p : 0 < times x (group s k)). omega (arith, members k h x p, W.few)) (flat-typed ws) (some k h))

  typed : TypedAxis edges
  unfolding shown
  typed = record { places = rw length-map G.places }

  empty : (k : ℕ) → count ≤ k → k < most_edges → edge_at edges k ≡ empty_edge
  empty k h b = edge-at k ∙ ap (edge_of t r.scale) (G.unused k (omega (arith, L.counts)) b)

  pub listed-count : edges_in (joined (edge_words_at edges) count) ≡ count
  listed-count = count-back edges count few-listed edge-typed

  pub listed-whole : Whole (joined (edge_words_at edges) count)
  listed-whole = whole_back edges count few-listed edge-typed

  pub listed-axis : (d : Dimension) → axis_in (joined (edge_words_at edges) count) d ≡ record {
    dim =
        d;
    major_dir = Directions.None;
    edges = edges.edges;
    len = count;
  }
  listed-axis = axis-back edges count few-listed edge-typed typed empty

  -- ---- their rings
  pub listed-walk : (k : ℕ) → k < count → walk (next_in next) (get_or last k 0) most_segments (get_or first k 0) ≡ group s k
  listed-walk k h = rw (first-at L k, last-at L k, L.nexts) (ring-walk t r (not r.cjk) s t.len k W.few G (used k h)).0

  pub listed-stops : (k : ℕ) → k < count → ends (next_in next) (segments_in ws) (get_or last k 0) most_segments (get_or first k 0) ≡ true
  listed-stops k h =
      ends-below (next_in next) most_segments (segments_in ws) (get_or last k 0) most_segments (get_or first k 0)
      (λ (x : ℕ) (p : 0 < times x (walk (next_in next) (get_or last k 0) most_segments (get_or first k 0))).
      let q : x < t.len = members k h x (subst (λ (l : List ℕ). 0 < times x l) (listed-walk k h) p) in omega (arith, segments-len ws))
      (rw (first-at L k, last-at L k, L.nexts) (ring-walk t r (not r.cjk) s t.len k W.few G (used k h)).1)
