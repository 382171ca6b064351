-- Sound rings: the test and the record, what a sound ring holds, and the parts that make one.
use Rattle.std.specs.Prelude.{None, Some}
use mathlib.Core.Path.{◌≡◌, refl, sym, ap, subst, ◌∙◌}
use mathlib.Core.Bool.{Bool, true, false, cond, ◌&&◌}
use mathlib.Core.List.{List, [], ◌∷◌}
use mathlib.Core.Logic.{⊎_elim}
use Prim.Native.Nat.{ℕ, zero, suc, ◌≤◌, ◌<◌}
use native.Mathlib.Omega.{arith}
use borrow.Author.Tests.{eqb-true, eq-eqb, ltb-true, lt-ltb}
use lib.Dec.{eqb, ltb}
use Rattle.signed.proofs.Signed.{lt-or-le}
use Rattle.refusals.proofs.Tests.{and_first, and_second}
use Rattle.axis.specs.declared.edge.Axis.{Axis}
use Rattle.axis.specs.Link.{Link}
use Rattle.axis.specs.declared.segment.Segments.{Segments}
use Rattle.axis.specs.Edge.{edge_at}
use Rattle.axis.specs.Limits.{most_segments}
use Rattle.axis.specs.Link.{is_linked, links_to, index_or}
use Rattle.axis.specs.Ring.{walk, ends, times, next_of, members, Walked, visited, SoundRing, sound_ring, is_of, led_to, Sound}
use Rattle.axis.specs.Segment.{segment_at}
use Rattle.axis.proofs.Accepting.{every_holds}
use Rattle.axis.proofs.Tests.{every-at}
use Rattle.axis.proofs.Walks.{same?, times-here, met, met-one, met-behind, met-below, once}

-- two tests of which each holds where the other does
pub both_ways : (a b : Bool) → (a ≡ true → b ≡ true) → (b ≡ true → a ≡ true) → a ≡ b
both_ways true b f g = sym (f refl)
both_ways false true f g = g refl
both_ways false false f g = refl

both : (a b : Bool) → a ≡ true → b ≡ true → (a && b) ≡ true
both a b p q = rw (p, q)

pub never : {A : Type 0} → false ≡ true → A
never e = absurd (let z : ◌≡◌ {A = ℕ} 0 1 = cc in omega arith)

-- ---- the test and the record
module _ (own : ℕ → Bool) (next : ℕ → ℕ) (n first last : ℕ) where
  pub sound-is : sound_ring own next n first last ≡ true → SoundRing own next n first last
  unfolding sound_ring
  sound-is h =
      let a = and_second (ltb first n) _ h in
      let b = and_second (ends next n last most_segments first) _ a in
      record {
        starts = ltb-true first n (and_first _ _ h);
        stops = and_first _ _ a;
        closed = eqb-true (next last) first (and_first _ _ b);
        visits = λ (i : ℕ) (l : i < n). eqb-true _ _ (every-at _ i n (and_second (eqb (next last) first) _ b) l);
      }

  pub is-sound : SoundRing own next n first last → sound_ring own next n first last ≡ true
  unfolding sound_ring
  is-sound s =
      both (ltb first n) _ (lt-ltb first n s.starts)
      (both (ends next n last most_segments first) _ s.stops
      (both (eqb (next last) first) _ (eq-eqb (next last) first s.closed)
      (every_holds _ n (λ (i : ℕ) (l : i < n). eq-eqb _ _ (s.visits i l)))))

-- ---- what is in a sound ring
-- the last is one of the segments
last-below : (next : ℕ → ℕ) (n last fuel x : ℕ) → x < n → ends next n last fuel x ≡ true → last < n
unfolding ends
last-below next n last zero x h e = let q = eqb-true x last e in omega arith
last-below next n last (suc fuel) x h e = by (λ l q. last-below next n last fuel (next x) l q) (eqb x last) refl e
  where
    by : (next x < n → ends next n last fuel (next x) ≡ true → last < n) → (b : Bool) → eqb x last ≡ b
        → cond b true (ltb (next x) n && ends next n last fuel (next x)) ≡ true → last < n
    by rest true q e = let r = eqb-true x last q in omega arith
    by rest false q e = rest (ltb-true (next x) n (and_first _ _ e)) (and_second (ltb (next x) n) _ e)

-- from what is met and is not the last the walk goes on to a segment
next-below : (next : ℕ → ℕ) (n last fuel x i : ℕ) → ends next n last fuel x ≡ true → 0 < times i (walk next last fuel x) → (i ≡ last → ⊥) → next i < n
unfolding ends walk
next-below next n last zero x i e m a = absurd (a (met-one i x m ∙ eqb-true x last e))
next-below next n last (suc fuel) x i e m a = by (λ q r. next-below next n last fuel (next x) i q r a) (eqb x last) refl e m
  where
    by : (ends next n last fuel (next x) ≡ true → 0 < times i (walk next last fuel (next x)) → next i < n) → (b : Bool) → eqb x last ≡ b
        → cond b true (ltb (next x) n && ends next n last fuel (next x)) ≡ true → 0 < times i (cond b (x ∷ []) (x ∷ walk next last fuel (next x))) → next i < n
    by rest true q e m = absurd (a (met-one i x m ∙ eqb-true x last q))
    by rest false q e m =
        let below = ltb-true (next x) n (and_first _ _ e) in
        ⊎_elim
        (λ (r : i ≡ x). subst (λ (k : ℕ). next k < n) (sym r) below)
        (λ (r : 0 < times i (walk next last fuel (next x))). rest (and_second (ltb (next x) n) _ e) r)
        (met i x _ m)

module _ (own : ℕ → Bool) (next : ℕ → ℕ) (n first last : ℕ) (s : SoundRing own next n first last) where
  pub last-inside : last < n
  last-inside = last-below next n last most_segments first s.starts s.stops

  -- each of its segments leads to a segment
  pub leads-inside : (i : ℕ) → i < n → own i ≡ true → next i < n
  leads-inside i h o =
      let m : times i (visited next first last) ≡ 1 = s.visits i h ∙ ap (λ (b : Bool). cond b 1 0) o in
      ⊎_elim
      (λ (e : i ≡ last). subst (λ (k : ℕ). k < n) (sym (ap next e ∙ s.closed)) s.starts)
      (λ (e : i ≡ last → ⊥). next-below next n last most_segments first i s.stops (omega arith) e)
      (same? i last)

-- ---- two ways of naming the next that agree on what is met
module _ (next next' : ℕ → ℕ) (most last : ℕ) where
  ends-agree : (n x : ℕ) → ((i : ℕ) → 0 < times i (walk next last n x) → next i ≡ next' i) → ends next most last n x ≡ ends next' most last n x
  unfolding ends walk
  ends-agree zero x h = refl
  ends-agree (suc n) x h = by (ends-agree n (next x)) (eqb x last) h
    where
      by : (((i : ℕ) → 0 < times i (walk next last n (next x)) → next i ≡ next' i) → ends next most last n (next x) ≡ ends next' most last n (next x))
          → (b : Bool) → ((i : ℕ) → 0 < times i (cond b (x ∷ []) (x ∷ walk next last n (next x))) → next i ≡ next' i)
          → cond b true (ltb (next x) most && ends next most last n (next x)) ≡ cond b true (ltb (next' x) most && ends next' most last n (next' x))
      by rest true h = refl
      by rest false h =
          ap (λ (b : Bool). ltb (next x) most && b) (rest (λ i p. h i (met-behind i x (walk next last n (next x)) p)))
          ∙ ap (λ (k : ℕ). ltb k most && ends next' most last n k) (h x (omega (arith, times-here x x (walk next last n (next x)) refl)))

  walk-agrees : (n x : ℕ) → ((i : ℕ) → 0 < times i (walk next last n x) → next i ≡ next' i) → walk next last n x ≡ walk next' last n x
  unfolding walk
  walk-agrees zero x h = refl
  walk-agrees (suc n) x h = by (walk-agrees n (next x)) (eqb x last) h
    where
      by : (((i : ℕ) → 0 < times i (walk next last n (next x)) → next i ≡ next' i) → walk next last n (next x) ≡ walk next' last n (next x))
          → (b : Bool) → ((i : ℕ) → 0 < times i (cond b (x ∷ []) (x ∷ walk next last n (next x))) → next i ≡ next' i)
          → cond b (x ∷ []) (x ∷ walk next last n (next x)) ≡ cond b (x ∷ []) (x ∷ walk next' last n (next' x))
      by rest true h = refl
      by rest false h =
          ap (λ (l : List ℕ). x ∷ l)
          (rest (λ i p. h i (met-behind i x (walk next last n (next x)) p))
          ∙ ap (walk next' last n) (h x (omega (arith, times-here x x (walk next last n (next x)) refl))))

-- ---- an index that there is
linked-below : (n : ℕ) (l : Link) → index_or n l < n → is_linked l ≡ true
linked-below n None h = absurd (omega arith)
linked-below n (Some k) h = refl

any-default : (l : Link) (a b : ℕ) → is_linked l ≡ true → index_or a l ≡ index_or b l
any-default None a b h = never h
any-default (Some k) a b h = refl

is-index : (n k : ℕ) (l : Link) → index_or n l ≡ k → k < n → l ≡ Some k
is-index n k None e h = absurd (omega arith)
is-index n k (Some j) e h = ap Some e

pub of-link : (l : Link) (k : ℕ) → l ≡ Some k → links_to l k ≡ true
unfolding links_to
of-link l k e = ap (λ (x : Link). links_to x k) e ∙ eq-eqb k k refl

pub links-to : (l : Link) (k : ℕ) → links_to l k ≡ true → l ≡ Some k
unfolding links_to
links-to None k h = never h
links-to (Some j) k h = ap Some (eqb-true j k h)

-- ---- the ring of edge k
module _ (axis : Axis) (t : Segments) (k : ℕ) where
  abbrev first : ℕ
  first = (edge_at axis k).first

  abbrev last : ℕ
  last = (edge_at axis k).last

  -- ---- of a sound ring
  module _ (s : Sound axis t k) where
    own-met : (i : ℕ) → 0 < times i (visited (led_to t) first last) → is_of t k i ≡ true
    own-met i p = by (is_of t k i) (s.visits i (met-below (led_to t) t.len last most_segments first i s.starts s.stops p))
      where
        by : (b : Bool) → times i (visited (led_to t) first last) ≡ cond b 1 0 → b ≡ true
        by true e = refl
        by false e = absurd (omega arith)

    -- every segment of the edge has a next
    pub sound-led : (i : ℕ) → i < t.len → (segment_at t i).edge ≡ Some k → is_linked (segment_at t i).next ≡ true
    sound-led i h e =
        linked-below t.len (segment_at t i).next (leads-inside (is_of t k) (led_to t) t.len first last s i h (of-link (segment_at t i).edge k e))

    -- its segments in their order are those that it visits
    pub sound-members : visited (led_to t) first last ≡ members axis t k
    sound-members = walk-agrees (led_to t) (next_of t last) t.len last most_segments first (λ i p. agree i p)
      where
        agree : (i : ℕ) → 0 < times i (visited (led_to t) first last) → led_to t i ≡ next_of t last i
        agree i p =
            let b = met-below (led_to t) t.len last most_segments first i s.starts s.stops p in
            any-default (segment_at t i).next t.len last (sound-led i b (links-to (segment_at t i).edge k (own-met i p)))

  -- ---- a ring is sound where its segments are walked, once each, are those of the edge, and each has a next, the last the first
  module _ (walked : Walked t first last)
      (once : (i : ℕ) → times i (members axis t k) ≤ 1)
      (own : (i : ℕ) → 0 < times i (members axis t k) → (segment_at t i).edge ≡ Some k)
      (every_one : (i : ℕ) → i < t.len → (segment_at t i).edge ≡ Some k → 0 < times i (members axis t k))
      (led : (i : ℕ) → 0 < times i (members axis t k) → is_linked (segment_at t i).next ≡ true)
      (closed : (segment_at t last).next ≡ Some first) where
    agree : (i : ℕ) → 0 < times i (members axis t k) → next_of t last i ≡ led_to t i
    agree i p = any-default (segment_at t i).next last t.len (led i p)

    met-own : (i : ℕ) → i < t.len → times i (members axis t k) ≡ cond (is_of t k i) 1 0
    met-own i h = by (is_of t k i) refl
      where
        by : (b : Bool) → is_of t k i ≡ b → times i (members axis t k) ≡ cond b 1 0
        by true e = omega (arith, once i, every_one i h (links-to (segment_at t i).edge k e))
        by false e =
            ⊎_elim
            (λ (p : 0 < times i (members axis t k)). never (sym e ∙ of-link (segment_at t i).edge k (own i p)))
            (λ (p : times i (members axis t k) ≤ 0). omega arith)
            (lt-or-le 0 (times i (members axis t k)))

    pub sound-from : Sound axis t k
    sound-from = record {
      starts = walked.starts;
      stops = sym (ends-agree (next_of t last) (led_to t) t.len last most_segments first agree) ∙ walked.stops;
      closed = ap (index_or t.len) closed;
      visits = λ i h. ap (times i) (sym (walk-agrees (next_of t last) (led_to t) t.len last most_segments first agree)) ∙ met-own i h;
    }
