-- The test in as many steps as the edge has segments is that of a sound ring.
use mathlib.Core.Path.{◌≡◌, refl, sym, ap, subst, ◌∙◌}
use mathlib.Core.Bool.{Bool, true, false, cond, ◌&&◌}
use mathlib.Core.List.{List, [], ◌∷◌}
use mathlib.Core.Logic.{⊎_elim}
use Prim.Native.Nat.{ℕ, zero, suc, ◌+◌, ◌≤◌, ◌<◌}
use native.Mathlib.Omega.{arith}
use borrow.Author.Tests.{eqb-true, eq-eqb, ne_eqb, ltb-true, lt-ltb}
use lib.Dec.{eqb, ltb}
use lib.ListN.{length}
use Rattle.refusals.proofs.Tests.{and_first, and_second}
use Rattle.axis.specs.Limits.{most_segments}
use Rattle.axis.specs.Ring.{walk, ends, times, visited, SoundRing, sound_ring}
use Rattle.axis.proofs.Rings.{walk_at, walk-passes, shorter, ends-fuel, walk-fuel}
use Rattle.mend.specs.Following.{total, count, closes}
use Rattle.axis.proofs.Sound.{both_ways, never, sound-is, is-sound}
use Rattle.axis.proofs.Walks.{same?, times-here, met, met-one, met-below, met-behind, walk-some, once}
use Rattle.mend.proofs.Sums.{total-same, total-times, all-met, count-few}

pub both : (a b : Bool) → a ≡ true → b ≡ true → (a && b) ≡ true
both a b p q = rw (p, q)

-- ---- from the steps to the ring
module _ (own : ℕ → Bool) (next : ℕ → ℕ) (n first last : ℕ) where
  -- what so many steps and one from ix tell
  record Closed (left ix : ℕ) : Type 0 where
    pub below : ix < n
    pub stops : ends next n last left ix ≡ true
    pub size : length (walk next last left ix) ≡ suc left
    pub own-met : (i : ℕ) → 0 < times i (walk next last left ix) → own i ≡ true
    pub closed : next last ≡ first

  at_last : (ix left : ℕ) → ix < n → own ix ≡ true → ix ≡ last → left ≡ 0 → next ix ≡ first → Closed left ix
  unfolding ends walk
  at_last ix left b o e z c =
      subst (λ (k : ℕ). Closed k ix) (sym z)
      (record {
        below = b;
        stops = eq-eqb ix last e;
        size = refl;
        own-met = λ (i : ℕ) (h : 0 < times i (ix ∷ [])). ap own (met-one i ix h) ∙ o;
        closed = ap next (sym e) ∙ c;
      })

  on-the-way : (ix left : ℕ) → ix < n → own ix ≡ true → (ix ≡ last → ⊥) → Closed left (next ix) → Closed (suc left) ix
  unfolding ends walk
  on-the-way ix left b o e c = record {
    below = b;
    stops = rw (ne_eqb ix last e) (both (ltb (next ix) n) _ (lt-ltb (next ix) n c.below) c.stops);
    size = rw (ne_eqb ix last e) (ap suc c.size);
    own-met = rw (ne_eqb ix last e)
        (λ (i : ℕ) (h : 0 < times i (ix ∷ walk next last left (next ix))). ⊎_elim (λ (q : i ≡ ix). ap own q ∙ o)
        (λ (q : 0 < times i (walk next last left (next ix))). c.own-met i q) (met i ix _ h));
    closed = c.closed;
  }

  -- the first of these steps
  record First (left ix : ℕ) : Type 0 where
    pub below : ix < n
    pub of-edge : own ix ≡ true
    pub rest : cond (eqb ix last) (eqb left 0 && eqb (next ix) first) (closes own next n first last left (next ix)) ≡ true

  first_step : (left ix : ℕ) → closes own next n first last (suc left) ix ≡ true → First left ix
  unfolding closes
  first_step left ix h =
      let r = and_second (ltb ix n) _ h in
      record { below = ltb-true ix n (and_first _ _ h); of-edge = and_first (own ix) _ r; rest = and_second (own ix) _ r }

  ended : (left ix : ℕ) → First left ix → ix ≡ last → Closed left ix
  ended left ix f e =
      let q = rw (eq-eqb ix last e) at f.rest in
      at_last ix left f.below f.of-edge e (eqb-true left 0 (and_first _ _ q)) (eqb-true (next ix) first (and_second (eqb left 0) _ q))

  further : (left ix : ℕ) → (ix ≡ last → ⊥) → First (suc left) ix → closes own next n first last (suc left) (next ix) ≡ true
  further left ix e f = rw (ne_eqb ix last e) at f.rest

  from-steps : (left ix : ℕ) → closes own next n first last (suc left) ix ≡ true → Closed left ix
  unfolding closes
  from-steps zero ix h =
      let f = first_step 0 ix h in
      ⊎_elim (λ (e : ix ≡ last). ended 0 ix f e) (λ (e : ix ≡ last → ⊥). never (rw (ne_eqb ix last e) at f.rest)) (same? ix last)
  from-steps (suc left) ix h =
      let f = first_step (suc left) ix h in
      ⊎_elim
      (λ (e : ix ≡ last). ended (suc left) ix f e)
      (λ (e : ix ≡ last → ⊥). on-the-way ix left f.below f.of-edge e (from-steps left (next ix) (further left ix e f)))
      (same? ix last)

  -- as many as there are
  pub steps-sound : n ≤ most_segments → closes own next n first last (count own n) first ≡ true → SoundRing own next n first last
  unfolding closes
  steps-sound few h = go (count own n) refl h
    where
      go : (k : ℕ) → count own n ≡ k → closes own next n first last k first ≡ true → SoundRing own next n first last
      go zero e h = never h
      go (suc l) e h =
          let c = from-steps l first h in
          let f : l ≤ most_segments = omega (arith, count-few own n) in
          let w = walk-fuel next n last l most_segments first f c.stops in
          let m = all-met own n (walk next last l first)
          (λ x p. met-below next n last l first x c.below c.stops p) c.own-met (λ x. once next n last l first x c.stops) (c.size ∙ sym e) in
          record {
            starts = c.below;
            stops = ends-fuel next n last l most_segments first f c.stops;
            closed = c.closed;
            visits = λ (i : ℕ) (q : i < n). ap (times i) w ∙ m i q;
          }

-- ---- from the ring to the steps
module _ (own : ℕ → Bool) (next : ℕ → ℕ) (n first last : ℕ) where
  pub closes_at : (ix : ℕ) → ix < n → own ix ≡ true → ix ≡ last → next ix ≡ first → closes own next n first last 1 ix ≡ true
  unfolding closes
  closes_at ix b o e c =
      both (ltb ix n) _ (lt-ltb ix n b) (both (own ix) _ o (rw (eq-eqb ix last e) (both (eqb 0 0) _ (eq-eqb 0 0 refl) (eq-eqb (next ix) first c))))

  pub closes-on : (ix left : ℕ) → ix < n → own ix ≡ true → (ix ≡ last → ⊥) → closes own next n first last left (next ix) ≡ true
      → closes own next n first last (suc left) ix ≡ true
  unfolding closes
  closes-on ix left b o e h = both (ltb ix n) _ (lt-ltb ix n b) (both (own ix) _ o (rw (ne_eqb ix last e) h))

  to-steps : (fuel left ix : ℕ) → length (walk next last fuel ix) ≡ left → ends next n last fuel ix ≡ true → ix < n
      → ((i : ℕ) → 0 < times i (walk next last fuel ix) → own i ≡ true) → next last ≡ first → closes own next n first last left ix ≡ true
  to-steps fuel zero ix s e b o c = absurd (omega (arith, walk-some next last fuel ix))
  to-steps fuel (suc left) ix s e b o c =
      ⊎_elim
      (λ (q : ix ≡ last).
      let w = walk_at next last fuel ix q in
      let l : left ≡ 0 = omega (arith, ap (length {A = ℕ}) w) in
      let own-ix : own ix ≡ true = o ix (subst (λ (ms : List ℕ). 0 < times ix ms) (sym w) (omega (arith, times-here ix ix [] refl))) in
      subst (λ (k : ℕ). closes own next n first last (suc k) ix ≡ true) (sym l) (closes_at ix b own-ix q (ap next q ∙ c)))
      (λ (q : ix ≡ last → ⊥).
      let p = walk-passes next n last fuel ix q e in
      let own-ix : own ix ≡ true = o ix (subst (λ (ms : List ℕ). 0 < times ix ms) (sym p.step)
      (omega (arith, times-here ix ix (walk next last fuel (next ix)) refl))) in
      closes-on ix left b own-ix q
      (to-steps fuel left (next ix) (omega (arith, shorter next n last fuel ix p)) p.on p.below
      (λ (i : ℕ) (h : 0 < times i (walk next last fuel (next ix))). o i
      (subst (λ (ms : List ℕ). 0 < times i ms) (sym p.step) (met-behind i ix (walk next last fuel (next ix)) h))) c))
      (same? ix last)

  pub sound-steps : SoundRing own next n first last → closes own next n first last (count own n) first ≡ true
  sound-steps s =
      to-steps most_segments (count own n) first size s.stops s.starts own-met s.closed
    where
      below : (x : ℕ) → 0 < times x (visited next first last) → x < n
      below x p = met-below next n last most_segments first x s.starts s.stops p

      size : length (visited next first last) ≡ count own n
      size =
          sym (total-times n (visited next first last) below) ∙ total-same (λ (i : ℕ). times i (visited next first last)) (λ (i : ℕ). cond (own i) 1 0) n
          s.visits

      own-met : (i : ℕ) → 0 < times i (visited next first last) → own i ≡ true
      own-met i h = by (own i) (s.visits i (below i h))
        where
          by : (b : Bool) → times i (visited next first last) ≡ cond b 1 0 → b ≡ true
          by true e = refl
          by false e = absurd (omega arith)

-- ---- the same test
pub closes-sound : (own : ℕ → Bool) (next : ℕ → ℕ) (n first last : ℕ) → n ≤ most_segments
    → closes own next n first last (count own n) first ≡ sound_ring own next n first last
closes-sound own next n first last few =
    both_ways _ _
    (λ h. is-sound own next n first last (steps-sound own next n first last few h))
    (λ h. sound-steps own next n first last (sound-is own next n first last h))

-- ---- a ring reads the next of its own segments alone
module _ (own : ℕ → Bool) (next next' : ℕ → ℕ) (n first last : ℕ) (same : (i : ℕ) → i < n → own i ≡ true → next i ≡ next' i) where
  taken-apart : (left ix : ℕ) → closes own next n first last (suc left) ix ≡ true
      → (ix < n) × (own ix ≡ true) × (cond (eqb ix last) (eqb left 0 && eqb (next ix) first) (closes own next n first last left (next ix)) ≡ true)
  unfolding closes
  taken-apart left ix h =
      let r = and_second (ltb ix n) _ h in
      (ltb-true ix n (and_first _ _ h), and_first (own ix) _ r, and_second (own ix) _ r)

  closes-same : (left ix : ℕ) → closes own next n first last left ix ≡ true → closes own next' n first last left ix ≡ true
  unfolding closes
  closes-same zero ix h = h
  closes-same (suc left) ix h =
      let p = taken-apart left ix h in
      let b = p.0 in
      let o = p.1 in
      ⊎_elim
      (λ (e : ix ≡ last).
      let q = rw (eq-eqb ix last e) at p.2 in
      let z : 0 ≡ left = sym (eqb-true left 0 (and_first _ _ q)) in
      subst (λ (k : ℕ). closes own next' n first last (suc k) ix ≡ true) z
      (closes_at own next' n first last ix b o e (sym (same ix b o) ∙ eqb-true (next ix) first (and_second (eqb left 0) _ q))))
      (λ (e : ix ≡ last → ⊥). closes-on own next' n first last ix left b o e
      (subst (λ (k : ℕ). closes own next' n first last left k ≡ true) (same ix b o) (closes-same left (next ix) (rw (ne_eqb ix last e) at p.2))))
      (same? ix last)

  pub sound-same : n ≤ most_segments → SoundRing own next n first last → SoundRing own next' n first last
  sound-same few s = steps-sound own next' n first last few (closes-same (count own n) first (sound-steps own next n first last s))
