-- Edges stand by rising font position: adding one keeps the order, and joining one moves nothing.
use mathlib.Core.Path.{◌≡◌, refl, sym}
use mathlib.Core.Bool.{Bool, true, false, cond}
use mathlib.Core.Logic.{◌⊎◌, inl, inr, ⊎_elim}
use mathlib.Core.List.{List, [], ◌∷◌, ◌++◌}
use Prim.Native.Nat.{ℕ, zero, suc, ◌+◌, ◌≤◌, ◌<◌}
use native.Mathlib.Nat.{eq-or-lt_of_le}
use native.Mathlib.Omega.{arith}
use borrow.Author.Tests.{ltb-true}
use lib.Dec.{ltb}
use lib.IntN.{ℤ}
use lib.ListN.{length, get_or, set, length-set}
use lib.Seq.{get_or-set_same, get_or-set_other}
use lib.Signed.{lt_z, ◌≤ℤ◌}
use Rattle.signed.proofs.Choices.{cond_cases, either_way, clash}
use Rattle.signed.proofs.Signed.{signed}
use Rattle.axis.specs.declared.edge.Edge.{Edge}
use Rattle.axis.specs.declared.segment.Segments.{Segments}
use Rattle.axis.specs.Direction.{same}
use Rattle.axis.specs.Limits.{most_edges, most_segments}
use Rattle.axis.specs.Segment.{segment_at}
use Rattle.axis.proofs.Walks.{same?}
use Rattle.build_join.specs.declared.rules.Rules.{Rules}
use Rattle.build_join.specs.Joining.{
  stops_behind,
  settle,
  edge_of,
  State,
  group,
  start,
  join,
  skips,
  create,
  place_of,
  join_or_create,
  visit,
  after,
  begun,
  state_at,
}
use Rattle.build_join.specs.Walks.{Latin}
use Rattle.build_join.proofs.Good.{Good, good}

-- ---- adding to a table
module _ {A : Type 0} (f : A → ℤ) (d : A) where
  -- the first n places of a list rise
  pub record Rise (xs : List A) (n : ℕ) : Type 0 where
    pub at : (a b : ℕ) → a < b → b < n → f (get_or xs a d) ≤ℤ f (get_or xs b d)

  -- another list with the same numbers in its places does so too
  rise-same : (xs ys : List A) (n : ℕ) → ((a : ℕ) → f (get_or ys a d) ≡ f (get_or xs a d)) → Rise xs n → Rise ys n
  rise-same xs ys n e r = record { at = λ a b o u. rw (e a, e b) (r.at a b o u) }

  module _ (x : A) where
    -- they do but for a free place, and behind that nothing is below x
    record Apart (xs : List A) (n free : ℕ) : Type 0 where
      rise : (a b : ℕ) → a < b → b < n → (a ≡ free → ⊥) → (b ≡ free → ⊥) → f (get_or xs a d) ≤ℤ f (get_or xs b d)
      above : (b : ℕ) → free < b → b < n → f x ≤ℤ f (get_or xs b d)

    -- one place more is free
    apart_next : (xs : List A) (n : ℕ) → Rise xs n → Apart xs (n + 1) n
    apart_next xs n r = record {
      rise = λ a b o u p q. ⊎_elim (λ (e : b ≡ n). absurd (q e)) (λ (l : b < n). r.at a b o l) (eq-or-lt_of_le (omega arith));
      above = λ b o u. absurd (omega arith);
    }

    -- what is in front of the free place moves there
    apart-back : (xs : List A) (n i : ℕ) → suc i < length xs → suc i < n → f x ≤ℤ f (get_or xs i d) → Apart xs n (suc i)
        → Apart (set xs (suc i) (get_or xs i d)) n i
    apart-back xs n i h m l p = record {
      rise = λ a b o u q w. by a b o u q w (same? a (suc i)) (same? b (suc i));
      above =
          λ b o u. ⊎_elim (λ (e : b ≡ suc i). rw e (rw moved l)) (λ (e : b ≡ suc i → ⊥). rw (stays b e) (p.above b (apart_from b o e) u)) (same? b (suc i));
    }
      where
        moved : get_or (set xs (suc i) (get_or xs i d)) (suc i) d ≡ get_or xs i d
        moved = get_or-set_same xs (suc i) (get_or xs i d) d h

        stays : (b : ℕ) → (b ≡ suc i → ⊥) → get_or (set xs (suc i) (get_or xs i d)) b d ≡ get_or xs b d
        stays b e = get_or-set_other xs (suc i) b (get_or xs i d) d e

        apart_from : (b : ℕ) → i < b → (b ≡ suc i → ⊥) → suc i < b
        apart_from b o e = ⊎_elim (λ (w : suc i ≡ b). absurd (e (sym w))) (λ (w : suc i < b). w) (eq-or-lt_of_le (omega arith))

        by : (a b : ℕ) → a < b → b < n → (a ≡ i → ⊥) → (b ≡ i → ⊥) → (a ≡ suc i) ⊎ (a ≡ suc i → ⊥) → (b ≡ suc i) ⊎ (b ≡ suc i → ⊥)
            → f (get_or (set xs (suc i) (get_or xs i d)) a d) ≤ℤ f (get_or (set xs (suc i) (get_or xs i d)) b d)
        by a b o u q w (inl e) (inl g) = absurd (omega arith)
        by a b o u q w (inl e) (inr g) = rw e (rw (moved, stays b g) (p.rise i b (omega arith) u (λ (z : i ≡ suc i). omega arith) g))
        by a b o u q w (inr e) (inl g) = rw g (rw (moved, stays a e) (p.rise a i (below a (omega arith) q) (omega arith) e (λ (z : i ≡ suc i). omega arith)))
          where
            below : (a : ℕ) → a ≤ i → (a ≡ i → ⊥) → a < i
            below a m q = ⊎_elim (λ (z : a ≡ i). absurd (q z)) (λ (z : a < i). z) (eq-or-lt_of_le m)
        by a b o u q w (inr e) (inr g) = rw (stays a e, stays b g) (p.rise a b o u e g)

    -- x takes the free place, where nothing in front of it is above x
    filled : (xs : List A) (n i : ℕ) → i < length xs → Apart xs n i → ((a : ℕ) → a < i → f (get_or xs a d) ≤ℤ f x) → Rise (set xs i x) n
    filled xs n i h p l = record { at = λ a b o u. by a b o u (same? a i) (same? b i) }
      where
        stays : (b : ℕ) → (b ≡ i → ⊥) → get_or (set xs i x) b d ≡ get_or xs b d
        stays b e = get_or-set_other xs i b x d e

        by : (a b : ℕ) → a < b → b < n → (a ≡ i) ⊎ (a ≡ i → ⊥) → (b ≡ i) ⊎ (b ≡ i → ⊥) → f (get_or (set xs i x) a d) ≤ℤ f (get_or (set xs i x) b d)
        by a b o u (inl e) (inl g) = absurd (omega arith)
        by a b o u (inl e) (inr g) = rw e (rw (get_or-set_same xs i x d h, stays b g) (p.above b (omega arith) u))
        by a b o u (inr e) (inl g) = rw g (rw (get_or-set_same xs i x d h, stays a e) (l a (omega arith)))
        by a b o u (inr e) (inr g) = rw (stays a e, stays b g) (p.rise a b o u e g)

    -- a walk back that stops behind what is not above x, and goes on where it is not below
    module _ (st : A → Bool) (yes : (y : A) → st y ≡ true → f y ≤ℤ f x) (no : (y : A) → st y ≡ false → f x ≤ℤ f y) where
      settles : (xs : List A) (n i : ℕ) → i < length xs → i < n → Apart xs n i → Rise (settle st d x xs i) n
      unfolding settle
      settles xs n zero h m p = filled xs n 0 h p (λ a l. absurd (omega arith))
      settles xs n (suc i) h m p =
          cond_cases (λ (l : List A). Rise l n) (st (get_or xs i d)) _ _
          (λ (e : st (get_or xs i d) ≡ true). filled xs n (suc i) h p (in_front (yes (get_or xs i d) e)))
          (λ (e : st (get_or xs i d) ≡ false).
          settles (set xs (suc i) (get_or xs i d)) n i (rw length-set (omega arith)) (omega arith) (apart-back xs n i h m (no (get_or xs i d) e) p))
        where
          in_front : f (get_or xs i d) ≤ℤ f x → (a : ℕ) → a < suc i → f (get_or xs a d) ≤ℤ f x
          in_front y a l =
              ⊎_elim
              (λ (z : a ≡ i). rw z y)
              (λ (z : a < i). let w = p.rise a i z (omega arith) (λ (q : a ≡ suc i). omega arith) (λ (q : i ≡ suc i). omega arith) in omega (arith, signed))
              (eq-or-lt_of_le (omega arith))

      -- what is added to n places that rise leaves n + 1 that do
      settle-rises : (xs : List A) (n : ℕ) → n < length xs → Rise xs n → Rise (settle st d x xs n) (n + 1)
      settle-rises xs n h r = settles xs (n + 1) n h (omega arith) (apart_next xs n r)

-- ---- edges
-- an edge that stops behind another is not in front of it, and one that does not is not behind it
module _ (r : Rules) (e prev : Edge) where
  stops-yes : stops_behind r e prev ≡ true → prev.fpos ≤ℤ e.fpos
  unfolding stops_behind
  stops-yes h = by (lt_z prev.fpos e.fpos) refl (lt_z e.fpos prev.fpos) refl h
    where
      by : (x : Bool) → lt_z prev.fpos e.fpos ≡ x → (y : Bool) → lt_z e.fpos prev.fpos ≡ y
          → cond x true (cond y false (same e.dir r.major_dir)) ≡ true → prev.fpos ≤ℤ e.fpos
      by true p y q h = omega (arith, signed)
      by false p true q h = absurd (clash false refl h)
      by false p false q h = omega (arith, signed)

  stops-no : stops_behind r e prev ≡ false → e.fpos ≤ℤ prev.fpos
  unfolding stops_behind
  stops-no h = by (lt_z prev.fpos e.fpos) refl h
    where
      by : (x : Bool) → lt_z prev.fpos e.fpos ≡ x → cond x true (cond (lt_z e.fpos prev.fpos) false (same e.dir r.major_dir)) ≡ false
          → e.fpos ≤ℤ prev.fpos
      by true p h = absurd (clash true h refl)
      by false p h = omega (arith, signed)

module _ (t : Segments) (r : Rules) where
  -- the font position of a group's edge
  abbrev pub fpos_of : List ℕ → ℤ
  fpos_of g = (edge_of t r.scale g).fpos

  -- the edges of a state rise
  abbrev pub Rises : State → Type 0
  Rises s = Rise fpos_of [] s.groups s.count

  -- the one that joins a group is not its first
  joined_same : (g : List ℕ) (i : ℕ) → 0 < length g → fpos_of (g ++ i ∷ []) ≡ fpos_of g
  joined_same [] i h = absurd (omega arith)
  joined_same (m ∷ ms) i h = refl

  rises-join : (s : State) (k i : ℕ) → 0 < length (group s k) → Rises s → Rises (join s k i)
  rises-join s k i h = rise-same fpos_of [] s.groups (join s k i).groups s.count at
    where
      put : (xs : List (List ℕ)) (y : List ℕ) (k a : ℕ) → fpos_of y ≡ fpos_of (get_or xs k []) → fpos_of (get_or (set xs k y) a []) ≡ fpos_of (get_or xs a [])
      put [] y k a e = refl
      put (x ∷ xs) y zero zero e = e
      put (x ∷ xs) y zero (suc a) e = refl
      put (x ∷ xs) y (suc k) zero e = refl
      put (x ∷ xs) y (suc k) (suc a) e = put xs y k a e

      at : (a : ℕ) → fpos_of (get_or (join s k i).groups a []) ≡ fpos_of (get_or s.groups a [])
      at a = put s.groups (group s k ++ i ∷ []) k a (joined_same (group s k) i h)

  rises-made : (s : State) (i : ℕ) → s.count < length s.groups → Rises s
      → Rise fpos_of [] (settle (λ (g : List ℕ). stops_behind r (edge_of t r.scale (i ∷ [])) (edge_of t r.scale g)) [] (i ∷ []) s.groups s.count)
      (s.count + 1)
  rises-made s i h =
      settle-rises fpos_of [] (i ∷ []) _ (λ (g : List ℕ). stops-yes r (edge_of t r.scale (i ∷ [])) (edge_of t r.scale g))
      (λ (g : List ℕ). stops-no r (edge_of t r.scale (i ∷ [])) (edge_of t r.scale g)) s.groups s.count h

  module _ (second : Bool) where
    rises-visit : (s : State) (i : ℕ) → Good t r second s i → Rises s → Rises (visit t r second s i)
    unfolding visit join_or_create create
    rises-visit s i G p =
        either_way Rises s.full _ _ p
        (either_way Rises (skips r second (segment_at t i)) _ _ p
        (cond_cases Rises (ltb (place_of t r second s i) s.count) _ _
        (λ e. rises-join s (place_of t r second s i) i (G.used _ (ltb-true _ _ e)) p)
        (λ e. either_way Rises second _ _ p (cond_cases Rises (ltb s.count most_edges) _ _ (λ h. rises-made s i (rw G.places (ltb-true _ _ h)) p)
        (λ h. p)))))

    rises-after : Latin r second → t.len ≤ most_segments → Rises (begun t r second) → (i : ℕ) → i ≤ t.len → Rises (state_at t r second i)
    unfolding after
    rises-after l long b zero h = b
    rises-after l long b (suc i) h = rises-visit (state_at t r second i) i (good t r second l long i (omega arith)) (rises-after l long b i (omega arith))

  rises-begun : (second : Bool) → Latin r second → t.len ≤ most_segments → Rises (begun t r second)
  unfolding begun start
  rises-begun false l long = record { at = λ a b o u. absurd (omega arith) }
  rises-begun true l long =
      rises-after false (λ (e : false ≡ true). absurd (clash false refl e)) long (record { at = λ a b o u. absurd (omega arith) }) t.len (omega arith)

  -- the edges of every state of both loops rise
  pub rises : (second : Bool) → Latin r second → t.len ≤ most_segments → (i : ℕ) → i ≤ t.len → Rises (state_at t r second i)
  rises second l long = rises-after second l long (rises-begun second l long)
