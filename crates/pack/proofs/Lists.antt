-- A set of numbers and the list of those that are in it.
use mathlib.Core.Path.{◌≡◌, refl, sym, ap, ◌∙◌}
use mathlib.Core.Bool.{Bool, true, false, cond, false≢true}
use mathlib.Core.List.{List, [], ◌∷◌}
use mathlib.Core.Logic.{◌⊎◌, inl, inr, ⊎_elim}
use Prim.Native.Nat.{ℕ, zero, suc, ◌+◌, ◌≤◌, ◌<◌}
use native.Mathlib.Nat.{eq-or-lt_of_le}
use native.Mathlib.Omega.{arith}
use lib.ListN.{length, set, replicate, length-set, length-replicate}
use lib.Seq.{get_or-set_same, get_or-set_other}
use Rattle.axis.specs.Limits.{most_segments}
use Rattle.axis.proofs.Walks.{same?}
use Rattle.mend.proofs.Sums.{count-few}
use Rattle.mend.specs.Following.{count}
use Rattle.pack.specs.Sets.{is_in, number_at}
use Rattle.pack.specs.Listing.{Found, Listed, Added, Numbered}
use Rattle.pack.proofs.Counts.{count_none, count-more, count_in, count-out, count-added, count_room}

-- a number of a set has a place
pub in-places : (s : List Bool) (k : ℕ) → is_in s k ≡ true → k < length s
in-places [] k e = absurd (false≢true e)
in-places (b ∷ s) zero e = omega arith
in-places (b ∷ s) (suc k) e = omega (arith, in-places s k e)

-- ---- a number is added
pub already : (kept : List Bool) (order : List ℕ) (len k : ℕ) → Listed kept order len → is_in kept k ≡ true → Added kept order len k kept order len
already kept order len k l h = record { listed = l; here = h; held = λ i e. e; only = λ i e. inl e; same = λ j q. refl; more = omega arith }

module _ (kept : List Bool) (order : List ℕ) (len k : ℕ) (l : Listed kept order len) (out : is_in kept k ≡ false) (inside : k < most_segments) where
  -- there is room for it
  pub room : len < most_segments
  room = omega (arith, l.counted, count_room (is_in kept) k most_segments out inside)

  abbrev kept' : List Bool
  kept' = set kept k true

  abbrev order' : List ℕ
  order' = set order len k

  here : is_in kept' k ≡ true
  here = get_or-set_same kept k true false (omega (arith, l.places, inside))

  other : (i : ℕ) → (i ≡ k → ⊥) → is_in kept' i ≡ is_in kept i
  other i n = get_or-set_other kept k i true false n

  held : (i : ℕ) → is_in kept i ≡ true → is_in kept' i ≡ true
  held i e = ⊎_elim (λ (q : i ≡ k). ap (is_in kept') q ∙ here) (λ (n : i ≡ k → ⊥). other i n ∙ e) (same? i k)

  only : (i : ℕ) → is_in kept' i ≡ true → (is_in kept i ≡ true) ⊎ (i ≡ k)
  only i e = ⊎_elim (λ (q : i ≡ k). inr q) (λ (n : i ≡ k → ⊥). inl (sym (other i n) ∙ e)) (same? i k)

  last-place : number_at order' len ≡ k
  last-place = get_or-set_same order len k 0 (omega (arith, l.slots, room))

  same : (j : ℕ) → j < len → number_at order' j ≡ number_at order j
  same j h = get_or-set_other order len j k 0 (λ e. omega arith)

  member : (j : ℕ) → j < len + 1 → is_in kept' (number_at order' j) ≡ true
  member j h =
      ⊎_elim
      (λ (e : j ≡ len). ap (λ (i : ℕ). is_in kept' (number_at order' i)) e ∙ ap (is_in kept') last-place ∙ here)
      (λ (g : j < len). ap (is_in kept') (same j g) ∙ held _ (l.member j g))
      (eq-or-lt_of_le (omega arith))

  found : (i : ℕ) → is_in kept' i ≡ true → Found order' (len + 1) i
  found i e =
      ⊎_elim
      (λ (o : is_in kept i ≡ true).
      let f = l.found i o in
      record { place = f.place; below = omega (arith, f.below); is = same f.place f.below ∙ f.is })
      (λ (q : i ≡ k). record { place = len; below = omega arith; is = last-place ∙ sym q })
      (only i e)

  pub added : Added kept order len k kept' order' (len + 1)
  added = record {
    listed = record {
      places = length-set kept k true ∙ l.places;
      slots = length-set order len k ∙ l.slots;
      counted = omega (arith, l.counted, count-added (is_in kept) (is_in kept') k most_segments out here other inside);
      member = member;
      found = found;
    };
    here = here;
    held = held;
    only = only;
    same = same;
    more = omega arith;
  }

-- ---- a set is listed, number by number
pub record Listing (kept : List Bool) (order : List ℕ) (len i : ℕ) : Type 0 where
  pub slots : length order ≡ most_segments
  pub counted : len ≡ count (is_in kept) i
  pub member : (j : ℕ) → j < len → is_in kept (number_at order j) ≡ true
  pub found : (k : ℕ) → k < i → is_in kept k ≡ true → Found order len k

pub listing-few : {kept : List Bool} {order : List ℕ} {len i : ℕ} → Listing kept order len i → len ≤ i
listing-few {kept} {i = i} l = omega (arith, l.counted, count-few (is_in kept) i)

pub listing-starts : (kept : List Bool) (order : List ℕ) → length order ≡ most_segments → Listing kept order 0 0
listing-starts kept order e =
    record { slots = e; counted = sym (count_none (is_in kept)); member = λ j h. absurd (omega arith); found = λ k h. absurd (omega arith) }

pub listing-passes : (kept : List Bool) (order : List ℕ) (len i : ℕ) → Listing kept order len i → is_in kept i ≡ false → Listing kept order len (i + 1)
listing-passes kept order len i l out = record {
  slots = l.slots;
  counted = l.counted ∙ sym (count-out (is_in kept) i out);
  member = l.member;
  found = λ k h e.
      ⊎_elim
      (λ (q : k ≡ i). absurd (false≢true (sym out ∙ sym (ap (is_in kept) q) ∙ e)))
      (λ (g : k < i). l.found k g e)
      (eq-or-lt_of_le (omega arith));
}

pub listing-takes : (kept : List Bool) (order : List ℕ) (len i : ℕ) → Listing kept order len i → i < most_segments → is_in kept i ≡ true
    → Listing kept (set order len i) (len + 1) (i + 1)
listing-takes kept order len i l h e =
    let few = listing-few l in
    let last : number_at (set order len i) len ≡ i = get_or-set_same order len i 0 (omega (arith, l.slots)) in
    let same : (j : ℕ) → j < len → number_at (set order len i) j ≡ number_at order j = λ j g. get_or-set_other order len j i 0 (λ q. omega arith) in
    record {
      slots = length-set order len i ∙ l.slots;
      counted = omega (arith, l.counted, count_in (is_in kept) i e);
      member = λ j g.
          ⊎_elim
          (λ (q : j ≡ len). ap (λ (p : ℕ). is_in kept (number_at (set order len i) p)) q ∙ ap (is_in kept) last ∙ e)
          (λ (b : j < len). ap (is_in kept) (same j b) ∙ l.member j b)
          (eq-or-lt_of_le (omega arith));
      found = λ k g q.
          ⊎_elim
          (λ (p : k ≡ i). record { place = len; below = omega arith; is = last ∙ sym p })
          (λ (b : k < i).
          let f = l.found k b q in
          record { place = f.place; below = omega (arith, f.below); is = same f.place f.below ∙ f.is })
          (eq-or-lt_of_le (omega arith));
    }

pub listing-ends : (kept : List Bool) (order : List ℕ) (len i : ℕ) → length kept ≡ most_segments → i ≡ most_segments → Listing kept order len i
    → Listed kept order len
listing-ends kept order len i p e l = record {
  places = p;
  slots = l.slots;
  counted = l.counted ∙ ap (count (is_in kept)) e;
  member = l.member;
  found = λ k q. l.found k (omega (arith, in-places kept k q)) q;
}

-- ---- a set is numbered, number by number
pub record Numbering (kept : List Bool) (new : List ℕ) (c i : ℕ) : Type 0 where
  pub slots : length new ≡ most_segments
  pub at : (k : ℕ) → k < i → number_at new k ≡ count (is_in kept) k
  pub all : c ≡ count (is_in kept) i

pub numbering-few : {kept : List Bool} {new : List ℕ} {c i : ℕ} → Numbering kept new c i → c ≤ i
numbering-few {kept} {i = i} w = omega (arith, w.all, count-few (is_in kept) i)

pub numbering-starts : (kept : List Bool) → Numbering kept (replicate most_segments 0) 0 0
numbering-starts kept = record { slots = length-replicate {A = ℕ} most_segments 0; at = λ k h. absurd (omega arith); all = sym (count_none (is_in kept)) }

pub numbering-next : (kept : List Bool) (new : List ℕ) (c i d : ℕ) → Numbering kept new c i → i < most_segments → d ≡ cond (is_in kept i) 1 0
    → Numbering kept (set new i c) (c + d) (i + 1)
numbering-next kept new c i d w h e = record {
  slots = length-set new i c ∙ w.slots;
  at = λ k g.
      ⊎_elim
      (λ (q : k ≡ i). ap (number_at (set new i c)) q ∙ get_or-set_same new i c 0 (omega (arith, w.slots)) ∙ w.all ∙ sym (ap (count (is_in kept)) q))
      (λ (b : k < i). get_or-set_other new i k c 0 (λ q. omega arith) ∙ w.at k b)
      (eq-or-lt_of_le (omega arith));
  all = omega (arith, w.all, e, count-more (is_in kept) i);
}

pub numbering-ends : (kept : List Bool) (new : List ℕ) (c i : ℕ) → i ≡ most_segments → Numbering kept new c i → Numbered kept new c
numbering-ends kept new c i e w = record { at = λ k h. w.at k (omega arith); all = w.all ∙ ap (count (is_in kept)) e }

pub one_at_most : (b : Bool) → cond b 1 0 ≤ 1
one_at_most true = omega arith
one_at_most false = omega arith
