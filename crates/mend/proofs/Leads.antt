-- Rings made anew from the highest segment down.
use mathlib.Core.Path.{◌≡◌, refl, sym, ap, subst, ◌∙◌}
use mathlib.Core.Bool.{Bool, true, false, cond}
use mathlib.Core.List.{List}
use mathlib.Core.Logic.{⊎_elim}
use Prim.Native.Nat.{ℕ, zero, suc, ◌+◌, ◌-◌, ◌≤◌, ◌<◌}
use native.Mathlib.Nat.{eq-or-lt_of_le}
use native.Mathlib.Numerals.{add-one}
use native.Mathlib.Omega.{arith}
use borrow.Author.Tests.{eq-eqb, ne_eqb}
use lib.ListN.{length, get_or, set, length-set}
use lib.Seq.{get_or-set_same, get_or-set_other}
use Rattle.axis.specs.Limits.{most_edges, most_segments}
use Rattle.mend.specs.Following.{own_in}
use Rattle.mend.specs.Rebuilt.{first_from, Led}
use Rattle.axis.proofs.Walks.{same?}
use Rattle.axis.proofs.Sound.{never}

-- the segments from i on are led
pub record LedFrom (edges : List ℕ) (n : ℕ) (broken : List Bool) (start next : List ℕ) (i : ℕ) (seen next' : List ℕ) : Type 0 where
  pub seen_size : length seen ≡ most_edges
  pub next_size : length next' ≡ most_segments
  pub last_seen : (k : ℕ) → k < most_edges → get_or broken k false ≡ true → get_or seen k 0 ≡ first_from (own_in edges k) (n - i) i (get_or start k 0)
  pub anew : (x k : ℕ) → i ≤ x → x < n → get_or edges x 0 ≡ k → k < most_edges → get_or broken k false ≡ true
      → get_or next' x 0 ≡ first_from (own_in edges k) (n - (x + 1)) (x + 1) (get_or start k 0)
  pub left : (x : ℕ) → x < i → get_or next' x 0 ≡ get_or next x 0
  pub kept : (x k : ℕ) → get_or edges x 0 ≡ k → k < most_edges → get_or broken k false ≡ false → get_or next' x 0 ≡ get_or next x 0

step_down : (p : ℕ → Bool) (n i other : ℕ) → i < n → first_from p (n - i) i other ≡ cond (p i) i (first_from p (n - (i + 1)) (i + 1) other)
unfolding first_from
step_down p n i other h = ap (λ (k : ℕ). first_from p k i other) (let z : n - i ≡ suc (n - (i + 1)) = omega arith in z)

module _ (edges : List ℕ) (n : ℕ) (broken : List Bool) (start next : List ℕ) where
  pub led-start : length start ≡ most_edges → length next ≡ most_segments → LedFrom edges n broken start next n start next
  unfolding first_from
  led-start a b = record {
    seen_size = a;
    next_size = b;
    last_seen = λ k h b. ap (λ (j : ℕ). first_from (own_in edges k) j n (get_or start k 0)) (let z : 0 ≡ n - n = omega arith in z);
    anew = λ x k a b e h g. absurd (omega arith);
    left = λ x h. refl;
    kept = λ x k e h g. refl;
  }

  module _ (i : ℕ) {seen next' : List ℕ} (l : LedFrom edges n broken start next (i + 1) seen next') (inside : i < n) (few : n ≤ most_segments) where
    not_own : (k : ℕ) → (get_or edges i 0 ≡ k → ⊥) → first_from (own_in edges k) (n - i) i (get_or start k 0)
        ≡ first_from (own_in edges k) (n - (i + 1)) (i + 1) (get_or start k 0)
    not_own k h =
        step_down (own_in edges k) n i (get_or start k 0) inside ∙ ap (λ (b : Bool). cond b i (first_from (own_in edges k) (n - (i + 1)) (i + 1) (get_or start k 0)))
        (ne_eqb (get_or edges i 0) k h)

    -- one that stays
    skip : ((k : ℕ) → get_or edges i 0 ≡ k → k < most_edges → get_or broken k false ≡ true → ⊥) → LedFrom edges n broken start next i seen next'
    skip none = record {
      seen_size = l.seen_size;
      next_size = l.next_size;
      last_seen = λ k h b. l.last_seen k h b ∙ sym (not_own k (λ (e : get_or edges i 0 ≡ k). none k e h b));
      anew =
          λ x k a b e h g. ⊎_elim (λ (q : i ≡ x). absurd (none k (ap (λ (j : ℕ). get_or edges j 0) q ∙ e) h g))
          (λ (q : i < x). l.anew x k (omega arith) b e h g) (eq-or-lt_of_le a);
      left = λ x h. l.left x (omega arith);
      kept = l.kept;
    }

    -- one that is led
    more : (k : ℕ) → get_or edges i 0 ≡ k → k < most_edges → get_or broken k false ≡ true → (v w : ℕ) → v ≡ get_or seen k 0 → w ≡ i
        → LedFrom edges n broken start next i (set seen k w) (set next' i v)
    more k e h b v w ev ew =
        let room : i < length next' = omega (arith, l.next_size) in
        let place : k < length seen = omega (arith, l.seen_size) in record {
          seen_size = length-set seen k w ∙ l.seen_size;
          next_size = length-set next' i v ∙ l.next_size;
          last_seen = λ j g c.
              ⊎_elim
              (λ (q : j ≡ k).
              ap (λ (x : ℕ). get_or (set seen k w) x 0) q ∙ get_or-set_same seen k w 0 place ∙ ew
              ∙ sym (step_down (own_in edges j) n i (get_or start j 0) inside ∙ ap
              (λ (t : Bool). cond t i (first_from (own_in edges j) (n - (i + 1)) (i + 1) (get_or start j 0))) (eq-eqb (get_or edges i 0) j (e ∙ sym q))))
              (λ (q : j ≡ k → ⊥). get_or-set_other seen k j w 0 q ∙ l.last_seen j g c ∙ sym (not_own j (λ (r : get_or edges i 0 ≡ j). q (sym r ∙ e))))
              (same? j k);
          anew = λ x j a c r g d.
              ⊎_elim
              (λ (q : i ≡ x).
              let s : j ≡ k = sym r ∙ ap (λ (y : ℕ). get_or edges y 0) (sym q) ∙ e in
              ap (λ (y : ℕ). get_or (set next' i v) y 0) (sym q) ∙ get_or-set_same next' i v 0 room ∙ ev ∙ l.last_seen k h b
              ∙ ap (λ (y : ℕ). first_from (own_in edges k) (n - (y + 1)) (y + 1) (get_or start k 0)) q
              ∙ ap (λ (y : ℕ). first_from (own_in edges y) (n - (x + 1)) (x + 1) (get_or start y 0)) (sym s))
              (λ (q : i < x). get_or-set_other next' i x v 0 (λ (y : x ≡ i). omega arith) ∙ l.anew x j (omega arith) c r g d)
              (eq-or-lt_of_le a);
          left = λ x g. get_or-set_other next' i x v 0 (λ (y : x ≡ i). omega arith) ∙ l.left x (omega arith);
          kept = λ x j r g d.
              get_or-set_other next' i x v 0
              (λ (y : x ≡ i). never (sym d ∙ ap (λ (z : ℕ). get_or broken z false) (sym r ∙ ap (λ (z : ℕ). get_or edges z 0) y ∙ e) ∙ b))
              ∙ l.kept x j r g d;
        }

  -- the same from an index above it
  module _ (j : ℕ) {seen next' : List ℕ} (l : LedFrom edges n broken start next j seen next') (some : 0 < j) (inside : j ≤ n) (few : n ≤ most_segments) where
    above : LedFrom edges n broken start next (j - 1 + 1) seen next'
    above = let z : j ≡ j - 1 + 1 = omega arith in subst (λ (k : ℕ). LedFrom edges n broken start next k seen next') z l

    pub led-beyond : most_edges ≤ get_or edges (j - 1) 0 → LedFrom edges n broken start next (j - 1) seen next'
    led-beyond g = skip (j - 1) above (omega arith) few (λ k e h b. omega arith)

    pub led-sound : (k : ℕ) → k ≡ get_or edges (j - 1) 0 → get_or broken k false ≡ false → LedFrom edges n broken start next (j - 1) seen next'
    led-sound k e b = skip (j - 1) above (omega arith) few (λ i r h g. never (sym b ∙ ap (λ (x : ℕ). get_or broken x false) (e ∙ r) ∙ g))

    pub led-more : (k : ℕ) → k ≡ get_or edges (j - 1) 0 → k < most_edges → get_or broken k false ≡ true
        → LedFrom edges n broken start next (j - 1) (set seen k (j - 1)) (set next' (j - 1) (get_or seen k 0))
    led-more k e h b = more (j - 1) above (omega arith) few k (sym e) h b (get_or seen k 0) (j - 1) refl refl

  pub led-all : {i : ℕ} {seen next' : List ℕ} → i ≤ 0 → LedFrom edges n broken start next i seen next' → Led edges n broken start next seen next'
  led-all {i} {seen} {next'} h l =
      let z : i ≡ 0 = omega arith in
      record {
        anew = λ x k a e g b. l.anew x k (omega arith) a e g b;
        lowest_seen = λ k g b. l.last_seen k g b ∙ ap (λ (j : ℕ). first_from (own_in edges k) (n - j) j (get_or start k 0)) z
            ∙ ap (λ (j : ℕ). first_from (own_in edges k) j 0 (get_or start k 0)) (let y : n - 0 ≡ n = omega arith in y);
        kept = l.kept;
      }
