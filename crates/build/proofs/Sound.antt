-- What the segments of a built axis are: all but edge and next as they were, each edge index below the count, and each edge a ring.
use Rattle.std.specs.Prelude.{None, Some}
use mathlib.Core.Path.{◌≡◌, refl, sym, ap, ◌∙◌}
use mathlib.Core.Bool.{true, ◌&&◌}
use mathlib.Core.List.{List, [], ◌∷◌}
use mathlib.Core.Logic.{⊎_elim}
use Prim.Native.Nat.{ℕ, zero, suc, ◌≤◌, ◌<◌}
use native.Mathlib.Nat.{eq-or-lt_of_le}
use native.Mathlib.Omega.{arith}
use borrow.Author.Tests.{ne_eqb, lt-ltb}
use lib.Dec.{ltb}
use lib.ListN.{length, get_or, set}
use lib.Seq.{get_or-set_other}
use Rattle.axis.specs.Link.{Link}
use Rattle.axis.specs.declared.segment.Segment.{Segment}
use Rattle.axis.specs.declared.segment.Segments.{Segments}
use Rattle.axis.specs.Accepted.{Below}
use Rattle.axis.specs.Link.{index_or}
use Rattle.axis.specs.Ring.{ends, next_of, times}
use Rattle.axis.specs.Segment.{empty_segment, segment_at, put_segment}
use Rattle.axis.proofs.Acceptance.{below_none, below-to}
use Rattle.axis.proofs.Rings.{ends_at}
use Rattle.build_join.specs.Joining.{last_of, State, group}
use Rattle.build_join.proofs.Members.{times-head, times_more, times-last, Once, once-rest, head-last}
use Rattle.build_join.proofs.Rings.{Chain}
use Rattle.build_mark.specs.Marks.{forgotten, clear, cleared, member_of, marks, group_marks}

-- ---- a store
-- what holds of the stored and of what was there holds behind a store
set-two : {A : Type 0} (P : A → Type 0) (d y : A) (xs : List A) (m i : ℕ) → (i ≡ m → P y) → P (get_or xs i d) → P (get_or (set xs m y) i d)
set-two P d y [] m i f p = p
set-two P d y (x ∷ xs) zero zero f p = f refl
set-two P d y (x ∷ xs) zero (suc i) f p = p
set-two P d y (x ∷ xs) (suc m) zero f p = p
set-two P d y (x ∷ xs) (suc m) (suc i) f p = set-two P d y xs m i (λ e. f (ap suc e)) p

-- a change that leaves the empty place as it is takes place everywhere
set_self : {A : Type 0} (f : A → A) (d : A) → f d ≡ d → (xs : List A) (i : ℕ) → get_or (set xs i (f (get_or xs i d))) i d ≡ f (get_or xs i d)
set_self f d h [] i = sym h
set_self f d h (x ∷ xs) zero = refl
set_self f d h (x ∷ xs) (suc i) = set_self f d h xs i

-- ---- what is forgotten
clear_above : (t : Segments) (n i : ℕ) → n ≤ i → segment_at (clear n t) i ≡ segment_at t i
unfolding clear
clear_above t zero i h = refl
clear_above t (suc n) i h =
    get_or-set_other (clear n t).segments n i (forgotten (segment_at (clear n t) n)) empty_segment (λ (e : i ≡ n). omega arith) ∙ clear_above t n i (omega arith)

pub clear_at : (t : Segments) (n i : ℕ) → i < n → segment_at (clear n t) i ≡ forgotten (segment_at t i)
unfolding clear
clear_at t zero i h = absurd (omega arith)
clear_at t (suc n) i h =
    ⊎_elim
    (λ (e : i ≡ n). rw e (set_self forgotten empty_segment refl (clear n t).segments n ∙ ap forgotten (clear_above t n n (omega arith))))
    (λ (l : i < n). get_or-set_other (clear n t).segments n i (forgotten (segment_at (clear n t) n)) empty_segment (λ (e : i ≡ n). omega arith) ∙ clear_at t n i l)
    (eq-or-lt_of_le (omega arith))

clear-len : (t : Segments) (n : ℕ) → (clear n t).len ≡ t.len
unfolding clear
clear-len t zero = refl
clear-len t (suc n) = clear-len t n

-- ---- rows
-- where a segment has a next, it is this one
pub record Behind (next : List ℕ) (i : ℕ) (l : Link) : Type 0 where
  pub at : (k : ℕ) → l ≡ Some k → k ≡ get_or next i 0

-- segment i of a table, with all but edge and next as in t
pub record Row (t : Segments) (next : List ℕ) (n i : ℕ) (s : Segment) : Type 0 where
  pub link : s.link ≡ (segment_at t i).link
  pub serif : s.serif ≡ (segment_at t i).serif
  pub score : s.score ≡ (segment_at t i).score
  pub len : s.len ≡ (segment_at t i).len
  pub edge : Below n s.edge
  pub next_is : Behind next i s.next

-- a table of such rows
pub record Rows (t : Segments) (next : List ℕ) (n : ℕ) (u : Segments) : Type 0 where
  pub size : u.len ≡ t.len
  pub row : (i : ℕ) → i < t.len → Row t next n i (segment_at u i)

module _ (t : Segments) (next : List ℕ) (n : ℕ) where
  rows-cleared : Rows t next n (cleared t)
  unfolding cleared
  rows-cleared = record {
    size = clear-len t t.len;
    row = λ i h.
        let none : Behind next i None = record { at = λ k e. absurd (let z : ◌≡◌ {A = ℕ} 0 1 = cc in omega arith) } in
        rw (clear_at t t.len i h) (record { link = refl; serif = refl; score = refl; len = refl; edge = below_none n; next_is = none });
  }

  row-member : (m k : ℕ) (s : Segment) → k < n → Row t next n m s → Row t next n m (member_of s k (get_or next m 0))
  row-member m k s h r =
      record {
        link = r.link;
        serif = r.serif;
        score = r.score;
        len = r.len;
        edge = below-to n k h;
        next_is =
            record { at = λ j e. let q : get_or next m 0 ≡ j = cc in sym q };
      }

  rows-put : (m k : ℕ) (u : Segments) → k < n → m < t.len → Rows t next n u → Rows t next n (put_segment u m (member_of (segment_at u m) k (get_or next m 0)))
  rows-put m k u h hm R = record {
    size = R.size;
    row =
        λ i hi. set-two (λ (s : Segment). Row t next n i s) empty_segment _ u.segments m i
        (λ (e : i ≡ m). rw e (row-member m k (segment_at u m) h (R.row m hm))) (R.row i hi);
  }

  rows-marks : (k : ℕ) (ms : List ℕ) (u : Segments) → k < n → ((x : ℕ) → 0 < times x ms → x < t.len) → Rows t next n u → Rows t next n (marks next k ms u)
  unfolding marks
  rows-marks k [] u h b R = R
  rows-marks k (m ∷ ms) u h b R =
      rows-marks k ms _ h (λ x p. b x (omega (arith, times_more x m ms))) (rows-put m k u h (b m (omega (arith, times-head m ms))) R)

rows-groups : (t : Segments) (s : State) → ((k x : ℕ) → k < s.count → 0 < times x (group s k) → x < t.len) → (n : ℕ) → n ≤ s.count
    → Rows t s.next s.count (group_marks s n (cleared t))
unfolding group_marks
rows-groups t s b zero h = rows-cleared t s.next s.count
rows-groups t s b (suc n) h = rows-marks t s.next s.count n (group s n) _ (omega arith) (λ x p. b n x (omega arith) p) (rows-groups t s b n (omega arith))

-- all of them
pub rows : (t : Segments) (s : State) → ((k x : ℕ) → k < s.count → 0 < times x (group s k) → x < t.len)
    → Rows t s.next s.count (group_marks s s.count (cleared t))
rows t s b = rows-groups t s b s.count (omega arith)

-- ---- rings
module _ (u : Segments) (next : List ℕ) (N : (i : ℕ) → i < u.len → Behind next i (segment_at u i).next) where
  -- the walk along a chain comes to its last
  pub ends-chain : (f m : ℕ) (ms : List ℕ) (n : ℕ) → Once (m ∷ ms) → ((x : ℕ) → 0 < times x (m ∷ ms) → x < u.len) → length ms ≤ n → Chain next f (m ∷ ms)
      → ends (next_of u (last_of m ms)) u.len (last_of m ms) n m ≡ true
  unfolding Chain ends
  ends-chain f m [] n o b h r = ends_at (next_of u m) u.len m n m refl
  ends-chain f m (x ∷ ms) zero o b h r = absurd (omega arith)
  ends-chain f m (x ∷ ms) (suc n) o b h r =
      rw (ne_eqb m (last_of x ms) (head-last m x ms o))
      (by (ends-chain f x ms n (once-rest m (x ∷ ms) o) (λ y p. b y (omega (arith, times_more y m (x ∷ ms)))) (omega arith) r.1)
      (segment_at u m).next (N m (b m (omega (arith, times-head m (x ∷ ms))))))
    where
      last-below : last_of x ms < u.len
      last-below = b (last_of x ms) (omega (arith, times-last x ms, times_more (last_of x ms) m (x ∷ ms)))

      by : ends (next_of u (last_of x ms)) u.len (last_of x ms) n x ≡ true → (l : Link) → Behind next m l
          → (ltb (index_or (last_of x ms) l) u.len && ends (next_of u (last_of x ms)) u.len (last_of x ms) n (index_or (last_of x ms) l)) ≡ true
      by rest None B = rw (lt-ltb (last_of x ms) u.len last-below) (ends_at (next_of u (last_of x ms)) u.len (last_of x ms) n (last_of x ms) refl)
      by rest (Some j) B =
          let e : j ≡ x = B.at j refl ∙ r.0 in rw (e, lt-ltb x u.len (b x (omega (arith, times-head x ms, times_more x m (x ∷ ms))))) rest
