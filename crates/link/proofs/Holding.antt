-- The inner loop of the serif round: what is left of it gives the whole, until the break.
use Rattle.std.specs.Prelude.{None, Some}
use mathlib.Core.Path.{◌≡◌}
use mathlib.Core.Bool.{Bool, true, false}
use Prim.Native.Nat.{ℕ, ◌+◌, ◌-◌, ◌<◌, ◌≤◌}
use Rattle.axis.specs.Link.{Link}
use Rattle.axis.specs.declared.segment.Segment.{Segment}
use Rattle.axis.specs.declared.segment.Segments.{Segments}
use Rattle.axis.specs.Segment.{segment_at, put_segment}
use Rattle.link.specs.Loops.{till}
use Rattle.link.specs.Pairs.{unlinked, encloses, much_longer}
use Rattle.link.specs.Rounds.{rewrite_all, unlink, held_to, given_up_to, hold_turn, given_up, hold}
use Rattle.link.proofs.Kept.{Every}
use Rattle.link.proofs.Loops.{till-on, till-last, till-end, till-start}
use Rattle.link.proofs.Within.{Within, hold-within}

-- ---- a turn by the link of its segment, and whether it is the last
module _ (a b : Segment) (i k : ℕ) where
  -- v is what the turn makes, and the turn is the last or not
  pub record Made (j : ℕ) (l : Link) (t v : Segments) (last : Bool) : Type 0 where
    pub table : v ≡ held_to a b i k j l t
    pub ends : given_up_to a b i k j l t ≡ last

  pub made_none : (j : ℕ) (l : Link) (t : Segments) → l ≡ None → Made j l t t false
  unfolding held_to given_up_to
  made_none j l t e = record { table = rw e; ends = rw e }

  pub made-skip : (j m : ℕ) (l : Link) (t : Segments) → l ≡ Some m → encloses a b (segment_at t j) (segment_at t m) i j ≡ false → Made j l t t false
  unfolding held_to given_up_to
  made-skip j m l t e h = record { table = rw (e, h); ends = rw (e, h) }

  pub made-serifs : (j m : ℕ) (l : Link) (t v : Segments) → l ≡ Some m → encloses a b (segment_at t j) (segment_at t m) i j ≡ true
      → much_longer a (segment_at t j) ≡ true
      → v ≡ rewrite_all j k m i t → Made j l t v false
  unfolding held_to given_up_to
  made-serifs j m l t v e h g p = record { table = rw (e, h, g) p; ends = rw (e, h, g) }

  pub made-last : (j m : ℕ) (l : Link) (t v : Segments) → l ≡ Some m → encloses a b (segment_at t j) (segment_at t m) i j ≡ true
      → much_longer a (segment_at t j) ≡ false
      → v ≡ unlink k (unlink i t) → Made j l t v true
  unfolding held_to given_up_to
  made-last j m l t v e h g p = record { table = rw (e, h, g) p; ends = rw (e, h, g) }

-- before the turn j, u is a table of n segments within the table's limits, from which the rest of the loop makes what the whole makes of t
pub record Held (n : ℕ) (a b : Segment) (i k : ℕ) (t : Segments) (j : ℕ) (u : Segments) : Type 0 where
  pub within : Every n (Within n) u
  pub rest : till (given_up a b i k) (hold_turn a b i k) (n - j) j u ≡ hold a b i k n t

module _ (n : ℕ) (a b : Segment) (i k : ℕ) (x : i < n) (y : k < n) (t : Segments) where
  pub start : Every n (Within n) t → Held n a b i k t 0 t
  unfolding hold
  start h = record { within = h; rest = till-start (given_up a b i k) (hold_turn a b i k) n t }

  step : (j : ℕ) (u v : Segments) → Held n a b i k t j u → j < n → Made a b i k j (segment_at u j).link u v false → Held n a b i k t (j + 1) v
  unfolding hold_turn given_up
  step j u v h p q =
      record {
        within = rw q.table (hold-within n a b i k j u x y h.within);
        rest = till-on (given_up a b i k) (hold_turn a b i k) n j u v (hold a b i k n t) p q.ends q.table h.rest;
      }

  pub step-none : (j : ℕ) (u : Segments) → Held n a b i k t j u → j < n → (segment_at u j).link ≡ None → Held n a b i k t (j + 1) u
  step-none j u h p e = step j u u h p (made_none a b i k j (segment_at u j).link u e)

  module _ (j m : ℕ) (u : Segments) (h : Held n a b i k t j u) (p : j < n) (e : (segment_at u j).link ≡ Some m) where
    pub step_skip : encloses a b (segment_at u j) (segment_at u m) i j ≡ false → Held n a b i k t (j + 1) u
    step_skip c = step j u u h p (made-skip a b i k j m (segment_at u j).link u e c)

    pub step-serifs : (v : Segments) → encloses a b (segment_at u j) (segment_at u m) i j ≡ true → much_longer a (segment_at u j) ≡ true
        → v ≡ rewrite_all j k m i u → Held n a b i k t (j + 1) v
    step-serifs v c w q = step j u v h p (made-serifs a b i k j m (segment_at u j).link u v e c w q)

    pub last_turn : (c d : Segment) → encloses a b (segment_at u j) (segment_at u m) i j ≡ true → much_longer a (segment_at u j) ≡ false
        → c ≡ unlinked (segment_at u i)
        → d ≡ unlinked (segment_at (put_segment u i c) k) → put_segment (put_segment u i c) k d ≡ hold a b i k n t
    unfolding hold_turn given_up unlink
    last_turn c d f w q r =
        let z = made-last a b i k j m (segment_at u j).link u (put_segment (put_segment u i c) k d) e f w (rw (r, q)) in
        till-last (given_up a b i k) (hold_turn a b i k) n j u (put_segment (put_segment u i c) k d) (hold a b i k n t) p z.ends z.table h.rest

  pub held-end : (j : ℕ) (u : Segments) → Held n a b i k t j u → n ≤ j → u ≡ hold a b i k n t
  held-end j u h p = till-end (given_up a b i k) (hold_turn a b i k) n j u (hold a b i k n t) p h.rest
