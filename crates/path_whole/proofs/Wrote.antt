-- The refusals and the outcome, as the code comes to them.
use mathlib.Core.Path.{◌≡◌, refl, sym, ap, ◌∙◌}
use mathlib.Core.Bool.{Bool, true, false, ◌&&◌}
use mathlib.Core.List.{List}
use Prim.Native.Nat.{ℕ, ◌-◌, ◌*◌, ◌/◌, ◌≤◌, ◌<◌}
use native.Mathlib.Omega.{arith}
use borrow.Author.Tests.{leb-true, leb-false, le-leb, lt-leb}
use lib.Dec.{leb}
use lib.Ieee.{Float}
use lib.IntN.{ℤ}
use lib.ListN.{length}
use Rattle.signed.proofs.Choices.{cond-true, cond-false}
use Rattle.refusals.specs.Refusal.{refusal, too_long}
use Rattle.refusals.proofs.Tests.{and_first, and_second, all_hold, no-refusal, answered-no, answered-yes}
use Rattle.weak.specs.Weak.{ends_hold}
use Rattle.path_trip.specs.Path.{points, path}
use Rattle.path_trip.specs.Trips.{Admitted}
use Rattle.path_walk.proofs.Lengths.{at_most, whole-short}
use Rattle.path.specs.Handing.{path_tests}
use Rattle.path.proofs.Named.{accepted}
use Rattle.path_lay.specs.Laying.{Lists, lent, lay, Room}
use Rattle.path_whole.specs.Writing.{most_steps, has_room, whole_tests, written, WritesPath}
use Rattle.path_whole.proofs.Over.{lay-over}

-- ---- the room
pub no_room : (points contours steps : ℕ) → steps < points → leb (most_steps points contours) steps ≡ false
no_room points contours steps h = lt-leb (most_steps points contours) steps (omega arith)

-- by halves of what is left, and by quarters of the numbers
pub by-halves : (points contours steps : ℕ) → points ≤ steps → leb contours ((steps - points) / 2) ≡ leb (most_steps points contours) steps
by-halves points contours steps h = by (leb contours ((steps - points) / 2)) refl
  where
    by : (b : Bool) → leb contours ((steps - points) / 2) ≡ b → b ≡ leb (most_steps points contours) steps
    by true e = sym (le-leb (most_steps points contours) steps (omega (arith, leb-true contours ((steps - points) / 2) e)))
    by false e = sym (lt-leb (most_steps points contours) steps (omega (arith, leb-false contours ((steps - points) / 2) e)))

pub by-quarters : (most places : ℕ) → leb most (places / 4) ≡ leb (4 * most) places
by-quarters most places = by (leb most (places / 4)) refl
  where
    by : (b : Bool) → leb most (places / 4) ≡ b → b ≡ leb (4 * most) places
    by true e = sym (le-leb (4 * most) places (omega (arith, leb-true most (places / 4) e)))
    by false e = sym (lt-leb (4 * most) places (omega (arith, leb-false most (places / 4) e)))

-- both tests, one after the other
pub not_first : (a b : Bool) → a ≡ false → false ≡ (a && b)
not_first a b e = rw e

pub by-second : (a b c : Bool) → a ≡ true → c ≡ b → c ≡ (a && b)
by-second a b c e q = rw e q

-- ---- the refusals
module _ (xs ys : List ℤ) (marks es : List ℕ) (kinds places : ℕ) where
  pub refused-room : has_room (length xs) (length es) kinds places ≡ false → refusal (whole_tests xs ys marks es kinds places) ≡ too_long
  unfolding refusal
  refused-room e = cond-false (has_room (length xs) (length es) kinds places) (refusal (path_tests xs ys marks es)) too_long e

  pub refused-else : has_room (length xs) (length es) kinds places ≡ true → refusal (whole_tests xs ys marks es kinds places) ≡ refusal (path_tests xs ys marks es)
  unfolding refusal
  refused-else e = cond-true (has_room (length xs) (length es) kinds places) (refusal (path_tests xs ys marks es)) too_long e

-- ---- the outcome
module _ (xs ys : List ℤ) (marks es : List ℕ) (ks : List ℕ) (ps : List Float) (n k : ℕ)
    (e : k ≡ refusal (whole_tests xs ys marks es (length ks) (length ps))) where
  pub wrote_nothing : 0 < k → WritesPath xs ys marks es (lent ks ps n) k (lent ks ps n)
  wrote_nothing h = record { answer = e; lists = answered-no k _ (λ _. lent ks ps n) (written (path (points xs ys marks) es) (lent ks ps n)) e h }

  module _ (h : k ≤ 0) where
    none : refusal (whole_tests xs ys marks es (length ks) (length ps)) ≡ 0
    none = omega arith

    -- what is not refused is accepted
    pub sound : Admitted (points xs ys marks) × (ends_hold 0 (length xs) es ≡ true)
    sound = accepted xs ys marks es (no-refusal (path_tests xs ys marks es) (all_hold (whole_tests xs ys marks es (length ks) (length ps)) refl none).1)

    -- and has room
    pub room : Room (lent ks ps 0) (length (path (points xs ys marks) es))
    room =
        let r = (all_hold (whole_tests xs ys marks es (length ks) (length ps)) refl none).0 in
        let a = leb-true (most_steps (length xs) (length es)) (length ks) (and_first _ (leb (4 * most_steps (length xs) (length es)) (length ps)) r) in
        let b = leb-true (4 * most_steps (length xs) (length es)) (length ps) (and_second (leb (most_steps (length xs) (length es)) (length ks)) _ r) in
        let m = at_most (points xs ys marks) es sound.1 in
        record { kinds_room = omega (arith, a, m); places_room = omega (arith, b, m) }

    module _ (ks' : List ℕ) (ps' : List Float) (m : ℕ) (q : lent ks' ps' m ≡ lay (lent ks ps 0) (path (points xs ys marks) es)) where
      written_is : lent ks' ps' m ≡ written (path (points xs ys marks) es) (lent ks ps n)
      written_is = q ∙ lay-over (path (points xs ys marks) es) ks ps n room

      -- the count is small
      pub few : m ≤ 65535
      few = omega (arith, ap (λ (l : Lists). l.count) written_is, whole-short (points xs ys marks) es sound.0 sound.1)

      -- the path is written
      pub wrote : (j : ℕ) → j ≡ m → WritesPath xs ys marks es (lent ks ps n) 0 (lent ks' ps' j)
      wrote j w =
          record {
            answer = sym none;
            lists =
                answered-yes k _ (λ _. lent ks ps n) (written (path (points xs ys marks) es) (lent ks ps n)) (lent ks' ps' j) e h
                (ap (lent ks' ps') w ∙ written_is);
          }
