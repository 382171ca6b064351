-- What a call hands out, as the code comes to it.
use Rattle.std.specs.Prelude.{Ok, Err}
use mathlib.Core.Path.{◌≡◌, sym}
use mathlib.Core.Bool.{true}
use mathlib.Core.List.{List}
use Prim.Native.Nat.{ℕ, ◌+◌, ◌≤◌, ◌<◌}
use borrow.Author.Tests.{lt-ltb, le-ltb}
use lib.ListN.{length}
use lib.IntN.{ℤ}
use Rattle.refusals.specs.Refusal.{refusal}
use Rattle.refusals.proofs.Tests.{answered-no, answered-yes}
use Rattle.weak_contour.specs.Limits.{most_result}
use Rattle.weak.specs.Weak.{ends_hold}
use Rattle.weak.proofs.Refusals.{passed}
use Rattle.path_trip.specs.declared.step.PathStep.{PathStep}
use Rattle.path_trip.specs.Path.{points, path}
use Rattle.path_trip.specs.Trips.{Admitted}
use Rattle.path_walk.specs.Steps.{seek}
use Rattle.path_walk.proofs.Seeks.{in-here, in-past}
use Rattle.path.specs.Answer.{Handed, Refused, Finished, Step}
use Rattle.path.specs.Handing.{path_tests, named, handed}

-- ---- what a number names
-- a step of the path
pub named_here : (p : List PathStep) (k : ℕ) (s : PathStep) → seek p k ≡ Ok s → named p k ≡ Step s (record { at = k + 1 })
unfolding named
named_here p k s e = let r = in-here p k s e in rw (lt-ltb k (length p) r.0, r.1)

-- none
pub named_past : (p : List PathStep) (k l : ℕ) → seek p k ≡ Err l → named p k ≡ Finished
unfolding named
named_past p k l e = rw (le-ltb k (length p) (in-past p k l e))

-- ---- the call
module _ (xs ys : List ℤ) (marks es : List ℕ) where
  -- an outline that is answered by 0 is sound, and its ends hold
  pub accepted : refusal (path_tests xs ys marks es) ≡ 0 → Admitted (points xs ys marks) × (ends_hold 0 (length xs) es ≡ true)
  accepted e =
      let p = passed most_result xs ys marks es e in
      (record { few = p.points; ys_length = p.seconds_length; marks_length = p.marks_length; wide = p.firsts; high = p.seconds }, p.ends)

  module _ (k n : ℕ) (e : n ≡ refusal (path_tests xs ys marks es)) where
    pub handed-refused : 0 < n → Refused n ≡ handed xs ys marks es k
    unfolding handed
    handed-refused h = answered-no n (refusal (path_tests xs ys marks es)) Refused (named (path (points xs ys marks) es) k) e h

    pub handed-named : n ≤ 0 → (g : Handed) → named (path (points xs ys marks) es) k ≡ g → g ≡ handed xs ys marks es k
    unfolding handed
    handed-named h g q = answered-yes n (refusal (path_tests xs ys marks es)) Refused (named (path (points xs ys marks) es) k) g e h (sym q)
