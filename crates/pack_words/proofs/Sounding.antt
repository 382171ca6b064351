-- The rings of lent edges told sound, one after the other.
use mathlib.Core.Path.{◌≡◌, refl, sym, ap, ◌∙◌}
use mathlib.Core.Bool.{Bool, true, false, not, not-not}
use mathlib.Core.List.{List}
use Prim.Native.Nat.{ℕ, ◌+◌, ◌≤◌, ◌<◌}
use lib.ListN.{get_or}
use Rattle.axis.specs.declared.edge.Axis.{Axis}
use Rattle.axis.specs.declared.segment.Segments.{Segments}
use Rattle.axis.specs.Refusals.{every}
use Rattle.axis.specs.Ring.{is_sound}
use Rattle.axis.proofs.Tests.{every-none, every_more, every-fails, every-done}
use Rattle.mend.specs.Plan.{Told}
use Rattle.mend.proofs.Plan.{every-same}
use Rattle.pack.specs.Call.{rings_sound}
use Rattle.pack_words.specs.Pack.{none_broken}

-- ---- the first m of them
pub none_yet : (broken : List Bool) → none_broken broken 0 ≡ true
unfolding none_broken
none_yet broken = every-none _

pub none_more : (broken : List Bool) (k : ℕ) → none_broken broken k ≡ true → get_or broken k false ≡ false → none_broken broken (k + 1) ≡ true
unfolding none_broken
none_more broken k h e = every_more _ k h (ap not e)

pub one-broken : (broken : List Bool) (k m : ℕ) → k < m → get_or broken k false ≡ true → false ≡ none_broken broken m
unfolding none_broken
one-broken broken k m h e = sym (every-fails _ k m h (ap not e))

pub none_at_all : (broken : List Bool) (k m : ℕ) → k ≤ m → m ≤ k → none_broken broken k ≡ true → true ≡ none_broken broken m
unfolding none_broken
none_at_all broken k m h g e = every-done _ k m m h g refl e

-- ---- what was told of them
pub none-sound : (axis : Axis) (t : Segments) (broken : List Bool) (m : ℕ) → m ≡ axis.len → Told axis t broken → none_broken broken m ≡ rings_sound axis t
unfolding none_broken rings_sound
none-sound axis t broken m e w =
    ap (every (λ (k : ℕ). not (get_or broken k false))) e
    ∙ every-same _ _ axis.len (λ k h. ap not (w.ring k h) ∙ not-not (is_sound axis t k))
