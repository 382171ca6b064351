-- What is told, as the nine words of its list.
use mathlib.Core.Path.{◌≡◌, ap, ◌∙◌}
use mathlib.Core.List.{List, ◌++◌, append-nil}
use Prim.Native.Nat.{ℕ, ◌+◌}
use native.Mathlib.Omega.{arith}
use lib.ListN.{length, drop}
use lib.Seq.{drop-length}
use lib.IntN.{ℤ}
use Rattle.words.specs.Word.{written}

-- words written over as many others
pub written_all : (out ws : List ℤ) → length out ≡ length ws → written out 0 ws ≡ ws
unfolding written
written_all out ws e =
    ap (λ (r : List ℤ). ws ++ r) (ap (λ (k : ℕ). drop k out) (let z : 0 + length ws ≡ length out = omega (arith, e) in z) ∙ drop-length out) ∙ append-nil ws
