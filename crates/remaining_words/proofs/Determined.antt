-- The promise determines the answer, the edges and the anchor: two outcomes that it allows coincide.
use Rattle.std.specs.Prelude.{Result}
use mathlib.Core.Path.{◌≡◌}
use mathlib.Core.List.{List}
use Prim.Native.Nat.{ℕ}
use lib.IntN.{ℤ}
use Rattle.refusals.specs.declared.order.Refusal.{Refusal}
use Rattle.refusals.specs.Outcome.{answer_of}
use Rattle.words_call.proofs.Determined.{lent-determined, lent-determined-result}
use Rattle.remaining_words.specs.Lent.{RemainingLent}

pub determined : (ws : List ℤ) (dim group count anchor found : ℤ) {r r' : ℕ} {now now' : List ℤ × ℤ}
    → RemainingLent ws dim group count anchor found r now → RemainingLent ws dim group count anchor found r' now' → (r ≡ r') × (now ≡ now')
determined ws dim group count anchor found a b = lent-determined a b

-- and so do two results
pub determined-result : (ws : List ℤ) (dim group count anchor found : ℤ) {r r' : Result (Unit {0}) Refusal} {now now' : List ℤ × ℤ}
    → RemainingLent ws dim group count anchor found (answer_of r) now → RemainingLent ws dim group count anchor found (answer_of r') now'
    → (r ≡ r') × (now ≡ now')
determined-result ws dim group count anchor found {r} {r'} a b = lent-determined-result {r = r} {r' = r'} a b
