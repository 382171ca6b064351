-- Tests in two parts, of which the first is made before the second.
use mathlib.Core.Path.{◌≡◌, refl, sym, ap, ◌∙◌}
use mathlib.Core.List.{List, ◌++◌}
use mathlib.Core.Bool.{true}
use Prim.Native.Nat.{ℕ, ◌≤◌, ◌<◌}
use Rattle.refusals.specs.Refusal.{Test, refusal, answered}
use Rattle.refusals.proofs.Tests.{numbered, own_first, answered-no, answered-yes}

module _ (ts us : List Test) (n : numbered ts ≡ true) {k : ℕ} (e : k ≡ refusal ts) where
  -- the first refuses
  pub first-refuses : 0 < k → k ≡ refusal (ts ++ us)
  first-refuses h = answered-no k (refusal ts) (λ (i : ℕ). i) (refusal us) e h ∙ sym (own_first ts us n)

  -- or the second decides
  pub second-decides : {r : ℕ} → k ≤ 0 → r ≡ refusal us → r ≡ refusal (ts ++ us)
  second-decides {r} h q = answered-yes k (refusal ts) (λ (i : ℕ). i) (refusal us) r e h q ∙ sym (own_first ts us n)
