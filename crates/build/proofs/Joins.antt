-- The loops of joining, one after the other.
use mathlib.Core.Path.{◌≡◌, refl, sym, ap, ◌∙◌}
use mathlib.Core.Bool.{Bool, true, false, not}
use Prim.Native.Nat.{◌≤◌}
use native.Mathlib.Omega.{arith}
use Rattle.axis.specs.declared.segment.Segments.{Segments}
use Rattle.axis.specs.Limits.{most_segments}
use Rattle.build_join.specs.declared.join.Joined.{Joined}
use Rattle.build_join.specs.declared.rules.Rules.{Rules}
use Rattle.build_join.specs.Joining.{shown, begun, state_at, last_state}
use Rattle.build_join.specs.Walks.{Latin}
use Rattle.build_join.proofs.Good.{Good, good}
use Rattle.build_join.proofs.Rising.{Rises, rises}
use Rattle.build_join.proofs.Steps.{of-full}
use Rattle.build_join.proofs.Loops.{one_last, two-last, second-begins, full-last}

module _ (t : Segments) (r : Rules) where
  -- CJK has one loop
  pub one-loop : (j : Joined) → j ≡ shown t r (state_at t r false t.len) → r.cjk ≡ true → j ≡ shown t r (last_state t r)
  one-loop j e h = e ∙ ap (shown t r) (one_last t r h)

  -- the second one starts where the first ends
  pub second-begun : (j : Joined) → j ≡ shown t r (state_at t r false t.len) → j ≡ shown t r (begun t r true)
  second-begun j e = e ∙ ap (shown t r) (second-begins t r)

  -- and changes nothing where a 129th edge was called for
  pub full-stays : (j : Joined) → j ≡ shown t r (state_at t r false t.len) → r.cjk ≡ false → j.full ≡ true → j ≡ shown t r (last_state t r)
  full-stays j e h f =
      let b = second-begun j e in
      b ∙ ap (shown t r) (full-last t r h (sym (of-full t r (begun t r true) j.full j.axis j.next b) ∙ f))

  pub two-loops : (j : Joined) → j ≡ shown t r (state_at t r true t.len) → r.cjk ≡ false → j ≡ shown t r (last_state t r)
  two-loops j e h = e ∙ ap (shown t r) (two-last t r h)

  -- the second one is Latin's
  last-latin : Latin r (not r.cjk)
  last-latin = off r.cjk
    where
      off : (b : Bool) → not b ≡ true → b ≡ false
      off true e = sym e
      off false e = refl

  -- the last state is good, and its edges rise
  pub last-good : t.len ≤ most_segments → Good t r (not r.cjk) (last_state t r) t.len
  last-good long = good t r (not r.cjk) last-latin long t.len (omega arith)

  pub last-rises : t.len ≤ most_segments → Rises t r (last_state t r)
  last-rises long = rises t r (not r.cjk) last-latin long t.len (omega arith)
