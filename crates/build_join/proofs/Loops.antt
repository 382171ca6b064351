-- The loops, one after the other: what the state behind the last one is.
use mathlib.Core.Path.{◌≡◌, refl, sym, ap, ◌∙◌}
use mathlib.Core.Bool.{Bool, true, false, not}
use Prim.Native.Nat.{◌+◌}
use native.Mathlib.Omega.{arith}
use Rattle.axis.specs.declared.segment.Segments.{Segments}
use Rattle.build_join.specs.declared.rules.Rules.{Rules}
use Rattle.build_join.specs.Joining.{after, begun, state_at, last_state}
use Rattle.build_join.proofs.Steps.{after-stuck}

module _ (t : Segments) (r : Rules) where
  last_is : (b : Bool) → not r.cjk ≡ b → state_at t r b t.len ≡ last_state t r
  last_is b e = ap (λ (c : Bool). state_at t r c t.len) (sym e)

  -- CJK has one loop
  pub one_last : r.cjk ≡ true → state_at t r false t.len ≡ last_state t r
  one_last h = last_is false (ap not h)

  -- Latin has two
  pub two-last : r.cjk ≡ false → state_at t r true t.len ≡ last_state t r
  two-last h = last_is true (ap not h)

  -- the second starts where the first ends
  pub second-begins : state_at t r false t.len ≡ begun t r true
  unfolding begun
  second-begins = refl

  -- and changes nothing where a 129th edge was called for
  pub full-last : r.cjk ≡ false → (begun t r true).full ≡ true → begun t r true ≡ last_state t r
  unfolding after
  full-last h f =
      let z : t.len + 0 ≡ t.len = omega arith in
      let stuck : state_at t r true t.len ≡ begun t r true = rw z at (after-stuck t r true (begun t r true) 0 t.len f) in
      sym stuck ∙ two-last h
