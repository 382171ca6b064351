-- The loops, on the lists: each from its begin to its end, and one after the other.
use mathlib.Core.Path.{◌≡◌, sym, ap, ◌∙◌}
use mathlib.Core.Bool.{Bool, true, false}
use mathlib.Core.List.{List}
use Prim.Native.Nat.{ℕ, ◌+◌, ◌-◌, ◌<◌}
use native.Mathlib.Omega.{arith}
use lib.IntN.{ℤ}
use Rattle.axis.specs.declared.segment.Segments.{Segments}
use Rattle.build_join.specs.declared.rules.Rules.{Rules}
use Rattle.build_join.specs.Joining.{State, begun, state_at, last_state}
use Rattle.build_join.proofs.Steps.{after-stuck}
use Rattle.build_join.proofs.Loops.{one_last, two-last, second-begins, full-last}
use Rattle.words.specs.Segment.{segments_in, flat_segments}
use Rattle.build_join_words.specs.Lists.{Listed, Placed}
use Rattle.build_join_words.proofs.Readings.{segments-len}
use Rattle.build_join_words.proofs.Listings.{placed-as, placed-if}

-- behind a 129th edge that was called for nothing changes
pub full-stays : (t : Segments) (r : Rules) (second : Bool) (i n : ℕ) {places : List ℤ} {first last next : List ℕ} {full : Bool} {count : ℕ} → i < n
    → full ≡ true
    → Placed t r (state_at t r second (i + 1)) places first last next full count → Placed t r (state_at t r second n) places first last next full count
full-stays t r second i n h e P =
    let d : n - (i + 1) + (i + 1) ≡ n = omega arith in
    let stuck = after-stuck t r second (begun t r second) (i + 1) (n - (i + 1)) (sym P.listed.fulls ∙ e) in
    placed-as P (sym (rw d at stuck))

module _ (ws : List ℤ) (r : Rules) where
  abbrev t : Segments
  t = flat_segments ws

  end_is : (second : Bool) → state_at t r second (segments_in ws) ≡ state_at t r second t.len
  end_is second = ap (state_at t r second) (sym (segments-len ws))

  begun-is : state_at t r false (segments_in ws) ≡ begun t r true
  begun-is = end_is false ∙ second-begins t r

  module _ {places : List ℤ} {first last next : List ℕ} {full : Bool} {count : ℕ} where
    -- Latin ends with the second loop
    pub two-listed : r.cjk ≡ false → Placed t r (state_at t r true (segments_in ws)) places first last next full count
        → Listed (last_state t r) first last next full count
    two-listed h P = (placed-as P (end_is true ∙ two-last t r h)).listed

    module _ (P : Placed t r (state_at t r false (segments_in ws)) places first last next full count) where
      -- CJK with the first
      pub one-listed : r.cjk ≡ true → Listed (last_state t r) first last next full count
      one-listed h = (placed-as P (end_is false ∙ one_last t r h)).listed

      -- which the second one follows, where there was room
      pub second-placed : full ≡ false → Placed t r (begun t r true) places first last next false count
      second-placed f = placed-if (placed-as P begun-is) f

      pub full-listed : r.cjk ≡ false → full ≡ true → Listed (last_state t r) first last next full count
      full-listed h f = (placed-as P (begun-is ∙ full-last t r h (ap (λ (s : State). s.full) (sym begun-is) ∙ sym P.listed.fulls ∙ f))).listed
