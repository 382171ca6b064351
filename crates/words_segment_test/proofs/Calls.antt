-- A call over lent segments, by what their test tells.
use mathlib.Core.Path.{◌≡◌, refl, ap, ◌∙◌}
use mathlib.Core.Bool.{Bool, true, cond}
use mathlib.Core.List.{List, [], ◌∷◌}
use Prim.Native.Nat.{ℕ, ◌≤◌, ◌<◌}
use native.Mathlib.Omega.{arith}
use borrow.Author.Tests.{leb-true, lt-ltb}
use lib.Dec.{leb}
use lib.IntN.{ℤ}
use Rattle.refusals.specs.Refusal.{Test, ◌unless◌, too_long, bad_index, refusal, or_refused, answered}
use Rattle.refusals.proofs.Tests.{and_first, and_second, all_hold, own_first}
use Rattle.axis.specs.declared.segment.Segments.{Segments}
use Rattle.axis.specs.Accepted.{SegmentsWithin}
use Rattle.axis.specs.Limits.{most_segments}
use Rattle.axis.specs.Refusals.{segments_indices, segments_nexts, segments_numbers, segments_short, segments_indexed, segments_in_range}
use Rattle.axis.proofs.Acceptance.{segments-within}
use Rattle.words.specs.Segment.{segments_in, flat_segments}
use Rattle.words_shape.specs.Shape.{segments_shown}
use Rattle.words_call.specs.Lent.{refused_or, segments_front}
use Rattle.words_call.specs.Held.{tested_of}
use Rattle.words_call.proofs.Kept as Kept
use Rattle.words_call.proofs.Tested.{in_order, tested-holds}
use Rattle.words_segment.specs.Whole.{Whole}
use Rattle.words_segment.proofs.Wholes.{shown-whole, segments-len}
use Rattle.words_segment_test.specs.Held.{nexts_hold, tested}

-- ---- no refusal
-- what a call may use then: words that can be read and written in place, accepted segments, and its own tests
pub record Ready (ws : List ℤ) (own : ℕ) (passed : Bool) : Type 0 where
  pub whole : Whole ws
  pub within : SegmentsWithin (flat_segments ws)
  pub right : own ≡ 0
  pub passed_hold : passed ≡ true

module _ (ws : List ℤ) (room others : Bool) where
  pub short : refusal (segments_front ws room others) ≡ 0 → leb (flat_segments ws).len most_segments ≡ true
  unfolding segments_front
  short q = ap (λ (k : ℕ). leb k most_segments) (segments-len ws) ∙ (all_hold (segments_front ws room others) refl q).1.0

  pub ready : (own : ℕ) (nexts passed : Bool) {r : ℕ} → r ≡ refused_or (segments_front ws room others) (tested (flat_segments ws) own nexts passed) → r ≤ 0
      → Ready ws own passed
  unfolding segments_front
  ready own nexts passed {r} e h =
      let z : 0 ≡ r = omega arith in
      let p = Kept.passed (segments_front ws room others) _ (z ∙ e) in
      let t = all_hold (segments_front ws room others) refl p.0 in
      let g = tested-holds own _ _ p.1 in
      record {
        whole = shown-whole ws (and_first (segments_shown ws) others t.1.1.0) (leb-true (segments_in ws) most_segments t.1.0);
        within =
            segments-within (flat_segments ws) (short p.0) (and_first _ (nexts_hold (flat_segments ws) nexts) g.indices) (and_first _ passed g.numbers);
        right = g.right;
        passed_hold = and_second (segments_numbers (flat_segments ws)) passed g.numbers;
      }

-- ---- the order of the tests
-- a call with a parameter that may be refused, which tests each next
pub next-tests : (t : Segments) (number : ℕ) (right : Bool) → 0 < number → leb t.len most_segments ≡ true
    → refusal (segments_short t ∷ number unless right ∷ segments_indexed t ∷ bad_index unless segments_nexts t ∷ segments_in_range t ∷ [])
    ≡ tested t (or_refused 0 right number) true true
unfolding refusal or_refused tested_of
next-tests t number right h s =
    ap (λ (x : Bool). cond x (cond right (refusal rest) number) too_long) s ∙ own_first (number unless right ∷ []) rest (rw (lt-ltb 0 number h))
    ∙ ap (answered (or_refused 0 right number) (λ (k : ℕ). k)) (in_order (segments_indices t) (segments_nexts t) (segments_numbers t) true)
  where
    rest : List Test
    rest = segments_indexed t ∷ bad_index unless segments_nexts t ∷ segments_in_range t ∷ []
