-- The answer to lent segments that pass the one loop.
use mathlib.Core.Path.{◌≡◌, sym, ◌∙◌}
use mathlib.Core.Bool.{Bool, true, ◌&&◌}
use mathlib.Core.List.{List}
use Prim.Native.Nat.{ℕ, ◌%◌}
use native.Mathlib.Omega.{arith}
use borrow.Author.Tests.{eqb-true, eq-eqb}
use lib.Dec.{eqb}
use lib.ListN.{length}
use lib.IntN.{ℤ}
use Rattle.refusals.proofs.Tests.{and_first, and_second}
use Rattle.words.specs.Segment.{segment_size, flat_segments}
use Rattle.words_call.specs.Lent.{refused_or, segments_front}
use Rattle.words_call.proofs.Holding.{and_both}
use Rattle.words_call.proofs.Tested.{front-tested}
use Rattle.words_call.proofs.Whole.{segments-long}
use Rattle.words_segment_test.specs.Held.{Held, tested}

pub held-tested : (ws : List ℤ) (room others : Bool) (own : ℕ) (nexts passed : Bool) → Held ws nexts → (rest : Bool)
    → rest ≡ ((room && others) && (eqb own 0 && passed)) → rest ≡ true
    → 0 ≡ refused_or (segments_front ws room others) (tested (flat_segments ws) own nexts passed)
unfolding segments_front
held-tested ws room others own nexts passed h rest q t =
    let a = and_first (room && others) _ (sym q ∙ t) in
    let b = and_second (room && others) _ (sym q ∙ t) in
    let l = segments-long ws h.words in
    front-tested _ _ _ own _ _ (and_both _ _ (eq-eqb (length ws % segment_size) 0 (omega (arith, l))) (and_first room _ a)) h.few
    (and_both _ _ h.words (and_second room _ a))
    (record { right = eqb-true own 0 (and_first (eqb own 0) _ b); indices = h.indices; numbers = and_both _ _ h.numbers (and_second (eqb own 0) _ b) })
