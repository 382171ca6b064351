-- `turn_words::test::turn_refusal` meets its contract: numbers behind lengths and indices.
use mathlib.Core.Path.{◌≡◌, refl, sym, ◌∙◌}
use mathlib.Core.List.{[], ◌∷◌}
use Prim.Native.Nat.{ℕ}
use Rattle.refusals.specs.Refusal.{refusal}
use Rattle.refusals.proofs.Tests.{Tested, answered-no, own_first}
use Rattle.refusals.proofs.Outcomes.{number-above, exit-answer, then-held, then-refused, then-last}
use Rattle.axis.specs.Refusals.{edges_in_range, segments_in_range}
use Rattle.turn.specs.Indices.{index_tests}
use Rattle.words.specs.Segment.{flat_segments}
use Rattle.words_call.specs.Lent.{edges_of}
use Rattle.turn_words.proofs.test.turn_refusal.Goals as goal

pub returns-in_err-index_refusal : goal.returns-in_err-index_refusal
returns-in_err-index_refusal c =
    let axis = edges_of c.args.edges.now in
    let table = flat_segments c.args.segments.now in
    let us = segments_in_range table ∷ edges_in_range axis ∷ [] in
    exit-answer _ _ c.from_residual.ensures.1
    ∙ answered-no _ _ (λ (k : ℕ). k) (refusal us) c.in_err-index_refusal.ensures (number-above _)
    ∙ sym (own_first (index_tests axis table) us refl)

pub returns-in_err-require : goal.returns-in_err-require
returns-in_err-require c =
    let t : Tested 0 (index_tests (edges_of c.args.edges.now) (flat_segments c.args.segments.now)) =
    record { refused = c.in_ok-index_refusal.ensures; numbers = refl } in
    then-refused _ t c.in_err-require.ensures c.numbers_hold.ensures (exit-answer _ _ c.from_residual-in_err-require.ensures.1)

pub returns : goal.returns
returns c =
    let t : Tested 0 (index_tests (edges_of c.args.edges.now) (flat_segments c.args.segments.now)) =
    record { refused = c.in_ok-index_refusal.ensures; numbers = refl } in
    then-last (then-held t c.in_ok-require.ensures c.numbers_hold.ensures) c.require-2.ensures c.numbers_hold-2.ensures
