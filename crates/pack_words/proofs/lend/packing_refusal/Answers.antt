-- `pack_words::lend::packing_refusal` meets its contract.
use mathlib.Core.Path.{refl, ◌∙◌}
use Rattle.refusals.proofs.Outcomes.{exit-answer, number-above, then-last}
use Rattle.turn.specs.Indices.{index_tests}
use Rattle.words.specs.Segment.{flat_segments}
use Rattle.words_call.specs.Lent.{edges_of}
use Rattle.pack.proofs.Calls.{refused-first}
use Rattle.pack_words.proofs.lend.packing_refusal.Goals as goal

pub returns-in_err-index_refusal : goal.returns-in_err-index_refusal
returns-in_err-index_refusal c =
    exit-answer _ _ c.from_residual.ensures.1
    ∙ refused-first (edges_of c.args.edges.now) (flat_segments c.args.segments.now) _ c.in_err-index_refusal.ensures (number-above _)

pub rings_sound_in-requires : goal.rings_sound_in-requires
rings_sound_in-requires c = c.requires

pub returns : goal.returns
returns c =
    then-last {ts = index_tests (edges_of c.args.edges.now) (flat_segments c.args.segments.now)}
    (record { refused = c.in_ok-index_refusal.ensures; numbers = refl }) c.require.ensures c.rings_sound_in.ensures
