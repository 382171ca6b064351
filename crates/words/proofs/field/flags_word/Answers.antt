-- `words::field::flags_word` meets its contract.
use Rattle.words.specs.Field.{flags_word}
use native.Mathlib.Omega.{arith}
use mathlib.Core.Path.{◌∙◌}
use lib.IntN.{pos}
use mir.Syntax.{w32}
use Rattle.signed.proofs.Signed.{read_low}
use Prim.Native.Nat.{◌+◌}
use Rattle.words.proofs.field.flags_word.Goals as goal

pub returns : goal.returns
unfolding flags_word
returns c =
    let done = c in
    let serif = done in
    let round = serif in
    read_low w32 (round.weight.result + serif.weight-2.result + done.weight-3.result + c.weight-4.result) (omega arith)
    ∙ λ i. pos (round.weight.ensures.0 i + serif.weight-2.ensures.0 i + done.weight-3.ensures.0 i + c.weight-4.ensures.0 i)
