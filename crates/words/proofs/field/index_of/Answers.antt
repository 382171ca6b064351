-- `words::field::index_of` meets its contract.
use mathlib.Core.Path.{ap, ◌∙◌}
use Prim.Native.Nat.{ℕ, ◌%◌}
use Rattle.signed.specs.Parts.{up}
use Rattle.signed.proofs.Signed.{is}
use Rattle.words.proofs.field.index_of.Goals as goal

pub returns : goal.returns
returns c = ap (λ (n : ℕ). n % 65536) (c.size_of.ensures ∙ ap up (is c.ranges.word))
