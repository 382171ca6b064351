-- `strong_words::refuse::coordinates_hold` meets its contract.
use mathlib.Core.Path.{ap, ◌∙◌}
use Prim.Native.Nat.{ℕ}
use lib.Dec.{eqb}
use Rattle.strong.proofs.Told.{told-by}
use Rattle.strong_words.proofs.Lending.{range-told}
use Rattle.strong_words.proofs.refuse.coordinates_hold.Goals as goal

pub returns : goal.returns
returns c =
    c.is_ok.ensures.value ∙ told-by c.range_refusal.result ∙ ap (λ (k : ℕ). eqb k 0) c.range_refusal.ensures ∙ range-told c.args.originals.now c.args.currents.now
