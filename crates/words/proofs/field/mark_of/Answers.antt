-- `words::field::mark_of` meets its contract.
use native.Mathlib.Omega.{arith}
use mathlib.Core.Path.{◌≡◌, sym, ap, ◌∙◌}
use Prim.Native.Nat.{ℕ}
use lib.ListN.{get_or, get_or-eq_default}
use Rattle.axis.specs.declared.kinds.Mark.TheVariants as Marks
use Rattle.signed.specs.Parts.{up}
use Rattle.signed.proofs.Signed.{is}
use Rattle.words.specs.Field.{marks, mark_of}
use Rattle.words.proofs.field.mark_of.Goals as goal
use Rattle.words.proofs.field.mark_of.Goals.{After-size_of-number}

-- the number is the word's
number : (c : After-size_of-number) → c.size_of-number.result ≡ up c.args.word
number c = c.size_of-number.ensures ∙ ap up (is c.ranges.word)

pub returns-then-number-lt13 : goal.returns-then-number-lt13
unfolding mark_of
returns-then-number-lt13 c = ap (λ (n : ℕ). get_or marks n Marks.Nothing) (number c.before.before)

pub returns : goal.returns
unfolding mark_of
returns c = sym (get_or-eq_default marks Marks.Nothing {n = up c.args.word} (omega (arith, number c.before)))
