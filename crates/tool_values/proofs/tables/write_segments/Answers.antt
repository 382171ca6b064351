-- `tool_values::tables::write_segments` meets its contract.
use mathlib.Core.Path.{◌≡◌, refl}
use native.Mathlib.Omega.{arith}
use borrow.Author.Rules.{rules}
use lib.ListN.{length}
use Rattle.tool_values.proofs.tables.write_segments.Goals as goal

pub loop-i-init : goal.loop-i-init
loop-i-init c = (omega arith, omega (arith, c.least-n.ensures), omega (arith, c.least-n.ensures), refl)

pub loop-i-preserved : goal.loop-i-preserved
loop-i-preserved c = let k : length c.write_words.new.out ≡ length c.loop-i.out = search rules in
    (omega arith, omega arith, omega arith, omega arith)

pub shape_of-out : goal.shape_of-out
shape_of-out c = c.loop-i.invariant.3
