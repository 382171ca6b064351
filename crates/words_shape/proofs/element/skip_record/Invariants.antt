-- `words_shape::element::skip_record` meets its contract. The invariant: what is left of the record, read from here, gives the whole.
use mathlib.Core.Path.{◌≡◌}
use Prim.Native.Nat.{◌≤◌}
use lib.ListN.{drop}
use Rattle.words_shape.specs.Shape.{fields, ranges_of}
use Rattle.words_shape.proofs.element.skip_record.Given as goal

abbrev pub invariant-loop-i : goal.invariant-loop-i
invariant-loop-i l = (l.i ≤ l.n) × (fields (ranges_of l.kind) l.words l.at ≡ fields (drop l.i (ranges_of l.kind)) l.words l.here)
