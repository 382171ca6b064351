-- `words_shape::element::skip_elements` meets its contract. The invariant: the elements that are left, read from here, give the whole.
use borrow.Author.Rules.{rules}
use native.Mathlib.Omega.{arith}
use mathlib.Core.Path.{◌≡◌, sym, ap, ◌∙◌}
use Prim.Native.Nat.{ℕ, ◌+◌, ◌-◌, ◌≤◌}
use Rattle.words_shape.specs.Place.{Place}
use Rattle.words_shape.specs.Shape.{and_then, elements}
use Rattle.words_shape.proofs.Shapes.{Goes, then-nowhere, then_at, elements-step, elements-end}
use Rattle.words_shape.proofs.element.skip_elements.Given as goal

abbrev pub invariant-loop-i : goal.invariant-loop-i
invariant-loop-i l = (l.i ≤ l.n) × (elements l.n l.kind l.words l.at ≡ elements (l.n - l.i) l.kind l.words l.here)
