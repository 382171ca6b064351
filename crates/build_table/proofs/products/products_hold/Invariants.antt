-- `build_table::products::products_hold` meets its contract.
use mathlib.Core.Path.{◌≡◌, sym, ◌∙◌}
use mathlib.Core.Bool.{true}
use Prim.Native.Nat.{ℕ, ◌≤◌, ◌-◌, min}
use native.Mathlib.Omega.{arith}
use mir.Syntax.{w32}
use mir.Val.{to_z}
use Rattle.signed.proofs.Signed.{is}
use borrow.Author.Rules.{rules}
use borrow.Author.Tests.{not-true, not-false}
use Rattle.axis.specs.Limits.{most_segments}
use Rattle.axis.specs.Segment.{segment_at}
use Rattle.axis.specs.Refusals.{every}
use Rattle.build.specs.Building.{scaled_holds, products_hold}
use Rattle.axis.proofs.Tests.{every-none, every_more, every-fails, every-done}
use Rattle.build_table.proofs.products.products_hold.Given as goal

abbrev pub invariant-loop-i : goal.invariant-loop-i
invariant-loop-i l = (l.i ≤ l.n) × (l.n ≡ min l.segments.len most_segments) × (every (λ (k : ℕ). scaled_holds l.scale (segment_at l.segments k)) l.i ≡ true)

abbrev pub decreases-loop-i : goal.decreases-loop-i
decreases-loop-i l = l.n - l.i
