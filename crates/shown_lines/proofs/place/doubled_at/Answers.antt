-- `shown_lines::place::doubled_at` meets its contract.
use mathlib.Core.Path.{◌≡◌, sym, ◌∙◌, subst}
use Prim.Native.Nat.{◌*◌, ◌≤◌}
use lib.IntN.{ℤ, pos, nat_abs, ◌+ℤ◌, ◌*ℤ◌}
use mir.Syntax.{w32}
use mir.Val.{to_z, of_z}
use Rattle.signed.proofs.Signed.{is, got}
use Rattle.weak_contour.specs.Contour.{at}
use Rattle.weak_contour.specs.Limits.{most_coordinate}
use Rattle.shown_lines.specs.Lines.{field_half}
use Rattle.shown_lines.proofs.place.doubled_at.Goals as goal

pub magnified-requires : goal.magnified-requires
magnified-requires c =
    let first : to_z w32 (of_z w32 (at c.args.list.now c.args.i)) ≡ at c.args.list.now c.args.i = is (got w32 (at c.args.list.now c.args.i) c.x-1.given) in
    let second : to_z w32 (of_z w32 (at c.args.list.now c.args.j)) ≡ at c.args.list.now c.args.j = is (got w32 (at c.args.list.now c.args.j) c.u-1.given) in (
      c.requires.magnify_nonzero.0,
      c.requires.magnify_nonzero.1,
      subst (λ (z : ℤ). c.args.magnify * nat_abs z ≤ most_coordinate) (sym first) (c.requires.magnify_nonzero.2 c.args.i),
      subst (λ (z : ℤ). c.args.magnify * nat_abs z ≤ most_coordinate) (sym second) (c.requires.magnify_nonzero.2 c.args.j),
    )

pub returns : goal.returns
returns c =
    let first : to_z w32 (of_z w32 (at c.args.list.now c.args.i)) ≡ at c.args.list.now c.args.i = is (got w32 (at c.args.list.now c.args.i) c.x-1.given) in
    let second : to_z w32 (of_z w32 (at c.args.list.now c.args.j)) ≡ at c.args.list.now c.args.j = is (got w32 (at c.args.list.now c.args.j) c.u-1.given) in (
      c.magnified.ensures.0 ∙ (λ k. nat_abs (pos c.args.magnify *ℤ (first k +ℤ second k) +ℤ pos (2 * field_half))),
      c.magnified.ensures.1,
    )
