-- `stems_cjk::stem::delta_of` meets its contract.
use mathlib.Core.Path.{◌≡◌}
use native.Mathlib.Omega.{arith}
use lib.IntN.{ℤ, ◌+ℤ◌}
use mir.Syntax.{w32}
use Rattle.signed.proofs.Signed.{fits, is, got, signed}
use Rattle.stems_cjk.specs.Cjk.{pixel_offset, offsets_delta, delta_of}
use borrow.Author.Rules.{rules}
use Rattle.stems_cjk.proofs.stem.delta_of.Goals as goal
use Rattle.stems_cjk.proofs.stem.delta_of.Goals.{After-offsets_delta, After-pixel_offset-d_off1, After-pixel_offset-d_off2, Start}

pub overflow_add-start : goal.overflow_add-start
overflow_add-start c = fits (omega (arith, signed))

-- the offsets of the two edges, and the move by them
first_is : (c : After-pixel_offset-d_off1) → c.pixel_offset-d_off1.result ≡ pixel_offset c.args.start
first_is c = rw (is c.ranges.start) at c.pixel_offset-d_off1.ensures.0

second_is : (c : After-pixel_offset-d_off2) → c.pixel_offset-d_off2.result ≡ pixel_offset (c.args.start +ℤ c.args.width)
second_is c = let m = c.before in let s = m.before in rw (is (overflow_add-start m), is s.ranges.start, is s.ranges.width) at c.pixel_offset-d_off2.ensures.0

abbrev move_by : Start → ℤ
move_by s = offsets_delta (pixel_offset s.args.start) (pixel_offset (s.args.start +ℤ s.args.width)) s.args.width s.args.threshold

move-is : (c : After-offsets_delta) → c.offsets_delta.result ≡ move_by c.before.before.before
move-is c =
    let n = c.before in
    let m = n.before in
    let s = m.before in
    rw (
      is m.pixel_offset-d_off1.ensures.1.fits,
      is n.pixel_offset-d_off2.ensures.1.fits,
      is s.ranges.width,
      is s.ranges.threshold,
      first_is m,
      second_is
          n,
    ) at c.offsets_delta.ensures

pub returns : goal.returns
unfolding delta_of
returns c =
    let o = c.before in
    rw (is (got w32 c.clamp.result c.clamp.type_inv)) (rw (is (got w32 o.offsets_delta.result o.offsets_delta.type_inv), move-is o) at c.clamp.ensures)
