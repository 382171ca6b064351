-- The parts that a visit of the stem pass is defined by (document 01, module 5; the Rust's `align_stem_edges`): e is the visited edge, e2 the edge that it is
-- linked to, a the anchor's edge. Widths are fitted by the rule and its list xs.
use Rattle.std.specs.Prelude.{None, Some}
use Rattle.std.specs.Prelude.{Bool, false, ◌||◌, List, ℤ, pos, ◌+ℤ◌, ◌-ℤ◌}
use Rattle.std.specs.Int.Signed.{lt_z}
use Rattle.fixed.specs.declared.width.WidthRule.{WidthRule}
use Rattle.fixed.specs.Width.{fitted_width}
use Rattle.axis.specs.Link.{Link}
use Rattle.axis.specs.declared.kinds.Group.{Group}
use Rattle.axis.specs.declared.kinds.Group.TheVariants.{Default, Cjk}
use Rattle.axis.specs.declared.kinds.Dimension.{Dimension}
use Rattle.axis.specs.declared.kinds.Dimension.TheVariants.{Horizontal, Vertical}
use Rattle.axis.specs.declared.edge.Edge.{Edge}
use Rattle.stems.specs.Last.{LastStem}

-- ---- stems that are passed over
-- an edge is less than 64 behind the last stem
unfoldable pub is_close : LastStem → Edge → Edge → Bool
is_close None e e2 = false
is_close (Some z) e e2 = lt_z e.pos (z +ℤ pos 64) || lt_z e2.pos (z +ℤ pos 64)

-- so it is for CJK alone
unfoldable pub too_close : Group → LastStem → Edge → Edge → Bool
too_close Default l e e2 = false
too_close Cjk l e e2 = is_close l e e2

-- ---- the numbers of a Latin stem
-- the original length of the stem, its fitted width, and where it begins by the anchor a
abbrev pub original_len : Edge → Edge → ℤ
original_len e e2 = e2.opos -ℤ e.opos

abbrev pub width_of : WidthRule → List ℤ → Edge → Edge → ℤ
width_of rule xs e e2 = fitted_width rule xs (original_len e e2)

abbrev pub start_beside : Edge → Edge → ℤ
start_beside a e = a.pos +ℤ (e.opos -ℤ a.opos)

-- ---- the delta of a CJK stem
-- the stem's delta d is passed on in place of the old one where there was no anchor, on horizontal axes alone
unfoldable pub delta_beside : Link → ℤ → ℤ → ℤ
delta_beside None old d = d
delta_beside (Some k) old d = old

unfoldable pub delta_after : Dimension → Link → ℤ → ℤ → ℤ
delta_after Horizontal anchor old d = delta_beside anchor old d
delta_after Vertical anchor old d = old
