-- Where a remaining edge goes (the Rust's `align_remaining_edges`), by the edges that decide it.
use Rattle.std.specs.Prelude.{Some}
use Rattle.std.specs.Prelude.{Bool, true, cond, ℕ, ◌-◌, ltb, ℤ, pos, nat_abs, ◌+ℤ◌, ◌-ℤ◌, ◌*ℤ◌}
use Rattle.std.specs.Int.Signed.{shr_z}
use Rattle.signed.specs.Equality.{eq_z}
use Rattle.fixed.specs.Pixel.{pix_round}
use Rattle.fixed_ratio.specs.Ratio.{mul_div}
use Rattle.axis.specs.declared.kinds.Mark.{Mark}
use Rattle.axis.specs.declared.kinds.Mark.TheVariants as Marks
use Rattle.axis.specs.declared.edge.Edge.{Edge}
use Rattle.place.specs.Placing.{serif_pos}
use Rattle.remaining.specs.declared.kinds.Progress.{Progress}
use Rattle.remaining.specs.declared.kinds.Plan.{Plan}
use Rattle.remaining.specs.declared.kinds.Way.{Way}
use Rattle.remaining.specs.declared.kinds.Way.TheVariants as Ways

-- ---- what the visits have come to
-- with another anchor
abbrev pub anchored_at : Progress → ℕ → Progress
anchored_at past i = record { anchor = Some i; count = past.count; beyond = past.beyond }

-- one of the edges that stems have passed over is placed; there are never fewer than none
abbrev pub one_less : Progress → Progress
one_less past = record { anchor = past.anchor; count = past.count - 1; beyond = past.beyond }

-- a position was given that no edge may have
abbrev pub as_beyond : Progress → Progress
as_beyond past = record { anchor = past.anchor; count = past.count; beyond = true }

-- ---- plans
abbrev pub plan : ℤ → Mark → Way → Progress → Plan
plan p m way next = record { pos = p; mark = m; way = way; next = next }

-- it stays where it is
abbrev pub stays_plan : Edge → Progress → Plan
stays_plan e past = plan e.pos Marks.Nothing Ways.Stays past

-- as far from the edge whose serif it is as it was
abbrev pub serif_plan : Edge → Edge → Way → Progress → Plan
serif_plan base e way past = plan (serif_pos base.pos base.opos e.opos) Marks.Serif way past

-- Latin's by its serif: less than 80 away
abbrev pub is_close : ℤ → ℤ → Bool
is_close opos base = ltb (nat_abs (opos -ℤ base)) 80

abbrev pub is_near : Edge → Edge → Bool
is_near e base = is_close e.opos base.opos

-- edge i becomes the anchor, on a whole pixel
abbrev pub anchor_plan : Edge → ℕ → Progress → Plan
anchor_plan e i past = plan (pix_round e.opos) Marks.RemainingAnchor Ways.Held (anchored_at past i)

-- the largest multiple of 32 not above z
unfoldable pub half_floor : ℤ → ℤ
half_floor z = shr_z z 32 *ℤ pos 32

-- the distance from the anchor and 16, down to a multiple of 32
unfoldable pub spaced_pos : ℤ → ℤ → ℤ → ℤ
spaced_pos anchor_pos anchor_opos opos = anchor_pos +ℤ half_floor (opos -ℤ anchor_opos +ℤ pos 16)

abbrev pub spaced_plan : Edge → Edge → Progress → Plan
spaced_plan anchor e past = plan (spaced_pos anchor.pos anchor.opos e.opos) Marks.Spaced Ways.Held past

-- as far between the positions of two edges as it is between the two; two at one place have the first one's
unfoldable pub between_pos : ℤ → ℤ → ℤ → ℤ → ℤ → ℤ
between_pos at before_at before_pos after_at after_pos =
    cond (eq_z after_at before_at) before_pos (before_pos +ℤ mul_div (at -ℤ before_at) (after_pos -ℤ before_pos) (after_at -ℤ before_at))

-- Latin's by original positions
abbrev pub latin_between : Edge → Edge → Edge → Progress → Plan
latin_between before after e past = plan (between_pos e.opos before.opos before.pos after.opos after.pos) Marks.Between Ways.Held past

-- CJK's by font positions
abbrev pub cjk_between : Edge → Edge → Edge → Progress → Plan
cjk_between before after e past = plan (between_pos e.fpos before.fpos before.pos after.fpos after.pos) Marks.Between Ways.Placed past
