-- The rounds in a row: what the serif round hands on, and what they make together.
use mathlib.Core.Path.{◌≡◌, ap, ◌∙◌}
use Rattle.axis.specs.declared.kinds.Direction.{Direction}
use Rattle.axis.specs.declared.segment.Segments.{Segments}
use Rattle.axis.specs.Accepted.{SegmentsWithin}
use Rattle.link.specs.declared.thresholds.Thresholds.{Thresholds}
use Rattle.link.specs.Rounds.{pair_round, serif_round, last_round, linked}
use Rattle.link.proofs.Within.{serifs-within, every-within, all-within}

-- the serif round keeps a table within its limits
pub after-serifs : (by : Thresholds) (t a : Segments) → SegmentsWithin t → a ≡ serif_round by t → SegmentsWithin a
after-serifs by t a w e = rw e (all-within t.len (serif_round by t) w.few (serifs-within t.len by t (every-within t w)))

-- the rounds in a row
pub whole : (dir : Direction) (by : Thresholds) (t a b u : Segments) → a ≡ pair_round dir by t → b ≡ serif_round by a → u ≡ last_round by b → u ≡ linked dir by t
unfolding linked
whole dir by t a b u p q r = r ∙ ap (last_round by) (q ∙ ap (serif_round by) p)
