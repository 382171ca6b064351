-- Document 01's limits of segments and edges and of the numbers passed beside them ("Numbers that bound the input"), each named here alone.
use Rattle.std.specs.Prelude.{ℕ}

-- segments of an axis: 0 to 512
abbrev pub most_segments : ℕ
most_segments = 512

-- edges of an axis: 0 to 128
abbrev pub most_edges : ℕ
most_edges = 128

-- `opos` and a blue's `fitted`, and building's product: -65,535 to 65,535 units
abbrev pub most_units : ℕ
most_units = 65535

-- the delta passed to the CJK stem: -16,383 to 16,383 units
abbrev pub most_passed : ℕ
most_passed = 16383

-- `pos` of an edge: -16,777,216 to 16,777,216
abbrev pub most_pos : ℕ
most_pos = 16777216

-- a segment's score and len, and the three build thresholds: 0 to 65,535
abbrev pub most_score : ℕ
most_score = 65535

-- units per em: 16 to 16,384
abbrev pub least_units_per_em : ℕ
least_units_per_em = 16

abbrev pub most_units_per_em : ℕ
most_units_per_em = 16384

-- scale, in 16.16: 1 to 16,777,216
abbrev pub least_scale : ℕ
least_scale = 1

abbrev pub most_scale : ℕ
most_scale = 16777216
