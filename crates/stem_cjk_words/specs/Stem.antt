-- A CJK stem, as what it makes of an axis.
use Rattle.std.specs.Prelude.{◌≡◌, Bool, List, ℕ, ℤ}
use Rattle.fixed.specs.declared.width.WidthRule.{WidthRule}
use Rattle.axis.specs.declared.kinds.Dimension.{Dimension}
use Rattle.axis.specs.declared.edge.Axis.{Axis}
use Rattle.axis.specs.Edge.{edge_at}
use Rattle.stems_cjk.specs.declared.stem.Stem.{Stem}
use Rattle.stems_cjk.specs.Cjk.{stem_of, placed_stem, hinted_stem}
use Rattle.words_call.specs.Lent.{edges_of}
use Rattle.words_edge.specs.Whole.{Became}

-- its two edges placed, the lower and then the upper one
abbrev pub placing_stem : ℕ → ℕ → ℤ → ℤ → Axis → Axis
placing_stem lower upper p w axis = placed_stem axis lower upper p w

-- the edge of the smaller original position below
abbrev pub hinting_stem : ℕ → ℕ → Stem → Axis → Axis
hinting_stem i j s axis = hinted_stem axis i j s

-- the stem of two edges of a list of words
abbrev pub stem_read : Dimension → Bool → WidthRule → List ℤ → ℕ → ℕ → ℤ → List ℤ → Stem
stem_read dim adjust rule xs i j d ws = stem_of dim adjust rule xs (edge_at (edges_of ws) i) (edge_at (edges_of ws) j) d

-- it is placed, and r is what it was moved by
pub record StemPlaced (dim : Dimension) (adjust : Bool) (rule : WidthRule) (xs : List ℤ) (i j : ℕ) (d r : ℤ) (ws ws' : List ℤ) : Type 0 where
  pub delta : r ≡ (stem_read dim adjust rule xs i j d ws).delta
  pub words : Became (hinting_stem i j (stem_read dim adjust rule xs i j d ws)) ws ws'
