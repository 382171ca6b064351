-- What the steps of joining promise each other: walks along `next`, the positions of links, and what a table of segments must be to be joined.
use Rattle.std.specs.Prelude.{None, Some}
use Rattle.std.specs.Prelude.{◌≡◌, Bool, true, false, ◌&&◌, ◌||◌, List, [], ◌∷◌, ℕ, ◌≤◌, ◌<◌, ltb, ℤ, pos, get_or}
use Rattle.std.specs.Int.Signed.{le_z}
use Rattle.std.specs.Int.{w16}
use Rattle.std.proofs.Common.{SFits}
use Rattle.signed.specs.Distance.{distance}
use Rattle.signed.specs.Range.{Between}
use Rattle.fixed.specs.Point.{mul_fix}
use Rattle.axis.specs.Link.{Link}
use Rattle.axis.specs.declared.segment.Segments.{Segments}
use Rattle.axis.specs.Limits.{most_segments, most_units, most_score}
use Rattle.axis.specs.Segment.{segment_at}
use Rattle.build_join.specs.declared.rules.Rules.{Rules}

-- ---- walks
-- the segment behind segment i, by `next`
abbrev pub next_in : List ℕ → ℕ → ℕ
next_in next i = get_or next i 0

-- ---- links by their positions
-- stands in the place of a link's position where there is no link: positions are below it
abbrev pub no_stem : ℤ
no_stem = pos 65536

-- the position of a link, or the number that stands for none
pub record StemAt (t : Segments) (l : Link) (z : ℤ) : Type 0 where
  pub none : l ≡ None → z ≡ no_stem
  pub to : (k : ℕ) → l ≡ Some k → z ≡ (segment_at t k).pos
  pub short : (k : ℕ) → l ≡ Some k → SFits w16 z

-- so it is for each segment in CJK; in Latin each has the number for none
pub record StemsOf (t : Segments) (cjk : Bool) (stems : List ℤ) : Type 0 where
  pub at : cjk ≡ true → (i : ℕ) → i < t.len → StemAt t (segment_at t i).link (get_or stems i (pos 0))
  pub none : cjk ≡ false → (i : ℕ) → i < t.len → get_or stems i (pos 0) ≡ no_stem

-- a link, where there is one, is nearer than a limit to a stem
unfoldable pub stem_near : ℕ → ℤ → ℤ → Bool
stem_near near a b = le_z no_stem b || ltb (distance a b) near

-- so it is for those of all these segments
unfoldable pub stems_agree : List ℤ → ℕ → ℤ → List ℕ → Bool
stems_agree stems near z [] = true
stems_agree stems near z (m ∷ ms) = stem_near near z (get_or stems m (pos 0)) && stems_agree stems near z ms

-- segment i has no link, or all these segments agree with it
abbrev pub stems_go : List ℤ → ℕ → ℕ → List ℕ → Bool
stems_go stems near i ms = le_z no_stem (get_or stems i (pos 0)) || stems_agree stems near (get_or stems i (pos 0)) ms

-- ---- what can be joined
-- the second loop is Latin's
abbrev pub Latin : Rules → Bool → Type 0
Latin r second = second ≡ true → r.cjk ≡ false

-- an accepted table: its segments are few, each position at this scale is within the table, and the length threshold is
pub record Joinable (t : Segments) (r : Rules) : Type 0 where
  pub few : t.len ≤ most_segments
  pub length : Between 0 most_score r.length
  pub opos : (i : ℕ) → i < t.len → Between most_units most_units (mul_fix (segment_at t i).pos r.scale)
