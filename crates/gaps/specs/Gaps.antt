-- The guard: a pair is two edges that count with no edge that counts between them in the table, a stem where one names the other by its link, and else a gap; it is lost where it
-- is turned, or has no pixel row though it was open, a gap only if it was wide enough.
use Rattle.std.specs.Prelude.{None, Some}
use Rattle.std.specs.Prelude.{◌≡◌, Bool, true, false, cond, not, ◌&&◌, ◌||◌, List, [], ◌∷◌, ◌⊎◌, ℕ, zero, suc, ◌+◌, ◌≤◌, ◌<◌, ℤ, pos, ◌+ℤ◌, ◌-ℤ◌, ◌*ℤ◌, ◌≤ℤ◌, ◌<ℤ◌}
use Rattle.std.specs.Int.Signed.{lt_z, le_z, shr_z}
use Rattle.signed.specs.Equality.{eq_z}
use Rattle.refusals.specs.Refusal.{Test, ◌unless◌, bad_parameter, refusal, answered}
use Rattle.axis.specs.Link.{Link}
use Rattle.axis.specs.declared.edge.Axis.{Axis}
use Rattle.axis.specs.Edge.{edge_at}
use Rattle.axis.specs.Limits.{most_units}
use Rattle.axis.specs.Link.{is_linked, links_to}
use Rattle.axis.specs.Refusals.{inside, edges_short, edges_indexed, edges_in_range}
use Rattle.gaps.specs.declared.pair.Pair.{Pair}
use Rattle.gaps.specs.Answer.{Gaps}

-- ---- pixel rows
-- the centre of pixel row k
abbrev pub centre : ℤ → ℤ
centre k = (k *ℤ pos 64) +ℤ pos 32

-- the first row whose centre is not below p: (p + 31) / 64, rounded down
unfoldable pub row_from : ℤ → ℤ
row_from p = shr_z (p +ℤ pos 31) 64

-- how many rows are between p and q, those whose centre is not below p and below q: none where q is not above p
unfoldable pub rows : ℤ → ℤ → ℤ
rows p q = cond (lt_z p q) (row_from q -ℤ row_from p) (pos 0)

-- row k is between p and q
pub record RowBetween (p q k : ℤ) : Type 0 where
  pub not_below : p ≤ℤ centre k
  pub below : centre k <ℤ q

-- ---- pairs
-- edge i is done, or is not
abbrev pub is_done : Axis → ℕ → Bool
is_done axis i = (edge_at axis i).flags.done

abbrev pub not_done : Axis → ℕ → Bool
not_done axis i = not (is_done axis i)

-- a link is asked for: with `linked` there must be one
abbrev pub asked_for : Bool → Link → Bool
asked_for linked link = not linked || is_linked link

-- edge i counts: it is done, and with `linked` it has a link
abbrev pub counts : Bool → Axis → ℕ → Bool
counts linked axis i = asked_for linked (edge_at axis i).link && is_done axis i

-- edges i and j are a pair: both count, and no edge between them does
pub record IsPair (linked : Bool) (axis : Axis) (i j : ℕ) : Type 0 where
  pub order : i < j
  pub below : j < axis.len
  pub first : counts linked axis i ≡ true
  pub second : counts linked axis j ≡ true
  pub between : (k : ℕ) → i < k → k < j → counts linked axis k ≡ false

-- it is a stem where one names the other by its link, else a gap
abbrev pub is_stem : Axis → ℕ → ℕ → Bool
is_stem axis i j = links_to (edge_at axis i).link j || links_to (edge_at axis j).link i

-- how far edge j is behind edge i, before fitting and after it
abbrev pub width_before : Axis → ℕ → ℕ → ℤ
width_before axis i j = (edge_at axis j).opos -ℤ (edge_at axis i).opos

abbrev pub width_after : Axis → ℕ → ℕ → ℤ
width_after axis i j = (edge_at axis j).pos -ℤ (edge_at axis i).pos

-- ---- lost pairs
-- a pair of some width before, from p to q now, is gone: it is turned, or it has no row though it was above 0 wide
unfoldable pub gone : ℤ → ℤ → ℤ → Bool
gone before p q = lt_z (q -ℤ p) (pos 0) || (eq_z (rows p q) (pos 0) && lt_z (pos 0) before)

abbrev pub is_gone : Axis → ℕ → ℕ → Bool
is_gone axis i j = gone (width_before axis i j) (edge_at axis i).pos (edge_at axis j).pos

-- a gap is lost: it was at least `least` wide, and is gone
unfoldable pub lost_gap : ℤ → Axis → ℕ → ℕ → Bool
lost_gap least axis i j = not (is_stem axis i j) && (le_z least (width_before axis i j) && is_gone axis i j)

-- a stem is lost, whatever its width: it is gone
unfoldable pub lost_stem : Axis → ℕ → ℕ → Bool
lost_stem axis i j = is_stem axis i j && is_gone axis i j

-- a pair of either kind is
unfoldable pub lost : ℤ → Axis → ℕ → ℕ → Bool
lost least axis i j = lost_gap least axis i j || lost_stem axis i j

-- ---- the pair that an edge ends
-- the last number below n that passes a test, or none
unfoldable pub last_of : (ℕ → Bool) → ℕ → Link
last_of p zero = None
last_of p (suc n) = cond (p n) (Some n) (last_of p n)

-- the last edge that counts in front of edge j, or none
abbrev pub before : Bool → Axis → ℕ → Link
before linked axis j = last_of (counts linked axis) j

-- no pair
abbrev pub no_pair : Pair
no_pair = record { first = None; second = None; before = pos 0; after = pos 0 }

-- the pair from edge i, where there is one, to edge j
abbrev pub pair_from : Axis → ℕ → Link → Pair
pair_from axis j None = no_pair
pair_from axis j (Some i) = record { first = Some i; second = Some j; before = width_before axis i j; after = width_after axis i j }

-- whether it is of some kind
abbrev pub kind_from : (ℕ → ℕ → Bool) → ℕ → Link → Bool
kind_from kind j None = false
kind_from kind j (Some i) = kind i j

-- the pair that edge j ends, counting as it does: from the last edge in front of it that counts
unfoldable pub pair_to : Bool → Axis → ℕ → Pair
pair_to linked axis j = pair_from axis j (before linked axis j)

-- edge j counts, and the pair that it ends is of some kind
unfoldable pub ends : Bool → Axis → (ℕ → ℕ → Bool) → ℕ → Bool
ends linked axis kind j = counts linked axis j && kind_from kind j (before linked axis j)

-- ---- how many are lost, and the first
-- how many numbers below n pass a test
unfoldable pub counted : (ℕ → Bool) → ℕ → ℕ
counted p zero = 0
counted p (suc n) = cond (p n) (counted p n + 1) (counted p n)

-- one index, or another where there is none
abbrev pub or_else : Link → Link → Link
or_else None other = other
or_else (Some k) other = Some k

-- the first number below n that passes a test, or none
unfoldable pub first_of : (ℕ → Bool) → ℕ → Link
first_of p zero = None
first_of p (suc n) = or_else (first_of p n) (cond (p n) (Some n) None)

-- the pair that an edge ends, where there is one
abbrev pub pair_at : Bool → Axis → Link → Pair
pair_at linked axis None = no_pair
pair_at linked axis (Some j) = pair_to linked axis j

-- what is found among the first n edges: how many of them end a lost gap, the lost pair of either kind that ends first, how many end a lost stem, and how many are not done
unfoldable pub found_to : ℤ → Bool → Axis → ℕ → Gaps
found_to least linked axis n = record {
  answer = 0;
  count = counted (ends linked axis (lost_gap least axis)) n;
  pair = pair_at linked axis (first_of (ends linked axis (lost least axis)) n);
  stems = counted (ends linked axis (lost_stem axis)) n;
  not_done = counted (not_done axis) n;
}

-- and among all
abbrev pub found_in : ℤ → Bool → Axis → Gaps
found_in least linked axis = found_to least linked axis axis.len

-- ---- the call
-- its tests in document 01's order; the least width is one of units
abbrev pub gaps_tests : Axis → ℤ → List Test
gaps_tests axis least = edges_short axis ∷ bad_parameter unless inside (pos 0) (pos most_units) least ∷ edges_indexed axis ∷ edges_in_range axis ∷ []

-- a refusal beside nothing found
abbrev pub refused_by : ℕ → Gaps
refused_by k = record { answer = k; count = 0; pair = no_pair; stems = 0; not_done = 0 }

-- the refusal and nothing found, or 0 and what is found
unfoldable pub lost_gaps : Axis → ℤ → Bool → Gaps
lost_gaps axis least linked = answered (refusal (gaps_tests axis least)) refused_by (found_in least linked axis)

-- what the call owes its caller: the answer, the counts and the first lost pair
abbrev pub FindsLostGaps : Axis → ℤ → Bool → Gaps → Type 0
FindsLostGaps axis least linked r = r ≡ lost_gaps axis least linked

-- ---- for theorems on the definition
-- a pair is gone, as facts
pub record Gone (before p q : ℤ) : Type 0 where
  pub how : (q <ℤ p) ⊎ (((k : ℤ) → RowBetween p q k → ⊥) × (pos 0 <ℤ before))

-- edges i and j are a lost pair, as facts: a gap was wide enough
pub record LostPair (least : ℤ) (linked : Bool) (axis : Axis) (i j : ℕ) : Type 0 where
  pub pair : IsPair linked axis i j
  pub wide : is_stem axis i j ≡ false → least ≤ℤ width_before axis i j
  pub gone : Gone (width_before axis i j) (edge_at axis i).pos (edge_at axis j).pos

-- edges i and j have a pixel row between them
pub record HasRow (axis : Axis) (i j : ℕ) : Type 0 where
  pub row : ℤ
  pub between : RowBetween (edge_at axis i).pos (edge_at axis j).pos row

-- the original positions of edges do not fall, as those of built ones (`edges-rise`, building/proofs/Handed.antt)
pub record EdgesRise (axis : Axis) : Type 0 where
  pub at : (i j : ℕ) → i < j → j < axis.len → (edge_at axis i).opos ≤ℤ (edge_at axis j).opos

-- those of done edges do not
pub record DoneRise (axis : Axis) : Type 0 where
  pub at : (i j : ℕ) → i < j → j < axis.len → is_done axis i ≡ true → is_done axis j ≡ true → (edge_at axis i).opos ≤ℤ (edge_at axis j).opos

-- a table has as many edges as another, at the same original positions, whatever else of them was changed
pub record SameOpos (old new : Axis) : Type 0 where
  pub len : new.len ≡ old.len
  pub at : (i : ℕ) → i < old.len → (edge_at new i).opos ≡ (edge_at old i).opos

-- edges i and j keep their order: the second is not in front of the first, and it is behind it where it was
pub record KeepsOrder (axis : Axis) (i j : ℕ) : Type 0 where
  pub not_turned : (edge_at axis i).pos ≤ℤ (edge_at axis j).pos
  pub not_closed : (edge_at axis i).opos <ℤ (edge_at axis j).opos → (edge_at axis i).pos <ℤ (edge_at axis j).pos

-- a named pair is the first that is lost: it is lost, and every lost pair starts there or behind it
pub record FirstLost (least : ℤ) (linked : Bool) (axis : Axis) (p : Pair) : Type 0 where
  pub i : ℕ
  pub j : ℕ
  pub named : p ≡ pair_from axis j (Some i)
  pub lost : LostPair least linked axis i j
  pub first : (k l : ℕ) → LostPair least linked axis k l → i ≤ k
