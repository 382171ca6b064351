-- How far the moves take the positions.
use mathlib.Core.Path.{◌≡◌, refl, sym, subst}
use mathlib.Core.Bool.{Bool, true, false}
use Prim.Native.Nat.{ℕ, ◌+◌, ◌<◌, ◌≤◌}
use native.Mathlib.Omega.{arith}
use borrow.Author.Tests.{eqb-true}
use lib.Dec.{eqb}
use mir.Syntax.{w32}
use mir.Val.{to_z, of_z}
use lib.IntN.{ℤ, ◌-ℤ◌}
use Rattle.signed.specs.Range.{Between, I32}
use Rattle.signed.proofs.Signed.{sub-law, fits-in, is, signed}
use Rattle.signed.proofs.Choices.{at_set}
use Rattle.axis.specs.declared.edge.Edge.{Edge}
use Rattle.axis.specs.declared.edge.Axis.{Axis}
use Rattle.axis.specs.Edge.{empty_edge, edge_at, put_edge}
use Rattle.axis.specs.Limits.{most_edges, most_units}
use Rattle.axis.specs.Accepted.{AxisWithin}
use Rattle.lowercase_m.specs.declared.stems.Stems.{Stems}
use Rattle.lowercase_m.specs.M.{stems_of, count_holds, most_delta, move_done, move_only}
use Rattle.lowercase_m.specs.Steps.{Places, InTable, StemsOf, unmoved, thrice_moved}

wider : (m n : ℕ) (z : ℤ) → m ≤ n → Between m m z → Between n n z
wider m n z e h = omega arith

-- within once, twice or thrice the moves, and so within the most
pub further : (m : ℕ) (z : ℤ) → m ≤ thrice_moved → Between m m z → Between thrice_moved thrice_moved z
further m z e h = wider m thrice_moved z e h

moved : (m : ℕ) (p d : ℤ) → Between m m p → Between most_delta most_delta d → Between (m + most_delta) (m + most_delta) (p -ℤ d)
moved m p d h g = omega (arith, signed, sub-law p d)

-- a number within its limit is read back from its bits
pub units-read : (z : ℤ) → Between most_units most_units z → to_z w32 (of_z w32 z) ≡ z
units-read z h = is (fits-in w32 h tt tt)

pub pos-read : (z : ℤ) → Between unmoved unmoved z → to_z w32 (of_z w32 z) ≡ z
pos-read z h = is (fits-in w32 h tt tt)

-- and is within it when read back
pub units-held : (z : ℤ) → Between most_units most_units z → Between most_units most_units (to_z w32 (of_z w32 z))
units-held z h = subst (Between most_units most_units) (sym (units-read z h)) h

pub pos-held : (z : ℤ) → Between unmoved unmoved z → Between unmoved unmoved (to_z w32 (of_z w32 z))
pos-held z h = subst (Between unmoved unmoved) (sym (pos-read z h)) h

pub delta-between : (z : ℤ) → I32 most_delta most_delta z → Between most_delta most_delta z
delta-between z h = omega (arith, h)

-- the positions of an accepted axis
pub places_of : (axis : Axis) → AxisWithin unmoved axis → Places unmoved axis
places_of axis h = record { few = h.few; at = λ (k : ℕ) (q : k < axis.len). (h.edge k q).pos }

-- an edge whose position is within n is put into places within m
put-places : (m n i : ℕ) (axis : Axis) (e : Edge) → m ≤ n → Places m axis → Between n n e.pos → Places n (put_edge axis i e)
put-places m n i axis e w h g = record {
  few = h.few;
  at = λ (k : ℕ) (q : k < axis.len). at_set (λ (x : Edge). Between n n x.pos) axis.edges i k e empty_edge g (wider m n _ w (h.at k q));
}

pub done-places : (m i : ℕ) (axis : Axis) (d : ℤ) → Places m axis → i < axis.len → Between most_delta most_delta d → Places (m + most_delta) (move_done axis i d)
unfolding move_done
done-places m i axis d h q g = put-places m (m + most_delta) i axis _ (omega arith) h (moved m (edge_at axis i).pos d (h.at i q) g)

-- the moves keep the count
pub done-len : (axis : Axis) (i : ℕ) (d : ℤ) → (move_done axis i d).len ≡ axis.len
unfolding move_done
done-len axis i d = refl

pub only-places : (m i : ℕ) (axis : Axis) (d : ℤ) → Places m axis → i < axis.len → Between most_delta most_delta d → Places (m + most_delta) (move_only axis i d)
unfolding move_only
only-places m i axis d h q g = put-places m (m + most_delta) i axis _ (omega arith) h (moved m (edge_at axis i).pos d (h.at i q) g)

-- places within m are places within more
pub wider-places : (m n : ℕ) (axis : Axis) → m ≤ n → Places m axis → Places n axis
wider-places m n axis w h = record { few = h.few; at = λ (k : ℕ) (q : k < axis.len). wider m n _ w (h.at k q) }

-- the stems of 6 or 12 edges are edges
pub stems-hold : (axis : Axis) → axis.len ≤ most_edges → count_holds axis.len ≡ true → StemsOf axis (stems_of axis.len)
stems-hold axis few h = by_count (eqb axis.len 6) refl
  where
    by_count : (six : Bool) → eqb axis.len 6 ≡ six → StemsOf axis (stems_of axis.len)
    by_count true e =
        let n = eqb-true axis.len 6 e in rw e (record { few = few; first_below = omega arith; second_below = omega arith; third_below = omega arith })
    by_count false e =
        let n = eqb-true axis.len 12 (rw e at h) in
        rw e (record { few = few; first_below = omega arith; second_below = omega arith; third_below = omega arith })

-- the stems of an axis are places of the table
pub in_table : (axis : Axis) (s : Stems) → StemsOf axis s → InTable s
in_table axis s h =
    record { first = omega (arith, h.few, h.first_below); second = omega (arith, h.few, h.second_below); third = omega (arith, h.few, h.third_below) }
