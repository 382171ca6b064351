-- Document 01's m rows on a lent list, lists of other lengths, each refusal, and request #105's marks: one table, one statement.
use Rattle.std.specs.Prelude.{None, Some}
use mathlib.Core.Path.{◌≡◌, refl}
use mathlib.Core.List.{List, [], ◌∷◌}
use Prim.Native.Nat.{ℕ}
use lib.IntN.{pos}
use lib.ListN.{replicate}
use Rattle.axis.specs.Limits.{most_edges}
use Rattle.refusals.specs.Refusal.{refusal}
use Rattle.axis.specs.Link.{Link}
use Rattle.axis.specs.declared.kinds.Direction.TheVariants as Directions
use Rattle.axis.specs.declared.kinds.Group.{Group}
use Rattle.axis.specs.declared.kinds.Group.TheVariants.{Default, Cjk}
use Rattle.axis.specs.declared.kinds.Mark.{Mark}
use Rattle.axis.specs.declared.kinds.Mark.TheVariants.{Nothing, Blue, Stem, LowercaseM}
use Rattle.axis.specs.declared.edge.Edge.{Edge}
use Rattle.axis.specs.Edge.{fresh_edge, empty_edge, placed, finished, joined_to}
use Rattle.axis.specs.Link.{links_to}
use Rattle.axis.specs.Refusals as R
use Rattle.lowercase_m.specs.M as M
use Rattle.lowercase_m_list.specs.M.{Hinted, hinted, hint_lowercase_m_list}

-- a group and a list, and what the call should hand back
pub record Row : Type 0 where
  pub group : Group
  pub list : List Edge
  pub value : Hinted

-- an edge by opos, pos and link
abbrev edge : ℕ → ℕ → Link → Edge
edge o p link = joined_to (placed (fresh_edge (pos 0) (pos o) Directions.None 0) (pos p) Nothing) link None

-- an edge with a mark
abbrev by : Mark → Edge → Edge
by m e = placed e e.pos m

-- one that the rule has moved, for good
abbrev moved : ℕ → ℕ → Edge
moved o p = finished (by LowercaseM (edge o p None))

-- six edges by the first one's link and the third stem
abbrev six : Link → Edge → List Edge
six link stem = edge 0 0 link ∷ empty_edge ∷ edge 100 128 None ∷ empty_edge ∷ stem ∷ empty_edge ∷ []

-- six by the third stem and the edge behind it, which it may be linked to
abbrev behind : Edge → Edge → List Edge
behind stem link = edge 0 0 None ∷ empty_edge ∷ edge 100 128 None ∷ empty_edge ∷ stem ∷ link ∷ []

-- a third stem at 270, by its opos
abbrev far : ℕ → Edge
far o = edge o 270 None

-- twelve by the third stem and the serifs 8 and 11
abbrev twelve : Edge → Edge → Edge → List Edge
twelve stem low high =
    empty_edge ∷ edge 0 0 None ∷ empty_edge ∷ empty_edge ∷ empty_edge ∷ edge 100 128 None ∷ empty_edge ∷ empty_edge ∷ low ∷ stem ∷ empty_edge ∷ high ∷ []

-- what is handed back beside an answer, or the list as it came
abbrev row : Group → List Edge → ℕ → List Edge → Row
row group list answer after = record { group = group; list = list; value = hinted after answer }

abbrev same : Group → List Edge → ℕ → Row
same group list answer = row group list answer list

abbrev pub worked : List Row
worked =
    row Default (six None (far 207)) 0 (six None (moved 207 256))
    ∷ same Default (six None (far 208)) 0
    ∷ same Cjk (six None (far 207)) 0
    ∷ same Default [] 2
    ∷ same Default (replicate 5 empty_edge) 2
    ∷ same Default (replicate most_edges empty_edge) 2
    ∷ same Default (replicate 129 empty_edge) 1
    ∷ same Default (six (Some 6) (far 207)) 3
    ∷ same Default (six None (far 65536)) 4
    -- a move by nothing marks the stem; the serifs are marked, and are not done
    ∷ row Default (six None (by Stem (edge 207 256 None))) 0 (six None (moved 207 256))
    ∷ row Default (twelve (far 207) (by Blue (edge 190 260 None)) (edge 230 300 None)) 0
    (twelve (moved 207 256) (by LowercaseM (edge 190 246 None)) (by LowercaseM (edge 230 286 None)))
    -- the edge that the third stem is linked to moves with it, is done, and is marked too, whatever it was; a stem that is linked to itself moves twice
    ∷ row Default (behind (edge 207 270 (Some 5)) (by Stem (edge 260 330 None))) 0 (behind (finished (by LowercaseM (edge 207 256 (Some 5)))) (moved 260 316))
    ∷ row Default (behind (edge 207 270 (Some 4)) (by Stem (edge 260 330 None))) 0
    (behind (finished (by LowercaseM (edge 207 242 (Some 4)))) (by Stem (edge 260 330 None)))
    -- marks are kept where the rule does not apply, and by a refusal
    ∷ same Default (twelve (far 208) (by Blue (edge 190 260 None)) (by Stem (edge 230 300 None))) 0
    ∷ same Default (six (Some 6) (by Stem (far 207))) 3
    ∷ []

-- the definition gives the value of each row
abbrev pub All : List Row → Type 0
All [] = Unit {0}
All (r ∷ rs) = (hint_lowercase_m_list r.list r.group ≡ r.value) × All rs

pub all-worked : All worked
unfolding hint_lowercase_m_list M.hint_lowercase_m M.aligned M.applies M.group_holds M.linked_on M.move_stem M.move_serifs M.move_link M.move_done M.move_only links_to
    refusal R.edges_indices
    R.edges_numbers R.edge_indices R.edge_numbers R.link_holds R.blue_holds R.every
all-worked = (refl, (refl, (refl, (refl, (refl, (refl, (refl, (refl, (refl, (refl, (refl, (refl, (refl, (refl, (refl, tt)))))))))))))))
