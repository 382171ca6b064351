-- What a call may change of the edges that it is given: of the edge in each place so much, by these marks, and nothing else; a refusal changes nothing at all.
use Rattle.std.specs.Prelude.{None, Some}
use Rattle.std.specs.Prelude.{◌≡◌, Bool, true, cond, ◌&&◌, ◌||◌, List, ◌⊎◌, ℕ, ◌<◌, length, get_or}
use Rattle.axis.specs.declared.flags.Flags.{Flags}
use Rattle.axis.specs.Link.{Blue}
use Rattle.axis.specs.declared.kinds.Mark.{Mark}
use Rattle.axis.specs.declared.edge.Edge.{Edge}
use Rattle.axis.specs.declared.edge.Axis.{Axis}
use Rattle.axis.specs.Edge.{empty_edge, changed, placed}
use Rattle.axis.specs.Mark.{among}

-- ---- one edge
-- how much of an edge may be changed, and by which marks that is told
pub data Extent : Type 0 where
  nothing : Extent
  -- its position
  position : List Mark → Extent
  -- its position; and it may become done
  place : List Mark → Extent
  -- its position; and it may become done, lose its zone, and be neutral no longer
  zone : List Mark → Extent

-- flags that are done where they were or have become so, and neutral where this holds
abbrev pub flags_left : Flags → Bool → Bool → Flags
flags_left old done neutral = record { round = old.round; serif = old.serif; done = old.done || done; neutral = neutral }

-- the old zone, where there is one still
abbrev pub zone_left : Blue → Blue → Blue
zone_left old None = None
zone_left old (Some z) = old

-- the old edge, with so much taken from the new one
abbrev pub taking : Extent → Edge → Edge → Edge
taking nothing old new = old
taking (position marks) old new = placed old new.pos new.mark
taking (place marks) old new =
    changed old new.pos new.mark (flags_left old.flags new.flags.done old.flags.neutral) old.blue old.link old.serif old.last
taking (zone marks) old new =
    changed old new.pos new.mark (flags_left old.flags new.flags.done (old.flags.neutral && new.flags.neutral)) (zone_left old.blue new.blue) old.link old.serif
    old.last

-- an edge whose mark was not given has the position that it had
pub record Stayed (old new : Edge) : Type 0 where
  pub pos : new.pos ≡ old.pos
  pub mark : new.mark ≡ old.mark
  pub done : new.flags.done ≡ old.flags.done

-- but for one that was done already and is put on its zone: it keeps its mark
pub record Rezoned (old new : Edge) : Type 0 where
  pub done : old.flags.done ≡ true
  pub mark : new.mark ≡ old.mark
  pub zone : old.blue ≡ Some new.pos

-- what the mark of the new edge tells: it is one of these, or the edge stayed
abbrev pub Told : Extent → Edge → Edge → Type 0
Told nothing old new = Stayed old new
Told (position marks) old new = Stayed old new ⊎ (among marks new.mark ≡ true)
Told (place marks) old new = Stayed old new ⊎ (among marks new.mark ≡ true)
Told (zone marks) old new = Stayed old new ⊎ ((among marks new.mark ≡ true) ⊎ Rezoned old new)

-- the new edge is the old one but for so much
pub record Only (x : Extent) (old new : Edge) : Type 0 where
  pub rest : new ≡ taking x old new
  pub told : Told x old new

-- ---- edges in their places
-- so much in the places that a test names, nothing in the others
abbrev pub wherever : (ℕ → Bool) → Extent → ℕ → Extent
wherever named x i = cond (named i) x nothing

-- as many edges, each the old one but for so much as may be changed in its place
pub record OnlyEdges (extent : ℕ → Extent) (old new : List Edge) : Type 0 where
  pub size : length new ≡ length old
  pub edge : (i : ℕ) → Only (extent i) (get_or old i empty_edge) (get_or new i empty_edge)

-- and the same dimension, major direction and count
pub record OnlyAxis (extent : ℕ → Extent) (old new : Axis) : Type 0 where
  pub dim : new.dim ≡ old.dim
  pub major : new.major_dir ≡ old.major_dir
  pub len : new.len ≡ old.len
  pub edges : OnlyEdges extent old.edges new.edges

-- ---- a call
-- with an answer that is a refusal everything is as it was, and with every answer the change is a small one
pub record Changes {A : Type 0} (Small : A → A → Type 0) (answer : ℕ) (old new : A) : Type 0 where
  pub refused : 0 < answer → new ≡ old
  pub only : Small old new
