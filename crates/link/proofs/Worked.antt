-- Document 01's row for linking, and cases of each round worked out by hand: one table, one statement.
use Rattle.std.specs.Prelude.{None, Some}
use mathlib.Core.Path.{◌≡◌, refl}
use mathlib.Core.List.{List, [], ◌∷◌, ◌++◌, map}
use Prim.Native.Nat.{ℕ, ◌-◌}
use lib.IntN.{pos}
use lib.ListN.{length, replicate}
use Rattle.refusals.specs.Refusal.{refusal}
use Rattle.fixed.specs.Point.{rounded, rounded_z, div_fix, derived}
use Rattle.axis.specs.declared.kinds.Direction.{Direction}
use Rattle.axis.specs.declared.kinds.Direction.TheVariants.{Right, Up, Down}
use Rattle.axis.specs.Link.{Link}
use Rattle.axis.specs.declared.segment.Segment.{Segment}
use Rattle.axis.specs.declared.segment.Segments.{Segments}
use Rattle.axis.specs.Direction as D
use Rattle.axis.specs.Flags.{normal}
use Rattle.axis.specs.Limits.{most_segments}
use Rattle.axis.specs.Link.{links_to}
use Rattle.axis.specs.Refusals as R
use Rattle.axis.specs.Segment.{empty_segment}
use Rattle.link.specs.Loops.{turns, till}
use Rattle.link.specs.Pairs as P
use Rattle.link.specs.Rounds as Q
use Rattle.link.specs.Answer.{Linked}
use Rattle.link.specs.Linking as L

-- what the definition gives, and what it should
pub record Row : Type 0 where
  pub gives : Linked
  pub value : Linked

infix 3 ◌is◌
abbrev ◌is◌ : Linked → Linked → Row
g is v = record { gives = g; value = v }

-- a segment of a direction at a position, wide from 0 to a coordinate, with this score, len, link and serif
abbrev at : Direction → ℕ → ℕ → ℕ → ℕ → Link → Link → Segment
at dir p wide score len link serif = record {
  flags = normal;
  dir = dir;
  pos = pos p;
  delta = pos 0;
  min_coord = pos 0;
  max_coord = pos wide;
  height = pos 0;
  score = pos score;
  len = pos len;
  link = link;
  serif = serif;
  first = 0;
  last = 0;
  edge = None;
  next = None;
}

-- the table of a few segments
abbrev table : List Segment → Segments
table l = record { segments = l ++ replicate (most_segments - length l) empty_segment; len = length l }

-- the call on them at 1000 per em, where stems overlap by 3 or more, and at scale 65,536, where 192 are three pixels
abbrev call : Direction → List Segment → Linked
call major l = L.link_segments_cjk (table l) major (pos 1000) (pos 65536)

-- the answer 0 beside them
abbrev giving : List Segment → Linked
giving l = L.beside (table l) 0

-- a count above the limit
abbrev crowded : Segments
crowded = record { segments = replicate most_segments empty_segment; len = 513 }

unfoldable pub rows : List Row
rows =
    -- document 01's: positions 0 (major) and 100 (opposite), both 0 to 200 wide, score 32,000, len 0, 1000 per em, scale 65,536: linked to each other, score
    -- 100,
    -- len 200
    (call Up (at Up 0 200 32000 0 None None ∷ at Down 100 200 32000 0 None None ∷ [])
    is giving (at Up 0 200 100 200 (Some 1) None ∷ at Down 100 200 100 200 (Some 0) None ∷ [])) ∷
    -- the pair round: 9 * 8 is not below 8 * 9
    (call Up (at Up 0 200 8 0 None None ∷ at Down 9 200 8 0 None None ∷ [])
    is giving (at Up 0 200 8 0 None None ∷ at Down 9 200 8 0 None None ∷ [])) ∷
    -- 9 * 8 is below 9 * 9 but not below 9 * 7, and the overlap is longer than the len
    (call Up (at Up 0 200 9 199 None None ∷ at Down 9 200 9 199 None None ∷ [])
    is giving (at Up 0 200 9 200 (Some 1) None ∷ at Down 9 200 9 200 (Some 0) None ∷ [])) ∷
    -- it is no longer than the len
    (call Up (at Up 0 200 9 200 None None ∷ at Down 9 200 9 200 None None ∷ [])
    is giving (at Up 0 200 9 200 None None ∷ at Down 9 200 9 200 None None ∷ [])) ∷
    -- 7 * 8 is below 9 * 7, whatever the len
    (call Up (at Up 0 200 9 200 None None ∷ at Down 7 200 9 300 None None ∷ [])
    is giving (at Up 0 200 7 200 (Some 1) None ∷ at Down 7 200 7 200 (Some 0) None ∷ [])) ∷
    -- an overlap of 2 is too little
    (call Up (at Up 0 2 32000 0 None None ∷ at Down 100 200 32000 0 None None ∷ [])
    is giving (at Up 0 2 32000 0 None None ∷ at Down 100 200 32000 0 None None ∷ [])) ∷
    -- one of 3 is enough
    (call Up (at Up 0 3 32000 0 None None ∷ at Down 100 200 32000 0 None None ∷ [])
    is giving (at Up 0 3 100 3 (Some 1) None ∷ at Down 100 200 100 3 (Some 0) None ∷ [])) ∷
    -- the second is before the first
    (call Up (at Up 100 200 32000 0 None None ∷ at Down 0 200 32000 0 None None ∷ [])
    is giving (at Up 100 200 32000 0 None None ∷ at Down 0 200 32000 0 None None ∷ [])) ∷
    -- a better stem takes the first segment from the one before, whose other segment becomes a serif in the last round
    (call Up (at Up 0 200 32000 0 None None ∷ at Down 100 200 32000 0 None None ∷ at Down 50 200 32000 0 None None ∷ [])
    is giving (at Up 0 200 50 200 (Some 2) None ∷ at Down 100 200 100 200 None (Some 2) ∷ at Down 50 200 50 200 (Some 0) None ∷ [])) ∷
    -- the serif round, where no segment has the major direction: the stem of 0 and 1 is enclosed by that of 2 and 3, and not three times as long
    (call Right (at Up 10 200 20 29 (Some 1) None ∷ at Up 30 200 20 10 (Some 0) None ∷ at Up 5 200 30 10 (Some 3) None ∷ at Up 40 200 30 10 (Some 2) None ∷ [])
    is giving (at Up 10 200 20 29 None None ∷ at Up 30 200 20 10 None None ∷ at Up 5 200 30 10 (Some 3) None ∷ at Up 40 200 30 10 (Some 2) None ∷ [])) ∷
    -- it is three times as long: every link to 2 or to 3 is rewritten
    (call Right (at Up 10 200 20 30 (Some 1) None ∷ at Up 30 200 20 10 (Some 0) None ∷ at Up 5 200 30 10 (Some 3) None ∷ at Up 40 200 30 10 (Some 2) None
    ∷ at Up 100 200 500 10 (Some 2) None ∷ [])
    is giving (at Up 10 200 20 30 (Some 1) None ∷ at Up 30 200 20 10 (Some 0) None ∷ at Up 5 200 30 10 None (Some 0) ∷ at Up 40 200 30 10 None (Some 1)
    ∷ at Up 100 200 500 10 None (Some 1) ∷ [])) ∷
    -- a score of four times as much encloses nothing
    (call Right (at Up 10 200 20 30 (Some 1) None ∷ at Up 30 200 20 10 (Some 0) None ∷ at Up 5 200 80 10 (Some 3) None ∷ at Up 40 200 80 10 (Some 2) None ∷ [])
    is giving (at Up 10 200 20 30 (Some 1) None ∷ at Up 30 200 20 10 (Some 0) None ∷ at Up 5 200 80 10 (Some 3) None ∷ at Up 40 200 80 10 (Some 2) None ∷ [])) ∷
    -- nor does a stem that coincides
    (call Right (at Up 10 200 20 30 (Some 1) None ∷ at Up 30 200 20 10 (Some 0) None ∷ at Up 10 200 30 10 (Some 3) None ∷ at Up 30 200 30 10 (Some 2) None ∷ [])
    is giving (at Up 10 200 20 30 (Some 1) None ∷ at Up 30 200 20 10 (Some 0) None ∷ at Up 10 200 30 10 (Some 3) None ∷ at Up 30 200 30 10 (Some 2) None ∷ [])) ∷
    -- the last round: a link that is not returned leaves a serif where the other segment is near
    (call Right (at Up 50 200 4000 10 (Some 1) None ∷ at Up 0 200 191 10 (Some 2) None ∷ at Up 10 200 191 10 (Some 1) None ∷ [])
    is giving (at Up 50 200 4000 10 None (Some 2) ∷ at Up 0 200 191 10 (Some 2) None ∷ at Up 10 200 191 10 (Some 1) None ∷ [])) ∷
    -- or where the score is below four times its score
    (call Right (at Up 50 200 3999 10 (Some 1) (Some 1) ∷ at Up 0 200 1000 10 (Some 2) None ∷ at Up 10 200 1000 10 (Some 1) None ∷ [])
    is giving (at Up 50 200 3999 10 None (Some 2) ∷ at Up 0 200 1000 10 (Some 2) None ∷ at Up 10 200 1000 10 (Some 1) None ∷ [])) ∷
    -- and else the serif that there was
    (call Right (at Up 50 200 4000 10 (Some 1) (Some 1) ∷ at Up 0 200 1000 10 (Some 2) None ∷ at Up 10 200 1000 10 (Some 1) None ∷ [])
    is giving (at Up 50 200 4000 10 None (Some 1) ∷ at Up 0 200 1000 10 (Some 2) None ∷ at Up 10 200 1000 10 (Some 1) None ∷ [])) ∷
    -- refused: a link to a third segment of two
    (call Up (at Up 0 200 0 0 (Some 2) None ∷ at Down 9 200 0 0 None None ∷ []) is L.beside
    (table (at Up 0 200 0 0 (Some 2) None ∷ at Down 9 200 0 0 None None ∷ [])) 3) ∷
    -- refused: a score above the table
    (call Up (at Up 0 200 65536 0 None None ∷ []) is L.beside (table (at Up 0 200 65536 0 None None ∷ [])) 4) ∷
    -- refused: 15 units per em, though the score is above the table too
    (L.link_segments_cjk (table (at Up 0 200 65536 0 None None ∷ [])) Up (pos 15) (pos 65536) is L.beside (table (at Up 0 200 65536 0 None None ∷ [])) 2) ∷
    -- refused: a count of 513, at scale 0
    (L.link_segments_cjk crowded Up (pos 1000) (pos 0) is L.beside crowded 1) ∷
    []

-- each row holds
pub worked : map (λ (r : Row). r.gives) rows ≡ map (λ (r : Row). r.value) rows
unfolding rounded rounded_z div_fix derived D.same D.opposite links_to R.link_holds R.every R.segment_indices R.segment_next R.segment_numbers R.segments_indices
    R.segments_nexts
    R.segments_numbers refusal turns till P.max_z P.min_z P.gap_of P.facing P.check_seg P.improved_by P.near_stem P.encloses P.much_longer P.rewritten P.stays_serif
    P.settled Q.improve_pair
    Q.pair_turn Q.major_turn Q.pair_round Q.rewrite_turn Q.rewrite_all Q.unlink Q.held_to Q.given_up_to Q.hold_turn Q.given_up Q.hold Q.serif_to Q.serif_turn Q.serif_round
    Q.last_to Q.last_turn
    Q.last_round Q.linked L.thresholds_of L.numbers_hold L.link_segments_cjk rows
worked = refl
