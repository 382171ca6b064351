-- Reading the words of an edge gives it back.
use Rattle.std.specs.Prelude.{None, Some}
use mathlib.Core.Path.{◌≡◌, refl, sym, ap}
use mathlib.Core.Bool.{Bool, true, false}
use Prim.Native.Nat.{ℕ, ◌<◌}
use native.Mathlib.Nat.{mod-eq_of_lt}
use lib.IntN.{ℤ, pos}
use Rattle.axis.specs.declared.flags.Flags.{Flags}
use Rattle.axis.specs.Link.{Blue}
use Rattle.axis.specs.declared.kinds.Direction.{Direction}
use Rattle.axis.specs.declared.kinds.Direction.TheVariants as Directions
use Rattle.axis.specs.Link.{Link}
use Rattle.axis.specs.declared.kinds.Mark.{Mark}
use Rattle.axis.specs.declared.kinds.Mark.TheVariants as Marks
use Rattle.axis.specs.declared.edge.Edge.{Edge}
use Rattle.axis.specs.Accepted.{Below}
use Rattle.axis.specs.Handed.{Short, TypedEdge}
use Rattle.words.specs.Field.{
  short_of,
  index_of,
  link_of,
  choice_of,
  direction_of,
  blue_of,
  flags_of,
  mark_of,
  link_word,
  direction_word,
  present_word,
  fitted_word,
  flags_word,
  mark_word,
}
use Rattle.words.specs.Edge.{edge_from, edge_words}
use Rattle.words.proofs.Fields.{short-is}

-- ---- fields
pub short_back : (z : ℤ) → Short z → short_of z ≡ z
short_back z h = sym (short-is z h.low h.high)

pub index_back : (k : ℕ) → k < 65536 → index_of (pos k) ≡ k
index_back k h = mod-eq_of_lt h

pub link-back : (l : Link) → Below 65536 l → link_of (link_word l) ≡ l
unfolding link_of
link-back None h = refl
link-back (Some k) h = ap Some (index_back k (h.at k refl))

pub direction-back : (d : Direction) → direction_of (direction_word d) ≡ d
unfolding direction_of
direction-back Directions.None = refl
direction-back Directions.Right = refl
direction-back Directions.Left = refl
direction-back Directions.Up = refl
direction-back Directions.Down = refl

pub mark-back : (m : Mark) → mark_of (mark_word m) ≡ m
unfolding mark_of
mark-back Marks.Nothing = refl
mark-back Marks.BlueAnchor = refl
mark-back Marks.Blue = refl
mark-back Marks.Linked = refl
mark-back Marks.Anchor = refl
mark-back Marks.Stem = refl
mark-back Marks.Adjusted = refl
mark-back Marks.Bound = refl
mark-back Marks.Serif = refl
mark-back Marks.LowercaseM = refl
mark-back Marks.Between = refl
mark-back Marks.Spaced = refl
mark-back Marks.RemainingAnchor = refl

pub blue-back : (b : Blue) → blue_of (present_word b) (fitted_word b) ≡ b
unfolding blue_of choice_of
blue-back None = refl
blue-back (Some z) = refl

pub flags-back : (f : Flags) → flags_of (flags_word f) ≡ f
unfolding flags_of flags_word
flags-back f = by f.round f.serif f.done f.neutral
  where
    by : (r s d n : Bool) → flags_of (flags_word (record { round = r; serif = s; done = d; neutral = n }))
        ≡ record { round = r; serif = s; done = d; neutral = n }
    by true true true true = refl
    by true true true false = refl
    by true true false true = refl
    by true true false false = refl
    by true false true true = refl
    by true false true false = refl
    by true false false true = refl
    by true false false false = refl
    by false true true true = refl
    by false true true false = refl
    by false true false true = refl
    by false true false false = refl
    by false false true true = refl
    by false false true false = refl
    by false false false true = refl
    by false false false false = refl

-- ---- edges
pub edge-back : (e : Edge) → TypedEdge e → edge_from (edge_words e) 0 ≡ e
unfolding edge_from edge_words
edge-back e h =
    rw (
      short_back e.fpos h.fpos,
      flags-back e.flags,
      direction-back e.dir,
      blue-back e.blue,
      link-back e.link h.link,
      link-back e.serif h.serif,
      index_back e.first h.first,
      index_back e.last h.last,
      mark-back e.mark,
    )
