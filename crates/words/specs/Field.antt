-- The fields of records as words, and back. In a job every word is within its field's values, so what another word reads as is what is simplest.
use Rattle.std.specs.Prelude.{None, Some}
use Rattle.std.specs.Prelude.{Bool, cond, List, [], ◌∷◌, ℕ, ◌+◌, ◌/◌, ◌%◌, eqb, get_or, ℤ, pos, negsuc}
use Rattle.signed.specs.Parts.{up}
use Rattle.signed.specs.Equality.{eq_z}
use Rattle.axis.specs.Refusals.{inside}
use Rattle.axis.specs.Mark.{mark_number}
use Rattle.axis.specs.declared.flags.Flags.{Flags}
use Rattle.axis.specs.Link.{Blue}
use Rattle.axis.specs.declared.kinds.Dimension.{Dimension}
use Rattle.axis.specs.declared.kinds.Dimension.TheVariants as Dimensions
use Rattle.axis.specs.declared.kinds.Direction.{Direction}
use Rattle.axis.specs.declared.kinds.Direction.TheVariants as Directions
use Rattle.axis.specs.declared.kinds.Group.{Group}
use Rattle.axis.specs.declared.kinds.Group.TheVariants as Groups
use Rattle.axis.specs.Link.{Link}
use Rattle.axis.specs.declared.kinds.Mark.{Mark}
use Rattle.axis.specs.declared.kinds.Mark.TheVariants as Marks
use Rattle.fixed.specs.declared.width.WidthRule.{WidthRule}
use Rattle.fixed.specs.declared.width.WidthRule.TheVariants.{Keep, Snap}

-- ---- a word as a field
-- a 16-bit number; a word that is none reads as 0
unfoldable pub short_of : ℤ → ℤ
short_of w = cond (inside (negsuc 32767) (pos 32767) w) w (pos 0)

-- an index
abbrev pub index_of : ℤ → ℕ
index_of w = up w % 65536

-- an index or none
unfoldable pub link_of : ℤ → Link
link_of (pos n) = Some (index_of (pos n))
link_of (negsuc n) = None

-- a choice
unfoldable pub choice_of : ℤ → Bool
choice_of w = eq_z w (pos 1)

-- a direction
abbrev pub directions : List Direction
directions = Directions.None ∷ Directions.Right ∷ Directions.Left ∷ Directions.Up ∷ Directions.Down ∷ []

unfoldable pub direction_of : ℤ → Direction
direction_of w = get_or directions (up w) Directions.None

-- a mark
abbrev pub marks : List Mark
marks =
    Marks.Nothing ∷ Marks.BlueAnchor ∷ Marks.Blue ∷ Marks.Linked ∷ Marks.Anchor ∷ Marks.Stem ∷ Marks.Adjusted ∷ Marks.Bound ∷ Marks.Serif ∷ Marks.LowercaseM ∷ Marks.Between
    ∷ Marks.Spaced ∷ Marks.RemainingAnchor ∷ []

unfoldable pub mark_of : ℤ → Mark
mark_of w = get_or marks (up w) Marks.Nothing

-- a group
unfoldable pub group_of : ℤ → Group
group_of w = cond (choice_of w) Groups.Cjk Groups.Default

-- a dimension
unfoldable pub dimension_of : ℤ → Dimension
dimension_of w = cond (choice_of w) Dimensions.Vertical Dimensions.Horizontal

-- a width rule: keep or snap
unfoldable pub rule_of : ℤ → WidthRule
rule_of w = cond (choice_of w) Snap Keep

-- a blue by two words, whether it is there and its fitted position
unfoldable pub blue_of : ℤ → ℤ → Blue
blue_of present fitted = cond (choice_of present) (Some fitted) None

-- flags: round 1, serif 2, done 4, neutral 8
abbrev pub odd_of : ℕ → Bool
odd_of n = eqb (n % 2) 1

unfoldable pub flags_of : ℤ → Flags
flags_of w = record { round = odd_of (up w); serif = odd_of (up w / 2); done = odd_of (up w / 4); neutral = odd_of (up w / 8) }

-- ---- a field as a word; a number is its own
abbrev pub link_word : Link → ℤ
link_word None = negsuc 0
link_word (Some k) = pos k

abbrev pub direction_word : Direction → ℤ
direction_word Directions.None = pos 0
direction_word Directions.Right = pos 1
direction_word Directions.Left = pos 2
direction_word Directions.Up = pos 3
direction_word Directions.Down = pos 4

abbrev pub mark_word : Mark → ℤ
mark_word m = pos (mark_number m)

-- whether there is a blue, and its fitted position, 0 where there is none
abbrev pub present_word : Blue → ℤ
present_word None = pos 0
present_word (Some z) = pos 1

abbrev pub fitted_word : Blue → ℤ
fitted_word None = pos 0
fitted_word (Some z) = z

-- a weight where a flag is set
abbrev pub weight_of : Bool → ℕ → ℕ
weight_of set n = cond set n 0

unfoldable pub flags_word : Flags → ℤ
flags_word f = pos (weight_of f.round 1 + weight_of f.serif 2 + weight_of f.done 4 + weight_of f.neutral 8)
