-- What the library's `==` says of links, and of directions.
use Rattle.std.specs.Prelude.{◌≡◌, Bool, true, false, not, ℕ, eqb, None, Some}
use Rattle.std.proofs.Common.{refl, ap}
use Rattle.std.specs.Option.{option_eq}
use denote.Enum.Bare.{sameb}
use denote.Enum.Declared.{tag_of}
use Rattle.axis.specs.contracts.kinds.Direction.{the_type}
use Rattle.axis.specs.declared.kinds.Direction.{Direction}
use Rattle.axis.specs.declared.kinds.Direction.TheVariants as Directions
use Rattle.axis.specs.Direction.{number_of, same}
use Rattle.axis.specs.Link.{Link, links_to}

-- `l == Some(i)`
pub option-links : (l : Link) (i : ℕ) → option_eq eqb l (Some i) ≡ links_to l i
unfolding links_to
option-links None i = refl
option-links (Some k) i = refl

-- `l != Some(i)`
pub option-unlinked : (l : Link) (i : ℕ) → not (option_eq eqb l (Some i)) ≡ not (links_to l i)
option-unlinked l i = ap not (option-links l i)

-- the place of a variant is its number
tag-number : (a : Direction) → tag_of the_type a ≡ number_of a
tag-number Directions.None = refl
tag-number Directions.Right = refl
tag-number Directions.Left = refl
tag-number Directions.Up = refl
tag-number Directions.Down = refl

-- `a == b`
pub same-directions : (a b : Direction) → sameb the_type a b ≡ same a b
unfolding same
same-directions a b = λ i. eqb (tag-number a i) (tag-number b i)

-- `a != b`
pub other-directions : (a b : Direction) → not (sameb the_type a b) ≡ not (same a b)
other-directions a b = ap not (same-directions a b)
