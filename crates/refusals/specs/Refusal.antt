-- The refusals of a call (document 01, "Five refusals, tested in this order"): a list of tests in the call's order, each with the number that is given where it
-- fails.
use Rattle.std.specs.Prelude.{Bool, cond, List, [], ◌∷◌, ℕ, zero, suc}

-- ---- the numbers
-- a list is too long, or the point lists of one outline differ in length
abbrev pub too_long : ℕ
too_long = 1

-- a number or a list that is passed beside the tables breaks its rule
abbrev pub bad_parameter : ℕ
bad_parameter = 2

-- a contour end or an index breaks its rule
abbrev pub bad_index : ℕ
bad_index = 3

-- a coordinate, position, score, len or delta is outside the table
abbrev pub out_of_range : ℕ
out_of_range = 4

-- building calls for one edge more than there is room for
abbrev pub no_room : ℕ
no_room = 5

-- a line of a log is no frame (request #103)
abbrev pub no_frame : ℕ
no_frame = 6

-- an edge has no segment, or a ring that is not sound (requests #107 and #113); the tests have it last
abbrev pub broken_ring : ℕ
broken_ring = 7

-- a point between its references needs a quotient that is too steep (request #109); the tests have it behind 4
abbrev pub steep : ℕ
steep = 8

-- a list of references does not match touch marks and contours (request #110); the tests have it behind 3
abbrev pub unmatched : ℕ
unmatched = 9

-- an order of edges is asked for that is retired (request #114); the tests have it right behind 1
abbrev pub retired : ℕ
retired = 10

-- ---- the tests
-- a test, and the number of the refusal where it fails
pub record Test : Type 0 where
  pub number : ℕ
  pub holds : Bool

-- the refusal by this number unless the test holds
infixl 80 ◌unless◌
abbrev pub ◌unless◌ : ℕ → Bool → Test
n unless h = record { number = n; holds = h }

-- the first refusal that applies, or 0
unfoldable pub refusal : List Test → ℕ
refusal [] = 0
refusal (t ∷ ts) = cond t.holds (refusal ts) t.number

-- the refusal so far, or that of one test more
unfoldable pub or_refused : ℕ → Bool → ℕ → ℕ
or_refused zero h n = cond h 0 n
or_refused (suc k) h n = suc k

-- what a call hands back: the result of its work beside 0, or what was given beside the refusal
abbrev pub answered : {A : Type 0} → ℕ → (ℕ → A) → A → A
answered zero refused result = result
answered (suc k) refused result = refused (suc k)
