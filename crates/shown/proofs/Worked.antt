-- The definition on small outlines, by computing.
use mathlib.Core.Path.{◌≡◌, refl}
use mathlib.Core.List.{[], ◌∷◌}
use mathlib.Core.Bool.{Bool}
use Prim.Native.Nat.{ℕ}
use lib.IntN.{pos, negsuc}
use Rattle.shown_rows.specs.Turns.{total}
use Rattle.path_trip.specs.Path.{points, from, front, rest}
use Rattle.path_trip.specs.Legs.{curve_to, legs, tour_by, tour_of}
use Rattle.shown.specs.Shown.{curve_by, places, lines_by, lines_of, ups, downs, black, around, black_count, euler}

-- a square from 32 to 96: left and lower sides through centres are taken in, right and upper ones left out
abbrev shifted : ℕ → ℕ → Bool
shifted = black (lines_of 64 1 (points (pos 32 ∷ pos 96 ∷ pos 96 ∷ pos 32 ∷ []) (pos 32 ∷ pos 32 ∷ pos 96 ∷ pos 96 ∷ []) (1 ∷ 1 ∷ 1 ∷ 1 ∷ [])) 0 (3 ∷ []))

one : black_count shifted 4 ≡ 1
unfolding around total ups downs lines_of lines_by places curve_by tour_of tour_by legs curve_to front rest from
one = refl

-- a ring of eight pixels has one piece and one hole
abbrev ring : ℕ → ℕ → Bool
ring =
    black
    (lines_of 64 1
    (points (pos 0 ∷ pos 192 ∷ pos 192 ∷ pos 0 ∷ pos 64 ∷ pos 64 ∷ pos 128 ∷ pos 128 ∷ [])
    (pos 0 ∷ pos 0 ∷ pos 192 ∷ pos 192 ∷ pos 64 ∷ pos 128 ∷ pos 128 ∷ pos 64 ∷ [])
    (1 ∷ 1 ∷ 1 ∷ 1 ∷ 1 ∷ 1 ∷ 1 ∷ 1 ∷ []))
    0
    (3 ∷ 7 ∷ []))

eight-black : black_count ring 5 ≡ 8
unfolding around total ups downs lines_of lines_by places curve_by tour_of tour_by legs curve_to front rest from
eight-black = refl

no_less : euler ring 5 ≡ pos 0
unfolding around total ups downs lines_of lines_by places curve_by tour_of tour_by legs curve_to front rest from
no_less = refl

-- a corner rounded by a curve
abbrev curved : ℕ → ℕ → Bool
curved = black (lines_of 64 1 (points (pos 0 ∷ pos 128 ∷ pos 128 ∷ pos 0 ∷ []) (pos 0 ∷ pos 0 ∷ pos 128 ∷ pos 128 ∷ []) (1 ∷ 1 ∷ 0 ∷ 1 ∷ [])) 0 (3 ∷ []))

three-black : black_count curved 4 ≡ 3
unfolding around total ups downs lines_of lines_by places curve_by tour_of tour_by legs curve_to front rest from
three-black = refl

-- a 3 of ten pixels: one piece, no hole
abbrev three : ℕ → ℕ → Bool
three =
    black (lines_of 64 1 (points (pos 0 ∷ pos 192 ∷ pos 192 ∷ pos 0 ∷ pos 0 ∷ pos 128 ∷ pos 128 ∷ pos 64 ∷ pos 64 ∷ pos 128 ∷ pos 128 ∷ pos 0 ∷ [])
    (pos 0 ∷ pos 0 ∷ pos 320 ∷ pos 320 ∷ pos 256 ∷ pos 256 ∷ pos 192 ∷ pos 192 ∷ pos 128 ∷ pos 128 ∷ pos 64 ∷ pos 64 ∷ [])
    (1 ∷ 1 ∷ 1 ∷ 1 ∷ 1 ∷ 1 ∷ 1 ∷ 1 ∷ 1 ∷ 1 ∷ 1 ∷ 1 ∷ [])) 0 (11 ∷ []))

three-counts : (black_count three 7 ≡ 10) × (euler three 7 ≡ pos 1)
unfolding around total ups downs lines_of lines_by places curve_by tour_of tour_by legs curve_to front rest from
three-counts = (refl, refl)

-- a lone point on the curve
abbrev lone : ℕ → ℕ → Bool
lone = black (lines_of 64 1 (points (pos 32 ∷ []) (pos 32 ∷ []) (1 ∷ [])) 0 (0 ∷ []))

lone-counts : (black_count lone 3 ≡ 0) × (euler lone 3 ≡ pos 0)
unfolding around total ups downs lines_of lines_by places curve_by tour_of tour_by legs curve_to front rest from
lone-counts = (refl, refl)

-- and off it
abbrev lone-off : ℕ → ℕ → Bool
lone-off = black (lines_of 64 1 (points (pos 32 ∷ []) (pos 32 ∷ []) (0 ∷ [])) 0 (0 ∷ []))

lone-off-counts : (black_count lone-off 3 ≡ 0) × (euler lone-off 3 ≡ pos 0)
unfolding around total ups downs lines_of lines_by places curve_by tour_of tour_by legs curve_to front rest from
lone-off-counts = (refl, refl)

-- a right side through a centre
abbrev at_right : ℕ → ℕ → Bool
at_right = black (lines_of 64 1 (points (pos 0 ∷ pos 32 ∷ pos 32 ∷ pos 0 ∷ []) (pos 0 ∷ pos 0 ∷ pos 64 ∷ pos 64 ∷ []) (1 ∷ 1 ∷ 1 ∷ 1 ∷ [])) 0 (3 ∷ []))

at-right-counts : (black_count at_right 3 ≡ 0) × (euler at_right 3 ≡ pos 0)
unfolding around total ups downs lines_of lines_by places curve_by tour_of tour_by legs curve_to front rest from
at-right-counts = (refl, refl)

-- an upper side through one
abbrev at-upper : ℕ → ℕ → Bool
at-upper = black (lines_of 64 1 (points (pos 0 ∷ pos 64 ∷ pos 64 ∷ pos 0 ∷ []) (pos 0 ∷ pos 0 ∷ pos 32 ∷ pos 32 ∷ []) (1 ∷ 1 ∷ 1 ∷ 1 ∷ [])) 0 (3 ∷ []))

at-upper-counts : (black_count at-upper 3 ≡ 0) × (euler at-upper 3 ≡ pos 0)
unfolding around total ups downs lines_of lines_by places curve_by tour_of tour_by legs curve_to front rest from
at-upper-counts = (refl, refl)

-- a left side through one
abbrev at_left : ℕ → ℕ → Bool
at_left = black (lines_of 64 1 (points (pos 32 ∷ pos 64 ∷ pos 64 ∷ pos 32 ∷ []) (pos 0 ∷ pos 0 ∷ pos 64 ∷ pos 64 ∷ []) (1 ∷ 1 ∷ 1 ∷ 1 ∷ [])) 0 (3 ∷ []))

at-left-counts : (black_count at_left 3 ≡ 1) × (euler at_left 3 ≡ pos 1)
unfolding around total ups downs lines_of lines_by places curve_by tour_of tour_by legs curve_to front rest from
at-left-counts = (refl, refl)

-- a lower side through one
abbrev at-lower : ℕ → ℕ → Bool
at-lower = black (lines_of 64 1 (points (pos 0 ∷ pos 64 ∷ pos 64 ∷ pos 0 ∷ []) (pos 32 ∷ pos 32 ∷ pos 64 ∷ pos 64 ∷ []) (1 ∷ 1 ∷ 1 ∷ 1 ∷ [])) 0 (3 ∷ []))

at-lower-counts : (black_count at-lower 3 ≡ 1) × (euler at-lower 3 ≡ pos 1)
unfolding around total ups downs lines_of lines_by places curve_by tour_of tour_by legs curve_to front rest from
at-lower-counts = (refl, refl)

-- two pixels that meet at a corner are one piece
abbrev corner-to-corner : ℕ → ℕ → Bool
corner-to-corner =
    black (lines_of 64 1 (points (pos 0 ∷ pos 64 ∷ pos 64 ∷ pos 0 ∷ pos 64 ∷ pos 128 ∷ pos 128 ∷ pos 64 ∷ [])
    (pos 0 ∷ pos 0 ∷ pos 64 ∷ pos 64 ∷ pos 64 ∷ pos 64 ∷ pos 128 ∷ pos 128 ∷ []) (1 ∷ 1 ∷ 1 ∷ 1 ∷ 1 ∷ 1 ∷ 1 ∷ 1 ∷ [])) 0 (3 ∷ 7 ∷ []))

corner-to-corner-counts : (black_count corner-to-corner 4 ≡ 2) × (euler corner-to-corner 4 ≡ pos 1)
unfolding around total ups downs lines_of lines_by places curve_by tour_of tour_by legs curve_to front rest from
corner-to-corner-counts = (refl, refl)

-- four around a white one: a hole, though they meet at corners alone
abbrev diamond : ℕ → ℕ → Bool
diamond =
    black (lines_of 64 1 (points (pos 64 ∷ pos 128 ∷ pos 128 ∷ pos 64 ∷ pos 0 ∷ pos 64 ∷ pos 64 ∷ pos 0 ∷ pos 128 ∷ pos 192 ∷ pos 192 ∷ pos 128 ∷ pos 64
    ∷ pos 128 ∷ pos 128 ∷ pos 64 ∷ []) (pos 0 ∷ pos 0 ∷ pos 64 ∷ pos 64 ∷ pos 64 ∷ pos 64 ∷ pos 128 ∷ pos 128 ∷ pos 64 ∷ pos 64 ∷ pos 128 ∷ pos 128
    ∷ pos 128 ∷ pos 128 ∷ pos 192 ∷ pos 192 ∷ []) (1 ∷ 1 ∷ 1 ∷ 1 ∷ 1 ∷ 1 ∷ 1 ∷ 1 ∷ 1 ∷ 1 ∷ 1 ∷ 1 ∷ 1 ∷ 1 ∷ 1 ∷ 1 ∷ [])) 0 (3 ∷ 7 ∷ 11 ∷ 15 ∷ []))

diamond-counts : (black_count diamond 5 ≡ 4) × (euler diamond 5 ≡ pos 0)
unfolding around total ups downs lines_of lines_by places curve_by tour_of tour_by legs curve_to front rest from
diamond-counts = (refl, refl)

-- no point on the curve
abbrev none-on : ℕ → ℕ → Bool
none-on = black (lines_of 64 1 (points (pos 0 ∷ pos 128 ∷ pos 128 ∷ pos 0 ∷ []) (pos 0 ∷ pos 0 ∷ pos 128 ∷ pos 128 ∷ []) (0 ∷ 0 ∷ 0 ∷ 0 ∷ [])) 0 (3 ∷ []))

none-on-counts : (black_count none-on 4 ≡ 4) × (euler none-on 4 ≡ pos 1)
unfolding around total ups downs lines_of lines_by places curve_by tour_of tour_by legs curve_to front rest from
none-on-counts = (refl, refl)

shifted-euler : euler shifted 4 ≡ pos 1
unfolding around total ups downs lines_of lines_by places curve_by tour_of tour_by legs curve_to front rest from
shifted-euler = refl

curved-euler : euler curved 4 ≡ pos 1
unfolding around total ups downs lines_of lines_by places curve_by tour_of tour_by legs curve_to front rest from
curved-euler = refl

-- a contour inside that is not turned is no hole
abbrev filled : ℕ → ℕ → Bool
filled =
    black (lines_of 64 1 (points (pos 0 ∷ pos 192 ∷ pos 192 ∷ pos 0 ∷ pos 64 ∷ pos 128 ∷ pos 128 ∷ pos 64 ∷ [])
    (pos 0 ∷ pos 0 ∷ pos 192 ∷ pos 192 ∷ pos 64 ∷ pos 64 ∷ pos 128 ∷ pos 128 ∷ []) (1 ∷ 1 ∷ 1 ∷ 1 ∷ 1 ∷ 1 ∷ 1 ∷ 1 ∷ [])) 0 (3 ∷ 7 ∷ []))

filled-counts : (black_count filled 5 ≡ 9) × (euler filled 5 ≡ pos 1)
unfolding around total ups downs lines_of lines_by places curve_by tour_of tour_by legs curve_to front rest from
filled-counts = (refl, refl)

-- an 8: one piece, two holes
abbrev an-eight : ℕ → ℕ → Bool
an-eight =
    black (lines_of 64 1 (points (pos 0 ∷ pos 192 ∷ pos 192 ∷ pos 0 ∷ pos 64 ∷ pos 128 ∷ pos 128 ∷ pos 64 ∷ pos 64 ∷ pos 128 ∷ pos 128 ∷ pos 64 ∷ [])
    (pos 0 ∷ pos 0 ∷ pos 320 ∷ pos 320 ∷ pos 128 ∷ pos 128 ∷ pos 64 ∷ pos 64 ∷ pos 256 ∷ pos 256 ∷ pos 192 ∷ pos 192 ∷ [])
    (1 ∷ 1 ∷ 1 ∷ 1 ∷ 1 ∷ 1 ∷ 1 ∷ 1 ∷ 1 ∷ 1 ∷ 1 ∷ 1 ∷ [])) 0 (3 ∷ 7 ∷ 11 ∷ []))

an-eight-counts : (black_count an-eight 7 ≡ 13) × (euler an-eight 7 ≡ negsuc 0)
unfolding around total ups downs lines_of lines_by places curve_by tour_of tour_by legs curve_to front rest from
an-eight-counts = (refl, refl)

-- a slant through a centre, black to its right
abbrev slant-left : ℕ → ℕ → Bool
slant-left = black (lines_of 64 1 (points (pos 0 ∷ pos 64 ∷ pos 64 ∷ []) (pos 0 ∷ pos 0 ∷ pos 64 ∷ []) (1 ∷ 1 ∷ 1 ∷ [])) 0 (2 ∷ []))

slant-left-counts : (black_count slant-left 3 ≡ 1) × (euler slant-left 3 ≡ pos 1)
unfolding around total ups downs lines_of lines_by places curve_by tour_of tour_by legs curve_to front rest from
slant-left-counts = (refl, refl)

-- and to its left
abbrev slant-right : ℕ → ℕ → Bool
slant-right = black (lines_of 64 1 (points (pos 0 ∷ pos 64 ∷ pos 0 ∷ []) (pos 0 ∷ pos 64 ∷ pos 64 ∷ []) (1 ∷ 1 ∷ 1 ∷ [])) 0 (2 ∷ []))

slant-right-counts : (black_count slant-right 3 ≡ 0) × (euler slant-right 3 ≡ pos 0)
unfolding around total ups downs lines_of lines_by places curve_by tour_of tour_by legs curve_to front rest from
slant-right-counts = (refl, refl)

-- two halves that wind in opposite directions
abbrev bow-tie : ℕ → ℕ → Bool
bow-tie = black (lines_of 64 1 (points (pos 0 ∷ pos 128 ∷ pos 128 ∷ pos 0 ∷ []) (pos 0 ∷ pos 128 ∷ pos 0 ∷ pos 128 ∷ []) (1 ∷ 1 ∷ 1 ∷ 1 ∷ [])) 0 (3 ∷ []))

bow-tie-counts : (black_count bow-tie 4 ≡ 2) × (euler bow-tie 4 ≡ pos 1)
unfolding around total ups downs lines_of lines_by places curve_by tour_of tour_by legs curve_to front rest from
bow-tie-counts = (refl, refl)
