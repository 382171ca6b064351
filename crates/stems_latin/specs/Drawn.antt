-- The words of request #102: how wide a stem is drawn beside an anchor.
use Rattle.std.specs.Prelude.{cond, ℕ, ◌*◌, ◌/◌, ℤ, pos, nat_abs}
use Rattle.std.specs.Int.Signed.{lt_z}

-- how far its edges are apart, by its fitted width w: below 96 twice its half, fraction dropped, so that an odd width loses a unit; else the whole of it
abbrev pub drawn_width : ℤ → ℕ
drawn_width w = cond (lt_z w (pos 96)) (2 * (nat_abs w / 2)) (nat_abs w)
