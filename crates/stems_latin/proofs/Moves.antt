-- How far from its ends a stem's edges can be placed.
use Prim.Native.Nat.{ℕ, ◌+◌}
use native.Mathlib.Omega.{arith}
use lib.Dec.{ltb}
use lib.IntN.{ℤ, pos, ◌+ℤ◌, ◌-ℤ◌}
use lib.Signed.{lt_z, quot_z, shr_z}
use Rattle.signed.specs.Range.{Between}
use Rattle.signed.proofs.Operations.{quot-up, quot-dn}
use Rattle.signed.proofs.Signed.{add-law, sub-law, shr-law}
use Rattle.signed.proofs.Choices.{either_way}
use Rattle.fixed.specs.Pixel.{pix_round}
use Rattle.fixed.proofs.Pixels.{round-law}
use Rattle.axis.specs.Limits.{most_units}
use Rattle.stems_latin.specs.Latin.{most_start, most_length, most_width, most_centre}
use Rattle.stems_latin.specs.Latin.{
  centre_of,
  thin_centre,
  thin_first,
  thin_second,
  by_first,
  by_second,
  centre_move,
  wide_first,
  anchored_first,
  anchored_second,
  free_first,
}
use Rattle.stems_latin.proofs.Chosen.{chosen-near}

-- ---- the centre
pub centre-range : (start l : ℤ) → Between most_start most_start start → Between most_length most_length l → Between most_centre most_centre (centre_of start l)
unfolding centre_of
centre-range start l h g = omega (arith, add-law start (shr_z l 2), shr-law l 2 tt)

-- ---- the first edge of a wide stem
-- what holds of both candidates holds of it
wide-either : (P : ℤ → Type 0) (start l w : ℤ) → P (by_first start) → P (by_second start l w) → P (wide_first start l w)
unfolding wide_first
wide-either P start l w h g =
    let c = centre_of start l in
    either_way P (ltb (centre_move (by_first start) w c) (centre_move (by_second start l w) w c)) (by_first start) (by_second start l w) h g

-- ---- the placed edges, by the ends of the stem
-- the start and the end of a stem are within b, its length and its width within their limits
pub record Ends (b : ℕ) (start l w : ℤ) : Type 0 where
  pub start_within : Between b b start
  pub end_within : Between b b (start +ℤ l)
  pub length_within : Between most_length most_length l
  pub width_within : Between most_width most_width w

-- what placing an edge adds to that: a rounding and a width
abbrev pub most_shift : ℕ
most_shift = most_width + 32

-- an edge placed by ends within b
abbrev pub Placed : ℕ → ℤ → Type 0
Placed b z = Between (b + most_shift) (b + most_shift) z

-- a stem within the limits
pub most-ends : (start l w : ℤ) → Between most_start most_start start → Between most_length most_length l → Between most_width most_width w
    → Ends (most_start + most_length) start l w
most-ends start l w h g k = record { start_within = omega arith; end_within = omega (arith, add-law start l); length_within = g; width_within = k }

-- beside an anchor at p, original position o, a stem of original positions e and f
pub anchored-ends : (b : ℕ) (p o e f w : ℤ)
    → Between b b p → Between most_units most_units o → Between most_units most_units e → Between most_units most_units f → Between most_width most_width w
    → Ends (b + most_length) (p +ℤ (e -ℤ o)) (f -ℤ e) w
anchored-ends b p o e f w hp ho he hf hw = record {
  start_within = omega (arith, add-law p (e -ℤ o), sub-law e o);
  end_within = omega (arith, add-law (p +ℤ (e -ℤ o)) (f -ℤ e), add-law p (e -ℤ o), sub-law e o, sub-law f e);
  length_within = omega (arith, sub-law f e);
  width_within = hw;
}

-- a stem of original positions e and f without an anchor
pub free-ends : (e f w : ℤ) → Between most_units most_units e → Between most_units most_units f → Between most_width most_width w → Ends most_units e (f -ℤ e) w
free-ends e f w he hf hw = record {
  start_within = he;
  end_within = omega (arith, add-law e (f -ℤ e), sub-law f e);
  length_within = omega (arith, sub-law f e);
  width_within = hw;
}

-- the centre is between the ends
centre-within : (b : ℕ) (start l w : ℤ) → Ends b start l w → Between b b (centre_of start l)
unfolding centre_of
centre-within b start l w h = omega (arith, h.start_within, h.end_within, add-law start l, add-law start (shr_z l 2), shr-law l 2 tt)

thin-first-range : (b : ℕ) (start l w : ℤ) → Ends b start l w → Placed b (thin_first start l w)
unfolding thin_first
thin-first-range b start l w h =
    let m = thin_centre (centre_of start l) w in
    omega (arith, h.width_within, centre-within b start l w h, chosen-near (centre_of start l) w, sub-law m (quot_z w (pos 2)), quot-up w 2, quot-dn w 2)

thin-second-range : (b : ℕ) (start l w : ℤ) → Ends b start l w → Placed b (thin_second start l w)
unfolding thin_second
thin-second-range b start l w h =
    let m = thin_centre (centre_of start l) w in
    omega (arith, h.width_within, centre-within b start l w h, chosen-near (centre_of start l) w, add-law m (quot_z w (pos 2)), quot-up w 2, quot-dn w 2)

pub wide-first-range : (b : ℕ) (start l w : ℤ) → Ends b start l w → Placed b (wide_first start l w)
wide-first-range b start l w h =
    let s = h.start_within in
    let e = h.end_within in
    let k = h.width_within in
    wide-either (Placed b) start l w (omega (arith, round-law start)) (omega (arith, round-law (start +ℤ l), sub-law (pix_round (start +ℤ l)) w))

wide-second-range : (b : ℕ) (start l w : ℤ) → Ends b start l w → Placed b (wide_first start l w +ℤ w)
wide-second-range b start l w h =
    let s = h.start_within in
    let e = h.end_within in
    let k = h.width_within in
    wide-either (λ (z : ℤ). Placed b (z +ℤ w)) start l w
    (omega (arith, round-law start, add-law (pix_round start) w))
    (omega (arith, round-law (start +ℤ l), sub-law (pix_round (start +ℤ l)) w, add-law (pix_round (start +ℤ l) -ℤ w) w))

-- beside an anchor
pub first_range : (b : ℕ) (start l w : ℤ) → Ends b start l w → Placed b (anchored_first start l w)
unfolding anchored_first
first_range b start l w h =
    either_way (Placed b) (lt_z w (pos 96)) (thin_first start l w) (wide_first start l w) (thin-first-range b start l w h) (wide-first-range b start l w h)

pub second_range : (b : ℕ) (start l w : ℤ) → Ends b start l w → Placed b (anchored_second start l w)
unfolding anchored_second
second_range b start l w h =
    either_way (Placed b) (lt_z w (pos 96)) (thin_second start l w) (wide_first start l w +ℤ w) (thin-second-range b start l w h) (wide-second-range b start l w h)

-- without one, and the second edge at its width from the first
pub free-range : (b : ℕ) (opos l w : ℤ) → Ends b opos l w → Placed b (free_first opos l w)
unfolding free_first
free-range b opos l w h =
    let s = h.start_within in
    either_way (Placed b) (lt_z w (pos 96)) (thin_first opos l w) (pix_round opos) (thin-first-range b opos l w h) (omega (arith, round-law opos))

pub free-second-range : (b : ℕ) (opos l w : ℤ) → Ends b opos l w → Placed b (free_first opos l w +ℤ w)
unfolding free_first thin_first
free-second-range b opos l w h =
    let s = h.start_within in
    let k = h.width_within in
    let m = thin_centre (centre_of opos l) w in
    let q = quot_z w (pos 2) in
    either_way (λ (z : ℤ). Placed b (z +ℤ w)) (lt_z w (pos 96)) (m -ℤ q) (pix_round opos)
    (omega (arith, centre-within b opos l w h, chosen-near (centre_of opos l) w, sub-law m q, add-law (m -ℤ q) w, quot-up w 2, quot-dn w 2))
    (omega (arith, round-law opos, add-law (pix_round opos) w))
