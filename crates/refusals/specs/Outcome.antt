-- The outcome of a call, and its answer as C has it.
use Rattle.std.specs.Prelude.{◌≡◌, Bool, true, false, ℕ, Result, Ok, Err}
use Rattle.refusals.specs.declared.order.Refusal.{Refusal}
use Rattle.refusals.specs.declared.order.Refusal.TheVariants as Refusals
use Rattle.refusals.specs.Refusal.{too_long, bad_parameter, bad_index, out_of_range, no_room, no_frame, broken_ring, steep, unmatched, retired}

-- the number of a refusal; that of words which are not those of their fields is the largest of a byte
abbrev pub number_of : Refusal → ℕ
number_of Refusals.TooLong = too_long
number_of Refusals.BadParameter = bad_parameter
number_of Refusals.BadIndex = bad_index
number_of Refusals.OutOfRange = out_of_range
number_of Refusals.NoRoom = no_room
number_of Refusals.NotFrame = no_frame
number_of Refusals.BrokenRing = broken_ring
number_of Refusals.TooSteep = steep
number_of Refusals.Unmatched = unmatched
number_of Refusals.Retired = retired
number_of Refusals.NotWords = 255

-- the answer of an outcome: 0, or the number of the refusal
abbrev pub answer_of : {T : Type 0} → Result T Refusal → ℕ
answer_of (Ok x) = 0
answer_of (Err r) = number_of r

-- the outcome of one test
abbrev pub required : Bool → Refusal → Result Unit Refusal
required true r = Ok tt
required false r = Err r

-- what a test owes its caller: its outcome o
pub record Required (h : Bool) (r : Refusal) (o : Result (Unit {0}) Refusal) : Type 0 where
  pub outcome : o ≡ required h r
