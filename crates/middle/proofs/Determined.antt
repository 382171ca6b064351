-- The promises of the public calls of this crate determine their answers: two answers that a promise allows coincide.
use Rattle.std.proofs.Common.{◌≡◌, ℤ, sym, ◌∙◌}
use Rattle.middle.specs.Middle.{ComputesMidPos, ComputesMidDelta}

pub compute-mid-pos : (min max r s : ℤ) → ComputesMidPos min max r → ComputesMidPos min max s → r ≡ s
compute-mid-pos min max r s p q = p ∙ sym q

pub compute-mid-delta : (min max r s : ℤ) → ComputesMidDelta min max r → ComputesMidDelta min max s → r ≡ s
compute-mid-delta min max r s p q = p ∙ sym q
