-- The steps that calls of `path_step` hand out, one after the other.
use Rattle.std.specs.Prelude.{List, [], ◌∷◌, ℕ, zero, suc, ℤ}
use Rattle.path_trip.specs.declared.step.PathStep.{PathStep}
use Rattle.path.specs.Answer.{Handed, Refused, Finished, Step}
use Rattle.path.specs.Handing.{handed}

-- the steps of at most n calls, of which the first handed out this, and each other has the cursor that the one before it handed back, up to the first that hands
-- out no step
unfoldable pub follow : List ℤ → List ℤ → List ℕ → List ℕ → ℕ → Handed → List PathStep
follow xs ys marks es zero h = []
follow xs ys marks es (suc n) (Refused r) = []
follow xs ys marks es (suc n) Finished = []
follow xs ys marks es (suc n) (Step s c) = s ∷ follow xs ys marks es n (handed xs ys marks es c.at)
