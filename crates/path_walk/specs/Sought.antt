-- A step of a list of steps, or how far a number is behind the list's end.
use Rattle.std.specs.Prelude.{Result, ℕ}
use Rattle.path_trip.specs.declared.step.PathStep.{PathStep}

abbrev pub Sought : Type 0
Sought = Result PathStep ℕ
