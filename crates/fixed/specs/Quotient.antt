-- What fixed divide answers: the quotient, or none where its magnitude is beyond 2,147,483,647.
use Rattle.std.specs.Prelude.{Option, ℤ}

abbrev pub Quotient : Type 0
Quotient = Option ℤ
