-- A place in a word list, or none, where the words are not those that are read.
use Rattle.std.specs.Prelude.{Option, ℕ}

abbrev pub Place : Type 0
Place = Option ℕ
