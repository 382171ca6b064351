-- The list of alterations as words, one alteration behind the other.
use Rattle.std.specs.Prelude.{◌≡◌, List, [], ◌∷◌, ◌++◌, ℕ, ◌+◌, ◌*◌, length, ℤ, pos}
use Rattle.words.specs.Field.{link_word}
use Rattle.words.specs.Word.{written}
use Rattle.mend.specs.Altered.{Alteration, table_number, field_number}

-- how many words an alteration is
abbrev pub alteration_size : ℕ
alteration_size = 5

-- table, index, field, old value, new value
abbrev pub alteration_words : Alteration → List ℤ
alteration_words a = pos (table_number a.table) ∷ pos a.index ∷ pos (field_number a.field) ∷ link_word a.old ∷ link_word a.new ∷ []

unfoldable pub list_words : List Alteration → List ℤ
list_words [] = []
list_words (a ∷ xs) = alteration_words a ++ list_words xs

-- these are listed in a room behind those that are there, as many as a count says; what stands behind them stays
pub record Listed (xs : List Alteration) (count : ℕ) (room : List ℤ) (r : ℕ) (room' : List ℤ) : Type 0 where
  pub counted : r ≡ count + length xs
  pub written_in : room' ≡ written room (alteration_size * count) (list_words xs)
