-- Words of records that a call accepts, and the order of its tests, whatever the record.
use Rattle.std.specs.Prelude.{◌≡◌, Bool, true, List, [], ◌∷◌, ℕ, leb, ℤ}
use Rattle.refusals.specs.Refusal.{◌unless◌, bad_index, out_of_range, refusal, answered}
use Rattle.words.specs.Record.{Layout, count_of}

-- the words are those of records, no more than the table holds, and none is refused, by the tests of its words, its indices and its numbers
pub record HeldOf {R : Type 0} (L : Layout R) (ws : List ℤ) (shown indexed ranged : Bool) : Type 0 where
  pub words : shown ≡ true
  pub few : leb (count_of L ws) L.most ≡ true
  pub indices : indexed ≡ true
  pub numbers : ranged ≡ true

-- the refusal of records that are not too many, by a call's parameters first, where one of them is refused; then by indices, and then by numbers
unfoldable pub tested_of : ℕ → Bool → Bool → ℕ
tested_of own indexed ranged = answered own (λ (k : ℕ). k) (refusal (bad_index unless indexed ∷ out_of_range unless ranged ∷ []))
