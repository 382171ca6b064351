-- Which release the library is of.
use Rattle.std.specs.Prelude.{◌≡◌, ℕ}

-- the number of the release: major * 10,000 + minor * 100 + patch, of which VERSION has the three
unfoldable pub version : ℕ
version = 10000

-- what `khs_version` owes its caller: the answer r
abbrev pub IsVersion : ℕ → Type 0
IsVersion r = r ≡ version
