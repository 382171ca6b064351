-- What a point of a contour comes to, by its references.
use mathlib.Core.Path.{◌≡◌, refl}
use mathlib.Core.Bool.{false}
use mathlib.Core.List.{List}
use mathlib.Core.Option.{some, none}
use Prim.Native.Nat.{ℕ, ◌<◌}
use borrow.Author.Tests.{eq-eqb, ne_eqb}
use lib.ListN.{get_or}
use lib.IntN.{ℤ}
use Rattle.weak_contour.specs.Contour.{at, Contour, refs, references, between_at, shifted_at, followed, weak_at, steep_by, steep_followed, steep_at}
use Rattle.weak_contour.proofs.Searches.{is-touched, not-touched}

module _ (o c : List ℤ) (t : List ℕ) (k : Contour) (i : ℕ) where
  -- a touched point stays
  pub weak-touched : 0 < get_or t i 0 → weak_at o c t k i ≡ at c i
  unfolding weak_at
  weak-touched m = rw (is-touched t i m)

  -- an untouched one goes by its references: two
  pub weak-two : (p q : ℕ) → get_or t i 0 ≡ 0 → references t k i ≡ some (refs p q) → (p ≡ q → ⊥) → weak_at o c t k i ≡ between_at o c (refs p q) i
  unfolding weak_at followed
  weak-two p q z e n = rw (not-touched t i z, e, ne_eqb p q n)

  -- the same one on both sides
  pub weak-one : (p : ℕ) → get_or t i 0 ≡ 0 → references t k i ≡ some (refs p p) → weak_at o c t k i ≡ shifted_at o c p i
  unfolding weak_at followed
  weak-one p z e = rw (not-touched t i z, e, eq-eqb p p refl)

  -- or none
  pub weak-none : get_or t i 0 ≡ 0 → references t k i ≡ none → weak_at o c t k i ≡ at c i
  unfolding weak_at followed
  weak-none z e = rw (not-touched t i z, e)

  -- an untouched point by two references is too steep where it is by these
  pub steep-two : (p q : ℕ) → get_or t i 0 ≡ 0 → references t k i ≡ some (refs p q) → steep_at o c t k i ≡ false → steep_by o c (refs p q) i ≡ false
  unfolding steep_at steep_followed
  steep-two p q z e h = rw (not-touched t i z, e) at h
