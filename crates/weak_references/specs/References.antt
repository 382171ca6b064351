-- Who refers to whom, kept in two lists beside the outline (document 02, request #110): the refusals of both calls in their order, and what they leave. t are the
-- touch marks and es the contour ends; b and h are the lists, each point's entries before and behind.
use Rattle.std.specs.Prelude.{◌≡◌, List, [], ◌∷◌, ◌++◌, ℕ, leb, eqb, length, ℤ}
use Rattle.refusals.specs.Refusal.{Test, ◌unless◌, refusal, answered, too_long, bad_index, unmatched}
use Rattle.weak_contour.specs.Limits.{most_points}
use Rattle.weak.specs.Weak.{ends_hold, list_tests, number_tests, result}
use Rattle.weak_known.specs.Known.{befores, behinds, matches}

-- ---- the refusals
-- the tests of `remember_references`
abbrev pub remember_tests : List ℕ → List ℕ → List ℕ → List ℕ → List Test
remember_tests t es b h =
    too_long unless leb (length t) most_points
    ∷ too_long unless eqb (length b) (length t)
    ∷ too_long unless eqb (length h) (length t)
    ∷ bad_index unless ends_hold 0 (length t) es
    ∷ []

-- the tests of `align_with_references`: those of `align_weak_points`, in front of them the lengths of the lists, and behind the contour ends the match
abbrev pub with_tests : List ℤ → List ℤ → List ℕ → List ℕ → List ℕ → List ℕ → List Test
with_tests o c t es b h =
    too_long unless eqb (length b) (length o)
    ∷ too_long unless eqb (length h) (length o)
    ∷ (list_tests o c t es ++ (unmatched unless matches t es b h ∷ number_tests o c t es))

-- ---- what the calls leave
-- what `remember_references` owes its caller: the answer a, 0 or the number of a refusal, and the lists b' and h' that it leaves; a refusal writes nothing
pub record Remembered (t es b h : List ℕ) (a : ℕ) (b' h' : List ℕ) : Type 0 where
  pub answer : a ≡ refusal (remember_tests t es b h)
  pub before : b' ≡ answered (refusal (remember_tests t es b h)) (λ _. b) (befores t es)
  pub behind : h' ≡ answered (refusal (remember_tests t es b h)) (λ _. h) (behinds t es)

-- what `align_with_references` owes its caller: the answer a, 0 or the number of a refusal, and the currents d that it leaves, what `align_weak_points` leaves
pub record AlignedWith (o c : List ℤ) (t es b h : List ℕ) (a : ℕ) (d : List ℤ) : Type 0 where
  pub answer : a ≡ refusal (with_tests o c t es b h)
  pub currents : d ≡ answered (refusal (with_tests o c t es b h)) (λ _. c) (result o c t es)
