-- A catalogue (document 02, #106): outlines that stand one behind another in shared lists of originals o, currents c, touch marks t and contour ends es. Each has as
-- many points as the list ns of point counts says, and as many contour ends as the list ks of contour counts, which are indices from its own first point on.
use Rattle.std.specs.Prelude.{◌≡◌, List, [], ◌∷◌, ◌++◌, ℕ, ◌+◌, eqb, length, take, drop, ℤ}
use Rattle.refusals.specs.Refusal.{Test, ◌unless◌, refusal, answered, too_long}
use Rattle.weak.specs.Weak.{weak_tests, result}

-- ---- the refusal of the whole call
-- what counts add up to
unfoldable pub total : List ℕ → ℕ
total [] = 0
total (n ∷ ns) = n + total ns

-- the tests: three lists of outlines are equally long, and so are three lists of points; the counts add up to the points and to the contour ends
abbrev pub catalogue_tests : List ℤ → List ℤ → List ℕ → List ℕ → List ℕ → List ℕ → List ℕ → List Test
catalogue_tests o c t es ns ks bs =
    too_long unless eqb (length ns) (length bs)
    ∷ too_long unless eqb (length ks) (length bs)
    ∷ too_long unless eqb (length c) (length o)
    ∷ too_long unless eqb (length t) (length o)
    ∷ too_long unless eqb (length o) (total ns)
    ∷ too_long unless eqb (length es) (total ks)
    ∷ []

-- ---- the outlines, one behind another
-- their answers: each that of weak points on its own parts of the lists
unfoldable pub answers_of : List ℤ → List ℤ → List ℕ → List ℕ → List ℕ → List ℕ → List ℕ
answers_of o c t es [] ks = []
answers_of o c t es (n ∷ ns) [] = []
answers_of o c t es (n ∷ ns) (k ∷ ks) =
    refusal (weak_tests (take n o) (take n c) (take n t) (take k es)) ∷ answers_of (drop n o) (drop n c) (drop n t) (drop k es) ns ks

-- and their currents at the end: what weak points leave of each
unfoldable pub currents_of : List ℤ → List ℤ → List ℕ → List ℕ → List ℕ → List ℕ → List ℤ
currents_of o c t es [] ks = []
currents_of o c t es (n ∷ ns) [] = []
currents_of o c t es (n ∷ ns) (k ∷ ks) = result (take n o) (take n c) (take n t) (take k es) ++ currents_of (drop n o) (drop n c) (drop n t) (drop k es) ns ks

-- what `align_catalogue` owes its caller, where the list of answers holds bs: the answer a, 0 or 1, the currents d and the list of answers rs that it leaves. A
-- refusal of the whole call writes nothing
pub record Catalogued (o c : List ℤ) (t es ns ks bs : List ℕ) (a : ℕ) (d : List ℤ) (rs : List ℕ) : Type 0 where
  pub answer : a ≡ refusal (catalogue_tests o c t es ns ks bs)
  pub currents : d ≡ answered (refusal (catalogue_tests o c t es ns ks bs)) (λ _. c) (currents_of o c t es ns ks)
  pub answers : rs ≡ answered (refusal (catalogue_tests o c t es ns ks bs)) (λ _. bs) (answers_of o c t es ns ks)
