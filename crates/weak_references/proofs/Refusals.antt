-- The refusals: the answers in their order, and what is not refused.
use mathlib.Core.Path.{◌≡◌, refl, sym, ap, ◌∙◌}
use mathlib.Core.Bool.{Bool, true, false, cond}
use mathlib.Core.List.{List, [], ◌∷◌, ◌++◌}
use Prim.Native.Nat.{ℕ, ◌≤◌, ◌<◌}
use borrow.Author.Tests.{leb-true, eqb-true, le-leb, lt-leb, eq-eqb, ne_eqb}
use lib.ListN.{length}
use lib.IntN.{ℤ}
use Rattle.refusals.specs.Refusal.{Test, ◌unless◌, refusal, bad_index, unmatched}
use Rattle.refusals.proofs.Tests.{all_hold}
use Rattle.weak_contour.specs.Limits.{most_points}
use Rattle.weak.specs.Weak.{ends_hold, list_tests, number_tests, weak_tests}
use Rattle.weak_known.specs.Known.{matches}
use Rattle.weak_known.proofs.Inserted.{test-fails, test-holds, test-within, front-refused, within-refused, behind-decides}
use Rattle.weak_references.specs.References.{remember_tests, with_tests}

-- the last test
last : (n : ℕ) (h b : Bool) → h ≡ b → refusal (n unless h ∷ []) ≡ cond b 0 n
unfolding refusal
last n h b e = ap (λ (x : Bool). cond x 0 n) e

-- ---- of remembering
module _ (t es b h : List ℕ) where
  pub marks_long : most_points < length t → refusal (remember_tests t es b h) ≡ 1
  marks_long l = test-fails _ _ _ (lt-leb (length t) most_points l)

  module _ (l : length t ≤ most_points) where
    pub before-other : (length b ≡ length t → ⊥) → refusal (remember_tests t es b h) ≡ 1
    before-other n = test-holds _ _ _ (le-leb (length t) most_points l) ∙ test-fails _ _ _ (ne_eqb (length b) (length t) n)

    pub behind-other : length b ≡ length t → (length h ≡ length t → ⊥) → refusal (remember_tests t es b h) ≡ 1
    behind-other e n =
        test-holds _ _ _ (le-leb (length t) most_points l) ∙ test-holds _ _ _ (eq-eqb (length b) (length t) e)
        ∙ test-fails _ _ _ (ne_eqb (length h) (length t) n)

    pub ends-decide : length b ≡ length t → length h ≡ length t → (x : Bool) → ends_hold 0 (length t) es ≡ x
        → refusal (remember_tests t es b h) ≡ cond x 0 bad_index
    ends-decide e f x r =
        test-holds _ _ _ (le-leb (length t) most_points l) ∙ test-holds _ _ _ (eq-eqb (length b) (length t) e)
        ∙ test-holds _ _ _ (eq-eqb (length h) (length t) f) ∙ last bad_index _ x r

-- marks and lists that are not refused
pub record Ready (t es b h : List ℕ) : Type 0 where
  pub points : length t ≤ most_points
  pub before : length b ≡ length t
  pub behind : length h ≡ length t
  pub ends : ends_hold 0 (length t) es ≡ true

pub ready : (t es b h : List ℕ) → refusal (remember_tests t es b h) ≡ 0 → Ready t es b h
ready t es b h e =
    let a = all_hold (remember_tests t es b h) refl e in
    record {
      points = leb-true (length t) most_points a.0;
      before = eqb-true (length b) (length t) a.1.0;
      behind = eqb-true (length h) (length t)
          a.1.1.0;
      ends = a.1.1.1.0;
    }

-- ---- of aligning
module _ (o c : List ℤ) (t es b h : List ℕ) where
  -- the tests behind those of the lists' lengths
  abbrev behind_lists : List Test
  behind_lists = unmatched unless matches t es b h ∷ number_tests o c t es

  -- a list of another length
  pub with-before : (length b ≡ length o → ⊥) → refusal (with_tests o c t es b h) ≡ 1
  with-before n = test-fails _ _ _ (ne_eqb (length b) (length o) n)

  pub with-behind : length b ≡ length o → (length h ≡ length o → ⊥) → refusal (with_tests o c t es b h) ≡ 1
  with-behind e n = test-holds _ _ _ (eq-eqb (length b) (length o) e) ∙ test-fails _ _ _ (ne_eqb (length h) (length o) n)

  module _ (e : length b ≡ length o) (f : length h ≡ length o) where
    front : refusal (with_tests o c t es b h) ≡ refusal (list_tests o c t es ++ behind_lists)
    front = test-holds _ _ _ (eq-eqb (length b) (length o) e) ∙ test-holds _ _ _ (eq-eqb (length h) (length o) f)

    -- the outline's own lists and ends refuse
    pub with-lists : (k : ℕ) → k ≡ refusal (list_tests o c t es) → 0 < k → k ≡ refusal (with_tests o c t es b h)
    with-lists k q n = front-refused (list_tests o c t es) (number_tests o c t es) unmatched (matches t es b h) refl k q n ∙ sym front

    module _ (q : refusal (list_tests o c t es) ≡ 0) where
      -- the lists do not match
      pub with-other : matches t es b h ≡ false → refusal (with_tests o c t es b h) ≡ unmatched
      with-other m = front ∙ within-refused (list_tests o c t es) (number_tests o c t es) unmatched (matches t es b h) refl q m

      -- they do: the numbers decide
      pub with-numbers : matches t es b h ≡ true → refusal (with_tests o c t es b h) ≡ refusal (number_tests o c t es)
      with-numbers m = front ∙ behind-decides (list_tests o c t es) (number_tests o c t es) unmatched (matches t es b h) refl q m

-- what passes the outline's tests of lists and ends
pub record Placed (o c : List ℤ) (t es : List ℕ) : Type 0 where
  pub points : length t ≤ most_points
  pub marks : length t ≡ length o
  pub ends : ends_hold 0 (length t) es ≡ true

pub placed : (o c : List ℤ) (t es : List ℕ) → refusal (list_tests o c t es) ≡ 0 → Placed o c t es
placed o c t es e =
    let a = all_hold (list_tests o c t es) refl e in
    let m = eqb-true (length t) (length o) a.1.1.0 in
    record { points = rw m (leb-true (length o) most_points a.0); marks = m; ends = rw m a.1.1.1.0 }

-- lists of the outline's length that match: the refusals are those of `align_weak_points`
pub refused-alike : (o c : List ℤ) (t es b h : List ℕ) → length b ≡ length o → length h ≡ length o → matches t es b h ≡ true
    → refusal (with_tests o c t es b h) ≡ refusal (weak_tests o c t es)
refused-alike o c t es b h e f m =
    test-holds _ _ _ (eq-eqb (length b) (length o) e) ∙ test-holds _ _ _ (eq-eqb (length h) (length o) f)
    ∙ test-within (list_tests o c t es) (number_tests o c t es) unmatched (matches t es b h) m

-- what is not refused: the lists have the outline's length and match
pub record Fitting (o : List ℤ) (t es b h : List ℕ) : Type 0 where
  pub before : length b ≡ length o
  pub behind : length h ≡ length o
  pub match : matches t es b h ≡ true

pub fitting : (o c : List ℤ) (t es b h : List ℕ) → refusal (with_tests o c t es b h) ≡ 0 → Fitting o t es b h
fitting o c t es b h e =
    let a = all_hold (with_tests o c t es b h) refl e in
    record { before = eqb-true (length b) (length o) a.0; behind = eqb-true (length h) (length o) a.1.0; match = a.1.1.1.1.1.1.0 }

-- and the outline is one that `align_weak_points` accepts
pub with-accepted : (o c : List ℤ) (t es b h : List ℕ) → refusal (with_tests o c t es b h) ≡ 0 → refusal (weak_tests o c t es) ≡ 0
with-accepted o c t es b h e =
    let f = fitting o c t es b h e in
    sym (refused-alike o c t es b h f.before f.behind f.match) ∙ e
