-- Which edges end lost pairs: each pair has one edge that ends it, so that as many are lost as edges end one.
use Rattle.std.specs.Prelude.{None, Some}
use mathlib.Core.Path.{◌≡◌, refl, sym, ap, subst, ◌∙◌}
use mathlib.Core.Bool.{Bool, true, false, cond, not, ◌&&◌, ◌||◌}
use mathlib.Core.Logic.{⊎_elim}
use Prim.Native.Nat.{ℕ, ◌+◌, ◌≤◌, ◌<◌}
use native.Mathlib.Nat.{eq-or-lt_of_le}
use native.Mathlib.Omega.{arith}
use lib.IntN.{ℤ}
use lib.Signed.{le_z}
use Rattle.refusals.proofs.Tests.{and_first, and_second}
use Rattle.signed.proofs.Choices.{clash}
use Rattle.signed.proofs.Signed.{signed, lt-or-le, is-≤ℤ, to-le-true}
use Rattle.axis.specs.Link.{Link}
use Rattle.axis.specs.declared.edge.Axis.{Axis}
use Rattle.axis.proofs.Tests.{and-false}
use Rattle.gaps.specs.Gaps.{
  counts,
  IsPair,
  is_stem,
  width_before,
  is_gone,
  lost_gap,
  lost_stem,
  lost,
  last_of,
  before,
  pair_from,
  kind_from,
  pair_to,
  ends,
  LostPair,
}
use Rattle.gaps.proofs.Lasts.{last_is, is_last}
use Rattle.gaps.proofs.Losing.{gone-is, is-gone}

-- ---- pairs, by the edge that ends them
module _ (linked : Bool) (axis : Axis) where
  pub pair-starts : (i j : ℕ) → IsPair linked axis i j → before linked axis j ≡ Some i
  pair-starts i j g = is_last (counts linked axis) j i (record { order = g.order; passes = g.first; between = g.between })

  pub starts-pair : (i j : ℕ) → j < axis.len → counts linked axis j ≡ true → before linked axis j ≡ Some i → IsPair linked axis i j
  starts-pair i j h d e =
      let s = (last_is (counts linked axis) j).some i e in record { order = s.order; below = h; first = s.passes; second = d; between = s.between }

  -- two pairs that one edge ends are one
  pub one-pair : (i k j : ℕ) → IsPair linked axis i j → IsPair linked axis k j → i ≡ k
  one-pair i k j g h = same_index (sym (pair-starts i j g) ∙ pair-starts k j h)
    where
      same_index : Some i ≡ Some k → i ≡ k
      same_index e = cc

  -- of two pairs the one that ends first starts first
  pub starts_first : (i j k l : ℕ) → IsPair linked axis i j → IsPair linked axis k l → j ≤ l → i ≤ k
  starts_first i j k l g h o =
      ⊎_elim
      (λ (e : j ≡ l). let q = one-pair i k l (subst (IsPair linked axis i) e g) h in omega arith)
      (λ (b : j < l).
      ⊎_elim (λ (f : k < j). absurd (clash _ (h.between j f b) g.second)) (λ (f : j ≤ k). let q = g.order in omega arith) (lt-or-le k j))
      (eq-or-lt_of_le o)

  -- ---- pairs of a kind
  -- the one that edge j ends
  pub record Ended (kind : ℕ → ℕ → Bool) (j : ℕ) : Type 0 where
    pub i : ℕ
    pub named : pair_to linked axis j ≡ pair_from axis j (Some i)
    pub pair : IsPair linked axis i j
    pub is : kind i j ≡ true

  module _ (kind : ℕ → ℕ → Bool) where
    -- an edge that ends one does so
    pub ends-pair : (j : ℕ) → j < axis.len → ends linked axis kind j ≡ true → Ended kind j
    unfolding ends pair_to
    ends-pair j h e = by (before linked axis j) refl (and_second (counts linked axis j) _ e)
      where
        by : (l : Link) → before linked axis j ≡ l → kind_from kind j (before linked axis j) ≡ true → Ended kind j
        by None q w = absurd (clash false refl (subst (λ (x : Link). kind_from kind j x ≡ true) q w))
        by (Some i) q w = record {
          i = i;
          named = ap (pair_from axis j) q;
          pair = starts-pair i j h (and_first (counts linked axis j) _ e) q;
          is = subst (λ (x : Link). kind_from kind j x ≡ true) q w;
        }

    -- and every one is ended by its second edge
    pub pair_ends : (i j : ℕ) → IsPair linked axis i j → kind i j ≡ true → ends linked axis kind j ≡ true
    unfolding ends
    pair_ends i j g e = rw (g.second, pair-starts i j g) e

    -- the first edge of an axis ends none
    pub first_ends : ends linked axis kind 0 ≡ false
    unfolding ends last_of
    first_ends = and-false (counts linked axis 0)

-- ---- gaps and stems
-- an edge that ends a lost pair ends a lost gap or a lost stem, and not both
pub gap-or-stem : (least : ℤ) (linked : Bool) (axis : Axis) (j : ℕ)
    → cond (ends linked axis (lost_gap least axis) j) 1 0 + cond (ends linked axis (lost_stem axis) j) 1 0 ≡ cond (ends linked axis (lost least axis) j) 1 0
unfolding ends lost lost_gap lost_stem
gap-or-stem least linked axis j = by (counts linked axis j) (before linked axis j)
  where
    kinds : (s w g : Bool) → cond (not s && (w && g)) 1 0 + cond (s && g) 1 0 ≡ cond ((not s && (w && g)) || (s && g)) 1 0
    kinds true w true = refl
    kinds true w false = refl
    kinds false true true = refl
    kinds false true false = refl
    kinds false false g = refl

    by : (c : Bool) (l : Link)
        → cond (c && kind_from (lost_gap least axis) j l) 1 0 + cond (c && kind_from (lost_stem axis) j l) 1 0 ≡ cond (c && kind_from (lost least axis) j l) 1 0
    by false l = refl
    by true None = refl
    by true (Some i) = kinds (is_stem axis i j) (le_z least (width_before axis i j)) (is_gone axis i j)

-- ---- lost pairs, as facts
-- by whether a pair is a stem, was wide enough, and is gone
record Loses (stem wide gone : Bool) : Type 0 where
  held : stem ≡ false → wide ≡ true
  now : gone ≡ true

loses-is : (s w g : Bool) → ((not s && (w && g)) || (s && g)) ≡ true → Loses s w g
loses-is true w g e = record { held = λ n. absurd (clash true n refl); now = e }
loses-is false true true e = record { held = λ n. refl; now = refl }
loses-is false true false e = absurd (clash false refl e)
loses-is false false g e = absurd (clash false refl e)

is-loses : (s w g : Bool) → Loses s w g → ((not s && (w && g)) || (s && g)) ≡ true
is-loses true w g l = l.now
is-loses false w g l = rw (l.held refl, l.now)

module _ (least : ℤ) (linked : Bool) (axis : Axis) (i j : ℕ) where
  pub lost-is : IsPair linked axis i j → lost least axis i j ≡ true → LostPair least linked axis i j
  unfolding lost lost_gap lost_stem
  lost-is p e =
      let l = loses-is (is_stem axis i j) (le_z least (width_before axis i j)) (is_gone axis i j) e in
      record { pair = p; wide = λ s. is-≤ℤ _ _ (l.held s); gone = gone-is _ _ _ l.now }

  pub is_lost : LostPair least linked axis i j → lost least axis i j ≡ true
  unfolding lost lost_gap lost_stem
  is_lost l =
      is-loses (is_stem axis i j) (le_z least (width_before axis i j)) (is_gone axis i j)
      (record { held = λ s. to-le-true least (width_before axis i j) (let w = l.wide s in omega (arith, signed, w)); now = is-gone _ _ _ l.gone })
