-- The outcome of the call: that the promise determines it, for what is refused, how few pairs are counted, and what an accepted axis is told of its pairs.
use Rattle.std.specs.Prelude.{None, Some, Result}
use mathlib.Core.Path.{◌≡◌, refl, sym, ap, subst, ◌∙◌}
use mathlib.Core.Bool.{Bool, true, false, not}
use mathlib.Core.Logic.{⊎_elim}
use Prim.Native.Nat.{ℕ, zero, suc, ◌+◌, ◌-◌, ◌<◌, ◌≤◌}
use native.Mathlib.Omega.{arith}
use borrow.Author.Tests.{ltb-true, lt-ltb}
use lib.Dec.{ltb}
use lib.IntN.{ℤ, pos}
use Rattle.refusals.specs.declared.order.Refusal.{Refusal}
use Rattle.refusals.specs.Refusal.{refusal, answered}
use Rattle.refusals.proofs.Answers.{none-refused, worked}
use Rattle.refusals.proofs.Outcomes.{with-answer-one}
use Rattle.refusals.proofs.Tests.{no-refusal}
use Rattle.signed.proofs.Choices.{clash}
use Rattle.signed.proofs.Signed.{lt-or-le}
use Rattle.axis.specs.Link.{Link}
use Rattle.axis.specs.declared.edge.Axis.{Axis}
use Rattle.axis.specs.Handed.{EdgesAccepted}
use Rattle.axis.specs.Limits.{most_units}
use Rattle.axis.specs.Link.{is_linked}
use Rattle.axis.specs.Refusals.{inside}
use Rattle.gaps.specs.declared.find.Gaps as Found
use Rattle.gaps.specs.Answer.{Gaps, gaps_of}
use Rattle.gaps.specs.Gaps.{is_done, not_done, IsPair, lost_gap, lost_stem, lost, no_pair, pair_to, ends, counted, first_of, pair_at, found_to, found_in}
use Rattle.gaps.specs.Gaps.{gaps_tests, refused_by, lost_gaps, FindsLostGaps, LostPair, FirstLost}
use Rattle.gaps.proofs.Ends.{starts_first, ends-pair, pair_ends, first_ends, gap-or-stem, lost-is, is_lost}
use Rattle.gaps.proofs.Firsts.{counted-fewer, counted-parts, counted_none, counted-first, IsFirst, First, first_is}

-- the record tells a result from every other
pub gaps-one : (r s : Result Found.Gaps Refusal) → gaps_of r ≡ gaps_of s → r ≡ s
gaps-one =
    with-answer-one gaps_of (λ (g : Gaps). g.answer) (λ x. refl) (λ r. refl)
    (λ x y e. λ j. record { count = (e j).count; pair = (e j).pair; stems = (e j).stems; not_done = (e j).not_done })

module _ (axis : Axis) (least : ℤ) (linked : Bool) where
  -- two outcomes that the promise of `lost_gaps` allows coincide
  pub determined : {r s : Gaps} → FindsLostGaps axis least linked r → FindsLostGaps axis least linked s → r ≡ s
  determined p q = p ∙ sym q

  -- and so do two results
  pub determined-result : {r s : Result Found.Gaps Refusal} → FindsLostGaps axis least linked (gaps_of r) → FindsLostGaps axis least linked (gaps_of s) → r ≡ s
  determined-result {r} {s} p q = gaps-one r s (determined p q)

  -- a refusal hands back its number, and finds nothing
  pub refused : (k : ℕ) → refusal (gaps_tests axis least) ≡ suc k → lost_gaps axis least linked ≡ refused_by (suc k)
  unfolding lost_gaps
  refused k e = rw e

  -- edges that are accepted, with a width that is right, are answered by 0
  pub accepts : EdgesAccepted axis → inside (pos 0) (pos most_units) least ≡ true → (lost_gaps axis least linked).answer ≡ 0
  unfolding lost_gaps found_to
  accepts a h =
      ap (λ (r : Gaps). r.answer) (worked refused_by (found_in least linked axis) _
      (no-refusal (gaps_tests axis least) (a.short, (h, (a.indexed, (a.in_range, refl))))))

  -- whether edges end a lost pair
  abbrev either : ℕ → Bool
  either = ends linked axis (lost least axis)

  -- gaps and stems are all lost pairs, and fewer than there are edges
  found-both : (found_in least linked axis).count + (found_in least linked axis).stems ≡ counted either axis.len
  unfolding found_to
  found-both = counted-parts _ _ either (gap-or-stem least linked axis) axis.len

  pub few-lost : (lost_gaps axis least linked).count + (lost_gaps axis least linked).stems ≤ axis.len - 1
  unfolding lost_gaps
  few-lost = by (refusal (gaps_tests axis least))
    where
      by : (k : ℕ) → (answered k refused_by (found_in least linked axis)).count + (answered k refused_by (found_in least linked axis)).stems ≤ axis.len - 1
      by zero = let e = found-both in omega (arith, e, counted-fewer either axis.len (first_ends linked axis (lost least axis)))
      by (suc k) = omega arith

  -- ---- what answer 0 says
  module _ (e : (lost_gaps axis least linked).answer ≡ 0) where
    -- the outcome is what is found
    pub outcome : lost_gaps axis least linked ≡ found_in least linked axis
    unfolding lost_gaps found_to
    outcome =
        worked refused_by (found_in least linked axis) _
        (none-refused refused_by (found_in least linked axis) (λ (r : Gaps). r.answer) (λ j. refl) (refusal (gaps_tests axis least)) e)

    -- as many gaps and stems are counted as edges end a lost one, which each has one of (`one-pair`, Ends.antt), and as many edges as are not done
    pub counts-gaps : (lost_gaps axis least linked).count ≡ counted (ends linked axis (lost_gap least axis)) axis.len
    unfolding found_to
    counts-gaps = ap (λ (r : Gaps). r.count) outcome

    pub counts-stems : (lost_gaps axis least linked).stems ≡ counted (ends linked axis (lost_stem axis)) axis.len
    unfolding found_to
    counts-stems = ap (λ (r : Gaps). r.stems) outcome

    pub counts-undone : (lost_gaps axis least linked).not_done ≡ counted (not_done axis) axis.len
    unfolding found_to
    counts-undone = ap (λ (r : Gaps). r.not_done) outcome

    counts-both : (lost_gaps axis least linked).count + (lost_gaps axis least linked).stems ≡ counted either axis.len
    counts-both = ap (λ (r : Gaps). r.count + r.stems) outcome ∙ found-both

    names : (lost_gaps axis least linked).pair ≡ pair_at linked axis (first_of either axis.len)
    unfolding found_to
    names = ap (λ (r : Gaps). r.pair) outcome

    some_first : ltb 0 ((lost_gaps axis least linked).count + (lost_gaps axis least linked).stems) ≡ is_linked (first_of either axis.len)
    some_first = ap (ltb 0) counts-both ∙ counted-first either axis.len

    -- a lost pair is counted
    pub lost-counted : (i j : ℕ) → LostPair least linked axis i j → 0 < (lost_gaps axis least linked).count + (lost_gaps axis least linked).stems
    lost-counted i j l = ltb-true 0 _ (some_first ∙ by (first_of either axis.len) (first_is either axis.len))
      where
        by : (f : Link) → First either axis.len f → is_linked f ≡ true
        by None f =
            absurd (clash _ ((f.none refl).fails j l.pair.below) (pair_ends linked axis (lost least axis) i j l.pair (is_lost least linked axis i j l)))
        by (Some k) f = refl

    -- counts of 0: no pair of the kind is lost, none is named, every edge is done
    none_of : (kind : ℕ → ℕ → Bool) → counted (ends linked axis kind) axis.len ≡ 0 → (i j : ℕ) → IsPair linked axis i j → kind i j ≡ false
    none_of kind z i j p = by (kind i j) refl
      where
        by : (t : Bool) → kind i j ≡ t → t ≡ false
        by true q = absurd (clash _ (counted_none (ends linked axis kind) axis.len z j p.below) (pair_ends linked axis kind i j p q))
        by false q = refl

    pub no-gap-lost : (lost_gaps axis least linked).count ≡ 0 → (i j : ℕ) → IsPair linked axis i j → lost_gap least axis i j ≡ false
    no-gap-lost z = none_of (lost_gap least axis) (sym counts-gaps ∙ z)

    pub no-stem-lost : (lost_gaps axis least linked).stems ≡ 0 → (i j : ℕ) → IsPair linked axis i j → lost_stem axis i j ≡ false
    no-stem-lost z = none_of (lost_stem axis) (sym counts-stems ∙ z)

    pub all_done : (lost_gaps axis least linked).not_done ≡ 0 → (i : ℕ) → i < axis.len → is_done axis i ≡ true
    all_done z i h = by (is_done axis i) (counted_none (not_done axis) axis.len (sym counts-undone ∙ z) i h)
      where
        by : (t : Bool) → not t ≡ false → t ≡ true
        by true q = refl
        by false q = absurd (clash true q refl)

    pub nothing-named : (lost_gaps axis least linked).count ≡ 0 → (lost_gaps axis least linked).stems ≡ 0 → (lost_gaps axis least linked).pair ≡ no_pair
    nothing-named z s = names ∙ by (first_of either axis.len) (sym some_first ∙ (λ x. ltb 0 (z x + s x)))
      where
        by : (f : Link) → is_linked f ≡ ltb 0 0 → pair_at linked axis f ≡ no_pair
        by None h = refl
        by (Some k) h = absurd (clash (is_linked (Some k)) h refl)

    -- a count above 0: the named pair is lost, and it is the first
    pub first-named : 0 < (lost_gaps axis least linked).count + (lost_gaps axis least linked).stems → FirstLost least linked axis (lost_gaps axis least linked).pair
    first-named h =
        subst (FirstLost least linked axis) (sym names) (by (first_of either axis.len) (first_is either axis.len) (sym some_first ∙ lt-ltb 0 _ h))
      where
        not_earlier : (j l : ℕ) → IsFirst either axis.len j → either l ≡ true → j ≤ l
        not_earlier j l f q = ⊎_elim (λ (b : l < j). absurd (clash _ (f.earlier l b) q)) (λ (b : j ≤ l). b) (lt-or-le l j)

        at : (j : ℕ) → IsFirst either axis.len j → FirstLost least linked axis (pair_to linked axis j)
        at j f =
            let ended = ends-pair linked axis (lost least axis) j f.below f.passes in
            record {
              i = ended.i;
              j = j;
              named = ended.named;
              lost = lost-is least linked axis ended.i j ended.pair ended.is;
              first = λ (k l : ℕ) (o : LostPair least linked axis k l).
                  starts_first linked axis ended.i j k l ended.pair o.pair
                  (not_earlier j l f (pair_ends linked axis (lost least axis) k l o.pair (is_lost least linked axis k l o)));
            }

        by : (f : Link) → First either axis.len f → is_linked f ≡ true → FirstLost least linked axis (pair_at linked axis f)
        by None f q = absurd (clash (is_linked None) refl q)
        by (Some j) f q = at j (f.some j refl)
