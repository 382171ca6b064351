-- The outcome of the call: for refused segments, for accepted ones, and that the promise determines it.
use Rattle.std.specs.Prelude.{Result}
use mathlib.Core.Path.{◌≡◌, refl, sym, ◌∙◌, ap}
use Prim.Native.Nat.{ℕ, suc}
use native.Mathlib.Omega.{arith}
use lib.IntN.{ℤ}
use Rattle.refusals.specs.declared.order.Refusal.{Refusal}
use Rattle.refusals.specs.Refusal.{refusal}
use Rattle.refusals.proofs.Outcomes.{with-answer-one}
use Rattle.axis.specs.declared.kinds.Direction.{Direction}
use Rattle.axis.specs.declared.segment.Segments.{Segments}
use Rattle.link.specs.Rounds.{linked}
use Rattle.link.proofs.Unchanged.{OnlyLinked, linked-only}
use Rattle.link.specs.Answer.{Linked, linked_of}
use Rattle.link.specs.Linking.{thresholds_of, linking_tests, beside, link_segments_cjk, LinksSegmentsCjk}
use Rattle.link.proofs.Calls.{accepted}

-- the record tells a result from every other, beside the segments that were given
pub linked-one : (given : Segments) (r s : Result Segments Refusal) → linked_of given r ≡ linked_of given s → r ≡ s
linked-one given = with-answer-one (linked_of given) (λ (l : Linked). l.answer) (λ x. refl) (λ r. refl) (λ x y e. ap (λ (l : Linked). l.segments) e)

module _ (t : Segments) (major : Direction) (upem scale : ℤ) where
  -- a refusal hands back its number and the segments as they were
  pub refused : (k : ℕ) → refusal (linking_tests t upem scale) ≡ suc k → link_segments_cjk t major upem scale ≡ beside t (suc k)
  unfolding link_segments_cjk
  refused k e = rw e

  -- an accepted call hands back 0 and the table of the three rounds
  pub not-refused : refusal (linking_tests t upem scale) ≡ 0 → link_segments_cjk t major upem scale ≡ beside (linked major (thresholds_of upem scale) t) 0
  unfolding link_segments_cjk
  not-refused e = rw e

  -- which changes nothing but score, len, link and serif
  pub only-linked : refusal (linking_tests t upem scale) ≡ 0 → OnlyLinked t (link_segments_cjk t major upem scale).segments
  only-linked e = let a = accepted t upem scale 0 (sym e) (omega arith) in rw (not-refused e) (linked-only major (thresholds_of upem scale) t a.within)

  -- two outcomes that the promise of `link_segments_cjk` allows coincide
  pub determined : (a b : Linked) → LinksSegmentsCjk t major upem scale a → LinksSegmentsCjk t major upem scale b → a ≡ b
  determined a b p q = p ∙ sym q

  -- and so do two results
  pub determined-result : {r s : Result Segments Refusal} → LinksSegmentsCjk t major upem scale (linked_of t r)
      → LinksSegmentsCjk t major upem scale (linked_of t s) → r ≡ s
  determined-result {r} {s} p q = linked-one t r s (determined (linked_of t r) (linked_of t s) p q)
