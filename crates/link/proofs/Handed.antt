-- What linking hands on is accepted by building, and by linking again.
use mathlib.Core.Path.{◌≡◌, refl, sym, ap}
use mathlib.Core.Bool.{true}
use Prim.Native.Nat.{◌<◌}
use native.Mathlib.Omega.{arith}
use lib.IntN.{ℤ}
use Rattle.refusals.specs.Refusal.{refusal}
use Rattle.refusals.proofs.Answers.{none-refused}
use Rattle.refusals.proofs.Tests.{no-refusal}
use Rattle.axis.specs.declared.kinds.Direction.{Direction}
use Rattle.axis.specs.declared.segment.Segment.{Segment}
use Rattle.axis.specs.declared.segment.Segments.{Segments}
use Rattle.axis.specs.Accepted.{SegmentsWithin}
use Rattle.axis.specs.Handed.{Typed, SegmentsAccepted}
use Rattle.axis.specs.Refusals.{segments_nexts}
use Rattle.axis.proofs.Acceptance.{nexts-below}
use Rattle.axis.proofs.Accepting.{segments-accepted, nexts-hold}
use Rattle.link.specs.Rounds.{linked}
use Rattle.link.proofs.Ranges.{linked-within}
use Rattle.link.specs.Linking.{numbers_hold, thresholds_of, linking_tests, beside, link_segments_cjk}
use Rattle.link.proofs.Calls.{Accepted, accepted}
use Rattle.link.proofs.Numbers.{len-not-below-0}
use Rattle.link.proofs.Determined.{not-refused, only-linked}

module _ (t : Segments) (major : Direction) (upem scale : ℤ) where
  -- segments that are accepted, and numbers within the table, are answered by 0
  pub accepts : SegmentsAccepted t → segments_nexts t ≡ true → numbers_hold upem scale ≡ true → (link_segments_cjk t major upem scale).answer ≡ 0
  accepts a n h = rw (not-refused t major upem scale (no-refusal (linking_tests t upem scale) (a.short, (h, (a.indexed, (n, (a.in_range, refl)))))))

  module _ (e : (link_segments_cjk t major upem scale).answer ≡ 0) where
    unrefused : refusal (linking_tests t upem scale) ≡ 0
    unfolding link_segments_cjk
    unrefused =
        none-refused (beside t) (beside (linked major (thresholds_of upem scale) t) 0) (λ r. r.answer) (λ j. refl) (refusal (linking_tests t upem scale)) e

    taken : Accepted t upem scale
    taken = accepted t upem scale 0 (sym unrefused) (omega arith)

    -- what a call hands back with answer 0 is within document 01's limits: each link and serif below the count, each score and len within the table
    pub handed-within : Typed t → SegmentsWithin (link_segments_cjk t major upem scale).segments
    handed-within c =
        rw (not-refused t major upem scale unrefused)
        (linked-within major (thresholds_of upem scale) t (len-not-below-0 upem scale taken.numbers) c taken.within)

    -- so that building, whose own numbers are good, refuses it on no account of its segments
    pub handed-on : Typed t → SegmentsAccepted (link_segments_cjk t major upem scale).segments
    handed-on c = segments-accepted _ (handed-within c)

    -- and linking neither: each next is that of the segment given
    pub nexts-handed-on : segments_nexts (link_segments_cjk t major upem scale).segments ≡ true
    nexts-handed-on =
        let o = only-linked t major upem scale unrefused in
        nexts-hold (link_segments_cjk t major upem scale).segments
        (λ i h.
        let q : i < t.len = rw o.size at h in
        let same = ap (λ (s : Segment). s.next) (o.rest i q).same in
        rw (o.size, same) (nexts-below t i taken.within.few taken.nexts q))
