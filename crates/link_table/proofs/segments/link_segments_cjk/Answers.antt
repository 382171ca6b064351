-- `link_table::segments::link_segments_cjk` meets its contract: a refusal hands back what came, and an accepted call goes through the rounds.
use mathlib.Core.Path.{◌≡◌, sym, ap, ◌∙◌}
use lib.IntN.{ℤ}
use native.Mathlib.Omega.{arith}
use Rattle.signed.proofs.Signed.{is}
use Rattle.axis.specs.declared.segment.Segments.{Segments}
use Rattle.refusals.specs.Refusal.{refusal}
use Rattle.refusals.proofs.Tests.{answered-no, answered-yes}
use Rattle.refusals.proofs.Outcomes.{number-above, exit}
use Rattle.link.specs.declared.thresholds.Thresholds.{Thresholds}
use Rattle.link.specs.Answer.{linked_of}
use Rattle.link.specs.Rounds.{linked}
use Rattle.link.proofs.Handing.{after-serifs, whole}
use Rattle.link.specs.Linking as L
use Rattle.signed.proofs.By.{by₂}
use Rattle.link.proofs.Calls.{Accepted, accepted}
use Rattle.link.proofs.Numbers.{len-not-below-0}
use Rattle.link_table.proofs.segments.link_segments_cjk.Goals as goal
use Rattle.link_table.proofs.segments.link_segments_cjk.Goals.{In_ok-linking_refusal, After-thresholds_of-thresholds}

-- where the code goes on, the call is accepted
taken : (c : In_ok-linking_refusal) → Accepted c.args.segments c.args.units_per_em c.args.scale
taken c =
    accepted _ _ _ 0 (by₂ (λ (upem scale : ℤ). refusal (L.linking_tests c.args.segments upem scale)) c.in_ok-linking_refusal.ensures (is c.ranges.units_per_em)
    (is c.ranges.scale)) (omega arith)

measured : (c : After-thresholds_of-thresholds) → c.thresholds_of-thresholds.result
    ≡ L.thresholds_of c.args.units_per_em c.args.scale
measured c = by₂ L.thresholds_of c.thresholds_of-thresholds.ensures (is c.ranges.units_per_em) (is c.ranges.scale)

pub returns-in_err-linking_refusal : goal.returns-in_err-linking_refusal
unfolding L.link_segments_cjk
returns-in_err-linking_refusal c =
    let refused = by₂ (λ (upem scale : ℤ). refusal (L.linking_tests c.args.segments upem scale)) c.in_err-linking_refusal.ensures (is c.ranges.units_per_em)
    (is c.ranges.scale) in
    ap (linked_of c.args.segments) (exit _ _ c.from_residual.ensures.1) ∙ answered-no _ _ (L.beside c.args.segments) _ refused (number-above _)

pub thresholds_of-thresholds-requires : goal.thresholds_of-thresholds-requires
thresholds_of-thresholds-requires c = sym (by₂ L.numbers_hold (sym (taken c).numbers) (sym (is c.ranges.units_per_em)) (sym (is c.ranges.scale)))

pub pair_round-paired-requires : goal.pair_round-paired-requires
pair_round-paired-requires c =
    record {
      segments_within = (taken c.before).within;
      pos_bound = rw (measured c) (len-not-below-0 c.args.units_per_em c.args.scale (taken c.before).numbers);
    }

pub serif_round-held-requires : goal.serif_round-held-requires
serif_round-held-requires c = c.pair_round-paired.ensures.segments_within_2

pub last_round-requires : goal.last_round-requires
last_round-requires c = after-serifs _ _ _ c.pair_round-paired.ensures.segments_within_2 c.serif_round-held.ensures

pub returns : goal.returns
unfolding L.link_segments_cjk
returns c =
    let s = c.args in
    let t = whole _ _ _ _ _ _ c.pair_round-paired.ensures.value c.serif_round-held.ensures c.last_round.ensures in
    let by-is = by₂ L.thresholds_of c.thresholds_of-thresholds.ensures (is c.ranges.units_per_em) (is c.ranges.scale) in
    let held = by₂ (λ (upem scale : ℤ). refusal (L.linking_tests c.args.segments upem scale)) c.in_ok-linking_refusal.ensures (is c.ranges.units_per_em)
    (is c.ranges.scale) in
    answered-yes _ _ (L.beside s.segments) _ _ held (omega arith)
    (ap (λ (u : Segments). L.beside u 0) (t ∙ ap (λ (by : Thresholds). linked s.major_dir by s.segments) by-is))
