-- The outcome of the call: for refused segments, for accepted ones, what is built within its limits, and that the promise determines the outcome.
use Rattle.std.specs.Prelude.{None, Result}
use mathlib.Core.Path.{◌≡◌, refl, sym, ◌∙◌}
use mathlib.Core.Bool.{Bool, not}
use mathlib.Core.List.{List, [], ◌∷◌}
use Prim.Native.Nat.{ℕ, suc, ◌<◌}
use native.Mathlib.Omega.{arith}
use lib.IntN.{ℤ, pos}
use Rattle.signed.specs.Range.{Between}
use Rattle.refusals.specs.declared.order.Refusal.{Refusal}
use Rattle.refusals.specs.Refusal.{refusal}
use Rattle.refusals.proofs.Outcomes.{with-answer-one}
use Rattle.fixed.specs.Point.{mul_fix}
use Rattle.axis.specs.declared.edge.Axis.{Axis}
use Rattle.axis.specs.declared.kinds.Group.{Group}
use Rattle.axis.specs.declared.segment.Segments.{Segments}
use Rattle.axis.specs.Accepted.{InZone, EdgeWithin, AxisWithin, SegmentsWithin}
use Rattle.axis.specs.Limits.{most_pos, most_units}
use Rattle.axis.specs.Ring.{times}
use Rattle.axis.specs.Segment.{segment_at}
use Rattle.axis.proofs.Acceptance.{below_none}
use Rattle.build_join.specs.declared.rules.Rules.{Rules}
use Rattle.build_join.specs.Joining.{edge_of, group, shown}
use Rattle.build_join.specs.Walks.{Joinable}
use Rattle.build_join.proofs.Good.{members-below}
use Rattle.build_join.proofs.Members.{times-head}
use Rattle.build_join.proofs.Steps.{of-edge, of-len}
use Rattle.build_properties.specs.Properties.{edge_properties}
use Rattle.build_properties.proofs.Kept.{within-kept}
use Rattle.build.specs.declared.built.Built as Both
use Rattle.build.specs.Answer.{Built, built_of}
use Rattle.build.specs.declared.numbers.Thresholds.{Thresholds}
use Rattle.build.specs.Building.{building_tests, is_cjk, rules_of, last_state, built_segments, built_edges, beside, built, compute_edges, ComputesEdges}
use Rattle.build.proofs.Handing.{built-rows, few-edges, ready}
use Rattle.build.proofs.Joins.{last-good}

-- ---- what is built is within the table
no-blue : InZone None
no-blue = record { at = λ z e. absurd (let q : ◌≡◌ {A = ℕ} 0 1 = cc in omega arith) }

edge-within : (t : Segments) (scale : ℤ) (n : ℕ) (g : List ℕ) → ((x : ℕ) → 0 < times x g → Between most_units most_units (mul_fix (segment_at t x).pos scale))
    → EdgeWithin most_pos n (edge_of t scale g)
edge-within t scale n [] h = record { opos = omega arith; pos = omega arith; blue = no-blue; link = below_none n; serif = below_none n }
edge-within t scale n (m ∷ ms) h =
    let b = h m (omega (arith, times-head m ms)) in
    record { opos = b; pos = omega arith; blue = no-blue; link = below_none n; serif = below_none n }

module _ (t : Segments) (r : Rules) (W : SegmentsWithin t) (J : Joinable t r) where
  pub segments-within : SegmentsWithin (built_segments t (last_state t r))
  segments-within =
      let R = built-rows t r (shown t r (last_state t r)) refl W in
      record {
        few = rw R.size W.few;
        segment = λ i h.
            let l = rw R.size at h in
            let q = R.row i l in
            let w = W.segment i l in
            record {
              score = rw q.score w.score;
              len = rw q.len w.len;
              link = rw (q.link, R.size) w.link;
              serif = rw (q.serif, R.size)
                  w.serif;
            };
      }

  edges-within : AxisWithin most_pos (built_edges t r (last_state t r))
  edges-within =
      let s = last_state t r in
      let j = shown t r s in
      record {
        few = few-edges t r j refl W;
        edge = λ k h.
            let l : k < s.count = omega (arith, of-len t r s j.full j.axis j.next refl) in
            rw (of-edge t r s j.full j.axis j.next refl k)
            (edge-within t r.scale j.axis.len (group s k)
            (λ x p. J.opos x (members-below t r (not r.cjk) s t.len k W.few (last-good t r W.few) l x p)));
      }

  pub properties-within : AxisWithin most_pos (edge_properties (built_edges t r (last_state t r)) (built_segments t (last_state t r)))
  properties-within = within-kept _ _ (ready t r (shown t r (last_state t r)) refl W) most_pos edges-within

-- ---- the call
-- the record tells a result from every other, beside what was given
pub built-one : (t : Segments) (old : Axis) (r s : Result Both.Built Refusal) → built_of t old r ≡ built_of t old s → r ≡ s
built-one t old =
    with-answer-one (built_of t old) (λ (b : Built). b.answer) (λ x. refl) (λ r. refl)
    (λ x y e. λ j. record { segments = (e j).segments; axis = (e j).axis })

module _ (t : Segments) (old : Axis) (group : Group) (ttb : Bool) (scale : ℤ) (by : Thresholds) where
  abbrev rules : Rules
  rules = rules_of old.dim old.major_dir (is_cjk group) scale by

  -- a refusal hands back its number, and segments and edges as they were
  pub refused : (k : ℕ) → refusal (building_tests t old.len ttb scale by) ≡ suc k → compute_edges t old group ttb scale by ≡ beside t old (suc k)
  unfolding compute_edges
  refused k e = rw e

  -- an accepted call hands back what is built
  pub not-refused : refusal (building_tests t old.len ttb scale by) ≡ 0 → compute_edges t old group ttb scale by ≡ built t old rules (last_state t rules)
  unfolding compute_edges
  not-refused e = rw e

  -- two outcomes that the promise of `compute_edges` allows coincide
  pub determined : (a b : Built) → ComputesEdges t old group ttb scale by a → ComputesEdges t old group ttb scale by b → a ≡ b
  determined a b p q = p ∙ sym q

  -- and so do two results
  pub determined-result : {r s : Result Both.Built Refusal} → ComputesEdges t old group ttb scale by (built_of t old r)
      → ComputesEdges t old group ttb scale by (built_of t old s) → r ≡ s
  determined-result {r} {s} p q = built-one t old r s (determined (built_of t old r) (built_of t old s) p q)
