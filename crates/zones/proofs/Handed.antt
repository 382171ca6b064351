-- What the call hands on is accepted by the stem pass: an edge is where it was, or on a zone, or at a fitted width from one that is.
use Rattle.std.specs.Prelude.{None}
use mathlib.Core.Path.{◌≡◌, refl, ap, ◌∙◌}
use mathlib.Core.Bool.{Bool, true, false, cond}
use mathlib.Core.List.{List}
use mathlib.Core.Logic.{inl}
use native.Mathlib.Omega.{arith}
use lib.IntN.{ℤ}
use Rattle.refusals.specs.Refusal.{refusal}
use Rattle.refusals.proofs.Answers.{none-refused, worked}
use Rattle.refusals.proofs.Tests.{all_hold, no-refusal}
use Rattle.fixed.specs.declared.width.WidthRule.{WidthRule}
use Rattle.fixed.specs.Width.{rule_holds}
use Rattle.axis.specs.declared.kinds.Group.{Group}
use Rattle.axis.specs.declared.edge.Axis.{Axis}
use Rattle.axis.specs.Accepted.{Below, AxisWithin}
use Rattle.axis.specs.Handed.{EdgesAccepted}
use Rattle.axis.specs.Limits.{most_pos}
use Rattle.axis.proofs.Acceptance.{below_none}
use Rattle.axis.proofs.Accepting.{edges-accepted, edges-within}
use Rattle.zones.specs.Landed.{AllLanded}
use Rattle.zones.proofs.Landed.{pass-landed, pass-within}
use Rattle.zones.specs.Answer.{Anchored}
use Rattle.zones.specs.Pass.{anchored, blues_of}
use Rattle.zones.specs.Call.{has_blues, blues_where, blues_tests, align_edges_to_blues}
use Rattle.zones.proofs.Anchors.{anchors}

-- the axis that came is where it was
none-landed : (axis : Axis) → AllLanded axis axis
none-landed axis = record { len = refl; edge = λ k q. record { opos = refl; pos = inl refl } }

module _ (axis : Axis) (group : Group) (rule : WidthRule) (xs : List ℤ) where
  abbrev work : Anchored
  work = blues_where axis group rule xs

  -- with or without blue zones
  by-zones : (P : Anchored → Type 0) → P (blues_of rule xs axis) → P (anchored axis None 0) → P work
  by-zones P p q = go (has_blues group axis.dim)
    where
      go : (b : Bool) → P (cond b (blues_of rule xs axis) (anchored axis None 0))
      go true = p
      go false = q

  worked-answer : work.answer ≡ 0
  unfolding blues_of
  worked-answer = by-zones (λ (a : Anchored). a.answer ≡ 0) refl refl

  worked-landed : AxisWithin most_pos axis → AllLanded axis work.axis
  unfolding blues_of
  worked-landed h = by-zones (λ (a : Anchored). AllLanded axis a.axis) (pass-landed rule xs axis None h) (none-landed axis)

  worked-within : AxisWithin most_pos axis → AxisWithin most_pos work.axis
  unfolding blues_of
  worked-within h = by-zones (λ (a : Anchored). AxisWithin most_pos a.axis) (pass-within rule xs axis None h) h

  worked-anchor : Below axis.len work.anchor
  unfolding blues_of
  worked-anchor =
      by-zones (λ (a : Anchored). Below axis.len a.anchor)
      (anchors axis.len rule xs axis.len 0 (record { axis = axis; anchor = None }) (omega arith) (below_none axis.len))
      (below_none axis.len)

  pub outcome : refusal (blues_tests axis rule xs) ≡ 0 → align_edges_to_blues axis group rule xs ≡ work
  unfolding align_edges_to_blues
  outcome e = worked (anchored axis None) work (refusal (blues_tests axis rule xs)) e

  -- edges that are accepted, and a rule that holds, are answered by 0
  pub accepts : EdgesAccepted axis → rule_holds rule xs ≡ true → (align_edges_to_blues axis group rule xs).answer ≡ 0
  accepts a r =
      ap (λ (x : Anchored). x.answer) (outcome (no-refusal (blues_tests axis rule xs) (a.short, (r, (a.indexed, (a.in_range, refl)))))) ∙ worked-answer

  module _ (e : (align_edges_to_blues axis group rule xs).answer ≡ 0) where
    unrefused : refusal (blues_tests axis rule xs) ≡ 0
    unfolding align_edges_to_blues
    unrefused = none-refused (anchored axis None) work (λ (x : Anchored). x.answer) (λ j. refl) (refusal (blues_tests axis rule xs)) e

    given : AxisWithin most_pos axis
    given =
        let t = all_hold (blues_tests axis rule xs) refl unrefused in edges-within axis (record { short = t.0; indexed = t.1.1.0; in_range = t.1.1.1.0 })

    -- with answer 0 the position of every edge is what it was, or at most 196,621 from 0
    pub landed : AllLanded axis (align_edges_to_blues axis group rule xs).axis
    landed = rw (outcome unrefused) (worked-landed given)

    -- so that stems, the calls on one edge, the m rule and blue zones again accept the edges
    pub handed-on : EdgesAccepted (align_edges_to_blues axis group rule xs).axis
    handed-on = rw (outcome unrefused) (edges-accepted _ (worked-within given))

    -- and stems the anchor, which is one of the edges or none
    pub anchor-handed-on : Below (align_edges_to_blues axis group rule xs).axis.len (align_edges_to_blues axis group rule xs).anchor
    anchor-handed-on = rw (landed.len, outcome unrefused) worked-anchor
