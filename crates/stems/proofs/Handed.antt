-- What the call hands on: its positions are within `most_fitted`; and which calls it accepts.
use Rattle.std.specs.Prelude.{None}
use mathlib.Core.Path.{◌≡◌, refl, ap}
use mathlib.Core.Bool.{Bool, true, not}
use mathlib.Core.List.{List}
use lib.IntN.{ℤ}
use Rattle.refusals.specs.Refusal.{refusal}
use Rattle.refusals.proofs.Answers.{none-refused, worked}
use Rattle.refusals.proofs.Tests.{all_hold, no-refusal}
use Rattle.fixed.specs.declared.width.WidthRule.{WidthRule}
use Rattle.fixed.specs.Width.{rule_holds}
use Rattle.axis.specs.declared.kinds.Group.{Group}
use Rattle.axis.specs.Link.{Link}
use Rattle.axis.specs.declared.edge.Axis.{Axis}
use Rattle.axis.specs.Accepted.{Below, AxisWithin}
use Rattle.axis.specs.Handed.{EdgesAccepted}
use Rattle.axis.proofs.Acceptance.{axis-within, link-below}
use Rattle.axis.proofs.Accepting.{link-holds}
use Rattle.stems.specs.Answer.{Stems}
use Rattle.stems.specs.Handed.{most_fitted}
use Rattle.stems.specs.Stems.{stems, stems_of, mode_of, stems_tests, align_stem_edges}
use Rattle.stems.proofs.Kept.{pass-keeps}

module _ (axis : Axis) (group : Group) (adjust ttb : Bool) (anchor : Link) (rule : WidthRule) (xs : List ℤ) where
  abbrev work : Stems
  work = stems_of (mode_of axis group adjust rule) xs anchor axis

  pub outcome : refusal (stems_tests axis ttb anchor rule xs) ≡ 0 → align_stem_edges axis group adjust ttb anchor rule xs ≡ work
  unfolding align_stem_edges
  outcome e = worked (stems 0 None axis) work (refusal (stems_tests axis ttb anchor rule xs)) e

  -- edges that are accepted, from bottom to top, an anchor among them or none, and a rule that holds are answered by 0
  pub accepts : EdgesAccepted axis → not ttb ≡ true → Below axis.len anchor → rule_holds rule xs ≡ true
      → (align_stem_edges axis group adjust ttb anchor rule xs).answer ≡ 0
  unfolding stems_of
  accepts a u b r =
      ap (λ (s : Stems). s.answer)
      (outcome (no-refusal (stems_tests axis ttb anchor rule xs) (a.short, (u, (r, (a.indexed, (link-holds axis.len anchor b, (a.in_range, refl))))))))

  -- with answer 0 every position is within `most_fitted`, and original positions, zones, links and serifs are as they are in accepted edges
  pub handed-within : (align_stem_edges axis group adjust ttb anchor rule xs).answer ≡ 0
      → AxisWithin most_fitted (align_stem_edges axis group adjust ttb anchor rule xs).axis
  unfolding align_stem_edges
  handed-within e =
      let z = none-refused (stems 0 None axis) work (λ (s : Stems). s.answer) (λ j. refl) (refusal (stems_tests axis ttb anchor rule xs)) e in
      let t = all_hold (stems_tests axis ttb anchor rule xs) refl z in
      let indexed = t.1.1.1 in
      rw z (pass-keeps (mode_of axis group adjust rule) xs anchor axis (axis-within axis t.0 indexed.0 indexed.1.1.0)
      (link-below _ _ indexed.1.0)).positions
