-- Request #102, the call on a CJK stem: with Snap and answer 0 it leaves the two edges at least a pixel apart, where their original positions differ.
use mathlib.Core.Path.{◌≡◌, refl, sym, ap, subst, ◌∙◌}
use mathlib.Core.Bool.{Bool, true}
use mathlib.Core.List.{List}
use Prim.Native.Nat.{ℕ, ◌<◌}
use lib.ListN.{length}
use lib.IntN.{ℤ, pos}
use Rattle.refusals.specs.Refusal.{refusal}
use Rattle.refusals.proofs.Answers.{none-refused, worked}
use Rattle.refusals.proofs.Tests.{all_hold}
use Rattle.fixed.specs.declared.width.WidthRule.TheVariants.{Snap}
use Rattle.fixed.specs.Width.{standards_hold, rule_holds}
use Rattle.axis.specs.declared.edge.Axis.{Axis}
use Rattle.axis.specs.Edge.{edge_at}
use Rattle.place.specs.Thin.{PixelApart, Differ}
use Rattle.stems_cjk.specs.declared.stem.Stem.{Stem}
use Rattle.stems_cjk.specs.Cjk.{stem_of, hinted_stem}
use Rattle.stems_cjk.proofs.Thin.{hinted-seen}
use Rattle.stems_cjk.specs.Answer.{StemCjk}
use Rattle.stems_cjk.specs.Hint.{hinted, stem_tests, hint_normal_stem_cjk, HintsNormalStemCjk}

module _ (axis : Axis) (adjust : Bool) (xs : List ℤ) (i j : ℕ) (d : ℤ) where
  abbrev stem : Stem
  stem = stem_of axis.dim adjust Snap xs (edge_at axis i) (edge_at axis j) d

  abbrev done : StemCjk
  done = hinted (hinted_stem axis i j stem) stem.delta 0

  unrefused : (hint_normal_stem_cjk axis adjust Snap xs i j d).answer ≡ 0 → refusal (stem_tests axis Snap xs i j d) ≡ 0
  unfolding hint_normal_stem_cjk
  unrefused h = none-refused (hinted axis (pos 0)) done (λ (s : StemCjk). s.answer) (λ (k : ℕ). refl) (refusal (stem_tests axis Snap xs i j d)) h

  hints : refusal (stem_tests axis Snap xs i j d) ≡ 0 → hint_normal_stem_cjk axis adjust Snap xs i j d ≡ done
  unfolding hint_normal_stem_cjk
  hints e = worked (hinted axis (pos 0)) done (refusal (stem_tests axis Snap xs i j d)) e

  rule-kept : refusal (stem_tests axis Snap xs i j d) ≡ 0 → standards_hold xs ≡ true
  unfolding rule_holds
  rule-kept e = (all_hold (stem_tests axis Snap xs i j d) refl e).1.0

  -- both edges have a place in the table
  pub not_vanishing : {r : StemCjk} → HintsNormalStemCjk axis adjust Snap xs i j d r → r.answer ≡ 0 → i < length axis.edges → j < length axis.edges
      → Differ (edge_at axis i).opos (edge_at axis j).opos → PixelApart (edge_at r.axis i).pos (edge_at r.axis j).pos
  not_vanishing p a hi hj w =
      let e = unrefused (ap (λ (s : StemCjk). s.answer) (sym p) ∙ a) in
      let s = hinted-seen axis axis.dim adjust xs i j d hi hj (record { standards = rule-kept e; width = w }) in
      subst (λ (r : StemCjk). PixelApart (edge_at r.axis i).pos (edge_at r.axis j).pos) (sym (p ∙ hints e)) s.apart
