-- Request #102, the call on a linked edge: with Snap and answer 0 it leaves the two edges at least a pixel apart, where their original positions differ.
use mathlib.Core.Path.{◌≡◌, refl, sym, ap, subst, ◌∙◌}
use mathlib.Core.Bool.{true}
use mathlib.Core.List.{List}
use Prim.Native.Nat.{ℕ, ◌<◌}
use lib.ListN.{length}
use lib.IntN.{ℤ}
use Rattle.refusals.specs.Refusal.{refusal}
use Rattle.refusals.proofs.Answers.{none-refused, worked}
use Rattle.refusals.proofs.Tests.{all_hold}
use Rattle.fixed.specs.declared.width.WidthRule.TheVariants.{Snap}
use Rattle.fixed.specs.Width.{standards_hold, rule_holds}
use Rattle.axis.specs.declared.edge.Axis.{Axis}
use Rattle.axis.specs.Edge.{edge_at, put_edge}
use Rattle.place.specs.Placing.{linked_edge}
use Rattle.place.specs.Thin.{PixelApart, Differ, HasWidth}
use Rattle.place.proofs.Thin.{linked-apart, two_edges, put_one}
use Rattle.place.specs.Answer.{Fitted}
use Rattle.place.specs.Fitting.{linked_tests, fitted, align_linked_edge, AlignsLinkedEdge}

module _ (axis : Axis) (xs : List ℤ) (base stem : ℕ) where
  abbrev after : Axis
  after = put_edge axis stem (linked_edge Snap xs (edge_at axis base) (edge_at axis stem))

  unrefused : (align_linked_edge axis Snap xs base stem).answer ≡ 0 → refusal (linked_tests axis Snap xs base stem) ≡ 0
  unfolding align_linked_edge
  unrefused h = none-refused (fitted axis) (fitted after 0) (λ (f : Fitted). f.answer) (λ (k : ℕ). refl) (refusal (linked_tests axis Snap xs base stem)) h

  aligned : refusal (linked_tests axis Snap xs base stem) ≡ 0 → align_linked_edge axis Snap xs base stem ≡ fitted after 0
  unfolding align_linked_edge
  aligned e = worked (fitted axis) (fitted after 0) (refusal (linked_tests axis Snap xs base stem)) e

  rule-kept : refusal (linked_tests axis Snap xs base stem) ≡ 0 → standards_hold xs ≡ true
  unfolding rule_holds
  rule-kept e = (all_hold (linked_tests axis Snap xs base stem) refl e).1.0

  -- the stem edge has a place in the table
  pub not_vanishing : {r : Fitted} → AlignsLinkedEdge axis Snap xs base stem r → r.answer ≡ 0 → stem < length axis.edges
      → Differ (edge_at axis base).opos (edge_at axis stem).opos → PixelApart (edge_at r.axis base).pos (edge_at r.axis stem).pos
  not_vanishing p a h d =
      let e = unrefused (ap (λ (f : Fitted). f.answer) (sym p) ∙ a) in
      let w : HasWidth xs (edge_at axis base).opos (edge_at axis stem).opos = record { standards = rule-kept e; width = d } in
      let s = put_one axis.edges base stem _ h (two_edges axis.edges xs base stem w)
      (linked-apart xs (edge_at axis base).pos (edge_at axis base).opos (edge_at axis stem).opos w) in
      subst (λ (f : Fitted). PixelApart (edge_at f.axis base).pos (edge_at f.axis stem).pos) (sym (p ∙ aligned e)) s.apart
