-- The pass over the segments: the visits made so far.
use mathlib.Core.Path.{◌≡◌, refl, sym, ap, subst, ◌∙◌}
use mathlib.Core.Bool.{Bool}
use mathlib.Core.List.{List}
use Prim.Native.Nat.{ℕ, ◌+◌, ◌-◌, ◌≤◌, ◌<◌}
use native.Mathlib.Omega.{arith}
use lib.ListN.{length}
use lib.IntN.{ℤ}
use Rattle.signed.specs.Range.{Between}
use Rattle.axis.specs.Visits.{visits}
use Rattle.axis.proofs.Visits.{visits-end, turn}
use Rattle.weak_contour.specs.Limits.{most_delta}
use Rattle.words.specs.Segment.{segments_in, flat_segments}
use Rattle.words_call.specs.Lent.{edges_of}
use Rattle.words_segment.proofs.Wholes.{segments-len}
use Rattle.edge_points.specs.EdgePoints.{Points, visit_segment, move_all}
use Rattle.edge_points.specs.Steps.{reached, Reach}
use Rattle.edge_points_words.specs.Steps.{Accepted}
use Rattle.edge_points_words.proofs.Visit.{visit-grew}

-- i segments are visited, which has made s of s₀: visiting the others gives the whole
pub record Passing (ws es : List ℤ) (snap alone : Bool) (ends : List ℕ) (s₀ s : Points) (i : ℕ) : Type 0 where
  pub high : i ≤ segments_in ws
  pub currents_size : length s.currents ≡ length s₀.currents
  pub marks_size : length s.touched ≡ length s₀.touched
  pub reach : Reach (reached i) s.currents
  pub left : visits (visit_segment snap alone (edges_of es) (flat_segments ws) ends) (segments_in ws - i) i s
      ≡ visits (visit_segment snap alone (edges_of es) (flat_segments ws) ends) (segments_in ws) 0 s₀

pub passing-starts : (ws es : List ℤ) (snap alone : Bool) (ends : List ℕ) (s : Points) → Reach (reached 0) s.currents → Passing ws es snap alone ends s s 0
passing-starts ws es snap alone ends s r =
    let e : segments_in ws - 0 ≡ segments_in ws = omega arith in
    record {
      high = omega arith;
      currents_size = refl;
      marks_size = refl;
      reach = r;
      left = ap (λ (n : ℕ). visits (visit_segment snap alone (edges_of es) (flat_segments ws) ends) n 0 s) e;
    }

-- one walk farther
farther : (i : ℕ) (z : ℤ) → Between (reached i + most_delta) (reached i + most_delta) z → Between (reached (i + 1)) (reached (i + 1)) z
farther i z h = omega (arith, h)

pub passing-next : {ws es : List ℤ} {snap alone : Bool} {ends : List ℕ} {s₀ s s' : Points} {i : ℕ} → Accepted ws es alone (length s₀.currents) ends
    → Passing ws es snap alone ends s₀ s i → i < segments_in ws
    → s' ≡ visit_segment snap alone (edges_of es) (flat_segments ws) ends s i → Passing ws es snap alone ends s₀ s' (i + 1)
passing-next {ws} {es} {snap} {alone} {ends} {s₀} {s} {s'} {i} a p h q =
    let g = visit-grew ws es alone (length s₀.currents) ends a i h snap s in
    record {
      high = omega arith;
      currents_size = ap (λ (x : Points). length x.currents) q ∙ g.currents_size ∙ p.currents_size;
      marks_size = ap (λ (x : Points). length x.touched) q ∙ g.marks_size ∙ p.marks_size;
      reach = λ j. farther i _ (subst (λ (x : Points). Reach (reached i + most_delta) x.currents) (sym q) (g.reach (reached i) p.reach) j);
      left = turn _ (segments_in ws) i s s' _ h (sym q) p.left;
    }

pub passing-ends : {ws es : List ℤ} {snap alone : Bool} {ends : List ℕ} {s₀ s : Points} {i : ℕ} → Passing ws es snap alone ends s₀ s i → segments_in ws ≤ i
    → s ≡ move_all snap alone (edges_of es) (flat_segments ws) ends s₀
passing-ends {ws} {es} {snap} {alone} {ends} {s₀} {s} {i} p h =
    sym (visits-end _ (segments_in ws) i s h) ∙ p.left ∙ ap (λ (n : ℕ). visits (visit_segment snap alone (edges_of es) (flat_segments ws) ends) n 0 s₀)
    (sym (segments-len ws))
