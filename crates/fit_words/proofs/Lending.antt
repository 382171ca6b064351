-- The call by its tests and its rows.
use mathlib.Core.Path.{◌≡◌, refl, sym, ap, ◌∙◌}
use mathlib.Core.Bool.{Bool, true, cond, ◌&&◌}
use mathlib.Core.List.{List}
use Prim.Native.Nat.{ℕ, zero, suc, ◌%◌, ◌≤◌, ◌<◌}
use native.Mathlib.Omega.{arith}
use borrow.Author.Tests.{leb-true, eqb-true, ne_eqb}
use lib.Dec.{eqb, leb}
use lib.ListN.{length}
use lib.IntN.{ℤ}
use Rattle.refusals.specs.Refusal.{refusal, answered}
use Rattle.refusals.proofs.Tests.{and_first, and_second, all_hold, answered-no, answered-yes}
use Rattle.axis.specs.Limits.{most_edges, most_segments}
use Rattle.words.specs.Edge.{edge_size, edges_in}
use Rattle.words.specs.Segment.{segment_size, segments_in}
use Rattle.words_shape.specs.Shape.{edges_shown, segments_shown}
use Rattle.strong.specs.Strong.{list_tests}
use Rattle.words_call.specs.Lent.{refused_or}
use Rattle.words_call.proofs.Lents.{refused-before, passed_first}
use Rattle.words_edge.specs.Whole as E
use Rattle.words_edge.proofs.Wholes.{shown-whole}
use Rattle.words_segment.specs.Whole as S
use Rattle.words_segment.proofs.Wholes.{shown-whole as segments_whole}
use Rattle.fit.specs.declared.numbers.Numbers.{Numbers}
use Rattle.fit.specs.Numbers.{numbers_of, number_size}
use Rattle.fit.specs.Fit.{Given, Fitted, Outcome, told_size, fit_front, fit_tests, refused_fit, fit_in_row, fit_axis, FitLent}
use Rattle.fit_back_words.specs.Back.{Accepted, FitsIn}

module _ (ns : List ℤ) (g : Given) (l : Fitted) {k : ℕ} (f : k ≡ refusal (fit_front g.segments ns g.fonts g.originals g.weak l)) where
  -- a test in front refuses
  pub front-refuses : 0 < k → FitLent ns g l k l
  front-refuses h = refused-before f h

  -- none does: what the other tests may use
  module _ (none : k ≤ 0) where
    pub record Shown : Type 0 where
      pub segments : S.Whole g.segments
      pub edges : E.Whole l.edges
      pub few : edges_in l.edges ≤ most_edges
      pub lists : refusal (list_tests g.fonts g.originals l.points.currents l.points.touched g.weak) ≡ 0
      pub told : length l.told ≡ told_size

    pub shown : Shown
    unfolding fit_front
    shown =
        let z : k ≡ 0 = omega arith in
        let h = all_hold (fit_front g.segments ns g.fonts g.originals g.weak l) refl (sym f ∙ z) in
        let lengths = and_second (eqb (length g.segments % segment_size) 0 && eqb (length l.edges % edge_size) 0) _ h.0 in
        let tables = and_first (leb (segments_in g.segments) most_segments && leb (edges_in l.edges) most_edges) _ h.1.0 in
        let words = and_first (segments_shown g.segments && edges_shown l.edges) _ h.1.1.0 in
        let few = leb-true (edges_in l.edges) most_edges (and_second (leb (segments_in g.segments) most_segments) _ tables) in
        record {
          segments =
              segments_whole g.segments (and_first (segments_shown g.segments) _ words)
              (leb-true (segments_in g.segments) most_segments (and_first _ _ tables));
          edges = shown-whole l.edges (and_second (segments_shown g.segments) _ words) few;
          few = few;
          lists = eqb-true _ 0 (and_second (leb (segments_in g.segments) most_segments && leb (edges_in l.edges) most_edges) _ h.1.0);
          told = eqb-true (length l.told) told_size (and_second (eqb (length ns) number_size) _ lengths);
        }

    module _ {n : Numbers} {r : ℕ} (q : n ≡ numbers_of ns) (e : r ≡ refusal (fit_tests n g l)) where
      -- another test refuses
      refuses-as : r ≡ refusal (fit_tests (numbers_of ns) g l)
      refuses-as = e ∙ ap (λ (x : Numbers). refusal (fit_tests x g l)) q

      pub test-refuses : 0 < r → FitLent ns g l r l
      unfolding fit_axis
      test-refuses h = record {
        number =
            passed_first _ f none (ap (λ (o : Outcome). o.answer)
            (answered-no r (refusal (fit_tests (numbers_of ns) g l)) (refused_fit l) (fit_in_row (numbers_of ns) g l) refuses-as h));
        held = rw (ne_eqb r 0 (λ z. omega arith));
      }

      -- none does
      module _ (h : r ≤ 0) where
        pub accepted : Accepted n g l
        accepted =
            let z : r ≡ 0 = omega arith in
            record { segments = shown.segments; edges = shown.edges; lists = shown.lists; tests = sym e ∙ z; told = shown.told }

        axis-is : fit_axis (numbers_of ns) g l ≡ fit_in_row (numbers_of ns) g l
        unfolding fit_axis
        axis-is = let z : r ≡ 0 = omega arith in ap (λ (i : ℕ). answered i (refused_fit l) (fit_in_row (numbers_of ns) g l)) (sym refuses-as ∙ z)

        pub rows_fit : {a : ℕ} {l' : Fitted} → FitsIn n g l a l' → FitLent ns g l a l'
        rows_fit {a} {l'} t = record {
          number = passed_first _ f none (t.answer ∙ ap (λ (x : Numbers). (fit_in_row x g l).answer) q ∙ ap (λ (o : Outcome). o.answer) (sym axis-is));
          held = by a refl;
        }
          where
            by : (i : ℕ) → a ≡ i → l' ≡ cond (eqb i 0) (fit_axis (numbers_of ns) g l).left l
            by zero z = t.goes z ∙ ap (λ (x : Numbers). (fit_in_row x g l).left) q ∙ ap (λ (o : Outcome). o.left) (sym axis-is)
            by (suc i) z = t.left (omega (arith, z)) ∙ rw (ne_eqb (suc i) 0 (λ y. omega arith))
