-- Both rows: where one refuses, and where neither does.
use mathlib.Core.Path.{◌≡◌, refl, sym, ap, ◌∙◌}
use mathlib.Core.List.{List}
use Prim.Native.Nat.{ℕ, ◌<◌, ◌≤◌}
use native.Mathlib.Omega.{arith}
use lib.IntN.{ℤ}
use Rattle.refusals.specs.Refusal.{answered}
use Rattle.refusals.proofs.Tests.{answered-no}
use Rattle.edge_points.specs.EdgePoints.{Points}
use Rattle.fit.specs.declared.numbers.Numbers.{Numbers}
use Rattle.fit.specs.Answer.{FittedEdges}
use Rattle.fit.specs.Edges.{Left, fit_edges}
use Rattle.fit.specs.Points.{LeftPoints, fit_points}
use Rattle.fit.specs.Fit.{Given, Fitted, fitted, told_words, Outcome, refused_fit, behind_points, behind_edges, fit_in_row}
use Rattle.fit_edges_words.specs.Row.{Gone, FewTold}
use Rattle.fit_points_words.specs.Row.{Ready}
use Rattle.fit_back_words.specs.Back.{Accepted, EdgesBack, PointsBack, FitsIn}
use Rattle.fit_back_words.proofs.Tests.{points-ready}

-- a refusal leaves everything lent
stays : (n : Numbers) (g : Given) (l : Fitted) {l' : Fitted} (k : ℕ) → 0 < k → fit_in_row n g l ≡ refused_fit l k → l' ≡ l → FitsIn n g l k l'
stays n g l k h e q = record { answer = ap (λ (x : Outcome). x.answer) (sym e); left = λ _. q; goes = λ z. absurd (omega (arith, z, h)) }

module _ (n : Numbers) (g : Given) (l : Fitted) where
  abbrev E : Left
  E = fit_edges n g.standards l.edges

  module _ {r : FittedEdges} {ws room : List ℤ} (b : EdgesBack E r l.edges ws room) where
    answer-is : r.answer ≡ E.told.answer
    answer-is = ap (λ (x : FittedEdges). x.answer) b.told

    -- the edges refuse
    pub edges-refuse : 0 < r.answer → FitsIn n g l r.answer (fitted ws l.points l.told)
    unfolding fit_in_row
    edges-refuse h =
        stays n g l r.answer h
        (sym (answered-no r.answer E.told.answer (refused_fit l) _ answer-is h))
        (λ j. fitted (b.left h j) l.points l.told)

    module _ (h : r.answer ≤ 0) (a : Accepted n g l) where
      none : r.answer ≡ 0
      none = omega arith

      pub done : Gone E r l.edges ws
      done = b.goes none

      pub ready : Ready g.segments ws g.fonts g.originals g.weak g.ends l.points
      ready = points-ready n g l a done.whole done.edges done.kin

      row_as : fit_in_row n g l ≡ behind_points l E (fit_points n g.segments E.words g.fonts g.originals g.weak g.ends l.points)
      unfolding fit_in_row
      row_as =
          ap (λ (k : ℕ). answered k (refused_fit l) (behind_points l E
          (fit_points n g.segments E.words g.fonts g.originals g.weak g.ends l.points))) (sym answer-is ∙ none)

      module _ {k : ℕ} {x : Points} (p : PointsBack (fit_points n g.segments ws g.fonts g.originals g.weak g.ends l.points) k l.points
          x) where
        abbrev P : LeftPoints
        P = fit_points n g.segments E.words g.fonts g.originals g.weak g.ends l.points

        by-words : fit_points n g.segments ws g.fonts g.originals g.weak g.ends l.points ≡ P
        by-words = ap (λ (w : List ℤ). fit_points n g.segments w g.fonts g.originals g.weak g.ends l.points) done.words

        k-is : k ≡ P.answer
        k-is = p.answer ∙ ap (λ (d : LeftPoints). d.answer) by-words

        -- the points refuse
        pub points-refuse : {w2 : List ℤ} → 0 < k → w2 ≡ room → FitsIn n g l k (fitted w2 x l.told)
        points-refuse {w2} f q =
            stays n g l k f (row_as ∙ sym (answered-no k P.answer (refused_fit l) _ k-is f)) (λ j. fitted ((q ∙ b.kept) j) (p.left f j) l.told)

        -- nothing refuses
        pub all_done : {t : List ℤ} → k ≤ 0 → t ≡ told_words r → FitsIn n g l 0 (fitted ws x t)
        all_done {t} f q = record {
          answer = ap (λ (o : Outcome). o.answer) (sym row);
          left = λ z. absurd (omega (arith, z));
          goes =
              λ _. (λ j. fitted (done.words j) ((p.goes zero-k ∙ ap (λ (d : LeftPoints). d.points) by-words) j) ((q ∙ ap told_words b.told) j))
              ∙ ap (λ (o : Outcome). o.left) (sym row);
        }
          where
            zero-k : k ≡ 0
            zero-k = omega (arith, f)

            row : fit_in_row n g l ≡ record { answer = 0; left = fitted E.words P.points (told_words E.told) }
            row =
                row_as ∙ ap (λ (i : ℕ). answered i (refused_fit l) (record { answer = 0; left = fitted E.words P.points (told_words E.told) }))
                (sym k-is ∙ zero-k)
