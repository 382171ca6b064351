-- Each step of the row: where it refuses, and what the row is behind it.
use mathlib.Core.Path.{◌≡◌, refl, sym, ap, subst, ◌∙◌}
use mathlib.Core.Bool.{Bool, true, false, cond}
use mathlib.Core.List.{List, [], ◌∷◌, ◌++◌}
use Prim.Native.Nat.{ℕ, ◌≤◌}
use native.Mathlib.Omega.{arith}
use borrow.Author.Tests.{leb-true, le-leb, eqb-true, eq-eqb}
use lib.Dec.{leb, eqb}
use lib.ListN.{length}
use lib.IntN.{ℤ}
use Rattle.signed.proofs.Signed.{nat_abs-is}
use Rattle.refusals.specs.Refusal.{Test, ◌unless◌, bad_index, out_of_range, steep, too_long, refusal, answered}
use Rattle.refusals.proofs.Tests.{AllHold, and_second, all_hold, no-refusal, own_first}
use Rattle.axis.specs.declared.edge.Axis.{Axis}
use Rattle.axis.specs.declared.segment.Segments.{Segments}
use Rattle.axis.specs.Refusals.{edges_short, edges_indexed, edges_in_range, segments_in_range}
use Rattle.axis.proofs.Accepting.{edges-within}
use Rattle.weak_contour.specs.Limits.{most_points, most_coordinate}
use Rattle.weak_contour.specs.Contour.{at}
use Rattle.weak.specs.Weak.{ends_hold, coordinates_hold, list_tests as outline_lists, weak_tests, result, range_tests, Outcome}
use Rattle.weak.proofs.Refusals.{coordinates-of}
use Rattle.turn.specs.Indices.{index_tests, segments_edges}
use Rattle.edge_points.specs.EdgePoints.{Points, move_all, segments_points, movers_hold, points_tests, edge_answer, edge_result}
use Rattle.edge_points.specs.Steps.{points, reached, Reach}
use Rattle.edge_points_words.specs.Steps.{Accepted}
use Rattle.strong.specs.Strong.{Aligned, list_tests, all_placed, strong_tests, aligned_all, refused_by, align_strong}
use Rattle.strong_words.specs.Strong.{Placeable, PlacedEach}
use Rattle.words.specs.Edge.{edges_in}
use Rattle.words.specs.Segment.{flat_segments}
use Rattle.words_call.specs.Lent.{edges_of}
use Rattle.words_edge.specs.Whole as E
use Rattle.words_edge.proofs.Wholes.{edges-len}
use Rattle.words_segment.specs.Whole as S
use Rattle.fit.specs.declared.numbers.Numbers.{Numbers}
use Rattle.fit.specs.Points.{LeftPoints, halted, then_weak, behind_strong, then_strong, fit_points}
use Rattle.fit_points_words.specs.Row.{Ready, ReadyStrong, WentPoints}

-- a row that stops tells its refusal
stops : {d : LeftPoints} {s s' : Points} {k : ℕ} → d ≡ halted s' k → (k ≡ 0 → ⊥) → WentPoints d k s
stops e h = record { answer = ap (λ (d : LeftPoints). d.answer) (sym e); goes = λ z. absurd (h z) }

-- ---- strong points
module _ (ws f o : List ℤ) (w es : List ℕ) (s : Points) (g : ReadyStrong ws f o w es s) where
  abbrev A : Axis
  A = edges_of ws

  lists-hold : AllHold (list_tests f o s.currents s.touched w)
  lists-hold = all_hold (list_tests f o s.currents s.touched w) refl g.lists

  -- the tests that hold already
  abbrev held : List Test
  held =
      edges_short A ∷ (list_tests f o s.currents s.touched w ++ (edges_indexed A ∷ edges_in_range A ∷ out_of_range unless coordinates_hold most_coordinate o ∷ []))

  none-held : refusal held ≡ 0
  none-held =
      let l = lists-hold in
      let e = g.edges in
      no-refusal held (e.short, (l.0, (l.1.0, (l.1.1.0, (l.1.1.1.0, (l.1.1.1.1.0, (e.indexed, (e.in_range, (g.originals, refl)))))))))

  -- and what they leave
  tests-are : {n p : Bool} → coordinates_hold most_coordinate s.currents ≡ n → all_placed A f o s.touched w ≡ p
      → refusal (strong_tests A f o s.currents s.touched w) ≡ cond n (cond p 0 steep) out_of_range
  unfolding refusal
  tests-are n p =
      own_first held (out_of_range unless coordinates_hold most_coordinate s.currents ∷ steep unless all_placed A f o s.touched w ∷ []) refl
      ∙ (λ j. answered (none-held j) (λ (k : ℕ). k) (cond (n j) (cond (p j) 0 steep) out_of_range))

  strong-as : {k : ℕ} → refusal (strong_tests A f o s.currents s.touched w) ≡ k
      → then_strong ws f o w es s ≡ behind_strong o es s (answered k (refused_by s.currents s.touched) (aligned_all A f o s.currents s.touched w))
  unfolding then_strong align_strong
  strong-as q = ap (λ (k : ℕ). behind_strong o es s (answered k (refused_by s.currents s.touched) (aligned_all A f o s.currents s.touched w))) q

  pub strong-far : {x : Points} {b : Bool} → b ≡ coordinates_hold most_coordinate s.currents → b ≡ false → WentPoints (then_strong ws f o w es s) out_of_range x
  strong-far e q = stops (strong-as (tests-are (sym e ∙ q) refl)) (λ z. omega (arith, z))

  pub strong-ready : Placeable ws f o s.touched w × (length s.currents ≡ length f)
  strong-ready =
      let l = lists-hold in (
        record {
          whole = g.whole;
          axis = edges-within A g.edges;
          points = leb-true (length f) most_points l.0;
          originals_length = eqb-true (length o) (length f) l.1.0;
          marks_length = eqb-true (length s.touched) (length f) l.1.1.1.0;
          weak_length = eqb-true (length w) (length f) l.1.1.1.1.0;
          originals = λ i. omega (arith, nat_abs-is (at o i), coordinates-of most_coordinate o g.originals i);
        },
        eqb-true (length s.currents) (length f) l.1.1.0,
      )

  module _ {b : Bool} (e : b ≡ coordinates_hold most_coordinate s.currents) (t : b ≡ true) {p : Bool} {c : List ℤ} {m : List ℕ}
      (d : PlacedEach ws f o s.currents s.touched w p c m) where
    pub strong-steep : {x : Points} → p ≡ false → WentPoints (then_strong ws f o w es s) steep x
    strong-steep q = stops (strong-as (tests-are (sym e ∙ t) (sym d.told ∙ q))) (λ z. omega (arith, z))

    -- as many points and marks are left, which is what weak points need
    pub weak-ready : length c ≡ length s.currents → length m ≡ length s.touched
        → (refusal (outline_lists o c m es) ≡ 0) × (coordinates_hold most_coordinate o ≡ true)
    weak-ready h q =
        let l = lists-hold in
        let long = eqb-true (length o) (length f) l.1.0 in
        let counted = eqb-true (length s.currents) (length f) l.1.1.0 ∙ sym long in
        let marked = eqb-true (length s.touched) (length f) l.1.1.1.0 ∙ sym long in (
          no-refusal (outline_lists o c m es) (
            ap (λ (n : ℕ). leb n most_points) long ∙ l.0,
            (
              eq-eqb (length c) (length o) (h ∙ counted),
              (eq-eqb (length m) (length o) (q ∙ marked), (ap (λ (n : ℕ). ends_hold 0 n es) (sym counted) ∙ g.contours, refl)),
            ),
          ),
          g.originals,
        )

    pub strong-goes : {r : ℕ} {c' : List ℤ} → p ≡ true → Outcome o c m es r c' → WentPoints (then_strong ws f o w es s) r (points c' m)
    strong-goes {r} {c'} q u = record {
      answer = u.answer ∙ ap (λ (x : LeftPoints). x.answer) (sym row);
      goes = λ z. (λ j. points (u.currents j) m) ∙ ap (λ (x : LeftPoints). x.points) (sym row);
    }
      where
        row : then_strong ws f o w es s ≡ then_weak o es (points c m)
        row =
            let a = d.placed q in
            strong-as (tests-are (sym e ∙ t) (sym d.told ∙ q)) ∙ (λ j. then_weak o es (points (sym a.currents j) (sym a.touched j)))

-- ---- edge points
module _ (n : Numbers) (ss ws f o : List ℤ) (w es : List ℕ) (s : Points) (g : Ready ss ws f o w es s) where
  abbrev B : Axis
  B = edges_of ws

  abbrev T : Segments
  T = flat_segments ss

  indices-hold : AllHold (index_tests B T)
  indices-hold = all_hold (index_tests B T) refl g.indices

  marks-hold : AllHold (list_tests f o s.currents s.touched w)
  marks-hold = all_hold (list_tests f o s.currents s.touched w) refl g.strong.lists

  few : length s.currents ≤ most_points
  few = let l = marks-hold in omega (arith, leb-true (length f) most_points l.0, eqb-true (length s.currents) (length f) l.1.1.0)

  pub same-marks : length s.touched ≡ length s.currents
  same-marks = let l = marks-hold in eqb-true (length s.touched) (length f) l.1.1.1.0 ∙ sym (eqb-true (length s.currents) (length f) l.1.1.0)

  to_edges : segments_edges (edges_in ws) T ≡ true
  to_edges = ap (λ (m : ℕ). segments_edges m T) (sym (edges-len ws)) ∙ indices-hold.1.1.1.1.0

  pub movers-ready : S.Whole ss × (E.Whole ws × (segments_edges (edges_in ws) T ≡ true))
  movers-ready = (g.segments, (g.strong.whole, to_edges))

  -- the tests that hold already
  abbrev held_points : List Test
  held_points =
      too_long unless leb (length s.currents) most_points
      ∷ too_long unless eqb (length s.touched) (length s.currents)
      ∷ (index_tests B T
      ++ (bad_index unless ends_hold 0 (length s.currents) es
      ∷ bad_index unless segments_points es T
      ∷ segments_in_range T
      ∷ edges_in_range B
      ∷ out_of_range unless coordinates_hold most_coordinate s.currents
      ∷ []))

  none-points : refusal held_points ≡ 0
  none-points =
      let i = indices-hold in
      no-refusal held_points (
        le-leb (length s.currents) most_points few,
        (
          eq-eqb (length s.touched) (length s.currents) same-marks,
          (
            i.0,
            (
              i.1.0,
              (
                i.1.1.0,
                (
                  i.1.1.1.0,
                  (
                    i.1.1.1.1.0,
                    (
                      i.1.1.1.1.1.0,
                      (
                        i.1.1.1.1.1.1.0,
                        (g.strong.contours, (g.on_one, (g.in_range, (g.strong.edges.in_range, (g.near, refl))))),
                      ),
                    ),
                  ),
                ),
              ),
            ),
          ),
        ),
      )

  points-are : {m : Bool} → movers_hold n.alone B T ≡ m → edge_answer n.alone B T s es ≡ cond m 0 out_of_range
  unfolding edge_answer refusal
  points-are m =
      own_first held_points (out_of_range unless movers_hold n.alone B T ∷ []) refl ∙ (λ j. answered (none-points j) (λ (k : ℕ). k) (cond (m j) 0 out_of_range))

  points-as : {k : ℕ} → edge_answer n.alone B T s es ≡ k
      → fit_points n ss ws f o w es s ≡ answered k (halted s) (then_strong ws f o w es (answered k (λ _. s) (move_all n.snap n.alone B T es s)))
  unfolding fit_points edge_result
  points-as q = ap (λ (k : ℕ). answered k (halted s) (then_strong ws f o w es (answered k (λ _. s) (move_all n.snap n.alone B T es s)))) q

  pub movers-far : {x : Points} {b : Bool} → b ≡ movers_hold n.alone B T → b ≡ false → WentPoints (fit_points n ss ws f o w es s) out_of_range x
  movers-far e q = stops (points-as (points-are (sym e ∙ q))) (λ z. omega (arith, z))

  module _ {b : Bool} (e : b ≡ movers_hold n.alone B T) (t : b ≡ true) where
    pub points-accepted : Accepted ss ws n.alone (length s.currents) es
    points-accepted =
        record {
          segments = g.segments;
          edges = g.strong.whole;
          few = few;
          to_edges = to_edges;
          in_range = edges-within B g.strong.edges;
          contours = g.strong.contours;
          on_one = g.on_one;
          movers = sym e ∙ t;
        }

    pub points_near : Reach (reached 0) s.currents
    points_near j = omega (arith, nat_abs-is (at s.currents j), coordinates-of most_coordinate s.currents g.near j)

    module _ {x : Points} (m : x ≡ move_all n.snap n.alone B T es s) where
      -- as many points and marks are left
      pub moved_ready : length x.currents ≡ length s.currents → length x.touched ≡ length s.touched → ReadyStrong ws f o w es x
      moved_ready c t = record {
        whole = g.strong.whole;
        edges = g.strong.edges;
        lists =
            let l = marks-hold in
            no-refusal (list_tests f o x.currents x.touched w) (
              l.0,
              (
                l.1.0,
                (
                  ap (λ (k : ℕ). eqb k (length f)) c ∙ l.1.1.0,
                  (ap (λ (k : ℕ). eqb k (length f)) t ∙ l.1.1.1.0, (l.1.1.1.1.0, refl)),
                ),
              ),
            );
        contours = ap (λ (k : ℕ). ends_hold 0 k es) c ∙ g.strong.contours;
        originals = g.strong.originals;
      }

      pub points-go : {r : ℕ} {y : Points} → WentPoints (then_strong ws f o w es x) r y → WentPoints (fit_points n ss ws f o w es s) r y
      points-go {r} {y} u = subst (λ (d : LeftPoints). WentPoints d r y) (sym (points-as (points-are (sym e ∙ t)) ∙ ap (then_strong ws f o w es) (sym m))) u
