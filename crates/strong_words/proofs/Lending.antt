-- The call by what the tests of its edges and lists tell.
use mathlib.Core.Path.{◌≡◌, refl, sym, ap, ◌∙◌}
use mathlib.Core.Bool.{Bool, true, false, cond, ◌&&◌}
use mathlib.Core.List.{List, [], ◌∷◌, ◌++◌}
use Prim.Native.Nat.{ℕ, zero, suc, ◌<◌, ◌≤◌}
use native.Mathlib.Omega.{arith}
use borrow.Author.Tests.{leb-true, eqb-true}
use lib.Dec.{leb, eqb}
use lib.ListN.{length}
use lib.IntN.{ℤ}
use Rattle.signed.proofs.Signed.{nat_abs-is}
use Rattle.refusals.specs.Refusal.{Test, ◌unless◌, out_of_range, steep, refusal, answered}
use Rattle.refusals.proofs.Tests.{and_first, all_hold, own_first, answered-no}
use Rattle.axis.specs.declared.edge.Axis.{Axis}
use Rattle.axis.specs.Limits.{most_edges}
use Rattle.axis.specs.Refusals.{edges_short, edges_indexed, edges_in_range}
use Rattle.weak_contour.specs.Limits.{most_coordinate, most_points}
use Rattle.weak_contour.specs.Contour.{at}
use Rattle.weak.specs.Weak.{coordinates_hold, range_tests}
use Rattle.weak.proofs.Refusals.{coordinates-of}
use Rattle.words_call.specs.Lent.{refused_or, edges_front, edges_of}
use Rattle.words_call.proofs.Kept.{passed}
use Rattle.words_edge.proofs.Wholes.{edges-len}
use Rattle.words_edge_test.specs.Held.{tested}
use Rattle.words_edge_test.proofs.Calls.{ready, lent-refused, lent-done}
use Rattle.words_edge_test.proofs.Order.{call-tests}
use Rattle.strong.specs.Strong.{Aligned, list_tests, all_placed, strong_tests, aligned_all, refused_by, align_strong}
use Rattle.strong_words.specs.Strong.{lists, StrongLent, Placeable, PlacedAll}

-- two tests by one number are one
two-ranges : (o c : List ℤ) → refusal (range_tests most_coordinate o c)
    ≡ refusal (out_of_range unless (coordinates_hold most_coordinate o && coordinates_hold most_coordinate c) ∷ [])
unfolding refusal
two-ranges o c = by (coordinates_hold most_coordinate o)
  where
    by : (x : Bool) → cond x (cond (coordinates_hold most_coordinate c) 0 out_of_range) out_of_range ≡ cond (x && coordinates_hold most_coordinate c) 0 out_of_range
    by true = refl
    by false = refl

-- and both hold where neither refuses
pub range-told : (o c : List ℤ) → eqb (refusal (range_tests most_coordinate o c)) 0 ≡ (coordinates_hold most_coordinate o && coordinates_hold most_coordinate c)
unfolding refusal
range-told o c = by (coordinates_hold most_coordinate o) (coordinates_hold most_coordinate c)
  where
    by : (x y : Bool) → eqb (cond x (cond y 0 out_of_range) out_of_range) 0 ≡ (x && y)
    by true true = refl
    by true false = refl
    by false y = refl

-- a refusal by the tests in front or by the first of a call's own is one whatever stands behind them
module _ (fronts : List Test) (a t g : ℕ) (e : a ≡ refused_or fronts t) where
  first-refused : 0 < a → a ≡ refused_or fronts (answered t (λ (k : ℕ). k) g)
  unfolding refused_or
  first-refused h = e ∙ by (refusal fronts) (e)
    where
      by : (k : ℕ) → a ≡ answered k (λ (i : ℕ). i) t → answered k (λ (i : ℕ). i) t ≡ answered k (λ (i : ℕ). i) (answered t (λ (i : ℕ). i) g)
      by zero q = answered-no t t (λ (i : ℕ). i) g refl (omega arith)
      by (suc k) q = refl

  -- where there is none the last decides
  last-decides : a ≤ 0 → g ≡ refused_or fronts (answered t (λ (k : ℕ). k) g)
  unfolding refused_or
  last-decides h =
      let z : 0 ≡ a = omega arith in
      let p = passed fronts t (z ∙ e) in
      sym ((λ x. answered (p.0 x) (λ (i : ℕ). i) (answered (p.1 x) (λ (i : ℕ). i) g)))

module _ (ws f o c : List ℤ) (t w : List ℕ) {own r : ℕ} {near : Bool} (l : own ≡ refusal (list_tests f o c t w))
    (m : near ≡ (coordinates_hold most_coordinate o && coordinates_hold most_coordinate c))
    (e : r ≡ refused_or (edges_front ws true) (tested (edges_of ws) own true near)) where
  abbrev A : Axis
  A = edges_of ws

  abbrev T : ℕ
  T = tested A own true near

  abbrev G : ℕ
  G = cond (all_placed A f o t w) 0 steep

  -- the tests of the call: those that are made of edges and lists, then each point
  in_front : leb A.len most_edges ≡ true → refusal
      (edges_short A ∷ (list_tests f o c t w ++ (edges_indexed A ∷ edges_in_range A ∷ range_tests most_coordinate o c))) ≡ T
  unfolding refusal
  in_front h =
      own_first (edges_short A ∷ (list_tests f o c t w ++ (edges_indexed A ∷ edges_in_range A ∷ []))) (range_tests most_coordinate o c) refl
      ∙ ap (answered (refusal (edges_short A ∷ (list_tests f o c t w ++ (edges_indexed A ∷ edges_in_range A ∷ [])))) (λ (k : ℕ). k)) (two-ranges o c)
      ∙ sym
      (own_first (edges_short A ∷ (list_tests f o c t w ++ (edges_indexed A ∷ edges_in_range A ∷ [])))
      (out_of_range unless (coordinates_hold most_coordinate o && coordinates_hold most_coordinate c) ∷ []) refl)
      ∙ call-tests A true (coordinates_hold most_coordinate o && coordinates_hold most_coordinate c) h (list_tests f o c t w) refl
      ∙ (λ x. tested A (sym l x) true (sym m x))

  all-tests : leb A.len most_edges ≡ true → refusal (strong_tests A f o c t w) ≡ answered T (λ (k : ℕ). k) G
  unfolding refusal
  all-tests h =
      own_first (edges_short A ∷ (list_tests f o c t w ++ (edges_indexed A ∷ edges_in_range A ∷ range_tests most_coordinate o c)))
      (steep unless all_placed A f o t w ∷ []) refl
      ∙ ap (λ (k : ℕ). answered k (λ (i : ℕ). i) G) (in_front h)

  short : refusal (edges_front ws true) ≡ 0 → leb A.len most_edges ≡ true
  unfolding edges_front
  short q = ap (λ (k : ℕ). leb k most_edges) (edges-len ws) ∙ (all_hold (edges_front ws true) refl q).1.0

  refuses-by : {a : ℕ} → a ≡ refused_or (edges_front ws true) (answered T (λ (k : ℕ). k) G) → 0 < a → StrongLent ws f o c t w a (c, t)
  unfolding align_strong
  refuses-by q h =
      lent-refused (edges_front ws true) (answered T (λ (k : ℕ). k) G) q (λ (x : Aligned). x.answer) lists (strong_tests A f o c t w) (refused_by c t)
      (aligned_all A f o c t w) (λ (k : ℕ). refl) refl
      (λ z. all-tests (short z)) h

  -- edges or lists are refused
  pub test-refuses : 0 < r → StrongLent ws f o c t w r (c, t)
  test-refuses h = refuses-by (first-refused (edges_front ws true) r T G e h) h

  -- they are not
  module _ (h : r ≤ 0) where
    pub placeable : Placeable ws f o t w × (length c ≡ length f)
    placeable =
        let g = ready ws true own true near e h in
        let k = all_hold (list_tests f o c t w) refl (sym l ∙ g.right) in
        let n = sym m ∙ g.near_hold in (
          record {
            whole = g.whole;
            axis = g.axis;
            points = leb-true (length f) most_points k.0;
            originals_length = eqb-true (length o) (length f) k.1.0;
            marks_length = eqb-true (length t) (length f) k.1.1.1.0;
            weak_length = eqb-true (length w) (length f) k.1.1.1.1.0;
            originals = λ i. omega (arith, nat_abs-is (at o i), coordinates-of most_coordinate o (and_first (coordinates_hold most_coordinate o) _ n) i);
          },
          eqb-true (length c) (length f) k.1.1.0,
        )

    -- a point is refused
    pub point-refuses : {b : Bool} → b ≡ all_placed A f o t w → b ≡ false → StrongLent ws f o c t w steep (c, t)
    point-refuses p q =
        let z : G ≡ steep = ap (λ (x : Bool). cond x 0 steep) (sym p ∙ q) in
        refuses-by (sym z ∙ last-decides (edges_front ws true) r T G e h) (omega arith)

    -- none is
    pub all-placed : {b : Bool} {c' : List ℤ} {t' : List ℕ} → b ≡ all_placed A f o t w → b ≡ true → PlacedAll ws f o c t w c' t'
        → StrongLent ws f o c t w 0 (c', t')
    unfolding align_strong
    all-placed p q a =
        let z : G ≡ 0 = ap (λ (x : Bool). cond x 0 steep) (sym p ∙ q) in
        lent-done (edges_front ws true) (answered T (λ (k : ℕ). k) G) (sym z ∙ last-decides (edges_front ws true) r T G e h) (λ (x : Aligned). x.answer) lists
        (strong_tests A f o c t w) (refused_by c t)
        (aligned_all A f o c t w) (λ (k : ℕ). refl) refl (λ y. all-tests (short y)) (omega arith) (λ x. (a.currents x, a.touched x))
