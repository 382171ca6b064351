-- The outcome of the call: it is determined; what it may change; and that the points of an accepted outline keep their order.
use Rattle.std.specs.Prelude.{Result}
use mathlib.Core.Path.{◌≡◌, refl, sym, ap, subst, ◌∙◌}
use mathlib.Core.Bool.{true, false, cond, ◌||◌}
use mathlib.Core.List.{List, append-nil}
use mathlib.Core.Logic.{◌⊎◌, inl, inr}
use Prim.Native.Nat.{ℕ, zero, suc, ◌-◌, ◌<◌}
use native.Mathlib.Omega.{arith}
use borrow.Author.Tests.{eqb-true, leb-true}
use lib.Dec.{eqb}
use lib.ListN.{length, get_or}
use lib.IntN.{ℤ, pos}
use lib.Signed.{◌≤ℤ◌, ◌<ℤ◌}
use Rattle.refusals.specs.declared.order.Refusal.{Refusal}
use Rattle.refusals.specs.Refusal.{refusal, answered}
use Rattle.refusals.specs.Outcome.{answer_of}
use Rattle.refusals.proofs.Tests.{and_first, all_hold}
use Rattle.axis.specs.declared.edge.Axis.{Axis}
use Rattle.axis.specs.Edge.{edge_at}
use Rattle.axis.specs.Limits.{most_edges}
use Rattle.weak_contour.specs.Contour.{at, is_touched}
use Rattle.words.specs.Edge.{edges_in}
use Rattle.words.specs.Word.{firsts}
use Rattle.words.proofs.Places.{firsts_at}
use Rattle.words.proofs.Tables.{firsts-length}
use Rattle.words_shape.specs.Shape.{edges_shown}
use Rattle.words_call.specs.Lent.{edges_front, edges_of}
use Rattle.words_call.proofs.Determined.{lent-determined, lent-determined-result}
use Rattle.words_call.proofs.Kept.{passed, not_new}
use Rattle.words_edge.proofs.Wholes.{shown-whole, edges-len}
use Rattle.strong.specs.declared.place.Place.{Place}
use Rattle.strong.specs.declared.place.Place.TheVariants.{Stays, At, Beyond}
use Rattle.strong.specs.Strong.{fpos_at, strong_at, current_after, mark_after, all_placed, strong_tests, aligned_all, refused_by, align_strong}
use Rattle.strong.specs.Steps.{Rising, Shorts}
use Rattle.strong.proofs.Determined.{stays, points-order}
use Rattle.strong_words.specs.Strong.{lists, StrongLent, Changes}
use Rattle.strong_words.proofs.Reading.{fpos-short}

-- two outcomes that the promise of `align_strong_points` allows coincide
pub determined :
    (ws f o c : List ℤ) (t w : List ℕ) {r r' : ℕ} {now now' : List ℤ × List ℕ} → StrongLent ws f o c t w r now → StrongLent ws f o c t w r' now'
    → (r ≡ r') × (now ≡ now')
determined ws f o c t w a b = lent-determined a b

-- and so do two results
pub determined-result :
    (ws f o c : List ℤ) (t w : List ℕ) {r r' : Result (Unit {0}) Refusal} {now now' : List ℤ × List ℕ} → StrongLent ws f o c t w (answer_of r) now
    → StrongLent ws f o c t w (answer_of r') now' → (r ≡ r') × (now ≡ now')
determined-result ws f o c t w {r} {r'} a b = lent-determined-result {r = r} {r' = r'} a b

-- a refusal leaves both lists as they were
pub refused-left : (ws f o c : List ℤ) (t w : List ℕ) {r : ℕ} {now : List ℤ × List ℕ} → StrongLent ws f o c t w r now → 0 < r → now ≡ (c, t)
refused-left ws f o c t w {r} {now} a h = by r h a.held
  where
    by : (k : ℕ) → 0 < k → now ≡ cond (eqb k 0) (lists (align_strong (edges_of ws) f o c t w)) (c, t) → now ≡ (c, t)
    by zero l e = absurd (omega arith)
    by (suc k) l e = e ∙ not_new k (lists (align_strong (edges_of ws) f o c t w)) (c, t)

-- one of the first of a sequence
first-at : {A : Type 0} (g : ℕ → A) (n i : ℕ) (d : A) → i < n → get_or (firsts g n) i d ≡ g i
first-at {A} g n i d h = ap (λ (xs : List A). get_or xs i d) (sym (append-nil (firsts g n))) ∙ firsts_at g n i _ d h

-- what a place leaves of a current and of a mark
current-stays : (z : ℤ) (p : Place) → p ≡ Stays → current_after z p ≡ z
unfolding current_after
current-stays z p e = ap (current_after z) e

mark-stays : (m : ℕ) (p : Place) → p ≡ Stays → mark_after m p ≡ m
unfolding mark_after
mark-stays m p e = ap (mark_after m) e

mark-or-one : (m : ℕ) (p : Place) → (mark_after m p ≡ m) ⊎ (mark_after m p ≡ 1)
unfolding mark_after
mark-or-one m Stays = inl refl
mark-or-one m (At z) = inr refl
mark-or-one m Beyond = inl refl

-- ---- what it may change
module _ (axis : Axis) (f o c : List ℤ) (t w : List ℕ) where
  -- what each point gets
  abbrev current : ℕ → ℤ
  current i = current_after (at c i) (strong_at axis f o t w i)

  abbrev mark : ℕ → ℕ
  mark i = mark_after (get_or t i 0) (strong_at axis f o t w i)

  nothing-changes : Changes c t w c t
  nothing-changes = record { currents_length = refl; marks_length = refl; left = λ i h e. (refl, refl); marks = λ i h. inl refl }

  all-change : refusal (strong_tests axis f o c t w) ≡ 0 → Changes c t w (aligned_all axis f o c t w).currents (aligned_all axis f o c t w).touched
  all-change e =
      let a = (all_hold (strong_tests axis f o c t w) refl e).1.1.1 in
      let lc : length c ≡ length f = eqb-true (length c) (length f) a.0 in
      let lt : length t ≡ length f = eqb-true (length t) (length f) a.1.0 in
      record {
        currents_length = firsts-length current (length f) ∙ sym lc;
        marks_length = firsts-length mark (length f) ∙ sym lt;
        left = λ i h g. (
          first-at current (length f) i (pos 0) (omega arith) ∙ current-stays (at c i) (strong_at axis f o t w i) (stays axis f o c t w i g),
          first-at mark (length f) i 0 (omega arith) ∙ mark-stays (get_or t i 0) (strong_at axis f o t w i) (stays axis f o c t w i g),
        );
        marks =
            λ i h. subst (λ (m : ℕ). (m ≡ get_or t i 0) ⊎ (m ≡ 1)) (sym (first-at mark (length f) i 0 (omega arith)))
            (mark-or-one (get_or t i 0) (strong_at axis f o t w i));
      }

  aligned-changes : let a = align_strong axis f o c t w in Changes c t w a.currents a.touched
  unfolding align_strong
  aligned-changes = by (refusal (strong_tests axis f o c t w)) refl
    where
      by : (k : ℕ) → refusal (strong_tests axis f o c t w) ≡ k → let a =
          answered k (refused_by c t) (aligned_all axis f o c t w) in Changes c t w a.currents a.touched
      by zero e = all-change e
      by (suc k) e = nothing-changes

pub changes : (ws f o c : List ℤ) (t w : List ℕ) {r : ℕ} {c' : List ℤ} {t' : List ℕ} → StrongLent ws f o c t w r (c', t') → Changes c t w c' t'
changes ws f o c t w {r} {c'} {t'} a = by r a.held
  where
    of : {x y : List ℤ × List ℕ} → x ≡ y → Changes c t w y.0 y.1 → Changes c t w x.0 x.1
    of e k = subst (λ (z : List ℤ × List ℕ). Changes c t w z.0 z.1) (sym e) k

    by : (k : ℕ) → (c', t') ≡ cond (eqb k 0) (lists (align_strong (edges_of ws) f o c t w)) (c, t) → Changes c t w c' t'
    by zero e = of e (aligned-changes (edges_of ws) f o c t w)
    by (suc k) e = of (e ∙ not_new k (lists (align_strong (edges_of ws) f o c t w)) (c, t)) (nothing-changes (edges_of ws) f o c t w)

-- ---- the order
-- an answer 0 says that no test refuses
not-refused : (ws f o c : List ℤ) (t w : List ℕ) {now : List ℤ × List ℕ} → StrongLent ws f o c t w 0 now → refusal (strong_tests (edges_of ws) f o c t w) ≡ 0
unfolding align_strong
not-refused ws f o c t w a = by (refusal (strong_tests (edges_of ws) f o c t w)) refl (passed (edges_front ws true) _ a.number).1
  where
    by : (k : ℕ) → refusal (strong_tests (edges_of ws) f o c t w) ≡ k → (answered k (refused_by c t) (aligned_all (edges_of ws) f o c t w)).answer ≡ 0
        → refusal (strong_tests (edges_of ws) f o c t w) ≡ 0
    by zero e g = e
    by (suc k) e g = absurd (omega (arith, g))

-- and the font positions of the edges are of 16 bits
edges-short : (ws f o c : List ℤ) (t w : List ℕ) {now : List ℤ × List ℕ} → StrongLent ws f o c t w 0 now → Shorts (edges_of ws)
unfolding edges_front
edges-short ws f o c t w a i h =
    let k = all_hold (edges_front ws true) refl (passed (edges_front ws true) _ a.number).0 in
    fpos-short ws i (shown-whole ws (and_first (edges_shown ws) true k.1.1.0) (leb-true (edges_in ws) most_edges k.1.0)) (omega (arith, h, edges-len ws))

-- and the currents are those of every point at its place
now-at : (ws f o c : List ℤ) (t w : List ℕ) {c' : List ℤ} {t' : List ℕ} → StrongLent ws f o c t w 0 (c', t') → (i : ℕ) → i < length f
    → at c' i ≡ current_after (at c i) (strong_at (edges_of ws) f o t w i)
unfolding align_strong
now-at ws f o c t w {c'} {t'} a i h =
    ap (λ (z : List ℤ × List ℕ). at z.0 i) a.held
    ∙ ap (λ (k : ℕ). at (answered k (refused_by c t) (aligned_all (edges_of ws) f o c t w)).currents i) (not-refused ws f o c t w a)
    ∙ first-at (current (edges_of ws) f o c t w) (length f) i (pos 0) h

-- on edges whose font positions and positions do not fall, two points that were neither touched nor weak, in one order by font positions and originals, end in
-- it: always where both
-- are at or below the first edge, both at or above the last, or both inside; across, where the original of the one at or below the first is not above that
-- edge's, and that of
-- the one at or above the last not below that edge's
pub in_order : (ws f o c : List ℤ) (t w : List ℕ) {c' : List ℤ} {t' : List ℕ} → StrongLent ws f o c t w 0 (c', t') → let A = edges_of ws in
    Rising A → (A.len ≡ 0 → ⊥) → (i j : ℕ) → i < length f → j < length f
    → (is_touched t i || is_touched w i) ≡ false → (is_touched t j || is_touched w j) ≡ false → at f i ≤ℤ at f j → at o i ≤ℤ at o j
    → (at f i ≤ℤ fpos_at A 0 → fpos_at A 0 <ℤ at f j → at o i ≤ℤ (edge_at A 0).opos)
    → (fpos_at A 0 <ℤ at f j → fpos_at A (A.len - 1) ≤ℤ at f j → (at f i ≤ℤ fpos_at A 0) ⊎ (at f i <ℤ fpos_at A (A.len - 1))
    → (edge_at A (A.len - 1)).opos ≤ℤ at o j)
    → at c' i ≤ℤ at c' j
in_order ws f o c t w {c'} {t'} a rise some i j hi hj ei ej u v below above =
    let A = edges_of ws in
    let k = all_hold (strong_tests A f o c t w) refl (not-refused ws f o c t w a) in
    let all : all_placed A f o t w ≡ true = k.1.1.1.1.1.1.1.1.1.1.0 in
    let l = points-order A f o c t w rise (edges-short ws f o c t w a) some all i j hi hj ei ej u v below above in
    subst (λ (z : ℤ). z ≤ℤ at c' j) (sym (now-at ws f o c t w a i hi))
    (subst (λ (z : ℤ). current_after (at c i) (strong_at A f o t w i) ≤ℤ z) (sym (now-at ws f o c t w a j hj)) l)
