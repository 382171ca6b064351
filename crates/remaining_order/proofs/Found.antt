-- The done edges around an edge: the last one before it, and the first one behind it; and the first and the last of all.
use Rattle.std.specs.Prelude.{None, Some}
use mathlib.Core.Path.{◌≡◌, refl, sym, ap, subst}
use mathlib.Core.Bool.{Bool, true, false, cond}
use mathlib.Core.Logic.{⊎_elim}
use Prim.Native.Nat.{ℕ, zero, suc, ◌+◌, ◌-◌, ◌≤◌, ◌<◌}
use native.Mathlib.Nat.{eq-or-lt_of_le}
use native.Mathlib.Numerals.{add-one}
use native.Mathlib.Omega.{arith}
use Rattle.signed.proofs.Choices.{clash}
use Rattle.axis.specs.Link.{Link}
use Rattle.axis.specs.declared.edge.Axis.{Axis}
use Rattle.gaps.specs.Gaps.{is_done, last_of, first_of}
use Rattle.gaps.proofs.Firsts.{First, first_is}
use Rattle.gaps.proofs.Lasts.{Last, last_is}
use Rattle.remaining.specs.Remaining.{done_before, done_from, done_behind}
use Rattle.remaining_order.specs.Order.{FirstDone, LastDone}

module _ (axis : Axis) where
  -- ---- before
  last-before : (i : ℕ) → last_of (is_done axis) i ≡ done_before axis i
  unfolding last_of done_before
  last-before zero = refl
  last-before (suc k) = ap (cond (is_done axis k) (Some k)) (last-before k)

  pub before-is : (i : ℕ) → Last (is_done axis) i (done_before axis i)
  before-is i = subst (Last (is_done axis) i) (last-before i) (last_is (is_done axis) i)

  -- ---- behind
  -- f is the first done one of n edges from k on
  pub record IsNext (n k f : ℕ) : Type 0 where
    pub from : k ≤ f
    pub below : f < k + n
    pub done : is_done axis f ≡ true
    pub between : (j : ℕ) → k ≤ j → j < f → is_done axis j ≡ false

  -- what l is: the first of them, or none
  pub record Next (n k : ℕ) (l : Link) : Type 0 where
    pub none : l ≡ None → (j : ℕ) → k ≤ j → j < k + n → is_done axis j ≡ false
    pub some : (f : ℕ) → l ≡ Some f → IsNext n k f

  no-link : {k : ℕ} → Some k ≡ None → ⊥
  no-link e = let z : ◌≡◌ {A = ℕ} 0 1 = cc in omega arith

  pub from_is : (n k : ℕ) → Next n k (done_from axis n k)
  unfolding done_from
  from_is zero k = record { none = λ e j g h. absurd (omega arith); some = λ f e. absurd (no-link (sym e)) }
  from_is (suc n) k = by (is_done axis k) refl (from_is n (k + 1))
    where
      by : (t : Bool) → is_done axis k ≡ t → Next n (k + 1) (done_from axis n (k + 1)) → Next (suc n) k (cond t (Some k) (done_from axis n (k + 1)))
      by true q x = record {
        none = λ e. absurd (no-link e);
        some = λ (f : ℕ) (e : Some k ≡ Some f).
            let w : k ≡ f = cc in
            subst (IsNext (suc n) k) w (record { from = omega arith; below = omega arith; done = q; between = λ j g h. absurd (omega arith) });
      }
      by false q x = record {
        none =
            λ e j g h. ⊎_elim (λ (w : k ≡ j). subst (λ (y : ℕ). is_done axis y ≡ false) w q) (λ (l : k < j). x.none e j (omega arith) (omega arith))
            (eq-or-lt_of_le g);
        some = λ f e.
            let y = x.some f e in
            record {
              from = omega (arith, y.from);
              below = omega (arith, y.below);
              done = y.done;
              between =
                  λ j g h. ⊎_elim (λ (w : k ≡ j). subst (λ (y : ℕ). is_done axis y ≡ false) w q) (λ (l : k < j). y.between j (omega arith) h)
                  (eq-or-lt_of_le g);
            };
      }

  -- ---- one edge further
  pub before-next : (i : ℕ) → done_before axis (i + 1) ≡ cond (is_done axis i) (Some i) (done_before axis i)
  unfolding done_before
  before-next i = rw add-one

  pub behind-next : (i : ℕ) → i + 1 < axis.len → done_behind axis i ≡ cond (is_done axis (i + 1)) (Some (i + 1)) (done_behind axis (i + 1))
  unfolding done_from
  behind-next i h = go (axis.len - (i + 1)) (axis.len - (i + 1 + 1)) (omega arith)
    where
      go : (a b : ℕ) → a ≡ suc b → done_from axis a (i + 1) ≡ cond (is_done axis (i + 1)) (Some (i + 1)) (done_from axis b (i + 1 + 1))
      go a b e = rw e

-- ---- the first and the last of all
-- where some edge is done there are both
pub record DoneEnds (axis : Axis) : Type 0 where
  pub first : ℕ
  pub last : ℕ
  pub first_done : FirstDone axis first
  pub last_done : LastDone axis last

pub done-ends : (axis : Axis) (k : ℕ) → k < axis.len → is_done axis k ≡ true → DoneEnds axis
done-ends axis k l d =
    by (first_of (is_done axis) axis.len) (last_of (is_done axis) axis.len) (first_is (is_done axis) axis.len) (last_is (is_done axis) axis.len)
  where
    by : (f e : Link) → First (is_done axis) axis.len f → Last (is_done axis) axis.len e → DoneEnds axis
    by None e x y = absurd (clash _ ((x.none refl).fails k l) d)
    by (Some f) None x y = absurd (clash _ (y.none refl k l) d)
    by (Some f) (Some e) x y =
        let low = x.some f refl in
        let high = y.some e refl in
        record {
          first = f;
          last = e;
          first_done = record { there = low.below; done = low.passes; earlier = low.earlier };
          last_done = record { there = high.order; done = high.passes; later = high.between };
        }
