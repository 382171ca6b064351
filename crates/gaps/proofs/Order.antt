-- What a user relies on: where nothing is lost, wide gaps and all stems have a pixel row, and at width 0 edges keep their order.
use Rattle.std.specs.Prelude.{None, Some}
use mathlib.Core.Path.{◌≡◌, refl, sym, ap, subst, ◌∙◌}
use mathlib.Core.Bool.{Bool, true, false, not, ◌&&◌}
use mathlib.Core.Logic.{⊎_elim}
use Prim.Native.Nat.{ℕ, zero, suc, ◌≤◌, ◌<◌}
use native.Mathlib.Nat.{eq-or-lt_of_le}
use native.Mathlib.Omega.{arith}
use lib.IntN.{ℤ, pos, ◌-ℤ◌}
use lib.Signed.{lt_z, le_z, ◌≤ℤ◌, ◌<ℤ◌}
use Rattle.refusals.proofs.Tests.{and_second}
use Rattle.signed.proofs.Choices.{clash}
use Rattle.signed.proofs.Signed.{signed, is-<ℤ, to-le-true, below, atmost, lt-or-le}
use Rattle.axis.specs.Link.{Link}
use Rattle.axis.specs.declared.edge.Axis.{Axis}
use Rattle.axis.specs.declared.edge.Edge.{Edge}
use Rattle.axis.specs.Changes.{Extent, nothing, position, place, zone, taking, OnlyAxis}
use Rattle.axis.specs.Edge.{edge_at}
use Rattle.gaps.specs.Gaps.{
  row_from,
  RowBetween,
  is_done,
  asked_for,
  counts,
  IsPair,
  is_stem,
  width_before,
  is_gone,
  lost_gap,
  lost_stem,
  before,
  lost_gaps,
  HasRow,
  EdgesRise,
  DoneRise,
  SameOpos,
  KeepsOrder,
}
use Rattle.gaps.proofs.Ends.{starts-pair}
use Rattle.gaps.proofs.Lasts.{Last, last_is}
use Rattle.gaps.proofs.Losing.{kept-order, kept_row}
use Rattle.gaps.proofs.Determined.{no-gap-lost, no-stem-lost}

-- ---- two edges, by their widths
at-most-width : (x y : ℤ) → x ≤ℤ y → pos 0 ≤ℤ (y -ℤ x)
at-most-width x y h = atmost (omega (arith, signed))

below-width : (x y : ℤ) → x <ℤ y → pos 0 <ℤ (y -ℤ x)
below-width x y h = below (omega (arith, signed))

-- order goes on from pair to pair
orders-on : (axis : Axis) (i k j : ℕ) → KeepsOrder axis i k → KeepsOrder axis k j → KeepsOrder axis i j
orders-on axis i k j a b =
    let x = a.not_turned in
    let y = b.not_turned in
    record {
      not_turned = omega (arith, signed);
      not_closed = λ (h : (edge_at axis i).opos <ℤ (edge_at axis j).opos). by h
          (lt_z (edge_at axis i).opos (edge_at axis k).opos) refl;
    }
  where
    by : (edge_at axis i).opos <ℤ (edge_at axis j).opos → (t : Bool) → lt_z (edge_at axis i).opos (edge_at axis k).opos ≡ t
        → (edge_at axis i).pos <ℤ (edge_at axis j).pos
    by h true e = let x = a.not_closed (is-<ℤ _ _ e) in let y = b.not_turned in omega (arith, signed)
    by h false e = let x = a.not_turned in let y = b.not_closed (omega (arith, signed)) in omega (arith, signed)

-- ---- original positions
-- where those of all edges do not fall, those of done ones do not
pub done-rise : (axis : Axis) → EdgesRise axis → DoneRise axis
done-rise axis r = record { at = λ i j o b d f. r.at i j o b }

-- where they are the same, they rise on
pub rise-kept : (old new : Axis) → SameOpos old new → EdgesRise old → EdgesRise new
rise-kept old new s r = record {
  at = λ i j o b. let l : j < old.len = omega (arith, s.len, b) in rw (s.at i (omega (arith, o, l)), s.at j l) (r.at i j o l);
}

-- no pass changes them
pub pass-keeps : (extent : ℕ → Extent) (old new : Axis) → OnlyAxis extent old new → SameOpos old new
pass-keeps extent old new c =
    record { len = c.len; at = λ i h. ap (λ (e : Edge). e.opos) (c.edges.edge i).rest ∙ kept (extent i) (edge_at old i) (edge_at new i) }
  where
    kept : (x : Extent) (e f : Edge) → (taking x e f).opos ≡ e.opos
    kept nothing e f = refl
    kept (position ms) e f = refl
    kept (place ms) e f = refl
    kept (zone ms) e f = refl

pub same-opos : (a b c : Axis) → SameOpos a b → SameOpos b c → SameOpos a c
same-opos a b c s t = record { len = t.len ∙ s.len; at = λ i h. t.at i (omega (arith, s.len, h)) ∙ s.at i h }

-- ---- the axis
-- nothing lost, whether a pair is gone by whether it is a stem and was wide enough
not-gone : (s w g : Bool) → (not s && (w && g)) ≡ false → (s && g) ≡ false → (s ≡ false → w ≡ true) → g ≡ false
not-gone s w false a b h = refl
not-gone true w true a b h = b
not-gone false w true a b h = let q : (w && true) ≡ true = ap (λ (x : Bool). x && true) (h refl) in absurd (clash _ a q)

module _ (axis : Axis) (least : ℤ) (linked : Bool) (e : (lost_gaps axis least linked).answer ≡ 0) (z : (lost_gaps axis least linked).count ≡ 0)
    (s : (lost_gaps axis least linked).stems ≡ 0) where
  -- a pair that was wide enough, or is a stem, is not gone
  pair-stays : (i j : ℕ) → IsPair linked axis i j → (is_stem axis i j ≡ false → least ≤ℤ width_before axis i j) → is_gone axis i j ≡ false
  unfolding lost_gap lost_stem
  pair-stays i j p h =
      not-gone (is_stem axis i j) (le_z least (width_before axis i j)) (is_gone axis i j) (no-gap-lost axis least linked e z i j p)
      (no-stem-lost axis least linked e s i j p)
      (λ n. let w = h n in to-le-true least (width_before axis i j) (omega (arith, signed, w)))

  -- every gap at least so wide, and every stem, that was above 0 wide has a pixel row
  pub rows-kept : (i j : ℕ) → IsPair linked axis i j → (is_stem axis i j ≡ false → least ≤ℤ width_before axis i j) → pos 0 <ℤ width_before axis i j
      → HasRow axis i j
  rows-kept i j p h o = record { row = row_from (edge_at axis i).pos; between = kept_row _ _ _ (pair-stays i j p h) o }

module _ (axis : Axis) (linked : Bool) (r : DoneRise axis) (e : (lost_gaps axis (pos 0) linked).answer ≡ 0) (z : (lost_gaps axis (pos 0) linked).count ≡ 0)
    (s : (lost_gaps axis (pos 0) linked).stems ≡ 0) where
  counts-done : (i : ℕ) → counts linked axis i ≡ true → is_done axis i ≡ true
  counts-done i c = and_second (asked_for linked (edge_at axis i).link) (is_done axis i) c

  -- of a pair
  pair_keeps : (i j : ℕ) → IsPair linked axis i j → KeepsOrder axis i j
  pair_keeps i j g =
      record {
        not_turned = kept-order _ _ _ stays;
        not_closed = λ (h : (edge_at axis i).opos <ℤ (edge_at axis j).opos). apart
            (kept_row _ _ _ stays (below-width _ _ h));
      }
    where
      stays : is_gone axis i j ≡ false
      stays =
          pair-stays axis (pos 0) linked e z s i j g
          (λ n. at-most-width _ _ (r.at i j g.order g.below (counts-done i g.first) (counts-done j g.second)))

      apart : RowBetween (edge_at axis i).pos (edge_at axis j).pos (row_from (edge_at axis i).pos) → (edge_at axis i).pos <ℤ (edge_at axis j).pos
      apart b = let x = b.not_below in let y = b.below in omega (arith, signed, x, y)

  -- of any two edges that count, by the pairs between them: the last of these starts at the last edge in front of the second that counts
  keeps-to : (n i j : ℕ) → j ≤ n → i < j → j < axis.len → counts linked axis i ≡ true → counts linked axis j ≡ true → KeepsOrder axis i j
  keeps-to zero i j m o b d f = absurd (omega arith)
  keeps-to (suc n) i j m o b d f = by (keeps-to n i) (before linked axis j) refl (last_is (counts linked axis) j)
    where
      by : ((k : ℕ) → k ≤ n → i < k → k < axis.len → counts linked axis i ≡ true → counts linked axis k ≡ true → KeepsOrder axis i k)
          → (l : Link) → before linked axis j ≡ l → Last (counts linked axis) j l → KeepsOrder axis i j
      by rest None q l = absurd (clash _ (l.none refl i o) d)
      by rest (Some k) q l =
          let last = l.some k refl in
          let pair = starts-pair linked axis k j b f q in
          let under = last.order in
          ⊎_elim
          (λ (h : k < i). absurd (clash _ (last.between i h o) d))
          (λ (h : i ≤ k).
          ⊎_elim
          (λ (w : i ≡ k). pair_keeps i j (subst (λ (x : ℕ). IsPair linked axis x j) (sym w) pair))
          (λ (w : i < k). orders-on axis i k j (rest k (omega arith) w (omega arith) d last.passes) (pair_keeps k j pair))
          (eq-or-lt_of_le h))
          (lt-or-le k i)

  -- the second of two edges that count is not in front of the first, and it is behind it where it was
  pub counts-kept : (i j : ℕ) → i < j → j < axis.len → counts linked axis i ≡ true → counts linked axis j ≡ true → KeepsOrder axis i j
  counts-kept i j = keeps-to j i j (omega arith)

-- with links not asked for, of two done edges
pub order-kept : (axis : Axis) → DoneRise axis → (lost_gaps axis (pos 0) false).answer ≡ 0 → (lost_gaps axis (pos 0) false).count ≡ 0
    → (lost_gaps axis (pos 0) false).stems ≡ 0
    → (i j : ℕ) → i < j → j < axis.len → is_done axis i ≡ true → is_done axis j ≡ true → KeepsOrder axis i j
order-kept axis r e z s = counts-kept axis false r e z s
