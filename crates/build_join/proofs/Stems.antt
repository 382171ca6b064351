-- Links by their positions: the test along a ring, and that it is the test of the links.
use Rattle.std.specs.Prelude.{None, Some}
use mathlib.Core.Path.{◌≡◌, refl, sym, ap, ◌∙◌}
use mathlib.Core.Bool.{Bool, true, false, cond, not, ◌||◌}
use mathlib.Core.List.{List, [], ◌∷◌}
use mathlib.Core.Logic.{⊎_elim}
use Prim.Native.Nat.{ℕ, zero, suc, ◌+◌, ◌≤◌, ◌<◌}
use native.Mathlib.Nat.{eq-or-lt_of_le}
use native.Mathlib.Omega.{arith}
use lib.Dec.{eqb}
use lib.IntN.{ℤ, pos}
use lib.ListN.{length, get_or, set, replicate, length-set}
use lib.Seq.{get_or-set_same, get_or-set_other}
use lib.Signed.{le_z}
use mir.Syntax.{w16}
use mir.Val.{SFits}
use Rattle.signed.proofs.Signed.{signed, range, to-le-false}
use Rattle.axis.specs.Link.{Link}
use Rattle.axis.specs.declared.segment.Segments.{Segments}
use Rattle.axis.specs.Limits.{most_segments}
use Rattle.axis.specs.Ring.{walk, times}
use Rattle.axis.specs.Segment.{segment_at}
use Rattle.axis.proofs.Rings.{Passes, walk_at}
use Rattle.build_join.specs.Joining.{links_near, agrees}
use Rattle.build_join.specs.Walks.{no_stem, StemAt, StemsOf, stem_near, stems_agree, stems_go}
use Rattle.build_join.proofs.Members.{times-head, times_more}

-- ---- along a walk
module _ (stems : List ℤ) (near : ℕ) (z : ℤ) (next : ℕ → ℕ) (last ix : ℕ) where
  -- one that is too far
  pub disagrees : (n : ℕ) → stem_near near z (get_or stems ix (pos 0)) ≡ false → false ≡ stems_agree stems near z (walk next last n ix)
  unfolding walk stems_agree
  disagrees zero h = rw h
  disagrees (suc n) h = go (eqb ix last)
    where
      go : (b : Bool) → false ≡ stems_agree stems near z (cond b (ix ∷ []) (ix ∷ walk next last n (next ix)))
      go true = rw h
      go false = rw h

  module _ (h : stem_near near z (get_or stems ix (pos 0)) ≡ true) where
    -- the last, and the step to the next
    pub agrees-last : (n : ℕ) → ix ≡ last → true ≡ stems_agree stems near z (walk next last n ix)
    unfolding stems_agree
    agrees-last n e = rw (walk_at next last n ix e, h)

    pub agrees_on : (most n : ℕ) → Passes next most last n ix → stems_agree stems near z (walk next last n (next ix))
        ≡ stems_agree stems near z (walk next last n ix)
    unfolding stems_agree
    agrees_on most n p = rw (p.step, h)

-- ---- what the numbers stand for
far : (z : ℤ) → z ≡ no_stem → le_z no_stem z ≡ true
far z e = rw e

near_by : (z : ℤ) → SFits w16 z → le_z no_stem z ≡ false
near_by z f = to-le-false no_stem z (omega (arith, signed, range f))

-- the test of two numbers is the test of the two links
stem-near : (t : Segments) (near j : ℕ) (k : Link) (a b : ℤ) → a ≡ (segment_at t j).pos → StemAt t k b → stem_near near a b ≡ links_near t near (Some j) k
unfolding stem_near links_near
stem-near t near j None a b p q = rw (far b (q.none refl))
stem-near t near j (Some m) a b p q = rw (near_by b (q.short m refl), p, q.to m refl)

all_near : (t : Segments) (stems : List ℤ) (near j : ℕ) (a : ℤ) (ms : List ℕ) → ((x : ℕ) → x < t.len → StemAt t (segment_at t x).link (get_or stems x (pos 0)))
    → a ≡ (segment_at t j).pos
    → ((x : ℕ) → 0 < times x ms → x < t.len) → stems_agree stems near a ms ≡ agrees t near (Some j) ms
unfolding stems_agree agrees
all_near t stems near j a [] S e h = refl
all_near t stems near j a (m ∷ ms) S e h =
    rw (
      stem-near t near j (segment_at t m).link a (get_or stems m (pos 0)) e (S m (h m (omega (arith, times-head m ms)))),
      all_near t stems near j a ms S e
          (λ x p. h x (omega (arith, times_more x m ms))),
    )

agrees-none : (t : Segments) (near : ℕ) (ms : List ℕ) → agrees t near None ms ≡ true
unfolding agrees links_near
agrees-none t near [] = refl
agrees-none t near (m ∷ ms) = agrees-none t near ms

-- a stem and all members of a group, by their numbers and by their links
by-link : (t : Segments) (stems : List ℤ) (near : ℕ) (l : Link) (z : ℤ) (ms : List ℕ)
    → ((x : ℕ) → x < t.len → StemAt t (segment_at t x).link (get_or stems x (pos 0))) → StemAt t l z
    → ((x : ℕ) → 0 < times x ms → x < t.len) → (le_z no_stem z || stems_agree stems near z ms) ≡ agrees t near l ms
by-link t stems near None z ms S A h = rw (far z (A.none refl)) (sym (agrees-none t near ms))
by-link t stems near (Some j) z ms S A h = rw (near_by z (A.short j refl)) (all_near t stems near j z ms S (A.to j refl) h)

pub stems-agree : (t : Segments) (cjk : Bool) (stems : List ℤ) (near i : ℕ) (ms : List ℕ) → StemsOf t cjk stems → i < t.len
    → ((x : ℕ) → 0 < times x ms → x < t.len)
    → stems_go stems near i ms ≡ (not cjk || agrees t near (segment_at t i).link ms)
stems-agree t true stems near i ms S hi h = by-link t stems near (segment_at t i).link (get_or stems i (pos 0)) ms (S.at refl) (S.at refl i hi) h
stems-agree t false stems near i ms S hi h = rw (far (get_or stems i (pos 0)) (S.none refl i hi))

-- ---- two links
pub none-to : (k : ℕ) → None ≡ Some k → ⊥
none-to k e = let z : ◌≡◌ {A = ℕ} 0 1 = cc in omega arith

pub to_same : (j k : ℕ) → Some j ≡ Some k → j ≡ k
to_same j k e = cc

-- ---- filling them in
-- the first i are filled in, the others hold the number for none
pub record Filled (t : Segments) (stems : List ℤ) (i : ℕ) : Type 0 where
  pub size : length stems ≡ most_segments
  pub filled : (k : ℕ) → k < i → StemAt t (segment_at t k).link (get_or stems k (pos 0))
  pub rest : (k : ℕ) → i ≤ k → k < most_segments → get_or stems k (pos 0) ≡ no_stem

replicate-at : (z d : ℤ) (n k : ℕ) → k < n → get_or (replicate n z) k d ≡ z
replicate-at z d zero k h = absurd (omega arith)
replicate-at z d (suc n) zero h = refl
replicate-at z d (suc n) (suc k) h = replicate-at z d n k (omega arith)

pub filled_none : (t : Segments) → Filled t (replicate most_segments no_stem) 0
filled_none t = record { size = refl; filled = λ k h. absurd (omega arith); rest = λ k h g. replicate-at no_stem (pos 0) most_segments k g }

module _ (t : Segments) (stems : List ℤ) (i : ℕ) (hi : i < most_segments) (F : Filled t stems i) where
  none-at : (segment_at t i).link ≡ None → StemAt t (segment_at t i).link (get_or stems i (pos 0))
  none-at e = record { none = λ q. F.rest i (omega arith) hi; to = λ k q. absurd (none-to k (sym e ∙ q)); short = λ k q. absurd (none-to k (sym e ∙ q)) }

  -- a segment without a link keeps the number for none
  pub filled-skip : (segment_at t i).link ≡ None → Filled t stems (i + 1)
  filled-skip e = record {
    size = F.size;
    filled = λ k h. ⊎_elim (λ (w : k ≡ i). rw w (none-at e)) (λ (w : k < i). F.filled k w) (eq-or-lt_of_le (omega arith));
    rest = λ k h g. F.rest k (omega arith) g;
  }

  -- one with a link gets that one's position
  pub filled_more : (j : ℕ) (z : ℤ) → (segment_at t i).link ≡ Some j → z ≡ (segment_at t j).pos → SFits w16 z → Filled t (set stems i z) (i + 1)
  filled_more j z e p f = record {
    size = length-set stems i z ∙ F.size;
    filled = λ k h. ⊎_elim (λ (w : k ≡ i). rw w (rw (get_or-set_same stems i z (pos 0) (rw F.size hi)) here))
        (λ (w : k < i). rw (get_or-set_other stems i k z (pos 0) (λ (q : k ≡ i). omega arith)) (F.filled k w)) (eq-or-lt_of_le (omega arith));
    rest = λ k h g. get_or-set_other stems i k z (pos 0) (λ (q : k ≡ i). omega arith) ∙ F.rest k (omega arith) g;
  }
    where
      here : StemAt t (segment_at t i).link z
      here =
          record { none = λ q. absurd (none-to j (sym q ∙ e)); to = λ k q. p ∙ ap (λ (m : ℕ). (segment_at t m).pos) (to_same j k (sym e ∙ q)); short = λ k q. f }

-- ---- all of them
pub stems-none : (t : Segments) (cjk : Bool) → cjk ≡ false → t.len ≤ most_segments → StemsOf t cjk (replicate most_segments no_stem)
stems-none t cjk e h =
    record { at = λ q. absurd (let z : ◌≡◌ {A = ℕ} 0 1 = cc in omega arith); none = λ q i l. replicate-at no_stem (pos 0) most_segments i (omega arith) }

pub stems-all : (t : Segments) (cjk : Bool) (stems : List ℤ) (i : ℕ) → cjk ≡ true → t.len ≤ i → Filled t stems i → StemsOf t cjk stems
stems-all t cjk stems i e h F = record { at = λ q k l. F.filled k (omega arith); none = λ q. absurd (let z : ◌≡◌ {A = ℕ} 0 1 = cc in omega arith) }
