-- What the call does not read: of edges that are accepted it reads which are done, their links and where they are, so that marks and zones make no difference.
use Rattle.std.specs.Prelude.{None, Some}
use mathlib.Core.Path.{◌≡◌, refl, ap, ◌∙◌}
use mathlib.Core.Bool.{Bool, cond, not, ◌&&◌, ◌||◌}
use mathlib.Core.List.{[], ◌∷◌}
use Prim.Native.Nat.{ℕ, zero, suc, ◌+◌, ◌≤◌, ◌<◌}
use native.Mathlib.Omega.{arith}
use lib.Dec.{leb}
use lib.IntN.{ℤ, pos, ◌-ℤ◌}
use lib.Signed.{le_z}
use Rattle.refusals.specs.Refusal.{◌unless◌, too_long, bad_parameter, bad_index, out_of_range, refusal}
use Rattle.axis.specs.Link.{Link}
use Rattle.axis.specs.declared.edge.Edge.{Edge}
use Rattle.axis.specs.declared.edge.Axis.{Axis}
use Rattle.axis.specs.Edge.{edge_at}
use Rattle.axis.specs.Limits.{most_edges, most_units}
use Rattle.axis.specs.Link.{links_to}
use Rattle.axis.specs.Mark.{Blind}
use Rattle.axis.specs.Refusals.{inside}
use Rattle.axis.proofs.Alike.{AlikeAxis, at-alike, alike_len, indices-alike, numbers-alike, answered-alike, blind}
use Rattle.gaps.specs.Answer.{Gaps}
use Rattle.gaps.specs.Gaps.{
  is_done,
  not_done,
  asked_for,
  counts,
  gone,
  lost_gap,
  lost_stem,
  lost,
  last_of,
  before,
  pair_from,
  kind_from,
  pair_to,
  ends,
  counted,
  or_else,
  first_of,
  pair_at,
  found_to,
  found_in,
  refused_by,
  lost_gaps,
}
use Rattle.gaps.proofs.Firsts.{First, first_is}
use Rattle.gaps.proofs.Lasts.{Last, last_is}

-- two axes have as many edges, the same of them done, with the same links, and these at the same places before fitting and after it
pub record SameRead (a b : Axis) : Type 0 where
  pub len : a.len ≡ b.len
  pub finished : (i : ℕ) → i < a.len → is_done a i ≡ is_done b i
  pub link : (i : ℕ) → i < a.len → (edge_at a i).link ≡ (edge_at b i).link
  pub opos : (i : ℕ) → i < a.len → (edge_at a i).opos ≡ (edge_at b i).opos
  pub pos : (i : ℕ) → i < a.len → (edge_at a i).pos ≡ (edge_at b i).pos

-- ---- tests that agree below n
module _ (p q : ℕ → Bool) where
  counted_same : (n : ℕ) → ((i : ℕ) → i < n → p i ≡ q i) → counted p n ≡ counted q n
  unfolding counted
  counted_same zero h = refl
  counted_same (suc n) h = let c = counted_same n (λ i l. h i (omega arith)) in λ k. cond (h n (omega arith) k) (c k + 1) (c k)

  first-same : (n : ℕ) → ((i : ℕ) → i < n → p i ≡ q i) → first_of p n ≡ first_of q n
  unfolding first_of
  first-same zero h = refl
  first-same (suc n) h = let f = first-same n (λ i l. h i (omega arith)) in λ k. or_else (f k) (cond (h n (omega arith) k) (Some n) None)

  last-same : (n : ℕ) → ((i : ℕ) → i < n → p i ≡ q i) → last_of p n ≡ last_of q n
  unfolding last_of
  last-same zero h = refl
  last-same (suc n) h = let r = last-same n (λ i l. h i (omega arith)) in λ k. cond (h n (omega arith) k) (Some n) (r k)

-- ---- what is found
module _ (least : ℤ) (linked : Bool) (a b : Axis) (s : SameRead a b) where
  counts_same : (i : ℕ) → i < a.len → counts linked a i ≡ counts linked b i
  counts_same i h = λ k. asked_for linked (s.link i h k) && s.finished i h k

  before_same : (j : ℕ) → j ≤ a.len → before linked a j ≡ before linked b j
  before_same j h = last-same (counts linked a) (counts linked b) j (λ i l. counts_same i (omega arith))

  -- pairs of two edges, and their kinds
  module _ (i j : ℕ) (h : i < a.len) (g : j < a.len) where
    gap_same : lost_gap least a i j ≡ lost_gap least b i j
    unfolding lost_gap
    gap_same = λ k.
        not (links_to (s.link i h k) j || links_to (s.link j g k) i)
        && (le_z least (s.opos j g k -ℤ s.opos i h k) && gone (s.opos j g k -ℤ s.opos i h k) (s.pos i h k) (s.pos j g k))

    stem-same : lost_stem a i j ≡ lost_stem b i j
    unfolding lost_stem
    stem-same = λ k. (links_to (s.link i h k) j || links_to (s.link j g k) i) && gone (s.opos j g k -ℤ s.opos i h k) (s.pos i h k) (s.pos j g k)

    lost-same : lost least a i j ≡ lost least b i j
    unfolding lost
    lost-same = λ k. gap_same k || stem-same k

  from-same : (j : ℕ) (l : Link) → j < a.len → Last (counts linked a) j l → pair_from a j l ≡ pair_from b j l
  from-same j None h f = refl
  from-same j (Some i) h f =
      let o = (f.some i refl).order in
      λ k. record {
        first = Some i;
        second = Some j;
        before = s.opos j h k -ℤ s.opos i (omega arith) k;
        after = s.pos j h k -ℤ s.pos i (omega arith) k;
      }

  to_same : (j : ℕ) → j < a.len → pair_to linked a j ≡ pair_to linked b j
  unfolding pair_to
  to_same j h = from-same j (before linked a j) h (last_is (counts linked a) j) ∙ ap (pair_from b j) (before_same j (omega arith))

  ends_same : (x y : ℕ → ℕ → Bool) → ((i j : ℕ) → i < a.len → j < a.len → x i j ≡ y i j) → (j : ℕ) → j < a.len → ends linked a x j ≡ ends linked b y j
  unfolding ends
  ends_same x y e j h = λ k. counts_same j h k && (by (before linked a j) (last_is (counts linked a) j) ∙ ap (kind_from y j) (before_same j (omega arith))) k
    where
      by : (l : Link) → Last (counts linked a) j l → kind_from x j l ≡ kind_from y j l
      by None f = refl
      by (Some i) f = let o = (f.some i refl).order in e i j (omega arith) h

  at_same : (l : Link) → First (ends linked a (lost least a)) a.len l → pair_at linked a l ≡ pair_at linked b l
  at_same None f = refl
  at_same (Some j) f = to_same j (f.some j refl).below

  -- the same is found
  pub found-same : found_in least linked a ≡ found_in least linked b
  unfolding found_to
  found-same =
      let gaps = ends_same (lost_gap least a) (lost_gap least b) gap_same in
      let stems = ends_same (lost_stem a) (lost_stem b) stem-same in
      let either = ends_same (lost least a) (lost least b) lost-same in
      let first = first_is (ends linked a (lost least a)) a.len in
      let named = at_same (first_of (ends linked a (lost least a)) a.len) first
      ∙ ap (pair_at linked b) (first-same (ends linked a (lost least a)) (ends linked b (lost least b)) a.len either) in
      (λ k. record {
        answer = 0;
        count = counted_same _ _ a.len gaps k;
        pair = named k;
        stems = counted_same _ _ a.len stems k;
        not_done = counted_same (not_done a) (not_done b) a.len (λ i h. ap not (s.finished i h)) k;
      })
      ∙ ap (found_to least linked b) s.len

-- ---- marks
-- alike axes have the same outcome, so the call is blind to marks
pub marks-unread : (least : ℤ) (linked : Bool) → Blind (λ (axis : Axis). lost_gaps axis least linked) (λ (r : Gaps). r)
unfolding lost_gaps
marks-unread least linked = blind (λ (axis : Axis). lost_gaps axis least linked) (λ (r : Gaps). r) same
  where
    read : (a b : Axis) → AlikeAxis a b → SameRead a b
    read a b h = record {
      len = alike_len a b h;
      finished = λ i l. ap (λ (e : Edge). e.flags.done) (at-alike a b i h).same;
      link = λ i l. ap (λ (e : Edge). e.link) (at-alike a b i h).same;
      opos = λ i l. ap (λ (e : Edge). e.opos) (at-alike a b i h).same;
      pos = λ i l. ap (λ (e : Edge). e.pos) (at-alike a b i h).same;
    }

    same : (a b : Axis) → AlikeAxis a b → lost_gaps a least linked ≡ lost_gaps b least linked
    same a b h =
        answered-alike (λ (r : Gaps). r) _ _ refused_by refused_by (found_in least linked a) (found_in least linked b)
        (λ k. refusal (
        too_long unless leb (alike_len a b h k) most_edges
        ∷ bad_parameter unless inside (pos 0) (pos most_units) least
        ∷ bad_index unless indices-alike a b h k
        ∷ out_of_range unless numbers-alike a b h k
        ∷ []
        ))
        (λ n. refl) (found-same least linked a b (read a b h))
