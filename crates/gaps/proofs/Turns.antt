-- The search edge by edge: what is found with one edge more, and each way round the loop.
use Rattle.std.specs.Prelude.{None, Some, MatchOption}
use mathlib.Core.Path.{◌≡◌, refl, sym, ap, subst, ◌∙◌}
use mathlib.Core.Bool.{Bool, true, false, cond, not, ◌&&◌, ◌||◌}
use Prim.Native.Nat.{ℕ, ◌+◌, ◌≤◌, ◌<◌}
use native.Mathlib.Omega.{arith}
use lib.IntN.{ℤ, pos, ◌-ℤ◌}
use lib.Signed.{lt_z, le_z}
use Rattle.refusals.proofs.Tests.{and_second}
use Rattle.signed.proofs.Choices.{cond-true, cond-false}
use Rattle.signed.proofs.Reading.{turned_lt}
use Rattle.signed.proofs.Signed.{same, signed}
use Rattle.axis.specs.Link.{Link}
use Rattle.axis.specs.declared.edge.Edge.{Edge}
use Rattle.axis.specs.declared.edge.Axis.{Axis}
use Rattle.axis.specs.Accepted.{AxisWithin}
use Rattle.axis.specs.Edge.{edge_at}
use Rattle.axis.specs.Limits.{most_edges, most_pos}
use Rattle.axis.specs.Link.{is_linked, index_or}
use Rattle.axis.proofs.Tests.{and-false}
use Rattle.gaps.specs.declared.pair.Pair.{Pair}
use Rattle.gaps.specs.Answer.{Gaps}
use Rattle.gaps.specs.Gaps.{
  is_done,
  not_done,
  asked_for,
  counts,
  is_stem,
  width_before,
  gone,
  is_gone,
  lost_gap,
  lost_stem,
  lost,
  last_of,
  before,
  pair_from,
  kind_from,
  pair_to,
  ends,
  counted,
  or_else,
  first_of,
  pair_at,
  found_to,
  found_in,
  refused_by,
}
use Rattle.gaps.specs.Steps.{Placed, Few, pair_of, stem_of, gone_of, named_of, more_undone, more_pairs, with_pair}
use Rattle.gaps.proofs.Lasts.{last-skip, last_step, last_is}
use Rattle.gaps.proofs.Losing.{self-kept}
use Rattle.gaps.proofs.Firsts.{counted-more, first_more, counted-few, First, first_is}
use Rattle.gaps.proofs.Ends.{ends-pair}

-- ---- one pair more, as the code comes to it
module _ (least : ℤ) (found : Gaps) (i : ℕ) (e : Edge) (j : ℕ) (f : Edge) where
  -- it is not gone
  pub adds-kept : gone_of e f ≡ false → found ≡ with_pair least found i e j f
  adds-kept g = sym (cond-false (gone_of e f) _ _ g)

  module _ (g : gone_of e f ≡ true) (p : Pair) (q : p ≡ named_of found.pair (pair_of i e j f)) where
    -- it is a stem
    pub adds-stem : stem_of i e j f ≡ true
        → record {
          answer =
              found.answer;
          count = found.count;
          pair = p;
          stems = found.stems + 1;
          not_done = found.not_done;
        } ≡ with_pair least found i e j f
    adds-stem s =
        (λ x. record { answer = found.answer; count = found.count; pair = q x; stems = found.stems + 1; not_done = found.not_done })
        ∙ sym (cond-true (gone_of e f) _ _ g ∙ cond-true (stem_of i e j f) _ _ s)

    -- it is a gap, too narrow or wide enough
    module _ (s : stem_of i e j f ≡ false) where
      pub adds-narrow : lt_z (f.opos -ℤ e.opos) least ≡ true → found ≡ with_pair least found i e j f
      adds-narrow n =
          sym (cond-true (gone_of e f) _ _ g ∙ cond-false (stem_of i e j f) _ _ s
          ∙ cond-false (le_z least (f.opos -ℤ e.opos)) _ _ (turned_lt (f.opos -ℤ e.opos) least ∙ ap not n))

      pub adds-gap : lt_z (f.opos -ℤ e.opos) least ≡ false
          → record {
            answer =
                found.answer;
            count = found.count + 1;
            pair = p;
            stems = found.stems;
            not_done = found.not_done;
          } ≡ with_pair least found i e j f
      adds-gap n =
          (λ x. record { answer = found.answer; count = found.count + 1; pair = q x; stems = found.stems; not_done = found.not_done })
          ∙ sym (cond-true (gone_of e f) _ _ g ∙ cond-false (stem_of i e j f) _ _ s
          ∙ cond-true (le_z least (f.opos -ℤ e.opos)) _ _ (turned_lt (f.opos -ℤ e.opos) least ∙ ap not n))

-- ---- one edge more
-- an edge is no width behind itself, so that the pair from it to itself is not gone
no-width : (x : ℤ) → x -ℤ x ≡ pos 0
no-width x = same (omega (arith, signed))

self-stays : (e : Edge) → gone_of e e ≡ false
self-stays e = ap (λ (z : ℤ). gone z e.pos e.pos) (no-width e.opos) ∙ self-kept e.pos

-- an edge that is not done does not count
undone : (linked : Bool) (axis : Axis) (i : ℕ) → is_done axis i ≡ false → counts linked axis i ≡ false
undone linked axis i h = let a = asked_for linked (edge_at axis i).link in ap (λ (t : Bool). a && t) h ∙ and-false a

-- one index, or none
or-none : (l : Link) → or_else l None ≡ l
or-none None = refl
or-none (Some k) = refl

module _ (least : ℤ) (linked : Bool) (axis : Axis) (i : ℕ) where
  -- what edge i ends, by the kinds of its pair
  abbrev gaps : ℕ → Bool
  gaps = ends linked axis (lost_gap least axis)

  abbrev stems : ℕ → Bool
  stems = ends linked axis (lost_stem axis)

  abbrev either : ℕ → Bool
  either = ends linked axis (lost least axis)

  -- what is found, where edge i ends a lost gap, a lost stem or either, and is not done
  abbrev more_by : Bool → Bool → Bool → Bool → Gaps
  more_by g s l d = record {
    answer = 0;
    count = cond g (counted gaps i + 1) (counted gaps i);
    pair = pair_at linked axis (or_else (first_of either i) (cond l (Some i) None));
    stems = cond s (counted stems i + 1) (counted stems i);
    not_done = cond d (counted (not_done axis) i + 1) (counted (not_done axis) i);
  }

  found-more : found_to least linked axis (i + 1) ≡ more_by (gaps i) (stems i) (either i) (not_done axis i)
  unfolding found_to
  found-more = λ x. record {
    answer = 0;
    count = counted-more gaps i x;
    pair = pair_at linked axis (first_more either i x);
    stems = counted-more stems i x;
    not_done = counted-more (not_done axis) i x;
  }

  -- nothing lost: the pair that is named stays
  abbrev same_but : ℕ → Gaps
  same_but d = record { answer = 0; count = counted gaps i; pair = pair_at linked axis (first_of either i); stems = counted stems i; not_done = d }

  none-lost : (d : Bool) → more_by false false false d ≡ same_but (cond d (counted (not_done axis) i + 1) (counted (not_done axis) i))
  none-lost d =
      ap (λ (l : Link). record {
        answer = 0;
        count = counted gaps i;
        pair = pair_at linked axis l;
        stems = counted stems i;
        not_done = cond d
            (counted (not_done axis) i + 1) (counted (not_done axis) i);
      }) (or-none (first_of either i))

  -- an edge that does not count ends nothing
  ends-none : (kind : ℕ → ℕ → Bool) → counts linked axis i ≡ false → ends linked axis kind i ≡ false
  unfolding ends
  ends-none kind h = rw h

  uncounted : counts linked axis i ≡ false → found_to least linked axis (i + 1)
      ≡ same_but (cond (not_done axis i) (counted (not_done axis) i + 1) (counted (not_done axis) i))
  uncounted h =
      found-more
      ∙ (λ x. more_by (ends-none (lost_gap least axis) h x) (ends-none (lost_stem axis) h x) (ends-none (lost least axis) h x) (not_done axis i))
      ∙ none-lost (not_done axis i)

  -- one that is not done is counted as such
  pub found-undone : is_done axis i ≡ false → found_to least linked axis (i + 1) ≡ more_undone (found_to least linked axis i)
  unfolding found_to
  found-undone h =
      uncounted (undone linked axis i h)
      ∙ ap (λ (t : Bool). same_but (cond (not t) (counted (not_done axis) i + 1) (counted (not_done axis) i))) h

  -- one that is done, and does not count, adds nothing
  pub found-skip : is_done axis i ≡ true → counts linked axis i ≡ false → found_to least linked axis (i + 1) ≡ found_to least linked axis i
  unfolding found_to
  found-skip d h = uncounted h ∙ ap (λ (t : Bool). same_but (cond (not t) (counted (not_done axis) i + 1) (counted (not_done axis) i))) d

  -- ---- one that counts adds the pair that it ends
  -- the pair that is named with it
  named_more : i < axis.len → (p : Pair) → pair_to linked axis i ≡ p
      → pair_at linked axis (or_else (first_of either i) (Some i)) ≡ named_of (pair_at linked axis (first_of either i)) p
  named_more h p e = by (first_of either i) (first_is either i)
    where
      by : (l : Link) → First either i l → pair_at linked axis (or_else l (Some i)) ≡ named_of (pair_at linked axis l) p
      by None f = e
      by (Some k) f =
          let one = f.some k refl in
          let z = (ends-pair linked axis (lost least axis) k (omega (arith, h, one.below)) one.passes).named in
          sym (cond-true (is_linked (pair_to linked axis k).first) _ _ (ap (λ (x : Pair). is_linked x.first) z))

  -- what is found with it, by whether its pair is gone, is a stem, and was wide enough
  more-is : i < axis.len → (p : Pair) → pair_to linked axis i ≡ p → (g s w : Bool)
      → more_by (not s && (w && g)) (s && g) ((not s && (w && g)) || (s && g)) false ≡ more_pairs g s w (same_but (counted (not_done axis) i)) p
  more-is h p e true true w =
      ap (λ (x : Pair). record { answer = 0; count = counted gaps i; pair = x; stems = counted stems i + 1; not_done = counted (not_done axis) i })
      (named_more h p e)
  more-is h p e true false true =
      ap (λ (x : Pair). record { answer = 0; count = counted gaps i + 1; pair = x; stems = counted stems i; not_done = counted (not_done axis) i })
      (named_more h p e)
  more-is h p e true false false = none-lost false
  more-is h p e false true w = none-lost false
  more-is h p e false false true = none-lost false
  more-is h p e false false false = none-lost false

  module _ (h : i < axis.len) (c : counts linked axis i ≡ true) where
    -- whether it ends a pair of a kind, by where the pair starts
    ends-kind : (kind : ℕ → ℕ → Bool) (l : Link) → before linked axis i ≡ l → ends linked axis kind i ≡ kind_from kind i l
    unfolding ends
    ends-kind kind l q = rw (c, q)

    ends-kinds : (l : Link) → before linked axis i ≡ l
        → found_to least linked axis (i + 1) ≡ more_by (kind_from (lost_gap least axis) i l) (kind_from (lost_stem axis) i l) (kind_from (lost least axis) i l) false
    ends-kinds l q =
        found-more
        ∙ (λ x. more_by (ends-kind (lost_gap least axis) l q x) (ends-kind (lost_stem axis) l q x) (ends-kind (lost least axis) l q x)
        (not (and_second (asked_for linked (edge_at axis i).link) (is_done axis i) c x)))

    step-at : (l : Link) → before linked axis i ≡ l
        → found_to least linked axis (i + 1) ≡ with_pair least (found_to least linked axis i) (index_or i l) (edge_at axis (index_or i l)) i (edge_at axis i)
    unfolding found_to pair_to lost lost_gap lost_stem
    step-at None q =
        ends-kinds None q ∙ none-lost false ∙ sym (cond-false (gone_of (edge_at axis i) (edge_at axis i)) _ _ (self-stays (edge_at axis i)))
    step-at (Some k) q =
        ends-kinds (Some k) q
        ∙ more-is h (pair_from axis i (Some k)) (ap (pair_from axis i) q) (is_gone axis k i) (is_stem axis k i) (le_z least (width_before axis k i))

    pub found-step : (k : ℕ) → k ≡ index_or i (before linked axis i)
        → found_to least linked axis (i + 1) ≡ with_pair least (found_to least linked axis i) k (edge_at axis k) i (edge_at axis i)
    found-step k e =
        subst (λ (x : ℕ). found_to least linked axis (i + 1) ≡ with_pair least (found_to least linked axis i) x (edge_at axis x) i (edge_at axis i)) (sym e)
        (step-at (before linked axis i) refl)

-- ---- the ways round the loop
-- the first i edges are searched
pub record Searched (least : ℤ) (linked : Bool) (axis : Axis) (i : ℕ) (last : Link) (found : Gaps) : Type 0 where
  pub reached : i ≤ axis.len
  pub last_is : last ≡ before linked axis i
  pub found_is : found ≡ found_to least linked axis i

-- what is found among edges that a table holds
pub found-few : (least : ℤ) (linked : Bool) (axis : Axis) (i : ℕ) → i ≤ most_edges → Few (found_to least linked axis i)
unfolding found_to
found-few least linked axis i h = record {
  gaps = omega (arith, h, counted-few (ends linked axis (lost_gap least axis)) i);
  stems = omega (arith, h, counted-few (ends linked axis (lost_stem axis)) i);
  undone = omega (arith, h, counted-few (not_done axis) i);
}

module _ (least : ℤ) (linked : Bool) (axis : Axis) where
  -- before the first
  pub search-starts : Searched least linked axis 0 None (refused_by 0)
  unfolding last_of found_to counted first_of
  search-starts = record { reached = omega arith; last_is = refl; found_is = refl }

  module _ (i : ℕ) (last : Link) (found : Gaps) (s : Searched least linked axis i last found) where
    -- all are searched
    pub search-ends : axis.len ≤ i → found ≡ found_in least linked axis
    search-ends h = s.found_is ∙ ap (found_to least linked axis) (omega (arith, s.reached))

    -- no more is found than a table has edges
    pub search-few : AxisWithin most_pos axis → Few found
    search-few w = subst Few (sym s.found_is) (found-few least linked axis i (omega (arith, s.reached, w.few)))

    module _ (h : i < axis.len) where
      -- an edge that is not done is counted as such
      pub search-undone : is_done axis i ≡ false → Searched least linked axis (i + 1) last (more_undone found)
      search-undone d = record {
        reached = omega arith;
        last_is = s.last_is ∙ sym (last-skip (counts linked axis) i (undone linked axis i d));
        found_is = ap more_undone s.found_is ∙ sym (found-undone least linked axis i d);
      }

      module _ (d : is_done axis i ≡ true) (t : Bool) (e : t ≡ asked_for linked (edge_at axis i).link) where
        counts-is : counts linked axis i ≡ t
        counts-is = (λ x. sym e x && d x) ∙ and-true t
          where
            and-true : (x : Bool) → (x && true) ≡ x
            and-true true = refl
            and-true false = refl

        -- one that does not count is passed over
        pub search-skips : t ≡ false → Searched least linked axis (i + 1) last found
        search-skips q =
            let c = counts-is ∙ q in
            record {
              reached = omega arith;
              last_is = s.last_is ∙ sym (last-skip (counts linked axis) i c);
              found_is = s.found_is
                  ∙ sym (found-skip least linked axis i d c);
            }

        -- and one that counts adds its pair
        pub search-steps : t ≡ true → (k : ℕ) (new : Gaps) → k ≡ index_or i last → new ≡ with_pair least found k (edge_at axis k) i (edge_at axis i)
            → Searched least linked axis (i + 1) (Some i) new
        search-steps q k new ke ne =
            let c = counts-is ∙ q in
            record {
              reached = omega arith;
              last_is = sym (last_step (counts linked axis) i c);
              found_is =
                  ne ∙ ap (λ (f : Gaps). with_pair least f k (edge_at axis k) i (edge_at axis i)) s.found_is
                  ∙ sym (found-step least linked axis i h c k (ke ∙ ap (index_or i) s.last_is));
            }

      -- the pair that it ends starts at an edge of the axis
      pub starts-inside : (k : ℕ) → k ≡ index_or i last → k < axis.len
      starts-inside k e = let q = by last s.last_is in omega arith
        where
          by : (l : Link) → l ≡ before linked axis i → index_or i l ≤ i
          by None e = omega arith
          by (Some k) e = let o = ((last_is (counts linked axis) i).some k (sym e)).order in omega arith

-- what the library's `map_or` reads of a link, or i where there is none
pub read-or : (l : Link) (i r : ℕ) → MatchOption l (r ≡ i) (λ (k : ℕ). r ≡ k) → r ≡ index_or i l
read-or None i r h = h
read-or (Some k) i r h = h

-- an edge of an axis that is accepted
pub placed_at : (axis : Axis) (i : ℕ) → AxisWithin most_pos axis → i < axis.len → Placed i (edge_at axis i)
placed_at axis i w h = let e = w.edge i h in record { place = omega (arith, h, w.few); opos = e.opos; pos = e.pos }
