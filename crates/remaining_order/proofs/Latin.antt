-- Latin's order: where done edges are in order, the anchor is done and no serif is near, all edges are in order behind remaining edges exactly where the places
-- by the anchor
-- fit at both ends of the done ones; and so always where the anchor alone is done.
use Rattle.std.specs.Prelude.{None, Some}
use mathlib.Core.Path.{◌≡◌, refl, sym, ap, subst, ◌∙◌}
use mathlib.Core.Bool.{Bool, true, false}
use mathlib.Core.Logic.{inl, inr, ⊎_elim, ◌≢◌}
use Prim.Native.Nat.{ℕ, zero, suc, ◌+◌, ◌-◌, ◌≤◌, ◌<◌}
use native.Mathlib.Nat.{eq-or-lt_of_le}
use native.Mathlib.Omega.{arith}
use lib.IntN.{ℤ}
use lib.ListN.{length}
use lib.Signed.{◌≤ℤ◌, ≤ℤ_refl}
use Rattle.signed.proofs.Choices.{clash}
use Rattle.signed.proofs.Signed.{lt-or-le}
use Rattle.axis.specs.declared.kinds.Group.TheVariants.{Default}
use Rattle.axis.specs.Link.{Link}
use Rattle.axis.specs.declared.kinds.Mark.{Mark}
use Rattle.axis.specs.declared.edge.Edge.{Edge}
use Rattle.axis.specs.declared.edge.Axis.{Axis}
use Rattle.axis.specs.Edge.{edge_at}
use Rattle.gaps.specs.Gaps.{is_done}
use Rattle.gaps.proofs.Lasts.{Last}
use Rattle.remaining.specs.declared.kinds.Round.TheVariants as Rounds
use Rattle.remaining.specs.Remaining.{State, state, done_before, done_behind, by_bounds, fix_at, visit, visited, pass_of, begun, align_remaining_edges}
use Rattle.remaining.proofs.Between.{latin-lies}
use Rattle.remaining.proofs.Done.{held}
use Rattle.remaining_order.specs.Order.{InOrder, DoneInOrder, LatinReady, place_by, FitsBelow, FitsAbove, LatinOrder}
use Rattle.remaining_order.proofs.Stores.{fixed-own, fixed-other, held-other, held_stays, held-unlinked, held-zero}
use Rattle.remaining_order.proofs.Found.{before-is, Next, from_is}
use Rattle.remaining_order.proofs.Visits.{Passed, passed, all-reach}
use Rattle.remaining_order.proofs.Goes.{same_or_not, Goes, goes-begun, done-same, place_same, goes_on, inside, goes-put, bounds_at, latin-cases}
use Rattle.remaining_order.proofs.Rising.{le_then, le-by, spaced-rises, spaced-above, spaced-below}

module _ (axis : Axis) (a first last : ℕ) (r : LatinReady axis a first last) where
  -- ---- by the anchor
  module _ (i : ℕ) (s : State) (g : Goes axis a i s) where
    -- where no done edge is before it, or none behind it
    front-place : (f : Link) → (by_bounds s.axis s.past i a None f).pos ≡ place_by axis a i
    unfolding by_bounds
    front-place f = place_same axis a i s g r.anchor

    back-place : (b : Link) → (by_bounds s.axis s.past i a b None).pos ≡ place_by axis a i
    unfolding by_bounds
    back-place None = place_same axis a i s g r.anchor
    back-place (Some b) = place_same axis a i s g r.anchor

    abbrev given : ℤ
    given = (bounds_at axis a i s).pos

    abbrev mark : Mark
    mark = (bounds_at axis a i s).mark

    abbrev put : Axis
    put = held s.axis i given mark

    -- ---- the edge behind the last done one, without a link
    none-behind : i < axis.len → last < i → done_behind s.axis i ≡ None
    none-behind there l = by (done_behind s.axis i) (from_is s.axis (s.axis.len - (i + 1)) (i + 1))
      where
        by : (f : Link) → Next s.axis (s.axis.len - (i + 1)) (i + 1) f → f ≡ None
        by None x = refl
        by (Some f) x =
            let n = x.some f refl in
            let k = n.from in
            let b = n.below in
            absurd (clash _ (r.last_done.later f (omega arith) (omega (arith, g.len))) (sym (done-same axis a i s g f (omega arith)) ∙ n.done))

    put_back : i < axis.len → is_done s.axis i ≡ false → last < i → (edge_at axis i).link ≡ None → (edge_at put i).pos ≡ place_by axis a i
    put_back there d l n =
        ap (λ (x : Axis). (edge_at x i).pos) (held-unlinked s.axis i given mark here (ap (λ (e : Edge). e.link) (g.later i (omega arith)) ∙ n))
        ∙ fixed-own s.axis i given mark here
        ∙ ap (λ (f : Link). (by_bounds s.axis s.past i a (done_before s.axis i) f).pos) (none-behind there l)
        ∙ back-place (done_before s.axis i)
      where
        here : i < length s.axis.edges
        here = inside axis a i s g there d

  -- ---- edge 0
  put_front : (i : ℕ) (s : State) (g : Goes axis a i s) → i < axis.len → is_done s.axis i ≡ false → i ≡ 0 → (edge_at (put i s g) i).pos ≡ place_by axis a i
  unfolding done_before
  put_front zero s g there d e =
      ap (λ (x : Axis). (edge_at x 0).pos) (held-zero s.axis (given 0 s g) (mark 0 s g))
      ∙ fixed-own s.axis 0 (given 0 s g) (mark 0 s g) (inside axis a 0 s g there d)
      ∙ front-place 0 s g (done_behind s.axis 0)
  put_front (suc k) s g there d e = absurd (omega (arith, e))

  -- ---- what the ends come to
  record Ends (i : ℕ) (s : State) : Type 0 where
    goes : Goes axis a i s
    front : 0 < i → is_done axis 0 ≡ false → (edge_at s.axis 0).pos ≡ place_by axis a 0
    back : last + 1 < i → (edge_at axis (last + 1)).link ≡ None → (edge_at s.axis (last + 1)).pos ≡ place_by axis a (last + 1)

  ends_next : (i : ℕ) (s : State) → i < axis.len → Ends i s → (visit Rounds.Latin s i).past.beyond ≡ false → Ends (i + 1) (visit Rounds.Latin s i)
  ends_next i s there h e = latin-cases axis a r.none_near i s g there (Ends (i + 1)) e done left
    where
      g : Goes axis a i s
      g = h.goes

      done : is_done s.axis i ≡ true → Ends (i + 1) s
      done d =
          let was = sym (done-same axis a i s g i (omega arith)) ∙ d in
          record {
            goes = goes_on axis a i s g d;
            front =
                λ q n. ⊎_elim (λ (z : 0 ≡ i). absurd (clash _ n (subst (λ (k : ℕ). is_done axis k ≡ true) (sym z) was))) (λ (l : 0 < i). h.front l n)
                (eq-or-lt_of_le (omega arith));
            back = λ q n. ⊎_elim
                (λ (z : last + 1 ≡ i). absurd (clash _ (r.last_done.later i (omega arith) there) was)) (λ (l : last + 1 < i). h.back l n)
                (eq-or-lt_of_le (omega arith));
          }

      left : is_done s.axis i ≡ false → Ends (i + 1) (state (put i s g) s.past)
      left d = record {
        goes = goes-put axis a i s g there d (given i s g) (mark i s g);
        front = λ q n. ⊎_elim
            (λ (z : 0 ≡ i). subst (λ (k : ℕ). (edge_at (put i s g) k).pos ≡ place_by axis a k) (sym z) (put_front i s g there d (sym z)))
            (λ (l : 0 < i). ap (λ (x : Edge). x.pos) (held-other s.axis i (given i s g) (mark i s g) 0 (λ w. omega (arith, w, l))) ∙ h.front l n)
            (eq-or-lt_of_le (omega arith));
        back = λ q n. ⊎_elim
            (λ (z : last + 1 ≡ i).
            subst (λ (k : ℕ). (edge_at (put i s g) k).pos ≡ place_by axis a k) (sym z)
            (put_back i s g there d (omega arith) (subst (λ (k : ℕ). (edge_at axis k).link ≡ None) z n)))
            (λ (l : last + 1 < i). ap (λ (x : Edge). x.pos) (held-other s.axis i (given i s g) (mark i s g) (last + 1) (λ w. omega (arith, w, l)))
            ∙ h.back l n)
            (eq-or-lt_of_le (omega arith));
      }

  -- ---- order, where both ends fit
  -- no done edge is below the first
  first_under : (k : ℕ) → k < axis.len → is_done axis k ≡ true → (edge_at axis first).pos ≤ℤ (edge_at axis k).pos
  first_under k l d =
      ⊎_elim (λ (q : k < first). absurd (clash _ (r.first_done.earlier k q) d))
      (λ (q : first ≤ k).
      ⊎_elim (λ (z : first ≡ k). subst (λ (x : ℕ). (edge_at axis first).pos ≤ℤ (edge_at axis x).pos) z (≤ℤ_refl _))
      (λ (z : first < k). r.in_order.at first k z l r.first_done.done d)
      (eq-or-lt_of_le q))
      (lt-or-le k first)

  module _ (low : FitsBelow axis a first) (high : FitsAbove axis a last) where
    -- after i visits done edges are in order, and, where the others are all behind them, the last one is not above the next one's place
    record Orderly (i : ℕ) (s : State) : Type 0 where
      goes : Goes axis a i s
      in_order : DoneInOrder s.axis
      ahead : (k : ℕ) → k + 1 ≡ i → i < axis.len → ((j : ℕ) → i ≤ j → j < axis.len → is_done axis j ≡ false) → (edge_at s.axis k).pos ≤ℤ place_by axis a i

    -- where an edge is put
    record Lies (i : ℕ) (s : State) (p : ℤ) : Type 0 where
      under : (k : ℕ) → k + 1 ≡ i → (edge_at s.axis k).pos ≤ℤ p
      over : (k : ℕ) → i < k → k < axis.len → is_done s.axis k ≡ true → p ≤ℤ (edge_at s.axis k).pos
      spaced : ((j : ℕ) → i < j → j < axis.len → is_done axis j ≡ false) → p ≡ place_by axis a i

    module _ (i : ℕ) (s : State) (there : i < axis.len) (d : is_done s.axis i ≡ false) (h : Orderly i s) where
      abbrev g : Goes axis a i s
      g = h.goes

      was : is_done axis i ≡ false
      was = sym (done-same axis a i s g i (omega arith)) ∙ d

      -- edge 0
      over-front : i ≡ 0 → (k : ℕ) → i < k → k < axis.len → is_done s.axis k ≡ true → place_by axis a i ≤ℤ (edge_at s.axis k).pos
      over-front z k l b q =
          ⊎_elim (λ (x : is_done axis 0 ≡ true). absurd (clash _ was (subst (λ (y : ℕ). is_done axis y ≡ true) (sym z) x)))
          (λ (x : place_by axis a 0 ≤ℤ (edge_at axis first).pos).
          le-by (ap (place_by axis a) z) (ap (λ (e : Edge). e.pos) (g.later k (omega arith)))
          (le_then _ _ _ x (first_under k b (sym (done-same axis a i s g k (omega arith)) ∙ q))))
          low

      lies : Lies i s (given i s g)
      unfolding by_bounds
      lies = by (done_before s.axis i) (done_behind s.axis i) (before-is s.axis i) (from_is s.axis (s.axis.len - (i + 1)) (i + 1))
        where
          by : (b f : Link) → Last (is_done s.axis) i b → Next s.axis (s.axis.len - (i + 1)) (i + 1) f
              → Lies i s (by_bounds s.axis s.past i a b f).pos
          by None f x y =
              let z : i ≡ 0 =
              ⊎_elim (λ (q : 0 < i). absurd (clash _ (x.none refl 0 q) (g.done 0 q))) (λ (q : i ≤ 0). omega arith) (lt-or-le 0 i) in
              record {
                under = λ k e. absurd (omega (arith, e, z));
                over = λ k l b q. le-by (front-place i s g f) refl (over-front z k l b q);
                spaced = λ n. front-place i s g f;
              }
          by (Some b) None x y = record {
            under = λ k e. le-by refl (back-place i s g (Some b)) (h.ahead k e there (λ j l m.
                ⊎_elim (λ (z : i ≡ j). subst (λ (v : ℕ). is_done axis v ≡ false) z was)
                (λ (z : i < j). sym (done-same axis a i s g j l) ∙ y.none refl j (omega arith) (omega (arith, g.len)))
                (eq-or-lt_of_le l)));
            over = λ k l b q. absurd (clash _ (y.none refl k (omega arith) (omega (arith, g.len))) q);
            spaced = λ n. back-place i s g (Some b);
          }
          by (Some b) (Some f) x y =
              let before = x.some b refl in
              let behind = y.some f refl in
              let lower = before.order in
              let upper = behind.from in
              let below : f < axis.len = omega (arith, behind.below, g.len) in
              let p = (by_bounds s.axis s.past i a (Some b) (Some f)).pos in
              let rising = (latin-lies (edge_at s.axis b) (edge_at s.axis f) (edge_at s.axis i) s.past
              (le-by (g.opos b) (g.opos i) (r.rise.at b i lower there)) (le-by (g.opos i) (g.opos f) (r.rise.at i f (omega arith) below))).rising
              (h.in_order.at b f (omega arith) (omega (arith, g.len)) before.passes behind.done) in
              record {
                under = λ k e.
                    let same : b ≡ k =
                    ⊎_elim (λ (q : b < k). absurd (clash _ (before.between k q (omega arith)) (g.done k (omega arith)))) (λ (q : k ≤ b). omega (arith, e))
                    (lt-or-le b k) in
                    subst (λ (v : ℕ). (edge_at s.axis v).pos ≤ℤ p) same rising.0;
                over = λ k l m q.
                    ⊎_elim (λ (w : k < f). absurd (clash _ (behind.between k (omega arith) w) q))
                    (λ (w : f ≤ k).
                    ⊎_elim (λ (z : f ≡ k). subst (λ (v : ℕ). p ≤ℤ (edge_at s.axis v).pos) z rising.1)
                    (λ (z : f < k). le_then _ _ _ rising.1 (h.in_order.at f k z (omega (arith, g.len)) behind.done q))
                    (eq-or-lt_of_le w))
                    (lt-or-le k f);
                spaced = λ n. absurd (clash _ (n f (omega arith) below) (sym (done-same axis a i s g f (omega arith)) ∙ behind.done));
              }

      here : i < length s.axis.edges
      here = inside axis a i s g there d

      abbrev fixed : Axis
      fixed = fix_at s.axis i (given i s g) (mark i s g)

      -- so it is not held
      stays : put i s g ≡ fixed
      stays =
          held_stays s.axis i (given i s g) (mark i s g) here (λ k e. lies.under k (omega (arith, e)))
          (λ l q. lies.over (i + 1) (omega arith) (omega (arith, g.len)) q)

      own : (edge_at fixed i).pos ≡ given i s g
      own = fixed-own s.axis i (given i s g) (mark i s g) here

      other : (j : ℕ) → j ≢ i → edge_at fixed j ≡ edge_at s.axis j
      other j n = fixed-other s.axis i (given i s g) (mark i s g) j n

      all_under : (j : ℕ) → j < i → (edge_at s.axis j).pos ≤ℤ given i s g
      all_under j l =
          ⊎_elim (λ (e : j + 1 ≡ i). lies.under j e)
          (λ (q : j + 1 < i).
          le_then _ _ _ (h.in_order.at j (i - 1) (omega arith) (omega (arith, g.len)) (g.done j l) (g.done (i - 1) (omega arith)))
          (lies.under (i - 1) (omega arith)))
          (eq-or-lt_of_le (omega arith))

      fixed-order : DoneInOrder fixed
      fixed-order = record {
        at = λ j k l b p q.
            ⊎_elim
            (λ (e : j ≡ i).
            let n : k ≢ i = λ w. omega (arith, e, w, l) in
            le-by (ap (λ (x : ℕ). (edge_at fixed x).pos) e ∙ own) (ap (λ (x : Edge). x.pos) (other k n))
            (lies.over k (omega (arith, e, l)) (omega (arith, b, g.len)) (ap (λ (x : Edge). x.flags.done) (sym (other k n)) ∙ q)))
            (λ (n : j ≢ i).
            ⊎_elim
            (λ (e : k ≡ i). le-by (ap (λ (x : Edge). x.pos) (other j n)) (ap (λ (x : ℕ). (edge_at fixed x).pos) e ∙ own) (all_under j (omega (arith, e, l))))
            (λ (m : k ≢ i).
            le-by (ap (λ (x : Edge). x.pos) (other j n)) (ap (λ (x : Edge). x.pos) (other k m))
            (h.in_order.at j k l b (ap (λ (x : Edge). x.flags.done) (sym (other j n)) ∙ p) (ap (λ (x : Edge). x.flags.done) (sym (other k m)) ∙ q)))
            (same_or_not k i))
            (same_or_not j i);
      }

      orderly-put : Orderly (i + 1) (state (put i s g) s.past)
      orderly-put = record {
        goes = goes-put axis a i s g there d (given i s g) (mark i s g);
        in_order = subst DoneInOrder (sym stays) fixed-order;
        ahead = λ k e l n.
            let z : k ≡ i = omega (arith, e) in
            le-by (ap (λ (x : ℕ). (edge_at (put i s g) x).pos) z ∙ ap (λ (x : Axis). (edge_at x i).pos) stays ∙ own ∙ lies.spaced (λ j q b. n j (omega arith) b))
            refl
            (spaced-rises (edge_at axis a).pos (edge_at axis a).opos (edge_at axis i).opos (edge_at axis (i + 1)).opos (r.rise.at i (i + 1) (omega arith) l));
      }

    -- a done edge is passed over
    orderly-on : (i : ℕ) (s : State) → i < axis.len → is_done s.axis i ≡ true → Orderly i s → Orderly (i + 1) s
    orderly-on i s there d h = record {
      goes = goes_on axis a i s g d;
      in_order = h.in_order;
      ahead = λ k e l n.
          ⊎_elim (λ (x : is_done axis (axis.len - 1) ≡ true). absurd (clash _ (n (axis.len - 1) (omega arith) (omega arith)) x))
          (λ (x : (edge_at axis last).pos ≤ℤ place_by axis a (last + 1)).
          let z : last ≡ i = is_last n in
          let w : k ≡ i = omega (arith, e) in
          le-by (ap (λ (y : ℕ). (edge_at s.axis y).pos) w ∙ ap (λ (y : Edge). y.pos) (g.later i (omega arith))) refl
          (subst (λ (y : ℕ). (edge_at axis y).pos ≤ℤ place_by axis a (y + 1)) z x))
          high;
    }
      where
        g : Goes axis a i s
        g = h.goes

        is_last : ((j : ℕ) → i + 1 ≤ j → j < axis.len → is_done axis j ≡ false) → last ≡ i
        is_last n =
            ⊎_elim (λ (q : last < i). absurd (clash _ (r.last_done.later i q there) (sym (done-same axis a i s g i (omega arith)) ∙ d)))
            (λ (q : i ≤ last).
            ⊎_elim (λ (z : i ≡ last). sym z) (λ (z : i < last). absurd (clash _ (n last (omega arith) r.last_done.there) r.last_done.done))
            (eq-or-lt_of_le q))
            (lt-or-le last i)

    orderly-next : (i : ℕ) (s : State) → i < axis.len → Orderly i s → (visit Rounds.Latin s i).past.beyond ≡ false → Orderly (i + 1) (visit Rounds.Latin s i)
    orderly-next i s there h e =
        latin-cases axis a r.none_near i s h.goes there (Orderly (i + 1)) e (λ d. orderly-on i s there d h) (λ d. orderly-put i s there d h)

  -- ---- all visits
  module _ (count : ℕ) (e : (align_remaining_edges axis Default count (Some a)).answer ≡ 0) where
    abbrev start : State
    start = state axis (begun count (Some a))

    abbrev end : State
    end = visited Rounds.Latin start

    begins : Goes axis a 0 start
    begins = goes-begun axis a count r.places

    done-with : Passed axis Default count (Some a)
    done-with = passed axis Default count (Some a) e

    none_beyond : end.past.beyond ≡ false
    unfolding pass_of
    none_beyond = done-with.none_beyond

    outcome : (align_remaining_edges axis Default count (Some a)).axis ≡ end.axis
    unfolding pass_of
    outcome = done-with.edges

    ends : Ends axis.len end
    ends =
        all-reach Rounds.Latin axis.len Ends ends_next start
        (record { goes = begins; front = λ q n. absurd (omega arith); back = λ q n. absurd (omega arith) }) none_beyond

    all-in-order : FitsBelow axis a first → FitsAbove axis a last → InOrder end.axis
    all-in-order low high =
        let o = all-reach Rounds.Latin axis.len (Orderly low high) (orderly-next low high) start
        (record { goes = begins; in_order = r.in_order; ahead = λ k e l n. absurd (omega (arith, e)) }) none_beyond in
        let g = o.goes in
        record { at = λ i j l b. let n = g.len in o.in_order.at i j l b (g.done i (omega (arith, n))) (g.done j (omega (arith, n))) }

    -- positions at the end
    kept-pos : (j : ℕ) → is_done axis j ≡ true → (edge_at end.axis j).pos ≡ (edge_at axis j).pos
    kept-pos j d = ap (λ (x : Edge). x.pos) (ends.goes.kept j d)

    below-fits : InOrder end.axis → FitsBelow axis a first
    below-fits o = by (is_done axis 0) refl
      where
        by : (t : Bool) → is_done axis 0 ≡ t → FitsBelow axis a first
        by true q = inl q
        by false q =
            let f = r.first_done in
            let l = f.there in
            let n : 0 < first =
            ⊎_elim (λ (z : 0 ≡ first). absurd (clash _ q (subst (λ (y : ℕ). is_done axis y ≡ true) (sym z) f.done))) (λ (z : 0 < first). z)
            (eq-or-lt_of_le (omega arith)) in
            inr (le-by (sym (ends.front (omega arith) q)) (sym (kept-pos first f.done)) (o.at 0 first n (omega (arith, ends.goes.len))))

    above-fits : (edge_at axis (last + 1)).link ≡ None → InOrder end.axis → FitsAbove axis a last
    above-fits n o =
        ⊎_elim
        (λ (l : last + 1 < axis.len). inr (le-by (sym (kept-pos last r.last_done.done)) (sym (ends.back l n))
        (o.at last (last + 1) (omega arith) (omega (arith, ends.goes.len)))))
        (λ (l : axis.len ≤ last + 1).
        let t = r.last_done.there in
        let z : last ≡ axis.len - 1 = omega arith in
        inl (subst (λ (y : ℕ). is_done axis y ≡ true) z r.last_done.done))
        (lt-or-le (last + 1) axis.len)

    pub latin-order : LatinOrder axis count a first last
    latin-order = record {
      in_order = λ low high. subst InOrder (sym outcome) (all-in-order low high);
      fits_below = λ o. below-fits (subst InOrder outcome o);
      fits_above = λ n o. above-fits n (subst InOrder outcome o);
    }

-- ---- the anchor alone is done
module _ (axis : Axis) (a : ℕ) (r : LatinReady axis a a a) where
  alone-below : FitsBelow axis a a
  alone-below =
      ⊎_elim (λ (z : 0 ≡ a). inl (subst (λ (y : ℕ). is_done axis y ≡ true) (sym z) r.anchor))
      (λ (l : 0 < a). inr (spaced-below (edge_at axis a).pos (edge_at axis a).opos (edge_at axis 0).opos (r.rise.at 0 a l r.first_done.there)))
      (eq-or-lt_of_le (omega arith))

  alone-above : FitsAbove axis a a
  alone-above =
      let t = r.last_done.there in
      ⊎_elim (λ (l : a + 1 < axis.len). inr (spaced-above (edge_at axis a).pos (edge_at axis a).opos (edge_at axis (a + 1)).opos
      (r.rise.at a (a + 1) (omega arith) l)))
      (λ (l : axis.len ≤ a + 1). let z : a ≡ axis.len - 1 = omega arith in inl (subst (λ (y : ℕ). is_done axis y ≡ true) z r.anchor))
      (lt-or-le (a + 1) axis.len)

  pub anchor-alone : (count : ℕ) → (align_remaining_edges axis Default count (Some a)).answer ≡ 0
      → InOrder (align_remaining_edges axis Default count (Some a)).axis
  anchor-alone count e = (latin-order axis a a a r count e).in_order alone-below alone-above
