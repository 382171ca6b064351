-- What Latin's visits leave as it was, the anchor a given and done and no serif near: edges not yet visited, and done ones; and where a visited edge is put.
use Rattle.std.specs.Prelude.{None, Some}
use mathlib.Core.Path.{◌≡◌, refl, sym, ap, subst, ◌∙◌}
use mathlib.Core.Bool.{Bool, true, false}
use mathlib.Core.Logic.{◌⊎◌, inl, inr, ⊎_elim, ◌≢◌}
use Prim.Native.Nat.{ℕ, ◌+◌, ◌≤◌, ◌<◌}
use native.Mathlib.Nat.{eq-or-lt_of_le}
use native.Mathlib.Omega.{arith}
use borrow.Author.Tests.{eqb-true, eqb-false}
use lib.Dec.{eqb}
use lib.IntN.{ℤ}
use lib.ListN.{length}
use Rattle.signed.proofs.Choices.{cond-false, clash}
use Rattle.axis.specs.Link.{Link}
use Rattle.axis.specs.declared.kinds.Mark.{Mark}
use Rattle.axis.specs.declared.edge.Edge.{Edge}
use Rattle.axis.specs.declared.edge.Axis.{Axis}
use Rattle.axis.specs.Edge.{edge_at}
use Rattle.gaps.specs.Gaps.{is_done}
use Rattle.remaining.specs.declared.kinds.Plan.{Plan}
use Rattle.remaining.specs.declared.kinds.Round.TheVariants as Rounds
use Rattle.remaining.specs.Plan.{is_close, spaced_pos}
use Rattle.remaining.specs.Remaining.{State, state, done_before, done_behind, near_of, by_bounds, by_anchor, by_serif, plan_of, stored, visit, begun}
use Rattle.remaining.proofs.Done.{held, held-own, held-long}
use Rattle.remaining_order.specs.Order.{NoneNear, place_by}
use Rattle.remaining_order.proofs.Stores.{held-len, held-other, held-opos}
use Rattle.remaining_order.proofs.Visits.{carried, visit-cases}

-- two numbers are the same, or are not
pub same_or_not : (j i : ℕ) → (j ≡ i) ⊎ (j ≢ i)
same_or_not j i = by (eqb j i) refl
  where
    by : (t : Bool) → eqb j i ≡ t → (j ≡ i) ⊎ (j ≢ i)
    by true e = inl (eqb-true j i e)
    by false e = inr (eqb-false j i e)

module _ (axis : Axis) (a : ℕ) where
  -- after i visits
  pub record Goes (i : ℕ) (s : State) : Type 0 where
    pub len : s.axis.len ≡ axis.len
    pub long : axis.len ≤ length s.axis.edges
    pub anchor : s.past.anchor ≡ Some a
    pub later : (j : ℕ) → i ≤ j → edge_at s.axis j ≡ edge_at axis j
    pub kept : (j : ℕ) → is_done axis j ≡ true → edge_at s.axis j ≡ edge_at axis j
    pub opos : (j : ℕ) → (edge_at s.axis j).opos ≡ (edge_at axis j).opos
    pub done : (j : ℕ) → j < i → is_done s.axis j ≡ true

  pub goes-begun : (count : ℕ) → axis.len ≤ length axis.edges → Goes 0 (state axis (begun count (Some a)))
  goes-begun count l =
      record { len = refl; long = l; anchor = refl; later = λ j h. refl; kept = λ j d. refl; opos = λ j. refl; done = λ j h. absurd (omega arith) }

  module _ (i : ℕ) (s : State) (g : Goes i s) where
    -- an edge to be visited is done as it was
    pub done-same : (j : ℕ) → i ≤ j → is_done s.axis j ≡ is_done axis j
    done-same j h = ap (λ (e : Edge). e.flags.done) (g.later j h)

    -- the place by the anchor is the same still
    pub place_same : is_done axis a ≡ true → spaced_pos (edge_at s.axis a).pos (edge_at s.axis a).opos (edge_at s.axis i).opos ≡ place_by axis a i
    place_same d = λ x. spaced_pos (g.kept a d x).pos (g.kept a d x).opos (g.opos i x)

    -- ---- a done edge is passed over
    pub goes_on : is_done s.axis i ≡ true → Goes (i + 1) s
    goes_on d = record {
      len = g.len;
      long = g.long;
      anchor = g.anchor;
      later = λ j h. g.later j (omega arith);
      kept = g.kept;
      opos = g.opos;
      done = λ j h. ⊎_elim (λ (e : j ≡ i). subst (λ (k : ℕ). is_done s.axis k ≡ true) (sym e) d) (λ (l : j < i). g.done j l) (eq-or-lt_of_le (omega arith));
    }

    -- ---- another is put somewhere, for good, and held
    module _ (there : i < axis.len) (d : is_done s.axis i ≡ false) where
      placeless : is_done axis i ≡ false
      placeless = sym (done-same i (omega arith)) ∙ d

      pub inside : i < length s.axis.edges
      inside = omega (arith, g.long)

      pub goes-put : (p : ℤ) (m : Mark) → Goes (i + 1) (state (held s.axis i p m) s.past)
      goes-put p m = record {
        len = held-len s.axis i p m ∙ g.len;
        long = omega (arith, held-long s.axis i p m, g.long);
        anchor = g.anchor;
        later = λ j h. held-other s.axis i p m j (λ e. omega (arith, e)) ∙ g.later j (omega arith);
        kept = λ j b. held-other s.axis i p m j (λ e. clash _ placeless (subst (λ (k : ℕ). is_done axis k ≡ true) e b)) ∙ g.kept j b;
        opos = λ j. ⊎_elim
            (λ (e : j ≡ i). subst (λ (k : ℕ). (edge_at (held s.axis i p m) k).opos ≡ (edge_at axis k).opos) (sym e)
            (held-opos s.axis i p m inside ∙ g.opos i))
            (λ (n : j ≢ i). ap (λ (x : Edge). x.opos) (held-other s.axis i p m j n) ∙ g.opos j)
            (same_or_not j i);
        done = λ j h. ⊎_elim
            (λ (e : j ≡ i). subst (λ (k : ℕ). is_done (held s.axis i p m) k ≡ true) (sym e) (held-own s.axis i p m inside))
            (λ (l : j < i). ap (λ (x : Edge). x.flags.done) (held-other s.axis i p m j (λ e. omega (arith, e))) ∙ g.done j l)
            (eq-or-lt_of_le (omega arith));
      }

  -- ---- where it is put: between the nearest done edges, or by the anchor
  abbrev pub bounds_at : ℕ → State → Plan
  bounds_at i s = by_bounds s.axis s.past i a (done_before s.axis i) (done_behind s.axis i)

  bounds-carried : (s : State) (i : ℕ) (b f : Link) →
      carried s i (by_bounds s.axis s.past i a b f) ≡ state
      (held s.axis i (by_bounds s.axis s.past i a b f).pos (by_bounds s.axis s.past i a b f).mark) s.past
  unfolding by_bounds stored
  bounds-carried s i (Some b) (Some f) = refl
  bounds-carried s i (Some b) None = refl
  bounds-carried s i None f = refl

  module _ (near : NoneNear axis) (i : ℕ) (s : State) (g : Goes i s) (there : i < axis.len) where
    no_serif : is_done axis i ≡ false → near_of s.axis i (edge_at s.axis i).serif ≡ None
    unfolding near_of
    no_serif d = ap (λ (e : Edge). near_of s.axis i e.serif) (g.later i (omega arith)) ∙ by (edge_at axis i).serif refl
      where
        by : (l : Link) → (edge_at axis i).serif ≡ l → near_of s.axis i l ≡ None
        by None q = refl
        by (Some k) q = cond-false _ _ _ ((λ x. is_close (g.opos i x) (g.opos k x)) ∙ near.at i k there d q)

    plan-is : is_done axis i ≡ false → plan_of Rounds.Latin s.axis s.past i ≡ bounds_at i s
    unfolding plan_of by_serif by_anchor
    plan-is d = ap (by_serif s.axis s.past i) (no_serif d) ∙ ap (by_anchor s.axis s.past i) g.anchor

    pub latin-cases : (P : State → Type 0) → (visit Rounds.Latin s i).past.beyond ≡ false → (is_done s.axis i ≡ true → P s)
        → (is_done s.axis i ≡ false → P (state (held s.axis i (bounds_at i s).pos (bounds_at i s).mark) s.past)) → P (visit Rounds.Latin s i)
    latin-cases P e done left =
        visit-cases Rounds.Latin P s i e done
        (λ d. subst P (sym (ap (carried s i) (plan-is (sym (done-same i s g i (omega arith)) ∙ d))
        ∙ bounds-carried s i (done_before s.axis i) (done_behind s.axis i))) (left d))
