-- The visit of an edge, by what the code has read and stored.
use Rattle.std.specs.Prelude.{None, Some}
use mathlib.Core.Path.{◌≡◌, refl, sym, ap, subst, ◌∙◌}
use mathlib.Core.Bool.{Bool, true, false}
use mathlib.Core.List.{List}
use Prim.Native.Nat.{ℕ, ◌+◌, ◌-◌, ◌<◌}
use native.Mathlib.Omega.{arith}
use lib.Dec.{ltb}
use lib.IntN.{ℤ}
use Rattle.axis.specs.declared.kinds.Dimension.{Dimension}
use Rattle.axis.specs.declared.kinds.Dimension.TheVariants.{Horizontal}
use Rattle.axis.specs.Link.{Link}
use Rattle.axis.specs.declared.edge.Edge.{Edge}
use Rattle.axis.specs.declared.edge.Axis.{Axis}
use Rattle.axis.specs.Link.{index_or}
use Rattle.axis.specs.Edge.{edge_at}
use Rattle.axis.specs.Limits.{most_edges}
use Rattle.axis.specs.Accepted.{AxisWithin}
use Rattle.place.specs.Steps.{most_reach, InReach}
use Rattle.zones.proofs.Kept.{within_more}
use Rattle.words.specs.Edge.{axis_run, flat_axis, edges_in}
use Rattle.stems.specs.declared.kinds.Mode.{Mode}
use Rattle.stems.specs.declared.kinds.Plan.{Plan}
use Rattle.stems.specs.Visit.{too_close}
use Rattle.stems.specs.Plan.{plan_of, is_bounded, held_edge, anchor_after}
use Rattle.stems.specs.Steps.{BareWithout}
use Rattle.stems.specs.Handed.{most_fitted}
use Rattle.stems.specs.StepsPass.{first_put, second_put, held_put, step}
use Rattle.stems.proofs.Growth.{most_growth, PlanWithin, Reached}
use Rattle.stems.proofs.Kept.{StateSound, anchor-or, link-in, plan-in, first-put, second-put}
use Rattle.stems.proofs.Turns.{step-done, step-none, step-close, step-put, plan-at}
use Rattle.words_call.specs.Lent.{edges_of}
use Rattle.words_edge.specs.Whole.{axis_in, reduced, Became, fixing}
use Rattle.words_edge.specs.Pass.{Visited}
use Rattle.words_edge.proofs.Wholes.{same_edges}
use Rattle.words_edge.proofs.Became.{became-then, became-as}
use Rattle.place_words.proofs.Places.{read-reach, edge-reach}
use Rattle.stems_words.specs.declared.visit.Progress.{Progress}
use Rattle.stems_words.specs.Stems.{putting_second, holding, one_more, state_of, ReadyVisit}
use Rattle.stems_words.proofs.Readings.{close-reads, plan-reads}

-- ---- bounds
fitted-reached : Reached most_fitted
fitted-reached = record { least = omega arith; most = omega arith }

-- what is read of an edge is within reach
pub read-in : {fallback : Bool} (ws : List ℤ) (p : Progress) (i j : ℕ) {e : Edge} → ReadyVisit fallback ws p i → j < edges_in ws
    → e ≡ reduced (edge_at (edges_of ws) j) → InReach e
read-in ws p i j {e} s h q = read-reach e q (edge-reach ws most_fitted j (omega arith) s.axis h)

-- another edge can be counted
pub count-below : {fallback : Bool} (ws : List ℤ) (p : Progress) (i : ℕ) → ReadyVisit fallback ws p i → p.count < most_edges
count-below ws p i s = omega (arith, s.count, s.below, s.whole.few)

-- the state is sound, on every dimension
sound : {fallback : Bool} (ws : List ℤ) (p : Progress) (i : ℕ) (d : Dimension) → ReadyVisit fallback ws p i
    → StateSound most_fitted (edges_in ws) i (state_of (axis_in ws d) p)
unfolding flat_axis axis_run
sound ws p i d s = record {
  len = refl;
  axis-in = record { few = s.axis.few; edge = s.axis.edge };
  count_in = s.count;
  anchor_in = s.anchor;
  trail_in = record { last = s.last; delta = s.delta };
}

-- the anchor, or the visited edge where there is none, is an edge
pub base-below : {fallback : Bool} (ws : List ℤ) (p : Progress) (i j : ℕ) → ReadyVisit fallback ws p i → j ≡ index_or i p.anchor → j < edges_in ws
base-below ws p i j s e = subst (λ (n : ℕ). n < edges_in ws) (sym e) (anchor-or (edges_in ws) i p.anchor s.anchor s.below)

-- ---- an edge that is passed over
module _ {fallback : Bool} (m : Mode) (xs ws : List ℤ) (p : Progress) (i : ℕ) (s : ReadyVisit fallback ws p i) {edge : Edge}
    (e : edge ≡ reduced (edge_at (edges_of ws) i)) where
  done_at : {t : Bool} → edge.flags.done ≡ t → (d : Dimension) → (edge_at (axis_in ws d) i).flags.done ≡ t
  done_at q d = ap (λ (x : Edge). x.flags.done) (same_edges ws d i) ∙ sym (ap (λ (x : Edge). x.flags.done) e) ∙ q

  link_at : {l : Link} → edge.link ≡ l → (d : Dimension) → (edge_at (axis_in ws d) i).link ≡ l
  link_at q d = ap (λ (x : Edge). x.link) (same_edges ws d i) ∙ sym (ap (λ (x : Edge). x.link) e) ∙ q

  -- it is done
  pub visited-done : edge.flags.done ≡ true → Visited state_of (step m xs) i p p ws ws
  visited-done q = record { whole = s.whole; long = refl; state = λ (d : Dimension). step-done m xs (state_of (axis_in ws d) p) i (done_at q d) }

  -- it has no link
  pub visited-none : {r : Progress} → edge.flags.done ≡ false → edge.link ≡ None → r ≡ one_more p → Visited state_of (step m xs) i p r ws ws
  visited-none q l h =
      record {
        whole = s.whole;
        long = refl;
        state = λ (d : Dimension). step-none m xs (state_of (axis_in ws d) p) i (done_at q d) (link_at l d)
            ∙ ap (state_of (axis_in ws d)) (sym h);
      }

  module _ (k : ℕ) (q : edge.flags.done ≡ false) (l : edge.link ≡ Some k) where
    -- its link is an edge
    pub link-below : k < edges_in ws
    link-below = link-in most_fitted (edges_in ws) i k (state_of (axis_in ws Horizontal) p) (sound ws p i Horizontal s) s.below (link_at l Horizontal)

    -- and without the fallback it has no zone
    pub link-bare : {edge2 : Edge} → edge2 ≡ reduced (edge_at (edges_of ws) k) → BareWithout fallback edge2
    link-bare f = record { bare = λ v. ap (λ (x : Edge). x.blue) f ∙ (s.without.settled v).bare i k s.below (done_at q Horizontal) (link_at l Horizontal) }

    module _ {edge2 : Edge} {t : Bool} (f : edge2 ≡ reduced (edge_at (edges_of ws) k)) (c : t ≡ too_close m.group p.trail.last edge edge2) where
      close_at : (d : Dimension) → too_close m.group p.trail.last (edge_at (axis_in ws d) i) (edge_at (axis_in ws d) k) ≡ t
      unfolding flat_axis axis_run
      close_at d = sym (c ∙ (λ x. too_close m.group p.trail.last (e x) (f x)) ∙ close-reads m.group p.trail.last _ _)

      -- its stem is too close to the last one
      pub visited-close : {r : Progress} → t ≡ true → r ≡ one_more p → Visited state_of (step m xs) i p r ws ws
      visited-close u h = record {
        whole = s.whole;
        long = refl;
        state =
            λ (d : Dimension). step-close m xs (state_of (axis_in ws d) p) i k (done_at q d) (link_at l d) (close_at d ∙ u) ∙ ap (state_of (axis_in ws d)) (sym h);
      }

      -- ---- a stem
      module _ (u : t ≡ false) {j : ℕ} {base : Edge} (a : j ≡ index_or i p.anchor) (g : base ≡ reduced (edge_at (edges_of ws) j)) {plan : Plan}
          (v : plan ≡ plan_of m xs edge edge2 base p.anchor (ltb k i) p.trail) where
        plan-is : (d : Dimension) → plan ≡ plan_of m xs (edge_at (axis_in ws d) i) (edge_at (axis_in ws d) k) (edge_at (axis_in ws d) j) p.anchor (ltb k i)
            p.trail
        unfolding flat_axis axis_run
        plan-is d = v ∙ (λ x. plan_of m xs (e x) (f x) (g x) p.anchor (ltb k i) p.trail) ∙ plan-reads m xs _ _ _ p.anchor (ltb k i) p.trail

        planned : PlanWithin (most_fitted + most_growth) plan
        planned =
            subst (PlanWithin (most_fitted + most_growth)) (sym (plan-at m xs (state_of (axis_in ws Horizontal) p) i k j plan a (plan-is Horizontal)))
            (plan-in most_fitted (edges_in ws) i k m xs (state_of (axis_in ws Horizontal) p) fitted-reached (sound ws p i Horizontal s) s.below link-below)

        module _ {w1 w2 : List ℤ} {z : ℤ} (b : z ≡ plan.first) (x : Became (fixing i z plan.mark) ws w1)
            (y : Became (putting_second k plan.second) w1 w2) where
          two-stores : Became (λ (axis : Axis). second_put plan k (first_put plan i axis)) ws w2
          two-stores = became-as (λ (d : Dimension). ap (λ (r : ℤ). second_put plan k (fixing i r plan.mark (axis_in ws d))) b) (became-then x y)

          -- positions then
          pub two-within : AxisWithin most_reach (edges_of w2)
          unfolding flat_axis axis_run
          two-within =
              let c = most_fitted + most_growth in
              let A = edges_of ws in
              let h = within_more most_fitted c A (omega arith) s.axis in
              within_more c most_reach (edges_of w2) (omega arith)
              (subst (AxisWithin c) (sym (two-stores.table Horizontal))
              (second-put c k plan (first_put plan i A) (first-put c i plan A h s.below planned) link-below planned))

          pub visited-stem : {w3 : List ℤ} {o : Bool} {n : Link} → o ≡ is_bounded plan i → Became (holding o i k) w2 w3 → n ≡ anchor_after plan p.anchor i
              → Visited state_of (step m xs) i p (record { count = p.count; anchor = n; trail = plan.trail }) ws w3
          unfolding held_edge
          visited-stem {w3} {o} {n} h r anchor = record {
            whole = r.whole;
            long = r.long ∙ two-stores.long;
            state = λ (d : Dimension).
                step-put m xs (state_of (axis_in ws d) p) i k plan _ _ _ n
                (record {
                  base = j;
                  prev = i - 1;
                  not_done = done_at q d;
                  link = link_at l d;
                  not_close = close_at d ∙ u;
                  base-is = a;
                  plan-is = plan-is d;
                  first = refl;
                  second = refl;
                  prev-is = refl;
                  third = refl;
                  anchor = anchor;
                })
                ∙ (λ c. record { axis = sym (stored d) c; count = p.count; anchor = n; trail = plan.trail });
          }
            where
              stored : (d : Dimension) → axis_in w3 d ≡ held_put plan i k (second_put plan k (first_put plan i (axis_in ws d)))
              stored d = r.table d ∙ (λ c. holding (h c) i k (two-stores.table d c))
