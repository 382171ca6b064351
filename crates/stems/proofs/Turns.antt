-- One step by the values that the code finds.
use Rattle.std.specs.Prelude.{None, Some}
use mathlib.Core.Path.{◌≡◌, sym, ap, ◌∙◌}
use mathlib.Core.Bool.{Bool, true, false}
use mathlib.Core.List.{List}
use Prim.Native.Nat.{ℕ, ◌-◌}
use lib.Dec.{ltb}
use lib.IntN.{ℤ}
use Rattle.signed.proofs.Choices.{cond-true, cond-false}
use Rattle.axis.specs.Link.{Link}
use Rattle.axis.specs.declared.edge.Edge.{Edge}
use Rattle.axis.specs.declared.edge.Axis.{Axis}
use Rattle.axis.specs.Link.{index_or}
use Rattle.axis.specs.Edge.{edge_at, put_edge, fixed_at}
use Rattle.stems.specs.declared.kinds.Mode.{Mode}
use Rattle.stems.specs.declared.kinds.Plan.{Plan}
use Rattle.stems.specs.Visit.{too_close}
use Rattle.stems.specs.Plan.{plan_of, second_edge, held_edge, anchor_after}
use Rattle.stems.specs.Stems.{State, counted}
use Rattle.stems.specs.StepsPass.{plan_at, first_put, second_put, held_put, carried_out, step_link, step}

module _ (m : Mode) (xs : List ℤ) (s : State) (i : ℕ) where
  pub step-done : (edge_at s.axis i).flags.done ≡ true → step m xs s i ≡ s
  unfolding step
  step-done h = cond-true _ _ _ h

  -- the edge is not done, and has this link
  by-link : (l : Link) → (edge_at s.axis i).flags.done ≡ false → (edge_at s.axis i).link ≡ l → step m xs s i ≡ step_link m xs s i l
  unfolding step
  by-link l h e = cond-false _ _ _ h ∙ ap (step_link m xs s i) e

  pub step-none : (edge_at s.axis i).flags.done ≡ false → (edge_at s.axis i).link ≡ None → step m xs s i ≡ counted s
  unfolding step_link
  step-none h e = by-link None h e

  abbrev close_at : ℕ → Bool
  close_at k = too_close m.group s.trail.last (edge_at s.axis i) (edge_at s.axis k)

  pub step-close : (k : ℕ) → (edge_at s.axis i).flags.done ≡ false → (edge_at s.axis i).link ≡ Some k → close_at k ≡ true → step m xs s i ≡ counted s
  unfolding step_link
  step-close k h e q = by-link (Some k) h e ∙ cond-true _ _ _ q

  -- the axis with two edges stored
  abbrev two_put : ℕ → Edge → Edge → Axis
  two_put k e g = put_edge (put_edge s.axis i e) k g

  -- the three stores of a stem's step, and what else it leaves
  pub record Put (k : ℕ) (plan : Plan) (e g h : Edge) (a : Link) : Type 0 where
    pub base : ℕ
    pub prev : ℕ
    pub not_done : (edge_at s.axis i).flags.done ≡ false
    pub link : (edge_at s.axis i).link ≡ Some k
    pub not_close : close_at k ≡ false
    pub base-is : base ≡ index_or i s.anchor
    pub plan-is : plan ≡ plan_of m xs (edge_at s.axis i) (edge_at s.axis k) (edge_at s.axis base) s.anchor (ltb k i) s.trail
    pub first : e ≡ fixed_at (edge_at s.axis i) plan.first plan.mark
    pub second : g ≡ second_edge (edge_at (put_edge s.axis i e) k) plan.second
    pub prev-is : prev ≡ i - 1
    pub third : h ≡ held_edge plan i (edge_at (two_put k e g) i) (edge_at (two_put k e g) prev) (edge_at (two_put k e g) k)
    pub anchor : a ≡ anchor_after plan s.anchor i

  -- the axis after two stores, and after all three
  pub two-puts : (k : ℕ) (plan : Plan) (e g : Edge) → e ≡ fixed_at (edge_at s.axis i) plan.first plan.mark
      → g ≡ second_edge (edge_at (put_edge s.axis i e) k) plan.second
      → put_edge (put_edge s.axis i e) k g ≡ second_put plan k (first_put plan i s.axis)
  two-puts k plan e g h1 h2 = cc

  three-puts : (k prev : ℕ) (plan : Plan) (u v : Axis) (h : Edge) → u ≡ v → prev ≡ i - 1 → h ≡ held_edge plan i (edge_at u i) (edge_at u prev) (edge_at u k)
      → put_edge u i h ≡ held_put plan i k v
  three-puts k prev plan u v h e p q = cc

  pub plan-at : (k base : ℕ) (plan : Plan) → base ≡ index_or i s.anchor
      → plan ≡ plan_of m xs (edge_at s.axis i) (edge_at s.axis k) (edge_at s.axis base) s.anchor (ltb k i) s.trail → plan ≡ plan_at m xs s i k
  plan-at k base plan e q = q ∙ ap (λ (j : ℕ). plan_of m xs (edge_at s.axis i) (edge_at s.axis k) (edge_at s.axis j) s.anchor (ltb k i) s.trail) e

  carried : (k : ℕ) (plan : Plan) (u : Axis) (a : Link) → u ≡ held_put plan i k (second_put plan k (first_put plan i s.axis))
      → a ≡ anchor_after plan s.anchor i
      → carried_out s i k plan ≡ record { axis = u; count = s.count; anchor = a; trail = plan.trail }
  unfolding carried_out
  carried k plan u a e q =
      ap (λ (v : Axis). record { axis = v; count = s.count; anchor = anchor_after plan s.anchor i; trail = plan.trail }) (sym e)
      ∙ ap (λ (l : Link). record { axis = u; count = s.count; anchor = l; trail = plan.trail }) (sym q)

  pub step-put : (k : ℕ) (plan : Plan) (e g h : Edge) (a : Link) → Put k plan e g h a
      → step m xs s i ≡ record { axis = put_edge (put_edge (put_edge s.axis i e) k g) i h; count = s.count; anchor = a; trail = plan.trail }
  unfolding step_link
  step-put k plan e g h a p =
      by-link (Some k) p.not_done p.link
      ∙ cond-false _ _ _ p.not_close
      ∙ ap (carried_out s i k) (sym (plan-at k p.base plan p.base-is p.plan-is))
      ∙ carried k plan _ a (three-puts k p.prev plan _ _ h (two-puts k plan e g p.first p.second) p.prev-is p.third) p.anchor
