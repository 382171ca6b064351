-- The stem pass over edges that are settled: a step keeps them so, and what the loop needs to do without the fallback.
use Rattle.std.specs.Prelude.{None, Some}
use mathlib.Core.Path.{◌≡◌, refl, subst}
use mathlib.Core.Bool.{Bool, false, ◌&&◌}
use mathlib.Core.List.{List}
use Prim.Native.Nat.{ℕ, ◌+◌, ◌<◌, ◌-◌}
use lib.IntN.{ℤ}
use Rattle.signed.proofs.Choices.{either_way}
use Rattle.axis.specs.Link.{Link}
use Rattle.axis.specs.declared.edge.Edge.{Edge}
use Rattle.axis.specs.declared.edge.Axis.{Axis}
use Rattle.axis.specs.Edge.{edge_at}
use Rattle.zones.specs.Settled.{Settled}
use Rattle.zones.proofs.Settled.{Grown, AllGrown, same-grown, all_same, all_then, put-grown, grown-settled}
use Rattle.stems.specs.declared.kinds.Mode.{Mode}
use Rattle.stems.specs.declared.kinds.Plan.{Plan}
use Rattle.stems.specs.declared.kinds.Second.{Second}
use Rattle.stems.specs.declared.kinds.Second.TheVariants.{Stays, Placed, Fixed}
use Rattle.stems.specs.Visit.{too_close}
use Rattle.stems.specs.Plan.{second_edge, is_over, is_bounded, held_edge}
use Rattle.stems.specs.Steps.{BareWithout}
use Rattle.stems.specs.Stems.{State}
use Rattle.stems.specs.StepsPass.{plan_at, first_put, second_put, held_put, carried_out, step_link, step, SettledWithout}
use Rattle.stems.proofs.Kept.{Goes, goes_on}

-- ---- nothing is undone by a step
first-grown : (plan : Plan) (i : ℕ) (axis : Axis) → AllGrown axis (first_put plan i axis)
first-grown plan i axis = put-grown axis i _ (record { done = λ h. refl; bare = λ h. h; link = refl })

second-edge : (e : Edge) (x : Second) → Grown e (second_edge e x)
unfolding second_edge
second-edge e Stays = same-grown e
second-edge e (Placed p) = record { done = λ h. h; bare = λ h. h; link = refl }
second-edge e (Fixed p) = record { done = λ h. refl; bare = λ h. h; link = refl }

pub second-grown : (plan : Plan) (k : ℕ) (axis : Axis) → AllGrown axis (second_put plan k axis)
second-grown plan k axis = put-grown axis k _ (second-edge (edge_at axis k) plan.second)

held-edge : (plan : Plan) (i : ℕ) (e prev link : Edge) → Grown e (held_edge plan i e prev link)
unfolding held_edge
held-edge plan i e prev link =
    either_way (Grown e) (is_bounded plan i && is_over e prev link) _ e (record { done = λ h. h; bare = λ h. h; link = refl }) (same-grown e)

pub held_grown : (plan : Plan) (i k : ℕ) (axis : Axis) → AllGrown axis (held_put plan i k axis)
held_grown plan i k axis = put-grown axis i _ (held-edge plan i (edge_at axis i) (edge_at axis (i - 1)) (edge_at axis k))

carried-grown : (s : State) (i k : ℕ) (plan : Plan) → AllGrown s.axis (carried_out s i k plan).axis
unfolding carried_out
carried-grown s i k plan =
    all_then _ _ _ (first-grown plan i s.axis)
    (all_then _ _ _ (second-grown plan k (first_put plan i s.axis)) (held_grown plan i k (second_put plan k (first_put plan i s.axis))))

module _ (m : Mode) (xs : List ℤ) where
  link-grown : (s : State) (i : ℕ) (l : Link) → AllGrown s.axis (step_link m xs s i l).axis
  unfolding step_link
  link-grown s i None = all_same s.axis
  link-grown s i (Some k) =
      either_way (λ (t : State). AllGrown s.axis t.axis) (too_close m.group s.trail.last (edge_at s.axis i) (edge_at s.axis k)) _ _
      (all_same s.axis)
      (carried-grown s i k (plan_at m xs s i k))

  pub step-grown : (s : State) (i : ℕ) → AllGrown s.axis (step m xs s i).axis
  unfolding step
  step-grown s i =
      either_way (λ (t : State). AllGrown s.axis t.axis) (edge_at s.axis i).flags.done s _ (all_same s.axis)
      (link-grown s i (edge_at s.axis i).link)

  pub step-settled : (n : ℕ) (s : State) (i : ℕ) → Settled n s.axis → Settled n (step m xs s i).axis
  step-settled n s i h = grown-settled n s.axis (step m xs s i).axis (step-grown s i) h

-- ---- the loop
-- what holds before each visit: what holds in every pass, and, without the fallback, that the edges are settled
pub record GoesSettled (fallback : Bool) (m : Mode) (xs : List ℤ) (n : ℕ) (anchor : Link) (axis : Axis) (s : State) (i : ℕ) : Type 0 where
  pub goes : Goes m xs n anchor axis s i
  pub without : SettledWithout fallback n s.axis

module _ {fallback : Bool} {m : Mode} {xs : List ℤ} {n : ℕ} {anchor : Link} {axis : Axis} {s : State} {i : ℕ}
    (g : GoesSettled fallback m xs n anchor axis s i) (q : i < n) where
  pub settled_on : {s' : State} → step m xs s i ≡ s' → GoesSettled fallback m xs n anchor axis s' (i + 1)
  settled_on e = record {
    goes = goes_on g.goes q e;
    without = record { settled = λ f. subst (λ (t : State). Settled n t.axis) e (step-settled m xs n s i (g.without.settled f)) };
  }

  -- then the link of a visited edge has no zone
  pub link-bare : (k : ℕ) → (edge_at s.axis i).flags.done ≡ false → (edge_at s.axis i).link ≡ Some k → BareWithout fallback (edge_at s.axis k)
  link-bare k d l = record { bare = λ f. (g.without.settled f).bare i k q d l }
