-- Visits that give no position that no edge may have: what holds before them and is kept by each holds behind all.
use Rattle.std.specs.Prelude.{None}
use mathlib.Core.Path.{◌≡◌, refl, ap, subst}
use mathlib.Core.Bool.{Bool, true, false, cond, ◌||◌}
use Prim.Native.Nat.{ℕ, zero, suc, ◌+◌, ◌≤◌, ◌<◌}
use native.Mathlib.Omega.{arith}
use borrow.Author.Tests.{not-true}
use Rattle.refusals.specs.Refusal.{refusal}
use Rattle.refusals.proofs.Answers.{none-refused, worked}
use Rattle.refusals.proofs.Tests.{all_hold}
use Rattle.signed.proofs.Choices.{cond_cases, clash}
use Rattle.axis.specs.declared.kinds.Group.{Group}
use Rattle.axis.specs.Link.{Link}
use Rattle.axis.specs.declared.edge.Axis.{Axis}
use Rattle.axis.specs.Limits.{most_pos}
use Rattle.axis.specs.Refusals.{within}
use Rattle.axis.specs.Visits.{visits}
use Rattle.gaps.specs.Gaps.{is_done}
use Rattle.remaining.specs.declared.kinds.Plan.{Plan}
use Rattle.remaining.specs.declared.kinds.Round.{Round}
use Rattle.remaining.specs.Remaining.{State, state, plan_of, stored, carried_out, visit, remaining_of}
use Rattle.remaining.specs.Remaining.{Remaining, remaining, outcome, remaining_tests, align_remaining_edges}
use Rattle.remaining.proofs.Done.{or-second}

-- ---- the call
-- behind answer 0 no such position was given, and the outcome is that of the loops
pub record Passed (axis : Axis) (group : Group) (count : ℕ) (anchor : Link) : Type 0 where
  pub none_beyond : (remaining_of axis group count anchor).past.beyond ≡ false
  pub edges : (align_remaining_edges axis group count anchor).axis ≡ (remaining_of axis group count anchor).axis

pub passed : (axis : Axis) (group : Group) (count : ℕ) (anchor : Link) → (align_remaining_edges axis group count anchor).answer ≡ 0
    → Passed axis group count anchor
unfolding align_remaining_edges
passed axis group count anchor e =
    let s = remaining_of axis group count anchor in
    let ts = remaining_tests axis group count anchor in
    let none = none-refused (remaining None axis) (outcome s) (λ (r : Remaining). r.answer) (λ k. refl) (refusal ts) e in
    record {
      none_beyond = not-true _ (all_hold ts refl none).1.1.1.1.0;
      edges = ap (λ (r : Remaining). r.axis) (worked (remaining None axis) (outcome s) (refusal ts) none);
    }

-- ---- visits
-- what a plan makes of a state, where an edge may have its position
abbrev pub carried : State → ℕ → Plan → State
carried s i plan = state (stored plan.way s.axis i plan.pos plan.mark) plan.next

or-other : (a b : Bool) → (a || b) ≡ false → b ≡ false
or-other true b p = absurd (clash true p refl)
or-other false b p = p

module _ (round : Round) where
  -- ---- one visit
  -- a position that no edge may have is not forgotten
  visit-within : (s : State) (i : ℕ) → (visit round s i).past.beyond ≡ false → s.past.beyond ≡ false
  unfolding visit
  visit-within s i = by s.past.beyond refl
    where
      by : (t : Bool) → s.past.beyond ≡ t
          → (cond (t || is_done s.axis i) s (carried_out s.axis s.past i (plan_of round s.axis s.past i))).past.beyond ≡ false → t ≡ false
      by true q e = absurd (clash _ e q)
      by false q e = refl

  -- an edge that is done is passed over, and what is planned for another is carried out
  pub visit-cases : (P : State → Type 0) (s : State) (i : ℕ) → (visit round s i).past.beyond ≡ false
      → (is_done s.axis i ≡ true → P s) → (is_done s.axis i ≡ false → P (carried s i (plan_of round s.axis s.past i))) → P (visit round s i)
  unfolding visit carried_out
  visit-cases P s i e done left =
      cond_cases (λ (t : State). t.past.beyond ≡ false → P t) (s.past.beyond || is_done s.axis i) s _
      (λ t b. done (or-second s.past.beyond _ t b))
      (λ t.
      cond_cases (λ (u : State). u.past.beyond ≡ false → P u) (within most_pos (plan_of round s.axis s.past i).pos) _ _
      (λ w b. left (or-other s.past.beyond _ t))
      (λ w b. absurd (clash true b refl)))
      e

  -- ---- all of them
  pub visits-within : (m i : ℕ) (s : State) → (visits (visit round) m i s).past.beyond ≡ false → s.past.beyond ≡ false
  unfolding visits
  visits-within zero i s e = e
  visits-within (suc m) i s e = visit-within s i (visits-within m (i + 1) (visit round s i) e)

  visits-reach : (n : ℕ) (P : ℕ → State → Type 0) → ((i : ℕ) (s : State) → i < n → P i s → (visit round s i).past.beyond ≡ false → P (i + 1) (visit round s i))
      → (m i : ℕ) (s : State) → i + m ≤ n → P i s → (visits (visit round) m i s).past.beyond ≡ false → P (i + m) (visits (visit round) m i s)
  unfolding visits
  visits-reach n P h zero i s l p e = subst (λ (k : ℕ). P k s) (omega arith) p
  visits-reach n P h (suc m) i s l p e =
      let t = visit round s i in
      subst (λ (k : ℕ). P k (visits (visit round) m (i + 1) t)) (omega arith)
      (visits-reach n P h m (i + 1) t (omega arith) (h i s (omega arith) p (visits-within m (i + 1) t e)) e)

  pub all-reach : (n : ℕ) (P : ℕ → State → Type 0) → ((i : ℕ) (s : State) → i < n → P i s → (visit round s i).past.beyond ≡ false → P (i + 1) (visit round s i))
      → (s : State) → P 0 s → (visits (visit round) n 0 s).past.beyond ≡ false → P n (visits (visit round) n 0 s)
  all-reach n P h s p e = subst (λ (k : ℕ). P k (visits (visit round) n 0 s)) (omega arith) (visits-reach n P h n 0 s (omega arith) p e)
