-- The visit of an edge, by what the code has read and stored.
use mathlib.Core.Path.{◌≡◌, refl, sym, ap, ◌∙◌}
use mathlib.Core.Bool.{Bool, true, false, ◌||◌}
use mathlib.Core.List.{List}
use Prim.Native.Nat.{ℕ}
use lib.IntN.{ℤ}
use Rattle.signed.proofs.Choices.{cond-true, cond-false}
use Rattle.axis.specs.declared.kinds.Dimension.{Dimension}
use Rattle.axis.specs.declared.edge.Axis.{Axis}
use Rattle.axis.specs.Edge.{edge_at}
use Rattle.axis.specs.Limits.{most_pos}
use Rattle.axis.specs.Refusals.{within}
use Rattle.axis.proofs.Only.{or-true}
use Rattle.words.specs.Edge.{axis_run, flat_axis}
use Rattle.words_call.specs.Lent.{edges_of}
use Rattle.words_edge.specs.Whole.{Whole, axis_in, Became}
use Rattle.words_edge.specs.Pass.{Visited}
use Rattle.remaining.specs.declared.kinds.Progress.{Progress}
use Rattle.remaining.specs.declared.kinds.Plan.{Plan}
use Rattle.remaining.specs.declared.kinds.Round.{Round}
use Rattle.remaining.specs.Plan.{as_beyond}
use Rattle.remaining.specs.Remaining.{state, plan_of, stored, carried_out, visit}
use Rattle.remaining_pass_words.specs.Words.{storing}
use Rattle.remaining_pass_words.proofs.Plans.{plan-same}

-- ---- of a state
module _ (round : Round) (axis : Axis) (past : Progress) (i : ℕ) where
  over-stays : (past.beyond || (edge_at axis i).flags.done) ≡ true → visit round (state axis past) i ≡ state axis past
  unfolding visit
  over-stays e = cond-true _ _ _ e

  module _ (b : past.beyond ≡ false) (e : (edge_at axis i).flags.done ≡ false) {plan : Plan} (p : plan_of round axis past i ≡ plan) where
    goes : visit round (state axis past) i ≡ carried_out axis past i plan
    unfolding visit
    goes = cond-false _ _ _ ((λ j. b j || e j)) ∙ ap (carried_out axis past i) p

    goes-beyond : within most_pos plan.pos ≡ false → visit round (state axis past) i ≡ state axis (as_beyond past)
    unfolding carried_out
    goes-beyond t = goes ∙ cond-false _ _ _ t

    goes-stored : within most_pos plan.pos ≡ true → visit round (state axis past) i ≡ state (stored plan.way axis i plan.pos plan.mark) plan.next
    unfolding carried_out
    goes-stored t = goes ∙ cond-true _ _ _ t

-- ---- of words
module _ (round : Round) (ws : List ℤ) (past : Progress) (i : ℕ) (w : Whole ws) where
  pub visited-behind : past.beyond ≡ true → Visited state (visit round) i past past ws ws
  visited-behind b = record {
    whole = w;
    long = refl;
    state = λ (d : Dimension). over-stays round (axis_in ws d) past i (ap (λ (t : Bool). t || (edge_at (axis_in ws d) i).flags.done) b);
  }

  done-in : {t : Bool} → (edge_at (edges_of ws) i).flags.done ≡ t → (d : Dimension) → (edge_at (axis_in ws d) i).flags.done ≡ t
  unfolding flat_axis axis_run
  done-in e d = e

  pub visited-done : (edge_at (edges_of ws) i).flags.done ≡ true → Visited state (visit round) i past past ws ws
  visited-done e = record {
    whole = w;
    long = refl;
    state = λ (d : Dimension). over-stays round (axis_in ws d) past i (ap (λ (t : Bool). past.beyond || t) (done-in e d) ∙ sym (or-true past.beyond));
  }

  module _ (b : past.beyond ≡ false) (e : (edge_at (edges_of ws) i).flags.done ≡ false) {plan : Plan} (p : plan ≡ plan_of round (edges_of ws) past i) where
    plan-in : (d : Dimension) → plan_of round (axis_in ws d) past i ≡ plan
    plan-in d = plan-same ws d past i round ∙ sym p

    pub visited-beyond : {r : Progress} → within most_pos plan.pos ≡ false → r ≡ as_beyond past → Visited state (visit round) i past r ws ws
    visited-beyond t q = record {
      whole = w;
      long = refl;
      state = λ (d : Dimension). goes-beyond round (axis_in ws d) past i b (done-in e d) (plan-in d) t ∙ ap (state (axis_in ws d)) (sym q);
    }

    pub visited-stored : {w1 : List ℤ} {z : ℤ} → within most_pos plan.pos ≡ true → z ≡ plan.pos → Became (storing plan.way i z plan.mark) ws w1
        → Visited state (visit round) i past plan.next ws w1
    visited-stored {w1} {z} t q a = record {
      whole = a.whole;
      long = a.long;
      state = λ (d : Dimension).
          goes-stored round (axis_in ws d) past i b (done-in e d) (plan-in d) t
          ∙ (λ j. state (stored plan.way (axis_in ws d) i (sym q j) plan.mark) plan.next) ∙ ap (λ (x : Axis). state x plan.next) (sym (a.table d));
    }
