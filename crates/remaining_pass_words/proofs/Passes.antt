-- The loops: what is left of the visits gives the whole.
use mathlib.Core.Path.{◌≡◌, refl, sym, ap, subst, ◌∙◌}
use mathlib.Core.Bool.{cond}
use mathlib.Core.List.{List}
use Prim.Native.Nat.{ℕ, ◌+◌, ◌≤◌, ◌<◌}
use native.Mathlib.Omega.{arith}
use borrow.Author.Tests.{eq-eqb, ne_eqb}
use lib.Dec.{eqb}
use lib.IntN.{ℤ}
use Rattle.signed.proofs.Choices.{cond-true, cond-false}
use Rattle.axis.specs.declared.kinds.Dimension.{Dimension}
use Rattle.axis.specs.declared.kinds.Dimension.TheVariants.{Horizontal}
use Rattle.axis.specs.declared.kinds.Group.{Group}
use Rattle.axis.specs.declared.kinds.Group.TheVariants.{Default, Cjk}
use Rattle.axis.specs.declared.edge.Axis.{Axis}
use Rattle.words.specs.Edge.{edges_in}
use Rattle.words_call.specs.Lent.{edges_of}
use Rattle.words_edge.specs.Whole.{axis_in}
use Rattle.words_edge.specs.Pass.{Visited}
use Rattle.words_edge.proofs.Wholes.{edges-len}
use Rattle.words_edge.proofs.Passes.{Passing, pass-starts, pass-next, pass-ends}
use Rattle.remaining.specs.declared.kinds.Progress.{Progress}
use Rattle.remaining.specs.declared.kinds.Round.{Round}
use Rattle.remaining.specs.declared.kinds.Round.TheVariants as Rounds
use Rattle.remaining.specs.Remaining.{State, state, visit, visited, pass_of}
use Rattle.remaining.proofs.Kept.{Sound, visit-sound}
use Rattle.remaining_pass_words.specs.Words.{ReadyPass, Ready, Passed, visiting, passing}

-- ---- one loop
module _ (round : Round) (start : Progress) where
  -- what holds before each visit of n edges
  abbrev Kept : ℕ → ℕ → Axis → Progress → Type 0
  Kept n i axis past = Sound n (state axis past)

  abbrev pub Aligning : ℕ → List ℤ → List ℤ → Progress → ℕ → Type 0
  Aligning n ws₀ ws past i = Passing state (visit round) (Kept n) n ws₀ start ws past i

  pub aligning-starts : {ws : List ℤ} → ReadyPass ws start → Aligning (edges_in ws) ws ws start 0
  aligning-starts {ws} r =
      pass-starts state (visit round) (Kept (edges_in ws)) r.whole refl (record { len = edges-len ws; axis = r.axis; anchor = r.anchor })

  module _ {n : ℕ} {ws₀ ws : List ℤ} {past : Progress} {i : ℕ} (g : Aligning n ws₀ ws past i) where
    pub aligning-ready : i < n → Ready ws past i
    aligning-ready h = record {
      whole = g.whole;
      axis = g.kept.axis;
      anchor = record { at = λ (k : ℕ) e. omega (arith, g.count, g.kept.anchor.at k e) };
      below = omega (arith, g.count, h);
    }

    pub aligning-next : {ws' : List ℤ} {r : Progress} → i < n → Visited state (visit round) i past r ws ws' → Aligning n ws₀ ws' r (i + 1)
    aligning-next {ws'} {r} h v =
        pass-next state (visit round) (Kept n) g h v
        (subst (Sound n) (v.state Horizontal) (visit-sound round n i (state (edges_of ws) past) h g.kept))

    pub aligning-ends : n ≤ i → Passed (visiting round) start past ws₀ ws
    aligning-ends h = record {
      whole = g.whole;
      long = g.long;
      axis = g.kept.axis;
      anchor = record { at = λ (k : ℕ) e. omega (arith, g.count, g.kept.anchor.at k e) };
      states = λ (d : Dimension). pass-ends state (visit round) (Kept n) g h d;
    }

-- ---- all loops
module _ (group : Group) (start : Progress) (ws : List ℤ) where
  pub latin-passed : {r : Progress} {w1 : List ℤ} → group ≡ Default → Passed (visiting Rounds.Latin) start r ws w1 → Passed (passing group) start r ws w1
  unfolding pass_of
  latin-passed e p = record {
    whole = p.whole;
    long = p.long;
    axis = p.axis;
    anchor = p.anchor;
    states = λ (d : Dimension). p.states d ∙ ap (λ (g : Group). pass_of g (state (axis_in ws d) start)) (sym e);
  }

  module _ {past : Progress} {w1 : List ℤ} (e : group ≡ Cjk) (p : Passed (visiting Rounds.Serifs) start past ws w1) where
    pub serifs-ready : ReadyPass w1 past
    serifs-ready = record { whole = p.whole; axis = p.axis; anchor = p.anchor }

    -- none is left
    pub serifs-passed : past.count ≡ 0 → Passed (passing group) start past ws w1
    unfolding pass_of
    serifs-passed q = record {
      whole = p.whole;
      long = p.long;
      axis = p.axis;
      anchor = p.anchor;
      states = λ (d : Dimension).
          sym (cond-true (eqb past.count 0) (state (axis_in w1 d) past) (visited Rounds.Others (state (axis_in w1 d) past)) (eq-eqb past.count 0 q))
          ∙ ap (λ (s : State). cond (eqb s.past.count 0) s (visited Rounds.Others s)) (p.states d)
          ∙ ap (λ (g : Group). pass_of g (state (axis_in ws d) start)) (sym e);
    }

    pub others-passed : {r : Progress} {w2 : List ℤ} → (past.count ≡ 0 → ⊥) → Passed (visiting Rounds.Others) past r w1 w2
        → Passed (passing group) start r ws w2
    unfolding pass_of
    others-passed n o = record {
      whole = o.whole;
      long = o.long ∙ p.long;
      axis = o.axis;
      anchor = o.anchor;
      states = λ (d : Dimension).
          o.states d
          ∙ sym (cond-false (eqb past.count 0) (state (axis_in w1 d) past) (visited Rounds.Others (state (axis_in w1 d) past)) (ne_eqb past.count 0 n))
          ∙ ap (λ (s : State). cond (eqb s.past.count 0) s (visited Rounds.Others s)) (p.states d)
          ∙ ap (λ (g : Group). pass_of g (state (axis_in ws d) start)) (sym e);
    }
