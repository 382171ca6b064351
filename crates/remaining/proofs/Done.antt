-- Behind Latin's loop every edge is done; and where every edge is done already, nothing is changed, by either group.
use Rattle.std.specs.Prelude.{None, Some}
use mathlib.Core.Path.{◌≡◌, refl, sym, ap, subst, ◌∙◌}
use mathlib.Core.Bool.{Bool, true, false, cond, ◌||◌}
use mathlib.Core.List.{[], ◌∷◌}
use mathlib.Core.Logic.{⊎_elim}
use Prim.Native.Nat.{ℕ, zero, suc, ◌+◌, ◌≤◌, ◌<◌}
use native.Mathlib.Nat.{eq-or-lt_of_le}
use native.Mathlib.Omega.{arith}
use borrow.Author.Tests.{not-true}
use lib.Dec.{eqb}
use lib.IntN.{ℤ}
use lib.ListN.{length, length-set}
use lib.Seq.{get_or-set_same}
use Rattle.signed.proofs.Choices.{cond_cases, cond-true, clash, at_set}
use Rattle.refusals.specs.Refusal.{refusal, answered}
use Rattle.refusals.proofs.Answers.{none-refused}
use Rattle.refusals.proofs.Tests.{all_hold}
use Rattle.axis.specs.declared.flags.Flags.{Flags}
use Rattle.axis.specs.declared.kinds.Group.{Group}
use Rattle.axis.specs.declared.kinds.Group.TheVariants.{Default, Cjk}
use Rattle.axis.specs.Link.{Link}
use Rattle.axis.specs.declared.kinds.Mark.{Mark}
use Rattle.axis.specs.declared.kinds.Mark.TheVariants.{Bound}
use Rattle.axis.specs.declared.edge.Edge.{Edge}
use Rattle.axis.specs.declared.edge.Axis.{Axis}
use Rattle.axis.specs.Changes.{position, nothing, Only}
use Rattle.axis.specs.Edge.{empty_edge, edge_at}
use Rattle.axis.specs.Limits.{most_pos}
use Rattle.axis.specs.Refusals.{within}
use Rattle.axis.specs.Visits.{visits}
use Rattle.axis.proofs.Only.{or-true}
use Rattle.place.specs.declared.adjust.LinkDir.{LinkDir}
use Rattle.place.specs.declared.adjust.LinkDir.TheVariants.{Prev, Next}
use Rattle.place.specs.Placing.{adjusted}
use Rattle.place.proofs.Changed.{adjusted-only}
use Rattle.remaining.specs.declared.kinds.Progress.{Progress}
use Rattle.remaining.specs.declared.kinds.Plan.{Plan}
use Rattle.remaining.specs.declared.kinds.Round.{Round}
use Rattle.remaining.specs.declared.kinds.Round.TheVariants as Rounds
use Rattle.remaining.specs.declared.kinds.Way.{Way}
use Rattle.remaining.specs.declared.kinds.Way.TheVariants as Ways
use Rattle.remaining.specs.Remaining.{
  State,
  state,
  near_of,
  by_bounds,
  by_anchor,
  by_serif,
  done_before,
  done_behind,
  plan_of,
  fix_at,
  stored,
  carried_out,
  visit,
  visited,
  pass_of,
  begun,
  remaining_of,
}
use Rattle.remaining.specs.Remaining.{Remaining, remaining, outcome, remaining_tests, align_remaining_edges}

-- edge j is done
abbrev pub IsDone : Axis → ℕ → Type 0
IsDone axis j = (edge_at axis j).flags.done ≡ true

-- ---- the stores
-- holding an edge changes no flags
held-flags : (axis : Axis) (i : ℕ) (dir : LinkDir) (j : ℕ) → (edge_at (adjusted axis i dir) j).flags ≡ (edge_at axis j).flags
held-flags axis i dir j = by (eqb i j) ((adjusted-only axis i dir).edges.edge j)
  where
    by : (t : Bool) → Only (cond t (position (Bound ∷ [])) nothing) (edge_at axis j) (edge_at (adjusted axis i dir) j)
        → (edge_at (adjusted axis i dir) j).flags ≡ (edge_at axis j).flags
    by true o = ap (λ (e : Edge). e.flags) o.rest
    by false o = ap (λ (e : Edge). e.flags) o.rest

-- an edge that is fixed and held is done, and so are those that were
module _ (axis : Axis) (i : ℕ) (p : ℤ) (m : Mark) where
  abbrev pub fixed : Axis
  fixed = fix_at axis i p m

  abbrev pub held : Axis
  held = adjusted (adjusted fixed i Prev) i Next

  held-done : (j : ℕ) → (edge_at held j).flags.done ≡ (edge_at fixed j).flags.done
  held-done j = ap (λ (f : Flags). f.done) (held-flags (adjusted fixed i Prev) i Next j ∙ held-flags fixed i Prev j)

  held-still : (j : ℕ) → IsDone axis j → IsDone held j
  held-still j h = held-done j ∙ at_set (λ (e : Edge). e.flags.done ≡ true) axis.edges i j _ empty_edge refl h

  pub held-own : i < length axis.edges → IsDone held i
  held-own h = held-done i ∙ ap (λ (e : Edge). e.flags.done) (get_or-set_same axis.edges i _ empty_edge h)

  pub held-long : length held.edges ≡ length axis.edges
  held-long = (adjusted-only (adjusted fixed i Prev) i Next).edges.size ∙ (adjusted-only fixed i Prev).edges.size ∙ length-set axis.edges i _

-- ---- Latin's plans
module _ (axis : Axis) (past : Progress) (i : ℕ) where
  abbrev Holds : Plan → Type 0
  Holds plan = plan.way ≡ Ways.Held

  bounds-hold : (k : ℕ) (l f : Link) → Holds (by_bounds axis past i k l f)
  unfolding by_bounds
  bounds-hold k (Some m) (Some f) = refl
  bounds-hold k (Some m) None = refl
  bounds-hold k None f = refl

  anchor-holds : (l : Link) → Holds (by_anchor axis past i l)
  unfolding by_anchor
  anchor-holds None = refl
  anchor-holds (Some k) = bounds-hold k (done_before axis i) (done_behind axis i)

  serif-holds : (l : Link) → Holds (by_serif axis past i l)
  unfolding by_serif
  serif-holds (Some k) = refl
  serif-holds None = anchor-holds past.anchor

  latin-holds : Holds (plan_of Rounds.Latin axis past i)
  unfolding plan_of
  latin-holds = serif-holds (near_of axis i (edge_at axis i).serif)

-- ---- Latin's loop
-- the first i edges are done, unless a position was given that no edge may have
record DoneTo (n i : ℕ) (s : State) : Type 0 where
  long : n ≤ length s.axis.edges
  done : (j : ℕ) → j < i → s.past.beyond ≡ false → IsDone s.axis j

pub or-second : (a b : Bool) → (a || b) ≡ true → a ≡ false → b ≡ true
or-second true b p q = absurd (clash true q refl)
or-second false b p q = p

pub or-first : (a b : Bool) → (a || b) ≡ false → a ≡ false
or-first true b p = absurd (clash true p refl)
or-first false b p = refl

carried-done : (n i : ℕ) (axis : Axis) (past : Progress) (plan : Plan) → i < n → plan.way ≡ Ways.Held → past.beyond ≡ false → DoneTo n i (state axis past)
    → DoneTo n (i + 1) (carried_out axis past i plan)
unfolding carried_out stored
carried-done n i axis past plan a w b h =
    cond_cases (DoneTo n (i + 1)) (within most_pos plan.pos) _ _
    (λ t. subst (λ (way : Way). DoneTo n (i + 1) (state (stored way axis i plan.pos plan.mark) plan.next)) (sym w) (record {
      long = omega (arith, held-long axis i plan.pos plan.mark, h.long);
      done = λ j q e. ⊎_elim
          (λ r. subst (IsDone (held axis i plan.pos plan.mark)) (sym r) (held-own axis i plan.pos plan.mark (omega (arith, h.long))))
          (λ r. held-still axis i plan.pos plan.mark j (h.done j r b))
          (eq-or-lt_of_le {n = j} {m = i} (omega arith));
    }))
    (λ t. record { long = h.long; done = λ j q e. absurd (clash true e refl) })

visit-done : (n i : ℕ) (s : State) → i < n → DoneTo n i s → DoneTo n (i + 1) (visit Rounds.Latin s i)
unfolding visit
visit-done n i s a h =
    cond_cases (DoneTo n (i + 1)) (s.past.beyond || (edge_at s.axis i).flags.done) s _
    (λ t. record {
      long = h.long;
      done =
          λ j q e. ⊎_elim (λ r. subst (IsDone s.axis) (sym r) (or-second s.past.beyond _ t e)) (λ r. h.done j r e)
          (eq-or-lt_of_le {n = j} {m = i} (omega arith));
    })
    (λ t. carried-done n i s.axis s.past (plan_of Rounds.Latin s.axis s.past i) a (latin-holds s.axis s.past i)
    (or-first s.past.beyond _ t) h)

visits-done : (n m i : ℕ) (s : State) → i + m ≤ n → DoneTo n i s → DoneTo n (i + m) (visits (visit Rounds.Latin) m i s)
unfolding visits
visits-done n zero i s l h = subst (λ (k : ℕ). DoneTo n k s) (omega arith) h
visits-done n (suc m) i s l h =
    subst (λ (k : ℕ). DoneTo n k (visits (visit Rounds.Latin) m (i + 1) (visit Rounds.Latin s i))) (omega arith)
    (visits-done n m (i + 1) (visit Rounds.Latin s i) (omega arith) (visit-done n i s (omega arith) h))

pub latin-done : (axis : Axis) (count : ℕ) (anchor : Link) → axis.len ≤ length axis.edges → (remaining_of axis Default count anchor).past.beyond ≡ false
    → (j : ℕ) → j < axis.len → IsDone (remaining_of axis Default count anchor).axis j
unfolding pass_of
latin-done axis count anchor l e j q =
    (visits-done axis.len axis.len 0 (state axis (begun count anchor)) (omega arith) (record { long = l; done = λ k p f. absurd (omega arith) })).done j
    (omega (arith, q)) e

-- ---- every edge done before
module _ (s : State) (all : (j : ℕ) → j < s.axis.len → IsDone s.axis j) where
  visit-stays : (round : Round) (i : ℕ) → i < s.axis.len → visit round s i ≡ s
  unfolding visit
  visit-stays round i a = cond-true _ s _ (ap (λ (t : Bool). s.past.beyond || t) (all i a) ∙ sym (or-true s.past.beyond))

  visits-stay : (round : Round) (m i : ℕ) → i + m ≤ s.axis.len → visits (visit round) m i s ≡ s
  unfolding visits
  visits-stay round zero i l = refl
  visits-stay round (suc m) i l = ap (visits (visit round) m (i + 1)) (visit-stays round i (omega arith)) ∙ visits-stay round m (i + 1) (omega arith)

  visited-stays : (round : Round) → visited round s ≡ s
  visited-stays round = visits-stay round s.axis.len 0 (omega arith)

  pub pass-stays : (group : Group) → pass_of group s ≡ s
  unfolding pass_of
  pass-stays Default = visited-stays Rounds.Latin
  pass-stays Cjk =
      ap (λ (t : State). cond (eqb t.past.count 0) t (visited Rounds.Others t)) (visited-stays Rounds.Serifs)
      ∙ cond_cases (λ (t : State). t ≡ s) (eqb s.past.count 0) s (visited Rounds.Others s) (λ t. refl) (λ t. visited-stays Rounds.Others)

-- ---- the call
pub call-done : (axis : Axis) (count : ℕ) (anchor : Link) → axis.len ≤ length axis.edges → (align_remaining_edges axis Default count anchor).answer ≡ 0
    → (j : ℕ) → j < axis.len → IsDone (align_remaining_edges axis Default count anchor).axis j
unfolding align_remaining_edges
call-done axis count anchor l e j q =
    let s = remaining_of axis Default count anchor in
    let none = none-refused (remaining None axis) (outcome s) (λ (r : Remaining). r.answer) (λ k. refl)
    (refusal (remaining_tests axis Default count anchor)) e in
    let t = all_hold (remaining_tests axis Default count anchor) refl none in
    subst (λ (k : ℕ). IsDone (answered k (remaining None axis) (outcome s)).axis j) (sym none)
    (latin-done axis count anchor l (not-true _ t.1.1.1.1.0) j q)
