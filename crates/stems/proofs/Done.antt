-- Where no edge was passed over, every edge is done.
use Rattle.std.specs.Prelude.{None, Some}
use mathlib.Core.Path.{◌≡◌, refl, sym, ap, subst, ◌∙◌}
use mathlib.Core.Bool.{Bool, true}
use mathlib.Core.List.{List}
use mathlib.Core.Logic.{⊎_elim}
use Prim.Native.Nat.{ℕ, zero, suc, ◌+◌, ◌≤◌, ◌<◌}
use native.Mathlib.Omega.{arith}
use lib.IntN.{ℤ}
use lib.ListN.{length, length-set}
use lib.Seq.{get_or-set_same}
use Rattle.signed.proofs.Signed.{lt-or-le}
use Rattle.signed.proofs.Choices.{cond_cases}
use Rattle.refusals.specs.Refusal.{refusal}
use Rattle.refusals.proofs.Answers.{none-refused}
use Rattle.fixed.specs.declared.width.WidthRule.{WidthRule}
use Rattle.axis.specs.Link.{Link}
use Rattle.axis.specs.declared.kinds.Group.{Group}
use Rattle.axis.specs.declared.edge.Edge.{Edge}
use Rattle.axis.specs.declared.edge.Axis.{Axis}
use Rattle.axis.specs.Edge.{empty_edge, edge_at}
use Rattle.axis.specs.Visits.{visits}
use Rattle.stems.specs.declared.kinds.Mode.{Mode}
use Rattle.stems.specs.declared.kinds.Plan.{Plan}
use Rattle.stems.specs.Visit.{too_close}
use Rattle.stems.specs.Answer.{Stems}
use Rattle.stems.specs.Stems.{State, counted, begun, stems, stems_of, mode_of, stems_tests, align_stem_edges}
use Rattle.stems.specs.StepsPass.{plan_at, first_put, second_put, carried_out, step_link, step}
use Rattle.stems.proofs.Straight.{steps-are}
use Rattle.stems.proofs.Settling.{second-grown, held_grown, step-grown}
use Rattle.stems.proofs.Handed.{outcome}

-- edge j is done
abbrev IsDone : Axis → ℕ → Type 0
IsDone axis j = (edge_at axis j).flags.done ≡ true

-- ---- one visit
-- every place stays, and where none was counted the visited edge is done
record Visited (n i : ℕ) (s : State) : Type 0 where
  long : n ≤ length s.axis.edges
  done : s.count ≡ 0 → IsDone s.axis i

carried-long : (s : State) (i k : ℕ) (plan : Plan) → length (carried_out s i k plan).axis.edges ≡ length s.axis.edges
unfolding carried_out
carried-long s i k plan =
    let one = first_put plan i s.axis in
    let two = second_put plan k one in
    length-set two.edges i _ ∙ length-set one.edges k _ ∙ length-set s.axis.edges i _

-- a plan carried out places the edge for good
carried-done : (s : State) (i k : ℕ) (plan : Plan) → i < length s.axis.edges → IsDone (carried_out s i k plan).axis i
unfolding carried_out
carried-done s i k plan h =
    let one = first_put plan i s.axis in
    let two = second_put plan k one in
    ((held_grown plan i k two).edge i).done (((second-grown plan k one).edge i).done
    (ap (λ (e : Edge). e.flags.done) (get_or-set_same s.axis.edges i _ empty_edge h)))

module _ (m : Mode) (xs : List ℤ) where
  counted-visited : (n i : ℕ) (s : State) → n ≤ length s.axis.edges → Visited n i (counted s)
  counted-visited n i s l = record { long = l; done = λ e. absurd (omega (arith, e)) }

  link-visited : (n i : ℕ) (s : State) (l : Link) → n ≤ length s.axis.edges → i < n → Visited n i (step_link m xs s i l)
  unfolding step_link
  link-visited n i s None l h = counted-visited n i s l
  link-visited n i s (Some k) l h =
      cond_cases (Visited n i) (too_close m.group s.trail.last (edge_at s.axis i) (edge_at s.axis k)) (counted s) _ (λ t. counted-visited n i s l)
      (λ t. let plan = plan_at m xs s i k in record { long = omega (arith, carried-long s i k plan); done = λ e. carried-done s i k plan (omega arith) })

  step-visited : (n i : ℕ) (s : State) → n ≤ length s.axis.edges → i < n → Visited n i (step m xs s i)
  unfolding step
  step-visited n i s l h =
      cond_cases (Visited n i) (edge_at s.axis i).flags.done s _ (λ t. record { long = l; done = λ e. t })
      (λ t. link-visited n i s (edge_at s.axis i).link l h)

  -- nothing that was counted is forgotten
  link-counts : (s : State) (i : ℕ) (l : Link) → s.count ≤ (step_link m xs s i l).count
  unfolding step_link carried_out
  link-counts s i None = omega arith
  link-counts s i (Some k) =
      cond_cases (λ (t : State). s.count ≤ t.count) (too_close m.group s.trail.last (edge_at s.axis i) (edge_at s.axis k)) (counted s) _
      (λ t. omega arith) (λ t. omega arith)

  step_counts : (s : State) (i : ℕ) → s.count ≤ (step m xs s i).count
  unfolding step
  step_counts s i =
      cond_cases (λ (t : State). s.count ≤ t.count) (edge_at s.axis i).flags.done s _ (λ t. omega arith) (λ t. link-counts s i (edge_at s.axis i).link)

  -- ---- all visits
  -- after i of them: where none was counted, the first i edges are done
  record DoneBelow (n i : ℕ) (s : State) : Type 0 where
    long : n ≤ length s.axis.edges
    done : s.count ≡ 0 → (j : ℕ) → j < i → IsDone s.axis j

  done_next : (n i : ℕ) (s : State) → i < n → DoneBelow n i s → DoneBelow n (i + 1) (step m xs s i)
  done_next n i s h d =
      let v = step-visited n i s d.long h in
      record {
        long = v.long;
        done = λ (e : (step m xs s i).count ≡ 0) (j : ℕ) (l : j < i + 1).
            ⊎_elim (λ (b : j < i). ((step-grown m xs s i).edge j).done (d.done (omega (arith, step_counts s i, e)) j b))
            (λ (b : i ≤ j). let q : i ≡ j = omega arith in subst (IsDone (step m xs s i).axis) q (v.done e)) (lt-or-le j i);
      }

  done_all : (k i n : ℕ) (s : State) → i + k ≡ n → DoneBelow n i s → DoneBelow n n (visits (step m xs) k i s)
  unfolding visits
  done_all zero i n s e d = let q : i ≡ n = omega (arith, e) in subst (λ (x : ℕ). DoneBelow n x s) q d
  done_all (suc k) i n s e d = done_all k (i + 1) n (step m xs s i) (omega (arith, e)) (done_next n i s (omega (arith, e)) d)

  -- the pass, on an axis with a place for each of its edges
  pub all_done : (anchor : Link) (axis : Axis) → axis.len ≤ length axis.edges → (stems_of m xs anchor axis).count ≡ 0
      → (j : ℕ) → j < axis.len → IsDone (stems_of m xs anchor axis).axis j
  unfolding stems_of
  all_done anchor axis l e j h =
      let start : DoneBelow axis.len 0 (begun anchor axis) = record { long = l; done = λ e j b. absurd (omega (arith, b)) } in
      (subst (DoneBelow axis.len axis.len) (steps-are m xs axis.len 0 (begun anchor axis))
      (done_all axis.len 0 axis.len (begun anchor axis) (omega arith) start)).done e j h

-- ---- the call
-- with answer 0 and 0 passed over every edge is done
pub none-passed-over : (axis : Axis) (group : Group) (adjust ttb : Bool) (anchor : Link) (rule : WidthRule) (xs : List ℤ) → axis.len ≤ length axis.edges
    → (align_stem_edges axis group adjust ttb anchor rule xs).answer ≡ 0 → (align_stem_edges axis group adjust ttb anchor rule xs).count ≡ 0
    → (j : ℕ) → j < axis.len → IsDone (align_stem_edges axis group adjust ttb anchor rule xs).axis j
unfolding align_stem_edges
none-passed-over axis group adjust ttb anchor rule xs l a c j h =
    let work = stems_of (mode_of axis group adjust rule) xs anchor axis in
    let z = none-refused (stems 0 None axis) work (λ (s : Stems). s.answer) (λ j. refl) (refusal (stems_tests axis ttb anchor rule xs)) a in
    let out = outcome axis group adjust ttb anchor rule xs z in
    ap (λ (s : Stems). (edge_at s.axis j).flags.done) out ∙ all_done (mode_of axis group adjust rule) xs anchor axis l
    (ap (λ (s : Stems). s.count) (sym out) ∙ c) j h
