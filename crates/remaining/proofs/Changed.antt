-- What the call changes: position and done of edges below the count, with a mark of remaining edges, and nothing else; a refusal nothing.
use Rattle.std.specs.Prelude.{None, Some}
use mathlib.Core.Path.{◌≡◌, refl, sym, subst}
use mathlib.Core.Bool.{true, ◌||◌}
use Prim.Native.Nat.{ℕ, zero, suc, ◌<◌}
use native.Mathlib.Omega.{arith}
use borrow.Author.Tests.{lt-ltb}
use lib.Dec.{eqb, ltb}
use lib.IntN.{ℤ}
use Rattle.signed.proofs.Choices.{either_way}
use Rattle.refusals.specs.Refusal.{refusal}
use Rattle.axis.specs.declared.kinds.Group.{Group}
use Rattle.axis.specs.declared.kinds.Group.TheVariants.{Default, Cjk}
use Rattle.axis.specs.Link.{Link}
use Rattle.axis.specs.declared.kinds.Mark.{Mark}
use Rattle.axis.specs.declared.kinds.Mark.TheVariants as Marks
use Rattle.axis.specs.declared.edge.Edge.{Edge}
use Rattle.axis.specs.declared.edge.Axis.{Axis}
use Rattle.axis.specs.Edge.{edge_at, put_edge}
use Rattle.axis.specs.Mark.{among}
use Rattle.axis.specs.Limits.{most_pos}
use Rattle.axis.specs.Refusals.{within}
use Rattle.axis.specs.Changes.{place, Only, wherever, OnlyAxis, Changes}
use Rattle.axis.proofs.Only.{position-place, placed-only, fixed-only, named, same-axis, also-put, call-changes}
use Rattle.axis.proofs.Visits.{visits-keep}
use Rattle.place.specs.declared.adjust.LinkDir.{LinkDir}
use Rattle.place.specs.declared.adjust.LinkDir.TheVariants.{Prev, Next}
use Rattle.place.specs.Placing.{is_far, has_passed, neighbour, held_to, bound_by, adjusted}
use Rattle.remaining.specs.declared.kinds.Progress.{Progress}
use Rattle.remaining.specs.declared.kinds.Plan.{Plan}
use Rattle.remaining.specs.declared.kinds.Round.{Round}
use Rattle.remaining.specs.declared.kinds.Round.TheVariants as Rounds
use Rattle.remaining.specs.declared.kinds.Way.{Way}
use Rattle.remaining.specs.declared.kinds.Way.TheVariants as Ways
use Rattle.remaining.specs.Remaining.{
  State,
  state,
  near_of,
  by_bounds,
  by_anchor,
  by_serif,
  serifs_plan,
  others_plan,
  done_before,
  done_behind,
  plan_of,
  place_at,
  fix_at,
  stored,
  carried_out,
  visit,
  visited,
  pass_of,
  begun,
}
use Rattle.remaining.specs.Remaining.{Remaining, remaining, remaining_of, outcome, remaining_tests, align_remaining_edges, remaining_marks}

-- ---- the marks of a plan
-- where it gives a position, its mark is one of the call's
abbrev Marked : Way → Mark → Type 0
Marked Ways.Stays m = Unit {0}
Marked Ways.Placed m = among remaining_marks m ≡ true
Marked Ways.Fixed m = among remaining_marks m ≡ true
Marked Ways.Held m = among remaining_marks m ≡ true

module _ (axis : Axis) (past : Progress) (i : ℕ) where
  abbrev MarkedBy : Plan → Type 0
  MarkedBy plan = Marked plan.way plan.mark

  bounds-marked : (k : ℕ) (l f : Link) → MarkedBy (by_bounds axis past i k l f)
  unfolding by_bounds among
  bounds-marked k (Some m) (Some f) = refl
  bounds-marked k (Some m) None = refl
  bounds-marked k None f = refl

  anchor-marked : (l : Link) → MarkedBy (by_anchor axis past i l)
  unfolding by_anchor among
  anchor-marked None = refl
  anchor-marked (Some k) = bounds-marked k (done_before axis i) (done_behind axis i)

  serif-marked : (l : Link) → MarkedBy (by_serif axis past i l)
  unfolding by_serif among
  serif-marked (Some k) = refl
  serif-marked None = anchor-marked past.anchor

  serifs-marked : (l : Link) → MarkedBy (serifs_plan axis past i l)
  unfolding serifs_plan among
  serifs-marked None = tt
  serifs-marked (Some k) = refl

  others-marked : (l f : Link) → MarkedBy (others_plan axis past i l f)
  unfolding others_plan among
  others-marked (Some m) (Some f) = refl
  others-marked (Some m) None = refl
  others-marked None (Some f) = refl
  others-marked None None = tt

  plan-marked : (round : Round) → MarkedBy (plan_of round axis past i)
  unfolding plan_of
  plan-marked Rounds.Latin = serif-marked (near_of axis i (edge_at axis i).serif)
  plan-marked Rounds.Serifs = serifs-marked (edge_at axis i).serif
  plan-marked Rounds.Others = others-marked (done_before axis i) (done_behind axis i)

-- ---- the stores
module _ (old : Axis) where
  abbrev Kept : Axis → Type 0
  Kept = OnlyAxis (wherever (λ (i : ℕ). ltb i old.len) (place remaining_marks)) old

  put : (axis : Axis) (i : ℕ) (e : Edge) → i < old.len → Kept axis → Only (place remaining_marks) (edge_at axis i) e → Kept (put_edge axis i e)
  put axis i e q h o = also-put _ old axis i e h (named (λ (k : ℕ). ltb k old.len) (place remaining_marks) i (edge_at axis i) e (lt-ltb i old.len q) o)

  place_kept : (axis : Axis) (i : ℕ) (p : ℤ) (m : Mark) → among remaining_marks m ≡ true → i < old.len → Kept axis → Kept (place_at axis i p m)
  place_kept axis i p m t q h = put axis i _ q h (position-place remaining_marks _ _ (placed-only remaining_marks (edge_at axis i) p m t))

  held_kept : (axis : Axis) (g i k : ℕ) (l : Link) → i < old.len → Kept axis → Kept (held_to axis g i k l)
  unfolding held_to among
  held_kept axis g i k None q h = h
  held_kept axis g i k (Some l) q h =
      either_way Kept (is_far (edge_at axis l).pos (edge_at axis g).pos) _ axis (place_kept axis i (edge_at axis k).pos Marks.Bound refl q h) h

  bound-kept : (axis : Axis) (g i : ℕ) (dir : LinkDir) (l : Link) → i < old.len → Kept axis → Kept (bound_by axis g i dir l)
  unfolding bound_by
  bound-kept axis g i dir None q h = h
  bound-kept axis g i dir (Some k) q h =
      either_way Kept (has_passed dir (edge_at axis i).pos (edge_at axis k).pos) _ axis (held_kept axis g i k (edge_at axis i).link q h) h

  adjusted-kept : (axis : Axis) (i : ℕ) (dir : LinkDir) → i < old.len → Kept axis → Kept (adjusted axis i dir)
  unfolding adjusted
  adjusted-kept axis zero dir q h = h
  adjusted-kept axis (suc g) dir q h = bound-kept axis g (suc g) dir (neighbour dir axis (suc g)) q h

  fix-kept : (axis : Axis) (i : ℕ) (p : ℤ) (m : Mark) → among remaining_marks m ≡ true → i < old.len → Kept axis → Kept (fix_at axis i p m)
  fix-kept axis i p m t q h = put axis i _ q h (fixed-only remaining_marks (edge_at axis i) p m t)

  stored-kept : (way : Way) (axis : Axis) (i : ℕ) (p : ℤ) (m : Mark) → Marked way m → i < old.len → Kept axis → Kept (stored way axis i p m)
  unfolding stored
  stored-kept Ways.Stays axis i p m t q h = h
  stored-kept Ways.Placed axis i p m t q h = place_kept axis i p m t q h
  stored-kept Ways.Fixed axis i p m t q h = fix-kept axis i p m t q h
  stored-kept Ways.Held axis i p m t q h = adjusted-kept _ i Next q (adjusted-kept _ i Prev q (fix-kept axis i p m t q h))

  -- ---- the loops
  abbrev KeptBy : State → Type 0
  KeptBy s = Kept s.axis

  visit-kept : (round : Round) (s : State) (i : ℕ) → i < old.len → KeptBy s → KeptBy (visit round s i)
  unfolding visit carried_out
  visit-kept round s i q h =
      let plan = plan_of round s.axis s.past i in
      either_way KeptBy (s.past.beyond || (edge_at s.axis i).flags.done) s _ h
      (either_way KeptBy (within most_pos plan.pos) _ _
      (stored-kept plan.way s.axis i plan.pos plan.mark (plan-marked s.axis s.past i round) q h) h)

  visited-kept : (round : Round) (s : State) → KeptBy s → KeptBy (visited round s)
  visited-kept round s h = visits-keep KeptBy (visit round) old.len (visit-kept round) s.axis.len 0 s (omega (arith, h.len)) h

  pass_kept : (group : Group) (s : State) → KeptBy s → KeptBy (pass_of group s)
  unfolding pass_of
  pass_kept Default s h = visited-kept Rounds.Latin s h
  pass_kept Cjk s h =
      let first = visited Rounds.Serifs s in
      let g = visited-kept Rounds.Serifs s h in
      either_way KeptBy (eqb first.past.count 0) first _ g (visited-kept Rounds.Others first g)

-- ---- the call
pub changed : (axis : Axis) (group : Group) (count : ℕ) (anchor : Link) {r : Remaining} → r ≡ align_remaining_edges axis group count anchor
    → Changes (OnlyAxis (wherever (λ (i : ℕ). ltb i axis.len) (place remaining_marks))) r.answer axis r.axis
unfolding align_remaining_edges
changed axis group count anchor p =
    let Small = OnlyAxis (wherever (λ (i : ℕ). ltb i axis.len) (place remaining_marks)) in
    subst (λ (r : Remaining). Changes Small r.answer axis r.axis) (sym p)
    (call-changes Small (refusal (remaining_tests axis group count anchor)) axis (λ (k : ℕ). remaining None axis k)
    (outcome (remaining_of axis group count anchor))
    (λ (r : Remaining). r.answer) (λ (r : Remaining). r.axis) (λ (k : ℕ). refl) (same-axis _ axis) refl
    (λ e. pass_kept axis group (state axis (begun count anchor)) (same-axis _ axis)))
