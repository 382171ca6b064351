-- What the visits keep: edges stay accepted, as many, and the anchor is one of them.
use Rattle.std.specs.Prelude.{None, Some}
use mathlib.Core.Path.{◌≡◌, refl, ◌∙◌}
use mathlib.Core.Bool.{◌||◌}
use Prim.Native.Nat.{ℕ, zero, suc, ◌<◌}
use native.Mathlib.Omega.{arith}
use lib.Dec.{eqb}
use lib.IntN.{ℤ}
use Rattle.signed.specs.Range.{Between}
use Rattle.signed.proofs.Choices.{either_way, cond_cases}
use Rattle.axis.specs.declared.kinds.Group.{Group}
use Rattle.axis.specs.declared.kinds.Group.TheVariants.{Default, Cjk}
use Rattle.axis.specs.Link.{Link}
use Rattle.axis.specs.declared.kinds.Mark.{Mark}
use Rattle.axis.specs.declared.edge.Axis.{Axis}
use Rattle.axis.specs.Edge.{edge_at}
use Rattle.axis.specs.Limits.{most_pos}
use Rattle.axis.specs.Accepted.{Below, AxisWithin}
use Rattle.axis.specs.Refusals.{within}
use Rattle.axis.specs.Visits.{visits}
use Rattle.axis.proofs.Acceptance.{below-to, within-between}
use Rattle.axis.proofs.Visits.{visits-keep}
use Rattle.zones.proofs.Kept.{put-within}
use Rattle.place.specs.declared.adjust.LinkDir.{LinkDir}
use Rattle.place.specs.declared.adjust.LinkDir.TheVariants.{Prev, Next}
use Rattle.place.specs.Placing.{is_far, has_passed, neighbour, held_to, bound_by, adjusted}
use Rattle.place.proofs.Changed.{adjusted-only}
use Rattle.place.proofs.Neighbours.{neighbour-below}
use Rattle.remaining.specs.declared.kinds.Progress.{Progress}
use Rattle.remaining.specs.declared.kinds.Plan.{Plan}
use Rattle.remaining.specs.declared.kinds.Round.{Round}
use Rattle.remaining.specs.declared.kinds.Round.TheVariants as Rounds
use Rattle.remaining.specs.declared.kinds.Way.{Way}
use Rattle.remaining.specs.declared.kinds.Way.TheVariants as Ways
use Rattle.remaining.specs.Remaining.{
  State,
  state,
  near_of,
  by_bounds,
  by_anchor,
  by_serif,
  serifs_plan,
  others_plan,
  done_before,
  done_behind,
  plan_of,
  fix_at,
  stored,
  carried_out,
  visit,
  visited,
  pass_of,
  begun,
  remaining_of,
}

-- ---- the stores
-- an edge that takes its neighbour's position
module _ (axis : Axis) (w : AxisWithin most_pos axis) where
  held-within : (h i k : ℕ) (l : Link) → i < axis.len → k < axis.len → AxisWithin most_pos (held_to axis h i k l)
  unfolding held_to
  held-within h i k None a b = w
  held-within h i k (Some l) a b =
      let e = w.edge i a in
      either_way (AxisWithin most_pos) (is_far (edge_at axis l).pos (edge_at axis h).pos) _ axis
      (put-within most_pos i axis _ w (record { opos = e.opos; pos = (w.edge k b).pos; blue = e.blue; link = e.link; serif = e.serif })) w

  bound-within : (h i : ℕ) (dir : LinkDir) (l : Link) → i < axis.len → Below axis.len l → AxisWithin most_pos (bound_by axis h i dir l)
  unfolding bound_by
  bound-within h i dir None a b = w
  bound-within h i dir (Some k) a b =
      either_way (AxisWithin most_pos) (has_passed dir (edge_at axis i).pos (edge_at axis k).pos) _ axis
      (held-within h i k (edge_at axis i).link a (b.at k refl)) w

  pub adjusted-within : (i : ℕ) (dir : LinkDir) → i < axis.len → AxisWithin most_pos (adjusted axis i dir)
  unfolding adjusted
  adjusted-within zero dir a = w
  adjusted-within (suc h) dir a = bound-within h (suc h) dir (neighbour dir axis (suc h)) a (neighbour-below dir axis (suc h) a)

  -- one that is given a position
  pub fixed-within : (i : ℕ) (p : ℤ) (m : Mark) → i < axis.len → Between most_pos most_pos p → AxisWithin most_pos (fix_at axis i p m)
  fixed-within i p m a h =
      let e = w.edge i a in put-within most_pos i axis _ w (record { opos = e.opos; pos = h; blue = e.blue; link = e.link; serif = e.serif })

-- one that is given a position and then held
held_both : (axis : Axis) → AxisWithin most_pos axis → (i : ℕ) → i < axis.len → AxisWithin most_pos (adjusted (adjusted axis i Prev) i Next)
held_both axis w i a =
    let one = adjusted axis i Prev in
    adjusted-within one (adjusted-within axis w i Prev a) i Next (omega (arith, (adjusted-only axis i Prev).len))

module _ (axis : Axis) (w : AxisWithin most_pos axis) where
  pub stored-within : (way : Way) (i : ℕ) (p : ℤ) (m : Mark) → i < axis.len → Between most_pos most_pos p → AxisWithin most_pos (stored way axis i p m)
  unfolding stored
  stored-within Ways.Stays i p m a h = w
  stored-within Ways.Placed i p m a h =
      let e = w.edge i a in put-within most_pos i axis _ w (record { opos = e.opos; pos = h; blue = e.blue; link = e.link; serif = e.serif })
  stored-within Ways.Fixed i p m a h = fixed-within axis w i p m a h
  stored-within Ways.Held i p m a h = held_both (fix_at axis i p m) (fixed-within axis w i p m a h) i a

-- as many edges
pub stored-len : (way : Way) (axis : Axis) (i : ℕ) (p : ℤ) (m : Mark) → (stored way axis i p m).len ≡ axis.len
unfolding stored
stored-len Ways.Stays axis i p m = refl
stored-len Ways.Placed axis i p m = refl
stored-len Ways.Fixed axis i p m = refl
stored-len Ways.Held axis i p m = (adjusted-only (adjusted (fix_at axis i p m) i Prev) i Next).len ∙ (adjusted-only (fix_at axis i p m) i Prev).len

-- ---- the anchor
module _ (axis : Axis) (past : Progress) (i n : ℕ) (a : i < n) (b : Below n past.anchor) where
  abbrev Anchored : Plan → Type 0
  Anchored plan = Below n plan.next.anchor

  bounds-anchored : (k : ℕ) (l f : Link) → Anchored (by_bounds axis past i k l f)
  unfolding by_bounds
  bounds-anchored k (Some m) (Some f) = b
  bounds-anchored k (Some m) None = b
  bounds-anchored k None f = b

  anchor-anchored : (l : Link) → Anchored (by_anchor axis past i l)
  unfolding by_anchor
  anchor-anchored None = below-to n i a
  anchor-anchored (Some k) = bounds-anchored k (done_before axis i) (done_behind axis i)

  serif-anchored : (l : Link) → Anchored (by_serif axis past i l)
  unfolding by_serif
  serif-anchored (Some k) = b
  serif-anchored None = anchor-anchored past.anchor

  serifs-anchored : (l : Link) → Anchored (serifs_plan axis past i l)
  unfolding serifs_plan
  serifs-anchored None = b
  serifs-anchored (Some k) = b

  others-anchored : (l f : Link) → Anchored (others_plan axis past i l f)
  unfolding others_plan
  others-anchored (Some m) (Some f) = b
  others-anchored (Some m) None = b
  others-anchored None (Some f) = b
  others-anchored None None = b

  pub plan-anchored : (round : Round) → Anchored (plan_of round axis past i)
  unfolding plan_of
  plan-anchored Rounds.Latin = serif-anchored (near_of axis i (edge_at axis i).serif)
  plan-anchored Rounds.Serifs = serifs-anchored (edge_at axis i).serif
  plan-anchored Rounds.Others = others-anchored (done_before axis i) (done_behind axis i)

-- ---- a visit
-- a state of n edges
pub record Sound (n : ℕ) (s : State) : Type 0 where
  pub len : s.axis.len ≡ n
  pub axis : AxisWithin most_pos s.axis
  pub anchor : Below n s.past.anchor

carried-sound : (n i : ℕ) (axis : Axis) (past : Progress) (plan : Plan) → i < n → Sound n (state axis past) → Below n plan.next.anchor
    → Sound n (carried_out axis past i plan)
unfolding carried_out
carried-sound n i axis past plan a h b =
    cond_cases (Sound n) (within most_pos plan.pos) _ _
    (λ t. record {
      len = stored-len plan.way axis i plan.pos plan.mark ∙ h.len;
      axis = stored-within axis h.axis plan.way i plan.pos plan.mark (omega (arith, h.len)) (within-between most_pos plan.pos t);
      anchor = b;
    })
    (λ t. record { len = h.len; axis = h.axis; anchor = h.anchor })

pub visit-sound : (round : Round) (n i : ℕ) (s : State) → i < n → Sound n s → Sound n (visit round s i)
unfolding visit
visit-sound round n i s a h =
    either_way (Sound n) (s.past.beyond || (edge_at s.axis i).flags.done) s _ h
    (carried-sound n i s.axis s.past (plan_of round s.axis s.past i) a h (plan-anchored s.axis s.past i n a h.anchor round))

-- ---- the loops
pub visited-sound : (round : Round) (n : ℕ) (s : State) → Sound n s → Sound n (visited round s)
visited-sound round n s h = visits-keep (Sound n) (visit round) n (λ t i a g. visit-sound round n i t a g) s.axis.len 0 s (omega (arith, h.len)) h

pub pass-sound : (group : Group) (n : ℕ) (s : State) → Sound n s → Sound n (pass_of group s)
unfolding pass_of
pass-sound Default n s h = visited-sound Rounds.Latin n s h
pass-sound Cjk n s h =
    let first = visited Rounds.Serifs s in
    let g = visited-sound Rounds.Serifs n s h in
    either_way (Sound n) (eqb first.past.count 0) first _ g (visited-sound Rounds.Others n first g)

-- what the loops hand on is accepted again
pub handed : (axis : Axis) (group : Group) (count : ℕ) (anchor : Link) → AxisWithin most_pos axis → Below axis.len anchor
    → AxisWithin most_pos (remaining_of axis group count anchor).axis
handed axis group count anchor w b = (pass-sound group axis.len (state axis (begun count anchor)) (record { len = refl; axis = w; anchor = b })).axis
