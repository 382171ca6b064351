-- Edges that are alike but for their marks are placed alike.
use Rattle.std.specs.Prelude.{None, Some}
use mathlib.Core.Path.{◌≡◌, refl, ap, subst, ◌∙◌}
use mathlib.Core.Bool.{cond, ◌||◌}
use Prim.Native.Nat.{ℕ, zero, suc, ◌+◌, ◌-◌}
use lib.Dec.{eqb}
use lib.IntN.{ℤ}
use Rattle.axis.specs.declared.kinds.Group.{Group}
use Rattle.axis.specs.declared.kinds.Group.TheVariants.{Default, Cjk}
use Rattle.axis.specs.Link.{Link}
use Rattle.axis.specs.declared.kinds.Mark.{Mark}
use Rattle.axis.specs.declared.edge.Axis.{Axis}
use Rattle.axis.specs.Edge.{edge_at}
use Rattle.axis.specs.Limits.{most_pos}
use Rattle.axis.specs.Refusals.{within}
use Rattle.axis.specs.Visits.{visits}
use Rattle.axis.proofs.Alike.{Alike, AlikeAxis, placed_alike, fixed_alike, at-alike, put-alike, alike_len, cond-alike, visits-alike}
use Rattle.place.specs.declared.adjust.LinkDir.TheVariants.{Prev, Next}
use Rattle.place.proofs.Alike.{adjusted-alike}
use Rattle.remaining.specs.declared.kinds.Progress.{Progress}
use Rattle.remaining.specs.declared.kinds.Plan.{Plan}
use Rattle.remaining.specs.declared.kinds.Round.{Round}
use Rattle.remaining.specs.declared.kinds.Round.TheVariants as Rounds
use Rattle.remaining.specs.declared.kinds.Way.{Way}
use Rattle.remaining.specs.declared.kinds.Way.TheVariants as Ways
use Rattle.remaining.specs.Plan.{one_less, stays_plan, serif_plan, is_near, anchor_plan, spaced_plan, latin_between, cjk_between}
use Rattle.remaining.specs.Remaining.{
  State,
  done_before,
  done_from,
  done_behind,
  near_of,
  by_bounds,
  by_anchor,
  by_serif,
  serifs_plan,
  others_plan,
  plan_of,
  fix_at,
  stored,
  carried_out,
}
use Rattle.remaining.specs.Remaining.{visit, visited, pass_of}

-- two states are alike
pub record AlikeState (s t : State) : Type 0 where
  pub axis : AlikeAxis s.axis t.axis
  pub past : s.past ≡ t.past

-- ---- the done edges around an edge, where the same edges are done
module _ (a b : Axis) (done : (i : ℕ) → (edge_at a i).flags.done ≡ (edge_at b i).flags.done) where
  pub before_same : (i : ℕ) → done_before a i ≡ done_before b i
  unfolding done_before
  before_same zero = refl
  before_same (suc k) = λ j. cond (done k j) (Some k) (before_same k j)

  from-same : (n k : ℕ) → done_from a n k ≡ done_from b n k
  unfolding done_from
  from-same zero k = refl
  from-same (suc n) k = λ j. cond (done k j) (Some k) (from-same n (k + 1) j)

  pub behind-same : a.len ≡ b.len → (i : ℕ) → done_behind a i ≡ done_behind b i
  behind-same e i = from-same (a.len - (i + 1)) (i + 1) ∙ ap (λ (n : ℕ). done_from b (n - (i + 1)) (i + 1)) e

-- ---- plans
module _ (a b : Axis) (alike : AlikeAxis a b) where
  at : (i : ℕ) → Alike (edge_at a i) (edge_at b i)
  at i = at-alike a b i alike

  done : (i : ℕ) → (edge_at a i).flags.done ≡ (edge_at b i).flags.done
  done i = λ j. ((at i).same j).flags.done

  before : (i : ℕ) → done_before a i ≡ done_before b i
  before = before_same a b done

  behind : (i : ℕ) → done_behind a i ≡ done_behind b i
  behind = behind-same a b done (alike_len a b alike)

  module _ (past : Progress) (i : ℕ) where
    near_same : (l : Link) → near_of a i l ≡ near_of b i l
    unfolding near_of
    near_same None = refl
    near_same (Some k) = λ j. cond (is_near ((at i).same j) ((at k).same j)) (Some k) None

    bounds-same : (k : ℕ) (l f : Link) → by_bounds a past i k l f ≡ by_bounds b past i k l f
    unfolding by_bounds
    bounds-same k (Some m) (Some f) = λ j. latin_between ((at m).same j) ((at f).same j) ((at i).same j) past
    bounds-same k (Some m) None = λ j. spaced_plan ((at k).same j) ((at i).same j) past
    bounds-same k None f = λ j. spaced_plan ((at k).same j) ((at i).same j) past

    anchor-same : (l : Link) → by_anchor a past i l ≡ by_anchor b past i l
    unfolding by_anchor
    anchor-same None = λ j. anchor_plan ((at i).same j) i past
    anchor-same (Some k) = bounds-same k (done_before a i) (done_behind a i) ∙ λ j. by_bounds b past i k (before i j) (behind i j)

    serif-same : (l : Link) → by_serif a past i l ≡ by_serif b past i l
    unfolding by_serif
    serif-same (Some k) = λ j. serif_plan ((at k).same j) ((at i).same j) Ways.Held past
    serif-same None = anchor-same past.anchor

    serifs-same : (l : Link) → serifs_plan a past i l ≡ serifs_plan b past i l
    unfolding serifs_plan
    serifs-same None = λ j. stays_plan ((at i).same j) past
    serifs-same (Some k) = λ j. serif_plan ((at k).same j) ((at i).same j) Ways.Fixed (one_less past)

    others_same : (l f : Link) → others_plan a past i l f ≡ others_plan b past i l f
    unfolding others_plan
    others_same (Some m) (Some f) = λ j. cjk_between ((at m).same j) ((at f).same j) ((at i).same j) past
    others_same (Some m) None = λ j. serif_plan ((at m).same j) ((at i).same j) Ways.Placed past
    others_same None (Some f) = λ j. serif_plan ((at f).same j) ((at i).same j) Ways.Placed past
    others_same None None = λ j. stays_plan ((at i).same j) past

    plan-same : (round : Round) → plan_of round a past i ≡ plan_of round b past i
    unfolding plan_of
    plan-same Rounds.Latin =
        serif-same (near_of a i (edge_at a i).serif) ∙ ap (by_serif b past i) (near_same (edge_at a i).serif ∙ λ j. near_of b i ((at i).same j).serif)
    plan-same Rounds.Serifs = serifs-same (edge_at a i).serif ∙ λ j. serifs_plan b past i ((at i).same j).serif
    plan-same Rounds.Others = others_same (done_before a i) (done_behind a i) ∙ λ j. others_plan b past i (before i j) (behind i j)

  -- ---- stores
  fixed : (i : ℕ) (p : ℤ) (m : Mark) → AlikeAxis (fix_at a i p m) (fix_at b i p m)
  fixed i p m = put-alike a b i _ _ alike (fixed_alike _ _ p p m m (at i) refl)

  stored-alike : (way : Way) (i : ℕ) (p : ℤ) (m : Mark) → AlikeAxis (stored way a i p m) (stored way b i p m)
  unfolding stored
  stored-alike Ways.Stays i p m = alike
  stored-alike Ways.Placed i p m = put-alike a b i _ _ alike (placed_alike _ _ p p m m (at i) refl)
  stored-alike Ways.Fixed i p m = fixed i p m
  stored-alike Ways.Held i p m = adjusted-alike _ _ (adjusted-alike _ _ (fixed i p m) i Prev) i Next

  carried-alike : (past : Progress) (i : ℕ) (x : Plan) → AlikeState (carried_out a past i x) (carried_out b past i x)
  unfolding carried_out
  carried-alike past i x =
      cond-alike AlikeState (within most_pos x.pos) (within most_pos x.pos) _ _ _ _ refl
      (record { axis = stored-alike x.way i x.pos x.mark; past = refl }) (record { axis = alike; past = refl })

-- ---- visits
visit-alike : (round : Round) (s t : State) (i : ℕ) → AlikeState s t → AlikeState (visit round s i) (visit round t i)
unfolding visit
visit-alike round s t i h =
    cond-alike AlikeState _ _ s _ t _ (λ j. (h.past j).beyond || done s.axis t.axis h.axis i j) h
    (subst (λ (x : State). AlikeState (carried_out s.axis s.past i (plan_of round s.axis s.past i)) x)
    (λ j. carried_out t.axis (h.past j) i ((plan-same s.axis t.axis h.axis s.past i round ∙ λ k. plan_of round t.axis (h.past k) i) j))
    (carried-alike s.axis t.axis h.axis s.past i (plan_of round s.axis s.past i)))

visited-alike : (round : Round) (s t : State) → AlikeState s t → AlikeState (visited round s) (visited round t)
visited-alike round s t h =
    subst (λ (n : ℕ). AlikeState (visited round s) (visits (visit round) n 0 t)) (alike_len s.axis t.axis h.axis)
    (visits-alike AlikeState (visit round) (visit-alike round) s.axis.len 0 s t h)

pub pass-alike : (group : Group) (s t : State) → AlikeState s t → AlikeState (pass_of group s) (pass_of group t)
unfolding pass_of
pass-alike Default s t h = visited-alike Rounds.Latin s t h
pass-alike Cjk s t h =
    let g = visited-alike Rounds.Serifs s t h in
    cond-alike AlikeState _ _ _ _ _ _ (λ j. eqb (g.past j).count 0) g (visited-alike Rounds.Others _ _ g)
