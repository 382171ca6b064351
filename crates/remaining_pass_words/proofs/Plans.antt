-- Which plan is made, by what was found; and that it is the same on every dimension.
use Rattle.std.specs.Prelude.{None, Some}
use mathlib.Core.Path.{◌≡◌, refl, sym, ap, ◌∙◌}
use mathlib.Core.Bool.{cond}
use mathlib.Core.List.{List}
use Prim.Native.Nat.{ℕ, zero, suc, ◌+◌, ◌-◌}
use lib.IntN.{ℤ}
use Rattle.axis.specs.declared.kinds.Dimension.{Dimension}
use Rattle.axis.specs.Link.{Link}
use Rattle.axis.specs.declared.edge.Axis.{Axis}
use Rattle.axis.specs.Edge.{edge_at}
use Rattle.words.specs.Edge.{axis_run, flat_axis}
use Rattle.words_call.specs.Lent.{edges_of}
use Rattle.words_edge.specs.Whole.{axis_in}
use Rattle.remaining.specs.declared.kinds.Progress.{Progress}
use Rattle.remaining.specs.declared.kinds.Round.{Round}
use Rattle.remaining.specs.declared.kinds.Round.TheVariants as Rounds
use Rattle.remaining.specs.declared.kinds.Way.TheVariants as Ways
use Rattle.remaining.specs.Plan.{one_less, stays_plan, serif_plan, anchor_plan, spaced_plan, latin_between, cjk_between}
use Rattle.remaining.specs.Remaining.{done_before, done_from, done_behind, near_of, by_bounds, by_anchor, by_serif, serifs_plan, others_plan, plan_of}

-- ---- by what was found
module _ (axis : Axis) (past : Progress) (i : ℕ) where
  pub bounds-both : (a b k : ℕ) (l f : Link) → l ≡ Some b → f ≡ Some k
      → latin_between (edge_at axis b) (edge_at axis k) (edge_at axis i) past ≡ by_bounds axis past i a l f
  unfolding by_bounds
  bounds-both a b k l f p q = λ j. by_bounds axis past i a (sym p j) (sym q j)

  pub bounds-first : (a b : ℕ) (l f : Link) → l ≡ Some b → f ≡ None → spaced_plan (edge_at axis a) (edge_at axis i) past ≡ by_bounds axis past i a l f
  unfolding by_bounds
  bounds-first a b l f p q = λ j. by_bounds axis past i a (sym p j) (sym q j)

  pub bounds-none : (a : ℕ) (l f : Link) → l ≡ None → spaced_plan (edge_at axis a) (edge_at axis i) past ≡ by_bounds axis past i a l f
  unfolding by_bounds
  bounds-none a l f p = λ j. by_bounds axis past i a (sym p j) f

  pub serif_near : (k : ℕ) (l : Link) → l ≡ Some k → serif_plan (edge_at axis k) (edge_at axis i) Ways.Held past ≡ by_serif axis past i l
  unfolding by_serif
  serif_near k l p = λ j. by_serif axis past i (sym p j)

  pub no-anchor : (l : Link) → l ≡ None → past.anchor ≡ None → anchor_plan (edge_at axis i) i past ≡ by_serif axis past i l
  unfolding by_serif by_anchor
  no-anchor l p q = (λ j. by_anchor axis past i (sym q j)) ∙ (λ j. by_serif axis past i (sym p j))

  pub with-anchor : (a : ℕ) (l : Link) → l ≡ None → past.anchor ≡ Some a
      → by_bounds axis past i a (done_before axis i) (done_behind axis i) ≡ by_serif axis past i l
  unfolding by_serif by_anchor
  with-anchor a l p q = (λ j. by_anchor axis past i (sym q j)) ∙ (λ j. by_serif axis past i (sym p j))

  pub serifs-none : (l : Link) → l ≡ None → stays_plan (edge_at axis i) past ≡ serifs_plan axis past i l
  unfolding serifs_plan
  serifs-none l p = λ j. serifs_plan axis past i (sym p j)

  pub serifs-to : (k : ℕ) (l : Link) → l ≡ Some k → serif_plan (edge_at axis k) (edge_at axis i) Ways.Fixed (one_less past) ≡ serifs_plan axis past i l
  unfolding serifs_plan
  serifs-to k l p = λ j. serifs_plan axis past i (sym p j)

  pub others-both : (b k : ℕ) (l f : Link) → l ≡ Some b → f ≡ Some k
      → cjk_between (edge_at axis b) (edge_at axis k) (edge_at axis i) past ≡ others_plan axis past i l f
  unfolding others_plan
  others-both b k l f p q = λ j. others_plan axis past i (sym p j) (sym q j)

  pub others-first : (b : ℕ) (l f : Link) → l ≡ Some b → f ≡ None
      → serif_plan (edge_at axis b) (edge_at axis i) Ways.Placed past ≡ others_plan axis past i l f
  unfolding others_plan
  others-first b l f p q = λ j. others_plan axis past i (sym p j) (sym q j)

  pub others-last : (k : ℕ) (l f : Link) → l ≡ None → f ≡ Some k
      → serif_plan (edge_at axis k) (edge_at axis i) Ways.Placed past ≡ others_plan axis past i l f
  unfolding others_plan
  others-last k l f p q = λ j. others_plan axis past i (sym p j) (sym q j)

  pub others-none : (l f : Link) → l ≡ None → f ≡ None → stays_plan (edge_at axis i) past ≡ others_plan axis past i l f
  unfolding others_plan
  others-none l f p q = λ j. others_plan axis past i (sym p j) (sym q j)

-- ---- on every dimension
module _ (ws : List ℤ) (d : Dimension) where
  abbrev A : Axis
  A = axis_in ws d

  abbrev B : Axis
  B = edges_of ws

  before_same : (i : ℕ) → done_before A i ≡ done_before B i
  unfolding done_before flat_axis axis_run
  before_same zero = refl
  before_same (suc k) = ap (cond (edge_at B k).flags.done (Some k)) (before_same k)

  from-same : (n k : ℕ) → done_from A n k ≡ done_from B n k
  unfolding done_from flat_axis axis_run
  from-same zero k = refl
  from-same (suc n) k = ap (cond (edge_at B k).flags.done (Some k)) (from-same n (k + 1))

  behind-same : (i : ℕ) → done_behind A i ≡ done_behind B i
  unfolding flat_axis axis_run
  behind-same i = from-same (B.len - (i + 1)) (i + 1)

  module _ (past : Progress) (i : ℕ) where
    near_same : (l : Link) → near_of A i l ≡ near_of B i l
    unfolding near_of flat_axis axis_run
    near_same None = refl
    near_same (Some k) = refl

    bounds-same : (k : ℕ) (l f : Link) → by_bounds A past i k l f ≡ by_bounds B past i k l f
    unfolding by_bounds flat_axis axis_run
    bounds-same k (Some m) (Some f) = refl
    bounds-same k (Some m) None = refl
    bounds-same k None f = refl

    anchor-same : (l : Link) → by_anchor A past i l ≡ by_anchor B past i l
    unfolding by_anchor flat_axis axis_run
    anchor-same None = refl
    anchor-same (Some k) = bounds-same k (done_before A i) (done_behind A i) ∙ λ j. by_bounds B past i k (before_same i j) (behind-same i j)

    serif-same : (l : Link) → by_serif A past i l ≡ by_serif B past i l
    unfolding by_serif flat_axis axis_run
    serif-same (Some k) = refl
    serif-same None = anchor-same past.anchor

    serifs-same : (l : Link) → serifs_plan A past i l ≡ serifs_plan B past i l
    unfolding serifs_plan flat_axis axis_run
    serifs-same None = refl
    serifs-same (Some k) = refl

    others_same : (l f : Link) → others_plan A past i l f ≡ others_plan B past i l f
    unfolding others_plan flat_axis axis_run
    others_same (Some m) (Some f) = refl
    others_same (Some m) None = refl
    others_same None (Some f) = refl
    others_same None None = refl

    pub plan-same : (round : Round) → plan_of round A past i ≡ plan_of round B past i
    unfolding plan_of flat_axis axis_run
    plan-same Rounds.Latin = serif-same (near_of A i (edge_at A i).serif) ∙ ap (by_serif B past i) (near_same (edge_at B i).serif)
    plan-same Rounds.Serifs = serifs-same (edge_at B i).serif
    plan-same Rounds.Others = others_same (done_before A i) (done_behind A i) ∙ λ j. others_plan B past i (before_same i j) (behind-same i j)
