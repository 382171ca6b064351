-- The pass: what is left of the visits gives the whole.
use Rattle.std.specs.Prelude.{None}
use mathlib.Core.Path.{◌≡◌, refl, sym, ap, subst, ◌∙◌}
use mathlib.Core.Bool.{Bool}
use mathlib.Core.List.{List}
use Prim.Native.Nat.{ℕ, ◌+◌, ◌≤◌, ◌<◌}
use native.Mathlib.Omega.{arith}
use lib.IntN.{ℤ, pos}
use Rattle.axis.specs.declared.kinds.Dimension.{Dimension}
use Rattle.axis.specs.declared.kinds.Dimension.TheVariants.{Horizontal}
use Rattle.axis.specs.Link.{Link}
use Rattle.axis.specs.declared.edge.Axis.{Axis}
use Rattle.axis.specs.Limits.{most_edges, most_pos}
use Rattle.axis.specs.Visits.{visits}
use Rattle.axis.specs.Accepted.{Below, AxisWithin}
use Rattle.zones.specs.Settled.{Settled}
use Rattle.zones.proofs.Kept.{within_more}
use Rattle.words.specs.Edge.{axis_run, flat_axis, edges_in}
use Rattle.stems.specs.declared.kinds.Mode.{Mode}
use Rattle.stems.specs.Handed.{most_fitted}
use Rattle.stems.specs.Stems.{State, begun, visit, stems_of}
use Rattle.stems.specs.StepsPass.{step, SettledWithout}
use Rattle.stems.proofs.Kept.{grown, StateSound, begun-sound, turn-sound, pass-keeps}
use Rattle.stems.proofs.Settling.{step-settled}
use Rattle.stems.proofs.Straight.{steps-are}
use Rattle.words_call.specs.Lent.{edges_of}
use Rattle.words_edge.specs.Whole.{Whole, axis_in}
use Rattle.words_edge.specs.Pass.{Visited}
use Rattle.words_edge.proofs.Passes.{Passing, pass-starts, pass-next, pass-ends}
use Rattle.stems_words.specs.declared.pass.Passed.{Passed}
use Rattle.stems_words.specs.declared.visit.Progress.{Progress}
use Rattle.stems_words.specs.Stems.{state_of, ReadyVisit, StemsPassed}

-- what the visits start from
abbrev pub nothing_yet : Link → Progress
nothing_yet start = record { count = 0; anchor = start; trail = record { last = None; delta = pos 0 } }

-- what holds before the visit of edge i of n: the state is sound, and, without the fallback, the edges are settled
pub record VisitSound (fallback : Bool) (n i : ℕ) (axis : Axis) (p : Progress) : Type 0 where
  pub state : StateSound (grown i) n i (state_of axis p)
  pub without : SettledWithout fallback n axis

module _ (fallback : Bool) (m : Mode) (xs : List ℤ) (start : Link) where
  -- i of n edges are visited
  abbrev pub Aligning : ℕ → List ℤ → List ℤ → Progress → ℕ → Type 0
  Aligning n ws₀ ws p i = Passing state_of (step m xs) (VisitSound fallback n) n ws₀ (nothing_yet start) ws p i

  pub aligning-starts : {ws : List ℤ} → Whole ws → AxisWithin most_pos (edges_of ws) → Below (edges_in ws) start
      → SettledWithout fallback (edges_in ws) (edges_of ws)
      → Aligning (edges_in ws) ws ws (nothing_yet start) 0
  unfolding flat_axis axis_run
  aligning-starts {ws} w h b f =
      pass-starts state_of (step m xs) (VisitSound fallback (edges_in ws)) w refl (record { state = begun-sound start (edges_of ws) h b; without = f })

  module _ {n : ℕ} {ws₀ ws : List ℤ} {p : Progress} {i : ℕ} (g : Aligning n ws₀ ws p i) where
    -- what the next visit may use
    pub aligning-ready : i < n → ReadyVisit fallback ws p i
    aligning-ready q =
        let s = g.kept.state in
        record {
          whole = g.whole;
          below = omega (arith, g.count, q);
          axis = within_more (grown i) most_fitted (edges_of ws) (omega (arith, g.few, q)) s.axis-in;
          count = s.count_in;
          anchor = record { at = λ (k : ℕ) e. omega (arith, s.anchor_in.at k e, g.count) };
          last = s.trail_in.last;
          delta = s.trail_in.delta;
          without = record { settled = λ f. subst (λ (k : ℕ). Settled k (edges_of ws)) (sym g.count) (g.kept.without.settled f) };
        }

    pub aligning-next : {ws' : List ℤ} {r : Progress} → i < n → Visited state_of (step m xs) i p r ws ws' → Aligning n ws₀ ws' r (i + 1)
    aligning-next h v =
        pass-next state_of (step m xs) (VisitSound fallback n) g h v
        (record {
          state = turn-sound n i m xs _ _ g.few h (v.state _) g.kept.state;
          without = record { settled = λ f. subst (λ (s : State). Settled n s.axis) (v.state _) (step-settled m xs n _ i (g.kept.without.settled f)) };
        })

    pub aligning-ends : n ≤ i → StemsPassed m xs start (record { count = p.count; anchor = p.anchor }) ws₀ ws
    unfolding stems_of
    aligning-ends h = record {
      words = record { whole = g.whole; long = g.long; table = λ (d : Dimension). ap (λ (s : State). s.axis) (whole-pass d) };
      count = λ (d : Dimension). ap (λ (s : State). s.count) (whole-pass d);
      anchor = λ (d : Dimension). ap (λ (s : State). s.anchor) (whole-pass d);
    }
      where
        whole-pass : (d : Dimension) → state_of (axis_in ws d) p ≡ visits (visit m xs) (axis_in ws₀ d).len 0 (begun start (axis_in ws₀ d))
        whole-pass d = pass-ends state_of (step m xs) (VisitSound fallback n) g h d ∙ steps-are m xs (axis_in ws₀ d).len 0 (begun start (axis_in ws₀ d))

-- no more edges are counted than a table holds
pub passed-few : {m : Mode} {xs : List ℤ} {start : Link} {p : Passed} {ws now : List ℤ} → Whole ws → AxisWithin most_pos (edges_of ws) → Below (edges_in ws) start
    → StemsPassed m xs start p ws now → p.count ≤ most_edges
unfolding flat_axis axis_run
passed-few {m} {xs} {start} {p} {ws} w h b s = omega (arith, s.count Horizontal, (pass-keeps m xs start (edges_of ws) h b).counts, w.few)
