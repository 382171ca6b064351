-- Blue zones and stems, the row's first step: what its passes may use, what they come to, and the row behind them.
use Rattle.std.specs.Prelude.{None}
use mathlib.Core.Path.{◌≡◌, refl, sym, ap, subst, ◌∙◌}
use mathlib.Core.Bool.{true, false}
use mathlib.Core.List.{List}
use Prim.Native.Nat.{ℕ, ◌≤◌}
use native.Mathlib.Omega.{arith}
use lib.ListN.{length}
use lib.IntN.{ℤ}
use Rattle.refusals.specs.Refusal.{refusal, answered}
use Rattle.refusals.proofs.Tests.{AllHold, all_hold}
use Rattle.fixed.specs.Width.{rule_holds}
use Rattle.axis.specs.declared.kinds.Dimension.TheVariants.{Horizontal}
use Rattle.axis.specs.Link.{Link}
use Rattle.axis.specs.declared.edge.Axis.{Axis}
use Rattle.axis.specs.Accepted.{Below, AxisWithin}
use Rattle.axis.specs.Handed.{EdgesAccepted}
use Rattle.axis.specs.Limits.{most_edges, most_pos}
use Rattle.axis.specs.Refusals.{edges_indices, edges_numbers}
use Rattle.zones.specs.Call.{blues_where}
use Rattle.stems.specs.declared.kinds.Mode.{Mode}
use Rattle.stems.specs.Answer.{Stems}
use Rattle.stems.specs.Stems.{stems, stems_of, mode_of}
use Rattle.stems.specs.StepsPass.{SettledWithout}
use Rattle.stems.proofs.Kept.{pass-keeps}
use Rattle.zones_stems.specs.Joined.{joined_tests, align_blues_and_stems}
use Rattle.zones_stems.proofs.Rows.{passes}
use Rattle.zones_stems.proofs.Changed as JoinedChanged
use Rattle.words.specs.Edge.{axis_run, flat_axis, edges_in, edges_over}
use Rattle.words_call.specs.Lent.{edges_of}
use Rattle.words_edge.specs.Whole.{Whole, axis_in}
use Rattle.words_edge.proofs.Became.{as_many, axis-over}
use Rattle.zones_words.specs.Blues.{ZonedWhere}
use Rattle.stems_words.specs.declared.pass.Passed.{Passed}
use Rattle.stems_words.specs.Stems.{StemsPassed}
use Rattle.stems_words.proofs.Passes.{passed-few}
use Rattle.zones_stems_words.proofs.Passing as Passing
use Rattle.fit.specs.declared.numbers.Numbers.{Numbers}
use Rattle.fit.specs.Answer.{FittedEdges}
use Rattle.fit.specs.Edges.{stopped, stems_on, then_m, fit_edges}
use Rattle.fit_edges_words.specs.Row.{Kin, Begun, Ready, Joined, Went}
use Rattle.fit_edges_words.proofs.Kin.{kin-only, accepted-loose, loose-kin}
use Rattle.fit_edges_words.proofs.Steps.{went_on}

module _ (n : Numbers) (xs : List ℤ) {ws : List ℤ} (g : Begun n xs ws) where
  abbrev A : Axis
  A = axis_in ws n.dim

  abbrev mode : Mode
  mode = record { dim = n.dim; group = n.group; stem_adjust = n.stem_adjust; rule = n.rule }

  hold : AllHold (joined_tests A n.group false n.rule xs)
  hold = all_hold (joined_tests A n.group false n.rule xs) refl g.tests

  pub blues-ready : (rule_holds n.rule xs ≡ true) × (Whole ws × AxisWithin most_pos (edges_of ws))
  blues-ready = Passing.blues-allowed ws n.dim n.group n.stem_adjust false n.rule xs hold g.whole

  -- the call is the stem pass behind the blue zones
  call-is : stems_on n xs ws ≡ stems_of mode xs (blues_where A n.group n.rule xs).anchor (blues_where A n.group n.rule xs).axis
  unfolding flat_axis axis_run
  call-is =
      passes A n.group n.stem_adjust false n.rule xs
      ∙ ap (λ (k : ℕ). answered k (stems 0 None A)
      (stems_of mode xs (blues_where A n.group n.rule xs).anchor (blues_where A n.group n.rule xs).axis)) g.tests

  module _ {start : Link} {w1 : List ℤ} (z : ZonedWhere n.dim n.group n.rule xs start ws w1) where
    pub stems-ready : (rule_holds n.rule xs ≡ true)
        × (Whole w1 × AxisWithin most_pos (edges_of w1) × Below (edges_in w1) start × SettledWithout false (edges_in w1) (edges_of w1))
    stems-ready = Passing.stems-allowed ws n.dim n.group n.stem_adjust false n.rule xs hold z

    module _ {p : Passed} {w2 : List ℤ} (b : StemsPassed mode xs start p w1 w2) where
      same : stems_of mode xs start (axis_in w1 n.dim) ≡ stems_on n xs ws
      same = (λ j. stems_of mode xs (z.pass j).anchor (z.pass j).axis) ∙ sym call-is

      long : length w2 ≡ length ws
      long = b.words.long ∙ z.long

      axis-is : axis_in w2 n.dim ≡ (stems_on n xs ws).axis
      axis-is = b.words.table n.dim ∙ ap (λ (s : Stems). s.axis) same

      kin : Kin (edges_of ws) (edges_of w2)
      unfolding flat_axis axis_run
      kin =
          let k = subst (Kin A) (sym axis-is) (kin-only (JoinedChanged.changed A n.group n.stem_adjust false n.rule xs refl).only) in
          record { len = k.len; edge = k.edge }

      anchored : Below (edges_in w2) p.anchor
      unfolding flat_axis axis_run
      anchored =
          let r = stems-ready.1 in
          subst (λ (k : ℕ). Below k p.anchor) (sym (as_many w1 w2 b.words.long))
          (subst (Below (edges_in w1)) (sym (b.anchor Horizontal)) (pass-keeps mode xs start (edges_of w1) r.1 r.2).anchors)

      pub joined_is : Joined n xs p ws w2
      joined_is = record {
        whole = b.words.whole;
        long = long;
        words = axis-over ws w2 n.dim g.whole b.words.whole long axis-is;
        count = b.count n.dim ∙ ap (λ (s : Stems). s.count) same;
        anchor = b.anchor n.dim ∙ ap (λ (s : Stems). s.anchor) same;
        few = let r = stems-ready.1 in passed-few r.0 r.1 r.2 b;
        anchored = anchored;
        kin = kin;
      }

  -- ---- the row behind it
  module _ {p : Passed} {w1 : List ℤ} (j : Joined n xs p ws w1) where
    accepted : EdgesAccepted (edges_of ws)
    unfolding edges_indices edges_numbers flat_axis axis_run
    accepted = let indexed = hold.1.1.1.1 in record { short = hold.0; indexed = indexed.0; in_range = indexed.1.0 }

    pub joined-behind : Ready n p.count p.anchor w1
    joined-behind =
        record { whole = j.whole; loose = loose-kin j.kin (accepted-loose accepted); few = j.few; anchored = j.anchored; least = g.least }

    answered-0 : (stems_on n xs ws).answer ≡ 0
    unfolding stems_of
    answered-0 = ap (λ (s : Stems). s.answer) call-is

    row : fit_edges n xs ws ≡ then_m n p.count p.anchor w1
    unfolding fit_edges
    row =
        ap (λ (k : ℕ). answered k (stopped ws) (then_m n (stems_on n xs ws).count (stems_on n xs ws).anchor (edges_over ws (stems_on n xs ws).axis))) answered-0
        ∙ (λ i. then_m n (sym j.count i) (sym j.anchor i) (sym j.words i))

    pub row_goes : {r : FittedEdges} {w2 : List ℤ} → Went (then_m n p.count p.anchor w1) r w1 w2 → Went (fit_edges n xs ws) r ws w2
    row_goes w = went_on row j.long j.kin w
