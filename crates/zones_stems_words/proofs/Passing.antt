-- Blue zones and then stems, on edges that no test of the call refuses: what the stem pass may use behind the blue zones.
use mathlib.Core.Path.{◌≡◌, sym, subst}
use mathlib.Core.Bool.{Bool, true, false}
use mathlib.Core.List.{List}
use lib.IntN.{ℤ}
use Rattle.refusals.proofs.Tests.{AllHold}
use Rattle.fixed.specs.declared.width.WidthRule.{WidthRule}
use Rattle.fixed.specs.Width.{rule_holds}
use Rattle.axis.specs.declared.kinds.Dimension.{Dimension}
use Rattle.axis.specs.declared.kinds.Group.{Group}
use Rattle.axis.specs.Link.{Link}
use Rattle.axis.specs.Limits.{most_pos}
use Rattle.axis.specs.Accepted.{Below, AxisWithin}
use Rattle.axis.proofs.Accepting.{edges-within}
use Rattle.zones.specs.Settled.{Settled}
use Rattle.zones.specs.Answer.{Anchored}
use Rattle.stems.specs.StepsPass.{SettledWithout}
use Rattle.zones_stems.specs.Joined.{joined_tests}
use Rattle.zones_stems.proofs.Rows.{edges, zoned-edges, zoned-anchor}
use Rattle.zones_stems.proofs.Unreached.{zoned-settled}
use Rattle.words.specs.Edge.{axis_run, flat_axis, edges_in}
use Rattle.words_call.specs.Lent.{edges_of}
use Rattle.words_edge.specs.Whole.{Whole, axis_in}
use Rattle.zones_words.specs.Blues.{ZonedWhere}

module _ (ws : List ℤ) (d : Dimension) (g : Group) (adjust ttb : Bool) (width : WidthRule) (xs : List ℤ)
    (hold : AllHold (joined_tests (axis_in ws d) g ttb width xs)) where
  -- the blue zones
  pub blues-allowed : Whole ws → (rule_holds width xs ≡ true) × (Whole ws × AxisWithin most_pos (edges_of ws))
  unfolding flat_axis axis_run
  blues-allowed w = let a = edges-within _ (edges (axis_in ws d) g adjust ttb width xs hold) in (hold.1.1.0, (w, record { few = a.few; edge = a.edge }))

  -- the stems
  pub stems-allowed : {start : Link} {w1 : List ℤ} → ZonedWhere d g width xs start ws w1
      → (rule_holds width xs ≡ true) × (Whole w1 × AxisWithin most_pos (edges_of w1) × Below (edges_in w1) start × SettledWithout false (edges_in w1) (edges_of w1))
  unfolding flat_axis axis_run
  stems-allowed z =
      let found = sym z.pass in
      let a = subst (λ (x : Anchored). AxisWithin most_pos x.axis) found (edges-within _ (zoned-edges (axis_in ws d) g adjust ttb width xs hold)) in
      let s = subst (λ (x : Anchored). Settled x.axis.len x.axis) found (zoned-settled (axis_in ws d) g adjust ttb width xs hold) in (
        hold.1.1.0,
        (
          z.whole,
          record { few = a.few; edge = a.edge },
          subst (λ (x : Anchored). Below x.axis.len x.anchor) found (zoned-anchor (axis_in ws d) g adjust ttb width xs hold),
          record { settled = λ e. record { bare = s.bare } },
        ),
      )
