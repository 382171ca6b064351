-- The pass, and where it is done.
use Rattle.std.specs.Prelude.{None}
use mathlib.Core.Path.{◌≡◌, refl, sym, ap, subst, ◌∙◌}
use mathlib.Core.Bool.{Bool, true, false, cond}
use mathlib.Core.List.{List}
use Prim.Native.Nat.{ℕ, ◌+◌, ◌≤◌, ◌<◌}
use native.Mathlib.Omega.{arith}
use lib.IntN.{ℤ}
use Rattle.fixed.specs.declared.width.WidthRule.{WidthRule}
use Rattle.axis.specs.declared.kinds.Dimension.{Dimension}
use Rattle.axis.specs.declared.kinds.Group.{Group}
use Rattle.axis.specs.Link.{Link}
use Rattle.axis.specs.declared.edge.Axis.{Axis}
use Rattle.axis.specs.Limits.{most_pos}
use Rattle.axis.specs.Accepted.{AxisWithin}
use Rattle.place.specs.Steps.{most_width, most_reach}
use Rattle.words.specs.Edge.{axis_run, flat_axis, edges_in}
use Rattle.zones.specs.Zones.{State}
use Rattle.zones.specs.Steps.{step}
use Rattle.zones.proofs.Kept.{within_more}
use Rattle.zones.proofs.Straight.{steps-are}
use Rattle.zones.specs.Pass.{anchored, outcome, state_of, blues_of}
use Rattle.zones.proofs.TurnsPass.{grown}
use Rattle.zones.specs.Call.{has_blues}
use Rattle.words_call.specs.Lent.{edges_of}
use Rattle.words_edge.specs.Whole.{Whole, axis_in}
use Rattle.words_edge.specs.Pass.{Visited}
use Rattle.words_edge.proofs.Wholes.{edges-len}
use Rattle.words_edge.proofs.Passes.{Passing, pass-starts, pass-next, pass-ends}
use Rattle.zones_words.specs.Blues.{Zoned, ZonedWhere}
use Rattle.zones_words.proofs.Bounds.{step-within}

-- what a visit needs of the edges, whatever the anchor
abbrev pub Reached : ℕ → Axis → Link → Type 0
Reached i axis anchor = AxisWithin (grown i) axis

module _ (rule : WidthRule) (xs : List ℤ) where
  abbrev pub Zoning : ℕ → List ℤ → List ℤ → Link → ℕ → Type 0
  Zoning n ws₀ ws anchor i = Passing state_of (step rule xs) Reached n ws₀ None ws anchor i

  pub zoning-starts : {n : ℕ} {ws : List ℤ} → Whole ws → n ≡ edges_in ws → AxisWithin most_pos (edges_of ws) → Zoning n ws ws None 0
  zoning-starts w e h = pass-starts state_of (step rule xs) Reached w e h

  module _ {n : ℕ} {ws₀ ws : List ℤ} {anchor : Link} {i : ℕ} (p : Zoning n ws₀ ws anchor i) where
    pub zoning-ready : i < n → Whole ws × (i < edges_in ws) × AxisWithin most_reach (edges_of ws)
    zoning-ready h = (p.whole, omega (arith, p.count, h), within_more (grown i) most_reach (edges_of ws) (omega (arith, p.few, h)) p.kept)

    pub zoning-next : {ws' : List ℤ} {r : Link} → i < n → Visited state_of (step rule xs) i anchor r ws ws' → Zoning n ws₀ ws' r (i + 1)
    zoning-next {ws'} {r} h v =
        pass-next state_of (step rule xs) Reached p h v
        (within_more (grown i + most_width) (grown (i + 1)) (edges_of ws') (omega arith)
        (subst (λ (s : State). AxisWithin (grown i + most_width) s.axis) (v.state _)
        (step-within rule xs (grown i) (edges_in ws) i (edges_of ws) anchor p.kept (edges-len ws) (omega (arith, p.count, h)) (omega arith))))

    pub zoning-ends : n ≤ i → Zoned rule xs anchor ws₀ ws
    unfolding blues_of
    zoning-ends h = record {
      whole = p.whole;
      long = p.long;
      pass =
          λ (d : Dimension). ap outcome (pass-ends state_of (step rule xs) Reached p h d
          ∙ steps-are rule xs (axis_in ws₀ d).len 0 (state_of (axis_in ws₀ d) None));
    }

-- ---- where the group has zones
dim-in : (ws : List ℤ) (d : Dimension) → (axis_in ws d).dim ≡ d
unfolding flat_axis axis_run
dim-in ws d = refl

module _ (dim : Dimension) (group : Group) (rule : WidthRule) (xs ws : List ℤ) {t : Bool} (e : t ≡ has_blues group dim) where
  -- by the test of the group
  tested : {v : Bool} → t ≡ v → has_blues group (axis_in ws dim).dim ≡ v
  tested q = ap (has_blues group) (dim-in ws dim) ∙ sym e ∙ q

  pub where-zoned : {r : Link} {ws' : List ℤ} → t ≡ true → Zoned rule xs r ws ws' → ZonedWhere dim group rule xs r ws ws'
  where-zoned q z = record {
    whole = z.whole;
    long = z.long;
    pass = z.pass dim ∙ ap (λ (x : Bool). cond x (blues_of rule xs (axis_in ws dim)) (anchored (axis_in ws dim) None 0)) (sym (tested q));
  }

  pub where-none : t ≡ false → Whole ws → ZonedWhere dim group rule xs None ws ws
  where-none q w = record {
    whole = w;
    long = refl;
    pass = ap (λ (x : Bool). cond x (blues_of rule xs (axis_in ws dim)) (anchored (axis_in ws dim) None 0)) (sym (tested q));
  }
