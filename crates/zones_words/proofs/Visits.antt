-- The visit of an edge, by what the code has read.
use Rattle.std.specs.Prelude.{None, Some}
use mathlib.Core.Path.{◌≡◌, refl, sym, ap, subst, ◌∙◌}
use mathlib.Core.Bool.{Bool, true, false, cond}
use mathlib.Core.List.{List}
use Prim.Native.Nat.{ℕ, ◌<◌}
use native.Mathlib.Omega.{arith}
use lib.IntN.{ℤ}
use Rattle.signed.specs.Range.{Between}
use Rattle.fixed.specs.declared.width.WidthRule.{WidthRule}
use Rattle.axis.specs.Link.{Link}
use Rattle.axis.specs.Link.{Blue}
use Rattle.axis.specs.declared.kinds.Dimension.{Dimension}
use Rattle.axis.specs.declared.edge.Edge.{Edge}
use Rattle.axis.specs.declared.edge.Axis.{Axis}
use Rattle.axis.specs.Link.{index_or}
use Rattle.axis.specs.Edge.{edge_at, has_blue}
use Rattle.axis.specs.Limits.{most_units}
use Rattle.axis.specs.Accepted.{AxisWithin}
use Rattle.place.specs.Steps.{most_reach}
use Rattle.words.specs.Edge.{edges_in}
use Rattle.zones.specs.Zones.{on_zone, State, anchor_first}
use Rattle.zones.specs.Steps.{zone_of, link_at, by_zone, step_by, step}
use Rattle.zones.proofs.Kept.{link-in, choice-in, zone-at}
use Rattle.zones.proofs.Turns.{step-done}
use Rattle.zones.specs.Pass.{state_of}
use Rattle.words_call.specs.Lent.{edges_of}
use Rattle.words_edge.specs.Whole.{Whole, axis_in, Became, reduced}
use Rattle.words_edge.specs.Pass.{Visited}
use Rattle.words_edge.proofs.Wholes.{edges-len, read-in}
use Rattle.words_edge.proofs.Became.{below_in}
use Rattle.zones_words.specs.Blues.{skipping, zoning, linking}
use Rattle.zones_words.proofs.Bounds.{skip-within, zone-within}

-- ---- the edge
module _ (rule : WidthRule) (xs ws : List ℤ) (anchor : Link) (i : ℕ) {edge : Edge} (e : edge ≡ reduced (edge_at (edges_of ws) i)) where
  -- it is done
  pub visited-done : Whole ws → edge.flags.done ≡ true → Visited state_of (step rule xs) i anchor anchor ws ws
  visited-done w t = record {
    whole = w;
    long = refl;
    state = λ (d : Dimension). step-done rule xs (axis_in ws d) anchor i (ap (λ (x : Edge). x.flags.done) (sym (read-in ws i e d)) ∙ t);
  }

-- its link, or itself, is an edge
pub link-below : (ws : List ℤ) (i k : ℕ) {edge : Edge} → edge ≡ reduced (edge_at (edges_of ws) i) → i < edges_in ws → AxisWithin most_reach (edges_of ws)
    → k ≡ index_or i edge.link
    → k < edges_in ws
link-below ws i k e h a q = link-in most_reach (edges_in ws) i k (edges_of ws) a (edges-len ws) h (q ∙ ap (λ (x : Edge). index_or i x.link) e)

-- ---- the zone
-- what a visit has found when it comes to the zone that is left
pub record Found (ws w1 : List ℤ) (i k : ℕ) (visited : Edge) (x : Blue) : Type 0 where
  pub edge : Edge
  pub edge2 : Edge
  pub below : i < edges_in ws
  pub within : AxisWithin most_reach (edges_of ws)
  pub read : edge ≡ reduced (edge_at (edges_of ws) i)
  pub not_done : edge.flags.done ≡ false
  pub link : k ≡ index_or i edge.link
  pub skip : Became (skipping i k) ws w1
  pub first : visited ≡ reduced (edge_at (edges_of w1) i)
  pub second : edge2 ≡ reduced (edge_at (edges_of w1) k)
  pub zone : x ≡ zone_of visited.blue edge2.blue

-- and where that is one, which edge goes to it and which behind that
pub record Chosen (i k : ℕ) (visited : Edge) (x : Blue) (one two : ℕ) (z : ℤ) : Type 0 where
  pub on : Bool
  pub fitted : x ≡ Some z
  pub on_is : on ≡ has_blue visited.blue
  pub one_is : one ≡ cond on i k
  pub two_is : two ≡ cond on k i

module _ {ws w1 : List ℤ} {i k : ℕ} {visited : Edge} {x : Blue} (f : Found ws w1 i k visited x) where
  pub k-below : k < edges_in ws
  k-below = link-below ws i k f.read f.below f.within f.link

  first-still : i < edges_in w1
  first-still = below_in i f.skip f.below

  second-still : k < edges_in w1
  second-still = below_in k f.skip k-below

  zone-is : (d : Dimension) → x ≡ zone_of (edge_at (axis_in w1 d) i).blue (edge_at (axis_in w1 d) k).blue
  zone-is d = let p = read-in w1 i f.first d in let q = read-in w1 k f.second d in f.zone ∙ (λ n. zone_of (p n).blue (q n).blue)

  module _ (rule : WidthRule) (xs : List ℤ) (anchor : Link) where
    to-zone : (d : Dimension) → step rule xs (state_of (axis_in ws d) anchor) i ≡ by_zone rule xs (axis_in w1 d) anchor i k x
    unfolding step
    to-zone d =
        let s : State = state_of (axis_in ws d) anchor in
        let r = sym (read-in ws i f.read d) in
        ap (λ (y : Bool). cond y s (step_by rule xs s i (index_or i (edge_at (axis_in ws d) i).link))) (ap (λ (y : Edge). y.flags.done) r ∙ f.not_done)
        ∙ ap (step_by rule xs s i) (ap (λ (y : Edge). index_or i y.link) r ∙ sym f.link)
        ∙ ap (λ (u : Axis). by_zone rule xs u anchor i k (zone_of (edge_at u i).blue (edge_at u k).blue)) (sym (f.skip.table d))
        ∙ ap (by_zone rule xs (axis_in w1 d) anchor i k) (sym (zone-is d))

    -- none is left
    pub visited-none : x ≡ None → Visited state_of (step rule xs) i anchor anchor ws w1
    unfolding by_zone
    visited-none n =
        record { whole = f.skip.whole; long = f.skip.long; state = λ (d : Dimension). to-zone d ∙ ap (by_zone rule xs (axis_in w1 d) anchor i k) n }

  -- one is left
  module _ {one two : ℕ} {z : ℤ} (c : Chosen i k visited x one two z) where
    pub one_below : one < edges_in w1
    one_below = choice-in (edges_in w1) i k one c.on first-still second-still c.one_is

    pub two-below : two < edges_in w1
    two-below = choice-in (edges_in w1) k i two c.on second-still first-still c.two_is

    skip-bound : AxisWithin most_reach (edges_of w1)
    skip-bound =
        subst (AxisWithin most_reach) (sym (f.skip.table _))
        (skip-within most_reach (edges_in ws) (edges_of ws) f.within (edges-len ws) i k f.below k-below)

    pub fitted-between : Between most_units most_units z
    fitted-between = zone-at most_reach (edges_in w1) i k (edges_of w1) x z skip-bound (edges-len w1) first-still second-still (zone-is _) c.fitted

    module _ (anchor : Link) {w2 : List ℤ} (a : Became (zoning anchor one z) w1 w2) where
      pub zone-bound : AxisWithin most_reach (edges_of w2)
      zone-bound =
          subst (AxisWithin most_reach) (sym (a.table _))
          (zone-within most_reach (edges_in w1) (edges_of w1) skip-bound (edges-len w1) anchor one z one_below (omega arith) fitted-between)

      pub visited-zone : (rule : WidthRule) (xs : List ℤ) {w3 : List ℤ} {r : Link} → Became (linking rule xs one two) w2 w3 → r ≡ anchor_first anchor i
          → Visited state_of (step rule xs) i anchor r ws w3
      unfolding by_zone
      visited-zone rule xs {w3} {r} b r-is = record {
        whole = b.whole;
        long = b.long ∙ a.long ∙ f.skip.long;
        state = λ (d : Dimension).
            let U = axis_in w1 d in
            to-zone rule xs anchor d
            ∙ ap (by_zone rule xs U anchor i k) c.fitted
            ∙ ap (λ (y : Bool). state_of (link_at rule xs (on_zone U anchor (cond y i k) z) (cond y i k) (cond y k i)) (anchor_first anchor i))
            (ap (λ (y : Edge). has_blue y.blue) (sym (read-in w1 i f.first d)) ∙ sym c.on_is)
            ∙ (λ n. state_of (link_at rule xs (on_zone U anchor (sym c.one_is n) z) (sym c.one_is n) (sym c.two_is n)) (anchor_first anchor i))
            ∙ ap (λ (u : Axis). state_of (link_at rule xs u one two) (anchor_first anchor i)) (sym (a.table d))
            ∙ (λ n. state_of (sym (b.table d) n) (sym r-is n));
      }
