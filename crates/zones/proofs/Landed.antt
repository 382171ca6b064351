-- A visit leaves every edge where it was, or puts it on a zone, or a fitted width from an edge that it has just put there: so positions do not grow with the
-- visits.
use Rattle.std.specs.Prelude.{None, Some}
use mathlib.Core.Path.{◌≡◌, refl, ap}
use mathlib.Core.Bool.{◌&&◌}
use mathlib.Core.List.{List, [], ◌∷◌}
use mathlib.Core.Logic.{◌⊎◌, inl, inr}
use Prim.Native.Nat.{ℕ, zero, suc, ◌+◌, ◌≤◌, ◌<◌}
use native.Mathlib.Omega.{arith}
use lib.IntN.{ℤ, ◌-ℤ◌}
use lib.ListN.{get_or, set}
use Rattle.signed.specs.Range.{Between}
use Rattle.signed.proofs.Signed.{add-law}
use Rattle.signed.proofs.Choices.{either_way}
use Rattle.fixed.specs.declared.width.WidthRule.{WidthRule}
use Rattle.fixed.specs.Width.{fitted_width}
use Rattle.axis.specs.Link.{Blue}
use Rattle.axis.specs.Link.{Link}
use Rattle.axis.specs.declared.edge.Axis.{Axis}
use Rattle.axis.specs.declared.edge.Edge.{Edge}
use Rattle.axis.specs.Accepted.{Below, InZone, AxisWithin}
use Rattle.axis.specs.Edge.{empty_edge, edge_at, put_edge, has_blue}
use Rattle.axis.specs.Limits.{most_units, most_pos}
use Rattle.axis.specs.Visits.{visits}
use Rattle.place.specs.Placing.{linked_pos}
use Rattle.place.proofs.Reach.{width-range}
use Rattle.zones.specs.Landed.{most_zoned, Landed, AllLanded}
use Rattle.zones.specs.Zones.{unzoned, skipped, zoned_edge, on_zone, link_aligned, State, visit_alone, visit_pair, visit_link, visit}
use Rattle.zones.proofs.Kept.{no_zone}

-- ---- a store
-- what holds of the stored in its place, and of what was there, holds behind the store
set-two : {A : Type 0} (P : A → Type 0) (d y : A) (xs : List A) (m i : ℕ) → (i ≡ m → P y) → P (get_or xs i d) → P (get_or (set xs m y) i d)
set-two P d y [] m i f p = p
set-two P d y (x ∷ xs) zero zero f p = f refl
set-two P d y (x ∷ xs) zero (suc i) f p = p
set-two P d y (x ∷ xs) (suc m) zero f p = p
set-two P d y (x ∷ xs) (suc m) (suc i) f p = set-two P d y xs m i (λ e. f (ap suc e)) p

-- what holds of the stored, and of what stands behind the table, holds in that place
pub set_own : {A : Type 0} (P : A → Type 0) (d y : A) (xs : List A) (i : ℕ) → P y → P d → P (get_or (set xs i y) i d)
set_own P d y [] i p q = q
set_own P d y (x ∷ xs) zero p q = p
set_own P d y (x ∷ xs) (suc i) p q = set_own P d y xs i p q

-- ---- what the visits keep
record EdgeLanded (n : ℕ) (old e : Edge) : Type 0 where
  landed : Landed old e
  units : Between most_units most_units e.opos
  blue : InZone e.blue
  link : Below n e.link
  serif : Below n e.serif

record AxisLanded (old axis : Axis) : Type 0 where
  len : axis.len ≡ old.len
  edge : (k : ℕ) → k < old.len → EdgeLanded old.len (edge_at old k) (edge_at axis k)

start : (axis : Axis) → AxisWithin most_pos axis → AxisLanded axis axis
start axis h = record {
  len = refl;
  edge = λ k q.
      let e = h.edge k q in
      record { landed = record { opos = refl; pos = inl refl }; units = e.opos; blue = e.blue; link = e.link; serif = e.serif };
}

module _ (old : Axis) where
  put : (i : ℕ) (axis : Axis) (e : Edge) → AxisLanded old axis → EdgeLanded old.len (edge_at old i) e → AxisLanded old (put_edge axis i e)
  put i axis e h g = record {
    len = h.len;
    edge = λ k q. set-two (EdgeLanded old.len (edge_at old k)) empty_edge e axis.edges i k (λ (w : k ≡ i). rw w g) (h.edge k q);
  }

  -- without its zone an edge stays where it is
  bare : (i : ℕ) (axis : Axis) → i < old.len → AxisLanded old axis → AxisLanded old (put_edge axis i (unzoned (edge_at axis i)))
  bare i axis q h =
      let e = h.edge i q in
      put i axis _ h (record {
        landed = record { opos = e.landed.opos; pos = e.landed.pos };
        units = e.units;
        blue = no_zone;
        link = e.link;
        serif = e.serif;
      })

  skip : (i k : ℕ) (axis : Axis) → i < old.len → k < old.len → AxisLanded old axis → AxisLanded old (skipped axis i k)
  unfolding skipped
  skip i k axis q p h =
      either_way (AxisLanded old) (has_blue (edge_at axis i).blue && has_blue (edge_at axis k).blue) _ axis
      (either_way (AxisLanded old) (edge_at axis k).flags.neutral _ _
      (bare k axis p h)
      (either_way (AxisLanded old) (edge_at axis i).flags.neutral _ axis (bare i axis q h) h))
      h

  -- on its zone it is within the zones
  zone : (i : ℕ) (axis : Axis) (a : Link) (z : ℤ) → i < old.len → Between most_units most_units z → AxisLanded old axis → AxisLanded old (on_zone axis a i z)
  zone i axis a z q w h =
      let e = h.edge i q in
      put i axis _ h (record {
        landed = record { opos = e.landed.opos; pos = inr (omega arith) };
        units = e.units;
        blue = e.blue;
        link = e.link;
        serif =
            e.serif;
      })

  on-zone : (i : ℕ) (axis : Axis) (a : Link) (z : ℤ) → Between most_units most_units z → Between most_units most_units (edge_at (on_zone axis a i z) i).pos
  on-zone i axis a z w = set_own (λ (e : Edge). Between most_units most_units e.pos) empty_edge (zoned_edge a (edge_at axis i) z) axis.edges i w (omega arith)

  -- and an edge without one is a width away from that
  aligned : (rule : WidthRule) (xs : List ℤ) (i j : ℕ) (axis : Axis) → i < old.len → j < old.len → Between most_units most_units (edge_at axis i).pos
      → AxisLanded old axis
      → AxisLanded old (link_aligned rule xs axis i j)
  unfolding link_aligned linked_pos
  aligned rule xs i j axis q p b h =
      let base = edge_at axis i in
      let stem = edge_at axis j in
      let e = h.edge j p in
      let w = width-range rule xs base.opos stem.opos (h.edge i q).units e.units in
      either_way (AxisLanded old) (has_blue stem.blue) axis _ h
      (put j axis _ h (record {
        landed = record { opos = e.landed.opos; pos = inr (omega (arith, b, w, add-law base.pos (fitted_width rule xs (stem.opos -ℤ base.opos)))) };
        units = e.units;
        blue = e.blue;
        link = e.link;
        serif = e.serif;
      }))

  -- ---- one visit
  alone : (s : State) (i : ℕ) (x : Blue) → i < old.len → InZone x → AxisLanded old s.axis → AxisLanded old (visit_alone s i x).axis
  unfolding visit_alone
  alone s i None q b h = h
  alone s i (Some z) q b h = zone i s.axis s.anchor z q (b.at z refl) h

  module _ (rule : WidthRule) (xs : List ℤ) where
    pair : (s : State) (i k : ℕ) (x y : Blue) → i < old.len → k < old.len → InZone x → InZone y → AxisLanded old s.axis
        → AxisLanded old (visit_pair rule xs s i k x y).axis
    unfolding visit_pair
    pair s i k (Some z) y q p b c h =
        let w = b.at z refl in
        aligned rule xs i k (on_zone s.axis s.anchor i z) q p (on-zone i s.axis s.anchor z w) (zone i s.axis s.anchor z q w h)
    pair s i k None (Some z) q p b c h =
        let w = c.at z refl in
        aligned rule xs k i (on_zone s.axis s.anchor k z) p q (on-zone k s.axis s.anchor z w) (zone k s.axis s.anchor z p w h)
    pair s i k None None q p b c h = h

    by-link : (s : State) (i : ℕ) (l : Link) → i < old.len → Below old.len l → AxisLanded old s.axis → AxisLanded old (visit_link rule xs s i l).axis
    unfolding visit_link
    by-link s i None q b h = alone s i (edge_at s.axis i).blue q (h.edge i q).blue h
    by-link s i (Some k) q b h =
        let p = b.at k refl in
        let g = skip i k s.axis q p h in
        pair (record { axis = skipped s.axis i k; anchor = s.anchor }) i k _ _ q p (g.edge i q).blue (g.edge k p).blue g

    visited : (s : State) (i : ℕ) → i < old.len → AxisLanded old s.axis → AxisLanded old (visit rule xs s i).axis
    unfolding visit
    visited s i q h =
        either_way (λ (x : State). AxisLanded old x.axis) (edge_at s.axis i).flags.done s _ h
        (by-link s i (edge_at s.axis i).link q (h.edge i q).link h)

    -- ---- all visits
    all : (n i : ℕ) (s : State) → i + n ≤ old.len → AxisLanded old s.axis → AxisLanded old (visits (visit rule xs) n i s).axis
    unfolding visits
    all zero i s q h = h
    all (suc n) i s q h = all n (i + 1) (visit rule xs s i) (omega arith) (visited s i (omega arith) h)

-- ---- the pass over accepted edges
-- every edge is where it was, or within reach of a zone
module _ (rule : WidthRule) (xs : List ℤ) (axis : Axis) (anchor : Link) (h : AxisWithin most_pos axis) where
  abbrev last : Axis
  last = (visits (visit rule xs) axis.len 0 (record { axis = axis; anchor = anchor })).axis

  behind : AxisLanded axis last
  behind = all axis rule xs axis.len 0 (record { axis = axis; anchor = anchor }) (omega arith) (start axis h)

  pub pass-landed : AllLanded axis last
  pass-landed = let a = behind in record { len = a.len; edge = λ k q. (a.edge k q).landed }

  -- so that the edges are still accepted
  pub pass-within : AxisWithin most_pos last
  pass-within =
      let a = behind in
      record {
        few = rw a.len h.few;
        edge = λ k l.
            let q : k < axis.len = rw a.len at l in
            let e = a.edge k q in
            rw a.len (record { opos = e.units; pos = near e.landed.pos (h.edge k q).pos; blue = e.blue; link = e.link; serif = e.serif });
      }
    where
      near : {y z : ℤ} → (z ≡ y) ⊎ Between most_zoned most_zoned z → Between most_pos most_pos y → Between most_pos most_pos z
      near (inl e) b = rw e b
      near (inr w) b = omega arith
