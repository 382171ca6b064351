-- What each store of a visit keeps: an axis within m stays within m, and within a fitted width more once a linked edge is aligned.
use Rattle.std.specs.Prelude.{None, Some, MatchOption}
use mathlib.Core.Path.{◌≡◌, refl, sym, subst, ◌∙◌}
use mathlib.Core.Bool.{Bool, cond}
use mathlib.Core.List.{List}
use Prim.Native.Nat.{ℕ, ◌+◌, ◌≤◌, ◌<◌}
use native.Mathlib.Omega.{arith}
use lib.IntN.{ℤ, ◌-ℤ◌}
use Rattle.signed.specs.Range.{Between}
use Rattle.signed.proofs.Signed.{add-law}
use Rattle.signed.proofs.Choices.{either_way, at_set}
use Rattle.fixed.specs.declared.width.WidthRule.{WidthRule}
use Rattle.fixed.specs.Width.{fitted_width}
use Rattle.axis.specs.Link.{Link}
use Rattle.axis.specs.Link.{Blue}
use Rattle.axis.specs.declared.edge.Edge.{Edge}
use Rattle.axis.specs.declared.edge.Axis.{Axis}
use Rattle.axis.specs.Link.{index_or}
use Rattle.axis.specs.Edge.{empty_edge, edge_at, put_edge, has_blue}
use Rattle.axis.specs.Limits.{most_units}
use Rattle.axis.specs.Accepted.{Below, InZone, EdgeWithin, AxisWithin}
use Rattle.place.specs.Placing.{linked_pos}
use Rattle.place.specs.Steps.{most_width, most_reach, InReach}
use Rattle.place.proofs.Reach.{width-range}
use Rattle.zones.specs.Zones.{zoned_edge}
use Rattle.zones.specs.Steps.{thinned, zone_of, linked_or_zoned}

-- ---- edges
edge_more : (m c n : ℕ) (e : Edge) → m ≤ c → EdgeWithin m n e → EdgeWithin c n e
edge_more m c n e w h = let p = h.pos in record { opos = h.opos; pos = omega arith; blue = h.blue; link = h.link; serif = h.serif }

pub within_more : (m c : ℕ) (axis : Axis) → m ≤ c → AxisWithin m axis → AxisWithin c axis
within_more m c axis w h = record { few = h.few; edge = λ (k : ℕ) (q : k < axis.len). edge_more m c axis.len (edge_at axis k) w (h.edge k q) }

pub put-within : (m i : ℕ) (axis : Axis) (e : Edge) → AxisWithin m axis → EdgeWithin m axis.len e → AxisWithin m (put_edge axis i e)
put-within m i axis e h g = record {
  few = h.few;
  edge = λ (k : ℕ) (q : k < axis.len). at_set (EdgeWithin m axis.len) axis.edges i k e empty_edge g (h.edge k q);
}

-- the edges of an axis of n
pub edge-at : (m n j : ℕ) (axis : Axis) → AxisWithin m axis → axis.len ≡ n → j < n → EdgeWithin m n (edge_at axis j)
edge-at m n j axis h e q = subst (λ (x : ℕ). EdgeWithin m x (edge_at axis j)) e (h.edge j (omega arith))

pub reach-at : (m n j : ℕ) (axis : Axis) → AxisWithin m axis → axis.len ≡ n → j < n → m ≤ most_reach → InReach (edge_at axis j)
reach-at m n j axis h e q w = let f = edge-at m n j axis h e q in let p = f.pos in record { opos = f.opos; pos = omega arith }

-- ---- places
or-below : (n i : ℕ) (l : Link) → Below n l → i < n → index_or i l < n
or-below n i None h q = q
or-below n i (Some k) h q = h.at k refl

-- what the library's `map_or` reads of a link, or i where there is none
pub read-or : (l : Link) (i r : ℕ) → MatchOption l (r ≡ i) (λ (k : ℕ). r ≡ k) → r ≡ index_or i l
read-or None i r h = h
read-or (Some k) i r h = h

-- the link of edge i, or i, is an edge
pub link-in : (m n i k : ℕ) (axis : Axis) → AxisWithin m axis → axis.len ≡ n → i < n → k ≡ index_or i (edge_at axis i).link → k < n
link-in m n i k axis h e q g = subst (λ (x : ℕ). x < n) (sym g) (or-below n i (edge_at axis i).link (edge-at m n i axis h e q).link q)

pub choice-in : (n i k r : ℕ) (t : Bool) → i < n → k < n → r ≡ cond t i k → r < n
choice-in n i k r t h g e = subst (λ (x : ℕ). x < n) (sym e) (either_way (λ (x : ℕ). x < n) t i k h g)

-- ---- zones
pub no_zone : InZone None
no_zone = record { at = λ (z : ℤ) (e : None ≡ Some z). absurd (let n : ◌≡◌ {A = ℕ} 0 1 = cc in omega arith) }

thinned-within : (m n : ℕ) (skip : Bool) (e : Edge) → EdgeWithin m n e → EdgeWithin m n (thinned skip e)
unfolding thinned
thinned-within m n skip e h = either_way (EdgeWithin m n) skip _ e (record { opos = h.opos; pos = h.pos; blue = no_zone; link = h.link; serif = h.serif }) h

zone-in : (x y : Blue) → InZone x → InZone y → InZone (zone_of x y)
unfolding zone_of
zone-in None y h g = g
zone-in (Some z) y h g = h

linked-within : (m n : ℕ) (rule : WidthRule) (xs : List ℤ) (base stem : Edge) → EdgeWithin m n base → EdgeWithin m n stem
    → EdgeWithin (m + most_width) n (linked_or_zoned rule xs base stem)
unfolding linked_or_zoned linked_pos
linked-within m n rule xs base stem h g =
    let p = h.pos in
    let w = width-range rule xs base.opos stem.opos h.opos g.opos in
    either_way (EdgeWithin (m + most_width) n) (has_blue stem.blue) stem _
    (edge_more m (m + most_width) n stem (omega arith) g)
    (record {
      opos = g.opos;
      pos = omega (arith, w, add-law base.pos (fitted_width rule xs (stem.opos -ℤ base.opos)));
      blue = g.blue;
      link = g.link;
      serif = g.serif;
    })

-- ---- the stores of a visit, one after the other
pub thin-put : (m n i : ℕ) (axis : Axis) (skip : Bool) (e : Edge) → AxisWithin m axis → axis.len ≡ n → i < n → e ≡ thinned skip (edge_at axis i)
    → AxisWithin m (put_edge axis i e)
thin-put m n i axis skip e h q k g =
    put-within m i axis e h (subst (EdgeWithin m axis.len) (sym g) (thinned-within m axis.len skip (edge_at axis i) (h.edge i (omega arith))))

pub zone-at : (m n i k : ℕ) (axis : Axis) (x : Blue) (z : ℤ) → AxisWithin m axis → axis.len ≡ n → i < n → k < n
    → x ≡ zone_of (edge_at axis i).blue (edge_at axis k).blue → x ≡ Some z → Between most_units most_units z
zone-at m n i k axis x z h e hi hk q g =
    (zone-in (edge_at axis i).blue (edge_at axis k).blue (edge-at m n i axis h e hi).blue (edge-at m n k axis h e hk).blue).at z (sym q ∙ g)

pub zone-put : (m n i : ℕ) (axis : Axis) (a : Link) (z : ℤ) (e : Edge) → AxisWithin m axis → axis.len ≡ n → i < n → most_units ≤ m
    → Between most_units most_units z
    → e ≡ zoned_edge a (edge_at axis i) z → AxisWithin m (put_edge axis i e)
zone-put m n i axis a z e h q k r w g =
    let f = h.edge i (omega arith) in
    put-within m i axis e h (subst (EdgeWithin m axis.len) (sym g)
    (record { opos = f.opos; pos = omega arith; blue = f.blue; link = f.link; serif = f.serif }))

pub link-put : (m n one two : ℕ) (axis : Axis) (rule : WidthRule) (xs : List ℤ) (e : Edge) → AxisWithin m axis → axis.len ≡ n → one < n → two < n
    → e ≡ linked_or_zoned rule xs (edge_at axis one) (edge_at axis two) → AxisWithin (m + most_width) (put_edge axis two e)
link-put m n one two axis rule xs e h q h1 h2 g =
    put-within (m + most_width) two axis e (within_more m (m + most_width) axis (omega arith) h)
    (subst (EdgeWithin (m + most_width) axis.len) (sym g)
    (linked-within m axis.len rule xs (edge_at axis one) (edge_at axis two) (h.edge one (omega arith)) (h.edge two (omega arith))))
