-- What the visits keep: each edge stays within its limits, and the pass within the reach.
use Rattle.std.specs.Prelude.{None, Some, MatchOption}
use mathlib.Core.Path.{◌≡◌, refl, ap, subst}
use mathlib.Core.Bool.{Bool, ◌&&◌}
use mathlib.Core.List.{List}
use Prim.Native.Nat.{ℕ, zero, suc, ◌+◌, ◌*◌, ◌-◌, ◌≤◌, ◌<◌}
use native.Mathlib.Omega.{arith}
use lib.IntN.{ℤ, pos}
use Rattle.signed.specs.Range.{Between}
use Rattle.signed.proofs.Choices.{either_way}
use Rattle.refusals.specs.Refusal.{refusal, answered}
use Rattle.refusals.proofs.Tests.{all_hold}
use Rattle.fixed.specs.declared.width.WidthRule.{WidthRule}
use Rattle.axis.specs.Link.{Link}
use Rattle.axis.specs.declared.kinds.Group.{Group}
use Rattle.axis.specs.declared.kinds.Mark.{Mark}
use Rattle.axis.specs.declared.edge.Edge.{Edge}
use Rattle.axis.specs.declared.edge.Axis.{Axis}
use Rattle.axis.specs.Link.{index_or}
use Rattle.axis.specs.Edge.{edge_at, placed, fixed_at}
use Rattle.axis.specs.Limits.{most_edges, most_pos}
use Rattle.axis.specs.Visits.{visits}
use Rattle.axis.specs.Accepted.{Below, EdgeWithin, AxisWithin}
use Rattle.axis.proofs.Acceptance.{below-to, link-below, axis-within}
use Rattle.axis.proofs.Visits.{turn}
use Rattle.zones.proofs.Kept.{within_more, put-within, edge-at}
use Rattle.stems.specs.declared.kinds.Mode.{Mode}
use Rattle.stems.specs.declared.kinds.Second.{Second}
use Rattle.stems.specs.declared.kinds.Second.TheVariants.{Stays, Placed, Fixed}
use Rattle.stems.specs.declared.kinds.Plan.{Plan}
use Rattle.stems.specs.Visit.{too_close}
use Rattle.stems.specs.Plan.{is_bounded, is_over, second_edge, held_edge, anchor_after}
use Rattle.stems.specs.Handed.{most_fitted}
use Rattle.stems.specs.Stems.{State, counted, begun, stems, stems_of, mode_of, stems_tests, align_stem_edges}
use Rattle.stems.specs.StepsPass.{plan_at, first_put, second_put, held_put, carried_out, step_link, step}
use Rattle.stems.proofs.Straight.{steps-are}
use Rattle.stems.proofs.Growth.{most_growth, SecondWithin, TrailWithin, PlanWithin, EdgeIn, Reached, plan-within, last_none}

-- ---- the stores
moved-within : (c n : ℕ) (e : Edge) (p : ℤ) (m : Mark) → EdgeWithin c n e → Between c c p → EdgeWithin c n (placed e p m)
moved-within c n e p m h g = record { opos = h.opos; pos = g; blue = h.blue; link = h.link; serif = h.serif }

fixed-within : (c n : ℕ) (e : Edge) (p : ℤ) (m : Mark) → EdgeWithin c n e → Between c c p → EdgeWithin c n (fixed_at e p m)
fixed-within c n e p m h g = record { opos = h.opos; pos = g; blue = h.blue; link = h.link; serif = h.serif }

second-within : (c n : ℕ) (e : Edge) (x : Second) → EdgeWithin c n e → SecondWithin c x → EdgeWithin c n (second_edge e x)
unfolding second_edge
second-within c n e Stays h g = h
second-within c n e (Placed z) h g = moved-within c n e z _ h (g.placed z refl)
second-within c n e (Fixed z) h g = fixed-within c n e z _ h (g.fixed z refl)

held-within : (c n : ℕ) (plan : Plan) (i : ℕ) (e prev link : Edge) → EdgeWithin c n e → EdgeWithin c n prev → EdgeWithin c n (held_edge plan i e prev link)
unfolding held_edge
held-within c n plan i e prev link h g =
    either_way (EdgeWithin c n) (is_bounded plan i && is_over e prev link) _ e (moved-within c n e prev.pos _ h g.pos) h

pub first-put : (c i : ℕ) (plan : Plan) (axis : Axis) → AxisWithin c axis → i < axis.len → PlanWithin c plan → AxisWithin c (first_put plan i axis)
first-put c i plan axis h q g = put-within c i axis _ h (fixed-within c axis.len (edge_at axis i) plan.first plan.mark (h.edge i q) g.first)

pub second-put : (c k : ℕ) (plan : Plan) (axis : Axis) → AxisWithin c axis → k < axis.len → PlanWithin c plan → AxisWithin c (second_put plan k axis)
second-put c k plan axis h q g = put-within c k axis _ h (second-within c axis.len (edge_at axis k) plan.second (h.edge k q) g.second)

held-put : (c i k : ℕ) (plan : Plan) (axis : Axis) → AxisWithin c axis → i < axis.len → AxisWithin c (held_put plan i k axis)
held-put c i k plan axis h q =
    put-within c i axis _ h (held-within c axis.len plan i (edge_at axis i) (edge_at axis (i - 1)) (edge_at axis k) (h.edge i q)
    (h.edge (i - 1) (omega (arith, q))))

-- ---- a step
-- a state after i visits of n edges, its positions within b
pub record StateSound (b n i : ℕ) (s : State) : Type 0 where
  pub len : s.axis.len ≡ n
  pub axis-in : AxisWithin b s.axis
  pub count_in : s.count ≤ i
  pub anchor_in : Below n s.anchor
  pub trail_in : TrailWithin s.trail

sound_more : (b c n i : ℕ) (s : State) → b ≤ c → StateSound b n i s → StateSound c n (i + 1) s
sound_more b c n i s h g = record {
  len = g.len;
  axis-in = within_more b c s.axis h g.axis-in;
  count_in = omega (arith, g.count_in);
  anchor_in = g.anchor_in;
  trail_in = g.trail_in;
}

counted-sound : (b c n i : ℕ) (s : State) → b ≤ c → StateSound b n i s → StateSound c n (i + 1) (counted s)
counted-sound b c n i s h g = record {
  len = g.len;
  axis-in = within_more b c s.axis h g.axis-in;
  count_in = omega (arith, g.count_in);
  anchor_in = g.anchor_in;
  trail_in = g.trail_in;
}

-- the anchor, or the visited edge where there is none, is an edge
pub anchor-or : (n i : ℕ) (anchor : Link) → Below n anchor → i < n → index_or i anchor < n
anchor-or n i None h q = q
anchor-or n i (Some k) h q = h.at k refl

-- what the library's `map_or` reads of an anchor, or i where there is none
pub read-or : (l : Link) (i r : ℕ) → MatchOption l (r ≡ i) (λ (k : ℕ). r ≡ k) → r ≡ index_or i l
read-or None i r h = h
read-or (Some k) i r h = h

anchor-kept : (n i : ℕ) (plan : Plan) (anchor : Link) → Below n anchor → i < n → Below n (anchor_after plan anchor i)
unfolding anchor_after
anchor-kept n i plan anchor h q = either_way (Below n) plan.anchors (Some i) anchor (below-to n i q) h

pub edge_in : (b n i j : ℕ) (s : State) → StateSound b n i s → j < n → EdgeIn b (edge_at s.axis j)
edge_in b n i j s h q = let e = edge-at b n j s.axis h.axis-in h.len q in record { opos = e.opos; pos = e.pos }

pub link-in : (b n i k : ℕ) (s : State) → StateSound b n i s → i < n → (edge_at s.axis i).link ≡ Some k → k < n
link-in b n i k s h q e = (edge-at b n i s.axis h.axis-in h.len q).link.at k e

pub plan-in : (b n i k : ℕ) (m : Mode) (xs : List ℤ) (s : State) → Reached b → StateSound b n i s → i < n → k < n
    → PlanWithin (b + most_growth) (plan_at m xs s i k)
plan-in b n i k m xs s r h q p =
    plan-within b r m xs _ _ _ s.anchor _ s.trail (edge_in b n i i s h q) (edge_in b n i k s h p)
    (edge_in b n i _ s h (anchor-or n i s.anchor h.anchor_in q)) h.trail_in

carried-sound : (b n i k : ℕ) (s : State) (plan : Plan) → StateSound b n i s → i < n → k < n → PlanWithin (b + most_growth) plan
    → StateSound (b + most_growth) n (i + 1) (carried_out s i k plan)
unfolding carried_out
carried-sound b n i k s plan h q p g =
    let c = b + most_growth in
    let a = within_more b c s.axis (omega arith) h.axis-in in
    let e = h.len in
    let a1 = first-put c i plan s.axis a (omega arith) g in
    let a2 = second-put c k plan (first_put plan i s.axis) a1 (omega arith) g in
    record {
      len = e;
      axis-in = held-put c i k plan (second_put plan k (first_put plan i s.axis)) a2 (omega arith);
      count_in = omega (arith, h.count_in);
      anchor_in = anchor-kept n i plan s.anchor h.anchor_in q;
      trail_in = g.trail;
    }

link-sound :
    (b n i : ℕ) (m : Mode) (xs : List ℤ) (s : State) (l : Link) → Reached b → StateSound b n i s → i < n → (edge_at s.axis i).link ≡ l
    → StateSound (b + most_growth) n (i + 1) (step_link m xs s i l)
unfolding step_link
link-sound b n i m xs s None r h q e = counted-sound b (b + most_growth) n i s (omega arith) h
link-sound b n i m xs s (Some k) r h q e =
    let p = link-in b n i k s h q e in
    either_way (StateSound (b + most_growth) n (i + 1)) (too_close m.group s.trail.last (edge_at s.axis i) (edge_at s.axis k)) (counted s) _
    (counted-sound b (b + most_growth) n i s (omega arith) h)
    (carried-sound b n i k s (plan_at m xs s i k) h q p (plan-in b n i k m xs s r h q p))

step-sound : (b n i : ℕ) (m : Mode) (xs : List ℤ) (s : State) → Reached b → StateSound b n i s → i < n → StateSound (b + most_growth) n (i + 1) (step m xs s i)
unfolding step
step-sound b n i m xs s r h q =
    either_way (StateSound (b + most_growth) n (i + 1)) (edge_at s.axis i).flags.done s _
    (sound_more b (b + most_growth) n i s (omega arith) h)
    (link-sound b n i m xs s (edge_at s.axis i).link r h q refl)

-- ---- the steps
-- what positions can have come to after i visits
abbrev pub grown : ℕ → ℕ
grown i = most_pos + i * most_growth

pub reached : (n i : ℕ) → n ≤ most_edges → i < n → Reached (grown i)
reached n i h q = record { least = omega arith; most = omega (arith, h, q) }

pub begun-sound : (anchor : Link) (axis : Axis) → AxisWithin most_pos axis → Below axis.len anchor → StateSound (grown 0) axis.len 0 (begun anchor axis)
begun-sound anchor axis h g =
    record { len = refl; axis-in = h; count_in = omega arith; anchor_in = g; trail_in = record { last = last_none; delta = omega arith } }

pub turn-sound : (n i : ℕ) (m : Mode) (xs : List ℤ) (s s' : State) → n ≤ most_edges → i < n → step m xs s i ≡ s' → StateSound (grown i) n i s
    → StateSound (grown (i + 1)) n (i + 1) s'
turn-sound n i m xs s s' h q e g =
    let g' : grown i + most_growth ≡ grown (i + 1) = omega arith in
    subst (λ (c : ℕ). StateSound c n (i + 1) s') g'
    (subst (StateSound (grown i + most_growth) n (i + 1)) e (step-sound (grown i) n i m xs s (reached n i h q) g q))

-- after i of n visits of the code: the state is sound, and what is left gives the whole pass
pub record Goes (m : Mode) (xs : List ℤ) (n : ℕ) (anchor : Link) (axis : Axis) (s : State) (i : ℕ) : Type 0 where
  pub visited : i ≤ n
  pub few : n ≤ most_edges
  pub sound : StateSound (grown i) n i s
  pub rest : visits (step m xs) (n - i) i s ≡ visits (step m xs) n 0 (begun anchor axis)

pub goes-begun : (m : Mode) (xs : List ℤ) (anchor : Link) (axis : Axis) → AxisWithin most_pos axis → Below axis.len anchor
    → Goes m xs axis.len anchor axis (begun anchor axis) 0
goes-begun m xs anchor axis h g =
    let e : axis.len - 0 ≡ axis.len = omega arith in
    record {
      visited = omega arith;
      few = h.few;
      sound = begun-sound anchor axis h g;
      rest = ap (λ (k : ℕ). visits (step m xs) k 0 (begun anchor axis)) e;
    }

pub goes_on : {m : Mode} {xs : List ℤ} {n : ℕ} {anchor : Link} {axis : Axis} {s s' : State} {i : ℕ}
    → Goes m xs n anchor axis s i → i < n → step m xs s i ≡ s' → Goes m xs n anchor axis s' (i + 1)
goes_on {m} {xs} {n} {anchor} {axis} {s} {s'} {i} g q e = record {
  visited = omega (arith, q);
  few = g.few;
  sound = turn-sound n i m xs s s' g.few q e g.sound;
  rest = turn (step m xs) n i s s' _ q e g.rest;
}

steps-sound : (j i n : ℕ) (m : Mode) (xs : List ℤ) (s : State) → n ≤ most_edges → i + j ≡ n → StateSound (grown i) n i s
    → StateSound (grown n) n n (visits (step m xs) j i s)
unfolding visits
steps-sound zero i n m xs s h e g = let q : i ≡ n = omega (arith, e) in subst (λ (x : ℕ). StateSound (grown x) n x s) q g
steps-sound (suc j) i n m xs s h e g =
    let q : i < n = omega (arith, e) in
    steps-sound j (i + 1) n m xs (step m xs s i) h (omega (arith, e)) (turn-sound n i m xs s (step m xs s i) h q refl g)

-- the pass on an accepted axis: every position stays within `most_fitted`, and so within the reach, in which all sums fit 32 bits; no more edges are counted
-- than
-- visited; and the anchor is an edge
pub record PassKeeps (m : Mode) (xs : List ℤ) (anchor : Link) (axis : Axis) : Type 0 where
  pub positions : AxisWithin most_fitted (stems_of m xs anchor axis).axis
  pub counts : (stems_of m xs anchor axis).count ≤ axis.len
  pub anchors : Below axis.len (stems_of m xs anchor axis).anchor

pub pass-keeps : (m : Mode) (xs : List ℤ) (anchor : Link) (axis : Axis) → AxisWithin most_pos axis → Below axis.len anchor → PassKeeps m xs anchor axis
unfolding stems_of
pass-keeps m xs anchor axis h g =
    let n = axis.len in
    let f = h.few in
    let all = steps-sound n 0 n m xs (begun anchor axis) f (omega arith) (begun-sound anchor axis h g) in
    let s = subst (StateSound (grown n) n n) (steps-are m xs n 0 (begun anchor axis)) all in
    record {
      positions = within_more (grown n) most_fitted _ (omega (arith, f)) s.axis-in;
      counts = s.count_in;
      anchors = s.anchor_in;
    }

-- ---- the call
-- it counts at most 128 edges, refused or not
pub call-counts : (axis : Axis) (group : Group) (adjust ttb : Bool) (anchor : Link) (rule : WidthRule) (xs : List ℤ)
    → (align_stem_edges axis group adjust ttb anchor rule xs).count ≤ most_edges
unfolding align_stem_edges
call-counts axis group adjust ttb anchor rule xs = by (refusal (stems_tests axis ttb anchor rule xs)) refl
  where
    by : (k : ℕ) → refusal (stems_tests axis ttb anchor rule xs) ≡ k
        → (answered k (stems 0 None axis) (stems_of (mode_of axis group adjust rule) xs anchor axis)).count ≤ most_edges
    by zero e =
        let t = all_hold (stems_tests axis ttb anchor rule xs) refl e in
        let indexed = t.1.1.1 in
        let within = axis-within axis t.0 indexed.0 indexed.1.1.0 in
        omega (arith, (pass-keeps (mode_of axis group adjust rule) xs anchor axis within (link-below _ _ indexed.1.0)).counts, within.few)
    by (suc k) e = omega arith
