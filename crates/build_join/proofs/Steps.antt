-- One turn of a loop, on the tables.
use mathlib.Core.Path.{◌≡◌, refl, sym, ap, ◌∙◌}
use mathlib.Core.Bool.{Bool, true, false, cond}
use mathlib.Core.List.{List, [], ◌∷◌, ◌++◌, map}
use Prim.Native.Nat.{ℕ, zero, suc, ◌+◌, ◌≤◌, ◌<◌}
use native.Mathlib.Nat.{zero-add, suc-add}
use native.Mathlib.Numerals.{add-one}
use native.Mathlib.Omega.{arith}
use borrow.Author.Tests.{lt-ltb, le-ltb}
use lib.IntN.{ℤ}
use lib.ListN.{length, get_or, set, get_or-map}
use Rattle.axis.specs.declared.edge.Axis.{Axis}
use Rattle.axis.specs.declared.edge.Edge.{Edge}
use Rattle.axis.specs.declared.kinds.Dimension.{Dimension}
use Rattle.axis.specs.declared.kinds.Direction.{Direction}
use Rattle.axis.specs.declared.segment.Segments.{Segments}
use Rattle.axis.specs.Edge.{edge_at, empty_edge, with_last}
use Rattle.axis.specs.Limits.{most_edges}
use Rattle.axis.specs.Segment.{segment_at}
use Rattle.build_join.specs.declared.join.Joined.{Joined}
use Rattle.build_join.specs.declared.rules.Rules.{Rules}
use Rattle.build_join.specs.Joining.{
  stops_behind,
  settle,
  skips,
  head_or,
  last_of,
  last_in,
  edge_of,
  appended,
  State,
  group,
  join,
  overfull,
  shown,
  create,
  place_of,
  join_or_create,
  visit,
  after,
}
use Rattle.build_join.proofs.Settling.{map-set, settle-map}

-- the state with a new group for segment i
abbrev pub made : Segments → Rules → State → ℕ → State
made t r s i = record {
  groups = settle (λ (g : List ℕ). stops_behind r (edge_of t r.scale (i ∷ [])) (edge_of t r.scale g)) [] (i ∷ []) s.groups s.count;
  count = s.count + 1;
  next = set s.next i i;
  full = s.full;
}

abbrev pub tables : Dimension → Direction → Bool → List Edge → ℕ → List ℕ → Joined
tables dim major full es n next = record { full = full; axis = record { dim = dim; major_dir = major; edges = es; len = n }; next = next }

same_tables : (d d' : Dimension) (m m' : Direction) (a b : Bool) (es fs : List Edge) (n k : ℕ) (x y : List ℕ) → d ≡ d' → m ≡ m' → a ≡ b → es ≡ fs → n ≡ k
    → x ≡ y
    → tables d m a es n x ≡ tables d' m' b fs k y
same_tables d d' m m' a b es fs n k x y o w p q u v = cc

module _ (t : Segments) (r : Rules) (second : Bool) (s : State) (i : ℕ) (go : s.full ≡ false) where
  pub visit-skip : skips r second (segment_at t i) ≡ true → visit t r second s i ≡ s
  unfolding visit
  visit-skip h = rw (go, h)

  visit-on : skips r second (segment_at t i) ≡ false → (k : ℕ) → place_of t r second s i ≡ k → visit t r second s i ≡ join_or_create t r second s i k
  unfolding visit
  visit-on h k e = rw (e, h, go)

  pub visit-join : skips r second (segment_at t i) ≡ false → (k : ℕ) → place_of t r second s i ≡ k → k < s.count → visit t r second s i ≡ join s k i
  unfolding join_or_create
  visit-join h k e l = visit-on h k e ∙ rw (lt-ltb k s.count l)

  visit-off : skips r second (segment_at t i) ≡ false → (k : ℕ) → place_of t r second s i ≡ k → s.count ≤ k
      → visit t r second s i ≡ cond second s (create t r second s i)
  unfolding join_or_create
  visit-off h k e l = visit-on h k e ∙ rw (le-ltb k s.count l)

  pub visit-none : skips r second (segment_at t i) ≡ false → (k : ℕ) → place_of t r second s i ≡ k → s.count ≤ k → second ≡ true → visit t r second s i ≡ s
  visit-none h k e l b = visit-off h k e l ∙ rw b

  pub visit-full : skips r second (segment_at t i) ≡ false → (k : ℕ) → place_of t r second s i ≡ k → s.count ≤ k → second ≡ false → most_edges ≤ s.count
      → visit t r second s i ≡ overfull s
  unfolding create
  visit-full h k e l b f = visit-off h k e l ∙ rw (b, le-ltb s.count most_edges f)

  pub visit-made : skips r second (segment_at t i) ≡ false → (k : ℕ) → place_of t r second s i ≡ k → s.count ≤ k → second ≡ false → s.count < most_edges
      → visit t r second s i ≡ made t r s i
  unfolding create
  visit-made h k e l b f = visit-off h k e l ∙ rw (b, lt-ltb s.count most_edges f)

-- ---- the edge of a group
first_of : (t : Segments) (scale : ℤ) (g : List ℕ) → (edge_of t scale g).first ≡ head_or 0 g
first_of t scale [] = refl
first_of t scale (m ∷ ms) = refl

last-of : (t : Segments) (scale : ℤ) (g : List ℕ) → (edge_of t scale g).last ≡ last_in g
last-of t scale [] = refl
last-of t scale (m ∷ ms) = refl

pub last_snoc : (m i : ℕ) (ms : List ℕ) → last_of m (ms ++ i ∷ []) ≡ i
last_snoc m i [] = refl
last_snoc m i (x ∷ ms) = last_snoc x i ms

edge-snoc : (t : Segments) (scale : ℤ) (g : List ℕ) (i : ℕ) → 0 < length g → edge_of t scale (g ++ i ∷ []) ≡ with_last (edge_of t scale g) i
edge-snoc t scale [] i h = absurd (omega arith)
edge-snoc t scale (m ∷ ms) i h = rw (last_snoc m i ms)

-- ---- the tables of a state
module _ (t : Segments) (r : Rules) (s : State) (full : Bool) (axis : Axis) (next : List ℕ)
    (J : ◌≡◌ {A = Joined} (record { full = full; axis = axis; next = next }) (shown t r s)) where
  of-edges : axis.edges ≡ map (edge_of t r.scale) s.groups
  unfolding shown
  of-edges = ap (λ (j : Joined). j.axis.edges) J

  pub of-len : axis.len ≡ s.count
  unfolding shown
  of-len = ap (λ (j : Joined). j.axis.len) J

  pub of-next : next ≡ s.next
  unfolding shown
  of-next = ap (λ (j : Joined). j.next) J

  pub of-full : full ≡ s.full
  unfolding shown
  of-full = ap (λ (j : Joined). j.full) J

  of-dim : axis.dim ≡ r.dim
  unfolding shown
  of-dim = ap (λ (j : Joined). j.axis.dim) J

  of-major : axis.major_dir ≡ r.major_dir
  unfolding shown
  of-major = ap (λ (j : Joined). j.axis.major_dir) J

  pub of-edge : (k : ℕ) → edge_at axis k ≡ edge_of t r.scale (group s k)
  of-edge k = ap (λ (l : List Edge). get_or l k empty_edge) of-edges ∙ get_or-map (edge_of t r.scale) s.groups k []

  pub of-first : (k : ℕ) → (edge_at axis k).first ≡ head_or 0 (group s k)
  of-first k = ap (λ (e : Edge). e.first) (of-edge k) ∙ first_of t r.scale (group s k)

  pub of-last : (k : ℕ) → (edge_at axis k).last ≡ last_in (group s k)
  of-last k = ap (λ (e : Edge). e.last) (of-edge k) ∙ last-of t r.scale (group s k)

  pub again-join : (k i : ℕ) (e : Edge) (next' : List ℕ) → 0 < length (group s k) → e ≡ with_last (edge_at axis k) i
      → next' ≡ appended next (edge_at axis k).first (edge_at axis k).last i
      → tables axis.dim axis.major_dir full (set axis.edges k e) axis.len next' ≡ shown t r (join s k i)
  unfolding shown
  again-join k i e next' u a b = same_tables _ _ _ _ _ _ _ _ _ _ _ _ of-dim of-major of-full
      (rw (a, of-edge k, of-edges, ← edge-snoc t r.scale (group s k) i u) (sym (map-set (edge_of t r.scale) s.groups k (group s k ++ i ∷ []))))
      of-len
      (rw (b, of-first k, of-last k, of-next))

  pub again-made : (i : ℕ) (e : Edge) (es : List Edge) (next' : List ℕ) → e ≡ edge_of t r.scale (i ∷ [])
      → es ≡ settle (stops_behind r e) empty_edge e axis.edges axis.len
      → next' ≡ set next i i → tables axis.dim axis.major_dir full es (axis.len + 1) next' ≡ shown t r (made t r s i)
  unfolding shown
  again-made i e es next' p q u = same_tables _ _ _ _ _ _ _ _ _ _ _ _ of-dim of-major of-full
      (rw (q, p, of-edges, of-len) (sym (settle-map (edge_of t r.scale) (stops_behind r (edge_of t r.scale (i ∷ []))) [] (i ∷ []) s.groups s.count)))
      (ap (λ (n : ℕ). n + 1) of-len)
      (rw (u, of-next))

  pub again-full : ◌≡◌ {A = Joined} (record { full = true; axis = axis; next = next }) (shown t r (overfull s))
  unfolding shown
  again-full = same_tables _ _ _ _ _ _ _ _ _ _ _ _ of-dim of-major refl of-edges of-len of-next

-- ---- the states of a loop
pub after_next : (t : Segments) (r : Rules) (second : Bool) (s : State) (i : ℕ) → after t r second s (i + 1) ≡ visit t r second (after t r second s i) i
unfolding after
after_next t r second s i = rw (add-one i)

-- A full state stays.
visit-stuck : (t : Segments) (r : Rules) (second : Bool) (s : State) (i : ℕ) → s.full ≡ true → visit t r second s i ≡ s
unfolding visit
visit-stuck t r second s i h = rw h

pub after-stuck : (t : Segments) (r : Rules) (second : Bool) (s : State) (i d : ℕ) → (after t r second s i).full ≡ true
    → after t r second s (d + i) ≡ after t r second s i
unfolding after
after-stuck t r second s i zero h = rw zero-add
after-stuck t r second s i (suc d) h =
    let e = after-stuck t r second s i d h in
    rw (suc-add d i) (visit-stuck t r second (after t r second s (d + i)) (d + i) (ap (λ (x : State). x.full) e ∙ h) ∙ e)
