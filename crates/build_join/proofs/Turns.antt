-- One turn of a loop, as a function's loop takes it.
use mathlib.Core.Path.{◌≡◌, refl, sym, ap, ◌∙◌}
use mathlib.Core.Bool.{Bool, true, false, ◌&&◌}
use mathlib.Core.List.{List, [], ◌∷◌, map}
use Prim.Native.Nat.{ℕ, zero, suc, ◌+◌, ◌-◌, ◌≤◌, ◌<◌}
use native.Mathlib.Nat.{sub-zero}
use native.Mathlib.Omega.{arith}
use borrow.Author.Tests.{le-ltb}
use lib.IntN.{ℤ}
use lib.ListN.{set, replicate}
use Rattle.signed.specs.Distance.{distance}
use Rattle.axis.specs.declared.edge.Axis.{Axis}
use Rattle.axis.specs.declared.edge.Edge.{Edge}
use Rattle.axis.specs.declared.segment.Segment.{Segment}
use Rattle.axis.specs.declared.segment.Segments.{Segments}
use Rattle.axis.specs.Edge.{edge_at, empty_edge, with_last}
use Rattle.axis.specs.Limits.{most_edges, most_segments}
use Rattle.axis.specs.Ring.{walk, ends}
use Rattle.axis.specs.Segment.{segment_at}
use Rattle.build_join.specs.declared.join.Joined.{Joined}
use Rattle.build_join.specs.declared.rules.Rules.{Rules}
use Rattle.build_join.specs.Joining.{
  fits,
  fits_in,
  stops_behind,
  settle,
  skips,
  edge_of,
  appended,
  State,
  group,
  overfull,
  start,
  unjoined,
  shown,
  limit_behind,
  seek,
  may_join,
  behind,
  place_of,
  visit,
  after,
  begun,
  state_at,
}
use Rattle.build_join.specs.Walks.{next_in, Latin, StemsOf, stems_go}
use Rattle.signed.proofs.By.{by₂}
use Rattle.build_join.proofs.Members.{first-in}
use Rattle.build_join.proofs.Stems.{stems-agree}
use Rattle.build_join.proofs.Good.{Good, good, last-below, members-below, ring-walk}
use Rattle.build_join.proofs.Steps.{
  tables,
  visit-skip,
  visit-join,
  visit-none,
  visit-full,
  visit-made,
  of-len,
  of-full,
  of-next,
  of-edge,
  of-first,
  of-last,
  again-join,
  again-made,
  again-full,
  after_next,
  after-stuck,
}
use Rattle.build_join.proofs.Searching.{seek-no, seek-yes, seek-end, seek_stop}

-- the tables are those of the state before segment i
abbrev pub Stands : Segments → Rules → Bool → ℕ → Bool → Axis → List ℕ → Type 0
Stands t r second i full axis next = ◌≡◌ {A = Joined} (record { full = full; axis = axis; next = next }) (shown t r (state_at t r second i))

-- where segment i goes
abbrev pub place : Segments → Rules → Bool → ℕ → ℕ
place t r second i = place_of t r second (state_at t r second i) i

-- what is left of the search for it
abbrev pub left : Segments → Rules → Bool → ℕ → ℕ → ℕ → ℕ → ℕ → ℕ
left t r second i n k best limit = seek (may_join t r second (state_at t r second i) i) (behind t r second (state_at t r second i) i) (n - k) k best limit

-- no edge yet
pub map-replicate : {A B : Type 0} (f : A → B) (n : ℕ) (a : A) → map f (replicate n a) ≡ replicate n (f a)
map-replicate f zero a = refl
map-replicate {A} {B} f (suc n) a = ap (λ (l : List B). f a ∷ l) (map-replicate f n a)

pub none-begun : (t : Segments) (r : Rules) (j : Joined) → j ≡ unjoined r.dim r.major_dir → j ≡ shown t r (begun t r false)
unfolding begun start shown
none-begun t r j e =
    e ∙ ap (λ (es : List Edge). record {
      full = false;
      axis = record { dim = r.dim; major_dir = r.major_dir; edges = es; len = 0 };
      next = replicate
          most_segments 0;
    })
    (sym (map-replicate (edge_of t r.scale) most_edges []))

-- the first loop is everyone's
pub latin-first : (r : Rules) → Latin r false
latin-first r e = absurd (let z : ◌≡◌ {A = ℕ} 0 1 = cc in omega arith)

-- a loop starts with the tables of its begin
pub stands-begun : (t : Segments) (r : Rules) (second : Bool) (j : Joined) → j ≡ shown t r (begun t r second) → j.full ≡ false
    → Stands t r second 0 false j.axis j.next
unfolding after
stands-begun t r second j e f = ap (λ (b : Bool). record { full = b; axis = j.axis; next = j.next }) (sym f) ∙ e

-- nothing is nearer than 0
pub never-0 : (second : Bool) (s : Segment) (e : Edge) → fits_in second 0 s e ≡ false
unfolding fits_in fits
never-0 false s e = rw (le-ltb (distance s.pos e.fpos) 0 (omega arith))
never-0 true s e = le-ltb (distance s.pos e.fpos) 0 (omega arith)

module _ (t : Segments) (r : Rules) (second : Bool) (i : ℕ) (axis : Axis) (next : List ℕ) (long : t.len ≤ most_segments) (latin : Latin r second)
    (J : Stands t r second i false axis next) where
  abbrev s : State
  s = state_at t r second i

  going : s.full ≡ false
  going = sym (of-full t r s false axis next J)

  count-is : axis.len ≡ s.count
  count-is = of-len t r s false axis next J

  onward : (x : State) (j : Joined) → j ≡ shown t r x → state_at t r second (i + 1) ≡ x → j ≡ shown t r (state_at t r second (i + 1))
  onward x j e h = e ∙ ap (shown t r) (sym h)

  one : state_at t r second (i + 1) ≡ visit t r second s i
  one = after_next t r second (begun t r second) i

  pub turn-room : i ≤ t.len → axis.len ≤ most_edges
  turn-room h = omega (arith, count-is, (good t r second latin long i h).room)

  pub turn-skip : skips r second (segment_at t i) ≡ true → Stands t r second (i + 1) false axis next
  turn-skip h = onward s _ J (one ∙ visit-skip t r second s i going h)

  -- ---- the search
  pub search-start : left t r second i axis.len 0 axis.len r.near ≡ place t r second i
  unfolding place_of
  search-start = rw (sub-zero, count-is)

  module _ (hi : i < t.len) where
    G : Good t r second s i
    G = good t r second latin long i (omega arith)

    pub turn_last : (k : ℕ) → k < axis.len → (edge_at axis k).last < most_segments
    turn_last k hk = omega (arith, last-below t r second s i long hi G k (omega (arith, count-is)), of-last t r s false axis next J k)

    module _ (k : ℕ) (hk : k < axis.len) where
      in_count : k < s.count
      in_count = omega (arith, count-is)

      -- the ring of edge k
      pub turn-ring : ((edge_at axis k).first < most_segments) × (ends (next_in next) most_segments (edge_at axis k).last most_segments (edge_at axis k).first ≡ true)
      turn-ring =
          let w = ring-walk t r second s i k long G in_count in
          let f : (edge_at axis k).first < most_segments = omega (
            arith,
            of-first t r s false axis next J k,
            members-below t r second s i k long G in_count _
                (first-in (group s k) (G.used k in_count)),
          ) in
          (f, rw (of-first t r s false axis next J k, of-last t r s false axis next J k, of-next t r s false axis next J) w.1)

      ring-is : walk (next_in next) (edge_at axis k).last most_segments (edge_at axis k).first ≡ group s k
      ring-is =
          rw (of-first t r s false axis next J k, of-last t r s false axis next J k, of-next t r s false axis next J)
          (ring-walk t r second s i k long G in_count).0

      edge-is : edge_at axis k ≡ edge_of t r.scale (group s k)
      edge-is = of-edge t r s false axis next J k

      -- what the test of the edge said
      pub may-said : (stems : List ℤ) (limit : ℕ) (v : Bool) → StemsOf t r.cjk stems
          → v ≡ (fits_in second limit (segment_at t i) (edge_at axis k) && stems_go stems r.near i
          (walk (next_in next) (edge_at axis k).last most_segments (edge_at axis k).first))
          → v ≡ may_join t r second s i k limit
      unfolding may_join
      may-said stems limit v S e =
          by₂ ◌&&◌ e
          (ap (fits_in second limit (segment_at t i)) edge-is)
          (ap (stems_go stems r.near i) ring-is ∙ stems-agree t r.cjk stems r.near i (group s k) S hi
          (λ x h. members-below t r second s i k long G in_count x h))

      module _ (best limit x : ℕ) (p : left t r second i axis.len k best limit ≡ x) (v : Bool) (said : v ≡ may_join t r second s i k limit) where
        pub search_no : v ≡ false → left t r second i axis.len (k + 1) best limit ≡ x
        search_no e = seek-no _ _ axis.len k best limit x p hk (sym said ∙ e)

        pub search-yes : v ≡ true → (l : ℕ) → l ≡ limit_behind r.cjk (distance (segment_at t i).pos (edge_at axis k).fpos)
            → left t r second i axis.len (k + 1) k l ≡ x
        unfolding behind
        search-yes e l g =
            seek-yes _ _ axis.len k best limit x p hk (sym said ∙ e) l
            (g ∙ ap (λ (y : Edge). limit_behind r.cjk (distance (segment_at t i).pos y.fpos)) edge-is)

    pub search-end : (k best limit x : ℕ) → left t r second i axis.len k best limit ≡ x → axis.len ≤ k → x ≡ best
    search-end k best limit x p h = seek-end _ _ axis.len k best limit x p h

    pub search-stop : (k best limit x : ℕ) → left t r second i axis.len k best limit ≡ x → limit ≡ 0 → x ≡ best
    unfolding may_join
    search-stop k best limit x p h =
        seek_stop _ _ (λ k. rw (never-0 second (segment_at t i) (edge_of t r.scale (group s k)))) (axis.len - k) k best limit x h p

    -- ---- the place is known
    module _ (free : skips r second (segment_at t i) ≡ false) (k : ℕ) (found : place t r second i ≡ k) where
      pub turn-join : (e : Edge) (next' : List ℕ) → k < axis.len → e ≡ with_last (edge_at axis k) i
          → next' ≡ appended next (edge_at axis k).first (edge_at axis k).last i
          → tables axis.dim axis.major_dir false (set axis.edges k e) axis.len next' ≡ shown t r (state_at t r second (i + 1))
      turn-join e next' hk a b =
          let h : k < s.count = omega (arith, count-is) in
          onward _ _ (again-join t r s false axis next J k i e next' (G.used k h) a b) (one ∙ visit-join t r second s i going free k found h)

      pub turn-none : axis.len ≤ k → second ≡ true → Stands t r second (i + 1) false axis next
      turn-none hk b = onward s _ J (one ∙ visit-none t r second s i going free k found (omega (arith, count-is)) b)

      pub turn-made : axis.len ≤ k → second ≡ false → axis.len < most_edges → (e : Edge) (es : List Edge) (next' : List ℕ) → e ≡ edge_of t r.scale (i ∷ [])
          → es ≡ settle (stops_behind r e) empty_edge e axis.edges axis.len → next' ≡ set next i i
          → tables axis.dim axis.major_dir false es (axis.len + 1) next' ≡ shown t r (state_at t r second (i + 1))
      turn-made hk b room e es next' p q u =
          onward _ _ (again-made t r s false axis next J i e es next' p q u)
          (one ∙ visit-made t r second s i going free k found (omega (arith, count-is)) b (omega (arith, count-is)))

      pub turn-full : axis.len ≤ k → second ≡ false → axis.len ≡ most_edges → Stands t r second t.len true axis next
      turn-full hk b room =
          let h : state_at t r second (i + 1) ≡ overfull s = one ∙ visit-full t r second s i going free k found (omega (arith, count-is)) b
          (omega (arith, count-is)) in
          let e : t.len - (i + 1) + (i + 1) ≡ t.len = omega arith in
          let w : state_at t r second t.len ≡ state_at t r second (i + 1) = rw e
          at (after-stuck t r second (begun t r second) (i + 1) (t.len - (i + 1)) (ap (λ (x : State). x.full) h)) in
          again-full t r s false axis next J ∙ ap (shown t r) (sym (w ∙ h))
