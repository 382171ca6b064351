-- What every edge keeps while the properties are computed: its positions, direction, blue, ring and mark; its link and its serif stay edges.
use Rattle.std.specs.Prelude.{None, Some}
use mathlib.Core.Path.{◌≡◌, refl, sym, subst}
use mathlib.Core.Bool.{Bool, true, false, cond, ◌&&◌}
use mathlib.Core.Logic.{◌⊎◌, inl, inr, ⊎_elim}
use mathlib.Core.List.{[], ◌∷◌}
use Prim.Native.Nat.{ℕ, zero, suc, ◌<◌, ◌≤◌}
use native.Mathlib.Omega.{arith}
use borrow.Author.Tests.{eqb-true, eqb-false, ltb-true}
use lib.Dec.{eqb, ltb}
use lib.IntN.{ℤ, pos}
use lib.ListN.{length}
use lib.Seq.{get_or-set_same, get_or-set_other, set_out}
use lib.Signed.{lt_z}
use Rattle.signed.specs.Distance.{distance}
use Rattle.signed.proofs.Signed.{lt-or-le}
use Rattle.signed.proofs.Choices.{either_way}
use Rattle.axis.specs.Link.{Link}
use Rattle.axis.specs.declared.edge.Axis.{Axis}
use Rattle.axis.specs.declared.edge.Edge.{Edge}
use Rattle.axis.specs.declared.flags.Flags.{Flags}
use Rattle.axis.specs.declared.segment.Segments.{Segments}
use Rattle.axis.specs.Accepted.{Below, AxisWithin}
use Rattle.axis.specs.Edge.{empty_edge, edge_at, put_edge, flagged, joined_to}
use Rattle.axis.specs.Limits.{most_segments, most_edges}
use Rattle.axis.specs.Link.{index_or}
use Rattle.axis.specs.Ring.{next_of, walk, ends, members}
use Rattle.axis.specs.Segment.{segment_at}
use Rattle.axis.proofs.Acceptance.{below_none, below-to}
use Rattle.refusals.proofs.Tests.{and_first, and_second}
use Rattle.build_properties.specs.declared.join.Join.{Join}
use Rattle.build_properties.specs.Properties.{
  named_edge,
  is_other,
  join_of,
  join_at,
  as_serif,
  chosen,
  put_serif,
  put_link,
  join_by,
  member,
  visits,
  roundness,
  straightness,
  serif_beside,
  with_properties,
  visit,
  edges,
  edge_properties,
}
use Rattle.build_properties.specs.Outcomes.{held_by, nearer, joined_by}
use Rattle.build_properties.specs.Steps.{Ready}

-- ---- indices
pub index_below : (n other : ℕ) (l : Link) → other < n → Below n l → index_or other l < n
index_below n other None h b = h
index_below n other (Some k) h b = b.at k refl

-- ---- one edge
-- an edge of n that was e₀
pub record KeptEdge (n : ℕ) (e₀ e : Edge) : Type 0 where
  pub fpos : e.fpos ≡ e₀.fpos
  pub opos : e.opos ≡ e₀.opos
  pub pos : e.pos ≡ e₀.pos
  pub dir : e.dir ≡ e₀.dir
  pub blue : e.blue ≡ e₀.blue
  pub first : e.first ≡ e₀.first
  pub last : e.last ≡ e₀.last
  pub mark : e.mark ≡ e₀.mark
  pub link : Below n e.link
  pub serif : Below n e.serif

module _ (n : ℕ) (e₀ e : Edge) (h : KeptEdge n e₀ e) where
  with-kept : (link serif : Link) → Below n link → Below n serif → KeptEdge n e₀ (joined_to e link serif)
  with-kept link serif p q =
      record {
        fpos = h.fpos;
        opos = h.opos;
        pos = h.pos;
        dir = h.dir;
        blue = h.blue;
        first = h.first;
        last = h.last;
        mark = h.mark;
        link = p;
        serif =
            q;
      }

  flagged-kept : (f : Flags) → KeptEdge n e₀ (flagged e f)
  flagged-kept f =
      record {
        fpos = h.fpos;
        opos = h.opos;
        pos = h.pos;
        dir = h.dir;
        blue = h.blue;
        first = h.first;
        last = h.last;
        mark = h.mark;
        link = h.link;
        serif = h.serif;
      }

  held_below : (b : Bool) → Below n (held_by b e)
  held_below true = h.serif
  held_below false = h.link

  nearer-below : (e2 : Edge) (delta : ℤ) (asked held : Link) → Below n asked → Below n held → Below n (nearer e e2 delta asked held)
  unfolding nearer
  nearer-below e2 delta None held p q = q
  nearer-below e2 delta (Some k) None p q = p
  nearer-below e2 delta (Some k) (Some o) p q = either_way (Below n) (lt_z delta (pos (distance e.fpos e2.fpos))) (Some k) (Some o) p q

  joined-kept : (e2 : Edge) (j : Join) → Below n j.edge → KeptEdge n e₀ (joined_by e e2 j)
  unfolding joined_by
  joined-kept e2 j p =
      either_way (KeptEdge n e₀) j.is_serif (joined_to e e.link (nearer e e2 j.delta j.edge e.serif))
      (joined_to e (nearer e e2 j.delta j.edge e.link) e.serif)
      (with-kept e.link (nearer e e2 j.delta j.edge e.serif) h.link (nearer-below e2 j.delta j.edge e.serif p h.serif))
      (with-kept (nearer e e2 j.delta j.edge e.link) e.serif (nearer-below e2 j.delta j.edge e.link p h.link) h.serif)

  chosen-below : (axis : Axis) (delta : ℤ) (q : ℕ) (held : Link) → q < n → Below n held → Below n (Some (chosen axis e delta q held))
  unfolding chosen
  chosen-below axis delta q None p b = below-to n q p
  chosen-below axis delta q (Some o) p b =
      below-to n _ (either_way (λ (k : ℕ). k < n) (lt_z delta (pos (distance e.fpos (edge_at axis o).fpos))) q o p (b.at o refl))

  with-properties-kept : (round straight : ℕ) → KeptEdge n e₀ (with_properties round straight e)
  unfolding with_properties
  with-properties-kept round straight = let p = with-kept e.link (serif_beside e.link e.serif) h.link (beside e.link e.serif h.serif) in
      record {
        fpos = p.fpos;
        opos = p.opos;
        pos = p.pos;
        dir = p.dir;
        blue = p.blue;
        first = p.first;
        last = p.last;
        mark = p.mark;
        link = p.link;
        serif = p.serif;
      }
    where
      beside : (l s : Link) → Below n s → Below n (serif_beside l s)
      beside None s b = b
      beside (Some k) s b = below_none n

-- ---- the table
-- an axis that was axis₀, and whose links and serifs are edges
pub record Kept (axis₀ axis : Axis) : Type 0 where
  pub dim : axis.dim ≡ axis₀.dim
  pub major : axis.major_dir ≡ axis₀.major_dir
  pub len : axis.len ≡ axis₀.len
  pub edge : (k : ℕ) → k < axis₀.len → KeptEdge axis₀.len (edge_at axis₀ k) (edge_at axis k)

same_place : (axis : Axis) (i : ℕ) (e : Edge) → (edge_at (put_edge axis i e) i ≡ e) ⊎ (edge_at (put_edge axis i e) i ≡ edge_at axis i)
same_place axis i e =
    ⊎_elim
    (λ (h : i < length axis.edges). inl (get_or-set_same axis.edges i e empty_edge h))
    (λ (h : length axis.edges ≤ i). inr (rw set_out))
    (lt-or-le i (length axis.edges))

put-kept : (axis₀ axis : Axis) (i : ℕ) (e : Edge) → Kept axis₀ axis → KeptEdge axis₀.len (edge_at axis₀ i) e → Kept axis₀ (put_edge axis i e)
put-kept axis₀ axis i e h p = record { dim = h.dim; major = h.major; len = h.len; edge = λ k l. by_place k l (eqb k i) refl }
  where
    by_place : (k : ℕ) → k < axis₀.len → (b : Bool) → eqb k i ≡ b → KeptEdge axis₀.len (edge_at axis₀ k) (edge_at (put_edge axis i e) k)
    by_place k l true q =
        rw (eqb-true k i q)
        (⊎_elim
        (λ (w : edge_at (put_edge axis i e) i ≡ e). subst (KeptEdge axis₀.len (edge_at axis₀ i)) (sym w) p)
        (λ (w : edge_at (put_edge axis i e) i ≡ edge_at axis i). subst (KeptEdge axis₀.len (edge_at axis₀ i)) (sym w)
        (h.edge i (let z = eqb-true k i q in omega arith)))
        (same_place axis i e))
    by_place k l false q = subst (KeptEdge axis₀.len (edge_at axis₀ k)) (sym (get_or-set_other axis.edges i k e empty_edge (eqb-false k i q))) (h.edge k l)

-- ---- the visits
module _ (axis₀ : Axis) (t : Segments) (r : Ready axis₀ t) where
  edge-below : (ix : ℕ) (l : Link) → Below t.len l → Below axis₀.len (named_edge l (segment_at t (index_or ix l)))
  edge-below ix None b = below_none axis₀.len
  edge-below ix (Some i) b = (r.segment i (b.at i refl)).edge

  -- an edge that a segment asks for
  pub asked-below : (k ix : ℕ) → ix < t.len → Below axis₀.len (join_at t k ix).edge
  unfolding join_at join_of
  asked-below k ix h =
      let s = segment_at t ix in
      let at = r.segment ix h in
      either_way (λ (j : Join). Below axis₀.len j.edge) (is_other k (named_edge s.serif (segment_at t (index_or ix s.serif)))) _ _
      (edge-below ix s.serif at.serif)
      (edge-below ix s.link at.link)

  module _ (k : ℕ) (hk : k < axis₀.len) where
    join_kept : (b : Bool) (delta : ℤ) (l : Link) (axis : Axis) → Below axis₀.len l → Kept axis₀ axis → Kept axis₀ (join_by k b delta l axis)
    unfolding join_by
    join_kept b delta None axis p h = h
    join_kept b delta (Some q) axis p h =
        let n = axis₀.len in
        let e = edge_at axis k in
        let g = h.edge k hk in
        let v = chosen axis e delta q e.serif in
        let w = chosen axis e delta q e.link in
        let bv : Below n (Some v) = chosen-below n (edge_at axis₀ k) e g axis delta q e.serif (p.at q refl) g.serif in
        let bw : Below n (Some w) = chosen-below n (edge_at axis₀ k) e g axis delta q e.link (p.at q refl) g.link in
        let put = put-kept axis₀ axis k (joined_to e e.link (Some v)) h (with-kept n (edge_at axis₀ k) e g e.link (Some v) g.link bv) in
        either_way (Kept axis₀) b (put_serif k v axis) (put_link k w axis)
        (put-kept axis₀ (put_edge axis k (joined_to e e.link (Some v))) v (as_serif (edge_at (put_edge axis k (joined_to e e.link (Some v))) v)) put
        (flagged-kept n (edge_at axis₀ v) (edge_at (put_edge axis k (joined_to e e.link (Some v))) v) (put.edge v (bv.at v refl)) _))
        (put-kept axis₀ axis k (joined_to e (Some w) e.serif) h (with-kept n (edge_at axis₀ k) e g (Some w) e.serif bw g.serif))

    pub member-kept : (ix : ℕ) (axis : Axis) → ix < t.len → Kept axis₀ axis → Kept axis₀ (member t k ix axis)
    unfolding member
    member-kept ix axis p h = join_kept (join_at t k ix).is_serif (join_at t k ix).delta (join_at t k ix).edge axis (asked-below k ix p) h

    walk_kept : (last n ix : ℕ) (axis : Axis) → ix < t.len → ends (next_of t last) t.len last n ix ≡ true → Kept axis₀ axis
        → Kept axis₀ (visits t k (walk (next_of t last) last n ix) axis)
    unfolding walk ends visits
    walk_kept last zero ix axis p e h = member-kept ix axis p h
    walk_kept last (suc n) ix axis p e h = go (eqb ix last) (walk_kept last n (next_of t last ix) (member t k ix axis)) e
      where
        go : (b : Bool)
            → (next_of t last ix < t.len → ends (next_of t last) t.len last n (next_of t last ix) ≡ true → Kept axis₀ (member t k ix axis)
            → Kept axis₀ (visits t k (walk (next_of t last) last n (next_of t last ix)) (member t k ix axis)))
            → cond b true (ltb (next_of t last ix) t.len && ends (next_of t last) t.len last n (next_of t last ix)) ≡ true
            → Kept axis₀ (visits t k (cond b (ix ∷ []) (ix ∷ walk (next_of t last) last n (next_of t last ix))) axis)
        go true f z = member-kept ix axis p h
        go false f z = f (ltb-true (next_of t last ix) t.len (and_first _ _ z)) (and_second (ltb (next_of t last ix) t.len) _ z) (member-kept ix axis p h)

    visit-kept : (axis : Axis) → Kept axis₀ axis → Kept axis₀ (visit t k (members axis t k) axis)
    unfolding visit
    visit-kept axis h =
        let g = h.edge k hk in
        let ring = r.rings.ring k hk in
        let ms = members axis t k in
        let v : Kept axis₀ (visits t k ms axis) = rw (g.first, g.last)
        (walk_kept (edge_at axis₀ k).last most_segments (edge_at axis₀ k).first axis ring.starts ring.stops h) in
        put-kept axis₀ (visits t k ms axis) k (with_properties (roundness t ms) (straightness t ms) (edge_at (visits t k ms axis) k)) v
        (with-properties-kept axis₀.len (edge_at axis₀ k) (edge_at (visits t k ms axis) k) (v.edge k hk) (roundness t ms) (straightness t ms))

  -- an axis that is kept is as ready
  pub ready-kept : (axis : Axis) → Kept axis₀ axis → Ready axis t
  ready-kept axis h = record {
    few-edges = rw h.len r.few-edges;
    few-segments = r.few-segments;
    edge = λ k l. rw h.len (let g = h.edge k (rw h.len at l) in record { link = g.link; serif = g.serif });
    segment = λ i l. rw h.len (r.segment i l);
    rings = record { ring = λ k l. let q : k < axis₀.len = rw h.len at l in let g = h.edge k q in rw (g.first, g.last) (r.rings.ring k q) };
  }

  -- ---- the places that a visit reads and writes
  pub serif-inside : (ix place : ℕ) → ix < t.len → place ≡ index_or ix (segment_at t ix).serif → place < most_segments
  serif-inside ix place h p = let b = index_below t.len ix (segment_at t ix).serif h (r.segment ix h).serif in omega (arith, b, p, r.few-segments)

  pub link-inside : (ix place : ℕ) → ix < t.len → place ≡ index_or ix (segment_at t ix).link → place < most_segments
  link-inside ix place h p = let b = index_below t.len ix (segment_at t ix).link h (r.segment ix h).link in omega (arith, b, p, r.few-segments)

  pub held-inside : (k place : ℕ) (b : Bool) (e : Edge) → k < axis₀.len → KeptEdge axis₀.len (edge_at axis₀ k) e → place ≡ index_or k (held_by b e)
      → place < most_edges
  held-inside k place b e h g p =
      let q = index_below axis₀.len k (held_by b e) h (held_below axis₀.len (edge_at axis₀ k) e g b) in omega (arith, q, p, r.few-edges)

  pub joined-inside : (axis : Axis) (k ix at1 at2 place : ℕ) (j : Join) (e e2 : Edge) → k < axis₀.len → ix < t.len → Kept axis₀ axis
      → at1 ≡ index_or ix (segment_at t ix).serif
      → at2 ≡ index_or ix (segment_at t ix).link → j ≡ join_of k (segment_at t ix) (segment_at t at1) (segment_at t at2) → e ≡ joined_by (edge_at axis k) e2 j
      → place ≡ index_or k (held_by j.is_serif e) → place < most_edges
  unfolding join_at
  joined-inside axis k ix at1 at2 place j e e2 hk hx h p1 p2 p3 p4 p5 =
      let asked : Below axis₀.len j.edge = rw (p3, p1, p2) (asked-below k ix hx) in
      held-inside k place j.is_serif e hk (rw p4 (joined-kept axis₀.len (edge_at axis₀ k) (edge_at axis k) (h.edge k hk) e2 j asked)) p5

  pub start-kept : Kept axis₀ axis₀
  start-kept = record {
    dim = refl;
    major = refl;
    len = refl;
    edge =
        λ k l. record {
          fpos = refl;
          opos = refl;
          pos = refl;
          dir = refl;
          blue = refl;
          first = refl;
          last = refl;
          mark = refl;
          link = (r.edge k l).link;
          serif = (r.edge k l).serif;
        };
  }

  pub edges-kept : (k : ℕ) → k ≤ axis₀.len → Kept axis₀ (edges t k axis₀)
  unfolding edges
  edges-kept zero h = start-kept
  edges-kept (suc k) h = visit-kept k (omega arith) (edges t k axis₀) (edges-kept k (omega arith))

  -- the whole
  pub properties-kept : Kept axis₀ (edge_properties axis₀ t)
  unfolding edge_properties
  properties-kept = edges-kept axis₀.len (omega arith)

  -- positions within their limits stay so, and the edges are accepted as before
  pub within-kept : (m : ℕ) → AxisWithin m axis₀ → AxisWithin m (edge_properties axis₀ t)
  within-kept m w =
      let h = properties-kept in
      record {
        few = rw h.len w.few;
        edge = λ i l.
            let q : i < axis₀.len = rw h.len at l in
            let g = h.edge i q in
            let e = w.edge i q in
            rw h.len (record { opos = rw g.opos e.opos; pos = rw g.pos e.pos; blue = rw g.blue e.blue; link = g.link; serif = g.serif });
      }
