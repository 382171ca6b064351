-- Packed again, packed tables are what they are.
use Rattle.std.specs.Prelude.{None, Some}
use mathlib.Core.Path.{◌≡◌, refl, sym, ap, subst, ◌∙◌}
use mathlib.Core.Bool.{Bool, true, false, cond, ◌&&◌, false≢true}
use mathlib.Core.Logic.{◌⊎◌, ⊎_elim}
use Prim.Native.Nat.{ℕ, suc, ◌≤◌, ◌<◌}
use native.Mathlib.Omega.{arith}
use lib.ListN.{length}
use lib.Seq.{ext_get_or}
use Rattle.signed.proofs.Signed.{lt-or-le}
use Rattle.refusals.proofs.Tests.{and_first, and_second}
use Rattle.axis.specs.declared.edge.Axis.{Axis}
use Rattle.axis.specs.Link.{Link}
use Rattle.axis.specs.declared.segment.Segment.{Segment}
use Rattle.axis.specs.declared.segment.Segments.{Segments}
use Rattle.axis.specs.Accepted.{Below}
use Rattle.axis.specs.Edge.{empty_edge, edge_at}
use Rattle.axis.specs.Link.{is_linked}
use Rattle.axis.specs.Segment.{empty_segment, segment_at}
use Rattle.pack.proofs.Counts.{count-all, count-upto}
use Rattle.pack.proofs.Rounds.{and_both}
use Rattle.pack.specs.Kept.{leads, has_edge, kept, new_index}
use Rattle.pack.specs.Packed.{moved, packed_segment, packed_edge, kept_count, packed_segments, packed_axis}
use Rattle.pack.proofs.Keeping.{leads-is, leads-by-link, leads-by-serif, edge-has, kept-least, kept-starts}
use Rattle.pack.proofs.Choices.{chosen_is}
use Rattle.pack.proofs.Places.{kept-few, new-below, packed-at, left_at, packed-length, packed-len, packed-edge-at, left-edge-at, packed-edges-length}

-- a renumbering that leaves the numbers up to n leaves an index up to n
moved_same : (new : ℕ → ℕ) (n : ℕ) → ((i : ℕ) → i ≤ n → new i ≡ i) → (l : Link) → Below (suc n) l → moved new l ≡ l
moved_same new n h None b = refl
moved_same new n h (Some k) b = ap Some (h k (let q = b.at k refl in omega arith))

moved_upto : (new : ℕ → ℕ) (n m : ℕ) → ((i : ℕ) → i < n → new i ≤ m) → (l : Link) → Below n l → Below (suc m) (moved new l)
moved_upto new n m h None b = record { at = λ (k : ℕ) (e : None ≡ Some k). absurd (none-to k e) }
  where
    none-to : (k : ℕ) → None ≡ Some k → ⊥
    none-to k e = false≢true (ap is_linked e)
moved_upto new n m h (Some j) b =
    record { at = λ (k : ℕ) (e : Some (new j) ≡ Some k). let q = h j (b.at j refl) in let r = same_index (new j) k e in omega arith }
  where
    index : Link → ℕ
    index None = 0
    index (Some i) = i

    same_index : (i k : ℕ) → Some i ≡ Some k → i ≡ k
    same_index i k e = ap index e

-- indices of segments that are segments
pub record Indexed (t : Segments) : Type 0 where
  pub whole : t.len ≤ length t.segments
  pub linked : (i : ℕ) → i < t.len → Below t.len (segment_at t i).link
  pub serifed : (i : ℕ) → i < t.len → Below t.len (segment_at t i).serif
  pub nexts : (i : ℕ) → i < t.len → Below t.len (segment_at t i).next

module _ (t : Segments) (x : Indexed t) where
  abbrev new : ℕ → ℕ
  new = new_index t

  abbrev table : Segments
  table = packed_segments t

  abbrev n : ℕ
  n = kept_count t

  below-table : (i : ℕ) → i < n → i < table.len
  below-table i h = subst (λ (m : ℕ). i < m) (sym (packed-len t)) h

  -- ---- every segment of the packed table is kept
  -- where a kept segment led, its new one leads to the new one
  leads-new : (i k : ℕ) → i < t.len → kept t i ≡ true → leads t i k ≡ true → leads table (new i) (new k) ≡ true
  leads-new i k h e l =
      ⊎_elim
      (λ (q : (segment_at t i).link ≡ Some k). leads-by-link table (new i) (new k) (ap (λ (s : Segment). s.link) (packed-at t i h e) ∙ ap (moved new) q))
      (λ (q : (segment_at t i).serif ≡ Some k). leads-by-serif table (new i) (new k) (ap (λ (s : Segment). s.serif) (packed-at t i h e) ∙ ap (moved new) q))
      (leads-is t i k l)

  -- a kept segment whose new one is kept
  abbrev both : ℕ → Bool
  both k = kept t k && kept table (new k)

  both-on : (i k : ℕ) → i < t.len → k < t.len → both i ≡ true → leads t i k ≡ true → both k ≡ true
  both-on i k h g e l =
      let a = and_first _ _ e in
      let b = and_second (kept t i) _ e in
      let c = (kept-least t).closed.on i k h g a l in
      and_both (kept t k) _ c
      ((kept-least table).closed.on (new i) (new k) (below-table (new i) (new-below t i h a)) (below-table (new k) (new-below t k g c)) b (leads-new i k h a l))

  both-starts : (k : ℕ) → k < t.len → has_edge t k ≡ true → both k ≡ true
  both-starts k h e =
      let a = (kept-least t).holds k e in
      and_both (kept t k) _ a
      (kept-starts table (new k) (below-table (new k) (new-below t k h a)) (ap (λ (s : Segment). is_linked s.edge) (packed-at t k h a) ∙ (edge-has t k e).1))

  new-kept : (k : ℕ) → k < t.len → kept t k ≡ true → kept table (new k) ≡ true
  new-kept k h e = and_second (kept t k) _ ((kept-least t).least both (record { on = both-on }) both-starts k h e)

  pub all-kept : (j : ℕ) → j < n → kept table j ≡ true
  all-kept j h =
      let c = chosen_is (kept t) t.len j h in
      subst (λ (i : ℕ). kept table i ≡ true) c.place (new-kept c.it c.below c.mine)

  -- so none is renumbered, and none is dropped
  pub same_index : (j : ℕ) → j ≤ n → new_index table j ≡ j
  same_index j h = count-all (kept table) j (λ i l. all-kept i (omega arith))

  pub same_count : kept_count table ≡ n
  same_count = ap (new_index table) (packed-len t) ∙ same_index n (omega arith)

  -- ---- every segment of it is what it is
  up : (i : ℕ) → i < t.len → new i ≤ n
  up i h = count-upto (kept t) i t.len (omega arith)

  still : (l : Link) → Below t.len l → moved (new_index table) (moved new l) ≡ moved new l
  still l b = moved_same (new_index table) n same_index (moved new l) (moved_upto new t.len n up l b)

  next-still : (b : Bool) (l : Link) → Below t.len l → cond b (moved (new_index table) (cond b (moved new l) None)) None
      ≡ cond b (moved new l) None
  next-still true l w = still l w
  next-still false l w = refl

  segment-still : (k : ℕ) → k < t.len → packed_segment (new_index table) (packed_segment new (segment_at t k)) ≡ packed_segment new (segment_at t k)
  segment-still k h =
      let s = segment_at t k in
      let p = still s.link (x.linked k h) in
      let q = still s.serif (x.serifed k h) in
      let r = next-still (is_linked s.edge) s.next (x.nexts k h) in
      λ j. record {
        flags = s.flags;
        dir = s.dir;
        pos = s.pos;
        delta = s.delta;
        min_coord = s.min_coord;
        max_coord = s.max_coord;
        height = s.height;
        score = s.score;
        len = s.len;
        link = p j;
        serif = q j;
        first = s.first;
        last = s.last;
        edge = s.edge;
        next = r j;
      }

  at_again : (j : ℕ) → j < n → segment_at (packed_segments table) j ≡ segment_at table j
  at_again j h =
      let c = chosen_is (kept t) t.len j h in
      let here : segment_at table j ≡ packed_segment new (segment_at t c.it) = ap (segment_at table) (sym c.place)
      ∙ packed-at t c.it c.below c.mine in
      ap (segment_at (packed_segments table)) (sym (same_index j (omega arith)))
      ∙ packed-at table j (below-table j h) (all-kept j h)
      ∙ ap (packed_segment (new_index table)) here
      ∙ segment-still c.it c.below
      ∙ sym here

  left-again : (j : ℕ) → n ≤ j → segment_at (packed_segments table) j ≡ segment_at table j
  left-again j h = left_at table j (subst (λ (m : ℕ). m ≤ j) (sym (packed-len t)) h)

  table-whole : table.len ≤ length table.segments
  table-whole = omega (arith, packed-len t, packed-length t x.whole, kept-few t, x.whole)

  list-again : (packed_segments table).segments ≡ table.segments
  list-again =
      ext_get_or empty_segment (packed_segments table).segments table.segments (packed-length table table-whole)
      (λ j l. ⊎_elim (λ (h : j < n). at_again j h) (λ (h : n ≤ j). left-again j h) (lt-or-le j n))

  len-again : (packed_segments table).len ≡ table.len
  len-again = packed-len table ∙ same_count ∙ sym (packed-len t)

  -- packed again, the segments are what they are
  pub segments-twice : packed_segments table ≡ table
  segments-twice = λ j. record { segments = list-again j; len = len-again j }

  -- ---- and so are the edges
  module _
      (axis : Axis) (whole : axis.len ≤ length axis.edges)
      (first : (k : ℕ) → k < axis.len → (edge_at axis k).first < t.len) (last : (k : ℕ) → k < axis.len → (edge_at axis k).last < t.len) where
    abbrev packed : Axis
    packed = packed_axis t axis

    packed-axis-len : packed.len ≡ axis.len
    unfolding packed_axis
    packed-axis-len = refl

    packed-whole : packed.len ≤ length packed.edges
    packed-whole = omega (arith, packed-axis-len, packed-edges-length t axis whole, whole)

    edge-still : (k : ℕ) → k < axis.len → packed_edge (new_index table) (packed_edge new (edge_at axis k)) ≡ packed_edge new (edge_at axis k)
    edge-still k h =
        let e = edge_at axis k in
        let p = same_index (new e.first) (up e.first (first k h)) in
        let q = same_index (new e.last) (up e.last (last k h)) in
        λ j. record {
          fpos = e.fpos;
          opos = e.opos;
          pos = e.pos;
          flags = e.flags;
          dir = e.dir;
          blue = e.blue;
          link = e.link;
          serif = e.serif;
          first = p j;
          last = q j;
          mark = e.mark;
        }

    edge-again : (k : ℕ) → k < axis.len → edge_at (packed_axis table packed) k ≡ edge_at packed k
    edge-again k h =
        packed-edge-at table packed packed-whole k (subst (λ (m : ℕ). k < m) (sym packed-axis-len) h)
        ∙ ap (packed_edge (new_index table)) (packed-edge-at t axis whole k h)
        ∙ edge-still k h
        ∙ sym (packed-edge-at t axis whole k h)

    edges-again : (packed_axis table packed).edges ≡ packed.edges
    edges-again =
        ext_get_or empty_edge (packed_axis table packed).edges packed.edges (packed-edges-length table packed packed-whole)
        (λ k l.
        ⊎_elim
        (λ (h : k < axis.len). edge-again k h)
        (λ (h : axis.len ≤ k). left-edge-at table packed packed-whole k (subst (λ (m : ℕ). m ≤ k) (sym packed-axis-len) h))
        (lt-or-le k axis.len))

    pub axis-twice : packed_axis table packed ≡ packed
    unfolding packed_axis
    axis-twice = λ j. record { dim = axis.dim; major_dir = axis.major_dir; edges = edges-again j; len = axis.len }
