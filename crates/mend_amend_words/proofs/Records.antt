-- One segment and one edge whose fields are altered and listed.
use Rattle.std.specs.Prelude.{None, Some}
use mathlib.Core.Path.{◌≡◌, refl, sym, ap, subst, ◌∙◌}
use mathlib.Core.Bool.{Bool, true, false, cond}
use mathlib.Core.List.{List, ◌++◌, append_assoc}
use Prim.Native.Nat.{ℕ, ◌+◌, ◌*◌, ◌≤◌, ◌<◌}
use native.Mathlib.Nat.{mod-lt}
use native.Mathlib.Omega.{arith}
use lib.Dec.{ltb}
use lib.ListN.{length, set, length-append}
use lib.IntN.{ℤ, pos, negsuc}
use lib.Seq.{get_or-set_same}
use Rattle.axis.specs.declared.edge.Axis.{Axis}
use Rattle.axis.specs.declared.edge.Edge.{Edge}
use Rattle.axis.specs.declared.kinds.Dimension.TheVariants as Dimensions
use Rattle.axis.specs.Link.{Link}
use Rattle.axis.specs.declared.segment.Segment.{Segment}
use Rattle.axis.specs.Accepted.{Below}
use Rattle.axis.specs.Edge.{empty_edge, edge_at}
use Rattle.axis.specs.Limits.{most_edges}
use Rattle.axis.specs.Refusals.{link_holds}
use Rattle.axis.specs.Segment.{segment_at}
use Rattle.axis.proofs.Acceptance.{below_none, below-to}
use Rattle.mend.specs.Altered.{Alteration, of_segment, of_edge, listed, most_altered}
use Rattle.mend.specs.Altered as L
use Rattle.mend.specs.Mended.{kept, segment_with, edge_with}
use Rattle.mend.specs.Plan.{planned_next, planned_segment, planned_edge}
use Rattle.mend.proofs.Lists.{listed-few}
use Rattle.words.specs.Field.{index_of, link_of, link_word}
use Rattle.words.specs.Word.{word_at}
use Rattle.words.specs.Edge as E
use Rattle.words.specs.Segment as S
use Rattle.words.proofs.Wholes.{still-below}
use Rattle.words.proofs.Writes.{wrote-again, wrote_as, as_written, put-again, became}
use Rattle.words.specs.Record.{edge_layout, segment_layout}
use Rattle.words_call.specs.Lent.{edges_of}
use Rattle.words_edge.specs.Whole as Edges
use Rattle.words_edge.proofs.Wholes.{axis-long, edge_table, edge_in}
use Rattle.words_edge.proofs.Became.{became-then, became-as}
use Rattle.words_edge.proofs.Writes as OfEdges
use Rattle.words_segment.specs.Whole as Segments
use Rattle.words_segment.proofs.Wholes.{segment_table, segment-in}
use Rattle.words_segment.proofs.Writes as OfSegments
use Rattle.mend_amend_words.specs.Listing.{alteration_size, Listed}
use Rattle.mend_amend_words.specs.Amended.{
  kept_word,
  next_word,
  named_of,
  links_kept,
  ended,
  links_listed,
  ends_listed,
  AmendedWord,
  AmendedSegment,
  AmendedLinks,
  AmendedEnds,
  AmendedEdge,
}
use Rattle.mend_amend_words.proofs.Entries.{field-listed, listed_then, room-kept}

-- ---- one field
-- an index beyond a list, as a word
kept-word : (n : ℕ) (l : Link) → kept_word n (link_word l) ≡ link_word (kept n l)
unfolding link_holds
kept-word n None = by (ltb 0 n)
  where
    by : (b : Bool) → cond b (negsuc 0) (negsuc 0) ≡ negsuc 0
    by true = refl
    by false = refl
kept-word n (Some k) = by (ltb k n)
  where
    by : (b : Bool) → cond b (pos k) (negsuc 0) ≡ link_word (cond b (Some k) None)
    by true = refl
    by false = refl

next-word : (n edge led : ℕ) (l : Link) → next_word n edge led (link_word l) ≡ link_word (planned_next n edge led l)
next-word n edge led l = by (ltb edge most_edges)
  where
    by : (b : Bool) → cond b (pos led) (kept_word n (link_word l)) ≡ link_word (cond b (Some led) (kept n l))
    by true = refl
    by false = kept-word n l

-- it is of 16 bits
read_small : (w : ℤ) → Below 65536 (link_of w)
unfolding link_of
read_small (pos n) = below-to 65536 (index_of (pos n)) (mod-lt n (omega arith))
read_small (negsuc n) = below_none 65536

kept_small : (n : ℕ) (l : Link) → Below 65536 l → Below 65536 (kept n l)
kept_small n l b = by (link_holds n l)
  where
    by : (t : Bool) → Below 65536 (cond t l None)
    by true = b
    by false = below_none 65536

next_small : (n edge led : ℕ) (l : Link) → led < 65536 → Below 65536 l → Below 65536 (planned_next n edge led l)
next_small n edge led l h b = by (ltb edge most_edges)
  where
    by : (t : Bool) → Below 65536 (cond t (Some led) (kept n l))
    by true = below-to 65536 led h
    by false = kept_small n l b

-- ---- a segment
module _ (ws : List ℤ) (i : ℕ) (w : Segments.Whole ws) (h : i < S.segments_in ws) where
  abbrev segment : Segment
  segment = S.segment_from ws (S.segment_size * i)

  link-is : word_at ws (S.word_of_segment i S.link_place) ≡ link_word segment.link
  unfolding S.segment_words
  link-is = sym (w.word i S.link_place h (omega arith))

  serif-is : word_at ws (S.word_of_segment i S.serif_place) ≡ link_word segment.serif
  unfolding S.segment_words
  serif-is = sym (w.word i S.serif_place h (omega arith))

  next_is : word_at ws (S.word_of_segment i S.next_place) ≡ link_word segment.next
  unfolding S.segment_words
  next_is = sym (w.word i S.next_place h (omega arith))

  link-small : Below 65536 segment.link
  unfolding S.segment_from
  link-small = read_small _

  serif-small : Below 65536 segment.serif
  unfolding S.segment_from
  serif-small = read_small _

  next-less : Below 65536 segment.next
  unfolding S.segment_from
  next-less = read_small _

module _ (ws w1 w2 w3 room r1 r2 r3 : List ℤ) (i edge led count c1 c2 c3 : ℕ) (k3 : ℤ) (w : Segments.Whole ws) (h : i < S.segments_in ws) (l : led < 65536)
    (fits : count + 3 ≤ most_altered) (size : length room ≡ alteration_size * most_altered)
    (a : AmendedWord (named_of L.segments i L.link) (S.word_of_segment i S.link_place) (kept_word (S.segments_in ws) (word_at ws (S.word_of_segment i S.link_place)))
    count ws room c1 w1 r1)
    (b : AmendedWord (named_of L.segments i L.serif) (S.word_of_segment i S.serif_place) (kept_word (S.segments_in ws) (word_at w1 (S.word_of_segment i S.serif_place)))
    c1 w1 r1 c2 w2 r2)
    (c : AmendedWord (named_of L.segments i L.next) (S.word_of_segment i S.next_place) k3 c2 w2 r2 c3 w3 r3)
    (e : k3 ≡ next_word (S.segments_in ws) edge led (word_at w2 (S.word_of_segment i S.next_place))) where
  abbrev n : ℕ
  n = S.segments_in ws

  abbrev s : Segment
  s = segment ws i w h

  -- its link
  first-wrote : OfSegments.Wrote ws w1 i (segment_with s (kept n s.link) s.serif s.next)
  first-wrote = as_written (a.word ∙ ap (set ws (S.word_of_segment i S.link_place)) (ap (kept_word n) (link-is ws i w h) ∙ kept-word n s.link))
      (OfSegments.link-wrote ws i w h (kept n s.link) (kept_small n s.link (link-small ws i w h)))

  h1 : i < S.segments_in w1
  h1 = still-below segment_layout ws w1 i first-wrote.long h

  abbrev s1 : Segment
  s1 = segment w1 i first-wrote.whole h1

  -- its serif
  second-wrote : OfSegments.Wrote w1 w2 i (segment_with s1 s1.link (kept n s1.serif) s1.next)
  second-wrote =
      as_written (b.word ∙ ap (set w1 (S.word_of_segment i S.serif_place)) (ap (kept_word n) (serif-is w1 i first-wrote.whole h1) ∙ kept-word n s1.serif))
      (OfSegments.serif-wrote w1 i first-wrote.whole h1 (kept n s1.serif) (kept_small n s1.serif (serif-small w1 i first-wrote.whole h1)))

  both-wrote : OfSegments.Wrote ws w2 i (segment_with s (kept n s.link) (kept n s.serif) s.next)
  both-wrote =
      wrote-again segment_table first-wrote (wrote_as (ap (λ (x : Segment). segment_with x x.link (kept n x.serif) x.next) first-wrote.read)
      second-wrote)

  h2 : i < S.segments_in w2
  h2 = still-below segment_layout ws w2 i both-wrote.long h

  abbrev s2 : Segment
  s2 = segment w2 i both-wrote.whole h2

  new-next : k3 ≡ link_word (planned_next n edge led s2.next)
  new-next = e ∙ ap (next_word n edge led) (next_is w2 i both-wrote.whole h2) ∙ next-word n edge led s2.next

  -- its next
  third-wrote : OfSegments.Wrote w2 w3 i (segment_with s2 s2.link s2.serif (planned_next n edge led s2.next))
  third-wrote = as_written (c.word ∙ ap (set w2 (S.word_of_segment i S.next_place)) new-next)
      (OfSegments.next-wrote w2 i both-wrote.whole h2 (planned_next n edge led s2.next)
      (next_small n edge led s2.next l (next-less w2 i both-wrote.whole h2)))

  all-wrote : OfSegments.Wrote ws w3 i (planned_segment n edge led s)
  all-wrote =
      wrote-again segment_table both-wrote (wrote_as
      (ap (λ (x : Segment). segment_with x x.link x.serif (planned_next n edge led x.next)) both-wrote.read) third-wrote)

  -- what is listed of it
  link-listed : Listed (listed L.segments i L.link s.link (kept n s.link)) count room c1 r1
  link-listed = field-listed L.segments i L.link s.link (kept n s.link) a (link-is ws i w h) (ap (kept_word n) (link-is ws i w h) ∙ kept-word n s.link)

  serif-listed : Listed (listed L.segments i L.serif s.serif (kept n s.serif)) c1 r1 c2 r2
  serif-listed =
      let q : word_at w1 (S.word_of_segment i S.serif_place) ≡ link_word s.serif = serif-is w1 i first-wrote.whole h1
      ∙ ap (λ (x : Segment). link_word x.serif) first-wrote.read in
      field-listed L.segments i L.serif s.serif (kept n s.serif) b q (ap (kept_word n) q ∙ kept-word n s.serif)

  next-listed : Listed (listed L.segments i L.next s.next (planned_next n edge led s.next)) c2 r2 c3 r3
  next-listed =
      field-listed L.segments i L.next s.next (planned_next n edge led s.next) c
      (next_is w2 i both-wrote.whole h2 ∙ ap (λ (x : Segment). link_word x.next) both-wrote.read)
      (new-next ∙ ap (λ (x : Segment). link_word (planned_next n edge led x.next)) both-wrote.read)

  all_listed : Listed (of_segment i s (planned_segment n edge led s)) count room c3 r3
  all_listed =
      let p = listed-few L.segments i L.link s.link (kept n s.link) in
      let q = listed-few L.segments i L.serif s.serif (kept n s.serif) in
      let t = listed-few L.segments i L.next s.next (planned_next n edge led s.next) in
      let k = room-kept link-listed (omega arith) size ∙ size in
      let m = link-listed.counted in
      let x = listed_then serif-listed next-listed (omega arith) k in
      listed_then link-listed x (omega (
        arith,
        length-append (listed L.segments i L.serif s.serif (kept n s.serif))
            (listed L.segments i L.next s.next (planned_next n edge led s.next)),
      )) size

  pub segment-amended : AmendedSegment i edge led count ws room c3 w3 r3
  segment-amended = record {
    became = became segment_table (planned_segment n edge led) i w h all-wrote;
    listed = subst (λ (x : Segment). Listed (of_segment i x (planned_segment n edge led x)) count room c3 r3) (sym (segment-in ws i w h)) all_listed;
  }

-- ---- an edge
module _ (ws : List ℤ) (k : ℕ) (w : Edges.Whole ws) (h : k < E.edges_in ws) where
  abbrev edge : Edge
  edge = E.edge_from ws (E.edge_size * k)

  edge-link-is : word_at ws (E.word_of_edge k E.link_place) ≡ link_word edge.link
  unfolding E.edge_words
  edge-link-is = sym (w.word k E.link_place h (omega arith))

  edge-serif-is : word_at ws (E.word_of_edge k E.serif_place) ≡ link_word edge.serif
  unfolding E.edge_words
  edge-serif-is = sym (w.word k E.serif_place h (omega arith))

  first_is : word_at ws (E.word_of_edge k E.first_place) ≡ pos edge.first
  unfolding E.edge_words
  first_is = sym (w.word k E.first_place h (omega arith))

  last_is : word_at ws (E.word_of_edge k E.last_place) ≡ pos edge.last
  unfolding E.edge_words
  last_is = sym (w.word k E.last_place h (omega arith))

  edge-link-small : Below 65536 edge.link
  unfolding E.edge_from
  edge-link-small = read_small _

  edge-serif-small : Below 65536 edge.serif
  unfolding E.edge_from
  edge-serif-small = read_small _

  first_small : edge.first < 65536
  unfolding E.edge_from
  first_small = mod-lt _ (omega arith)

  last-small : edge.last < 65536
  unfolding E.edge_from
  last-small = mod-lt _ (omega arith)

-- an end of a broken ring, as a word
end-word : (b : Bool) (x y : ℕ) → cond b (pos x) (pos y) ≡ pos (cond b x y)
end-word true x y = refl
end-word false x y = refl

end-small : (b : Bool) (x y : ℕ) → x < 65536 → y < 65536 → cond b x y < 65536
end-small true x y h g = h
end-small false x y h g = g

-- link and serif
module _ (es w1 w2 room r1 r2 : List ℤ) (k count c1 c2 : ℕ) (w : Edges.Whole es) (h : k < E.edges_in es) (m : ℕ)
    (a : AmendedWord (named_of L.edges k L.link) (E.word_of_edge k E.link_place) (kept_word m (word_at es (E.word_of_edge k E.link_place))) count es room c1 w1 r1)
    (b : AmendedWord (named_of L.edges k L.serif) (E.word_of_edge k E.serif_place) (kept_word m (word_at w1 (E.word_of_edge k E.serif_place))) c1 w1 r1 c2 w2 r2) where
  abbrev e : Edge
  e = edge es k w h

  link-wrote : OfEdges.Wrote es w1 k (edge_with e (kept m e.link) e.serif e.first e.last)
  link-wrote = as_written (a.word ∙ ap (set es (E.word_of_edge k E.link_place)) (ap (kept_word m) (edge-link-is es k w h) ∙ kept-word m e.link))
      (OfEdges.link-wrote es k w h (kept m e.link) (kept_small m e.link (edge-link-small es k w h)))

  g1 : k < E.edges_in w1
  g1 = still-below edge_layout es w1 k link-wrote.long h

  abbrev e1 : Edge
  e1 = edge w1 k link-wrote.whole g1

  serif-wrote : OfEdges.Wrote w1 w2 k (edge_with e1 e1.link (kept m e1.serif) e1.first e1.last)
  serif-wrote =
      as_written (b.word ∙ ap (set w1 (E.word_of_edge k E.serif_place)) (ap (kept_word m) (edge-serif-is w1 k link-wrote.whole g1) ∙ kept-word m e1.serif))
      (OfEdges.serif-wrote w1 k link-wrote.whole g1 (kept m e1.serif) (kept_small m e1.serif (edge-serif-small w1 k link-wrote.whole g1)))

  links-wrote : OfEdges.Wrote es w2 k (edge_with e (kept m e.link) (kept m e.serif) e.first e.last)
  links-wrote =
      wrote-again edge_table link-wrote (wrote_as (ap (λ (x : Edge). edge_with x x.link (kept m x.serif) x.first x.last) link-wrote.read)
      serif-wrote)

  links-listed : count + 2 ≤ most_altered → length room ≡ alteration_size * most_altered
      → Listed (listed L.edges k L.link e.link (kept m e.link) ++ listed L.edges k L.serif e.serif (kept m e.serif)) count room c2 r2
  links-listed fits size =
      let q : word_at w1 (E.word_of_edge k E.serif_place) ≡ link_word e.serif = edge-serif-is w1 k link-wrote.whole g1
      ∙ ap (λ (x : Edge). link_word x.serif) link-wrote.read in
      let p = listed-few L.edges k L.link e.link (kept m e.link) in
      let t = listed-few L.edges k L.serif e.serif (kept m e.serif) in
      listed_then (field-listed L.edges k L.link e.link (kept m e.link) a (edge-link-is es k w h)
      (ap (kept_word m) (edge-link-is es k w h) ∙ kept-word m e.link))
      (field-listed L.edges k L.serif e.serif (kept m e.serif) b q (ap (kept_word m) q ∙ kept-word m e.serif)) (omega arith) size

  pub links-amended : m ≡ E.edges_in es → count + 2 ≤ most_altered → length room ≡ alteration_size * most_altered → AmendedLinks k count es room c2 w2 r2
  links-amended q fits size =
      subst (λ (n : ℕ). (OfEdges.Wrote es w2 k (links_kept n e)) → Listed (links_listed k e (links_kept n e)) count room c2 r2
      → AmendedLinks k count es room c2 w2 r2) (sym q)
      (λ (x : OfEdges.Wrote es w2 k (links_kept (E.edges_in es) e)) (y : Listed (links_listed k e (links_kept (E.edges_in es) e)) count room c2 r2).
      record {
        became = became edge_table (links_kept (E.edges_in es)) k w h x;
        listed = subst (λ (z : Edge). Listed (links_listed k z (links_kept (E.edges_in es) z)) count room c2 r2) (sym (edge_in es Dimensions.Horizontal k w h)) y;
        few = omega (arith, a.few, b.few);
      })
      links-wrote (links-listed fits size)

-- first and last
module _ (es w1 w2 room r1 r2 : List ℤ) (k low high count c1 c2 : ℕ) (broken : Bool) (p q : ℤ) (w : Edges.Whole es) (h : k < E.edges_in es)
    (lows : low < 65536) (highs : high < 65536)
    (a : AmendedWord (named_of L.edges k L.first) (E.word_of_edge k E.first_place) p count es room c1 w1 r1)
    (pe : p ≡ cond broken (pos low) (word_at es (E.word_of_edge k E.first_place)))
    (b : AmendedWord (named_of L.edges k L.last) (E.word_of_edge k E.last_place) q c1 w1 r1 c2 w2 r2)
    (qe : q ≡ cond broken (pos high) (word_at w1 (E.word_of_edge k E.last_place))) where
  abbrev f : Edge
  f = edge es k w h

  new-first : p ≡ pos (cond broken low f.first)
  new-first = pe ∙ ap (cond broken (pos low)) (first_is es k w h) ∙ end-word broken low f.first

  first-wrote-in : OfEdges.Wrote es w1 k (edge_with f f.link f.serif (cond broken low f.first) f.last)
  first-wrote-in = as_written (a.word ∙ ap (set es (E.word_of_edge k E.first_place)) new-first)
      (OfEdges.first-wrote es k w h (cond broken low f.first) (end-small broken low f.first lows (first_small es k w h)))

  g2 : k < E.edges_in w1
  g2 = still-below edge_layout es w1 k first-wrote-in.long h

  abbrev f1 : Edge
  f1 = edge w1 k first-wrote-in.whole g2

  new-last : q ≡ pos (cond broken high f1.last)
  new-last = qe ∙ ap (cond broken (pos high)) (last_is w1 k first-wrote-in.whole g2) ∙ end-word broken high f1.last

  last-wrote-in : OfEdges.Wrote w1 w2 k (edge_with f1 f1.link f1.serif f1.first (cond broken high f1.last))
  last-wrote-in = as_written (b.word ∙ ap (set w1 (E.word_of_edge k E.last_place)) new-last)
      (OfEdges.last-wrote w1 k first-wrote-in.whole g2 (cond broken high f1.last)
      (end-small broken high f1.last highs (last-small w1 k first-wrote-in.whole g2)))

  ends-wrote : OfEdges.Wrote es w2 k (edge_with f f.link f.serif (cond broken low f.first) (cond broken high f.last))
  ends-wrote =
      wrote-again edge_table first-wrote-in (wrote_as
      (ap (λ (x : Edge). edge_with x x.link x.serif x.first (cond broken high x.last)) first-wrote-in.read) last-wrote-in)

  ends-listed : count + 2 ≤ most_altered → length room ≡ alteration_size * most_altered
      → Listed (listed L.edges k L.first (Some f.first) (Some (cond broken low f.first))
      ++ listed L.edges k L.last (Some f.last) (Some (cond broken high f.last))) count room c2 r2
  ends-listed fits size =
      let t = listed-few L.edges k L.first (Some f.first) (Some (cond broken low f.first)) in
      let u = listed-few L.edges k L.last (Some f.last) (Some (cond broken high f.last)) in
      listed_then (field-listed L.edges k L.first (Some f.first) (Some (cond broken low f.first)) a (first_is es k w h) new-first)
      (field-listed L.edges k L.last (Some f.last) (Some (cond broken high f.last)) b
      (last_is w1 k first-wrote-in.whole g2 ∙ ap (λ (x : Edge). pos x.last) first-wrote-in.read)
      (new-last ∙ ap (λ (x : Edge). pos (cond broken high x.last)) first-wrote-in.read)) (omega arith) size

  pub ends-amended : count + 2 ≤ most_altered → length room ≡ alteration_size * most_altered → AmendedEnds k broken low high count es room c2 w2 r2
  ends-amended fits size = record {
    became = became edge_table (ended broken low high) k w h ends-wrote;
    listed =
        subst (λ (z : Edge). Listed (ends_listed k z (ended broken low high z)) count room c2 r2) (sym (edge_in es Dimensions.Horizontal k w h))
        (ends-listed fits size);
  }

-- all four
module _ (es w1 w2 room r1 r2 : List ℤ) (k low high count c1 c2 : ℕ) (broken : Bool) (w : Edges.Whole es) (h : k < E.edges_in es)
    (a : AmendedLinks k count es room c1 w1 r1)
    (b : AmendedEnds k broken low high c1 w1 r1 c2 w2 r2) where
  abbrev linked : Edge → Edge
  linked = links_kept (E.edges_in es)

  -- the edge between the two
  between : edge_at (edges_of w1) k ≡ linked (edge_at (edges_of es) k)
  between =
      ap (λ (x : Axis). edge_at x k) (a.became.table Dimensions.Horizontal)
      ∙ get_or-set_same (edges_of es).edges k (linked (edge_at (edges_of es) k)) empty_edge (omega (arith, axis-long es Dimensions.Horizontal, w.few, h))

  pub edge-amended : count + 4 ≤ most_altered → length room ≡ alteration_size * most_altered → AmendedEdge k broken low high count es room c2 w2 r2
  edge-amended fits size = record {
    became =
        became-as (λ d. put-again edge_table (ended broken low high) es d k (linked (edge_at (Edges.axis_in es d) k)) w h) (became-then a.became b.became);
    listed =
        let old = edge_at (edges_of es) k in
        let new = planned_edge (E.edges_in es) broken low high old in
        let p = listed-few L.edges k L.link old.link new.link in
        let q = listed-few L.edges k L.serif old.serif new.serif in
        let s = listed-few L.edges k L.first (Some old.first) (Some new.first) in
        let t = listed-few L.edges k L.last (Some old.last) (Some new.last) in
        let x = length-append (listed L.edges k L.link old.link new.link) (listed L.edges k L.serif old.serif new.serif) in
        let y = length-append (listed L.edges k L.first (Some old.first) (Some new.first))
        (listed L.edges k L.last (Some old.last) (Some new.last)) in
        subst (λ (z : List Alteration). Listed z count room c2 r2)
        (append_assoc (listed L.edges k L.link old.link new.link) (listed L.edges k L.serif old.serif new.serif) (ends_listed k old new))
        (listed_then a.listed (subst (λ (z : Edge). Listed (ends_listed k z (ended broken low high z)) c1 r1 c2 r2) between b.listed) (omega arith) size);
  }
