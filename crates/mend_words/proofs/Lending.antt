-- The call by its tests, its plan and its passes.
use mathlib.Core.Path.{◌≡◌, refl, sym, ap, subst, ◌∙◌}
use mathlib.Core.Bool.{Bool, true, false, cond}
use mathlib.Core.List.{List, [], ◌∷◌, ◌++◌}
use Prim.Native.Nat.{ℕ, ◌+◌, ◌*◌, ◌%◌, ◌≤◌, ◌<◌}
use native.Mathlib.Nat.{mod-eq_of_lt}
use native.Mathlib.Omega.{arith}
use borrow.Author.Tests.{eq-eqb, ne_eqb}
use lib.Dec.{eqb}
use lib.ListN.{length, length-append}
use lib.IntN.{ℤ, pos}
use Rattle.refusals.specs.Refusal.{Test, ◌unless◌, refusal, answered, broken_ring}
use Rattle.refusals.proofs.Tests.{all_hold, answered-no, own_first}
use Rattle.axis.specs.declared.edge.Axis.{Axis}
use Rattle.axis.specs.declared.kinds.Dimension.TheVariants as Dimensions
use Rattle.axis.specs.declared.segment.Segments.{Segments}
use Rattle.axis.specs.Limits.{most_edges, most_segments}
use Rattle.turn.specs.Indices.{segments_edges}
use Rattle.mend.specs.Altered.{Alteration, alterations, most_altered}
use Rattle.mend.specs.Mend.{Mended, edges_named, table_tests, mending_tests, mend}
use Rattle.mend.specs.Mended.{mended_axis, mended_segments}
use Rattle.mend.specs.Plan.{segments_listed, edges_listed}
use Rattle.mend.proofs.Lists.{few-altered}
use Rattle.words.specs.Edge.{edges_in, edges_over}
use Rattle.words.specs.Segment.{segments_in, flat_segments, segments_over}
use Rattle.words.specs.Word.{written}
use Rattle.words_call.specs.Lent.{Lent, refused_or, not_words, edges_of}
use Rattle.words_call.proofs.Lents.{refused}
use Rattle.words_edge.specs.Whole as Edges
use Rattle.words_edge.proofs.Wholes.{shown-whole, edges-len}
use Rattle.words_edge.proofs.Became as OfEdges
use Rattle.words_edge_test.proofs.Calls.{lent-refused, lent-done}
use Rattle.words_segment.specs.Whole as Segs
use Rattle.words_segment.proofs.Wholes.{shown-whole as segments_whole, segments-len}
use Rattle.words_segment.proofs.Became as OfSegments
use Rattle.turn_words.specs.Lent.{turn_front}
use Rattle.turn_words.proofs.Lending.{Shown, all_shown}
use Rattle.mend_amend_words.specs.Listing.{alteration_size, list_words, Listed}
use Rattle.mend_amend_words.specs.Amended.{AmendedSegments, AmendedEdges}
use Rattle.mend_amend_words.proofs.Entries.{listed_then}
use Rattle.mend_words.specs.Mending.{Planned, mend_front, mended, mended_words, MendedLent, mended_all, MendedIn}

-- ---- behind the other tests
module _ (ws es room : List ℤ) (count : ℤ) (w : Segs.Whole ws) (v : Edges.Whole es) (size : length room ≡ alteration_size * most_altered) {r : Bool}
    {edges next : List ℕ} {broken : List Bool}
    {lows highs : List ℕ} (p : Planned ws es r edges next broken lows highs) where
  abbrev axis : Axis
  axis = edges_of es

  abbrev segments : Segments
  segments = flat_segments ws

  abbrev altered : List Alteration
  altered = alterations axis segments (mended_axis axis segments) (mended_segments axis segments)

  -- an edge has no segment
  pub not_named : r ≡ false → MendedIn ws es room count broken_ring (ws, (es, (room, count)))
  not_named q =
      subst (λ (b : Bool). Lent [] (cond b 0 broken_ring) (mended_all ws es room) (ws, (es, (room, count))) broken_ring (ws, (es, (room, count))))
      (sym q ∙ p.named) (refused (omega arith))

  -- every edge has one
  module _ {c1 c2 : ℕ} {ws' room1 es' room2 : List ℤ} {word : ℤ} (q : r ≡ true) (s : AmendedSegments edges next ws room c1 ws' room1)
      (e : AmendedEdges broken lows highs c1 es room1 c2 es' room2)
      (is_Is_word : word ≡ pos (c2 % 65536)) where
    is-list : segments_listed edges next segments (segments_in ws) ++ edges_listed broken lows highs axis (edges_in es) ≡ altered
    is-list = (λ j. segments_listed edges next segments (sym (segments-len ws) j) ++ edges_listed broken lows highs axis (sym (edges-len es) j)) ∙ p.listed q

    few : length altered ≤ most_altered
    few =
        few-altered axis segments (mended_axis axis segments) (mended_segments axis segments) (omega (arith, segments-len ws, w.few))
        (omega (arith, edges-len es, v.few))

    all_listed : Listed altered 0 room c2 room2
    all_listed =
        let ss = segments_listed edges next segments (segments_in ws) in
        let ee = edges_listed broken lows highs axis (edges_in es) in
        subst (λ (l : List Alteration). Listed l 0 room c2 room2) is-list
        (listed_then s.listed e.listed (omega (arith, few, ap (length {A = Alteration}) is-list, length-append ss ee)) size)

    is-count : word ≡ pos (length altered)
    is-count = is_Is_word ∙ ap pos (mod-eq_of_lt (omega (arith, all_listed.counted, few)) ∙ omega (arith, all_listed.counted))

    is-room : room2 ≡ written room 0 (list_words altered)
    is-room = all_listed.written_in ∙ ap (λ (k : ℕ). written room k (list_words altered)) (let z : alteration_size * 0 ≡ 0 = omega arith in z)

    is-segments : ws' ≡ segments_over ws (mended_segments axis segments)
    is-segments = OfSegments.became-over w s.became ∙ ap (segments_over ws) (p.segments q)

    is-edges : es' ≡ edges_over es (mended_axis axis segments)
    is-edges = OfEdges.became-over v e.became Dimensions.Horizontal ∙ ap (edges_over es) (p.axis q)

    pub all-mended : MendedIn ws es room count 0 (ws', (es', (room2, word)))
    unfolding refused_or refusal
    all-mended = record {
      number = sym (ap (λ (b : Bool). cond b 0 broken_ring) (sym p.named ∙ q));
      held = λ j. (is-segments j, (is-edges j, (is-room j, is-count j)));
    }

-- ---- the tests in front
module _ (ws es room : List ℤ) where
  pub room-refuses : (length room ≡ alteration_size * most_altered → ⊥) → not_words ≡ refusal (mend_front ws es room)
  unfolding mend_front refusal
  room-refuses h = sym (ap (λ (b : Bool). cond b (refusal (turn_front ws es)) not_words) (ne_eqb (length room) (alteration_size * most_altered) h))

  pub front-is : length room ≡ alteration_size * most_altered → refusal (turn_front ws es) ≡ refusal (mend_front ws es room)
  unfolding mend_front refusal
  front-is h = sym (ap (λ (b : Bool). cond b (refusal (turn_front ws es)) not_words) (eq-eqb (length room) (alteration_size * most_altered) h))

-- ---- the whole call
module _ (ws es room : List ℤ) (count : ℤ) {k r : ℕ} (size : length room ≡ alteration_size * most_altered) (f : k ≡ refusal (turn_front ws es)) (none : k ≤ 0)
    (e : r ≡ refusal (table_tests (edges_of es) (flat_segments ws))) where
  abbrev A : Axis
  A = edges_of es

  abbrev T : Segments
  T = flat_segments ws

  no_front : refusal (turn_front ws es) ≡ 0
  no_front = let z : k ≡ 0 = omega arith in sym f ∙ z

  in_front : refusal (mend_front ws es room) ≡ 0
  in_front = sym (front-is ws es room size) ∙ no_front

  -- the tests of the tables, then the last one
  all-tests : refusal (mending_tests A T) ≡ answered r (λ (i : ℕ). i) (cond (edges_named A T) 0 broken_ring)
  unfolding refusal
  all-tests =
      own_first (table_tests A T) (broken_ring unless edges_named A T ∷ []) refl
      ∙ ap (λ (j : ℕ). answered j (λ (i : ℕ). i) (cond (edges_named A T) 0 broken_ring)) (sym e)

  behind : {j : ℕ} → j ≡ refusal (mending_tests A T) → j ≡ refused_or (mend_front ws es room) (refusal (mending_tests A T))
  unfolding refused_or
  behind q = q ∙ ap (λ (i : ℕ). answered i (λ (x : ℕ). x) (refusal (mending_tests A T))) (sym in_front)

  abbrev given : ℕ → Mended
  given j = record { answer = j; axis = A; segments = T; altered = [] }

  abbrev result : Mended
  result = record { answer = 0; axis = mended_axis A T; segments = mended_segments A T; altered = alterations A T (mended_axis A T) (mended_segments A T) }

  refuses-by : (j : ℕ) → j ≡ refusal (mending_tests A T) → 0 < j → MendedLent ws es room count j (ws, (es, (room, count)))
  unfolding mend
  refuses-by j q h =
      lent-refused (mend_front ws es room) (refusal (mending_tests A T)) (behind q) (λ (x : Mended). x.answer) (mended_words ws es room) (mending_tests A T)
      given result (λ (i : ℕ). refl) refl
      (λ x. refl) h

  -- a test of the tables refuses
  pub table-refuses : 0 < r → MendedLent ws es room count r (ws, (es, (room, count)))
  table-refuses h = refuses-by r (answered-no r r (λ (i : ℕ). i) (cond (edges_named A T) 0 broken_ring) refl h ∙ sym all-tests) h

  -- none does
  module _ (h : r ≤ 0) where
    shown : Shown ws es
    shown = all_shown ws es no_front

    pub ready : Segs.Whole ws × Edges.Whole es × (segments_edges (edges_in es) T ≡ true)
    ready =
        let z : r ≡ 0 = omega arith in (
          segments_whole ws shown.segments-shown shown.few-segments,
          shown-whole es shown.edges-shown shown.few-edges,
          ap (λ (m : ℕ). segments_edges m T) (sym (edges-len es)) ∙ (all_hold (table_tests A T) refl (sym e ∙ z)).1.1.1.1.0,
        )

    last-test : refusal (mending_tests A T) ≡ cond (edges_named A T) 0 broken_ring
    last-test = let z : r ≡ 0 = omega arith in all-tests ∙ ap (λ (j : ℕ). answered j (λ (i : ℕ). i) (cond (edges_named A T) 0 broken_ring)) z

    pub mends : {j : ℕ} {now : List ℤ × (List ℤ × (List ℤ × ℤ))} → MendedIn ws es room count j now → MendedLent ws es room count j now
    unfolding mend refused_or refusal
    mends {j} {now} m = by (edges_named A T) refl m.number m.held
      where
        by : (b : Bool) → edges_named A T ≡ b → j ≡ cond (edges_named A T) 0 broken_ring → now ≡ cond (eqb j 0) (mended_all ws es room) (ws, (es, (room, count)))
            → MendedLent ws es room count j now
        by true q n e =
            let z : j ≡ 0 = n ∙ ap (λ (b : Bool). cond b 0 broken_ring) q in
            subst (λ (i : ℕ). MendedLent ws es room count i now) (sym z)
            (lent-done (mend_front ws es room) (refusal (mending_tests A T)) (behind (n ∙ sym last-test)) (λ (x : Mended). x.answer) (mended_words ws es room)
            (mending_tests A T) given result
            (λ (i : ℕ). refl) refl (λ x. refl) (omega arith) (e ∙ ap (λ (b : Bool). cond b (mended_all ws es room) (ws, (es, (room, count)))) (eq-eqb j 0 z)))
        by false q n e =
            let z : j ≡ broken_ring = n ∙ ap (λ (b : Bool). cond b 0 broken_ring) q in
            subst (λ (x : List ℤ × (List ℤ × (List ℤ × ℤ))). MendedLent ws es room count j x)
            (sym (e ∙ ap (λ (b : Bool). cond b (mended_all ws es room) (ws, (es, (room, count)))) (ne_eqb j 0 (λ (y : j ≡ 0). omega arith))))
            (refuses-by j (n ∙ sym last-test) (omega arith))
