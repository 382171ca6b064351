-- What `khs_turn_over` leaves of both lists, with answer 0; and that turning over twice gives both lists back, word for word.
use mathlib.Core.Path.{◌≡◌, refl, sym, ap, subst, ◌∙◌}
use mathlib.Core.List.{List}
use Prim.Native.Nat.{ℕ, ◌*◌, ◌/◌, ◌%◌, ◌≤◌, ◌<◌}
use native.Mathlib.Omega.{arith}
use borrow.Author.Tests.{eq-eqb, le-leb}
use lib.ListN.{length}
use lib.IntN.{ℤ}
use Rattle.refusals.specs.Refusal.{refusal}
use Rattle.refusals.proofs.Tests.{no-refusal}
use Rattle.axis.specs.declared.edge.Axis.{Axis}
use Rattle.axis.specs.declared.segment.Segments.{Segments}
use Rattle.axis.specs.Edge.{edge_at}
use Rattle.axis.specs.Handed.{TypedEdge, TypedAxis, Typed}
use Rattle.axis.specs.Limits.{most_edges, most_segments}
use Rattle.axis.specs.Segment.{segment_at}
use Rattle.axis.proofs.Accepting.{edges-within, segments-are-within}
use Rattle.turn.specs.Answer.{Turned}
use Rattle.turn.specs.Turning.{turned_index, turned_axis, turned_segments, beside, turn_over}
use Rattle.turn.proofs.Calls.{Taken, taken}
use Rattle.turn.proofs.Determined.{accepted, when-accepted, twice}
use Rattle.turn.proofs.Places.{turned-edge-at, behind-edges, turned-edges-length, turned-segment-at, behind-segments, turned-segments-length}
use Rattle.turn.proofs.Twice as Twice
use Rattle.words.specs.Word.{joined}
use Rattle.words.specs.Edge.{edge_size, edges_in, edge_words_at, edges_over}
use Rattle.words.specs.Segment.{segment_size, segments_in, flat_segments, segment_words_at, segments_over}
use Rattle.words.proofs.Typed.{axis-typed, flat-typed}
use Rattle.words_call.specs.Lent.{edges_of}
use Rattle.words_call.proofs.Kept.{passed}
use Rattle.words_call.proofs.Whole.{edges_long, segments-long}
use Rattle.words_edge.proofs.Wholes as EdgesIn
use Rattle.words_segment.proofs.Wholes as SegmentsIn
use Rattle.turn_words.specs.Lent.{turn_front, turned, turned_words, TurnedLent}
use Rattle.turn_words.proofs.Lending.{Shown, all_shown}
use Rattle.chain_words.specs.Left.{EdgesLeft, SegmentsLeft}
use Rattle.chain_words.proofs.Shown.{EdgeFits, SegmentFits}
use Rattle.chain_words.proofs.Answers.{both, lent-done}
use Rattle.chain_words.proofs.Edges as Edges
use Rattle.chain_words.proofs.Segments as Segments

-- ---- the tables
module _ (ws es : List ℤ) (s : Shown ws es) (e : (turned ws es).answer ≡ 0) where
  abbrev axis : Axis
  axis = edges_of es

  abbrev table : Segments
  table = flat_segments ws

  is-taken : Taken axis table
  is-taken = taken axis table (accepted axis table e)

  outcome : turned ws es ≡ beside (turned_axis axis) (turned_segments axis.len table) 0
  outcome = when-accepted axis table (accepted axis table e)

  whole-axis : TypedAxis axis
  whole-axis = axis-typed es _ _

  whole-table : Typed table
  whole-table = flat-typed ws

  edges_room : axis.len ≤ length axis.edges
  edges_room = Twice.edges_whole axis table whole-axis whole-table is-taken

  segments-room : table.len ≤ length table.segments
  segments-room = Twice.segments_whole axis table whole-axis whole-table is-taken

  few : axis.len ≤ 65536
  few = omega (arith, EdgesIn.edges-len es, s.few-edges)

  -- an edge of the turned axis
  edge-fits : (i : ℕ) → i < edges_in es → EdgeFits (edge_at (turned_axis axis) i)
  edge-fits i h =
      let n = EdgesIn.edges-len es in
      let k = turned_index axis.len i in
      let l : k < edges_in es = omega (arith, n) in
      let w = (edges-within axis is-taken.edges).edge k (omega (arith, n)) in
      let t = subst TypedEdge (sym (EdgesIn.edge_in es _ k (EdgesIn.shown-whole es s.edges-shown s.few-edges) l)) (Edges.from-typed es (edge_size * k)) in
      let o = w.opos in
      let p = w.pos in
      subst EdgeFits (sym (turned-edge-at axis edges_room i (omega (arith, n)))) (record {
        typed = record {
          fpos = t.fpos;
          link = Edges.few-below axis.len _ few (Twice.turned-below axis.len (edge_at axis k).link w.link);
          serif = Edges.few-below axis.len _ few (Twice.turned-below axis.len (edge_at axis k).serif w.serif);
          first = t.first;
          last = t.last;
        };
        opos = omega (arith, o);
        pos = omega (arith, p);
        fitted = Edges.fitted-word (edge_at axis k).blue w.blue;
      })

  edges_fit : Edges.Fits (edges_in es) (turned_axis axis)
  unfolding turned_axis
  edges_fit = record {
    len = EdgesIn.edges-len es;
    whole = record { places = turned-edges-length axis edges_room ∙ whole-axis.places };
    edge = edge-fits;
    empty = λ (i : ℕ) (h : edges_in es ≤ i). behind-edges axis edges_room i (omega (arith, EdgesIn.edges-len es)) ∙ Edges.past_end es _ i h;
  }

  -- a segment of the turned table
  segment-fits : (i : ℕ) → i < segments_in ws → SegmentFits (segment_at (turned_segments axis.len table) i)
  segment-fits i h =
      let n = SegmentsIn.segments-len ws in
      let f = Segments.read_fits ws s.few-segments (segments-are-within table is-taken.segments) i h in
      subst SegmentFits (sym (turned-segment-at axis.len table segments-room i (omega (arith, n)))) (record {
        pos = f.pos;
        delta = f.delta;
        low = f.low;
        high = f.high;
        height = f.height;
        score = f.score;
        len = f.len;
        link = f.link;
        serif = f.serif;
        first = f.first;
        last = f.last;
        edge =
            Edges.few-below axis.len _ few (Twice.turned-below axis.len (segment_at table i).edge
            (Twice.edge-below axis table whole-axis whole-table is-taken i (omega (arith, n))));
        next = f.next;
      })

  segments-fit : Segments.Fits (segments_in ws) (turned_segments axis.len table)
  unfolding turned_segments
  segments-fit = record { len = SegmentsIn.segments-len ws; segment = segment-fits }

  pub segments-left : SegmentsLeft ws (segments_over ws (turned ws es).segments) (turned ws es).segments
  segments-left =
      subst (λ (x : Turned). SegmentsLeft ws (segments_over ws x.segments) x.segments) (sym outcome)
      (Segments.segments-left ws (turned_segments axis.len table) (SegmentsIn.shown-whole ws s.segments-shown s.few-segments) segments-fit)

  pub edges-left : EdgesLeft es (edges_over es (turned ws es).axis) (turned ws es).axis
  edges-left =
      subst (λ (x : Turned). EdgesLeft es (edges_over es x.axis) x.axis) (sym outcome)
      (Edges.edges-left es (turned_axis axis) (EdgesIn.shown-whole es s.edges-shown s.few-edges) edges_fit)

  -- both are read as the tables handed back, whole
  pub segments-read : flat_segments (segments_over ws (turned ws es).segments) ≡ (turned ws es).segments
  unfolding turned_segments
  segments-read =
      Segments.whole-table segments-left (ap (λ (x : Turned). length x.segments.segments) outcome ∙ turned-segments-length axis.len table segments-room
      ∙ whole-table.places)
      (λ (i : ℕ) (h : (turned ws es).segments.len ≤ i).
      let n : (turned ws es).segments.len ≡ table.len = ap (λ (x : Turned). x.segments.len) outcome in
      ap (λ (x : Turned). segment_at x.segments i) outcome ∙ behind-segments axis.len table segments-room i (omega (arith, h, n))
      ∙ Segments.past_end ws i (omega (arith, h, n, SegmentsIn.segments-len ws)))

  pub edges-read : edges_of (edges_over es (turned ws es).axis) ≡ (turned ws es).axis
  unfolding turned_axis
  edges-read =
      Edges.read-on _ _ edges-left (ap (λ (x : Turned). x.axis.dim) outcome ∙ Edges.flat-dim es _ _)
      (ap (λ (x : Turned). x.axis.major_dir) outcome ∙ Edges.flat-major es _ _)

-- ---- the call
module _ (ws es : List ℤ) {now edges : List ℤ} (l : TurnedLent ws es 0 (now, edges)) where
  abbrev done : (refusal (turn_front ws es) ≡ 0) × ((turned ws es).answer ≡ 0)
  done = passed (turn_front ws es) (turned ws es).answer l.number

  was-shown : Shown ws es
  was-shown = all_shown ws es done.0

  segments-held : now ≡ segments_over ws (turned ws es).segments
  segments-held = ap (λ (p : List ℤ × List ℤ). p.0) l.held

  edges-held : edges ≡ edges_over es (turned ws es).axis
  edges-held = ap (λ (p : List ℤ × List ℤ). p.1) l.held

  -- `khs_turn_over`
  pub turned-segments-left : SegmentsLeft ws now (turned ws es).segments
  turned-segments-left = subst (λ (x : List ℤ). SegmentsLeft ws x (turned ws es).segments) (sym segments-held) (segments-left ws es was-shown done.1)

  pub turned-edges-left : EdgesLeft es edges (turned ws es).axis
  turned-edges-left = subst (λ (x : List ℤ). EdgesLeft es x (turned ws es).axis) (sym edges-held) (edges-left ws es was-shown done.1)

  -- what it leaves it accepts again
  again : turned now edges ≡ beside (edges_of es) (flat_segments ws) 0
  again =
      (λ k. turn_over ((ap edges_of edges-held ∙ edges-read ws es was-shown done.1) k)
      ((ap flat_segments segments-held ∙ segments-read ws es was-shown done.1) k))
      ∙ twice (edges_of es) (flat_segments ws) (axis-typed es _ _) (flat-typed ws) done.1

  many : segments_in now ≡ segments_in ws
  many = ap (λ (n : ℕ). n / segment_size) turned-segments-left.size

  many-edges : edges_in edges ≡ edges_in es
  many-edges = ap (λ (n : ℕ). n / edge_size) turned-edges-left.size

  again-shown : refusal (turn_front now edges) ≡ 0
  unfolding turn_front
  again-shown =
      let s = turned-segments-left.shown in
      let e = turned-edges-left.shown in
      let ls = segments-long now s in
      let le = edges_long edges e in
      no-refusal (turn_front now edges) (
        both (eq-eqb (length now % segment_size) 0 (omega (arith, ls))) (eq-eqb (length edges % edge_size) 0 (omega (arith, le))),
        (
          both (le-leb (segments_in now) most_segments (omega (arith, many, was-shown.few-segments)))
              (le-leb (edges_in edges) most_edges (omega (arith, many-edges, was-shown.few-edges))),
          (both s e, refl),
        ),
      )

  -- turning over twice gives both lists back
  pub turned-twice : {r : ℕ} {now' edges' : List ℤ} → TurnedLent now edges r (now', edges') → (r ≡ 0) × ((now' ≡ ws) × (edges' ≡ es))
  turned-twice {r} {now'} {edges'} m =
      let d = lent-done m again-shown (ap (λ (x : Turned). x.answer) again) in
      let held : ◌≡◌ {A = List ℤ × List ℤ} (now', edges') (segments_over now (flat_segments ws), edges_over edges (edges_of es)) = d.1
      ∙ ap (turned_words now edges) again in
      let w = SegmentsIn.shown-whole ws was-shown.segments-shown was-shown.few-segments in
      let v = EdgesIn.shown-whole es was-shown.edges-shown was-shown.few-edges in
      let w' = SegmentsIn.shown-whole now turned-segments-left.shown (omega (arith, many, was-shown.few-segments)) in
      let v' = EdgesIn.shown-whole edges turned-edges-left.shown (omega (arith, many-edges, was-shown.few-edges)) in (
        d.0,
        (
          ap (λ (p : List ℤ × List ℤ). p.0) held ∙ Segments.segments-over now (flat_segments ws) w' ∙ ap (joined (segment_words_at (flat_segments ws))) many
              ∙ sym (Segments.words-joined ws w),
          ap (λ (p : List ℤ × List ℤ). p.1) held ∙ Edges.edges-over edges (edges_of es) v' ∙ ap (joined (edge_words_at (edges_of es))) many-edges
              ∙ sym (EdgesIn.words-joined es _ v),
        ),
      )
