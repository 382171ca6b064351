-- What linking and building leave of lent segments, and what building leaves of the room for edges, with answer 0.
use mathlib.Core.Path.{◌≡◌, refl, sym, ap, subst, ◌∙◌}
use mathlib.Core.Bool.{true, not, ◌&&◌}
use mathlib.Core.List.{List, [], ◌∷◌}
use Prim.Native.Nat.{ℕ, ◌*◌, ◌≤◌, ◌<◌}
use native.Mathlib.Omega.{arith}
use lib.Dec.{eqb}
use lib.ListN.{length, take, drop}
use lib.Seq.{take_at}
use lib.IntN.{ℤ}
use Rattle.signed.specs.Parts.{up}
use Rattle.refusals.specs.Refusal.{refusal}
use Rattle.refusals.proofs.Answers.{none-refused}
use Rattle.axis.specs.declared.kinds.Direction.{Direction}
use Rattle.axis.specs.declared.edge.Edge.{Edge}
use Rattle.axis.specs.declared.edge.Axis.{Axis}
use Rattle.axis.specs.declared.segment.Segments.{Segments}
use Rattle.axis.specs.Accepted.{Below, AxisWithin, SegmentsWithin}
use Rattle.axis.specs.Edge.{empty_axis, edge_at}
use Rattle.axis.specs.Handed.{Short, Typed, TypedEdge}
use Rattle.axis.specs.Limits.{most_pos}
use Rattle.axis.specs.Ring.{times}
use Rattle.axis.specs.Segment.{segment_at}
use Rattle.axis.proofs.Acceptance.{below_none, nexts-below}
use Rattle.axis.proofs.Accepting.{edges-within, segments-are-within}
use Rattle.link.specs.Rounds.{linked}
use Rattle.link.specs.Answer.{Linked}
use Rattle.link.specs.Linking.{thresholds_of, linking_tests, beside, link_segments_cjk}
use Rattle.link.proofs.Calls.{accepted}
use Rattle.link.proofs.Handed as LinkingHanded
use Rattle.link.proofs.Determined.{only-linked}
use Rattle.build_join.specs.declared.rules.Rules.{Rules}
use Rattle.build_join.specs.Joining.{last_of, edge_of, State, group, shown}
use Rattle.build_join.proofs.Good.{Good, members-below}
use Rattle.build_join.proofs.Members.{times-head, last-in}
use Rattle.build_join.proofs.Steps.{of-len, of-edge}
use Rattle.build_properties.proofs.Kept.{properties-kept}
use Rattle.build.specs.Answer.{Built}
use Rattle.build.specs.declared.numbers.Thresholds.{Thresholds}
use Rattle.build.specs.Building.{is_cjk, rules_of, last_state, built_segments, built_edges}
use Rattle.build.proofs.Handed as BuildingHanded
use Rattle.build.proofs.Handing.{ready, built-rows}
use Rattle.build.proofs.Joins.{last-good}
use Rattle.words.specs.Field.{choice_of, dimension_of, direction_of, group_of}
use Rattle.words.specs.Word.{joined}
use Rattle.words.specs.Edge.{edge_size, table_size, edge_words_at}
use Rattle.words.specs.Segment.{
  pos_place,
  delta_place,
  min_place,
  max_place,
  height_place,
  first_place,
  last_place,
  segments_in,
  flat_segments,
  segment_words,
  segments_over,
}
use Rattle.words.proofs.Edges.{edge-lengths}
use Rattle.words.proofs.Places.{joined_at, edge-read}
use Rattle.words.proofs.Tables.{joined_length}
use Rattle.words.proofs.Typed.{flat-typed}
use Rattle.words.proofs.Writing.{written-front}
use Rattle.words_shape.specs.Shape.{is_in, direction, edges_shown}
use Rattle.words_call.specs.Lent.{choices, edges_of}
use Rattle.words_edge.proofs.Wholes.{edges-len}
use Rattle.words_segment.proofs.Wholes.{segments-len}
use Rattle.build_words.proofs.Back as Back
use Rattle.link_words.specs.Lent.{linking_linked, LinkingLent}
use Rattle.build_words.specs.Lent as Build
use Rattle.build_words.proofs.Kept.{computed_same}
use Rattle.build_words.proofs.Room.{room-kept}
use Rattle.chain_words.specs.Left.{SegmentsLeft, RoomLeft}
use Rattle.chain_words.proofs.Shown.{EdgeFits, SegmentFits, edges-are-shown}
use Rattle.chain_words.proofs.Edges.{few-below, fitted-word}
use Rattle.chain_words.proofs.Segments.{Done, segments-left, read_fits, call-done}

-- ---- linking
module _ (ws : List ℤ) (major upem scale : ℤ) {now : List ℤ} (l : LinkingLent ws major upem scale 0 now) where
  abbrev given : Segments
  given = flat_segments ws

  abbrev dir : Direction
  dir = direction_of major

  abbrev new : Segments
  new = (linking_linked ws major upem scale).segments

  linked-done : Done ws (linking_linked ws major upem scale).answer (segments_over ws new) now
  linked-done = call-done ws true (is_in direction major) l

  none : refusal (linking_tests given upem scale) ≡ 0
  unfolding link_segments_cjk
  none = none-refused (beside given) (beside (linked dir (thresholds_of upem scale) given) 0) (λ (r : Linked). r.answer) (λ j. refl) _ linked-done.answered

  linked-fits : (i : ℕ) → i < segments_in ws → SegmentFits (segment_at new i)
  linked-fits i h =
      let o = only-linked given dir upem scale none in
      let q : i < given.len = omega (arith, h, segments-len ws) in
      let f = read_fits ws linked-done.whole.few (accepted given upem scale 0 (sym none) (omega arith)).within i h in
      let w = LinkingHanded.handed-within given dir upem scale linked-done.answered (flat-typed ws) in
      let x = w.segment i (omega (arith, q, o.size)) in
      let few : new.len ≤ 65536 = omega (arith, w.few) in
      let score = x.score in
      let len = x.len in
      subst SegmentFits (sym (o.rest i q).same) (record {
        pos = f.pos;
        delta = f.delta;
        low = f.low;
        high = f.high;
        height = f.height;
        score = omega (arith, score);
        len = omega (arith, len);
        link = few-below new.len _ few x.link;
        serif = few-below new.len _ few x.serif;
        first = f.first;
        last = f.last;
        edge = f.edge;
        next = f.next;
      })

  -- `khs_link_segments_cjk`
  pub linking-left : SegmentsLeft ws now new
  linking-left =
      subst (λ (x : List ℤ). SegmentsLeft ws x new) (sym linked-done.held)
      (segments-left ws new linked-done.whole (record { len = (only-linked given dir upem scale none).size ∙ segments-len ws; segment = linked-fits }))

-- ---- building
-- the edge of a group of segments below 65,536 is of its types
group-typed : (t : Segments) (scale : ℤ) (g : List ℕ) → ((x : ℕ) → 0 < times x g → x < 65536) → Typed t → 0 < length g → TypedEdge (edge_of t scale g)
group-typed t scale [] b T h = absurd (omega arith)
group-typed t scale (m ∷ ms) b T h =
    record {
      fpos = (T.segment m).pos;
      link = below_none 65536;
      serif = below_none 65536;
      first = b m (times-head m ms);
      last = b (last_of m ms)
          (last-in (m ∷ ms) h);
    }

module _ (ws room : List ℤ) (dim major grp ttb scale : ℤ) (by : Thresholds) (count : ℤ) {now edges : List ℤ} {n : ℤ}
    (l : Build.BuiltLent ws room dim major grp ttb scale by count 0 (now, (edges, n))) where
  abbrev t : Segments
  t = flat_segments ws

  abbrev old : Axis
  old = empty_axis (dimension_of dim) (direction_of major)

  abbrev built : Built
  built = Build.built ws dim major grp ttb scale by

  built-done : Done {A = List ℤ × (List ℤ × ℤ)} ws built.answer (Build.built_lists ws room built) (now, (edges, n))
  built-done = call-done ws (eqb (length room) table_size) (is_in direction major && choices dim grp ttb) l

  abbrev rules : Rules
  rules = rules_of (dimension_of dim) (direction_of major) (is_cjk (group_of grp)) scale by

  abbrev s : State
  s = last_state t rules

  W : SegmentsWithin t
  W = (BuildingHanded.taken t old (group_of grp) (choice_of ttb) scale by built-done.answered).within

  G : Good t rules (not rules.cjk) s t.len
  G = last-good t rules W.few

  -- the segments
  built-fits : (i : ℕ) → i < segments_in ws → SegmentFits (segment_at built.segments i)
  unfolding segment_words
  built-fits i h =
      let q : i < t.len = omega (arith, h, segments-len ws) in
      let f = read_fits ws built-done.whole.few W i h in
      let out = BuildingHanded.outcome t old (group_of grp) (choice_of ttb) scale by built-done.answered in
      let R = built-rows t rules (shown t rules s) refl W in
      let row = R.row i q in
      let same = computed_same t old (group_of grp) (choice_of ttb) scale by i in
      let N = segments-are-within built.segments (BuildingHanded.segments-handed-on t old (group_of grp) (choice_of ttb) scale by built-done.answered) in
      let long : built.segments.len ≡ t.len = ap (λ (b : Built). b.segments.len) out ∙ R.size in
      let x = N.segment i (omega (arith, q, long)) in
      let few : built.segments.len ≤ 65536 = omega (arith, N.few) in
      let score = x.score in
      let len = x.len in
      record {
        pos = subst Short (sym (same pos_place refl)) f.pos;
        delta = subst Short (sym (same delta_place refl)) f.delta;
        low = subst Short (sym (same min_place refl)) f.low;
        high = subst Short (sym (same max_place refl)) f.high;
        height = subst Short (sym (same height_place refl)) f.height;
        score = omega (arith, score);
        len = omega (arith, len);
        link = few-below built.segments.len _ few x.link;
        serif = few-below built.segments.len _ few x.serif;
        first = subst (λ (k : ℕ). k < 65536) (sym (ap up (same first_place refl))) f.first;
        last = subst (λ (k : ℕ). k < 65536) (sym (ap up (same last_place refl))) f.last;
        edge =
            subst (Below 65536) (sym (ap (λ (b : Built). (segment_at b.segments i).edge) out)) (few-below s.count _ (omega (arith, G.room)) row.edge);
        next =
            few-below built.segments.len _ few
            (nexts-below built.segments i N.few (BuildingHanded.nexts-handed-on t old (group_of grp) (choice_of ttb) scale by built-done.answered)
            (omega (arith, q, long)));
      }

  -- `khs_compute_edges`: its segments
  pub building-left : SegmentsLeft ws now built.segments
  building-left =
      let out = BuildingHanded.outcome t old (group_of grp) (choice_of ttb) scale by built-done.answered in
      let size = ap (λ (b : Built). b.segments.len) out ∙ (built-rows t rules (shown t rules s) refl W).size in
      subst (λ (x : List ℤ). SegmentsLeft ws x built.segments) (sym (ap (λ (p : List ℤ × (List ℤ × ℤ)). p.0) built-done.held))
      (segments-left ws built.segments built-done.whole (record { len = size ∙ segments-len ws; segment = built-fits }))

  -- the edges
  abbrev axis : Axis
  axis = built.axis

  A : AxisWithin most_pos axis
  A = edges-within axis (BuildingHanded.edges-handed-on t old (group_of grp) (choice_of ttb) scale by built-done.answered)

  edge-fits : (k : ℕ) → k < axis.len → EdgeFits (edge_at axis k)
  edge-fits k h =
      let out = BuildingHanded.outcome t old (group_of grp) (choice_of ttb) scale by built-done.answered in
      let j = shown t rules s in
      let K = properties-kept (built_edges t rules s) (built_segments t s) (ready t rules j refl W) in
      let c = of-len t rules s j.full j.axis j.next refl in
      let m : axis.len ≡ s.count = ap (λ (b : Built). b.axis.len) out ∙ K.len ∙ c in
      let u : k < s.count = omega (arith, h, m) in
      let g = K.edge k (omega (arith, u, c)) in
      let e = of-edge t rules s j.full j.axis j.next refl k in
      let T = group-typed t rules.scale (group s k)
      (λ (x : ℕ) (p : 0 < times x (group s k)). omega (arith, members-below t rules (not rules.cjk) s t.len k W.few G u x p, W.few)) (flat-typed ws)
      (G.used k u) in
      let w = A.edge k h in
      let few : axis.len ≤ 65536 = omega (arith, A.few) in
      let opos = w.opos in
      let pos = w.pos in
      record {
        typed = record {
          fpos = subst Short (sym (ap (λ (b : Built). (edge_at b.axis k).fpos) out ∙ g.fpos ∙ ap (λ (x : Edge). x.fpos) e)) T.fpos;
          link = few-below axis.len _ few w.link;
          serif = few-below axis.len _ few w.serif;
          first = subst (λ (x : ℕ). x < 65536) (sym (ap (λ (b : Built). (edge_at b.axis k).first) out ∙ g.first ∙ ap (λ (x : Edge). x.first) e)) T.first;
          last = subst (λ (x : ℕ). x < 65536) (sym (ap (λ (b : Built). (edge_at b.axis k).last) out ∙ g.last ∙ ap (λ (x : Edge). x.last) e)) T.last;
        };
        opos = omega (arith, opos);
        pos = omega (arith, pos);
        fitted = fitted-word (edge_at axis k).blue w.blue;
      }

  abbrev words : List ℤ
  words = joined (edge_words_at axis) axis.len

  words_long : length words ≡ edge_size * axis.len
  words_long = joined_length (edge_words_at axis) edge_size (edge-lengths axis) axis.len

  in_front : take (edge_size * axis.len) edges ≡ words
  in_front =
      ap (λ (p : List ℤ × (List ℤ × ℤ)). take (edge_size * axis.len) p.1.0) built-done.held ∙ ap (take (edge_size * axis.len)) (written-front room words)
      ∙ take_at words (drop (length words) room) (edge_size * axis.len) words_long

  -- `khs_compute_edges`: the room for its edges
  pub room-left : RoomLeft room edges axis
  room-left =
      let typed : (k : ℕ) → k < axis.len → TypedEdge (edge_at axis k) = λ k h. (edge-fits k h).typed in
      let many = Back.count-back axis axis.len A.few typed in
      record {
        size = (room-kept ws room dim major grp ttb scale by count l).size;
        shown =
            ap edges_shown in_front
            ∙ edges-are-shown words axis.len (edge_at axis) words_long edge-fits
            (λ (i j : ℕ) (h : i < axis.len) (b : j < edge_size). joined_at (edge_words_at axis) edge_size (edge-lengths axis) axis.len i j h b);
        count = ap (λ (x : List ℤ). (edges_of x).len) in_front ∙ edges-len words ∙ many;
        read = λ (i : ℕ) (h : i < axis.len).
            ap (λ (x : List ℤ). edge_at (edges_of x) i) in_front ∙ edge-read words _ _ i (omega (arith, h, many)) (omega (arith, many, A.few))
            ∙ Back.read axis axis.len A.few typed i h;
      }
