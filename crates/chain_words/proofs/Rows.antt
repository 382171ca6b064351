-- Request #108 of words: what `khs_align_blues_and_stems` leaves and hands back is what `khs_align_edges_to_blues`, and behind it `khs_align_stem_edges` with
-- the anchor handed back, do;
-- and what the two accept it accepts, but for a zone on an axis that the group has none on.
use Rattle.std.specs.Prelude.{None, Some}
use mathlib.Core.Path.{◌≡◌, refl, sym, ap, subst, ◌∙◌}
use mathlib.Core.Bool.{Bool, true, false, not, ◌&&◌}
use mathlib.Core.List.{List}
use Prim.Native.Nat.{ℕ, ◌≤◌}
use native.Mathlib.Omega.{arith}
use lib.IntN.{ℤ, pos, negsuc}
use Rattle.refusals.specs.Refusal.{bad_parameter, refusal, answered}
use Rattle.refusals.proofs.Answers.{none-refused}
use Rattle.refusals.proofs.Tests.{AllHold, and_first, and_second, all_hold}
use Rattle.axis.specs.declared.kinds.Direction.TheVariants as Directions
use Rattle.axis.specs.Link.{Link}
use Rattle.axis.specs.declared.edge.Axis.{Axis}
use Rattle.axis.specs.Accepted.{Below}
use Rattle.axis.specs.Handed.{EdgesAccepted}
use Rattle.axis.specs.Limits.{most_edges}
use Rattle.zones.specs.Answer.{Anchored}
use Rattle.zones.specs.Pass.{anchored}
use Rattle.zones.specs.Call.{blues_where, blues_tests, align_edges_to_blues}
use Rattle.zones.proofs.Changed as Blues
use Rattle.zones.proofs.Handed as BluesHanded
use Rattle.stems.specs.Answer.{Stems}
use Rattle.stems.specs.Stems.{stems, stems_of, mode_of, stems_tests, align_stem_edges}
use Rattle.zones_stems.specs.Joined.{zones_hold, joined_tests, then_stems, align_blues_and_stems}
use Rattle.zones_stems.proofs.Handed as JoinedHanded
use Rattle.zones_stems.proofs.Rows as Rows
use Rattle.words.specs.Field.{choice_of, dimension_of, group_of, rule_of, link_word}
use Rattle.words.specs.Word.{joined}
use Rattle.words.specs.Edge.{edges_in, flat_axis, edge_words_at, edges_over}
use Rattle.words_shape.specs.Shape.{is_in, choice}
use Rattle.words_call.specs.Lent.{refused_or, edges_front, both_in, choices, named_anchor}
use Rattle.words_call.proofs.Naming.{anchor-none, anchor-named, index-names}
use Rattle.words_edge.specs.Whole.{Whole}
use Rattle.words_edge.proofs.Wholes.{shown-whole, len-in}
use Rattle.zones_words.specs.Lent.{zones_anchored, zones_words, ZonesLent}
use Rattle.stems_words.specs.Lent.{stems_aligned, stems_words, StemsLent}
use Rattle.zones_stems_words.specs.Lent.{joined_aligned, JoinedLent}
use Rattle.chain_words.specs.Left.{EdgesLeft}
use Rattle.chain_words.proofs.Answers.{both, lent-done}
use Rattle.chain_words.proofs.Edges.{Done, edges-over, read-on, as_many, flat-dim, flat-major, call-done, front-holds}
use Rattle.chain_words.proofs.Fitted.{zones-left}

-- an anchor among the edges is named by its own word
named_back : (l : Link) → Below most_edges l → named_anchor (link_word l) ≡ l
named_back None b = sym (anchor-none (negsuc 0) refl)
named_back (Some k) b =
    sym (anchor-named (pos k) (λ e. absurd (let z : ◌≡◌ {A = ℕ} 0 1 = cc in omega arith))) ∙ ap Some (index-names k most_edges (omega arith) (b.at k refl))

-- an axis written over lists of as many edges
over-same : (ws mid : List ℤ) (axis : Axis) → Whole ws → Whole mid → edges_in mid ≡ edges_in ws → edges_over mid axis ≡ edges_over ws axis
over-same ws mid axis w v e = edges-over mid axis v ∙ ap (joined (edge_words_at axis)) e ∙ sym (edges-over ws axis w)

-- ---- behind the zones
module _ (ws : List ℤ) (dim group rule : ℤ) (standards : List ℤ) (anchor : ℤ) {mid : List ℤ} {b : ℤ}
    (z : ZonesLent ws dim group rule standards anchor 0 (mid, b)) where
  abbrev zoned : Anchored
  zoned = zones_anchored ws dim group rule standards

  abbrev A : Axis
  A = flat_axis ws (dimension_of dim) Directions.None

  was : Done {A = List ℤ × ℤ} ws (choices dim group rule) zoned.answer (zones_words ws zoned) (mid, b)
  was = call-done ws (choices dim group rule) z

  left : EdgesLeft ws mid zoned.axis
  left = zones-left ws dim group rule standards anchor z

  -- the words are read as the axis, and the anchor is named by its word
  read : flat_axis mid (dimension_of dim) Directions.None ≡ zoned.axis
  read =
      let only = (Blues.changed A (rule_of rule) standards (group_of group) refl).only in
      read-on (dimension_of dim) Directions.None left (only.dim ∙ flat-dim ws (dimension_of dim) Directions.None)
      (only.major ∙ flat-major ws (dimension_of dim) Directions.None)

  many : edges_in mid ≡ edges_in ws
  many = as_many left

  whole-mid : Whole mid
  whole-mid = shown-whole mid left.shown (omega (arith, many, was.whole.few))

  named : named_anchor b ≡ zoned.anchor
  named =
      let below = BluesHanded.anchor-handed-on A (group_of group) (rule_of rule) standards was.answered in
      let few : zoned.axis.len ≤ most_edges = omega (arith, ap (λ (x : Axis). x.len) read, len-in mid (dimension_of dim), many, was.whole.few) in
      ap (λ (p : List ℤ × ℤ). named_anchor p.1) was.held ∙ named_back zoned.anchor (record { at = λ k e. omega (arith, below.at k e) })

  -- so that the stem call behind it is the stem call on what the blue call handed back
  pub then-stems : (adjust ttb : ℤ) → stems_aligned mid dim group adjust ttb b rule standards
      ≡ align_stem_edges zoned.axis (group_of group) (choice_of adjust) (choice_of ttb) zoned.anchor (rule_of rule) standards
  then-stems adjust ttb = λ k. align_stem_edges (read k) (group_of group) (choice_of adjust) (choice_of ttb) (named k) (rule_of rule) standards

-- ---- the joined call is the two in a row
module _ (ws : List ℤ) (dim group adjust ttb rule : ℤ) (standards : List ℤ) (count found : ℤ) {now : List ℤ} {n a : ℤ}
    (l : JoinedLent ws dim group adjust ttb rule standards count found 0 (now, (n, a))) where
  abbrev others : Bool
  others = choices dim group adjust && both_in choice ttb rule

  abbrev given : Axis
  given = flat_axis ws (dimension_of dim) Directions.None

  abbrev result : Stems
  result = joined_aligned ws dim group adjust ttb rule standards

  done : Done {A = List ℤ × (ℤ × ℤ)} ws others result.answer (stems_words ws result) (now, (n, a))
  done = call-done ws others l

  none : refusal (joined_tests given (group_of group) (choice_of ttb) (rule_of rule) standards) ≡ 0
  none = Rows.unrefused given (group_of group) (choice_of adjust) (choice_of ttb) (rule_of rule) standards done.answered

  hold : AllHold (joined_tests given (group_of group) (choice_of ttb) (rule_of rule) standards)
  hold = all_hold (joined_tests given (group_of group) (choice_of ttb) (rule_of rule) standards) refl none

  -- both calls behind each other answer 0, and leave and hand back what the joined one does
  pub in_a_row : (anchor count' found' : ℤ) {r r' : ℕ} {mid : List ℤ} {b : ℤ} {now' : List ℤ} {n' a' : ℤ}
      → ZonesLent ws dim group rule standards anchor r (mid, b)
      → StemsLent mid dim group adjust ttb b rule standards count' found' r' (now', (n', a'))
      → (r ≡ 0) × ((r' ≡ 0) × (◌≡◌ {A = List ℤ × (ℤ × ℤ)} (now', (n', a')) (now, (n, a))))
  in_a_row anchor count' found' {r} {r'} {mid} {b} {now'} {n'} {a'} y x =
      let o = done.rest in
      let cs = and_first (choices dim group adjust) _ o in
      let other : choices dim group rule ≡ true =
      both (and_first (is_in choice dim) _ cs) (both (and_first (is_in choice group) _ (and_second (is_in choice dim) _ cs))
      (and_second (is_in choice ttb) _ (and_second (choices dim group adjust) _ o))) in
      let accepted = BluesHanded.accepts given (group_of group) (rule_of rule) standards
      (Rows.edges given (group_of group) (choice_of adjust) (choice_of ttb) (rule_of rule) standards hold) hold.1.1.0 in
      let first = lent-done y (front-holds ws (choices dim group rule) done.shown done.whole.few other) accepted in
      let y0 = subst (λ (k : ℕ). ZonesLent ws dim group rule standards anchor k (mid, b)) first.0 y in
      let same : stems_aligned mid dim group adjust ttb b rule standards ≡ result =
      then-stems ws dim group rule standards anchor y0 adjust ttb ∙ sym
      (Rows.accepted-row given (group_of group) (choice_of adjust) (choice_of ttb) (rule_of rule) standards none) in
      let v = whole-mid ws dim group rule standards anchor y0 in
      let second = lent-done x (front-holds mid others (left ws dim group rule standards anchor y0).shown v.few o)
      (ap (λ (s : Stems). s.answer) same ∙ done.answered) in (
        first.0,
        (
          second.0,
          second.1 ∙ ap (stems_words mid) same
              ∙ (λ k. (
                over-same ws mid result.axis done.whole v (many ws dim group rule standards anchor y0) k,
                (pos result.count, link_word result.anchor),
              )) ∙ sym done.held,
        ),
      )

-- ---- what the two accept
module _ (ws : List ℤ) (dim group adjust ttb rule : ℤ) (standards : List ℤ) (anchor count found : ℤ) {mid : List ℤ} {b : ℤ} {now : List ℤ × (ℤ × ℤ)}
    (y : ZonesLent ws dim group rule standards anchor 0 (mid, b)) (x : StemsLent mid dim group adjust ttb b rule standards count found 0 now) where
  abbrev axis : Axis
  axis = flat_axis ws (dimension_of dim) Directions.None

  zones-done : Done {A =
      List ℤ × ℤ} ws (choices dim group rule) (zones_anchored ws dim group rule standards).answer (zones_words ws (zones_anchored ws dim group rule standards))
      (mid, b)
  zones-done = call-done ws (choices dim group rule) y

  stems-done : Done {A =
      List ℤ × (ℤ × ℤ)} mid (choices dim group adjust && both_in choice ttb rule) (stems_aligned mid dim group adjust ttb b rule standards).answer
      (stems_words mid (stems_aligned mid dim group adjust ttb b rule standards)) now
  stems-done = call-done mid (choices dim group adjust && both_in choice ttb rule) x

  zones-hold : AllHold (blues_tests axis (rule_of rule) standards)
  unfolding align_edges_to_blues
  zones-hold =
      all_hold (blues_tests axis (rule_of rule) standards) refl
      (none-refused (anchored axis None) (blues_where axis (group_of group) (rule_of rule) standards) (λ (r : Anchored). r.answer) (λ j. refl) _
      zones-done.answered)

  upward : not (choice_of ttb) ≡ true
  unfolding align_stem_edges
  upward =
      let given = flat_axis mid (dimension_of dim) Directions.None in
      (all_hold (stems_tests given (choice_of ttb) (named_anchor b) (rule_of rule) standards) refl
      (none-refused (stems 0 None given) (stems_of (mode_of given (group_of group) (choice_of adjust) (rule_of rule)) standards (named_anchor b) given)
      (λ (s : Stems). s.answer) (λ j. refl) _
      stems-done.answered)).1.0

  accepted-edges : EdgesAccepted axis
  accepted-edges = record { short = zones-hold.0; indexed = zones-hold.1.1.0; in_range = zones-hold.1.1.1.0 }

  in_front : refusal (edges_front ws (choices dim group adjust && both_in choice ttb rule)) ≡ 0
  in_front = front-holds ws (choices dim group adjust && both_in choice ttb rule) zones-done.shown zones-done.whole.few stems-done.rest

  -- the joined call accepts
  pub joined-accepts : (count' found' : ℤ) {r : ℕ} {now' : List ℤ × (ℤ × ℤ)} → zones_hold (group_of group) axis ≡ true
      → JoinedLent ws dim group adjust ttb rule standards count' found' r now' → r ≡ 0
  joined-accepts count' found' h l =
      (lent-done l in_front (JoinedHanded.accepts axis (group_of group) (choice_of adjust) (choice_of ttb) (rule_of rule) standards accepted-edges upward
      zones-hold.1.0 h)).0

  -- but for a zone where the group has none, by 2
  pub joined-refuses : (count' found' : ℤ) {r : ℕ} {now' : List ℤ × (ℤ × ℤ)} → zones_hold (group_of group) axis ≡ false
      → JoinedLent ws dim group adjust ttb rule standards count' found' r now' → r ≡ bad_parameter
  unfolding refused_or align_blues_and_stems refusal
  joined-refuses count' found' {r} h l =
      let two : refusal (joined_tests axis (group_of group) (choice_of ttb) (rule_of rule) standards) ≡ bad_parameter =
      Rows.refused-by-zone axis (group_of group) (choice_of ttb) (rule_of rule) standards h ∙ rw (accepted-edges.short, upward) in
      let row = then_stems (group_of group) (choice_of adjust) (choice_of ttb) (rule_of rule) standards
      (align_edges_to_blues axis (group_of group) (rule_of rule) standards) in
      l.number ∙ ap (λ (k : ℕ). answered k (λ (i : ℕ). i) (joined_aligned ws dim group adjust ttb rule standards).answer) in_front
      ∙ ap (λ (k : ℕ). (answered k (stems 0 None axis) row).answer) two
