-- With 0 passed over every edge is done: of the words that `khs_align_stem_edges` leaves, and of those that `khs_align_blues_and_stems` does.
use mathlib.Core.Path.{◌≡◌, refl, sym, ap, ◌∙◌}
use mathlib.Core.Bool.{true, ◌&&◌}
use mathlib.Core.List.{List}
use Prim.Native.Nat.{ℕ, ◌≤◌, ◌<◌}
use native.Mathlib.Omega.{arith}
use lib.ListN.{length}
use lib.IntN.{ℤ, pos}
use Rattle.axis.specs.declared.kinds.Dimension.{Dimension}
use Rattle.axis.specs.declared.kinds.Direction.TheVariants as Directions
use Rattle.axis.specs.declared.edge.Axis.{Axis}
use Rattle.axis.specs.Edge.{edge_at}
use Rattle.zones.specs.Call.{align_edges_to_blues}
use Rattle.zones.proofs.Changed as Blues
use Rattle.stems.specs.Answer.{Stems}
use Rattle.stems.proofs.Changed as Stems
use Rattle.stems.proofs.Done.{none-passed-over}
use Rattle.zones_stems.proofs.Changed as Joined
use Rattle.zones_stems.proofs.Rows as Rows
use Rattle.words.specs.Field.{choice_of, dimension_of, group_of, rule_of}
use Rattle.words.specs.Edge.{edges_in, flat_axis}
use Rattle.words_shape.specs.Shape.{choice}
use Rattle.words_call.specs.Lent.{both_in, choices, named_anchor}
use Rattle.words_edge.proofs.Reading.{flags-in}
use Rattle.words_edge.proofs.Wholes.{shown-whole, len-in, axis-long}
use Rattle.stems_words.specs.Lent.{stems_aligned, StemsLent}
use Rattle.zones_stems_words.specs.Lent.{joined_aligned, JoinedLent}
use Rattle.chain_words.specs.Left.{EdgesLeft, EdgeDone}
use Rattle.chain_words.proofs.Edges.{read-on, flat-dim, flat-major, call-done, as_many}
use Rattle.chain_words.proofs.Fitted.{stems-left, joined-left}

-- a count of 0 is the word 0
count-back : (n : ℕ) → pos n ≡ pos 0 → n ≡ 0
count-back n e = cc

-- words that are read as an axis whose edge is done
word-done : (ws now : List ℤ) (d : Dimension) (axis : Axis) (i : ℕ) → EdgesLeft ws now axis → edges_in ws ≤ 128 → i < edges_in ws
    → flat_axis now d Directions.None ≡ axis
    → (edge_at axis i).flags.done ≡ true → EdgeDone now i
word-done ws now d axis i l few h read done =
    let m = as_many l in
    sym (ap (λ f. f.done) (flags-in now d i (shown-whole now l.shown (omega (arith, m))) (omega (arith, m))))
    ∙ ap (λ (x : Axis). (edge_at x i).flags.done) read ∙ done

-- `khs_align_stem_edges`
pub all_done : (ws : List ℤ) (dim group adjust ttb anchor rule : ℤ) (standards : List ℤ) (count found : ℤ) {now : List ℤ} {a : ℤ}
    → StemsLent ws dim group adjust ttb anchor rule standards count found 0 (now, (pos 0, a)) → (i : ℕ) → i < edges_in ws → EdgeDone now i
all_done ws dim group adjust ttb anchor rule standards count found {now} {a} l i h =
    let d = dimension_of dim in
    let A = flat_axis ws d Directions.None in
    let c = call-done ws (choices dim group adjust && both_in choice ttb rule) l in
    let left = stems-left ws dim group adjust ttb anchor rule standards count found l in
    let only = (Stems.changed A (group_of group) (choice_of adjust) (choice_of ttb) (named_anchor anchor) (rule_of rule) standards refl).only in
    let none = count-back (stems_aligned ws dim group adjust ttb anchor rule standards).count (sym (ap (λ (p : List ℤ × (ℤ × ℤ)). p.1.0) c.held)) in
    word-done ws now d (stems_aligned ws dim group adjust ttb anchor rule standards).axis i left c.whole.few h
    (read-on d Directions.None left (only.dim ∙ flat-dim ws d Directions.None) (only.major ∙ flat-major ws d Directions.None))
    (none-passed-over A (group_of group) (choice_of adjust) (choice_of ttb) (named_anchor anchor) (rule_of rule) standards
    (omega (arith, len-in ws d, axis-long ws d, c.whole.few)) c.answered none i
    (omega (arith, h, len-in ws d)))

-- `khs_align_blues_and_stems`
pub joined-all-done : (ws : List ℤ) (dim group adjust ttb rule : ℤ) (standards : List ℤ) (count found : ℤ) {now : List ℤ} {a : ℤ}
    → JoinedLent ws dim group adjust ttb rule standards count found 0 (now, (pos 0, a)) → (i : ℕ) → i < edges_in ws → EdgeDone now i
joined-all-done ws dim group adjust ttb rule standards count found {now} {a} l i h =
    let d = dimension_of dim in
    let A = flat_axis ws d Directions.None in
    let c = call-done ws (choices dim group adjust && both_in choice ttb rule) l in
    let left = joined-left ws dim group adjust ttb rule standards count found l in
    let only = (Joined.changed A (group_of group) (choice_of adjust) (choice_of ttb) (rule_of rule) standards refl).only in
    let row = Rows.accepted-row A (group_of group) (choice_of adjust) (choice_of ttb) (rule_of rule) standards
    (Rows.unrefused A (group_of group) (choice_of adjust) (choice_of ttb) (rule_of rule) standards c.answered) in
    let z = align_edges_to_blues A (group_of group) (rule_of rule) standards in
    let zones = (Blues.changed A (rule_of rule) standards (group_of group) refl).only in
    let none = count-back (joined_aligned ws dim group adjust ttb rule standards).count (sym (ap (λ (p : List ℤ × (ℤ × ℤ)). p.1.0) c.held)) in
    let long : z.axis.len ≤ length z.axis.edges = omega (arith, zones.len, zones.edges.size, len-in ws d, axis-long ws d, c.whole.few) in
    word-done ws now d (joined_aligned ws dim group adjust ttb rule standards).axis i left c.whole.few h
    (read-on d Directions.None left (only.dim ∙ flat-dim ws d Directions.None) (only.major ∙ flat-major ws d Directions.None))
    (ap (λ (s : Stems). (edge_at s.axis i).flags.done) row
    ∙ none-passed-over z.axis (group_of group) (choice_of adjust) (choice_of ttb) z.anchor (rule_of rule) standards long
    (ap (λ (s : Stems). s.answer) (sym row) ∙ c.answered)
    (ap (λ (s : Stems). s.count) (sym row) ∙ none) i (omega (arith, h, zones.len, len-in ws d)))
