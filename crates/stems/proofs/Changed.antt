-- What the call changes: position and done of edges below the count, with a mark of the pass, and nothing else; a refusal nothing.
use Rattle.std.specs.Prelude.{None, Some}
use mathlib.Core.Path.{◌≡◌, refl, sym, subst}
use mathlib.Core.Bool.{Bool, true, ◌&&◌}
use mathlib.Core.List.{List}
use Prim.Native.Nat.{ℕ, ◌-◌, ◌<◌}
use native.Mathlib.Omega.{arith}
use borrow.Author.Tests.{lt-ltb}
use lib.Dec.{ltb}
use lib.IntN.{ℤ}
use lib.Signed.{lt_z}
use Rattle.signed.proofs.Choices.{either_way}
use Rattle.refusals.specs.Refusal.{refusal}
use Rattle.refusals.proofs.Tests.{all_hold}
use Rattle.fixed.specs.declared.width.WidthRule.{WidthRule}
use Rattle.axis.specs.Link.{Link}
use Rattle.axis.specs.Link.{Blue}
use Rattle.axis.specs.declared.kinds.Group.{Group}
use Rattle.axis.specs.declared.kinds.Group.TheVariants.{Default, Cjk}
use Rattle.axis.specs.declared.kinds.Mark.TheVariants as Marks
use Rattle.axis.specs.declared.edge.Edge.{Edge}
use Rattle.axis.specs.declared.edge.Axis.{Axis}
use Rattle.axis.specs.Edge.{edge_at, put_edge}
use Rattle.axis.specs.Mark.{among}
use Rattle.axis.specs.Limits.{most_pos}
use Rattle.axis.specs.Accepted.{Below, AxisWithin}
use Rattle.axis.specs.Changes.{place, Only, wherever, OnlyAxis, Changes}
use Rattle.axis.proofs.Acceptance.{axis-within}
use Rattle.axis.proofs.Only.{same-edge, position-place, placed-only, fixed-only, named, same-axis, also-put, link-kept, call-changes}
use Rattle.axis.proofs.Visits.{visits-keep}
use Rattle.stems_cjk.specs.declared.stem.Stem.{Stem}
use Rattle.stems.specs.declared.kinds.Mode.{Mode}
use Rattle.stems.specs.declared.kinds.Trail.{Trail}
use Rattle.stems.specs.declared.kinds.Second.{Second}
use Rattle.stems.specs.declared.kinds.Second.TheVariants.{Stays, Placed, Fixed}
use Rattle.stems.specs.declared.kinds.Plan.{Plan}
use Rattle.stems.specs.Visit.{too_close}
use Rattle.stems.specs.Plan.{anchored_plan, free_plan, latin_plan, stem_plan, cjk_plan, group_plan, zone_plan, is_bounded, is_over, second_edge, held_edge}
use Rattle.stems.specs.Answer.{Stems}
use Rattle.stems.specs.Stems.{State, counted, begun, stems, stems_of, mode_of, stems_tests, align_stem_edges, AlignsStemEdges, stems_marks}
use Rattle.stems.specs.StepsPass.{plan_at, first_put, second_put, carried_out, step_link, step}
use Rattle.stems.proofs.Straight.{steps-are}

-- ---- the marks of a plan
-- the first edge is given one of the pass
record Marked (plan : Plan) : Type 0 where
  marks : among stems_marks plan.mark ≡ true

module _ (rule : WidthRule) (xs : List ℤ) (e e2 : Edge) (t : Trail) where
  latin-marked : (a : Edge) (anchor : Link) → Marked (latin_plan rule xs e e2 a anchor t)
  unfolding latin_plan anchored_plan free_plan among
  latin-marked a None = record { marks = refl }
  latin-marked a (Some j) = either_way Marked e2.flags.done _ _ (record { marks = refl }) (record { marks = refl })

stem-marked : (e e2 : Edge) (s : Stem) (d : ℤ) → Marked (stem_plan e e2 s d)
unfolding stem_plan among
stem-marked e e2 s d = either_way Marked (lt_z e.opos e2.opos) _ _ (record { marks = refl }) (record { marks = refl })

module _ (m : Mode) (xs : List ℤ) (e e2 a : Edge) (anchor : Link) (before : Bool) (t : Trail) where
  group-marked : (g : Group) → Marked (group_plan g m xs e e2 a anchor before t)
  unfolding group_plan cjk_plan among
  group-marked Default = latin-marked m.rule xs e e2 t a anchor
  group-marked Cjk = either_way Marked before _ _ (record { marks = refl }) (stem-marked e e2 _ _)

  zone-marked : (b : Blue) → Marked (zone_plan b m xs e e2 a anchor before t)
  unfolding zone_plan among
  zone-marked None = group-marked m.group
  zone-marked (Some z) = record { marks = refl }

-- ---- the stores
abbrev PlacedOnly : Edge → Edge → Type 0
PlacedOnly = Only (place stems_marks)

second-only : (e : Edge) (x : Second) → PlacedOnly e (second_edge e x)
unfolding second_edge among
second-only e Stays = same-edge (place stems_marks) e
second-only e (Placed p) = position-place stems_marks e _ (placed-only stems_marks e p Marks.Linked refl)
second-only e (Fixed p) = fixed-only stems_marks e p Marks.Stem refl

held-only : (plan : Plan) (i : ℕ) (e prev link : Edge) → PlacedOnly e (held_edge plan i e prev link)
unfolding held_edge among
held-only plan i e prev link =
    either_way (PlacedOnly e) (is_bounded plan i && is_over e prev link) _ e
    (position-place stems_marks e _ (placed-only stems_marks e prev.pos Marks.Bound refl))
    (same-edge (place stems_marks) e)

-- ---- the pass
module _ (m : Mode) (xs : List ℤ) (old : Axis) (b : ℕ) (within : AxisWithin b old) where
  abbrev Kept : Axis → Type 0
  Kept = OnlyAxis (wherever (λ (i : ℕ). ltb i old.len) (place stems_marks)) old

  abbrev KeptBy : State → Type 0
  KeptBy s = Kept s.axis

  put : (axis : Axis) (i : ℕ) (e : Edge) → i < old.len → Kept axis → PlacedOnly (edge_at axis i) e → Kept (put_edge axis i e)
  put axis i e q h o = also-put _ old axis i e h (named (λ (k : ℕ). ltb k old.len) (place stems_marks) i (edge_at axis i) e (lt-ltb i old.len q) o)

  carried : (s : State) (i k : ℕ) (plan : Plan) → Marked plan → i < old.len → k < old.len → KeptBy s → KeptBy (carried_out s i k plan)
  unfolding carried_out
  carried s i k plan g p q h =
      let one = first_put plan i s.axis in
      let two = second_put plan k one in
      put two i _ p
      (put one k _ q (put s.axis i _ p h (fixed-only stems_marks (edge_at s.axis i) plan.first plan.mark g.marks))
      (second-only (edge_at one k) plan.second))
      (held-only plan i (edge_at two i) (edge_at two (i - 1)) (edge_at two k))

  by-link : (s : State) (i : ℕ) (l : Link) → Below old.len l → i < old.len → KeptBy s → KeptBy (step_link m xs s i l)
  unfolding step_link
  by-link s i None e q h = h
  by-link s i (Some k) e q h =
      either_way KeptBy (too_close m.group s.trail.last (edge_at s.axis i) (edge_at s.axis k)) (counted s) _ h
      (carried s i k (plan_at m xs s i k) (zone-marked m xs _ _ _ _ _ _ (edge_at s.axis k).blue) q (e.at k refl) h)

  one : (s : State) (i : ℕ) → i < old.len → KeptBy s → KeptBy (step m xs s i)
  unfolding step
  one s i q h =
      either_way KeptBy (edge_at s.axis i).flags.done s _ h
      (by-link s i (edge_at s.axis i).link (subst (Below old.len) (sym (link-kept _ old s.axis i h)) (within.edge i q).link) q h)

  pass : (anchor : Link) → Kept (stems_of m xs anchor old).axis
  unfolding stems_of
  pass anchor =
      subst KeptBy (steps-are m xs old.len 0 (begun anchor old))
      (visits-keep KeptBy (step m xs) old.len one old.len 0 (begun anchor old) (omega arith) (same-axis _ old))

stems-done : (m : Mode) (xs : List ℤ) (anchor : Link) (axis : Axis) → (stems_of m xs anchor axis).answer ≡ 0
unfolding stems_of
stems-done m xs anchor axis = refl

-- ---- the call
pub changed : (axis : Axis) (group : Group) (adjust ttb : Bool) (anchor : Link) (rule : WidthRule) (xs : List ℤ) {r : Stems}
    → AlignsStemEdges axis group adjust ttb anchor rule xs r
    → Changes (OnlyAxis (wherever (λ (i : ℕ). ltb i axis.len) (place stems_marks))) r.answer axis r.axis
unfolding align_stem_edges
changed axis group adjust ttb anchor rule xs p =
    let Small = OnlyAxis (wherever (λ (i : ℕ). ltb i axis.len) (place stems_marks)) in
    let m = mode_of axis group adjust rule in
    subst (λ (r : Stems). Changes Small r.answer axis r.axis) (sym p)
    (call-changes Small (refusal (stems_tests axis ttb anchor rule xs)) axis (λ (k : ℕ). stems 0 None axis k) (stems_of m xs anchor axis)
    (λ (r : Stems). r.answer) (λ (r : Stems). r.axis)
    (λ (k : ℕ). refl) (same-axis _ axis) (stems-done m xs anchor axis)
    (λ e. let t = all_hold (stems_tests axis ttb anchor rule xs) refl e in pass m xs axis most_pos
    (axis-within axis t.0 t.1.1.1.0 t.1.1.1.1.1.0) anchor))
