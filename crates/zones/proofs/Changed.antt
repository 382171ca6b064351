-- What the call changes: position, done, neutral and zone of edges below the count, and nothing else; a refusal nothing. What it places it marks as a blue
-- anchor, blue or
-- linked, and an edge without such a mark from it has the position that it had, but for one that was done already and is put on its zone.
use Rattle.std.specs.Prelude.{None}
use mathlib.Core.Path.{◌≡◌, refl, sym, subst}
use mathlib.Core.Bool.{Bool, true, false, cond}
use mathlib.Core.List.{List}
use Prim.Native.Nat.{ℕ}
use lib.Dec.{ltb}
use lib.IntN.{ℤ}
use Rattle.refusals.specs.Refusal.{refusal}
use Rattle.refusals.proofs.Tests.{all_hold}
use Rattle.fixed.specs.declared.width.WidthRule.{WidthRule}
use Rattle.axis.specs.declared.kinds.Group.{Group}
use Rattle.axis.specs.declared.edge.Axis.{Axis}
use Rattle.axis.specs.Limits.{most_pos}
use Rattle.axis.specs.Changes.{zone, wherever, OnlyAxis, Changes}
use Rattle.axis.proofs.Acceptance.{axis-within}
use Rattle.axis.proofs.Only.{same-axis, call-changes}
use Rattle.zones.specs.Answer.{Anchored}
use Rattle.zones.specs.Pass.{blues_marks, anchored, blues_of}
use Rattle.zones.proofs.ChangedPass.{blues-only, blues-done}
use Rattle.zones.specs.Call.{has_blues, blues_tests, align_edges_to_blues, AlignsEdgesToBlues}

module _ (axis : Axis) (rule : WidthRule) (xs : List ℤ) where
  abbrev Small : Axis → Axis → Type 0
  Small = OnlyAxis (wherever (λ (i : ℕ). ltb i axis.len) (zone blues_marks))

  -- the work, with blues or without
  abbrev work : Bool → Anchored
  work t = cond t (blues_of rule xs axis) (anchored axis None 0)

  small : (t : Bool) → refusal (blues_tests axis rule xs) ≡ 0 → Small axis (work t).axis
  small true e = let h = all_hold (blues_tests axis rule xs) refl e in blues-only rule xs axis most_pos (axis-within axis h.0 h.1.1.0 h.1.1.1.0)
  small false e = same-axis _ axis

  -- its answer is 0
  pub accepted : (t : Bool) → (cond t (blues_of rule xs axis) (anchored axis None 0)).answer ≡ 0
  accepted true = blues-done rule xs axis
  accepted false = refl

  pub changed : (group : Group) {r : Anchored} → AlignsEdgesToBlues axis group rule xs r
      → Changes (OnlyAxis (wherever (λ (i : ℕ). ltb i axis.len) (zone blues_marks))) r.answer axis r.axis
  unfolding align_edges_to_blues
  changed group p =
      let t = has_blues group axis.dim in
      subst (λ (r : Anchored). Changes Small r.answer axis r.axis) (sym p)
      (call-changes Small (refusal (blues_tests axis rule xs)) axis (anchored axis None) (work t) (λ (r : Anchored). r.answer)
      (λ (r : Anchored). r.axis) (λ (j : ℕ). refl)
      (same-axis _ axis) (accepted t) (small t))
