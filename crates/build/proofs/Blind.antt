-- Building reads no mark of the edges that were there before (request #105).
use mathlib.Core.Path.{◌≡◌, refl, sym, ap, ◌∙◌}
use mathlib.Core.Bool.{Bool, true, false, cond}
use Prim.Native.Nat.{ℕ}
use lib.IntN.{ℤ}
use Rattle.refusals.specs.Refusal.{refusal, no_room}
use Rattle.axis.specs.declared.edge.Axis.{Axis}
use Rattle.axis.specs.declared.kinds.Group.{Group}
use Rattle.axis.specs.declared.segment.Segments.{Segments}
use Rattle.axis.specs.Mark.{unmarked_axis, Blind}
use Rattle.axis.proofs.Alike.{AlikeAxis, unmarked-alike, answered-alike, blind}
use Rattle.build_join.specs.declared.rules.Rules.{Rules}
use Rattle.build_join.specs.Joining.{State}
use Rattle.build_properties.specs.Properties.{edge_properties}
use Rattle.build.specs.Answer.{Built}
use Rattle.build.specs.declared.numbers.Thresholds.{Thresholds}
use Rattle.build.specs.Building.{building_tests, is_cjk, rules_of, last_state, built_segments, built_edges, beside, without_marks, built, compute_edges}

module _ (t : Segments) where
  -- the old edges are handed back
  back : (old : Axis) (k : ℕ) → without_marks (beside t (unmarked_axis old) k) ≡ without_marks (beside t old k)
  back old k = λ i. beside t ((unmarked-alike old).same i) k

  -- or left out
  built-same : (old : Axis) (r : Rules) (s : State) → without_marks (built t (unmarked_axis old) r s) ≡ without_marks (built t old r s)
  unfolding built
  built-same old r s = by-room s.full (beside (built_segments t s) (edge_properties (built_edges t r s) (built_segments t s)) 0)
    where
      by-room : (full : Bool) (new : Built) → without_marks (cond full (beside t (unmarked_axis old) no_room) new)
          ≡ without_marks (cond full (beside t old no_room) new)
      by-room true new = back old no_room
      by-room false new = refl

  module _ (group : Group) (ttb : Bool) (scale : ℤ) (by : Thresholds) where
    abbrev call : Axis → Built
    call old = compute_edges t old group ttb scale by

    erased : (old : Axis) → without_marks (call (unmarked_axis old)) ≡ without_marks (call old)
    unfolding compute_edges
    erased old =
        let k = refusal (building_tests t old.len ttb scale by) in
        let r = rules_of old.dim old.major_dir (is_cjk group) scale by in
        answered-alike without_marks k k (beside t (unmarked_axis old)) (beside t old) (built t (unmarked_axis old) r (last_state t r))
        (built t old r (last_state t r)) refl (back old)
        (built-same old r (last_state t r))

    pub marks-unread : Blind (λ (old : Axis). compute_edges t old group ttb scale by) without_marks
    marks-unread =
        blind call without_marks (λ (a b : Axis) (h : AlikeAxis a b). sym (erased a) ∙ ap (λ (old : Axis). without_marks (call old)) h.same ∙ erased b)
