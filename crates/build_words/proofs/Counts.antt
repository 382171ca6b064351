-- How many edges building hands back.
use mathlib.Core.Path.{◌≡◌, refl}
use mathlib.Core.Bool.{Bool, true, false}
use mathlib.Core.List.{List}
use Prim.Native.Nat.{ℕ, zero, suc, ◌≤◌}
use native.Mathlib.Omega.{arith}
use borrow.Author.Tests.{leb-true}
use lib.IntN.{ℤ}
use Rattle.refusals.specs.Refusal.{refusal}
use Rattle.axis.specs.Limits.{most_edges}
use Rattle.axis.specs.declared.edge.Axis.{Axis}
use Rattle.axis.specs.declared.kinds.Group.{Group}
use Rattle.axis.specs.declared.segment.Segments.{Segments}
use Rattle.axis.specs.Edge.{empty_axis}
use Rattle.build.specs.declared.numbers.Thresholds.{Thresholds}
use Rattle.build.specs.Building.{building_tests, is_cjk, rules_of, last_state, built, compute_edges}
use Rattle.build.proofs.Determined.{refused, not-refused}
use Rattle.build.proofs.Handed.{edges-handed-on}
use Rattle.words.specs.Field.{choice_of, dimension_of, direction_of, group_of}
use Rattle.words.specs.Segment.{flat_segments}
use Rattle.build_words.specs.Lent as Build

-- the edges that were there, or as many as a table holds
call-few : (t : Segments) (old : Axis) (group : Group) (ttb : Bool) (scale : ℤ) (by : Thresholds) → old.len ≤ most_edges
    → (compute_edges t old group ttb scale by).axis.len ≤ most_edges
unfolding built
call-few t old group ttb scale by h = go (refusal (building_tests t old.len ttb scale by)) refl
  where
    full : (b : Bool) → (last_state t (rules_of old.dim old.major_dir (is_cjk group) scale by)).full ≡ b
        → refusal (building_tests t old.len ttb scale by) ≡ 0
        → (compute_edges t old group ttb scale by).axis.len ≤ most_edges
    full true q e = rw (not-refused t old group ttb scale by e, q) h
    full false q e =
        let a : (compute_edges t old group ttb scale by).answer ≡ 0 = rw (not-refused t old group ttb scale by e, q) in
        leb-true (compute_edges t old group ttb scale by).axis.len most_edges (edges-handed-on t old group ttb scale by a).short

    go : (k : ℕ) → refusal (building_tests t old.len ttb scale by) ≡ k → (compute_edges t old group ttb scale by).axis.len ≤ most_edges
    go zero e = full (last_state t (rules_of old.dim old.major_dir (is_cjk group) scale by)).full refl e
    go (suc k) e = rw (refused t old group ttb scale by k e) h

pub built-few : (ws : List ℤ) (dim major group ttb scale : ℤ) (t : Thresholds) → (Build.built ws dim major group ttb scale t).axis.len ≤ most_edges
built-few ws dim major group ttb scale t =
    call-few (flat_segments ws) (empty_axis (dimension_of dim) (direction_of major)) (group_of group) (choice_of ttb) scale t (omega arith)
