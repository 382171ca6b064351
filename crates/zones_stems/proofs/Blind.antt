-- Request #105, the joined call: its answer, its count, its anchor and its positions are as without marks.
use Rattle.std.specs.Prelude.{None}
use mathlib.Core.Path.{◌≡◌, ap, ◌∙◌}
use mathlib.Core.Bool.{Bool, not, ◌||◌}
use mathlib.Core.List.{List, [], ◌∷◌}
use Prim.Native.Nat.{ℕ, min}
use lib.Dec.{leb}
use lib.IntN.{ℤ}
use Rattle.refusals.specs.Refusal.{◌unless◌, too_long, bad_parameter, bad_index, out_of_range, retired, refusal}
use Rattle.fixed.specs.declared.width.WidthRule.{WidthRule}
use Rattle.fixed.specs.Width.{rule_holds}
use Rattle.axis.specs.declared.kinds.Group.{Group}
use Rattle.axis.specs.declared.edge.Axis.{Axis}
use Rattle.axis.specs.Limits.{most_edges}
use Rattle.axis.specs.Mark.{Blind}
use Rattle.axis.specs.Refusals.{every, is_bare}
use Rattle.axis.proofs.Alike.{AlikeAxis, alike_len, at-alike, indices-alike, numbers-alike, answered-alike, blind}
use Rattle.zones.specs.Answer.{Anchored}
use Rattle.zones.specs.Call.{has_blues, align_edges_to_blues}
use Rattle.zones.proofs.Blind.{align-edges-to-blues}
use Rattle.stems.specs.Stems.{stems, align_stem_edges, without_marks}
use Rattle.stems.proofs.Blind.{marks-unread}
use Rattle.zones_stems.specs.Joined.{zones_hold, joined_tests, then_stems, align_blues_and_stems}

module _ (group : Group) (adjust ttb : Bool) (rule : WidthRule) (xs : List ℤ) where
  module _ (a b : Axis) (h : AlikeAxis a b) where
    zones-alike : zones_hold group a ≡ zones_hold group b
    unfolding zones_hold
    zones-alike = λ k. has_blues group (h.same k).dim || every (λ (i : ℕ). is_bare ((at-alike a b i h).same k)) (min (alike_len a b h k) most_edges)

    refused-same : refusal (joined_tests a group ttb rule xs) ≡ refusal (joined_tests b group ttb rule xs)
    refused-same = λ k.
        refusal
        (too_long unless leb (alike_len a b h k) most_edges
        ∷ retired unless not ttb
        ∷ bad_parameter unless rule_holds rule xs
        ∷ bad_parameter unless zones-alike k
        ∷ bad_index unless indices-alike a b h k
        ∷ out_of_range unless numbers-alike a b h k
        ∷ [])

    -- the two calls in a row
    row_same : without_marks (then_stems group adjust ttb rule xs (align_edges_to_blues a group rule xs))
        ≡ without_marks (then_stems group adjust ttb rule xs (align_edges_to_blues b group rule xs))
    row_same =
        let zoned = (align-edges-to-blues group rule xs).whatever a b h.same in
        let before = align_edges_to_blues a group rule xs in
        let after = align_edges_to_blues b group rule xs in
        (marks-unread group adjust ttb before.anchor rule xs).whatever before.axis after.axis (ap (λ (r : Anchored). r.axis) zoned)
        ∙ ap (λ (r : Anchored). without_marks (align_stem_edges after.axis group adjust ttb r.anchor rule xs)) zoned

    same : without_marks (align_blues_and_stems a group adjust ttb rule xs) ≡ without_marks (align_blues_and_stems b group adjust ttb rule xs)
    unfolding align_blues_and_stems
    same =
        answered-alike without_marks _ _ (stems 0 None a) (stems 0 None b) _ _ refused-same
        (λ (n : ℕ). λ k. stems 0 None (h.same k) n)
        row_same

  pub joined-unread : Blind (λ (axis : Axis). align_blues_and_stems axis group adjust ttb rule xs) without_marks
  joined-unread = blind _ without_marks same
