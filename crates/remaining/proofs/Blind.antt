-- The answer, the anchor and the positions are as without marks.
use Rattle.std.specs.Prelude.{None}
use mathlib.Core.Path.{◌≡◌, refl}
use mathlib.Core.Bool.{not}
use mathlib.Core.List.{[], ◌∷◌}
use Prim.Native.Nat.{ℕ}
use lib.Dec.{leb}
use Rattle.refusals.specs.Refusal.{◌unless◌, too_long, bad_index, out_of_range, steep, refusal}
use Rattle.axis.specs.declared.kinds.Group.{Group}
use Rattle.axis.specs.Link.{Link}
use Rattle.axis.specs.declared.edge.Axis.{Axis}
use Rattle.axis.specs.Limits.{most_edges}
use Rattle.axis.specs.Mark.{Blind}
use Rattle.axis.specs.Refusals.{link_holds}
use Rattle.axis.proofs.Alike.{AlikeAxis, alike_len, indices-alike, numbers-alike, answered-alike, blind}
use Rattle.remaining.specs.Remaining.{state, begun, remaining, remaining_of, remaining_tests, align_remaining_edges, without_marks}
use Rattle.remaining.proofs.Alike.{AlikeState, pass-alike}

module _ (group : Group) (count : ℕ) (anchor : Link) where
  module _ (a b : Axis) (h : AlikeAxis a b) where
    all : AlikeState (remaining_of a group count anchor) (remaining_of b group count anchor)
    all = pass-alike group (state a (begun count anchor)) (state b (begun count anchor)) (record { axis = h; past = refl })

    refused-same : refusal (remaining_tests a group count anchor) ≡ refusal (remaining_tests b group count anchor)
    refused-same =
        let len = alike_len a b h in
        λ k. refusal
        (too_long unless leb (len k) most_edges
        ∷ bad_index unless indices-alike a b h k
        ∷ bad_index unless link_holds (len k) anchor
        ∷ out_of_range unless numbers-alike a b h k
        ∷ steep unless not (all.past k).beyond
        ∷ [])

    same : without_marks (align_remaining_edges a group count anchor) ≡ without_marks (align_remaining_edges b group count anchor)
    unfolding align_remaining_edges
    same =
        answered-alike without_marks _ _ (remaining None a) (remaining None b) _ _ refused-same (λ (n : ℕ). λ k. remaining None (h.same k) n)
        (λ k. remaining (all.past k).anchor (all.axis.same k) 0)

  pub marks-unread : Blind (λ (axis : Axis). align_remaining_edges axis group count anchor) without_marks
  marks-unread = blind _ without_marks same
