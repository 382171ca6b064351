-- Request #105: positions, and bounds, are as without marks.
use Rattle.std.specs.Prelude.{None}
use mathlib.Core.Path.{◌≡◌}
use mathlib.Core.Bool.{Bool, not}
use mathlib.Core.List.{List, [], ◌∷◌}
use Prim.Native.Nat.{ℕ}
use lib.Dec.{ltb, leb}
use lib.IntN.{ℤ}
use Rattle.refusals.specs.Refusal.{◌unless◌, too_long, bad_parameter, bad_index, out_of_range, retired, refusal, answered}
use Rattle.fixed.specs.declared.width.WidthRule.{WidthRule}
use Rattle.fixed.specs.Width.{rule_holds}
use Rattle.axis.specs.declared.edge.Axis.{Axis}
use Rattle.axis.specs.Limits.{most_edges}
use Rattle.axis.specs.Mark.{Blind}
use Rattle.axis.proofs.Alike.{AlikeAxis, at-alike, put-alike, alike_len, indices-alike, numbers-alike, answered-alike, blind}
use Rattle.place.specs.declared.adjust.LinkDir.{LinkDir}
use Rattle.place.specs.Placing.{both_below, lower_bound}
use Rattle.place.proofs.Alike.{linked-alike, serif-alike, upper-same, adjusted-alike}
use Rattle.place.specs.Answer.{Bounds}
use Rattle.place.specs.Fitting.{
  linked_tests,
  serif_tests,
  edge_tests,
  adjust_tests,
  fitted,
  unmarked_fitted,
  bounds,
  align_linked_edge,
  align_serif_edge,
  latin_remaining_bounds,
  adjust_link,
}

module _ (a b : Axis) (alike : AlikeAxis a b) where
  -- two calls whose refusal is the same, and whose work is alike
  call : (k j : ℕ) (after after' : Axis) → k ≡ j → AlikeAxis after after'
      → unmarked_fitted (answered k (fitted a) (fitted after 0)) ≡ unmarked_fitted (answered j (fitted b) (fitted after' 0))
  call k j after after' e h =
      answered-alike unmarked_fitted k j (fitted a) (fitted b) _ _ e (λ (n : ℕ). λ i. fitted (alike.same i) n) (λ i. fitted (h.same i) 0)

  linked : (rule : WidthRule) (xs : List ℤ) (base stem : ℕ) → unmarked_fitted (align_linked_edge a rule xs base stem)
      ≡ unmarked_fitted (align_linked_edge b rule xs base stem)
  unfolding align_linked_edge
  linked rule xs base stem =
      call (refusal (linked_tests a rule xs base stem)) (refusal (linked_tests b rule xs base stem)) _ _
      (λ i.
      refusal
      (too_long unless leb (alike_len a b alike i) most_edges
      ∷ bad_parameter unless rule_holds rule xs
      ∷ bad_index unless indices-alike a b alike i
      ∷ bad_index unless both_below (alike_len a b alike i) base stem
      ∷ out_of_range unless numbers-alike a b alike i
      ∷ []))
      (put-alike a b stem _ _ alike (linked-alike rule xs _ _ _ _ (at-alike a b base alike) (at-alike a b stem alike)))

  serif : (base edge : ℕ) → unmarked_fitted (align_serif_edge a base edge) ≡ unmarked_fitted (align_serif_edge b base edge)
  unfolding align_serif_edge
  serif base edge =
      call (refusal (serif_tests a base edge)) (refusal (serif_tests b base edge)) _ _
      (λ i.
      refusal
      (too_long unless leb (alike_len a b alike i) most_edges
      ∷ bad_index unless indices-alike a b alike i
      ∷ bad_index unless both_below (alike_len a b alike i) base edge
      ∷ out_of_range unless numbers-alike a b alike i
      ∷ []))
      (put-alike a b edge _ _ alike (serif-alike _ _ _ _ (at-alike a b base alike) (at-alike a b edge alike)))

  adjust : (edge : ℕ) (dir : LinkDir) (ttb : Bool) → unmarked_fitted (adjust_link a edge dir ttb) ≡ unmarked_fitted (adjust_link b edge dir ttb)
  unfolding adjust_link
  adjust edge dir ttb =
      call (refusal (adjust_tests a edge ttb)) (refusal (adjust_tests b edge ttb)) _ _
      (λ i.
      refusal
      (too_long unless leb (alike_len a b alike i) most_edges
      ∷ retired unless not ttb
      ∷ bad_index unless indices-alike a b alike i
      ∷ bad_index unless ltb edge (alike_len a b alike i)
      ∷ out_of_range unless numbers-alike a b alike i
      ∷ []))
      (adjusted-alike a b alike edge dir)

  bound : (edge : ℕ) → latin_remaining_bounds a edge ≡ latin_remaining_bounds b edge
  unfolding latin_remaining_bounds
  bound edge = λ i.
      answered
      (refusal
      (too_long unless leb (alike_len a b alike i) most_edges
      ∷ bad_index unless indices-alike a b alike i
      ∷ bad_index unless ltb edge (alike_len a b alike i)
      ∷ out_of_range unless numbers-alike a b alike i
      ∷ []))
      (bounds None None)
      (bounds (lower_bound edge) (upper-same a b alike edge i) 0)

pub align-linked-edge : (rule : WidthRule) (xs : List ℤ) (base stem : ℕ) → Blind (λ (axis : Axis). align_linked_edge axis rule xs base stem) unmarked_fitted
align-linked-edge rule xs base stem = blind _ unmarked_fitted (λ (a b : Axis) (h : AlikeAxis a b). linked a b h rule xs base stem)

pub align-serif-edge : (base edge : ℕ) → Blind (λ (axis : Axis). align_serif_edge axis base edge) unmarked_fitted
align-serif-edge base edge = blind _ unmarked_fitted (λ (a b : Axis) (h : AlikeAxis a b). serif a b h base edge)

pub adjust-link : (edge : ℕ) (dir : LinkDir) (ttb : Bool) → Blind (λ (axis : Axis). adjust_link axis edge dir ttb) unmarked_fitted
adjust-link edge dir ttb = blind _ unmarked_fitted (λ (a b : Axis) (h : AlikeAxis a b). adjust a b h edge dir ttb)

pub latin-remaining-bounds : (edge : ℕ) → Blind (λ (axis : Axis). latin_remaining_bounds axis edge) (λ (r : Bounds). r)
latin-remaining-bounds edge = blind _ (λ (r : Bounds). r) (λ (a b : Axis) (h : AlikeAxis a b). bound a b h edge)
