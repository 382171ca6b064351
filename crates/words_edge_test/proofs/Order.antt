-- The tests of a call in document 01's order are those of the answer to lent edges.
use mathlib.Core.Path.{◌≡◌, refl, ap, ◌∙◌}
use mathlib.Core.Bool.{Bool, true, cond}
use mathlib.Core.List.{List, [], ◌∷◌, ◌++◌}
use Prim.Native.Nat.{ℕ, ◌<◌}
use borrow.Author.Tests.{lt-ltb}
use lib.Dec.{leb}
use Rattle.refusals.specs.Refusal.{Test, ◌unless◌, too_long, bad_index, out_of_range, refusal, or_refused, answered}
use Rattle.refusals.proofs.Tests.{numbered, own_first}
use Rattle.axis.specs.declared.edge.Axis.{Axis}
use Rattle.axis.specs.Limits.{most_edges}
use Rattle.axis.specs.Refusals.{edges_indices, edges_numbers, edges_short, edges_indexed, edges_in_range}
use Rattle.words_call.specs.Held.{tested_of}
use Rattle.words_call.proofs.Tested.{in_order}
use Rattle.words_edge_test.specs.Held.{tested}

module _ (axis : Axis) (named passed : Bool) (short : leb axis.len most_edges ≡ true) where
  abbrev rest : List Test
  rest = edges_indexed axis ∷ bad_index unless named ∷ edges_in_range axis ∷ out_of_range unless passed ∷ []

  -- a call by the tests of its parameters
  pub call-tests : (own : List Test) → numbered own ≡ true → refusal (edges_short axis ∷ (own ++ rest)) ≡ tested axis (refusal own) named passed
  unfolding refusal tested_of
  call-tests own e =
      ap (λ (t : Bool). cond t (refusal (own ++ rest)) too_long) short
      ∙ own_first own rest e
      ∙ ap (answered (refusal own) (λ (k : ℕ). k)) (in_order (edges_indices axis) named (edges_numbers axis) passed)

  -- without parameters
  pub plain-tests : refusal (edges_short axis ∷ rest) ≡ tested axis 0 named passed
  unfolding refusal
  plain-tests = call-tests [] refl

  -- with one that may be refused
  pub own-tests : (number : ℕ) (right : Bool) → 0 < number → refusal (edges_short axis ∷ number unless right ∷ rest)
      ≡ tested axis (or_refused 0 right number) named passed
  unfolding refusal or_refused
  own-tests number right h = call-tests (number unless right ∷ []) (rw (lt-ltb 0 number h))
