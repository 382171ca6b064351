-- `strong_words::place::place_each` meets its contract. The invariant: the points passed are at their places, none of them refused, the others as they were.
--
use borrow.Author.Rules.{rules}
use native.Mathlib.Omega.{arith}
use borrow.Author.Tests.{not-true, not-false}
use mathlib.Core.Path.{◌≡◌, refl, sym, ap, ◌∙◌}
use mathlib.Core.Bool.{Bool, true, false, ◌||◌}
use mathlib.Core.List.{List}
use Prim.Native.Nat.{ℕ, ◌-◌, ◌≤◌}
use lib.Dec.{ltb}
use lib.ListN.{length, get_or}
use lib.IntN.{ℤ, pos}
use mir.Syntax.{w32}
use mir.Val.{to_z, of_z}
use Rattle.signed.proofs.By.{by₂}
use Rattle.signed.proofs.Signed.{is, got}
use Rattle.weak_contour.specs.Contour.{at, is_touched}
use Rattle.words_call.specs.Lent.{edges_of}
use Rattle.signed.proofs.Choices.{clash}
use Rattle.axis.specs.Refusals.{every}
use Rattle.axis.proofs.Tests.{every-none, every_more, every-fails, every-done}
use Rattle.strong.specs.declared.place.Place.TheVariants.{Stays}
use Rattle.strong.specs.Strong.{strong_at, current_after, mark_after, is_placed, all_placed}
use Rattle.strong_words.proofs.Walks.{Upto, upto-none, upto-set, upto_all, upto-same, held, strong-held, strong-free}
use Rattle.strong_words.proofs.place.place_each.Given as goal

-- the currents and the marks that the points come to
abbrev pub new_current : List ℤ → List ℤ → List ℤ → List ℤ → List ℕ → List ℕ → ℕ → ℤ
new_current ws f o c t w i = current_after (at c i) (strong_at (edges_of ws) f o t w i)

abbrev pub new_mark : List ℤ → List ℤ → List ℤ → List ℕ → List ℕ → ℕ → ℕ
new_mark ws f o t w i = mark_after (get_or t i 0) (strong_at (edges_of ws) f o t w i)

abbrev pub invariant-loop-i : goal.invariant-loop-i
invariant-loop-i l = (l.i ≤ length l.fonts)
    × Upto (pos 0) (new_current l.words l.fonts l.originals l.initial.currents l.initial.touched l.weak) l.i l.initial.currents l.currents
    × Upto 0 (new_mark l.words l.fonts l.originals l.initial.touched l.weak) l.i l.initial.touched l.touched
    × (every (λ (k : ℕ). is_placed (strong_at (edges_of l.words) l.fonts l.originals l.initial.touched l.weak k)) l.i ≡ true)

abbrev pub decreases-loop-i : goal.decreases-loop-i
decreases-loop-i l = l.n - l.i
