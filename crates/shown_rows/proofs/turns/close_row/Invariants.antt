-- `shown_rows::turns::close_row` meets its contract. The invariant: the pixels of the columns passed are written and counted with their turns, a and c are the
-- pixels in front, and the winding
-- is what the changes of the columns passed come to.
use mathlib.Core.Path.{◌≡◌}
use Prim.Native.Nat.{◌%◌}
use lib.ListN.{get_or}
use Rattle.shown_rows.specs.Turns.{pixel, outer, inner, total, before, windows}
use Rattle.shown_rows.specs.Rows.{black_at, wound, Over}
use Rattle.shown_rows.proofs.turns.close_row.Given as goal

abbrev pub invariant-loop-i : goal.invariant-loop-i
invariant-loop-i l = (l.a ≡ before (black_at l.initial.below) l.i)
    × (l.c ≡ before (wound l.changes) l.i)
    × (l.winding ≡ total (λ k. get_or l.changes k 0) l.i % 65536)
    × (l.blacks ≡ windows pixel (black_at l.initial.below) (wound l.changes) l.i)
    × (l.outers ≡ windows outer (black_at l.initial.below) (wound l.changes) l.i)
    × (l.inners ≡ windows (λ _. inner) (black_at l.initial.below) (wound l.changes) l.i)
    × Over l.initial.below l.changes l.i l.below
