-- Edges that are alike but for their marks are too close alike (request #105).
use Rattle.std.specs.Prelude.{None, Some}
use mathlib.Core.Path.{◌≡◌, refl}
use mathlib.Core.Bool.{◌||◌}
use lib.IntN.{pos, ◌+ℤ◌}
use lib.Signed.{lt_z}
use Rattle.axis.specs.declared.kinds.Group.{Group}
use Rattle.axis.specs.declared.kinds.Group.TheVariants.{Default, Cjk}
use Rattle.axis.specs.declared.edge.Edge.{Edge}
use Rattle.axis.proofs.Alike.{Alike}
use Rattle.stems.specs.Last.{LastStem}
use Rattle.stems.specs.Visit.{is_close, too_close}

pub close-same : (g : Group) (l : LastStem) (e e2 f f2 : Edge) → Alike e f → Alike e2 f2 → too_close g l e e2 ≡ too_close g l f f2
unfolding too_close is_close
close-same Default l e e2 f f2 h k = refl
close-same Cjk None e e2 f f2 h k = refl
close-same Cjk (Some z) e e2 f f2 h k = λ i. lt_z (h.same i).pos (z +ℤ pos 64) || lt_z (k.same i).pos (z +ℤ pos 64)
