-- What the rule reads of the stems' first edges to see whether it applies: their original positions and their links.
use mathlib.Core.Path.{◌≡◌}
use mathlib.Core.Bool.{true, ◌&&◌}
use Prim.Native.Nat.{◌+◌}
use Rattle.axis.specs.declared.kinds.Group.{Group}
use Rattle.axis.specs.declared.kinds.Group.TheVariants.{Default, Cjk}
use Rattle.axis.specs.declared.edge.Edge.{Edge}
use Rattle.axis.specs.Link.{links_to}
use Rattle.lowercase_m.specs.declared.stems.Stems.{Stems}
use Rattle.lowercase_m.specs.M.{even, linked_on, group_holds, applies}

-- of two edges the rule reads the same
pub record SameRead (e f : Edge) : Type 0 where
  pub opos : e.opos ≡ f.opos
  pub link : e.link ≡ f.link

pub applies-by : (group : Group) (s : Stems) {e1 e2 e3 f1 f2 f3 : Edge} → SameRead e1 f1 → SameRead e2 f2 → SameRead e3 f3
    → applies group s e1 e2 e3 ≡ applies group s f1 f2 f3
unfolding applies group_holds linked_on
applies-by Default s p q r = λ j. true && even (p.opos j) (q.opos j) (r.opos j)
applies-by Cjk s p q r = λ j.
    (links_to (p.link j) (s.first + 1) && (links_to (q.link j) (s.second + 1) && links_to (r.link j) (s.third + 1)))
    && even (p.opos j) (q.opos j) (r.opos j)
