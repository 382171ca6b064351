-- Edges that are alike but for their marks are placed alike (request #105).
use Rattle.std.specs.Prelude.{None, Some}
use mathlib.Core.Path.{◌≡◌, refl, sym, ap, subst}
use mathlib.Core.List.{List}
use Prim.Native.Nat.{ℕ, zero, suc, ◌+◌}
use lib.IntN.{ℤ}
use lib.Dec.{ltb}
use Rattle.fixed.specs.declared.width.WidthRule.{WidthRule}
use Rattle.axis.specs.Link.{Link}
use Rattle.axis.specs.declared.edge.Edge.{Edge}
use Rattle.axis.specs.declared.edge.Axis.{Axis}
use Rattle.axis.specs.Edge.{edge_at}
use Rattle.axis.proofs.Alike.{Alike, AlikeAxis, placed_alike, at-alike, put-alike, alike_len, cond-alike}
use Rattle.place.specs.declared.adjust.LinkDir.{LinkDir}
use Rattle.place.specs.declared.adjust.LinkDir.TheVariants.{Prev, Next}
use Rattle.place.specs.Placing.{linked_pos, linked_edge, serif_pos, serif_edge, upper_bound, is_far, has_passed, neighbour, held_to, bound_by, adjusted}

pub linked-alike : (rule : WidthRule) (xs : List ℤ) (base base' stem stem' : Edge) → Alike base base' → Alike stem stem'
    → Alike (linked_edge rule xs base stem) (linked_edge rule xs base' stem')
linked-alike rule xs base base' stem stem' b s =
    placed_alike stem stem' _ _ _ _ s (λ i. linked_pos rule xs (b.same i).pos (b.same i).opos (s.same i).opos)

pub serif-alike : (base base' serif serif' : Edge) → Alike base base' → Alike serif serif' → Alike (serif_edge base serif) (serif_edge base' serif')
serif-alike base base' serif serif' b s = placed_alike serif serif' _ _ _ _ s (λ i. serif_pos (b.same i).pos (b.same i).opos (s.same i).opos)

module _ (a b : Axis) (alike : AlikeAxis a b) where
  at : (i : ℕ) → Alike (edge_at a i) (edge_at b i)
  at i = at-alike a b i alike

  pub upper-same : (i : ℕ) → upper_bound a i ≡ upper_bound b i
  unfolding upper_bound
  upper-same i = rw (alike_len a b alike, ap (λ (e : Edge). e.flags.done) (at (i + 1)).same)

  neighbour-same : (dir : LinkDir) (i : ℕ) → neighbour dir a i ≡ neighbour dir b i
  unfolding neighbour
  neighbour-same Prev i = refl
  neighbour-same Next i = upper-same i

  held : (h i k : ℕ) (l : Link) → AlikeAxis (held_to a h i k l) (held_to b h i k l)
  unfolding held_to
  held h i k None = alike
  held h i k (Some l) =
      cond-alike AlikeAxis _ _ _ a _ b (λ j. is_far ((at l).same j).pos ((at h).same j).pos)
      (put-alike a b i _ _ alike (placed_alike _ _ _ _ _ _ (at i) (ap (λ (e : Edge). e.pos) (at k).same))) alike

  bound : (h i : ℕ) (dir : LinkDir) (l : Link) → AlikeAxis (bound_by a h i dir l) (bound_by b h i dir l)
  unfolding bound_by
  bound h i dir None = alike
  bound h i dir (Some k) =
      cond-alike AlikeAxis _ _ _ a _ b (λ j. has_passed dir ((at i).same j).pos ((at k).same j).pos)
      (subst (λ (l : Link). AlikeAxis (held_to a h i k (edge_at a i).link) (held_to b h i k l)) (ap (λ (e : Edge). e.link) (at i).same)
      (held h i k (edge_at a i).link)) alike

  pub adjusted-alike : (i : ℕ) (dir : LinkDir) → AlikeAxis (adjusted a i dir) (adjusted b i dir)
  unfolding adjusted
  adjusted-alike zero dir = alike
  adjusted-alike (suc h) dir =
      subst (λ (l : Link). AlikeAxis (bound_by a h (suc h) dir (neighbour dir a (suc h))) (bound_by b h (suc h) dir l)) (neighbour-same dir (suc h))
      (bound h (suc h) dir (neighbour dir a (suc h)))
