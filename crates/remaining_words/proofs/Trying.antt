-- The loops over a copy of the edges: what they come to is written, or nothing.
use mathlib.Core.Path.{◌≡◌, refl, sym, ap, subst, ◌∙◌}
use mathlib.Core.Bool.{true, false}
use mathlib.Core.List.{List}
use lib.ListN.{length}
use lib.IntN.{ℤ}
use Rattle.signed.proofs.Choices.{clash}
use Rattle.axis.specs.declared.kinds.Dimension.{Dimension}
use Rattle.axis.specs.declared.kinds.Group.{Group}
use Rattle.remaining.specs.declared.kinds.Progress.{Progress}
use Rattle.remaining.specs.Remaining.{State}
use Rattle.remaining_pass_words.specs.Words.{ReadyPass, Passed, passing}
use Rattle.remaining_words.specs.Lent.{Tried}

-- the copy is as ready as the edges
pub copy-ready : (start : Progress) {ws room : List ℤ} → ReadyPass ws start → room ≡ ws → ReadyPass room start
copy-ready start r e = subst (λ (l : List ℤ). ReadyPass l start) (sym e) r

module _ (group : Group) (start : Progress) {r : Progress} {ws room made : List ℤ} (e : room ≡ ws) (p : Passed (passing group) start r room made) where
  of_words : Passed (passing group) start r ws made
  of_words = subst (λ (l : List ℤ). Passed (passing group) start r l made) e p

  -- a position was given that no edge may have
  pub tried-stays : r.beyond ≡ true → Tried group start r ws ws
  tried-stays t =
      record { long = refl; known = λ (d : Dimension). ap (λ (s : State). s.past) (of_words.states d); stays = λ f. refl; goes = λ f. absurd (clash _ f t) }

  -- else the edges become the copy
  pub tried-goes : {now : List ℤ} → r.beyond ≡ false → now ≡ made → Tried group start r ws now
  tried-goes {now} f q = record {
    long = ap length q ∙ of_words.long;
    known = λ (d : Dimension). ap (λ (s : State). s.past) (of_words.states d);
    stays = λ t. absurd (clash _ f t);
    goes = λ g. subst (Passed (passing group) start r ws) (sym q) of_words;
  }
