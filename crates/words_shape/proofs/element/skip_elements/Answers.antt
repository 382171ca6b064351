-- `words_shape::element::skip_elements` meets its contract. The invariant: the elements that are left, read from here, give the whole.
use borrow.Author.Rules.{rules}
use native.Mathlib.Omega.{arith}
use mathlib.Core.Path.{◌≡◌, sym, ap, ◌∙◌}
use Prim.Native.Nat.{ℕ, ◌+◌, ◌-◌, ◌<◌}
use Rattle.words_shape.specs.Place.{Place}
use mathlib.Core.List.{List}
use lib.IntN.{ℤ}
use Rattle.words_shape.specs.declared.element.Element.{Element}
use Rattle.words_shape.specs.Shape.{and_then, element, elements}
use Rattle.words_shape.proofs.Shapes.{Goes, then-nowhere, then_at, elements-step, elements-end}
use Rattle.words_shape.proofs.element.skip_elements.Goals as goal

-- the reading goes on from what a turn's element gives
step :
    (kind : Element) (ws : List ℤ) (n at i here : ℕ) (next : Place)
    → i < n
    → elements n kind ws at ≡ elements (n - i) kind ws here
    → next ≡ element kind ws here
    → Goes (elements n kind ws at) next (elements (n - (i + 1)) kind ws)
step kind ws n at i here next below held went = record {
  on =
      held ∙ elements-step n i kind ws here below
      ∙ ap (λ (p : Place). and_then p (elements (n - (i + 1)) kind ws)) (sym went);
}

pub loop-i-init : goal.loop-i-init
loop-i-init c = let a = c.args in (omega arith, ap (λ (k : ℕ). elements k a.kind a.words.now a.at) (omega arith))

pub returns-in_err-here : goal.returns-in_err-here
returns-in_err-here c =
    let a = c.args in
    let l = c.loop-i in
    let goes = step a.kind a.words.now a.n a.at l.i l.here _ (omega arith) l.invariant.1 c.skip_element.ensures in
    c.from_residual.ensures ∙ then-nowhere goes c.in_err-here.was

pub loop-i-preserved : goal.loop-i-preserved
loop-i-preserved c =
    let a = c.args in
    let l = c.loop-i in
    let goes = step a.kind a.words.now a.n a.at l.i l.here _ (omega arith) l.invariant.1 c.skip_element.ensures in
    (omega arith, then_at goes c.in_ok-here.was)

pub returns : goal.returns
returns c =
    let a = c.args in
    let l = c.loop-i in
    sym (l.invariant.1 ∙ elements-end a.n l.i a.kind a.words.now l.here (omega arith))
