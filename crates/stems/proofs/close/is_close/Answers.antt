-- `stems::close::is_close` meets its contract.
use mathlib.Core.Path.{◌≡◌, refl, sym, ap, ◌∙◌}
use native.Mathlib.Omega.{arith}
use lib.IntN.{pos, ◌+ℤ◌}
use lib.Signed.{lt_z}
use mir.Syntax.{w32}
use mir.Val.{to_z, of_z}
use Rattle.signed.specs.Range.{Between}
use Rattle.signed.proofs.Signed.{fits, fits-in, is, signed}
use Rattle.axis.specs.declared.edge.Edge.{Edge}
use Rattle.place.specs.Steps.{InReach}
use Rattle.place.proofs.Reach.{reach-read}
use Rattle.stems.specs.Last.{LastStem}
use Rattle.stems.specs.Visit.{is_close}
use Rattle.stems.specs.Steps.{most_place}
use Rattle.signed.proofs.By.{by₂}
use Rattle.stems.proofs.Tests.{first_holds, second-decides}
use borrow.Author.Rules.{rules}
use Rattle.stems.proofs.close.is_close.Goals as goal
use Rattle.stems.proofs.close.is_close.Goals.{In-Some, Start}

pub returns-in_default : goal.returns-in_default
unfolding is_close
returns-in_default c = rw c.in_default.is

-- the function's start, from where the last stem's position is known
abbrev start : In-Some → Start
start c = c.before

-- the last stem's position
last_within : (c : In-Some) → Between most_place most_place c.in-Some.pos
last_within c = (start c).requires.0.at _ c.in-Some.is

pub overflow_add-end : goal.overflow_add-end
overflow_add-end c = let h = last_within c in let k = fits-in w32 h tt tt in fits (omega (arith, signed))

-- an edge is less than 64 behind that, by the test of the bits
behind : (c : In-Some) (e : Edge) → InReach e
    → lt_z (to_z w32 (of_z w32 e.pos)) (to_z w32 (of_z w32 (to_z w32 (of_z w32 c.in-Some.pos) +ℤ pos 64)))
    ≡ lt_z e.pos (c.in-Some.pos +ℤ pos 64)
behind c e h = by₂ lt_z refl (reach-read _ h.pos) (by₂ ◌+ℤ◌ (is (overflow_add-end c)) (is (fits-in w32 (last_within c) tt tt)) refl)

pub returns-then-edge-end : goal.returns-then-edge-end
unfolding is_close
returns-then-edge-end c =
    let u = c.before.before.before in
    let s = start u in
    first_holds _ _ (sym (behind u s.args.edge s.requires.1) ∙ c.if-edge-end.true)
    ∙ ap (λ (l : LastStem). is_close l s.args.edge s.args.edge2) (sym u.in-Some.is)

pub returns : goal.returns
unfolding is_close
returns c =
    let o = c.before.before in
    let u = o.before.before.before in
    let s = start u in
    second-decides _ _ (sym (behind u s.args.edge s.requires.1) ∙ o.if-edge-end.false) (behind u s.args.edge2 s.requires.2)
    ∙ ap (λ (l : LastStem). is_close l s.args.edge s.args.edge2) (sym u.in-Some.is)
