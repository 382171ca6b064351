-- `gaps::find::with_pair` meets its contract.
use mathlib.Core.Path.{◌≡◌, sym, ap, ◌∙◌}
use mathlib.Core.Bool.{Bool}
use native.Mathlib.Omega.{arith}
use lib.Signed.{lt_z}
use mir.Syntax.{w32}
use Rattle.signed.proofs.By.{by₂, by₃}
use Rattle.signed.proofs.Reading.{back}
use Rattle.signed.proofs.Signed.{is, fits-in}
use Rattle.gaps.specs.declared.pair.Pair.{Pair}
use Rattle.gaps.specs.Answer.{found_of}
use Rattle.gaps.specs.Gaps.{gone}
use Rattle.gaps.specs.Steps.{pair_of, gone_of, named_of}
use Rattle.gaps.proofs.Turns.{adds-kept, adds-stem, adds-narrow, adds-gap}
use Rattle.gaps.proofs.find.with_pair.Goals as goal

pub returns-then-not-is_gone : goal.returns-then-not-is_gone
returns-then-not-is_gone c =
    let tested : (v : Bool) → c.is_gone.result ≡ v → gone_of c.args.first c.args.second ≡ v = λ v h. sym (by₃ gone c.is_gone.ensures (back w32 c.pair_of-new.result.before c.struct_told-1.given.1.1.0.1
    ∙ ap (λ (p : Pair). p.before) c.pair_of-new.ensures)
    (is (fits-in w32 c.requires.1.pos tt tt)) (is (fits-in w32 c.requires.2.pos tt tt)))
    ∙ h in
    let a = c.args in adds-kept a.least (found_of a.found) a.i a.first a.j a.second (tested _ c.if-not-is_gone.true)

pub returns-then-is_stem : goal.returns-then-is_stem
returns-then-is_stem c =
    let tested : (v : Bool) → c.is_gone.result ≡ v → gone_of c.args.first c.args.second ≡ v = λ v h. sym (by₃ gone c.is_gone.ensures (back w32 c.pair_of-new.result.before c.struct_told-1.given.1.1.0.1
    ∙ ap (λ (p : Pair). p.before) c.pair_of-new.ensures)
    (is (fits-in w32 c.requires.1.pos tt tt)) (is (fits-in w32 c.requires.2.pos tt tt)))
    ∙ h in
    let pair_is : c.named-pair.result ≡ named_of c.args.found.pair (pair_of c.args.i c.args.first c.args.j c.args.second) = c.named-pair.ensures ∙ ap (named_of c.args.found.pair) c.pair_of-new.ensures in
    let a = c.args in
    adds-stem a.least (found_of a.found) a.i a.first a.j a.second (tested _ c.if-not-is_gone.false) _ pair_is
    (sym c.is_stem.ensures ∙ c.if-is_stem.true)

pub returns-then-new-least : goal.returns-then-new-least
returns-then-new-least c =
    let tested : (v : Bool) → c.is_gone.result ≡ v → gone_of c.args.first c.args.second ≡ v = λ v h. sym (by₃ gone c.is_gone.ensures (back w32 c.pair_of-new.result.before c.struct_told-1.given.1.1.0.1
    ∙ ap (λ (p : Pair). p.before) c.pair_of-new.ensures)
    (is (fits-in w32 c.requires.1.pos tt tt)) (is (fits-in w32 c.requires.2.pos tt tt)))
    ∙ h in
    let pair_is : c.named-pair.result ≡ named_of c.args.found.pair (pair_of c.args.i c.args.first c.args.j c.args.second) = c.named-pair.ensures ∙ ap (named_of c.args.found.pair) c.pair_of-new.ensures in
    let a = c.args in
    adds-narrow a.least (found_of a.found) a.i a.first a.j a.second (tested _ c.if-not-is_gone.false) _ pair_is
    (sym c.is_stem.ensures ∙ c.if-is_stem.false)
    (sym (by₂ lt_z (sym c.if-new-least.true) (back w32 _ c.struct_told-4-1.given.1.1.0.1
    ∙ ap (λ (p : Pair). p.before) c.pair_of-new.ensures) (is c.ranges.least)))

pub overflow_add-count : goal.overflow_add-count
overflow_add-count c = omega (arith, c.requires.0.gaps)

pub returns : goal.returns
returns c =
    let tested : (v : Bool) → c.is_gone.result ≡ v → gone_of c.args.first c.args.second ≡ v = λ v h. sym (by₃ gone c.is_gone.ensures (back w32 c.pair_of-new.result.before c.struct_told-1.given.1.1.0.1
    ∙ ap (λ (p : Pair). p.before) c.pair_of-new.ensures)
    (is (fits-in w32 c.requires.1.pos tt tt)) (is (fits-in w32 c.requires.2.pos tt tt)))
    ∙ h in
    let pair_is : c.named-pair.result ≡ named_of c.args.found.pair (pair_of c.args.i c.args.first c.args.j c.args.second) = c.named-pair.ensures ∙ ap (named_of c.args.found.pair) c.pair_of-new.ensures in
    let a = c.args in
    adds-gap a.least (found_of a.found) a.i a.first a.j a.second (tested _ c.if-not-is_gone.false) _ pair_is
    (sym c.is_stem.ensures ∙ c.if-is_stem.false)
    (sym (by₂ lt_z (sym c.if-new-least.false) (back w32 _ c.struct_told-4-1.given.1.1.0.1
    ∙ ap (λ (p : Pair). p.before) c.pair_of-new.ensures) (is c.ranges.least)))
