-- `words_edge_test::hold::zone_holds` meets its contract.
use mathlib.Core.Path.{◌≡◌, ap, ◌∙◌}
use Prim.Native.Nat.{◌+◌}
use lib.IntN.{ℤ, pos}
use mir.Syntax.{w32}
use Rattle.signed.specs.Equality.{eq_z}
use Rattle.words.specs.Word.{word_at}
use Rattle.words.specs.Edge.{blue_place, fitted_place}
use Rattle.words.specs.Field.{choice_of}
use Rattle.words.proofs.Fields.{kept}
use Rattle.words_edge_test.proofs.Holding.{zone-there, zone-none}
use borrow.Author.Rules.{rules}
use Rattle.words_edge_test.proofs.hold.zone_holds.Goals as goal

pub returns-then-choice_of : goal.returns-then-choice_of
returns-then-choice_of c =
    let chosen : c.choice_of.result ≡ choice_of (word_at c.args.words.now (c.args.at + blue_place)) = let w = c.read_word in c.choice_of.ensures ∙ ap choice_of (kept w32 w.result w.type_inv ∙ w.ensures) in
    zone-there (word_at c.args.words.now (c.args.at + blue_place)) (word_at c.args.words.now (c.args.at + fitted_place)) _ _ chosen
    c.if-choice_of.true c.in_at.ensures

pub returns : goal.returns
returns c =
    let chosen : c.choice_of.result ≡ choice_of (word_at c.args.words.now (c.args.at + blue_place)) = let w = c.read_word in c.choice_of.ensures ∙ ap choice_of (kept w32 w.result w.type_inv ∙ w.ensures) in
    let w = c.read_word-2 in
    zone-none (word_at c.args.words.now (c.args.at + blue_place)) (word_at c.args.words.now (c.args.at + fitted_place)) _ _ chosen c.if-choice_of.false
    (c.is_zero.ensures ∙ ap (λ (z : ℤ). eq_z z (pos 0)) (kept w32 w.result w.type_inv ∙ w.ensures))
