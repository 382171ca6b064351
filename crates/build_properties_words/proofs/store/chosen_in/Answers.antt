-- `build_properties_words::store::chosen_in` meets its contract: by whether an edge is held, and by the two distances.
use Rattle.std.specs.Prelude.{Some}
use mathlib.Core.Path.{◌≡◌, ap, ◌∙◌}
use mathlib.Core.Bool.{true, false}
use Prim.Native.Nat.{◌*◌}
use native.Mathlib.Omega.{arith}
use mir.Syntax.{w16, w32}
use mir.Val.{to_z, of_z}
use Rattle.signed.proofs.Signed.{is}
use Rattle.words.specs.Word.{word_at}
use Rattle.words.specs.Field.{short_of}
use Rattle.words.specs.Edge.{edge_size}
use Rattle.words.proofs.Fields.{kept}
use Rattle.build_properties_words.proofs.Stores.{chosen_none, chosen-held}
use borrow.Author.Rules.{rules}
use Rattle.build_properties_words.proofs.store.chosen_in.Goals as goal

pub returns-in_default : goal.returns-in_default
returns-in_default c = chosen_none c.args.edges.now c.args.k c.args.delta c.args.asked c.in_default.is

pub read_word-requires-2 : goal.read_word-requires-2
read_word-requires-2 c = omega (arith, c.requires.2.at _ c.in-Some.is)

pub returns-then-delta-distance : goal.returns-then-delta-distance
returns-then-delta-distance c =
    let here-is : to_z w16 (of_z w16 c.short_of-here.result) ≡ short_of (word_at c.args.edges.now (edge_size * c.args.k)) = let w = c.read_word in
    kept w16 c.short_of-here.result c.short_of-here.type_inv ∙ c.short_of-here.ensures ∙ ap short_of (kept w32 w.result w.type_inv ∙ w.ensures) in
    let there-is : to_z w16 (of_z w16 c.short_of-there.result)
    ≡ short_of (word_at c.args.edges.now (edge_size * c.in-Some.other)) = let w = c.read_word-2 in
    kept w16 c.short_of-there.result c.short_of-there.type_inv ∙ c.short_of-there.ensures ∙ ap short_of (kept w32 w.result w.type_inv ∙ w.ensures) in
    chosen-held c.args.edges.now c.args.k c.args.delta c.args.asked true c.requires.0 c.requires.1 c.requires.2 c.in-Some.is
    here-is there-is
    (kept w32 c.distance.result c.distance.type_inv ∙ c.distance.ensures) (is c.ranges.delta) c.if-delta-distance.true

pub returns : goal.returns
returns c =
    let here-is : to_z w16 (of_z w16 c.short_of-here.result) ≡ short_of (word_at c.args.edges.now (edge_size * c.args.k)) = let w = c.read_word in
    kept w16 c.short_of-here.result c.short_of-here.type_inv ∙ c.short_of-here.ensures ∙ ap short_of (kept w32 w.result w.type_inv ∙ w.ensures) in
    let there-is : to_z w16 (of_z w16 c.short_of-there.result)
    ≡ short_of (word_at c.args.edges.now (edge_size * c.in-Some.other)) = let w = c.read_word-2 in
    kept w16 c.short_of-there.result c.short_of-there.type_inv ∙ c.short_of-there.ensures ∙ ap short_of (kept w32 w.result w.type_inv ∙ w.ensures) in
    chosen-held c.args.edges.now c.args.k c.args.delta c.args.asked false c.requires.0 c.requires.1 c.requires.2 c.in-Some.is
    here-is there-is
    (kept w32 c.distance.result c.distance.type_inv ∙ c.distance.ensures) (is c.ranges.delta) c.if-delta-distance.false
