-- `fit_edges_words::row::fit_edges` meets its contract.
use mathlib.Core.Path.{◌∙◌}
use Rattle.fit_edges_words.proofs.Joining.{joined-behind, row_goes}
use Rattle.fit_edges_words.proofs.row.fit_edges.Goals as goal

pub joined_in-passed-requires : goal.joined_in-passed-requires
joined_in-passed-requires c = c.requires

pub then_m-requires : goal.then_m-requires
then_m-requires c =
    let j = c in
    let s = j in
    joined-behind s.args.by s.args.standards.now s.requires j.joined_in-passed.ensures

pub shape_of-words : goal.shape_of-words
shape_of-words c =
    let m = c in
    m.then_m.ensures.long ∙ m.joined_in-passed.ensures.long

pub returns : goal.returns
returns c =
    let m = c in
    let j = m in
    let s = j in
    row_goes s.args.by s.args.standards.now s.requires j.joined_in-passed.ensures m.then_m.ensures
