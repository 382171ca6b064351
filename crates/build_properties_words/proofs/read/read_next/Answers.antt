-- `build_properties_words::read::read_next` meets its contract: by whether there is one.
use Rattle.std.specs.Prelude.{None, Some}
use mathlib.Core.Path.{sym, ap, ◌∙◌}
use mir.Syntax.{w32}
use Rattle.axis.specs.Link.{index_or}
use Rattle.words.specs.Field.{link_of}
use Rattle.words.specs.Segment.{segment_from}
use Rattle.words.proofs.Fields.{kept}
use borrow.Author.Rules.{rules}
use Rattle.build_properties_words.proofs.read.read_next.Goals as goal

pub returns-in-None : goal.returns-in-None
unfolding segment_from
returns-in-None c =
    let read = c in
    let w = read.read_word in
    ap (index_or read.args.last)
    (sym c.in-None.is ∙ read.link_of-next.ensures ∙ ap link_of (kept w32 w.result w.type_inv ∙ w.ensures))

pub returns-in-Some : goal.returns-in-Some
unfolding segment_from
returns-in-Some c =
    let next = c in
    let read = next in
    let w = read.read_word in
    ap (index_or read.args.last)
    (sym next.in-Some.is ∙ read.link_of-next.ensures ∙ ap link_of (kept w32 w.result w.type_inv ∙ w.ensures))
