-- `build_join_words::read::read_stem` meets its contract: by whether there is a link.
use Rattle.std.specs.Prelude.{None, Some}
use mathlib.Core.Path.{sym, ap, ◌∙◌}
use Rattle.signed.proofs.Reading.{cast-16, back-16}
use Rattle.words.specs.Segment.{segment_from}
use Rattle.build_join_words.specs.Reading.{stem_of}
use borrow.Author.Rules.{rules}
use Rattle.build_join_words.proofs.read.read_stem.Goals as goal

pub overflow_cast-result : goal.overflow_cast-result
overflow_cast-result c = cast-16 c.short_at.result c.short_at.type_inv

pub returns-in-None : goal.returns-in-None
unfolding stem_of segment_from
returns-in-None c =
    let link_at = c in
    ap (stem_of link_at.args.words.now) (sym c.in-None.is ∙ link_at.link_at-link.ensures)

pub returns-in-Some : goal.returns-in-Some
unfolding stem_of segment_from
returns-in-Some c =
    let link = c in
    let link_at = link in
    back-16 c.short_at.result c.short_at.type_inv ∙ c.short_at.ensures
    ∙ ap (stem_of link_at.args.words.now) (sym link.in-Some.is ∙ link_at.link_at-link.ensures)
