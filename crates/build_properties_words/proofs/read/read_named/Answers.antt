-- `build_properties_words::read::read_named` meets its contract: by whether there is an index.
use Rattle.std.specs.Prelude.{None, Some}
use mathlib.Core.Path.{sym, ap, ◌∙◌}
use Rattle.build_properties_words.specs.Reading.{named_in}
use borrow.Author.Rules.{rules}
use Rattle.build_properties_words.proofs.read.read_named.Goals as goal

pub read_segment-requires : goal.read_segment-requires
read_segment-requires c =
    let ix = c in
    let s = ix in
    let h = s.requires.0.at _ ix.in-Some.is in
    (h, s.requires.1 _ h)

pub returns-in-None : goal.returns-in-None
returns-in-None c =
    let s = c in
    ap (named_in s.args.words.now s.args.own) (sym c.in-None.is)

pub returns-in-Some : goal.returns-in-Some
returns-in-Some c =
    let ix = c in
    let s = ix in
    c.read_segment.ensures ∙ ap (named_in s.args.words.now s.args.own) (sym ix.in-Some.is)
