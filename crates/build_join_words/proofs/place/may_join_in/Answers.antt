-- `build_join_words::place::may_join_in` meets its contract: by its two tests.
use borrow.Author.Tests.{not-true, not-false}
use mathlib.Core.Path.{ap, ◌∙◌}
use mathlib.Core.Bool.{◌||◌}
use lib.IntN.{ℤ}
use lib.Signed.{le_z}
use Rattle.signed.proofs.Signed.{is}
use Rattle.axis.specs.Limits.{most_segments}
use Rattle.axis.specs.Ring.{walk}
use Rattle.build_join.specs.Walks.{next_in, no_stem, stems_agree}
use Rattle.build_join.proofs.Searching.{test-no, test-yes}
use Rattle.build_join_words.specs.Reading.{stems_in}
use borrow.Author.Rules.{rules}
use Rattle.build_join_words.proofs.place.may_join_in.Goals as goal

pub returns-then-not-fits : goal.returns-then-not-fits
returns-then-not-fits c = test-no _ _ _ c.fits.ensures (c.if-not-fits.true)

pub returns : goal.returns
returns c =
    let else1 = c in
    let start = else1 in
    let g = start.args in
    test-yes _ _ _ _ else1.fits.ensures (else1.if-not-fits.false)
    (c.ring_agrees.ensures
    ∙ ap (λ (z : ℤ). le_z no_stem z || stems_agree (stems_in g.words.now) g.near z
    (walk (next_in g.next.now) g.edge.last most_segments g.edge.first)) (is start.ranges.stem))
