-- `fit_edges_words::row::guarded` meets its contract.
use mathlib.Core.Path.{ap, ◌∙◌}
use lib.IntN.{ℤ}
use mir.Syntax.{w32}
use Rattle.gaps.specs.Gaps.{found_in}
use Rattle.words.proofs.Fields.{kept}
use Rattle.words_call.specs.Lent.{edges_of}
use Rattle.fit_edges_words.proofs.Steps.{guard-ready, guard-goes}
use Rattle.fit_edges_words.proofs.row.guarded.Goals as goal

pub find_in-gaps-requires : goal.find_in-gaps-requires
find_in-gaps-requires c = let s = c in let a = s.args in guard-ready a.by a.count a.anchor a.words.now s.requires

pub returns : goal.returns
returns c =
    let s = c in
    let a = s.args in
    guard-goes a.by a.count a.anchor a.words.now s.requires
    (c.find_in-gaps.ensures ∙ ap (λ (z : ℤ). found_in z a.by.linked (edges_of a.words.now))
    (kept w32 a.by.least c.struct_told-1.given.1.1.1.1.1.1.1.0.1))
