-- `mend_words::lend::mend_in` meets its contract.
use native.Mathlib.Omega.{arith}
use mathlib.Core.Path.{refl, ◌∙◌}
use mir.Syntax.{w32}
use borrow.Author.Rules.{rules}
use borrow.Author.Tests.{not-true, not-false}
use Rattle.signed.proofs.Signed.{is, got}
use Rattle.mend_words.proofs.Lending.{not_named, all-mended}
use Rattle.mend_words.proofs.lend.mend_in.Goals as goal

pub plan_in-named-requires : goal.plan_in-named-requires
plan_in-named-requires c =
    record {
      whole = c.requires.whole;
      edge_of_value = (refl, refl);
      broken_value = (refl, refl, refl);
    }

pub returns-then-not-named : goal.returns-then-not-named
returns-then-not-named c =
    not_named _ _ _ _ c.requires.whole.0 c.requires.whole.1 c.requires.altered_len c.plan_in-named.ensures (c.if-not-named.true)

pub amend_edges-listed-requires : goal.amend_edges-listed-requires
amend_edges-listed-requires c =
    (c.requires.whole.1, c.amend_segments-listed.ensures.few, search rules)

pub returns : goal.returns
returns c =
    all-mended _ _ _ _ c.requires.whole.0 c.requires.whole.1 c.requires.altered_len c.plan_in-named.ensures c.if-not-named.false c.amend_segments-listed.ensures
    c.amend_edges-listed.ensures
    (is (got w32 c.count_word.result c.count_word.type_inv) ∙ c.count_word.ensures)
