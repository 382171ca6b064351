-- `remaining_pass_words::find::done_before` meets its contract.
use mathlib.Core.Path.{sym, ◌∙◌}
use Rattle.words_call.specs.Lent.{edges_of}
use Rattle.remaining_pass_words.proofs.Finding.{before-found, before-passed, before-none}
use Rattle.remaining_pass_words.proofs.find.done_before.Goals as goal

pub returns-then-is_done : goal.returns-then-is_done
returns-then-is_done c =
    before-found (edges_of c.args.words.now) c.loop-k.k c.loop-k-test.true (sym c.is_done.ensures ∙ c.if-is_done.true) ∙ c.loop-k.invariant

pub loop-k-preserved : goal.loop-k-preserved
loop-k-preserved c =
    before-passed (edges_of c.args.words.now) c.loop-k.k c.loop-k-test.true (sym c.is_done.ensures ∙ c.if-is_done.false) ∙ c.loop-k.invariant

pub returns : goal.returns
returns c = before-none (edges_of c.args.words.now) c.loop-k.k c.loop-k-test.false ∙ c.loop-k.invariant
