-- `fit_back_words::back::edges_back` meets its contract.
use mathlib.Core.Path.{sym, ◌∙◌}
use Rattle.fit_back_words.proofs.Putting.{answer-none, answer-above, edges-go, edges-put}
use Rattle.fit_back_words.proofs.back.edges_back.Goals as goal

pub returns-then-is_ok : goal.returns-then-is_ok
returns-then-is_ok c = edges-go c.copy.ensures c.fit_edges-fitted.ensures (answer-none _ (sym c.is_ok.ensures.value ∙ c.if-is_ok.true))

pub returns : goal.returns
returns c = edges-put c.copy.ensures c.fit_edges-fitted.ensures (answer-above _ (sym c.is_ok.ensures.value ∙ c.if-is_ok.false)) c.copy-2.ensures
