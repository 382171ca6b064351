-- `weak_catalogue::align::align_catalogue` meets its contract: what is not refused adds up, and so every outline is done.
use mathlib.Core.Path.{sym, ◌∙◌}
use Rattle.refusals.proofs.Outcomes.{exit-answer}
use Rattle.weak.proofs.Refusals.{exit-above}
use Rattle.weak_catalogue.proofs.Determined.{adding, refused, when-accepted}
use Rattle.weak_catalogue.proofs.align.align_catalogue.Goals as goal

pub returns-in_err-catalogue_refusal : goal.returns-in_err-catalogue_refusal
returns-in_err-catalogue_refusal c = refused _ _ _ _ _ _ _ _ (exit-answer _ _ c.from_residual.ensures.1 ∙ c.in_err-catalogue_refusal.ensures) (exit-above _ _ c.from_residual.ensures.1)

pub align_outlines-requires : goal.align_outlines-requires
align_outlines-requires c = adding _ _ _ _ _ _ _ (sym c.in_ok-catalogue_refusal.ensures)

pub returns : goal.returns
returns c = when-accepted _ _ _ _ _ _ _ _ _ (sym c.in_ok-catalogue_refusal.ensures) c.align_outlines.ensures
