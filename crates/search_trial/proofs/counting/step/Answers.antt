use Rattle.std.proofs.Common.{Ok, ap, ◌∙◌}
use Rattle.search_core.specs.Searching.{is_exhausted}
use Rattle.search_trial.proofs.counting.step.Goals as goal

pub returns-in-Ok-Answer-clause-unspent : goal.returns-in-Ok-Answer-clause-unspent
returns-in-Ok-Answer-clause-unspent g c = c.in-Ok-Answer.ensures.spent ∙ ap is_exhausted c.in-Ok-Answer.field-0-is

pub returns-in-Ok-Answer-clause-below : goal.returns-in-Ok-Answer-clause-below
returns-in-Ok-Answer-clause-below g c = c.in-Ok-Answer.ensures.answer c.in-Ok-Answer.answer (ap Ok c.in-Ok-Answer.field-0-is)
