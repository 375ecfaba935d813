use Rattle.ordered_programs.proofs.Programs.{fit_law, ordered_law, reordered_law}
use Rattle.ordered_programs.proofs.laws.ordered_programs_are_reordered.Goals as goal

pub returns-clause-fit : goal.returns-clause-fit
returns-clause-fit c = fit_law

pub returns-clause-ordered : goal.returns-clause-ordered
returns-clause-ordered c = ordered_law

pub returns-clause-reordered : goal.returns-clause-reordered
returns-clause-reordered c = reordered_law
