use Rattle.program_meaning.proofs.Limits.{level_law, fall_law}
use Rattle.program_meaning.proofs.laws.levels_fall.Goals as goal

pub returns-clause-steps : goal.returns-clause-steps
returns-clause-steps c = level_law

pub returns-clause-falls : goal.returns-clause-falls
returns-clause-falls c = fall_law
