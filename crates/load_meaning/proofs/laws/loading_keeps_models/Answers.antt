use Rattle.load_meaning.proofs.SameModels.{program_law, same_models_law, down_law, up_law, objective_law}
use Rattle.load_meaning.proofs.laws.loading_keeps_models.Goals as goal

pub returns-clause-has : goal.returns-clause-has
returns-clause-has c = program_law

pub returns-clause-both : goal.returns-clause-both
returns-clause-both c = same_models_law

pub returns-clause-down : goal.returns-clause-down
returns-clause-down c = down_law

pub returns-clause-up : goal.returns-clause-up
returns-clause-up c = up_law

pub returns-clause-objective : goal.returns-clause-objective
returns-clause-objective c = objective_law
