use Rattle.program_meaning.proofs.Limits.{closed_law, grows_law}
use Rattle.program_meaning.proofs.Possible.{instance_gives}
use Rattle.program_meaning.proofs.laws.closed_sets_have_possible_atoms.Goals as goal

pub returns-clause-all : goal.returns-clause-all
returns-clause-all c = closed_law

pub returns-clause-grows : goal.returns-clause-grows
returns-clause-grows c = grows_law

pub returns-clause-gives : goal.returns-clause-gives
returns-clause-gives c = λ rules rule member values stands positive a g. instance_gives rules rule member values stands positive a g
