use Rattle.linear_normal.proofs.SelectionLemmas.{place_there}
use Rattle.linear_normal.proofs.selections.place_of.Goals as goal

pub returns-in-Err-clause-within : goal.returns-in-Err-clause-within
returns-in-Err-clause-within c = place_there c.args.atoms.now c.args.atom c.in-Err.place c.requires.ascends c.requires.member c.in-Err.ensures.position

pub returns-in-Err-clause-is : goal.returns-in-Err-clause-is
returns-in-Err-clause-is c = place_there c.args.atoms.now c.args.atom c.in-Err.place c.requires.ascends c.requires.member c.in-Err.ensures.position
