use Rattle.possible_laws.proofs.Rows.{atom_law, choice_gives_law, closed_law}
use Rattle.possible_laws.proofs.laws.rows_give_possible_atoms.Goals as goal

pub returns-clause-atom : goal.returns-clause-atom
returns-clause-atom c = atom_law

pub returns-clause-choice : goal.returns-clause-choice
returns-clause-choice c = choice_gives_law

pub returns-clause-closed : goal.returns-clause-closed
returns-clause-closed c = closed_law
