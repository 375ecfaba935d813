use Rattle.possible_laws.proofs.Rows.{row_stands_law, stands_row_law}
use Rattle.possible_laws.proofs.laws.rows_are_relevant_instances.Goals as goal

pub returns-clause-stands : goal.returns-clause-stands
returns-clause-stands c = row_stands_law

pub returns-clause-all : goal.returns-clause-all
returns-clause-all c = stands_row_law
