use Rattle.possible_laws.proofs.Counts.{atom_count_law, row_count_law, rule_count_law, choice_count_law}
use Rattle.possible_laws.proofs.laws.found_things_are_counted.Goals as goal

pub returns-clause-atoms : goal.returns-clause-atoms
returns-clause-atoms c = atom_count_law

pub returns-clause-rows : goal.returns-clause-rows
returns-clause-rows c = row_count_law

pub returns-clause-rule : goal.returns-clause-rule
returns-clause-rule c = rule_count_law

pub returns-clause-choice : goal.returns-clause-choice
returns-clause-choice c = choice_count_law
