use Rattle.outside_laws.proofs.CauseLemmas.{over_law, first_law, large_law, inside_law}
use Rattle.outside_laws.proofs.laws.first_causes_are_found.Goals as goal

pub returns-clause-over : goal.returns-clause-over
returns-clause-over c = over_law

pub returns-clause-first : goal.returns-clause-first
returns-clause-first c = first_law

pub returns-clause-large : goal.returns-clause-large
returns-clause-large c = large_law

pub returns-clause-inside : goal.returns-clause-inside
returns-clause-inside c = inside_law
