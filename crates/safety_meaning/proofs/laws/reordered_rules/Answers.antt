use Rattle.safety_meaning.proofs.Reordering.{possible_law, relevant_law}
use Rattle.safety_meaning.proofs.Counting.{count_law}
use Rattle.safety_meaning.proofs.Outer.{outside_law}
use Rattle.safety_meaning.proofs.laws.reordered_rules.Goals as goal

pub returns-clause-possible : goal.returns-clause-possible
returns-clause-possible c = possible_law

pub returns-clause-relevant : goal.returns-clause-relevant
returns-clause-relevant c = relevant_law

pub returns-clause-count : goal.returns-clause-count
returns-clause-count c = count_law

pub returns-clause-outside : goal.returns-clause-outside
returns-clause-outside c = outside_law
