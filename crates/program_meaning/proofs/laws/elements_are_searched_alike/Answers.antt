use Rattle.program_meaning.proofs.Leaves.{start_with_law, starts_law, locals_law, leaf_element_law}
use Rattle.program_meaning.proofs.SafeSteps.{safe_condition_law}
use Rattle.program_meaning.proofs.Meeting.{meets_element_law, meets_choice_law}
use Rattle.program_meaning.proofs.laws.elements_are_searched_alike.Goals as goal

pub returns-clause-start : goal.returns-clause-start
returns-clause-start c = start_with_law

pub returns-clause-stands : goal.returns-clause-stands
returns-clause-stands c = starts_law

pub returns-clause-safe : goal.returns-clause-safe
returns-clause-safe c = safe_condition_law

pub returns-clause-locals : goal.returns-clause-locals
returns-clause-locals c = locals_law

pub returns-clause-leaf : goal.returns-clause-leaf
returns-clause-leaf c = leaf_element_law

pub returns-clause-element : goal.returns-clause-element
returns-clause-element c = meets_element_law

pub returns-clause-choice : goal.returns-clause-choice
returns-clause-choice c = meets_choice_law
