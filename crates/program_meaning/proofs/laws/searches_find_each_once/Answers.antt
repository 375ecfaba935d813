use Rattle.program_meaning.proofs.Leaves.{search_law, prepared_law, start_law, leaf_law}
use Rattle.program_meaning.proofs.SafeSteps.{safe_law}
use Rattle.program_meaning.proofs.Meeting.{meets_law}
use Rattle.program_meaning.proofs.laws.searches_find_each_once.Goals as goal

pub returns-clause-search : goal.returns-clause-search
returns-clause-search c = search_law

pub returns-clause-prepared : goal.returns-clause-prepared
returns-clause-prepared c = prepared_law

pub returns-clause-start : goal.returns-clause-start
returns-clause-start c = start_law

pub returns-clause-leaf : goal.returns-clause-leaf
returns-clause-leaf c = leaf_law

pub returns-clause-safe : goal.returns-clause-safe
returns-clause-safe c = safe_law

pub returns-clause-meets : goal.returns-clause-meets
returns-clause-meets c = meets_law
