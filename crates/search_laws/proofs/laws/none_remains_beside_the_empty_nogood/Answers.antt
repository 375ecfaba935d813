use Rattle.search_laws.proofs.EventLaws.{none_remains}
use Rattle.search_laws.proofs.laws.none_remains_beside_the_empty_nogood.Goals as goal

pub returns : goal.returns
returns c = none_remains
