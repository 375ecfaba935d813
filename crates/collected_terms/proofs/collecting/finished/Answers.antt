use Rattle.collected_terms.proofs.Growing.{none_so_far}
use Rattle.collected_terms.proofs.collecting.finished.Goals as goal

pub returns-in-None-clause-found : goal.returns-in-None-clause-found
returns-in-None-clause-found c = λ symbols total so_far. none_so_far symbols c.undefined.result c.args.so_far c.in-None.is total so_far (c.undefined.ensures.found symbols)

pub returns-in-None-clause-known : goal.returns-in-None-clause-known
returns-in-None-clause-known c = λ symbols known. c.undefined.ensures.known symbols
