use Rattle.collected_terms.proofs.Words.{rest_is}
use Rattle.collected_terms.proofs.numbers.remainder.Goals as goal

pub returns : goal.returns
returns c = rest_is c.args.a c.args.b c.ranges.a c.ranges.b
