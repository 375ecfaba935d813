use Rattle.collected_terms.proofs.Shapes.{pairs_hold}
use Rattle.collected_elements.proofs.sides.holds.Goals as goal

pub returns : goal.returns
returns c = λ symbols. pairs_hold symbols c.args.linear.now.pairs c.is_empty.result c.is_empty.ensures
