use Rattle.std.proofs.Common.{◌∙◌, sym}
use Rattle.collected_terms.proofs.Operations.{large_straight}
use Rattle.collected_terms.proofs.operation.large_result.Goals as goal

pub returns-clause-found : goal.returns-clause-found
returns-clause-found c = λ symbols a b fa fb large first second zero.
    large_straight symbols c.args.op c.args.first c.args.second c.args.zero a b first second zero fa fb large (sym c.is_crooked.ensures ∙ c.if-is_crooked.false)
    c.holds_result.result c.holds_result.ensures
