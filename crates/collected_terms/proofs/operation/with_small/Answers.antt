use Rattle.collected_terms.proofs.operation.with_small.Goals as goal

pub returns-in-Large-clause-known : goal.returns-in-Large-clause-known
returns-in-Large-clause-known c = c.large_result.ensures.known c.args.symbols.now
