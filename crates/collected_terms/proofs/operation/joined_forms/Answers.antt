use Rattle.collected_terms.proofs.operation.joined_forms.Goals as goal

pub returns-in-Large-clause-known : goal.returns-in-Large-clause-known
returns-in-Large-clause-known c = c.with_large.ensures.known c.args.symbols.now
