use Rattle.collected_elements.proofs.element.judge_variable.Goals as goal

pub returns-in-Ok-clause-known : goal.returns-in-Ok-clause-known
returns-in-Ok-clause-known c = c.only_variable.ensures.known c.judge_term.new.symbols c.in-Ok.ensures.known
