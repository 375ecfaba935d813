use Rattle.collected_elements.proofs.guard.judge_guard.Goals as goal

pub returns-in-Ok-clause-known : goal.returns-in-Ok-clause-known
returns-in-Ok-clause-known c = c.as_guard.ensures.known c.judge_term.new.symbols c.in-Ok.ensures.known
