use Rattle.collected_elements.proofs.term.judge_term.Goals as goal

pub returns-in-Ok-clause-known : goal.returns-in-Ok-clause-known
returns-in-Ok-clause-known c = c.by_form.ensures.known c.collect_term.new.symbols c.in-Ok.ensures.known
