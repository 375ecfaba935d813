use Rattle.collected_elements.proofs.sides.unless_bad.Goals as goal

pub returns-then-bad-clause-known : goal.returns-then-bad-clause-known
returns-then-bad-clause-known c symbols known = c.not_linear.ensures.known symbols
