use Rattle.std.proofs.Common.{ap}
use Rattle.grammar.specs.Reading.{starts_next}
use Rattle.grammar.specs.TheoryReading.{is_name}
use Rattle.theory_grammar.proofs.ConditionReads.{atom_absent}
use Rattle.theory_grammar.proofs.condition.atom.Goals as goal

pub returns-in-None : goal.returns-in-None
returns-in-None c = (atom_absent c.args.text.now c.args.tokens.now c.args.at (ap (starts_next is_name) c.in-None.ensures.end), c.requires.at)
