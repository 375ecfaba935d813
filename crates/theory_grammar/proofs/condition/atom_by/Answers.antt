use Rattle.std.proofs.Common.{arith}
use Rattle.theory_grammar.proofs.ConditionReads.{no_atom}
use Rattle.theory_grammar.proofs.condition.atom_by.Goals as goal

pub returns-in_default : goal.returns-in_default
returns-in_default c = (no_atom c.args.text.now c.args.tokens.now c.args.at c.args.kind _ c.requires.word c.in_default.not-Name, omega (arith, c.requires.at))
