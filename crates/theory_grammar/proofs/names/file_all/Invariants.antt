use Rattle.std.proofs.Common.{◌-◌, length}
use Rattle.theory_grammar.specs.inner.Names.{IsFiled}
use Rattle.theory_grammar.proofs.names.file_all.Given as goal

abbrev pub invariant-loop-filed : goal.invariant-loop-filed
invariant-loop-filed l = IsFiled l.names l.filed l.numbers.entries

abbrev pub decreases-loop-filed : goal.decreases-loop-filed
decreases-loop-filed l = length l.names - l.filed
