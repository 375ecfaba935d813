use Rattle.std.proofs.Common.{◌≡◌, drop}
use Rattle.grammar.specs.Tree.{number_of, number_behind}
use Rattle.theory_grammar.proofs.names.number_in.Given as goal

abbrev pub invariant-loop-at : goal.invariant-loop-at
invariant-loop-at l = number_behind l.at (drop l.at l.names) l.name ≡ number_of l.names l.name
