use Rattle.std.specs.List.{All}
use Rattle.trail.specs.Assignment.{Names}
use Rattle.search_tests.proofs.words.lits_of.Given as goal

abbrev pub invariant-loop-word : goal.invariant-loop-word
invariant-loop-word l = All (Names l.fn.shape) l.lits
