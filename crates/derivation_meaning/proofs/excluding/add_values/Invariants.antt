use Rattle.std.proofs.Common.{◌≡◌, ◌++◌}
use Rattle.std.specs.List.{flat_map, range_with_len}
use Rattle.derivation_meaning.specs.Lines.{value_lits}
use Rattle.derivation_meaning.proofs.excluding.add_values.Given as goal

abbrev pub invariant-loop-at : goal.invariant-loop-at
invariant-loop-at l = l.lits ≡ l.fn.lits ++ flat_map (value_lits l.answer) (range_with_len 1 l.at)
