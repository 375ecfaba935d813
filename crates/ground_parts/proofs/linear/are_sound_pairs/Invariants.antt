use Rattle.std.proofs.Common.{◌≡◌, drop}
use Rattle.ground_model.specs.Sound.{are_sound_pairs}
use Rattle.ground_parts.proofs.linear.are_sound_pairs.Given as goal

abbrev pub invariant-loop-variable : goal.invariant-loop-variable
invariant-loop-variable l = are_sound_pairs l.variables l.before (drop l.variable-index l.pairs) ≡ are_sound_pairs l.variables 0 l.pairs
