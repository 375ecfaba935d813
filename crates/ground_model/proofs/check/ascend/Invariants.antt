use Rattle.std.proofs.Common.{◌≡◌, drop}
use Rattle.ground_model.specs.Answers.{ascend_from}
use Rattle.ground_model.proofs.check.ascend.Given as goal

abbrev pub invariant-loop-number : goal.invariant-loop-number
invariant-loop-number l = ascend_from l.last (drop l.number-index l.numbers) ≡ ascend_from 0 l.numbers
