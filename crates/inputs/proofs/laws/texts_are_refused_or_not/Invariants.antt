use Rattle.std.proofs.Common.{take}
use Rattle.std.specs.List.{AllByRecursion}
use Rattle.text_laws.specs.Answered.{HasAnswer}
use Rattle.inputs.proofs.laws.texts_are_refused_or_not.Given as goal

abbrev pub invariant-loop-text : goal.invariant-loop-text
invariant-loop-text l = AllByRecursion HasAnswer (take l.text-index l.texts)
