use Rattle.std.proofs.Common.{take}
use Rattle.std.specs.List.{AllByRecursion}
use Rattle.text_laws.specs.Answered.{HasAnswer}
use Rattle.clingcon_app.proofs.law.some_outcome.Given as goal

abbrev pub invariant-loop-text : goal.invariant-loop-text
invariant-loop-text l = AllByRecursion HasAnswer (take l.text-index l.texts)
