use Rattle.std.proofs.Common.{drop}
use Rattle.ground_model.specs.Members.{IsMember}
use Rattle.proof_checker.proofs.answers.is_given.Given as goal

abbrev pub invariant-loop-one : goal.invariant-loop-one
invariant-loop-one l = IsMember l.answers l.answer → IsMember (drop l.one-index l.answers) l.answer
