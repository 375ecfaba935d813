use Rattle.std.proofs.Common.{◌≡◌, drop}
use Rattle.std.specs.List.{find}
use Rattle.literals.specs.Nogoods.{answers}
use Rattle.literals.proofs.nogood.answer_to.Given as goal

abbrev pub invariant-loop-q : goal.invariant-loop-q
invariant-loop-q l = find (answers l.pivot) l.lits ≡ find (answers l.pivot) (drop l.q-index l.lits)
