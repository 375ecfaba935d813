use Rattle.std.proofs.Common.{◌≡◌, ◌++◌, map, drop}
use Rattle.completion.specs.Inputs.{duty_nogood}
use Rattle.completion.proofs.body.add_duties.Given as goal

abbrev pub invariant-loop-duty : goal.invariant-loop-duty
invariant-loop-duty l = l.nogoods ++ map duty_nogood (drop l.duty-index l.duties) ≡ l.fn.nogoods ++ map duty_nogood l.duties
