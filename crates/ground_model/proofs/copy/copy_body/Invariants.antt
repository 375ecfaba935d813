use Rattle.std.proofs.Common.{◌≡◌, take}
use Rattle.ground_model.proofs.copy.copy_body.Given as goal

abbrev pub invariant-loop-literal : goal.invariant-loop-literal
invariant-loop-literal l = l.copy ≡ take l.literal-index l.body
