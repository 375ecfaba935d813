use Rattle.std.proofs.Common.{◌≡◌, map, take}
use Rattle.rewriting.specs.Order.{variable_in}
use Rattle.load_meaning.specs.Lines.{is_this}
use Rattle.refusals.proofs.flags.variable_flags.Given as goal

abbrev pub invariant-loop-sight : goal.invariant-loop-sight
invariant-loop-sight l = l.flags ≡ map (λ sight. is_this l.number (variable_in sight)) (take l.sight-index l.sights)
