use Rattle.std.proofs.Common.{◌≡◌, map, take}
use Rattle.refusals.specs.declared.atoms.SeenAtom.{SeenAtom}
use Rattle.refusals.proofs.atoms.condition_flags.Given as goal

abbrev pub invariant-loop-atom : goal.invariant-loop-atom
invariant-loop-atom l = l.flags ≡ map (λ (atom : SeenAtom). atom.in_condition) (take l.atom-index l.seen)
