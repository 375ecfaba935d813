use Rattle.std.proofs.Common.{map, take, length}
use Rattle.symbols.specs.Table.{IsFront}
use Rattle.ground_model.specs.Members.{IsMember}
use Rattle.program_meaning.specs.Said.{value_in}
use Rattle.program_meaning.specs.Tuples.{theories}
use Rattle.row_tests.specs.Judged.{atoms_in}
use Rattle.instance_atoms.specs.Collected.{FitsPlans}
use Rattle.instance_atoms.specs.inner.Steps.{IsStep}
use Rattle.instance_atoms.proofs.collecting.collect_atoms.Given as goal

abbrev pub invariant-loop-place : goal.invariant-loop-place
invariant-loop-place l = record {
  step : FitsPlans l.plans (length l.values) (λ rule. IsStep l.symbols (IsMember (atoms_in l.fn.symbols l.index)) rule (map (value_in l.fn.symbols) l.values) (take l.place (theories rule)) l.step);
  kept : IsFront l.fn.symbols l.symbols;
}
