use Rattle.std.proofs.Common.{map, length}
use Rattle.symbols.specs.Table.{IsFront}
use Rattle.ground_model.specs.Members.{IsMember}
use Rattle.program_meaning.specs.Said.{value_in}
use Rattle.row_tests.specs.Judged.{atoms_in}
use Rattle.theory_plans.specs.Planned.{FitsPlan}
use Rattle.theory_ground.specs.inner.Rows.{IsPart}
use Rattle.theory_ground.proofs.elements.gather_elements.Given as goal

abbrev pub invariant-loop-place : goal.invariant-loop-place
invariant-loop-place l = record {
  part : FitsPlan l.plan (length l.values) (λ rule theory. IsPart l.symbols (IsMember (atoms_in l.fn.symbols l.index)) rule (map (value_in l.fn.symbols) l.values) theory l.place l.gathered);
  kept : IsFront l.fn.symbols l.symbols;
}
