use Rattle.std.proofs.Common.{map, take}
use Rattle.symbols.specs.Table.{IsFront}
use Rattle.program_meaning.specs.Said.{value_in}
use Rattle.instance_plans.specs.Plans.{element_read}
use Rattle.instance_search.specs.Found.{rows_in}
use Rattle.theory_ground.specs.inner.Rows.{HasAll}
use Rattle.theory_ground.proofs.rows.gather_rows.Given as goal

abbrev pub invariant-loop-place : goal.invariant-loop-place
invariant-loop-place l = record {
  all : HasAll l.symbols l.name (element_read l.element) l.plan (map (value_in l.fn.symbols) l.given) (rows_in l.fn.symbols (take l.place l.rows)) l.fn.gathered l.gathered;
  kept : IsFront l.fn.symbols l.symbols;
}
