use Rattle.std.proofs.Common.{◌≡◌, ◌++◌, map, reverse, length, vec_len}
use Rattle.std.specs.List.{AllByRecursion}
use Rattle.ground_model.specs.Answers.{IsNumbered}
use Rattle.ground_model.specs.inner.Ordered.{spaced}
use Rattle.ground_model.specs.Printed.{variable_entry}
use Rattle.ground_model.proofs.print.push_variables.Given as goal

abbrev pub invariant-loop-variable : goal.invariant-loop-variable
invariant-loop-variable l = record {
  so_far : l.line ++ spaced (map (variable_entry l.program l.values) (reverse l.left.items)) ≡ l.fn.line ++ spaced (map (variable_entry l.program l.values) (reverse l.fn.variables.items));
  left : AllByRecursion (IsNumbered (length l.program.variables)) l.left.items;
}

abbrev pub decreases-loop-variable : goal.decreases-loop-variable
decreases-loop-variable l = vec_len l.left
