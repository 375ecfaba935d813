use Rattle.std.proofs.Common.{◌≡◌, ◌≤◌, ◌++◌, length, map, drop}
use Rattle.program_meaning.specs.Said.{value_in}
use Rattle.load_meaning.specs.Lines.{bindings_text}
use Rattle.refusals.proofs.bindings.write_bindings.Given as goal

abbrev pub invariant-loop-at : goal.invariant-loop-at
invariant-loop-at l = record {
  within : l.at ≤ length l.values;
  rest : l.out ++ bindings_text l.rule (drop l.at l.variables) (map (value_in l.symbols) (drop l.at l.values))
      ≡ l.fn.out ++ bindings_text l.rule l.variables (map (value_in l.symbols) l.values);
}
