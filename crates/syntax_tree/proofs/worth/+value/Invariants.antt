use Rattle.std.proofs.Common.{◌≡◌, length, map, fold, take, None, []}
use Rattle.symbols.specs.Table.{IsFront, IsOnce}
use Rattle.syntax_tree.specs.Outcome.{bound_in}
use Rattle.syntax_tree.specs.Value.{AreSymbols, with_argument, joined, value_of, part_value}
use Rattle.syntax_tree.specs.inner.Worth.{outcomes, IsOptionHeld, gathered, AreHeld}
use Rattle.syntax_tree.proofs.worth.+value.Given as goal

abbrev pub invariant-arguments-loop-arg : goal.invariant-arguments-loop-arg
invariant-arguments-loop-arg l = record {
  value : gathered l.symbols l.so_far ≡ fold with_argument (AreSymbols []) (map (value_of (bound_in l.fn.symbols l.binding.values)) (take l.arg-index l.args));
  known : AreHeld (length l.symbols) l.so_far;
  kept : IsFront l.fn.symbols l.symbols;
  once : IsOnce l.fn.symbols → IsOnce l.symbols;
}

abbrev pub invariant-from_left-loop-part : goal.invariant-from_left-loop-part
invariant-from_left-loop-part l = record {
  value : outcomes l.symbols l.so_far ≡ fold joined None (map (part_value (bound_in l.fn.symbols l.binding.values)) (take l.part-index l.parts));
  known : IsOptionHeld (length l.symbols) l.so_far;
  kept : IsFront l.fn.symbols l.symbols;
  once : IsOnce l.fn.symbols → IsOnce l.symbols;
}
