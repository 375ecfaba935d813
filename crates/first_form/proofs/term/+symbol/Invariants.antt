use Rattle.std.proofs.Common.{◌≡◌, ◌+◌, ◌*◌, map, take, Some}
use Rattle.symbols.specs.Table.{symbol_at, IsFront, IsOnce}
use Rattle.first_form.specs.Form.{AreKnown, all_there, symbol_within}
use Rattle.first_form.proofs.term.+symbol.Given as goal

abbrev pub decreases-function : goal.decreases-function
decreases-function l = 3 * l.depth

abbrev pub decreases-symbol : goal.decreases-symbol
decreases-symbol l = 3 * l.depth + 1

abbrev pub decreases-arguments : goal.decreases-arguments
decreases-arguments l = 3 * l.depth + 2

abbrev pub invariant-arguments-loop-arg : goal.invariant-arguments-loop-arg
invariant-arguments-loop-arg l = record {
  read : all_there (map (symbol_within l.depth) (take l.arg-index l.args)) ≡ Some (map (symbol_at l.symbols) l.ids);
  known : AreKnown l.symbols l.ids;
  kept : IsFront l.fn.symbols l.symbols;
  once : IsOnce l.fn.symbols → IsOnce l.symbols;
}
