use Rattle.std.proofs.Common.{◌≡◌, map, take, Some}
use Rattle.symbols.specs.Table.{symbol_at, IsFront, IsOnce}
use Rattle.first_form.specs.Form.{AreKnown, all_there, literal_of}
use Rattle.first_form.proofs.statement.body.Given as goal

abbrev pub invariant-loop-literal : goal.invariant-loop-literal
invariant-loop-literal l = record {
  read : all_there (map literal_of (take l.literal-index l.literals)) ≡ Some (map (symbol_at l.symbols) l.ids);
  known : AreKnown l.symbols l.ids;
  kept : IsFront l.fn.symbols l.symbols;
  once : IsOnce l.fn.symbols → IsOnce l.symbols;
}
