use Rattle.std.proofs.Common.{◌≡◌, drop}
use Rattle.std.specs.List.{list_any}
use Rattle.symbols.specs.Table.{symbol_at}
use Rattle.shown_flags.specs.inner.Shows.{names}
use Rattle.shown_flags.proofs.atoms.is_named.Given as goal

abbrev pub invariant-loop-statement : goal.invariant-loop-statement
invariant-loop-statement l =
    list_any (names (symbol_at l.symbols l.atom)) (drop l.statement-index l.statements) ≡ list_any (names (symbol_at l.symbols l.atom)) l.statements
