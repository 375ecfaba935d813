use Rattle.std.proofs.Common.{◌≡◌, drop}
use Rattle.std.specs.List.{list_any}
use Rattle.shown_flags.specs.inner.Directives.{directs}
use Rattle.shown_flags.proofs.directives.any_directs.Given as goal

abbrev pub invariant-loop-statement : goal.invariant-loop-statement
invariant-loop-statement l = list_any (directs l.name) (drop l.statement-index l.statements) ≡ list_any (directs l.name) l.statements
