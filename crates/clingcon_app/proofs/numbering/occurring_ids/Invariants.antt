use Rattle.std.proofs.Common.{◌≡◌, ◌++◌, drop}
use Rattle.clingcon_app.specs.Numbering.{ids_of}
use Rattle.clingcon_app.proofs.numbering.occurring_ids.Given as goal

abbrev pub invariant-loop-statement : goal.invariant-loop-statement
invariant-loop-statement l = l.ids ++ ids_of (drop l.statement-index l.statements) ≡ ids_of l.statements
