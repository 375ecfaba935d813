use Rattle.std.proofs.Common.{◌≡◌, ◌++◌, drop, map}
use Rattle.clingcon_app.specs.Numbering.{numbered_rule}
use Rattle.clingcon_app.proofs.numbering.numbered_rules.Given as goal

abbrev pub invariant-loop-statement : goal.invariant-loop-statement
invariant-loop-statement l =
    l.rules ++ map (numbered_rule l.numbers) (drop l.statement-index l.statements) ≡ map (numbered_rule l.numbers) l.statements
