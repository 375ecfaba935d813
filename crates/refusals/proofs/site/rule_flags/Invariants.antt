use Rattle.std.proofs.Common.{◌≡◌, map, take}
use Rattle.refusals.specs.inner.Rows.{is_rule}
use Rattle.refusals.proofs.site.rule_flags.Given as goal

abbrev pub invariant-loop-statement : goal.invariant-loop-statement
invariant-loop-statement l = l.flags ≡ map is_rule (take l.statement-index l.statements)
