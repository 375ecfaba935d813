use Rattle.std.proofs.Common.{◌≡◌}
use Rattle.asp_parser.specs.Replacement as spec
use Rattle.asp_parser.proofs.Places.{half}
use Rattle.asp_parser.proofs.constants.replaced_statements.Given as goal

abbrev pub invariant-loop-at : goal.invariant-loop-at
invariant-loop-at l = l.statements ≡ half (spec.replaced_statement l.constants) l.fn.statements l.at
