use Rattle.std.proofs.Common.{◌≡◌, [], ◌&&◌, not, filter, take}
use Rattle.program_meaning.specs.Read.{rule_read, choice_read}
use Rattle.program_meaning.specs.Variables as spec
use Rattle.rule_variables.proofs.variables.choice_locals.Given as goal

abbrev pub invariant-loop-number : goal.invariant-loop-number
invariant-loop-number l = l.found ≡ filter (λ n. spec.occurs_in_choice n (choice_read l.element) && not (spec.is_global (rule_read l.rule []) n)) (take l.number-index l.order)
