use Rattle.std.proofs.Common.{map, take}
use Rattle.std.specs.List.{AllZip}
use Rattle.program_meaning.specs.Read.{theory_read, rule_read}
use Rattle.theory_plans.specs.Planned.{IsTheoryPlan}
use Rattle.theory_plans.proofs.planning.plans_of.Given as goal

-- the plans of the theory atoms so far
abbrev pub invariant-loop-theory : goal.invariant-loop-theory
invariant-loop-theory l = AllZip (IsTheoryPlan (rule_read l.rule l.order)) (map (λ theory. theory_read theory.now) (take l.theory-index l.found)) l.plans
