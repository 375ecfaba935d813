use Rattle.std.proofs.Common.{map, take}
use Rattle.std.specs.List.{AllByRecursion, AllZip}
use Rattle.program_meaning.specs.Read.{rule_read}
use Rattle.instance_plans.specs.Plans.{IsElementPlan, element_read}
use Rattle.instance_plans.specs.Terms.{AreTerms}
use Rattle.theory_plans.proofs.planning.element_plans.Given as goal

-- the plans of the elements so far
abbrev pub invariant-loop-element : goal.invariant-loop-element
invariant-loop-element l = record {
  plans : AllZip (IsElementPlan (rule_read l.rule l.order)) (map element_read (take l.element-index l.elements)) l.plans;
  terms : AllByRecursion AreTerms l.plans;
}
