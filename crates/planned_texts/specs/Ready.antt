-- Rules that are ready to be grounded.
use Rattle.std.specs.Prelude.{List}
use Rattle.std.specs.List.{AllZip}
use Rattle.program_meaning.specs.Tuples.{theories}
use Rattle.groundable_rules.specs.Groundable.{IsGroundable}
use Rattle.planned_rules.specs.declared.planned.PlannedRule.{PlannedRule}
use Rattle.planned_rules.specs.Planned.{IsPlanned, rule_of}
use Rattle.theory_plans.specs.declared.plan.TheoryPlan.{TheoryPlan}
use Rattle.theory_plans.specs.Planned.{IsTheoryPlan}

-- the rule can be grounded, its plans are its own, and so are the plans of its theory atoms
pub record IsReady (rule : PlannedRule) (plans : List TheoryPlan) : Type 0 where
  pub groundable : IsGroundable (rule_of rule)
  pub planned : IsPlanned rule
  pub each : AllZip (IsTheoryPlan (rule_of rule)) (theories (rule_of rule)) plans
