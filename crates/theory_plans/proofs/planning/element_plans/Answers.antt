use Rattle.std.proofs.Common.{◌≡◌, ◌+◌, ◌++◌, [], ◌∷◌, length, map, take, refl, sym, subst, rules}
use Rattle.std.specs.List.{AllByRecursion, AllZip}
use Rattle.std.proofs.lemmas.Option.{slice_get_read}
use Rattle.program_meaning.specs.Read.{rule_read}
use Rattle.program_meaning.proofs.Lists.{all_append}
use Rattle.instance_plans.specs.Plans.{IsElementPlan, element_read}
use Rattle.instance_plans.specs.Terms.{AreTerms}
use Rattle.plan_terms.proofs.PlanTerms.{element_terms_law}
use Rattle.theory_plans.proofs.Theories.{zip-more, element-tree}
use Rattle.theory_plans.proofs.planning.element_plans.Goals as goal

pub element_plan-requires-clause-member : goal.element_plan-requires-clause-member
element_plan-requires-clause-member c =
    c.requires.members c.loop-element.element-index c.element-item.result
    (slice_get_read c.args.elements.now (length c.args.elements.now) c.loop-element.element-index c.element-item.result refl c.loop-element-test.true c.element-item.is)

pub loop-element-preserved : goal.loop-element-preserved
loop-element-preserved c =
    let read = rule_read c.args.rule.now c.args.order.now in
    let plan = c.in_ok-element_plan.field-0 in
    let here = slice_get_read c.args.elements.now (length c.args.elements.now) c.loop-element.element-index c.element-item.result refl c.loop-element-test.true c.element-item.is in
    let grew : c.push.new.self ≡ c.loop-element.plans ++ plan ∷ [] = search rules in
    let tree = element-tree c.args.elements.now c.loop-element.element-index c.element-item.result here c.requires.trees in
    record {
      plans = subst (AllZip (IsElementPlan read) (map element_read (take (c.loop-element.element-index + 1) c.args.elements.now))) (sym grew)
          (zip-more element_read (IsElementPlan read) c.args.elements.now c.loop-element.plans c.loop-element.element-index c.element-item.result plan here
          c.loop-element.invariant.plans c.in_ok-element_plan.ensures);
      terms = subst (AllByRecursion AreTerms) (sym grew)
          (all_append AreTerms c.loop-element.plans (plan ∷ []) c.loop-element.invariant.terms
          (element_terms_law read c.element-item.result plan tree c.in_ok-element_plan.ensures, tt));
    }
