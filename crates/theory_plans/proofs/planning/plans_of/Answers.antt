use Rattle.std.proofs.Common.{◌≡◌, ◌+◌, ◌++◌, [], ◌∷◌, length, map, take, refl, sym, ◌∙◌, ap, subst, rules}
use Rattle.std.specs.List.{AllZip}
use Rattle.std.proofs.lemmas.Option.{slice_get_read}
use Rattle.std.proofs.lemmas.List.{take_all}
use Rattle.program_meaning.specs.Read.{theory_read, rule_read}
use Rattle.theory_plans.specs.Planned.{IsTheoryPlan}
use Rattle.theory_plans.proofs.Theories.{zip-more, theory-of, mapped-get}
use Rattle.theory_plans.proofs.planning.plans_of.Goals as goal

pub theory_plan-requires-clause-member : goal.theory_plan-requires-clause-member
theory_plan-requires-clause-member c =
    let here = slice_get_read c.args.found.now (length c.args.found.now) c.loop-theory.theory-index c.theory-item.result refl c.loop-theory-test.true c.theory-item.is in
    theory-of (rule_read c.args.rule.now c.args.order.now) _ _ c.loop-theory.theory-index _ c.requires.members
    (mapped-get (λ theory. theory_read theory.now) c.args.found.now c.loop-theory.theory-index c.theory-item.result here)

pub loop-theory-preserved : goal.loop-theory-preserved
loop-theory-preserved c =
    let read = rule_read c.args.rule.now c.args.order.now in
    let plan = c.in_ok-theory_plan.field-0 in
    let here = slice_get_read c.args.found.now (length c.args.found.now) c.loop-theory.theory-index c.theory-item.result refl c.loop-theory-test.true c.theory-item.is in
    let grew : c.push.new.self ≡ c.loop-theory.plans ++ plan ∷ [] = search rules in
    subst (AllZip (IsTheoryPlan read) (map (λ theory. theory_read theory.now) (take (c.loop-theory.theory-index + 1) c.args.found.now))) (sym grew)
    (zip-more (λ theory. theory_read theory.now) (IsTheoryPlan read) c.args.found.now c.loop-theory.plans c.loop-theory.theory-index c.theory-item.result plan here
    c.loop-theory.invariant c.in_ok-theory_plan.ensures)

pub returns : goal.returns
returns c =
    let read = rule_read c.args.rule.now c.args.order.now in
    subst (λ all. AllZip (IsTheoryPlan read) all c.loop-theory.plans)
    (ap (map (λ theory. theory_read theory.now)) (take_all c.loop-theory.theory-index c.args.found.now c.loop-theory-test.false) ∙ c.requires.members)
    c.loop-theory.invariant
