use Rattle.std.proofs.Common.{◌++◌, List, map, length, Some, IsTrue, sym, ◌∙◌, ap, subst}
use Rattle.std.specs.List.{AllByRecursion}
use Rattle.syntax_tree.specs.declared.binding.Value.{Value as HeldValue}
use Rattle.syntax_tree.specs.Outcome.{IsKnown}
use Rattle.syntax_tree.proofs.Holding.{ok_along}
use Rattle.program_meaning.specs.Said.{value_in}
use Rattle.program_meaning.specs.Substitution.{substituted}
use Rattle.program_meaning.specs.Theory.{element_over}
use Rattle.instance_plans.specs.Plans.{element_read}
use Rattle.collected_elements.specs.Judged.{IsJudged}
use Rattle.theory_ground.proofs.rows.judge_row.Goals as goal

pub judge_element-requires-clause-binding : goal.judge_element-requires-clause-binding
judge_element-requires-clause-binding c =
    c.in-Ok.ensures.known (length c.args.symbols.now) c.requires.values
    (subst (λ (vs : List HeldValue). AllByRecursion (λ v. IsKnown (length c.args.symbols.now) (Some v)) vs) (sym c.items.ensures) c.requires.row)

pub returns-in-Ok-clause-judged : goal.returns-in-Ok-clause-judged
returns-in-Ok-clause-judged c =
    let old = c.args.symbols.now in
    let plan = c.args.plan.now in
    let bound = c.in-Ok.ensures.bound old
    ∙ ap (λ (vs : List HeldValue). substituted plan.count (plan.given ++ plan.variables) (map (value_in old) c.args.given.now ++ map (value_in old) vs)) c.items.ensures in
    ok_along c.judge_element.result _ _ c.judge_element.ensures.judged
    (λ judged h. subst (λ b. IsJudged c.judge_element.new.symbols c.args.name b (element_read c.args.element.now) judged) bound h)

pub returns-in-Ok-clause-over : goal.returns-in-Ok-clause-over
returns-in-Ok-clause-over c = λ e.
    let old = c.args.symbols.now in
    let plan = c.args.plan.now in
    let bound = c.in-Ok.ensures.bound old
    ∙ ap (λ (vs : List HeldValue). substituted plan.count (plan.given ++ plan.variables) (map (value_in old) c.args.given.now ++ map (value_in old) vs)) c.items.ensures in
    subst (λ b. IsTrue (element_over c.args.name b (element_read c.args.element.now))) bound (c.judge_element.ensures.over e)
