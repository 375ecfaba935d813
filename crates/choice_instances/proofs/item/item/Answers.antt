use Rattle.std.proofs.Common.{◌≡◌, ◌∙◌, ◌++◌, true, false, length, map, sym, ap, subst}
use Rattle.std.specs.List.{AllByRecursion, list_any}
use Rattle.syntax_tree.specs.Outcome.{IsSymbol, bound_in}
use Rattle.std.specs.Prelude.{Some}
use Rattle.syntax_tree.specs.Outcome.{IsKnown}
use Rattle.syntax_tree.specs.Value.{value_of}
use Rattle.program_meaning.specs.Ground.{AtomsAs}
use Rattle.program_meaning.specs.Read.{plains}
use Rattle.program_meaning.specs.Theory.{is_defined, is_over}
use Rattle.program_meaning.specs.Instance.{bound_in_choice}
use Rattle.program_meaning.specs.Outside.{plain_over}
use Rattle.program_meaning.specs.Said.{value_in}
use Rattle.program_meaning.specs.Substitution.{substituted}
use Rattle.instance_search.specs.Found.{row_in}
use Rattle.planned_rules.specs.Planned.{rule_of, element_of}
use Rattle.symbol_rules.specs.Reading.{item_in}
use Rattle.choice_instances.specs.inner.Items.{IsItemAt}
use Rattle.choice_instances.proofs.BindingLemmas.{ok_both, choice_bound}
use Rattle.choice_instances.proofs.ChoiceLemmas.{or_none}
use Rattle.choice_instances.proofs.item.item.Goals as goal

pub item_at-requires-clause-binding : goal.item_at-requires-clause-binding
item_at-requires-clause-binding c =
    let old = c.args.symbols.now in
    c.in-Ok.ensures.known (length old) c.requires.values (subst (AllByRecursion (λ value. IsKnown (length old) (Some value))) (sym c.items.ensures) c.requires.row.known)

pub item_at-requires-clause-defined : goal.item_at-requires-clause-defined
item_at-requires-clause-defined c =
    let old = c.args.symbols.now in
    let plan = c.args.choice.now.plan in
    let values = map (value_in old) c.args.values.now in
    let is = choice_bound (rule_of c.args.rule.now) (element_of c.args.choice.now) plan values (row_in old c.args.row.now) (bound_in old c.in-Ok.binding.values) c.requires.planned.plan
    (c.in-Ok.ensures.bound old ∙ ap (λ row. substituted plan.count (plan.given ++ plan.variables) (values ++ map (value_in old) row)) c.items.ensures) in
    subst (λ b. is_defined (value_of b c.args.choice.now.element.now.atom) ≡ true) (sym is) c.requires.row.stands.atom

pub item_at-requires-clause-inside : goal.item_at-requires-clause-inside
item_at-requires-clause-inside c =
    let old = c.args.symbols.now in
    let plan = c.args.choice.now.plan in
    let rule = rule_of c.args.rule.now in
    let element = element_of c.args.choice.now in
    let values = map (value_in old) c.args.values.now in
    let row = row_in old c.args.row.now in
    let is = choice_bound rule element plan values row (bound_in old c.in-Ok.binding.values) c.requires.planned.plan
    (c.in-Ok.ensures.bound old ∙ ap (λ row. substituted plan.count (plan.given ++ plan.variables) (values ++ map (value_in old) row)) c.items.ensures) in
    subst (λ b. is_over (value_of b c.args.choice.now.element.now.atom) ≡ false) (sym is)
    (or_none (is_over (value_of (bound_in_choice rule values element row) element.atom)) (list_any (plain_over (plains rule.body ++ element.condition) (bound_in_choice rule values element row)) element.condition)
    c.requires.row.inside).0

pub returns-in-Ok-clause-item : goal.returns-in-Ok-clause-item
returns-in-Ok-clause-item c =
    let old = c.args.symbols.now in
    let new = c.item_at.new.symbols in
    let plan = c.args.choice.now.plan in
    let rule = rule_of c.args.rule.now in
    let element = element_of c.args.choice.now in
    let values = map (value_in old) c.args.values.now in
    let row = row_in old c.args.row.now in
    let is = choice_bound rule element plan values row (bound_in old c.in-Ok.binding.values) c.requires.planned.plan
    (c.in-Ok.ensures.bound old ∙ ap (λ row. substituted plan.count (plan.given ++ plan.variables) (values ++ map (value_in old) row)) c.items.ensures) in
    ok_both c.item_at.result (λ made. value_of (bound_in old c.in-Ok.binding.values) element.atom ≡ IsSymbol (item_in new made).atom)
    (λ made. AtomsAs (bound_in old c.in-Ok.binding.values) element.condition (item_in new made).condition) (λ made. IsItemAt rule values element row (item_in new made))
    c.item_at.ensures.atom c.item_at.ensures.condition
    (λ made e a. record {
      atom = subst (λ b. value_of b element.atom ≡ IsSymbol (item_in new made).atom) is e;
      condition = subst (λ b. AtomsAs b element.condition (item_in new made).condition) is a;
    })
