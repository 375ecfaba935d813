use Rattle.std.proofs.Common.{length, map, IfOk, sym, subst}
use Rattle.syntax_tree.specs.Outcome.{bound_in as bound_at}
use Rattle.program_meaning.specs.Ground.{BoundAs, turned}
use Rattle.program_meaning.specs.Said.{value_in}
use Rattle.planned_rules.specs.Planned.{rule_of}
use Rattle.choice_instances.specs.inner.Items.{AreBounds}
use Rattle.choice_instances.proofs.BindingLemmas.{rule_bound}
use Rattle.choice_instances.proofs.choice.with_bounds.Goals as goal

pub bounded-requires-clause-binding : goal.bounded-requires-clause-binding
bounded-requires-clause-binding c = c.in-Ok.ensures.known (length c.args.symbols.now) tt c.requires.values

pub bounded-requires-clause-stands : goal.bounded-requires-clause-stands
bounded-requires-clause-stands c =
    let old = c.args.symbols.now in
    let is = rule_bound (rule_of c.args.rule.now) c.args.rule.now.plan (map (value_in old) c.args.values.now) (bound_at old c.in-Ok.binding.values) c.requires.planned.plan (c.in-Ok.ensures.bound old) in
    subst (λ b. AreBounds b c.args.choice.now.left c.args.choice.now.right) (sym is) c.requires.stands

pub returns-in-Ok-clause-low : goal.returns-in-Ok-clause-low
returns-in-Ok-clause-low c =
    let old = c.args.symbols.now in
    let is = rule_bound (rule_of c.args.rule.now) c.args.rule.now.plan (map (value_in old) c.args.values.now) (bound_at old c.in-Ok.binding.values) c.requires.planned.plan (c.in-Ok.ensures.bound old) in
    subst (λ b. IfOk c.bounded.result (λ made. BoundAs turned b c.args.choice.now.left made.left)) is c.bounded.ensures.low

pub returns-in-Ok-clause-high : goal.returns-in-Ok-clause-high
returns-in-Ok-clause-high c =
    let old = c.args.symbols.now in
    let is = rule_bound (rule_of c.args.rule.now) c.args.rule.now.plan (map (value_in old) c.args.values.now) (bound_at old c.in-Ok.binding.values) c.requires.planned.plan (c.in-Ok.ensures.bound old) in
    subst (λ b. IfOk c.bounded.result (λ made. BoundAs (λ rel. rel) b c.args.choice.now.right made.right)) is c.bounded.ensures.high
