use Rattle.std.proofs.Common.{IfOk, sym, subst}
use Rattle.program_meaning.specs.Ground.{BoundAs, turned}
use Rattle.program_meaning.specs.Instance.{bound_in}
use Rattle.row_bindings.proofs.HeldLemmas.{values-front}
use Rattle.planned_rules.specs.Planned.{rule_of}
use Rattle.choice_instances.specs.inner.Items.{AreBounds}
use Rattle.choice_instances.proofs.choice.with_items.Goals as goal

pub with_bounds-requires-clause-stands : goal.with_bounds-requires-clause-stands
with_bounds-requires-clause-stands c =
    let same = values-front c.args.symbols.now c.items.new.symbols c.args.values.now c.in-Ok.ensures.kept c.requires.values in
    subst (λ vs. AreBounds (bound_in (rule_of c.args.rule.now) vs) c.args.choice.now.left c.args.choice.now.right) (sym same) c.requires.stands

pub returns-in-Ok-clause-low : goal.returns-in-Ok-clause-low
returns-in-Ok-clause-low c =
    let same = values-front c.args.symbols.now c.items.new.symbols c.args.values.now c.in-Ok.ensures.kept c.requires.values in
    subst (λ vs. IfOk c.with_bounds.result (λ made. BoundAs turned (bound_in (rule_of c.args.rule.now) vs) c.args.choice.now.left made.left)) same c.with_bounds.ensures.low

pub returns-in-Ok-clause-high : goal.returns-in-Ok-clause-high
returns-in-Ok-clause-high c =
    let same = values-front c.args.symbols.now c.items.new.symbols c.args.values.now c.in-Ok.ensures.kept c.requires.values in
    subst (λ vs. IfOk c.with_bounds.result (λ made. BoundAs (λ rel. rel) (bound_in (rule_of c.args.rule.now) vs) c.args.choice.now.right made.right)) same c.with_bounds.ensures.high
