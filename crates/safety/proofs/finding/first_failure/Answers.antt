use Rattle.std.proofs.Common.{◌∙◌, sym, subst}
use Rattle.std.specs.List.{AllZip}
use Rattle.predicate_order.specs.Ways.{bare_rules, blocking_ways}
use Rattle.predicate_order.specs.Judged.{Judges}
use Rattle.safety_meaning.specs.Program.{rules_of}
use Rattle.safety.specs.inner.Rules.{IsTwin}
use Rattle.safety.proofs.Twins.{text_twins}
use Rattle.safety.proofs.finding.first_failure.Goals as goal

pub returns : goal.returns
returns c = λ old rewriting.
    let bare = bare_rules c.items-statements.result.now in
    let statements = c.items-statements.ensures ∙ rewriting.statements in
    c.in_ok-found.ensures bare old.statements
    (subst (λ v. Judges c.in_ok-ways.ways.table.keys v (blocking_ways bare)) (sym c.items.ensures) (c.in_ok-flags.ensures (blocking_ways bare) c.in_ok-ways.ensures))
    c.in_ok-steps.ensures (subst (λ v. AllZip IsTwin (bare_rules v) (rules_of old.statements)) (sym statements) (text_twins old.statements))
    statements (c.items-2.ensures ∙ rewriting.orders) (c.items-3.ensures ∙ rewriting.sights)
