use Rattle.std.proofs.Common.{[], subst}
use Rattle.program_meaning.specs.Read.{rule_read}
use Rattle.predicate_order.specs.Ways.{blocking_ways}
use Rattle.safety.specs.inner.Rules.{IsFirst}
use Rattle.safety.proofs.Verdicts.{domain_answer}
use Rattle.safety.proofs.conditions.first_no_domain.Goals as goal

pub returns : goal.returns
returns c = λ bare rules judged twins.
    domain_answer bare rules twins (rule_read c.args.rule.now []) c.in_ok-answers.answers c.first_true-found.result
    (c.in_ok-answers.ensures (blocking_ways bare) judged)
    (subst (λ v. IsFirst (λ answer. answer) v c.first_true-found.result) c.items.ensures c.first_true-found.ensures)
