use Rattle.std.proofs.Common.{sym, ◌∙◌, true≢false}
use Rattle.predicate_order.specs.Ways.{step_ways}
use Rattle.safety.proofs.Verdicts.{turning_recursive, recursive_turning}
use Rattle.safety.proofs.judging.judge_recursion.Goals as goal

pub returns-then-branch-clause-verdict : goal.returns-then-branch-clause-verdict
returns-then-branch-clause-verdict c = λ bare rules old steps twins is ordered safe domain.
    (safe, domain, turning_recursive bare rules twins c.args.rule.now old is ((c.in_ok-is_turning.ensures.answer (step_ways bare) steps).0 c.if-branch.true), λ e. true≢false (sym (c.if-is_empty.ensures.1 (ordered ∙ e))))

pub returns-clause-verdict : goal.returns-clause-verdict
returns-clause-verdict c = λ bare rules old steps twins is ordered safe domain. record {
  safe = safe;
  domain = domain;
  stratified = λ r.
      absurd (true≢false (sym ((c.in_ok-is_turning.ensures.answer (step_ways bare) steps).1 (recursive_turning bare rules twins c.args.rule.now old is r)) ∙ c.if-branch.false));
}
