use Rattle.std.proofs.Common.{◌∙◌}
use Rattle.collected_elements.proofs.ElementLemmas.{first_over_is, first_large_is, crooked_duration, clear}
use Rattle.collected_elements.proofs.element.large.Goals as goal

pub returns-in-None-clause-judged : goal.returns-in-None-clause-judged
returns-in-None-clause-judged c symbols kind bound element rest other first duration is_rest =
    crooked_duration symbols kind bound element c.args.duration rest (first_over_is kind other bound element.first ∙ first.0) duration is_rest c.in-None.is

pub returns-in-Some-clause-judged : goal.returns-in-Some-clause-judged
returns-in-Some-clause-judged c symbols kind bound element rest other first duration is_rest = (
  clear symbols kind bound element c.args.duration rest (first_over_is kind other bound element.first ∙ first.0) duration is_rest first.1 c.in-Some.field-0 c.in-Some.is,
  first_large_is kind other bound element.first ∙ first.2,
)
