use Rattle.std.proofs.Common.{◌∙◌, subst}
use Rattle.program_meaning.specs.Collected.{collected}
use Rattle.program_meaning.specs.Theory.{first_not_linear}
use Rattle.collected_elements.specs.Judged.{IsJudgedBy}
use Rattle.collected_elements.proofs.ElementLemmas.{first_over_is, crooked_first}
use Rattle.collected_elements.proofs.element.as_tuple.Goals as goal

pub returns-in-NotLinear-clause-judged : goal.returns-in-NotLinear-clause-judged
returns-in-NotLinear-clause-judged c symbols kind bound element other first duration is_rest =
    let h = subst (λ judged. IsJudgedBy symbols judged (collected bound element.first) (first_not_linear kind bound element.first)) c.in-NotLinear.is first in
    crooked_first symbols kind bound element c.args.duration c.args.rest (first_over_is kind other bound element.first ∙ h.0) duration is_rest h.1

pub returns-in-Large-clause-judged : goal.returns-in-Large-clause-judged
returns-in-Large-clause-judged c symbols kind bound element other first duration is_rest =
    let h = subst (λ judged. IsJudgedBy symbols judged (collected bound element.first) (first_not_linear kind bound element.first)) c.in-Large.is first in
    c.large.ensures.judged symbols kind bound element c.args.rest other h duration is_rest

pub returns-in-Large-clause-known : goal.returns-in-Large-clause-known
returns-in-Large-clause-known c symbols first rest = c.large.ensures.known symbols
