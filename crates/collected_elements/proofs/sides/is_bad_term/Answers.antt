use Rattle.std.proofs.Common.{subst}
use Rattle.collected_terms.specs.Found.{IsFormOf}
use Rattle.collected_elements.proofs.SideLemmas.{small_bad}
use Rattle.collected_elements.proofs.sides.is_bad_term.Goals as goal

pub returns-in-Small : goal.returns-in-Small
returns-in-Small c symbols term is =
    let h = subst (λ f. IsFormOf symbols f term) c.in-Small.is is.form in
    small_bad symbols c.in-Small.linear term c.is_bad_form.result h.0 h.1 h.2 (c.is_bad_form.ensures symbols)
