use Rattle.std.proofs.Common.{◌∙◌, map, refl, subst}
use Rattle.program_meaning.specs.Read.{literal_read}
use Rattle.ordered_bodies.specs.inner.Orderable.{IsInOrder}
use Rattle.ordered_bodies.proofs.Conditions.{choice_law}
use Rattle.ordered_bodies.proofs.rules.ordered_element.Goals as goal

pub returns : goal.returns
returns c =
    choice_law c.args.order.now c.args.given.now c.args.element (record { atom = c.args.element.atom; condition = c.in_ok-condition.condition }) c.requires refl
    (subst (λ z. IsInOrder c.args.given.now (map literal_read z) (map literal_read c.in_ok-condition.condition)) (c.from_vec.ensures ∙ c.into_vec.ensures) c.in_ok-condition.ensures)
