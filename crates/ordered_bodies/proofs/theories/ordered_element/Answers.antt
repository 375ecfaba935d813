use Rattle.std.proofs.Common.{◌∙◌, map, refl, sym, subst}
use Rattle.program_meaning.specs.Read.{literal_read}
use Rattle.ordered_bodies.specs.inner.Orderable.{IsInOrder}
use Rattle.ordered_bodies.proofs.Conditions.{element_law}
use Rattle.ordered_bodies.proofs.theories.ordered_element.Goals as goal

pub returns : goal.returns
returns c =
    element_law c.args.order.now c.args.given.now c.args.element _ c.requires refl refl refl
    (subst (λ z. IsInOrder c.args.given.now (map literal_read c.args.element.condition) (map literal_read z)) (sym (c.from_vec.ensures ∙ c.into_vec.ensures)) c.in_ok-condition.ensures)
