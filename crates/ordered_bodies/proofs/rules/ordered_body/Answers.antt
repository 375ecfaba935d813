use Rattle.std.proofs.Common.{◌∙◌, [], map, subst}
use Rattle.program_meaning.specs.Read.{literal_read}
use Rattle.ordered_bodies.specs.inner.Orderable.{IsInOrder}
use Rattle.ordered_bodies.proofs.Conditions.{sorted_orderable, body_law}
use Rattle.ordered_bodies.proofs.rules.ordered_body.Goals as goal

pub ordered_literals-requires : goal.ordered_literals-requires
ordered_literals-requires c = sorted_orderable c.args.order.now c.args.given.now [] (map literal_read c.args.body) (map literal_read c.in_ok-plain.plain) c.requires.told
    (subst (λ z. IsInOrder [] (map literal_read z) (map literal_read c.in_ok-plain.plain)) (c.from_vec.ensures ∙ c.into_vec.ensures) c.in_ok-plain.ensures)

pub returns : goal.returns
returns c = λ rule are. body_law (map literal_read c.args.body) (map literal_read c.in_ok-plain.plain) (map literal_read c.in_ok-done.done)
    (subst (λ z. IsInOrder [] (map literal_read z) (map literal_read c.in_ok-plain.plain)) (c.from_vec.ensures ∙ c.into_vec.ensures) c.in_ok-plain.ensures) rule (c.in_ok-done.ensures rule are)
