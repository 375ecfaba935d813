use Rattle.std.proofs.Common.{refl, ◌∙◌, ap}
use Rattle.linear_normal.specs.declared.constraint.Constraint.TheVariants.{Domain, Distinct, Disjoint}
use Rattle.linear_normal.specs.Contents.{InSet, AllDiffer, NoneOverlap}
use Rattle.linear_normal.proofs.RelationLemmas.{plain_given, theory_as}
use Rattle.linear_normal.proofs.relation.add_theory.Goals as goal

pub returns-in_ok-number-in-Domain-clause-gives : goal.returns-in_ok-number-in-Domain-clause-gives
returns-in_ok-number-in-Domain-clause-gives c =
    theory_as _ _ c.args.variables c.args.theory.now _ c.in_ok-number-in-Domain.number c.in-Domain.is
    (plain_given _ _ (InSet c.in-Domain.variable c.in-Domain.numbers) _ c.in_ok-number-in-Domain.number refl (λ contents. tt)
    (λ contents. ap (Domain c.in-Domain.variable) c.in_ok-numbers-in-Domain.ensures) c.in_ok-number-in-Domain.ensures.puts)

pub returns-in_ok-number-in-Distinct-clause-gives : goal.returns-in_ok-number-in-Distinct-clause-gives
returns-in_ok-number-in-Distinct-clause-gives c =
    theory_as _ _ c.args.variables c.args.theory.now _ c.in_ok-number-in-Distinct.number c.in-Distinct.is
    (plain_given _ _ (AllDiffer c.in-Distinct.places) _ c.in_ok-number-in-Distinct.number refl (λ contents. tt)
    (λ contents. ap Distinct (c.in_ok-places-in-Distinct.ensures ∙ c.items.ensures)) c.in_ok-number-in-Distinct.ensures.puts)

pub returns-in_ok-number-in-Disjoint-clause-gives : goal.returns-in_ok-number-in-Disjoint-clause-gives
returns-in_ok-number-in-Disjoint-clause-gives c =
    theory_as _ _ c.args.variables c.args.theory.now _ c.in_ok-number-in-Disjoint.number c.in-Disjoint.is
    (plain_given _ _ (NoneOverlap c.in-Disjoint.places) _ c.in_ok-number-in-Disjoint.number refl (λ contents. tt)
    (λ contents. ap Disjoint (c.in_ok-places-in-Disjoint.ensures ∙ c.items-in-Disjoint.ensures)) c.in_ok-number-in-Disjoint.ensures.puts)
