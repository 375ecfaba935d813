use Rattle.literals.specs.declared.lit.Lit.TheVariants.{Atom}
use Rattle.std.proofs.Common.{false}
use Rattle.founded_propagation.proofs.FoundedLaws.{opposite_set}
use Rattle.founded_propagation.proofs.founded.set_opposite.Goals as goal

pub returns-in-Ok-clause-grows : goal.returns-in-Ok-clause-grows
returns-in-Ok-clause-grows c d loop =
    (opposite_set d c.args.trail.now c.set.new.self c.args.reason c.lits.result.now (Atom 0 false) c.complement.result c.in-Ok.field-0 c.is_true.result c.lits.ensures.value c.is_true.ensures c.if-is_true.false c.complement.ensures.value c.in-Ok.ensures.ok loop).0

pub returns-in-Ok-clause-none : goal.returns-in-Ok-clause-none
returns-in-Ok-clause-none c =
    (opposite_set c.requires.by.0 c.args.trail.now c.set.new.self c.args.reason c.lits.result.now (Atom 0 false) c.complement.result c.in-Ok.field-0 c.is_true.result c.lits.ensures.value c.is_true.ensures c.if-is_true.false c.complement.ensures.value c.in-Ok.ensures.ok c.requires.by.1).1

pub returns-in-Ok-clause-keeps : goal.returns-in-Ok-clause-keeps
returns-in-Ok-clause-keeps c =
    (opposite_set c.requires.by.0 c.args.trail.now c.set.new.self c.args.reason c.lits.result.now (Atom 0 false) c.complement.result c.in-Ok.field-0 c.is_true.result c.lits.ensures.value c.is_true.ensures c.if-is_true.false c.complement.ensures.value c.in-Ok.ensures.ok c.requires.by.1).2
