use Rattle.std.proofs.Common.{◌∙◌, sym, subst, true}
use Rattle.std.specs.List.{All}
use Rattle.literals.specs.declared.lit.Lit.TheVariants.{Constraint}
use Rattle.literals.specs.Lits.{IsLit}
use Rattle.completion.proofs.LitLemmas.{none_lits}
use Rattle.completion.proofs.constraint.add_tally.Goals as goal

pub add-requires : goal.add-requires
add-requires c =
    subst (All IsLit) (sym (c.deref.ensures.value ∙ c.in_ok-lits.ensures)) (none_lits (Constraint c.args.number true) c.args.bodies.now c.requires.number c.requires.bodies)
