use Rattle.std.proofs.Common.{◌<◌, length, refl, sym, subst}
use Rattle.std.specs.List.{AllByRecursion}
use Rattle.program_parts.proofs.FoundLemmas.{sorted_known, are_parts}
use Rattle.program_parts.proofs.parts.parts_of.Goals as goal

pub shown_atoms-requires : goal.shown_atoms-requires
shown_atoms-requires c =
    subst (AllByRecursion (λ id. id < length c.args.symbols.now)) (sym c.items-2.ensures)
    (sorted_known (length c.args.symbols.now) c.items.result.now c.in_ok-atoms.atoms (subst (AllByRecursion (λ id. id < length c.args.symbols.now)) (sym c.items.ensures) c.requires.known_atoms)
    c.in_ok-atoms.ensures.members)

pub shown_variables-requires-clause-variables : goal.shown_variables-requires-clause-variables
shown_variables-requires-clause-variables c =
    subst (AllByRecursion (λ id. id < length c.args.symbols.now)) (sym c.items-4.ensures) c.requires.known_variables

pub returns-clause-known : goal.returns-clause-known
returns-clause-known c = record {
  known_atoms = sorted_known (length c.args.symbols.now) c.items.result.now c.in_ok-atoms.atoms
      (subst (AllByRecursion (λ id. id < length c.args.symbols.now)) (sym c.items.ensures) c.requires.known_atoms) c.in_ok-atoms.ensures.members;
  known_variables = c.requires.known_variables;
  known_rules = c.requires.known_rules;
  known_smaller = c.in_ok-sets.ensures.known.smaller;
  known_larger = c.in_ok-sets.ensures.known.larger;
}

pub returns-clause-parts : goal.returns-clause-parts
returns-clause-parts c =
    are_parts c.args.symbols.now c.args.program.now c.args.found _ c.in_ok-sets.sets.shown c.has_directive-shows.result c.items-statements.result.now c.items.result.now c.items-2.result.now
    c.items-4.result.now c.items-3.result.now c.items-statements.ensures c.items.ensures c.items-2.ensures c.items-4.ensures c.items-3.ensures refl refl c.in_ok-atoms.ensures.ascends
    c.in_ok-atoms.ensures.members c.has_objective-aims.ensures c.has_directive-shows.ensures c.in_ok-sets.ensures.smaller c.in_ok-sets.ensures.larger c.in_ok-sets.ensures.shown
    c.in_ok-atom_flags.ensures c.in_ok-variable_flags.ensures
