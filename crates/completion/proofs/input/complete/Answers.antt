use Rattle.std.proofs.Common.{◌++◌, ap, map, length, flat_map}
use Rattle.std.specs.List.{range_with_len}
use Rattle.linear_normal.specs.declared.numbered.Numbered.{Numbered}
use Rattle.linear_normal.specs.Bodies.{placed}
use Rattle.linear_normal.specs.Numbering.{contents_in}
use Rattle.completion.specs.Inputs.{rule_nogoods, constraints_nogoods, atom_nogood}
use Rattle.completion.proofs.RuleLemmas.{known_constraints, known_supports}
use Rattle.completion.proofs.input.complete.Goals as goal

pub add_constraints-requires-clause-constraints : goal.add_constraints-requires-clause-constraints
add_constraints-requires-clause-constraints c = rw c.items.ensures (known_constraints c.args.ground.now c.args.numbered.now c.requires.numbered)

pub add_atoms-requires-clause-supports : goal.add_atoms-requires-clause-supports
add_atoms-requires-clause-supports c = rw (c.items-2.ensures, c.len.ensures) (known_supports c.args.ground.now c.args.numbered.now c.requires.numbered)

pub returns : goal.returns
returns c =
    rw (c.in_ok-add_atoms.ensures, c.in_ok-add_constraints.ensures, c.in_ok-add_rules.ensures, c.new-nogoods.ensures, c.items.ensures, c.items-2.ensures, c.len.ensures)
    (ap (λ (n : Numbered). (flat_map (rule_nogoods (contents_in c.args.ground.now) (length c.args.ground.now.atoms) (length c.args.ground.now.variables)) (placed 1 c.args.ground.now.rules)
    ++ constraints_nogoods 1 n.constraints) ++ map (atom_nogood n.supports) (range_with_len 1 (length c.args.ground.now.atoms))) c.requires.numbered)
