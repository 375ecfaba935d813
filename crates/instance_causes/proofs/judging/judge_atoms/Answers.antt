use Rattle.std.proofs.Common.{◌∙◌, length, map, sym, ap, subst}
use Rattle.std.specs.List.{AllZip}
use Rattle.ground_model.specs.Members.{IsMember}
use Rattle.program_meaning.specs.Said.{value_in}
use Rattle.program_meaning.specs.Tuples.{theories}
use Rattle.row_tests.specs.Judged.{atoms_in}
use Rattle.theory_plans.specs.Planned.{IsTheoryPlan}
use Rattle.collected_atoms.specs.Said.{IsAtomIn}
use Rattle.instance_causes.proofs.CauseLemmas.{same_length, is_inside, is_large, is_stop}
use Rattle.instance_causes.proofs.judging.judge_atoms.Goals as goal

pub has_large_atom-requires-clause-each : goal.has_large_atom-requires-clause-each
has_large_atom-requires-clause-each c =
    let of = c.requires.plans in
    let P = IsMember (atoms_in c.args.symbols.now c.args.index.now) in
    let values = map (value_in c.args.symbols.now) c.args.values.now in
    sym (same_length (IsTheoryPlan of.0) (theories of.0) c.args.plans.now of.1)
    ∙ same_length (IsAtomIn c.collect_atoms.new.symbols P of.0 values) (theories of.0) c.in-Ok.atoms (c.in-Ok.ensures.collected of.0 of.1 of.2) ∙ ap length (sym c.items.ensures)

pub returns-then-has_large_atom-clause-stop : goal.returns-then-has_large_atom-clause-stop
returns-then-has_large_atom-clause-stop c = λ rule plans each rules possible not_over.
    let atoms = atoms_in c.args.symbols.now c.args.index.now in
    let values = map (value_in c.args.symbols.now) c.args.values.now in
    let new = c.collect_atoms.new.symbols in
    let z = c.in-Ok.ensures.collected rule plans each in
    is_large rules atoms possible c.args.ends rule values new c.in-Ok.atoms not_over z
    (c.has_large_atom.ensures.large c.if-has_large_atom.true atoms rule values plans (subst (AllZip (IsAtomIn new (IsMember atoms) rule values) (theories rule)) (sym c.items.ensures) z))

pub returns-else-has_large_atom-clause-inside : goal.returns-else-has_large_atom-clause-inside
returns-else-has_large_atom-clause-inside c = λ rule plans each rules possible not_over.
    let atoms = atoms_in c.args.symbols.now c.args.index.now in
    let values = map (value_in c.args.symbols.now) c.args.values.now in
    let new = c.collect_atoms.new.symbols in
    let z = c.in-Ok.ensures.collected rule plans each in
    is_inside rules atoms possible c.args.ends rule values new c.in-Ok.atoms not_over z
    (c.has_large_atom.ensures.small c.if-has_large_atom.false atoms rule values plans (subst (AllZip (IsAtomIn new (IsMember atoms) rule values) (theories rule)) (sym c.items.ensures) z))

pub returns-in-Err-clause-stop : goal.returns-in-Err-clause-stop
returns-in-Err-clause-stop c = λ rule plans each rules possible not_over.
    is_stop rules (atoms_in c.args.symbols.now c.args.index.now) possible c.args.ends rule (map (value_in c.args.symbols.now) c.args.values.now) c.args.most c.in-Err.stop not_over
    (c.in-Err.ensures.stop rule plans each)
