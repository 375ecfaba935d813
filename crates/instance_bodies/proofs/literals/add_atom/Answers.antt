use Rattle.std.proofs.Common.{◌≡◌, ◌++◌, OnOk, map, subst}
use Rattle.program_meaning.specs.Ground.{atom_as}
use Rattle.symbol_rules.specs.Reading.{literal_in}
use Rattle.instance_bodies.proofs.AddLemmas.{literals-front}
use Rattle.instance_bodies.proofs.literals.add_atom.Goals as goal

pub returns-in-Ok-clause-adds : goal.returns-in-Ok-clause-adds
returns-in-Ok-clause-adds c =
    let front = literals-front c.args.symbols.now c.evaluate.new.symbols c.args.found.now c.in-Ok.ensures.kept c.requires.found in
    subst (λ xs. OnOk c.add_outcome.result (map (literal_in c.evaluate.new.symbols) c.add_outcome.new.found ≡ xs))
    (λ i. front i ++ atom_as (c.in-Ok.ensures.value i) c.args.sign) c.add_outcome.ensures.adds
