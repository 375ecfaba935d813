use Rattle.std.proofs.Common.{sym, ◌∙◌}
use Rattle.ground_parts.proofs.PartLemmas.{meets}
use Rattle.ground_parts.proofs.parts.GroundParts.checked.Goals as goal

pub invariant_of-result : goal.invariant_of-result
invariant_of-result c =
    let m = meets c.args.self (sym c.in_ok-make_a_program.ensures ∙ c.if-not-branch.false) in
    record {
      few_atoms = m.few_atoms;
      few_variables = m.few_variables;
      known_atoms = m.known_atoms;
      known_variables = m.known_variables;
      sound_rules = m.sound_rules;
      sound_objective = m.sound_objective;
      atom_flags = m.atom_flags;
      variable_flags = m.variable_flags;
    }
