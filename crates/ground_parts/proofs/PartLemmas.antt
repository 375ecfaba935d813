-- What parts that make a program meet.
use Rattle.std.proofs.Common.{◌≡◌, ◌<◌, ◌^◌, ℕ, ◌==◌, nat_lt, true, ◌&&◌, length, IsTrue, eqb-true, arith}
use Rattle.std.proofs.lemmas.Bool.Decides.{nat_tests}
use Rattle.ground_model.specs.Sound.{are_known, are_sound_rules, is_sound_objective}
use Rattle.ground_model.proofs.Bools.{and_elim}
use Rattle.ground_parts.specs.declared.parts.GroundParts.{GroundParts}
use Rattle.ground_parts.specs.Parts.{has_sound_names, make_a_program}

pub record Meets (parts : GroundParts) : Type 0 where
  pub few_atoms : length parts.atoms < 2 ^ 32
  pub few_variables : length parts.variables < 2 ^ 32
  pub known_atoms : IsTrue (are_known (length parts.symbols) parts.atoms)
  pub known_variables : IsTrue (are_known (length parts.symbols) parts.variables)
  pub sound_rules : IsTrue (are_sound_rules (length parts.symbols) (length parts.atoms) (length parts.variables) parts.ends parts.rules)
  pub sound_objective : IsTrue (is_sound_objective (length parts.symbols) (length parts.variables) parts.smaller parts.larger)
  pub atom_flags : length parts.shown_atoms ≡ length parts.atoms
  pub variable_flags : length parts.shown_variables ≡ length parts.variables

below : (n : ℕ) → nat_lt n (2 ^ 32) ≡ true → n < 2 ^ 32
below n e = grind (arith, nat_tests)

pub meets : (parts : GroundParts) → make_a_program parts ≡ true → Meets parts
meets parts e =
    let p = and_elim (has_sound_names parts && are_sound_rules (length parts.symbols) (length parts.atoms) (length parts.variables) parts.ends parts.rules)
    (is_sound_objective (length parts.symbols) (length parts.variables) parts.smaller parts.larger) e in
    let q = and_elim (has_sound_names parts) (are_sound_rules (length parts.symbols) (length parts.atoms) (length parts.variables) parts.ends parts.rules) p.0 in
    let few_atoms = nat_lt (length parts.atoms) (2 ^ 32) in
    let few_variables = nat_lt (length parts.variables) (2 ^ 32) in
    let known_atoms = are_known (length parts.symbols) parts.atoms in
    let known_variables = are_known (length parts.symbols) parts.variables in
    let atom_flags = length parts.shown_atoms == length parts.atoms in
    let variable_flags = length parts.shown_variables == length parts.variables in
    let a = and_elim (few_atoms && few_variables && known_atoms && known_variables && atom_flags) variable_flags q.0 in
    let b = and_elim (few_atoms && few_variables && known_atoms && known_variables) atom_flags a.0 in
    let d = and_elim (few_atoms && few_variables && known_atoms) known_variables b.0 in
    let f = and_elim (few_atoms && few_variables) known_atoms d.0 in
    let g = and_elim few_atoms few_variables f.0 in
    record {
      few_atoms = below (length parts.atoms) g.0;
      few_variables = below (length parts.variables) g.1;
      known_atoms = f.1;
      known_variables = d.1;
      sound_rules = q.1;
      sound_objective = p.1;
      atom_flags = eqb-true (length parts.shown_atoms) (length parts.atoms) b.1;
      variable_flags = eqb-true (length parts.shown_variables) (length parts.variables) a.1;
    }
