use Rattle.std.proofs.Common.{◌≡◌, ℕ, ◌<◌, ◌^◌, List, [], length, map, true, refl, subst, sym, ◌∙◌, ap, arith}
use Rattle.std.specs.Prelude.{IsTrue, replicate}
use Rattle.std.specs.List.{list_all}
use Rattle.std.proofs.lemmas.List.{length-replicate}
use Rattle.ground_model.specs.declared.linear.Place.{Place}
use Rattle.ground_model.specs.declared.rule.GroundRule.{GroundRule}
use Rattle.ground_model.specs.Sound.{are_known, are_sound_rules, is_sound_objective}
use Rattle.ground_model.specs.Definite.{is_definite_rule}
use Rattle.clingcon_app.specs.Numbering.{definite_rule}
use Rattle.clingcon_app.proofs.ProgramLemmas.{known_flags, sound_numbered, definite_numbered, same_rules, read_rules, atoms_occur, no_objective, definite_from}
use Rattle.clingcon_app.proofs.grounding.program_of.Goals as goal

pub invariant_of-result : goal.invariant_of-result
invariant_of-result c =
    let n = length c.args.symbols in
    let atoms = c.in_ok-atoms.field-0.atoms in
    let made = c.in_ok-atoms.ensures in
    let none : [] ≡ c.new.result = sym c.new.ensures in
    record {
      few_atoms = made.few;
      few_variables = subst (λ (l : List ℕ). length l < 2 ^ 32) none (omega arith);
      known_atoms = known_flags n atoms made.known;
      known_variables = subst (λ (l : List ℕ). IsTrue (are_known n l)) none refl;
      sound_rules =
          subst (λ (l : List ℕ). IsTrue (are_sound_rules n (length atoms) (length l) c.widest.result c.in_ok-atoms.field-0.rules)) none
          (subst (λ (rules : List GroundRule). IsTrue (are_sound_rules n (length atoms) 0 c.widest.result rules)) (sym made.made)
          (sound_numbered c.args.symbols atoms made.numbers c.widest.result c.args.statements.now made.numbered));
      sound_objective =
          subst (λ (l : List ℕ). IsTrue (is_sound_objective n (length l) c.new-2.result c.new-3.result)) none
          (subst (λ (places : List Place). IsTrue (is_sound_objective n 0 places c.new-3.result)) (sym c.new-2.ensures)
          (subst (λ (places : List Place). IsTrue (is_sound_objective n 0 [] places)) (sym c.new-3.ensures) (no_objective n)));
      atom_flags = ap length c.in_ok-shown_atoms.ensures ∙ length-replicate c.len.result true ∙ c.len.ensures;
      variable_flags = ap length c.new-4.ensures ∙ ap length none;
    }

pub returns-clause-says : goal.returns-clause-says
returns-clause-says c =
    let made = c.in_ok-atoms.ensures in
    record {
      numbered = map (definite_rule made.numbers) c.args.statements.now;
      rules = made.made ∙ same_rules made.numbers c.args.statements.now;
      read = read_rules c.args.symbols c.in_ok-atoms.field-0.atoms made.numbers c.args.statements.now made.numbered;
      ascend = made.ascend;
      atoms = atoms_occur c.args.symbols c.args.statements.now c.in_ok-atoms.field-0.atoms made.members;
      shown = c.in_ok-shown_atoms.ensures ∙ ap (λ k. replicate k true) c.len.ensures;
      variables = c.new.ensures;
      objective = refl;
    }

pub returns-clause-definite : goal.returns-clause-definite
returns-clause-definite c =
    let made = c.in_ok-atoms.ensures in
    definite_from c.in_ok-atoms.field-0.rules c.new.result
    (subst (λ (rules : List GroundRule). list_all is_definite_rule rules ≡ true) (sym made.made) (definite_numbered made.numbers c.args.statements.now))
    c.new.ensures
