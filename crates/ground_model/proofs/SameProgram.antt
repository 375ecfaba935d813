-- Programs with the same fields are the same.
use Rattle.std.proofs.Common.{◌≡◌, ◌<◌, ◌^◌, ℕ, Bool, List, length, IsTrue}
use Rattle.std.proofs.Props.{props}
use mathlib.Core.HLevel.{is_prop→PathP}
use Rattle.ground_model.specs.declared.program.GroundProgram.{GroundProgram}
use Rattle.ground_model.specs.Sound.{are_known, are_sound_rules, is_sound_objective}

pub same_program : (a b : GroundProgram) → a.ends ≡ b.ends → a.atoms ≡ b.atoms → a.variables ≡ b.variables → a.rules ≡ b.rules
    → a.has_objective ≡ b.has_objective → a.smaller ≡ b.smaller → a.larger ≡ b.larger → a.shown_atoms ≡ b.shown_atoms
    → a.shown_variables ≡ b.shown_variables → a.symbols ≡ b.symbols → a ≡ b
same_program a b ends atoms variables rules has smaller larger shown_atoms shown_variables symbols = λ i. record {
  ends = ends i;
  atoms = atoms i;
  variables = variables i;
  rules = rules i;
  has_objective = has i;
  smaller = smaller i;
  larger = larger i;
  shown_atoms = shown_atoms i;
  shown_variables = shown_variables i;
  symbols = symbols i;
  few_atoms = is_prop→PathP (λ j. length (atoms j) < 2 ^ 32) (λ j. few (atoms j)) a.few_atoms b.few_atoms i;
  few_variables = is_prop→PathP (λ j. length (variables j) < 2 ^ 32) (λ j. few (variables j)) a.few_variables b.few_variables i;
  known_atoms = is_prop→PathP (λ j. IsTrue (are_known (length (symbols j)) (atoms j))) (λ j. truth (are_known (length (symbols j)) (atoms j))) a.known_atoms b.known_atoms i;
  known_variables = is_prop→PathP (λ j. IsTrue (are_known (length (symbols j)) (variables j))) (λ j. truth (are_known (length (symbols j)) (variables j))) a.known_variables b.known_variables i;
  sound_rules = is_prop→PathP (λ j. IsTrue (are_sound_rules (length (symbols j)) (length (atoms j)) (length (variables j)) (ends j) (rules j))) (λ j. truth (are_sound_rules (length (symbols j)) (length (atoms j)) (length (variables j)) (ends j) (rules j))) a.sound_rules b.sound_rules i;
  sound_objective = is_prop→PathP (λ j. IsTrue (is_sound_objective (length (symbols j)) (length (variables j)) (smaller j) (larger j))) (λ j. truth (is_sound_objective (length (symbols j)) (length (variables j)) (smaller j) (larger j))) a.sound_objective b.sound_objective i;
  atom_flags = is_prop→PathP (λ j. length (shown_atoms j) ≡ length (atoms j)) (λ j. same (length (shown_atoms j)) (length (atoms j))) a.atom_flags b.atom_flags i;
  variable_flags = is_prop→PathP (λ j. length (shown_variables j) ≡ length (variables j)) (λ j. same (length (shown_variables j)) (length (variables j))) a.variable_flags b.variable_flags i;
}
  where
    few : (xs : List ℕ) → IsProp (length xs < 2 ^ 32)
    few xs = hlevel props

    truth : (test : Bool) → IsProp (IsTrue test)
    truth test = hlevel props

    same : (m n : ℕ) → IsProp (m ≡ n)
    same m n = hlevel props
