-- What lines say: an answer, a reason, a chain of resolutions.
use Rattle.std.specs.Prelude.{ℕ, Bool, true, ℤ, int_lt, List, [], ◌∷◌, ◌++◌, map, length, Option, None, Some}
use Rattle.std.specs.List.{flat_map, range_with_len}
use Rattle.literals.specs.declared.lit.Lit.{Lit}
use Rattle.literals.specs.declared.lit.Lit.TheVariants.{Atom, AtMost, AtLeast}
use Rattle.literals.specs.declared.reason.Step.{Step}
use Rattle.literals.specs.declared.reason.Step.TheVariants as step
use Rattle.literals.specs.Nogoods.{chain}
use Rattle.ground_model.specs.declared.answer.Answer.{Answer}
use Rattle.ground_model.specs.declared.program.GroundProgram.{GroundProgram}
use Rattle.ground_model.specs.Answers.{value_at, has_atom}
use Rattle.derivation.specs.declared.line.Line.{Line}
use Rattle.derivation.specs.declared.line.Line.TheVariants as line
use Rattle.derivation_meaning.specs.State.{State, live_nogood}

-- ANSWERS

-- the answer of a line's atoms and values
abbrev pub answer_of : List ℕ → List (ℕ × ℤ) → Answer
answer_of atoms values = record { atoms = atoms; values = map (λ value. value.1) values }

-- all variables of the program, in order
abbrev pub all_variables : GroundProgram → List ℕ
all_variables program = range_with_len 1 (length program.variables)

-- the bounds between which the variable has its value alone
abbrev pub value_lits : Answer → ℕ → List Lit
value_lits answer x = AtMost x (value_at answer.values x) ∷ AtLeast x (value_at answer.values x) ∷ []

-- the nogood that an answer leaves: what is true in it, for every atom and every variable
abbrev pub answer_nogood : GroundProgram → Answer → List Lit
answer_nogood program answer =
    map (λ a. Atom a (has_atom answer.atoms a)) (range_with_len 1 (length program.atoms)) ++ flat_map (value_lits answer) (all_variables program)

-- a cost is smaller than another
abbrev pub is_cheaper : ℤ → ℤ → Bool
is_cheaper cost other = int_lt cost other

-- a cost is smaller than the last one, where there was one
abbrev pub improves : Option ℤ → ℤ → Bool
improves None cost = true
improves (Some last) cost = is_cheaper cost last

-- REASONS

-- a literal list with the rule by which it is a nogood
pub record Shown : Type 0 where
  pub step : Step
  pub lits : List Lit

-- the reason that a line tells, if it is an `s`, `d`, `g`, `u` or `w` line
abbrev pub reason_of : Line → Option Shown
reason_of (line.Sum c lits) = Some (record { step = step.Sum c; lits = lits })
reason_of (line.Distinct c a b lits) = Some (record { step = step.Distinct c a b; lits = lits })
reason_of (line.Window c a b lits) = Some (record { step = step.Window c a b; lits = lits })
reason_of (line.Pair c i j lits) = Some (record { step = step.Pair c i j; lits = lits })
reason_of (line.Loop atoms lits) = Some (record { step = step.Loop atoms; lits = lits })
reason_of (line.Hole c lits) = Some (record { step = step.Hole c; lits = lits })
reason_of other = None

-- CHAINS

-- the nogood so far, resolved at each pivot with the nogood of the id beside it
abbrev pub chained : State → Option (List Lit) → List (Lit × ℕ) → Option (List Lit)
chained state so_far links = chain (live_nogood state) so_far links
