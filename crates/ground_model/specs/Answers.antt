-- The constraint stable models of a program.
use Rattle.std.specs.Prelude.{◌≡◌, ℕ, ◌-◌, ◌<◌, ◌≤◌, ◌==◌, nat_lt, Bool, true, ◌&&◌, ℤ, pos, ◌≤ℤ◌, List, [], ◌∷◌, map, length, slice_index_or}
use Rattle.std.specs.List.{AllByRecursion, list_any}
use Rattle.symbols.specs.declared.ends.Ends.{Ends}
use Rattle.ground_model.specs.declared.answer.Answer.{Answer}
use Rattle.ground_model.specs.declared.program.GroundProgram.{GroundProgram}
use Rattle.ground_model.specs.Members.{IsMember}
use Rattle.ground_model.specs.Rule.{RuleOf}
use Rattle.ground_model.specs.Model.{IsModel}
use Rattle.ground_model.specs.View.{rule_of}

-- a rule of the program
abbrev pub IsRuleOf : GroundProgram → RuleOf ℕ ℕ → Type 0
IsRuleOf program rule = IsMember (map (rule_of program.symbols) program.rules) rule

-- each number is above all before it
abbrev pub ascend_from : ℕ → List ℕ → Bool
ascend_from last [] = true
ascend_from last (n ∷ rest) = nat_lt last n && ascend_from n rest

-- the value of a variable by its number, counted from 1
abbrev pub value_at : List ℤ → ℕ → ℤ
value_at values x = slice_index_or values (x - 1) (pos 0)

-- the list has the atom
abbrev pub has_atom : List ℕ → ℕ → Bool
has_atom atoms a = list_any (λ b. b == a) atoms

-- one of so many, counted from 1
pub record IsNumbered (count n : ℕ) : Type 0 where
  pub above : 0 < n
  pub known : n ≤ count

-- each of these is the number of an atom of the program
abbrev pub AreAtomsOf : GroundProgram → List ℕ → Type 0
AreAtomsOf program atoms = AllByRecursion (IsNumbered (length program.atoms)) atoms

-- the value lies within the ends
abbrev pub IsWithin : Ends → ℤ → Type 0
IsWithin ends value = (ends.min ≤ℤ value) × (value ≤ℤ ends.max)

-- each variable has one value within the ends, and there are no other values
pub record IsValuation (program : GroundProgram) (values : List ℤ) : Type 0 where
  pub each : length values ≡ length program.variables
  pub within : AllByRecursion (IsWithin program.ends) values

-- an answer is a constraint stable model: its atoms, ascending, are a stable model of the rules under its values, which are a valuation
pub record IsAnswerOf (program : GroundProgram) (answer : Answer) : Type 0 where
  pub ascending : ascend_from 0 answer.atoms ≡ true
  pub valuation : IsValuation program answer.values
  pub stable : IsModel (IsRuleOf program) (value_at answer.values) (has_atom answer.atoms)

-- an answer is the one constraint stable model: there is no other
pub record IsOnlyAnswer (program : GroundProgram) (answer : Answer) : Type 0 where
  pub one : IsAnswerOf program answer
  pub only : (other : Answer) → IsAnswerOf program other → other ≡ answer
