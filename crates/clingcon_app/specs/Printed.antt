-- What is printed for texts.
use Rattle.std.specs.Prelude.{◌≡◌, ℕ, List, [], ◌∷◌, codes}
use Rattle.syntax_tree.specs.declared.statement.Program.{Program}
use Rattle.first_form.specs.Form.{SymbolRule, States}
use Rattle.ground_model.specs.declared.answer.Answer.{Answer}
use Rattle.ground_model.specs.declared.program.GroundProgram.{GroundProgram}
use Rattle.ground_model.specs.Answers.{IsOnlyAnswer}
use Rattle.ground_model.specs.Printed.{ending_line, run_text, Satisfiable}
use Rattle.clingcon_app.specs.Program.{IsProgramOf}
use Rattle.clingcon_app.specs.Texts.{IsProgram}

-- the statements' program has one constraint stable model, and the run that prints it is printed
pub record PrintsAnswer (stated : List SymbolRule) (printed : List ℕ) : Type 0 where
  pub program : GroundProgram
  pub says : IsProgramOf stated program
  pub answer : Answer
  pub only : IsOnlyAnswer program answer
  pub text : printed ≡ run_text program (answer ∷ []) Satisfiable

-- the texts have a program, all of it is of the first form, and its one answer is printed
pub record PrintTexts (texts : List (List ℕ)) (printed : List ℕ) : Type 0 where
  pub program : Program
  pub has : IsProgram texts program
  pub stated : List SymbolRule
  pub states : States program.statements stated
  pub prints : PrintsAnswer stated printed

-- the texts have a program of the first form, which states rules
pub record AreOfForm (texts : List (List ℕ)) : Type 0 where
  pub program : Program
  pub has : IsProgram texts program
  pub stated : List SymbolRule
  pub states : States program.statements stated

-- the texts have a program that is not of the first form
pub record AreOther (texts : List (List ℕ)) : Type 0 where
  pub program : Program
  pub has : IsProgram texts program
  pub other : (stated : List SymbolRule) → States program.statements stated → ⊥

-- the ending's line
abbrev pub satisfiable : List ℕ
satisfiable = ending_line Satisfiable

-- the line of a refusal of what is not built
abbrev pub not_built : List ℕ
not_built = codes "error: not built\n"
