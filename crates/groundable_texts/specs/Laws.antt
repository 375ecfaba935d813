-- What follows for the program of texts.
use Rattle.std.specs.Prelude.{◌≡◌, ℕ, true, List}
use Rattle.std.specs.List.{AllByRecursion, AllZip}
use Rattle.syntax_tree.specs.declared.statement.Program.{Program}
use Rattle.syntax_tree.specs.Statements.{is_program}
use Rattle.inputs.specs.Texts.{IsProgram}
use Rattle.rewriting.specs.declared.program.RewrittenProgram.{RewrittenProgram}
use Rattle.rewriting.specs.Rewriting.{IsRewriting}
use Rattle.safety_meaning.specs.Program.{rules_of}
use Rattle.safety_meaning.specs.Failures.{AreFine}
use Rattle.groundable_rules.specs.Groundable.{IsGroundable}
use Rattle.groundable_texts.specs.Statements.{IsGroundableStatement}

-- each rule of the texts' program can be grounded, where every rule is fine
abbrev pub RulesLaw : Type 0
RulesLaw =
    (texts : List (List ℕ)) (program : Program) → IsProgram texts program → is_program program ≡ true → AreFine program.statements
    → AllByRecursion IsGroundable (rules_of program.statements)

-- so can each rule of the program as it is rewritten, with its variables in their order, and it is a tree
abbrev pub StatementsLaw : Type 0
StatementsLaw =
    (texts : List (List ℕ)) (program : Program) (made : RewrittenProgram) → IsProgram texts program → is_program program ≡ true → AreFine program.statements → IsRewriting program made
    → AllZip IsGroundableStatement made.program.statements made.orders
