-- Texts in which every rule is fine, and those that are refused.
use Rattle.std.specs.Prelude.{◌⊎◌, ℕ, List, IsTrue}
use Rattle.syntax_tree.specs.declared.statement.Program.{Program}
use Rattle.syntax_tree.specs.Statements.{is_program}
use Rattle.rewriting.specs.declared.program.RewrittenProgram.{RewrittenProgram}
use Rattle.safety_meaning.specs.Failures.{AreFine}
use Rattle.inputs.specs.Texts.{AreRefused}
use Rattle.load_meaning.specs.Load.{IsFailing}
use Rattle.refusals.specs.Sites.{AreRewritten}
use Rattle.fine_texts.specs.declared.fine.TextStop.{TextStop}
use Rattle.fine_texts.specs.declared.fine.TextStop.TheVariants as stop

-- the program is that of the texts, rewritten, and all of its rules are fine
pub record AreFineTexts (texts : List (List ℕ)) (program : RewrittenProgram) : Type 0 where
  pub old : Program
  pub are : AreRewritten texts program old
  pub tree : IsTrue (is_program old)
  pub fine : AreFine old.statements

-- the line of a text, a constant or a rule that is refused
abbrev pub IsTextStop : List (List ℕ) → List (List ℕ) → TextStop → Type 0
IsTextStop names texts (stop.Refused line) = AreRefused names texts line ⊎ IsFailing names texts line
IsTextStop names texts stop.Memory = Unit {0}
