-- Rules of rewritten texts.
use Rattle.std.specs.Prelude.{◌≡◌, ℕ, List, slice_get, Some}
use Rattle.syntax_tree.specs.declared.rule.Rule.{Rule}
use Rattle.syntax_tree.specs.declared.statement.Program.{Program}
use Rattle.rewriting.specs.declared.program.RewrittenProgram.{RewrittenProgram}
use Rattle.rewriting.specs.Rewriting.{IsRewriting}
use Rattle.safety_meaning.specs.Program.{written_rules}
use Rattle.safety_meaning.specs.Failures.{IsFirstFailure}
use Rattle.safety.specs.declared.failure.FirstFailure.{FirstFailure}
use Rattle.safety.specs.Judgement.{said}
use Rattle.inputs.specs.Texts.{IsProgram}

-- these texts are rewritten to this program
pub record AreRewritten (texts : List (List ℕ)) (program : RewrittenProgram) (old : Program) : Type 0 where
  pub has : IsProgram texts old
  pub rewriting : IsRewriting old program

-- they have a rule with this number, from 0
pub record HasRule (texts : List (List ℕ)) (program : RewrittenProgram) (place : ℕ) : Type 0 where
  pub old : Program
  pub are : AreRewritten texts program old
  pub rule : Rule
  pub here : slice_get (written_rules old.statements) place ≡ Some rule

-- this is their first rule that is not fine, and what it fails by
abbrev pub IsFailure : List (List ℕ) → RewrittenProgram → FirstFailure → Type 0
IsFailure texts program found = (old : Program) × AreRewritten texts program old × IsFirstFailure old.statements found.rule (said found.failure)
