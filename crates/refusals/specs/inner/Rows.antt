-- What stands beside a rule of rewritten texts.
use Rattle.std.specs.Prelude.{◌≡◌, ◌<◌, ℕ, Bool, true, false, List, length, slice_get, Some}
use Rattle.syntax_tree.specs.declared.rule.Rule.{Rule}
use Rattle.syntax_tree.specs.declared.statement.Statement.{Statement}
use Rattle.syntax_tree.specs.declared.statement.Statement.TheVariants as statement
use Rattle.syntax_tree.specs.declared.statement.Program.{Program}
use Rattle.rewriting.specs.declared.program.RewrittenProgram.{RewrittenProgram}
use Rattle.rewriting.specs.Rewritten.{rewritten}
use Rattle.rewriting.specs.Order.{order_of, sights_of}
use Rattle.program_meaning.specs.Read.{ReadRule}
use Rattle.safety_meaning.specs.Failures.{FailsBy}
use Rattle.safety.specs.declared.failure.Failure.{Failure}
use Rattle.safety.specs.Judgement.{said}
use Rattle.load_meaning.specs.Lines.{StandsIn, IsFailureLine}
use Rattle.refusals.specs.declared.site.Site.{Site}

abbrev pub is_rule : Statement → Bool
is_rule (statement.Rule rule) = true
is_rule (statement.Constant name term place) = false
is_rule statement.ShowNothing = false
is_rule (statement.Show name arity) = false

-- the statement with this number is a rule, with all that belongs to it, of one of so many texts
pub record IsRow (count : ℕ) (program : RewrittenProgram) (at : ℕ) : Type 0 where
  pub rule : Rule
  pub here : slice_get program.program.statements at ≡ Some (statement.Rule rule)
  pub orders : at < length program.orders
  pub sights : at < length program.sights
  pub files : at < length program.program.files
  pub below : (file : ℕ) → slice_get program.program.files at ≡ Some file → file < count

-- the site has what belongs to the statement with this number
pub record IsSiteAt (names texts : List (List ℕ)) (program : RewrittenProgram) (at : ℕ) (site : Site) : Type 0 where
  pub rule : slice_get program.program.statements at ≡ Some (statement.Rule site.rule.now)
  pub order : slice_get program.orders at ≡ Some site.order.now
  pub sights : slice_get program.sights at ≡ Some site.sights.now
  pub file : ℕ
  pub in_file : slice_get program.program.files at ≡ Some file
  pub named : slice_get names file ≡ Some site.name.now
  pub bytes : slice_get texts file ≡ Some site.text.now

-- the site is that of a rule as it was written
pub record IsSiteOf (names texts : List (List ℕ)) (program : Program) (place : ℕ) (rule : Rule) (site : Site) : Type 0 where
  pub stands : StandsIn names texts program place rule site.name.now site.text.now
  pub read : site.rule.now ≡ rewritten rule
  pub order : site.order.now ≡ order_of rule
  pub sights : site.sights.now ≡ sights_of rule

-- the line of what the rule at a site fails by
abbrev pub IsLineOf : Site → Failure → List ℕ → Type 0
IsLineOf site failure printed =
    (names texts : List (List ℕ)) (program : Program) (place : ℕ) (rule : Rule) (rules : List ReadRule) → IsSiteOf names texts program place rule site
    → FailsBy rules rule (said failure) → IsFailureLine names texts program place (said failure) printed
