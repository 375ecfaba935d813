-- What is found to be the first rule of a text that may not be grounded.
use Rattle.std.specs.Prelude.{List, Option, None, Some}
use Rattle.syntax_tree.specs.declared.statement.Statement.{Statement}
use Rattle.safety_meaning.specs.Failures as meant
use Rattle.safety.specs.declared.failure.Failure.{Failure}
use Rattle.safety.specs.declared.failure.Failure.TheVariants.{UnsafeVariable, NoDomainAtom, RecursiveRule}
use Rattle.safety.specs.declared.failure.FirstFailure.{FirstFailure}

-- the failure as the meaning has it
abbrev pub said : Failure → meant.Failure
said (UnsafeVariable place) = meant.UnsafeVariable place
said (NoDomainAtom place) = meant.NoDomainAtom place
said RecursiveRule = meant.RecursiveRule

-- every rule is fine, or this is the first that is not, and what it fails by
abbrev pub IsJudgement : List Statement → Option FirstFailure → Type 0
IsJudgement statements None = meant.AreFine statements
IsJudgement statements (Some found) = meant.IsFirstFailure statements found.rule (said found.failure)
