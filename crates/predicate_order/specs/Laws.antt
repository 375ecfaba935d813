-- What the ways of rules mean.
use Rattle.std.specs.Prelude.{◌↔◌, ℕ, List}
use Rattle.program_meaning.specs.Read.{ReadRule}
use Rattle.program_meaning.specs.Predicates as meant
use Rattle.predicate_order.specs.declared.predicate.Predicate.{Predicate}
use Rattle.predicate_order.specs.Ways.{said, ReachedIn, step_reads, blocking_ways, step_ways}
use Rattle.predicate_order.specs.Judged.{AnyTurns}

-- what is reached by what blocks is what is found to be no domain predicate, at the same rank
abbrev pub BlockedLaw : Type 0
BlockedLaw = (rules : List ReadRule) (rank : ℕ) (p : Predicate) → ReachedIn (blocking_ways rules) rank p ↔ meant.BlockedAt rules rank (said p)

-- a rule turns in the steps of all rules exactly where it is recursive
abbrev pub RecursiveLaw : Type 0
RecursiveLaw = (rules : List ReadRule) (rule : ReadRule) → AnyTurns (step_ways rules) (step_reads rule) ↔ meant.IsRecursive rules rule
