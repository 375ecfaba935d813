-- What follows from the definitions.
use Rattle.std.specs.Prelude.{◌≡◌, ℕ, ℤ, List, map}
use Rattle.std.specs.List.{AllZip}
use Rattle.symbols.specs.Symbol.{Symbol}
use Rattle.symbols.specs.declared.ends.Ends.{Ends}
use Rattle.syntax_tree.specs.declared.statement.Statement.{Statement}
use Rattle.rewriting.specs.Rewritten.{rewritten_statement}
use Rattle.rewriting.specs.Order.{order_of_statement}
use Rattle.program_meaning.specs.Read.{PlainLiteral, ReadLiteral, ReadRule, ReadShow, program_read}
use Rattle.safety_meaning.specs.Program.{program_of}
use Rattle.safety_meaning.specs.Failures.{Failure, IsFirstFailure, AreFine}
use Rattle.program_meaning.specs.Substitution.{Key}
use Rattle.program_meaning.specs.Instance.{IsPossible, IsRelevant}
use Rattle.program_meaning.specs.Count.{ExceedsLimit}
use Rattle.program_meaning.specs.Outside.{Cause, IsFirstOutside, IsWithinLimits}
use Rattle.program_meaning.specs.Canonical.{IsVariable, GroundView, IsCanonical}
use Rattle.program_meaning.specs.Models.{IsObjective}
use Rattle.safety_meaning.specs.Ordered.{IsOrderedBody, IsOrderedCondition, IsOrderedRule}
use Rattle.safety_meaning.specs.Reordered.{IsReordered}

-- the program that statements stand for is that of the statements rewritten, with their orders
abbrev pub ReadLaw : Type 0
ReadLaw = (statements : List Statement) → program_read (map rewritten_statement statements) (map order_of_statement statements) ≡ program_of statements

-- statements have one first failure at most
abbrev pub OneFailureLaw : Type 0
OneFailureLaw =
    (statements : List Statement) (place other : ℕ) (failure another : Failure) → IsFirstFailure statements place failure → IsFirstFailure statements other another
    → (place ≡ other) × (failure ≡ another)

-- and none where every rule is fine
abbrev pub FineLaw : Type 0
FineLaw = (statements : List Statement) (place : ℕ) (failure : Failure) → IsFirstFailure statements place failure → AreFine statements → ⊥

-- a body has one order at most
abbrev pub OneBodyLaw : Type 0
OneBodyLaw = (body one other : List ReadLiteral) → IsOrderedBody body one → IsOrderedBody body other → one ≡ other

-- and so has a condition
abbrev pub OneConditionLaw : Type 0
OneConditionLaw =
    (rule : ReadRule) (condition one other : List PlainLiteral) → IsOrderedCondition rule condition one → IsOrderedCondition rule condition other → one ≡ other

-- rules in another order of their bodies and conditions have the same possible atoms
abbrev pub PossibleLaw : Type 0
PossibleLaw =
    (rules others : List ReadRule) → AllZip IsReordered rules others → (a : Symbol) → (IsPossible rules a → IsPossible others a) × (IsPossible others a → IsPossible rules a)

-- and the same relevant instances
abbrev pub RelevantLaw : Type 0
RelevantLaw =
    (rules others : List ReadRule) → AllZip IsReordered rules others → (key : Key) → (IsRelevant rules key → IsRelevant others key) × (IsRelevant others key → IsRelevant rules key)

-- and ground counts that exceed the same limits
abbrev pub CountLaw : Type 0
CountLaw =
    (rules others : List ReadRule) → AllZip IsReordered rules others → (limit : ℕ) → (ExceedsLimit rules limit → ExceedsLimit others limit) × (ExceedsLimit others limit → ExceedsLimit rules limit)

-- and the same first instance that is outside, by the same cause
abbrev pub OutsideLaw : Type 0
OutsideLaw =
    (rules others : List ReadRule) → AllZip IsReordered rules others → (ends : Ends) (key : Key) (cause : Cause)
    → (IsFirstOutside rules ends key cause → IsFirstOutside others ends key cause) × (IsFirstOutside others ends key cause → IsFirstOutside rules ends key cause)

-- and the same integer variables
abbrev pub VariableLaw : Type 0
VariableLaw =
    (rules others : List ReadRule) → AllZip IsReordered rules others → (x : Symbol) → (IsVariable rules x → IsVariable others x) × (IsVariable others x → IsVariable rules x)

-- and the same objective under values of these
abbrev pub ObjectiveLaw : Type 0
ObjectiveLaw =
    (rules others : List ReadRule) → AllZip IsReordered rules others → (values : Symbol → ℤ) (objective : ℤ)
    → (IsObjective rules values objective → IsObjective others values objective) × (IsObjective others values objective → IsObjective rules values objective)

-- and they are within the same limits
abbrev pub LimitsLaw : Type 0
LimitsLaw =
    (rules others : List ReadRule) → AllZip IsReordered rules others → (ends : Ends) (limit : ℕ)
    → (IsWithinLimits rules ends limit → IsWithinLimits others ends limit) × (IsWithinLimits others ends limit → IsWithinLimits rules ends limit)

-- a rule with its body and its conditions in order is one that differs in their order alone
abbrev pub OrderedLaw : Type 0
OrderedLaw = (rule ordered : ReadRule) → IsOrderedRule rule ordered → IsReordered rule ordered

-- rules in another order of their bodies and conditions have the same canonical ground program: so a text has one, whatever order its
-- bodies are put in
abbrev pub GroundsLaw : Type 0
GroundsLaw =
    (rules others : List ReadRule) → AllZip IsReordered rules others → (shows : List ReadShow) (view : GroundView)
    → (IsCanonical (record { rules = rules; shows = shows }) view → IsCanonical (record { rules = others; shows = shows }) view)
    × (IsCanonical (record { rules = others; shows = shows }) view → IsCanonical (record { rules = rules; shows = shows }) view)
