-- One rule judged, and the answers of the atoms in its conditions.
use Rattle.std.specs.Prelude.{◌≡◌, ◌<◌, ◌≤◌, ◌+◌, ◌&&◌, not, ℕ, Bool, true, false, List, [], ◌∷◌, ◌++◌, Option, None, Some, slice_get, length, take}
use Rattle.std.specs.List.{AllZip, list_any}
use Rattle.syntax_tree.specs.declared.term.Term.{Term}
use Rattle.syntax_tree.specs.declared.rule.Rule.{Rule}
use Rattle.syntax_tree.specs.declared.statement.Statement.{Statement}
use Rattle.ground_model.specs.Members.{IsMember}
use Rattle.definite_rules.specs.Least.{flag_at}
use Rattle.rewriting.specs.declared.sight.Sight.{Sight}
use Rattle.rewriting.specs.Rewritten.{rewritten}
use Rattle.rewriting.specs.Order.{order_of, sights_of, is_interval_sight}
use Rattle.program_meaning.specs.Read.{ReadRule}
use Rattle.program_meaning.specs.Predicates.{HasDomainConditions}
use Rattle.predicate_order.specs.declared.predicate.Predicate.{Predicate}
use Rattle.predicate_order.specs.Ways.{NamedWay}
use Rattle.predicate_order.specs.Judged.{Judges, Tells}
use Rattle.safety_meaning.specs.Program.{written_rules, rules_of}
use Rattle.safety_meaning.specs.Failures as meant
use Rattle.safety.specs.declared.failure.Failure.{Failure}
use Rattle.safety.specs.declared.failure.Step.{Step}
use Rattle.safety.specs.declared.failure.Step.TheVariants.{Next, Failed}
use Rattle.safety.specs.Judgement.{said}

-- the answers of these atoms came behind those before them
abbrev pub AddsAnswers : List Predicate → List Bool → List Term → List Bool → List Bool → Type 0
AddsAnswers keys flags atoms old new =
    (named : List NamedWay) → Judges keys flags named → (before : List Term) → AllZip (Tells named) before old → AllZip (Tells named) (before ++ atoms) new

-- the written rule that these come from
pub record ComesFrom (rule : Rule) (order : List ℕ) (sights : List Sight) (old : Rule) : Type 0 where
  pub is : rule ≡ rewritten old
  pub ordered : order ≡ order_of old
  pub seen : sights ≡ sights_of old

-- the rule is fine, or fails by this
abbrev pub IsVerdict : List ReadRule → Rule → Option Failure → Type 0
IsVerdict rules old None = meant.IsFine rules old
IsVerdict rules old (Some failure) = meant.FailsBy rules old (said failure)

-- the first that passes a test, by its place
pub record IsFirstPassing {X : Type 0} (test : X → Bool) (xs : List X) (place : ℕ) : Type 0 where
  pub one : X
  pub here : slice_get xs place ≡ Some one
  pub passes : test one ≡ true
  pub before : (other : ℕ) (x : X) → other < place → slice_get xs other ≡ Some x → test x ≡ false

abbrev pub IsFirst : {X : Type 0} → (X → Bool) → List X → Option ℕ → Type 0
IsFirst {X} test xs None = (place : ℕ) (x : X) → slice_get xs place ≡ Some x → test x ≡ false
IsFirst test xs (Some place) = IsFirstPassing test xs place

-- a variable that has its flag and was not made for an interval
abbrev pub is_told : List Bool → List Sight → ℕ → Bool
is_told flags sights n = flag_at flags n && not (list_any (is_interval_sight n) sights)

-- the first unsafe variable, or that there is none
abbrev pub IsUnsafeAnswer : Rule → Option ℕ → Type 0
IsUnsafeAnswer old None = meant.HasNoUnsafe old
IsUnsafeAnswer old (Some place) = meant.IsFirstUnsafe old place

-- the same head and body
pub record IsTwin (one other : ReadRule) : Type 0 where
  pub head : one.head ≡ other.head
  pub body : one.body ≡ other.body

-- the first atom of no domain predicate, or that there is none
abbrev pub IsDomainAnswer : List ReadRule → ReadRule → Option ℕ → Type 0
IsDomainAnswer rules rule None = HasDomainConditions rules rule
IsDomainAnswer rules rule (Some place) = meant.IsFirstNoDomain rules rule place

-- one statement judged: the next place, or the failure at this place
abbrev pub IsStep : List ReadRule → ℕ → List Rule → Step → Type 0
IsStep rules place [] (Next n) = n ≡ place
IsStep rules place [] (Failed found) = ⊥
IsStep rules place (rule ∷ rest) (Next n) = (n ≡ place + 1) × meant.IsFine rules rule
IsStep rules place (rule ∷ rest) (Failed found) = (found.rule ≡ place) × meant.FailsBy rules rule (said found.failure)

-- the next place is no more than one behind
abbrev pub IsNextWithin : ℕ → Step → Type 0
IsNextWithin place (Next n) = n ≤ place + 1
IsNextWithin place (Failed found) = Unit {0}

-- the rules of the first statements are so many, and fine
pub record AreFineBefore (all : List Statement) (index place : ℕ) : Type 0 where
  pub count : place ≡ length (written_rules (take index all))
  pub each : (rule : Rule) → IsMember (written_rules (take index all)) rule → meant.IsFine (rules_of all) rule
