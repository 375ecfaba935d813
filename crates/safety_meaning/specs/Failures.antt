-- The first rule of a text that may not be grounded, and why.
use Rattle.std.specs.Prelude.{◌≡◌, ◌<◌, ℕ, false, List, [], ◌∷◌, ◌++◌, Some, slice_get}
use Rattle.std.specs.List.{flat_map}
use Rattle.syntax_tree.specs.declared.term.Term.{Term}
use Rattle.syntax_tree.specs.declared.rule.Rule.{Rule}
use Rattle.syntax_tree.specs.declared.statement.Statement.{Statement}
use Rattle.ground_model.specs.Members.{IsMember}
use Rattle.rewriting.specs.Order.{order_of, is_interval_variable}
use Rattle.program_meaning.specs.Read.{PlainLiteral, PlainAtom, PlainCompare, ReadElement, ReadTheory, ReadRule}
use Rattle.program_meaning.specs.Tuples.{told_in, duty_in}
use Rattle.program_meaning.specs.Safety.{IsUnsafe}
use Rattle.program_meaning.specs.Predicates.{Predicate, predicate, IsDomain, HasDomainConditions, IsRecursive}
use Rattle.safety_meaning.specs.Program.{written_rules, rule_of, rules_of}

-- UNSAFE

-- no variable is unsafe; those made for intervals are passed over, since such a one is bound where its ends are
abbrev pub HasNoUnsafe : Rule → Type 0
HasNoUnsafe rule = (n : ℕ) → IsMember (order_of rule) n → is_interval_variable rule n ≡ false → IsUnsafe (rule_of rule) n → ⊥

-- the first variable that is unsafe, by its place in the rule's order, counted from 0
pub record IsFirstUnsafe (rule : Rule) (place : ℕ) : Type 0 where
  pub n : ℕ
  pub here : slice_get (order_of rule) place ≡ Some n
  pub own : is_interval_variable rule n ≡ false
  pub bad : IsUnsafe (rule_of rule) n
  pub first : (before m : ℕ) → before < place → slice_get (order_of rule) before ≡ Some m → is_interval_variable rule m ≡ false → IsUnsafe (rule_of rule) m → ⊥

-- NO DOMAIN PREDICATE

abbrev pub atom_of : PlainLiteral → List Term
atom_of (PlainAtom term sign) = term ∷ []
atom_of (PlainCompare left rel right) = []

abbrev pub atoms_of_element : ReadElement → List Term
atoms_of_element element = flat_map atom_of element.condition

abbrev pub atoms_of_theory : ReadTheory → List Term
atoms_of_theory theory = flat_map atoms_of_element theory.elements

-- the atoms in the conditions of a rule's theory atoms, in the order of the text
abbrev pub condition_atoms : ReadRule → List Term
condition_atoms rule = flat_map atoms_of_theory (duty_in rule.head ++ flat_map told_in rule.body)

-- the first of them that is of no domain predicate, by its place among them, counted from 0
pub record IsFirstNoDomain (rules : List ReadRule) (rule : ReadRule) (place : ℕ) : Type 0 where
  pub term : Term
  pub p : Predicate
  pub here : slice_get (condition_atoms rule) place ≡ Some term
  pub is : predicate term ≡ Some p
  pub none : IsDomain rules p → ⊥
  pub first : (before : ℕ) (other : Term) (q : Predicate) → before < place → slice_get (condition_atoms rule) before ≡ Some other → predicate other ≡ Some q → IsDomain rules q

-- RULES

-- the rule is fine: no variable is unsafe, the atoms in conditions of theory atoms are of domain predicates, and a recursive rule has no variable
pub record IsFine (rules : List ReadRule) (rule : Rule) : Type 0 where
  pub safe : HasNoUnsafe rule
  pub domain : HasDomainConditions rules (rule_of rule)
  pub stratified : IsRecursive rules (rule_of rule) → order_of rule ≡ []

-- what a rule fails by: a variable, an atom, or recursion
pub data Failure : Type 0 where
  UnsafeVariable : ℕ → Failure
  NoDomainAtom : ℕ → Failure
  RecursiveRule : Failure

-- the rule fails by this, and by nothing before it
abbrev pub FailsBy : List ReadRule → Rule → Failure → Type 0
FailsBy rules rule (UnsafeVariable place) = IsFirstUnsafe rule place
FailsBy rules rule (NoDomainAtom place) = HasNoUnsafe rule × IsFirstNoDomain rules (rule_of rule) place
FailsBy rules rule RecursiveRule =
    HasNoUnsafe rule × HasDomainConditions rules (rule_of rule) × IsRecursive rules (rule_of rule) × (order_of rule ≡ [] → ⊥)

-- the first rule of the statements that is not fine, by its place among the rules, counted from 0, and what it fails by
pub record IsFirstFailure (statements : List Statement) (place : ℕ) (failure : Failure) : Type 0 where
  pub rule : Rule
  pub here : slice_get (written_rules statements) place ≡ Some rule
  pub fails : FailsBy (rules_of statements) rule failure
  pub before : (other : ℕ) (earlier : Rule) → other < place → slice_get (written_rules statements) other ≡ Some earlier → IsFine (rules_of statements) earlier

-- every rule is fine
abbrev pub AreFine : List Statement → Type 0
AreFine statements = (rule : Rule) → IsMember (written_rules statements) rule → IsFine (rules_of statements) rule
