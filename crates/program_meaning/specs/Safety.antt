-- Safe rules.
use Rattle.std.specs.Prelude.{◌≡◌, ◌⊎◌, ℕ, zero, suc, true, false, List, [], ◌∷◌, Some}
use Rattle.std.specs.List.{AllByRecursion}
use Rattle.symbols.specs.declared.rel.Rel.TheVariants.{Equal}
use Rattle.syntax_tree.specs.declared.term.Term.{Term}
use Rattle.ground_model.specs.Members.{IsMember}
use Rattle.program_meaning.specs.Read.{PlainLiteral, PlainAtom, PlainCompare, ReadElement, ReadTheory, ReadChoice, ReadRule, plains}
use Rattle.program_meaning.specs.Variables.{occurs, occurs_outside, plain_variable, is_global, globals, element_locals, choice_locals}
use Rattle.program_meaning.specs.Tuples.{theories}
use Rattle.program_meaning.specs.Count.{choices_in}

-- each variable of the term has the property
abbrev pub AllIn : (ℕ → Type 0) → Term → Type 0
AllIn P term = (n : ℕ) → occurs n term ≡ true → P n

-- a literal binds a variable: a positive atom in which it occurs outside arithmetic, or a comparison by `=` of which it is one side
-- and whose other side has bound variables alone
abbrev pub Binds : (ℕ → Type 0) → PlainLiteral → ℕ → Type 0
Binds P (PlainAtom term true) n = occurs_outside n term ≡ true
Binds P (PlainAtom term false) n = ⊥
Binds P (PlainCompare left rel right) n =
    (rel ≡ Equal) × (((plain_variable left ≡ Some n) × AllIn P right) ⊎ ((plain_variable right ≡ Some n) × AllIn P left))

-- a variable is bound at a rank where it is given, or some literal binds it from variables that are bound at the rank below
abbrev pub BoundAt : (ℕ → Type 0) → List PlainLiteral → ℕ → ℕ → Type 0
BoundAt Given literals zero n = Given n
BoundAt Given literals (suc rank) n = Given n ⊎ ((literal : PlainLiteral) × IsMember literals literal × Binds (BoundAt Given literals rank) literal n)

-- the literals bind the variable
abbrev pub IsBound : (ℕ → Type 0) → List PlainLiteral → ℕ → Type 0
IsBound Given literals n = (rank : ℕ) × BoundAt Given literals rank n

-- the body binds the variable
abbrev pub IsBoundInBody : ReadRule → ℕ → Type 0
IsBoundInBody rule n = IsBound (λ m. ⊥) (plains rule.body) n

-- a condition binds the variable, where global variables count as bound
abbrev pub IsBoundInCondition : ReadRule → List PlainLiteral → ℕ → Type 0
IsBoundInCondition rule condition n = IsBound (λ m. is_global rule m ≡ true) condition n

-- the body binds each global variable, and the condition of each element its local ones
pub record IsSafe (rule : ReadRule) : Type 0 where
  pub body : AllByRecursion (IsBoundInBody rule) (globals rule)
  pub told : (theory : ReadTheory) (element : ReadElement) → IsMember (theories rule) theory → IsMember theory.elements element
      → AllByRecursion (IsBoundInCondition rule element.condition) (element_locals rule element)
  pub chosen : (element : ReadChoice) → IsMember (choices_in rule.head) element
      → AllByRecursion (IsBoundInCondition rule element.condition) (choice_locals rule element)

-- a variable is unsafe where it is global and the body does not bind it, or local to an element that does not bind it
pub data IsUnsafe (rule : ReadRule) (n : ℕ) : Type 0 where
  UnsafeInBody : IsMember (globals rule) n → (IsBoundInBody rule n → ⊥) → IsUnsafe rule n
  UnsafeInElement : (theory : ReadTheory) (element : ReadElement) → IsMember (theories rule) theory → IsMember theory.elements element
      → IsMember (element_locals rule element) n → (IsBoundInCondition rule element.condition n → ⊥) → IsUnsafe rule n
  UnsafeInChoice : (element : ReadChoice) → IsMember (choices_in rule.head) element → IsMember (choice_locals rule element) n
      → (IsBoundInCondition rule element.condition n → ⊥) → IsUnsafe rule n

-- each literal in order finds its variables bound, or binds them
abbrev pub IsReady : (ℕ → Type 0) → PlainLiteral → Type 0
IsReady P (PlainAtom term sign) = AllIn (λ n. P n ⊎ Binds P (PlainAtom term sign) n) term
IsReady P (PlainCompare left rel right) =
    AllIn (λ n. P n ⊎ Binds P (PlainCompare left rel right) n) left × AllIn (λ n. P n ⊎ Binds P (PlainCompare left rel right) n) right

abbrev pub IsInOrder : (ℕ → Type 0) → List PlainLiteral → Type 0
IsInOrder P [] = Unit {0}
IsInOrder P (literal ∷ rest) = IsReady P literal × IsInOrder (λ n. P n ⊎ Binds P literal n) rest
