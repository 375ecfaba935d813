-- Predicates: domain predicates, dependence and recursive rules.
use Rattle.std.specs.Prelude.{◌≡◌, ◌⊎◌, ℕ, zero, suc, Bool, true, false, List, [], length, Option, None, Some}
use Rattle.syntax_tree.specs.declared.term.Part.{Part}
use Rattle.syntax_tree.specs.declared.term.Term.{Term, out-Term}
use Rattle.syntax_tree.specs.declared.term.Term.TheOpen.{Term-F}
use Rattle.ground_model.specs.Members.{IsMember}
use Rattle.program_meaning.specs.Read.{PlainLiteral, PlainAtom, PlainCompare, ReadElement, ReadTheory, ReadLiteral, ReadPlain, ReadTold, ReadChoice, ReadHead, ReadAtom, ReadRule, plains}
use Rattle.program_meaning.specs.Tuples.{theories}
use Rattle.program_meaning.specs.Count.{choices_in}

-- a name and a number of arguments
pub record Predicate : Type 0 where
  pub name : List ℕ
  pub count : ℕ

abbrev pub predicate_in : Term-F Term Part → Option Predicate
predicate_in (Term-F.Function name args) = Some (record { name = name; count = length args })
predicate_in layer = None

-- the predicate of an atom
abbrev pub predicate : Term → Option Predicate
predicate term = predicate_in (out-Term term)

-- a positive atom of the predicate is among the literals
abbrev pub HasPositive : List PlainLiteral → Predicate → Type 0
HasPositive literals q = (term : Term) × IsMember literals (PlainAtom term true) × (predicate term ≡ Some q)

-- DOMAIN PREDICATES

abbrev pub HeadIsOf : ReadHead → Predicate → Type 0
HeadIsOf (ReadAtom term) p = predicate term ≡ Some p
HeadIsOf head p = ⊥

abbrev pub ChoiceIsOf : ReadHead → Predicate → Type 0
ChoiceIsOf head p = (element : ReadChoice) × IsMember (choices_in head) element × (predicate element.atom ≡ Some p)

-- a literal that keeps a rule's head from being of a domain predicate: a negated atom, a theory literal, an atom of a predicate that is none
abbrev pub IsBlocking : (Predicate → Type 0) → ReadLiteral → Type 0
IsBlocking Blocked (ReadTold theory sign) = Unit {0}
IsBlocking Blocked (ReadPlain (PlainAtom term false)) = Unit {0}
IsBlocking Blocked (ReadPlain (PlainAtom term true)) = (q : Predicate) × (predicate term ≡ Some q) × Blocked q
IsBlocking Blocked (ReadPlain (PlainCompare left rel right)) = ⊥

-- a predicate is no domain predicate, as found at a rank: a choice has it as a head, or a rule whose body has a literal that blocks it
abbrev pub BlockedAt : List ReadRule → ℕ → Predicate → Type 0
BlockedAt rules zero p = ⊥
BlockedAt rules (suc rank) p =
    (rule : ReadRule) × IsMember rules rule
    × (ChoiceIsOf rule.head p ⊎ (HeadIsOf rule.head p × ((literal : ReadLiteral) × IsMember rule.body literal × IsBlocking (BlockedAt rules rank) literal)))

-- the domain predicates are the greatest set of which none is found to be none
abbrev pub IsDomain : List ReadRule → Predicate → Type 0
IsDomain rules p = (rank : ℕ) → BlockedAt rules rank p → ⊥

-- an atom in the condition of a theory element, negated or not
abbrev pub IsInTheoryCondition : ReadRule → Term → Type 0
IsInTheoryCondition rule term =
    (theory : ReadTheory) × (element : ReadElement) × (sign : Bool) × IsMember (theories rule) theory × IsMember theory.elements element
    × IsMember element.condition (PlainAtom term sign)

-- all of them are of domain predicates
abbrev pub HasDomainConditions : List ReadRule → ReadRule → Type 0
HasDomainConditions rules rule = (term : Term) (p : Predicate) → IsInTheoryCondition rule term → predicate term ≡ Some p → IsDomain rules p

-- DEPENDENCE

-- a rule gives a step from the predicate of its head, or of an element of its choice, to that of a positive atom in the body, or in
-- that element's condition
abbrev pub GivesStep : ReadRule → Predicate → Predicate → Type 0
GivesStep rule p q =
    (HeadIsOf rule.head p × HasPositive (plains rule.body) q)
    ⊎ ((element : ReadChoice) × IsMember (choices_in rule.head) element × (predicate element.atom ≡ Some p)
    × (HasPositive (plains rule.body) q ⊎ HasPositive element.condition q))

abbrev pub HasStep : List ReadRule → Predicate → Predicate → Type 0
HasStep rules p q = (rule : ReadRule) × IsMember rules rule × GivesStep rule p q

-- a predicate depends positively on another in so many further steps
abbrev pub DependsIn : List ReadRule → ℕ → Predicate → Predicate → Type 0
DependsIn rules zero p q = HasStep rules p q
DependsIn rules (suc more) p q = (r : Predicate) × HasStep rules p r × DependsIn rules more r q

abbrev pub Depends : List ReadRule → Predicate → Predicate → Type 0
Depends rules p q = (more : ℕ) × DependsIn rules more p q

-- a rule is recursive where it gives a step from a predicate to itself, or to one that depends on it
abbrev pub IsRecursive : List ReadRule → ReadRule → Type 0
IsRecursive rules rule = (p : Predicate) × (q : Predicate) × GivesStep rule p q × ((q ≡ p) ⊎ Depends rules q p)

-- no recursive rule has a variable
abbrev pub IsStratified : List ReadRule → Type 0
IsStratified rules = (rule : ReadRule) → IsMember rules rule → IsRecursive rules rule → rule.order ≡ []
