-- A relevant instance as a ground rule over symbols.
use Rattle.std.specs.Prelude.{◌≡◌, ◌↔◌, Bool, true, false, ℤ, List, [], ◌∷◌, ◌++◌, Option, None, Some}
use Rattle.std.specs.List.{AllZip, flat_map}
use Rattle.std.specs.Ordering.{ordering_then}
use Rattle.std.specs.declared.cmp.Ordering.{Ordering}
use Rattle.std.specs.declared.cmp.Ordering.TheVariants as order
use Rattle.symbols.specs.declared.rel.Rel.{Rel}
use Rattle.symbols.specs.declared.rel.Rel.TheVariants.{Equal, NotEqual, Less, LessEqual, Greater, GreaterEqual}
use Rattle.symbols.specs.Symbol.{Symbol, Number}
use Rattle.symbols.specs.Order.{symbol_cmp}
use Rattle.syntax_tree.specs.declared.literal.Guard.{Guard}
use Rattle.syntax_tree.specs.declared.literal.TheoryName.{TheoryName}
use Rattle.syntax_tree.specs.declared.literal.TheoryName.TheVariants as name
use Rattle.syntax_tree.specs.Outcome.{Outcome, IsSymbol, IsOver, IsUndefined}
use Rattle.syntax_tree.specs.Value.{value_of}
use Rattle.ground_model.specs.declared.rule.Bound.{Bound}
use Rattle.ground_model.specs.Intervals.{are_parted, lies_in}
use Rattle.ground_model.specs.Members.{IsMember}
use Rattle.ground_model.specs.Rule.{LinearOf, PlaceOf, RelationOf, RelationHead, DomainHead, DistinctHead, DisjointHead, LitOf, AtomLit, RelationLit, ItemOf, HeadOf, NothingHead, GivesHead, HoldsHead, ChoosesHead, RuleOf}
use Rattle.program_meaning.specs.Read.{PlainLiteral, PlainAtom, PlainCompare, ReadTheory, ReadLiteral, ReadPlain, ReadTold, ReadChoice, ReadHead, ReadNothing, ReadAtom, ReadDuty, ReadChoose, ReadRule, plains}
use Rattle.program_meaning.specs.Ascending.{IsOrderedListOf}
use Rattle.program_meaning.specs.Substitution.{Value, Key, key_cmp}
use Rattle.program_meaning.specs.Collected.{collected, variable_form}
use Rattle.program_meaning.specs.Theory.{HasForm, place_cmp}
use Rattle.program_meaning.specs.Instance.{bound_in, bound_in_choice, IsPossible, IsRelevantOf, IsRelevantChoice}
use Rattle.program_meaning.specs.Tuples.{IsTuple, IsInDomain}

-- LITERALS

abbrev pub atom_as : Outcome → Bool → List (LitOf Symbol Symbol)
atom_as (IsSymbol a) sign = AtomLit a sign ∷ []
atom_as IsOver sign = []
atom_as IsUndefined sign = []

-- an atom stands by its symbol; over is no atom, and comparisons are settled
abbrev pub plain_as : List Outcome → PlainLiteral → List (LitOf Symbol Symbol)
plain_as bound (PlainAtom term sign) = atom_as (value_of bound term) sign
plain_as bound (PlainCompare left rel right) = []

-- THEORY ATOMS

-- the tuples in order
abbrev pub TuplesAs : (Symbol → Type 0) → ReadRule → List Value → ReadTheory → List (PlaceOf Symbol) → Type 0
TuplesAs P rule values theory places = IsOrderedListOf place_cmp (IsTuple P rule values theory) places

-- a guard's relation and its right side in collected form
abbrev pub GuardAs : List Outcome → Option Guard → Rel → LinearOf Symbol → Type 0
GuardAs bound None rel right = ⊥
GuardAs bound (Some guard) rel right = (rel ≡ guard.rel) × HasForm (collected bound guard.right) right

-- `&sum` and `&diff`, the theory atoms that are relations
abbrev pub is_relation : TheoryName → Bool
is_relation name.Sum = true
is_relation name.Diff = true
is_relation other = false

-- `&sum` and `&diff`: the tuples against the right side
pub record RelationAs (P : Symbol → Type 0) (rule : ReadRule) (values : List Value) (theory : ReadTheory) (relation : RelationOf Symbol) : Type 0 where
  pub name : is_relation theory.name ≡ true
  pub tuples : TuplesAs P rule values theory relation.elements
  pub guard : GuardAs (bound_in rule values) theory.guard relation.rel relation.right

-- `&dom`: the one variable of its right side, and its integers as parted intervals
pub record DomainAs (P : Symbol → Type 0) (rule : ReadRule) (values : List Value) (theory : ReadTheory) (intervals : List (ℤ × ℤ)) (x : Symbol) : Type 0 where
  pub parted : are_parted intervals ≡ true
  pub integers : (n : ℤ) → (lies_in intervals n ≡ true) ↔ IsInDomain P rule values theory n
  pub guard : (rel : Rel) × GuardAs (bound_in rule values) theory.guard rel (variable_form x)

-- a theory atom as the head of a ground rule
abbrev pub DutyAs : (Symbol → Type 0) → ReadRule → List Value → ReadTheory → TheoryName → HeadOf Symbol Symbol → Type 0
DutyAs P rule values theory name.Sum head = (relation : RelationOf Symbol) × RelationAs P rule values theory relation × (head ≡ HoldsHead (RelationHead relation))
DutyAs P rule values theory name.Diff head = (relation : RelationOf Symbol) × RelationAs P rule values theory relation × (head ≡ HoldsHead (RelationHead relation))
DutyAs P rule values theory name.Dom head =
    (intervals : List (ℤ × ℤ)) × (x : Symbol) × DomainAs P rule values theory intervals x × (head ≡ HoldsHead (DomainHead intervals x))
DutyAs P rule values theory name.Distinct head = (places : List (PlaceOf Symbol)) × TuplesAs P rule values theory places × (head ≡ HoldsHead (DistinctHead places))
DutyAs P rule values theory name.Disjoint head = (places : List (PlaceOf Symbol)) × TuplesAs P rule values theory places × (head ≡ HoldsHead (DisjointHead places))
DutyAs P rule values theory other head = ⊥

-- BODIES AND HEADS

-- the true one before the false one
abbrev pub sign_cmp : Bool → Bool → Ordering
sign_cmp true true = order.Equal
sign_cmp true false = order.Less
sign_cmp false true = order.Greater
sign_cmp false false = order.Equal

-- atom literals by their atoms, the true one of an atom before the false one
abbrev pub lit_cmp : LitOf Symbol Symbol → LitOf Symbol Symbol → Ordering
lit_cmp (AtomLit a sign) (AtomLit b facing) = ordering_then (symbol_cmp a b) (sign_cmp sign facing)
lit_cmp (AtomLit a sign) (RelationLit relation facing) = order.Less
lit_cmp (RelationLit relation sign) (AtomLit b facing) = order.Greater
lit_cmp (RelationLit relation sign) (RelationLit other facing) = order.Equal

-- the different atom literals of literals at values, in order
abbrev pub AtomsAs : List Outcome → List PlainLiteral → List (LitOf Symbol Symbol) → Type 0
AtomsAs bound literals lits = IsOrderedListOf lit_cmp (λ lit. IsMember (flat_map (plain_as bound) literals) lit) lits

-- the theory literals of a body, as they stand in the text
abbrev pub ToldAs : (Symbol → Type 0) → ReadRule → List Value → List ReadLiteral → List (LitOf Symbol Symbol) → Type 0
ToldAs P rule values [] lits = lits ≡ []
ToldAs P rule values (ReadPlain literal ∷ literals) lits = ToldAs P rule values literals lits
ToldAs P rule values (ReadTold theory sign ∷ literals) lits =
    (relation : RelationOf Symbol) × (rest : List (LitOf Symbol Symbol)) × (lits ≡ RelationLit relation sign ∷ rest)
    × RelationAs P rule values theory relation × ToldAs P rule values literals rest

-- a body: its different atom literals in order, and then its theory literals; so the order of its atoms and comparisons says nothing
pub record BodyAs (P : Symbol → Type 0) (rule : ReadRule) (values : List Value) (literals : List ReadLiteral) (lits : List (LitOf Symbol Symbol)) : Type 0 where
  pub atoms : List (LitOf Symbol Symbol)
  pub told : List (LitOf Symbol Symbol)
  pub are_atoms : AtomsAs (bound_in rule values) (plains literals) atoms
  pub are_told : ToldAs P rule values literals told
  pub whole : lits ≡ atoms ++ told

-- an instance of a choice's element as an element of a ground choice
abbrev pub ItemAs : (Symbol → Type 0) → ReadRule → List Value → List ReadChoice → Key → ItemOf Symbol Symbol → Type 0
ItemAs P rule values elements key item =
    (element : ReadChoice) × IsRelevantChoice P rule values elements key element
    × (value_of (bound_in_choice rule values element key.values) element.atom ≡ IsSymbol item.atom)
    × AtomsAs (bound_in_choice rule values element key.values) element.condition item.condition

-- a relation read from its other side
abbrev pub turned : Rel → Rel
turned Equal = Equal
turned NotEqual = NotEqual
turned Less = Greater
turned LessEqual = GreaterEqual
turned Greater = Less
turned GreaterEqual = LessEqual

-- a bound on the count: its relation, read from the count, and its integer
abbrev pub BoundAs : (Rel → Rel) → List Outcome → Option Guard → Option Bound → Type 0
BoundAs facing bound None limit = limit ≡ None
BoundAs facing bound (Some guard) limit =
    (n : ℤ) × (value_of bound guard.right ≡ IsSymbol (Number n)) × (limit ≡ Some (record { rel = facing guard.rel; value = n }))

-- a choice: its relevant element instances in order, and its bounds; the left one is turned round
pub record ChoiceAs (P : Symbol → Type 0) (rule : ReadRule) (values : List Value) (left : Option Guard) (elements : List ReadChoice) (right : Option Guard)
    (chosen : List (ItemOf Symbol Symbol)) (low high : Option Bound) : Type 0 where
  pub keys : List Key
  pub listed : IsOrderedListOf key_cmp (λ key. (element : ReadChoice) × IsRelevantChoice P rule values elements key element) keys
  pub each : AllZip (ItemAs P rule values elements) keys chosen
  pub low_bound : BoundAs turned (bound_in rule values) left low
  pub high_bound : BoundAs (λ rel. rel) (bound_in rule values) right high

abbrev pub HeadAs : (Symbol → Type 0) → ReadRule → List Value → ReadHead → HeadOf Symbol Symbol → Type 0
HeadAs P rule values ReadNothing head = head ≡ NothingHead
HeadAs P rule values (ReadAtom term) head = (a : Symbol) × (value_of (bound_in rule values) term ≡ IsSymbol a) × (head ≡ GivesHead a)
HeadAs P rule values (ReadDuty theory) head = DutyAs P rule values theory theory.name head
HeadAs P rule values (ReadChoose left elements right) head =
    (items : List (ItemOf Symbol Symbol)) × (low : Option Bound) × (high : Option Bound)
    × ChoiceAs P rule values left elements right items low high × (head ≡ ChoosesHead items low high)

-- INSTANCES

-- `&minimize`, `&maximize` and `&show` are directives, and give no rule
abbrev pub is_directive : TheoryName → Bool
is_directive name.Minimize = true
is_directive name.Maximize = true
is_directive name.Show = true
is_directive other = false

abbrev pub directs : ReadHead → Bool
directs (ReadDuty theory) = is_directive theory.name
directs head = false

-- the relevant instance at the key as a ground rule
abbrev pub IsInstanceAs : List ReadRule → Key → RuleOf Symbol Symbol → Type 0
IsInstanceAs rules key made =
    (rule : ReadRule) × IsRelevantOf rules key rule
    × BodyAs (IsPossible rules) rule key.values rule.body made.body × HeadAs (IsPossible rules) rule key.values rule.head made.head

-- a ground rule of the program: some relevant instance is it
abbrev pub IsRuleOfProgram : List ReadRule → RuleOf Symbol Symbol → Type 0
IsRuleOfProgram rules made = (key : Key) × IsInstanceAs rules key made

-- the key of a relevant instance that gives a rule
abbrev pub GivesRule : List ReadRule → Key → Type 0
GivesRule rules key = (rule : ReadRule) × IsRelevantOf rules key rule × (directs rule.head ≡ false)
