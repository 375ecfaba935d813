-- The canonical ground program of a program.
use Rattle.std.specs.Prelude.{◌≡◌, ◌⊎◌, ◌↔◌, ℕ, suc, Bool, true, false, ◌&&◌, ◌||◌, ◌==◌, nat_eq, if◌then◌else◌, List, [], ◌∷◌, map, Option, None, Some}
use Rattle.std.specs.Cmp.Lexicographic.{pointwise}
use Rattle.std.specs.List.{AllByRecursion, AllZip, flat_map, list_any}
use Rattle.std.specs.Ordering.{is_eq}
use Rattle.symbols.specs.Symbol.{Symbol, Number, Identifier, Text, Function, arity}
use Rattle.symbols.specs.Order.{symbol_cmp}
use Rattle.symbols.specs.Table.{symbol_at}
use Rattle.syntax_tree.specs.declared.literal.TheoryName.{TheoryName}
use Rattle.syntax_tree.specs.declared.literal.TheoryName.TheVariants as name
use Rattle.ground_model.specs.declared.program.GroundProgram.{GroundProgram}
use Rattle.ground_model.specs.Members.{IsMember}
use Rattle.ground_model.specs.Rule.{LinearOf, PlaceOf, RelationOf, TheoryOf, RelationHead, DomainHead, DistinctHead, DisjointHead, LitOf, AtomLit, RelationLit, ItemOf, HeadOf, NothingHead, GivesHead, HoldsHead, ChoosesHead, RuleOf}
use Rattle.ground_model.specs.View.{place_of, rule_of}
use Rattle.program_meaning.specs.Read.{ReadTheory, ReadHead, ReadDuty, ReadRule, ReadShow, ShowsNothing, ShowsPredicate, ReadProgram}
use Rattle.program_meaning.specs.Ascending.{IsOrderedListOf}
use Rattle.program_meaning.specs.Substitution.{Key, key_cmp}
use Rattle.program_meaning.specs.Collected.{variable_form}
use Rattle.program_meaning.specs.Theory.{place_cmp}
use Rattle.program_meaning.specs.Instance.{bound_in, IsPossible, IsRelevantOf}
use Rattle.program_meaning.specs.Tuples.{theories, IsTuple, OccursInGuard, IsTupleVariable}
use Rattle.program_meaning.specs.Ground.{IsInstanceAs, GivesRule}

-- NUMBERS

-- the place of a symbol in a list, counted from this number
abbrev pub number_from : ℕ → List Symbol → Symbol → Option ℕ
number_from n [] a = None
number_from n (b ∷ rest) a = (if is_eq (symbol_cmp a b) then Some n else number_from (suc n) rest a)

-- the number of a symbol, counted from 1
abbrev pub number_of : List Symbol → Symbol → Option ℕ
number_of symbols a = number_from 1 symbols a

abbrev pub or_zero : Option ℕ → ℕ
or_zero None = 0
or_zero (Some n) = n

-- a variable's number, 0 where it has none
abbrev pub variable_number : List Symbol → Symbol → ℕ
variable_number variables x = or_zero (number_of variables x)

abbrev pub linear_numbered : List Symbol → LinearOf Symbol → LinearOf ℕ
linear_numbered variables linear = record { pairs = map (λ pair. (variable_number variables pair.0, pair.1)) linear.pairs; constant = linear.constant }

abbrev pub place_numbered : List Symbol → PlaceOf Symbol → PlaceOf ℕ
place_numbered variables place = record { linear = linear_numbered variables place.linear; duration = place.duration; rest = place.rest }

abbrev pub relation_numbered : List Symbol → RelationOf Symbol → RelationOf ℕ
relation_numbered variables relation = record {
  elements = map (place_numbered variables) relation.elements;
  rel = relation.rel;
  right = linear_numbered variables relation.right;
}

abbrev pub theory_numbered : List Symbol → TheoryOf Symbol → TheoryOf ℕ
theory_numbered variables (RelationHead relation) = RelationHead (relation_numbered variables relation)
theory_numbered variables (DomainHead intervals x) = DomainHead intervals (variable_number variables x)
theory_numbered variables (DistinctHead places) = DistinctHead (map (place_numbered variables) places)
theory_numbered variables (DisjointHead places) = DisjointHead (map (place_numbered variables) places)

abbrev pub literal_at : Option ℕ → Bool → List (LitOf ℕ ℕ)
literal_at None sign = []
literal_at (Some n) sign = AtomLit n sign ∷ []

-- a literal over numbers; one of an atom that has no number is left out
abbrev pub literal_numbered : List Symbol → List Symbol → LitOf Symbol Symbol → List (LitOf ℕ ℕ)
literal_numbered atoms variables (AtomLit a sign) = literal_at (number_of atoms a) sign
literal_numbered atoms variables (RelationLit relation sign) = RelationLit (relation_numbered variables relation) sign ∷ []

abbrev pub body_numbered : List Symbol → List Symbol → List (LitOf Symbol Symbol) → List (LitOf ℕ ℕ)
body_numbered atoms variables body = flat_map (literal_numbered atoms variables) body

abbrev pub item_at : Option ℕ → List (LitOf ℕ ℕ) → List (ItemOf ℕ ℕ)
item_at None condition = []
item_at (Some n) condition = record { atom = n; condition = condition } ∷ []

abbrev pub item_numbered : List Symbol → List Symbol → ItemOf Symbol Symbol → List (ItemOf ℕ ℕ)
item_numbered atoms variables item = item_at (number_of atoms item.atom) (body_numbered atoms variables item.condition)

abbrev pub head_at : Option ℕ → HeadOf ℕ ℕ
head_at None = NothingHead
head_at (Some n) = GivesHead n

abbrev pub head_numbered : List Symbol → List Symbol → HeadOf Symbol Symbol → HeadOf ℕ ℕ
head_numbered atoms variables NothingHead = NothingHead
head_numbered atoms variables (GivesHead a) = head_at (number_of atoms a)
head_numbered atoms variables (HoldsHead theory) = HoldsHead (theory_numbered variables theory)
head_numbered atoms variables (ChoosesHead items left right) = ChoosesHead (flat_map (item_numbered atoms variables) items) left right

-- a rule over symbols as a rule over their numbers
abbrev pub rule_numbered : List Symbol → List Symbol → RuleOf Symbol Symbol → RuleOf ℕ ℕ
rule_numbered atoms variables rule = record { body = body_numbered atoms variables rule.body; head = head_numbered atoms variables rule.head }

-- VARIABLES AND THE OBJECTIVE

-- an integer variable of the program: it occurs in a tuple or the guard of a theory atom of a relevant instance, but for `&show`
pub record IsVariableOf (rules : List ReadRule) (x : Symbol) (key : Key) (rule : ReadRule) (theory : ReadTheory) : Type 0 where
  pub relevant : IsRelevantOf rules key rule
  pub member : IsMember (theories rule) theory
  pub other : theory.name ≡ name.Show → ⊥
  pub occurs : IsTupleVariable (IsPossible rules) rule key.values theory x ⊎ OccursInGuard (bound_in rule key.values) theory.guard x

abbrev pub IsVariable : List ReadRule → Symbol → Type 0
IsVariable rules x = (key : Key) × (rule : ReadRule) × (theory : ReadTheory) × IsVariableOf rules x key rule theory

-- a tuple of a directive of this name
pub record IsDirectedAs (rules : List ReadRule) (directive : TheoryName) (place : PlaceOf Symbol) (key : Key) (rule : ReadRule) (theory : ReadTheory) : Type 0 where
  pub relevant : IsRelevantOf rules key rule
  pub head : rule.head ≡ ReadDuty theory
  pub name : theory.name ≡ directive
  pub tuple : IsTuple (IsPossible rules) rule key.values theory place

abbrev pub IsDirected : List ReadRule → TheoryName → PlaceOf Symbol → Type 0
IsDirected rules directive place = (key : Key) × (rule : ReadRule) × (theory : ReadTheory) × IsDirectedAs rules directive place key rule theory

abbrev pub has_name : TheoryName → TheoryName → Bool
has_name name.Minimize name.Minimize = true
has_name name.Maximize name.Maximize = true
has_name name.Show name.Show = true
has_name one other = false

abbrev pub head_directs : TheoryName → ReadHead → Bool
head_directs directive (ReadDuty theory) = has_name directive theory.name
head_directs directive head = false

-- the program has a statement with this directive
abbrev pub has_directive : List ReadRule → TheoryName → Bool
has_directive rules directive = list_any (λ rule. head_directs directive rule.head) rules

-- it has a `&minimize` or a `&maximize` statement
abbrev pub has_objective : List ReadRule → Bool
has_objective rules = has_directive rules name.Minimize || has_directive rules name.Maximize

-- WHAT IS SHOWN

-- an atom's name and number of arguments
abbrev pub is_of_predicate : List ℕ → ℕ → Symbol → Bool
is_of_predicate name count (Identifier other) = pointwise nat_eq name other && (count == 0)
is_of_predicate name count (Function other args) = pointwise nat_eq name other && (count == arity args)
is_of_predicate name count (Number n) = false
is_of_predicate name count (Text text) = false

abbrev pub shows_it : Symbol → ReadShow → Bool
shows_it a ShowsNothing = false
shows_it a (ShowsPredicate name count) = is_of_predicate name count a

-- without `#show` every atom is shown, and with it those of the predicates that it names
abbrev pub shows_atom : List ReadShow → Symbol → Bool
shows_atom [] a = true
shows_atom (show ∷ shows) a = list_any (shows_it a) (show ∷ shows)

-- without `&show` every variable is shown, and with it those that it names
abbrev pub ShowsVariable : List ReadRule → Symbol → Type 0
ShowsVariable rules x =
    (has_directive rules name.Show ≡ false)
    ⊎ ((place : PlaceOf Symbol) × IsDirected rules name.Show place × (place.linear ≡ variable_form x))

-- the flag says whether the variable is shown
abbrev pub IsShownFlag : List ReadRule → Symbol → Bool → Type 0
IsShownFlag rules x flag = (flag ≡ true) ↔ ShowsVariable rules x

-- THE CANONICAL GROUND PROGRAM

-- a ground program with each id read as its symbol
pub record GroundView : Type 0 where
  pub atoms : List Symbol
  pub variables : List Symbol
  pub rules : List (RuleOf ℕ ℕ)
  pub has_objective : Bool
  pub smaller : List (PlaceOf ℕ)
  pub larger : List (PlaceOf ℕ)
  pub shown_atoms : List Bool
  pub shown_variables : List Bool

abbrev pub view_of : GroundProgram → GroundView
view_of program = record {
  atoms = map (symbol_at program.symbols) program.atoms;
  variables = map (symbol_at program.symbols) program.variables;
  rules = map (rule_of program.symbols) program.rules;
  has_objective = program.has_objective;
  smaller = map (place_of program.symbols) program.smaller;
  larger = map (place_of program.symbols) program.larger;
  shown_atoms = program.shown_atoms;
  shown_variables = program.shown_variables;
}

-- the relevant instances that give rules, in order, each with its rule
pub record InstancesAs (rules : List ReadRule) (instances : List (Key × RuleOf Symbol Symbol)) : Type 0 where
  pub listed : IsOrderedListOf key_cmp (GivesRule rules) (map (λ instance. instance.0) instances)
  pub each : AllByRecursion (λ instance. IsInstanceAs rules instance.0 instance.1) instances

-- a set of tuples in order, over numbers
abbrev pub PlacesAs : List ReadRule → TheoryName → List Symbol → List (PlaceOf ℕ) → Type 0
PlacesAs rules directive variables numbered =
    (places : List (PlaceOf Symbol)) × IsOrderedListOf place_cmp (IsDirected rules directive) places × (numbered ≡ map (place_numbered variables) places)

-- the canonical ground program: its atoms are the possible ones and its variables the program's, both in symbol order, and its rules
-- are the relevant instances in order, over their numbers
pub record IsCanonical (program : ReadProgram) (view : GroundView) : Type 0 where
  pub atoms : IsOrderedListOf symbol_cmp (IsPossible program.rules) view.atoms
  pub variables : IsOrderedListOf symbol_cmp (IsVariable program.rules) view.variables
  pub instances : List (Key × RuleOf Symbol Symbol)
  pub listed : InstancesAs program.rules instances
  pub rules : view.rules ≡ map (λ instance. rule_numbered view.atoms view.variables instance.1) instances
  pub objective : view.has_objective ≡ has_objective program.rules
  pub smaller : PlacesAs program.rules name.Minimize view.variables view.smaller
  pub larger : PlacesAs program.rules name.Maximize view.variables view.larger
  pub shown_atoms : view.shown_atoms ≡ map (shows_atom program.shows) view.atoms
  pub shown_variables : AllZip (IsShownFlag program.rules) view.variables view.shown_variables
