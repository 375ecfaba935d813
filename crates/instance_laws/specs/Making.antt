-- Parts of ground programs from instances.
use Rattle.std.specs.Prelude.{◌≡◌, ◌⊎◌, Bool, true, false, ℤ, List, [], ◌∷◌, ◌++◌, map, if◌then◌else◌, Option, None, Some}
use Rattle.std.specs.List.{flat_map}
use Rattle.symbols.specs.declared.rel.Rel.{Rel}
use Rattle.symbols.specs.Symbol.{Symbol}
use Rattle.syntax_tree.specs.declared.literal.TheoryName.{TheoryName}
use Rattle.syntax_tree.specs.declared.literal.TheoryName.TheVariants as name
use Rattle.ground_model.specs.Members.{IsMember, IsListOf}
use Rattle.ground_model.specs.Rule.{LinearOf, PlaceOf, RelationOf, RelationHead, DomainHead, DistinctHead, DisjointHead, LitOf, RelationLit, HeadOf, HoldsHead, RuleOf}
use Rattle.program_meaning.specs.Read.{ReadTheory, ReadLiteral, ReadPlain, ReadTold, ReadHead, ReadDuty, ReadRule}
use Rattle.program_meaning.specs.Canonical.{has_name}
use Rattle.program_meaning.specs.Collected.{variable_form}
use Rattle.program_meaning.specs.Ground.{TuplesAs, RelationAs, is_directive, directs, IsInstanceAs}
use Rattle.program_meaning.specs.Instance.{bound_in, IsPossible, IsRelevantOf}
use Rattle.program_meaning.specs.Substitution.{Value, Key}
use Rattle.program_meaning.specs.Tuples.{theories, OccursInGuard, IsTupleVariable}
use Rattle.theory_laws.specs.Collecting.{IsCollected}

-- RULES

-- a directive gives no rule, and another instance gives its own
abbrev pub GivesPart : List ReadRule → Key → Bool → List (Key × RuleOf Symbol Symbol) → Type 0
GivesPart rules key true part = part ≡ []
GivesPart rules key false part = (made : RuleOf Symbol Symbol) × IsInstanceAs rules key made × (part ≡ (key, made) ∷ [])

-- what the relevant instance at the key gives
abbrev pub IsPartOf : List ReadRule → Key → List (Key × RuleOf Symbol Symbol) → Type 0
IsPartOf rules key part = (rule : ReadRule) × IsRelevantOf rules key rule × GivesPart rules key (directs rule.head) part

-- lists one behind the other
abbrev pub joined : {X : Type 0} → List (List X) → List X
joined parts = flat_map (λ part. part) parts

-- THEORY LITERALS AND HEADS

-- the theory literals of a body, each with its sign
abbrev pub told_in_order : List ReadLiteral → List (ReadTheory × Bool)
told_in_order [] = []
told_in_order (ReadPlain literal ∷ literals) = told_in_order literals
told_in_order (ReadTold theory sign ∷ literals) = (theory, sign) ∷ told_in_order literals

-- the relation of a theory literal
abbrev pub IsToldAs : List ReadRule → ReadRule → List Value → ReadTheory × Bool → LitOf Symbol Symbol → Type 0
IsToldAs rules rule values told lit = (relation : RelationOf Symbol) × RelationAs (IsPossible rules) rule values told.0 relation × (lit ≡ RelationLit relation told.1)

-- the head that a theory atom of this name gives in collected form
abbrev pub IsDutyFrom : TheoryName → List (PlaceOf Symbol) → List (ℤ × ℤ) → Option (Rel × LinearOf Symbol) → HeadOf Symbol Symbol → Type 0
IsDutyFrom name.Sum places intervals (Some guard) head = head ≡ HoldsHead (RelationHead (record { elements = places; rel = guard.0; right = guard.1 }))
IsDutyFrom name.Diff places intervals (Some guard) head = head ≡ HoldsHead (RelationHead (record { elements = places; rel = guard.0; right = guard.1 }))
IsDutyFrom name.Dom places intervals (Some guard) head = (x : Symbol) × (guard.1 ≡ variable_form x) × (head ≡ HoldsHead (DomainHead intervals x))
IsDutyFrom name.Distinct places intervals guard head = head ≡ HoldsHead (DistinctHead places)
IsDutyFrom name.Disjoint places intervals guard head = head ≡ HoldsHead (DisjointHead places)
IsDutyFrom other places intervals guard head = ⊥

-- INTEGER VARIABLES

-- a theory atom in collected form
pub record Form : Type 0 where
  pub places : List (PlaceOf Symbol)
  pub intervals : List (ℤ × ℤ)
  pub guard : Option (Rel × LinearOf Symbol)

abbrev pub IsForm : List ReadRule → ReadRule → List Value → ReadTheory → Form → Type 0
IsForm rules rule values theory form = IsCollected (IsPossible rules) rule values theory form.places form.intervals form.guard

abbrev pub linear_variables : LinearOf Symbol → List Symbol
linear_variables linear = map (λ pair. pair.0) linear.pairs

abbrev pub place_variables : List (PlaceOf Symbol) → List Symbol
place_variables places = flat_map (λ place. linear_variables place.linear) places

abbrev pub guard_variables : Option (Rel × LinearOf Symbol) → List Symbol
guard_variables None = []
guard_variables (Some guard) = linear_variables guard.1

-- those of a theory atom of this name: `&dom` has them in its guard alone, and those of `&show` are none of the program's
abbrev pub form_variables : TheoryName → Form → List Symbol
form_variables name.Show form = []
form_variables name.Dom form = guard_variables form.guard
form_variables other form = place_variables form.places ++ guard_variables form.guard

-- those of theory atoms
abbrev pub all_variables : List ReadTheory → List Form → List Symbol
all_variables [] forms = []
all_variables (theory ∷ rest) [] = []
all_variables (theory ∷ rest) (form ∷ forms) = form_variables theory.name form ++ all_variables rest forms

-- an integer variable of a theory atom, and of one of several
abbrev pub OccursIn : List ReadRule → ReadRule → List Value → ReadTheory → Symbol → Type 0
OccursIn rules rule values theory x = IsTupleVariable (IsPossible rules) rule values theory x ⊎ OccursInGuard (bound_in rule values) theory.guard x

abbrev pub OccursInSome : List ReadRule → ReadRule → List Value → List ReadTheory → Symbol → Type 0
OccursInSome rules rule values all x = (theory : ReadTheory) × IsMember all theory × (theory.name ≡ name.Show → ⊥) × OccursIn rules rule values theory x

-- the integer variables of the relevant instance at the key
abbrev pub AreVariablesAt : List ReadRule → Key → List Symbol → Type 0
AreVariablesAt rules key xs = (rule : ReadRule) × IsRelevantOf rules key rule × IsListOf (OccursInSome rules rule key.values (theories rule)) xs

-- DIRECTIVES

-- a directive with its tuples
abbrev pub Named : Type 0
Named = TheoryName × List (PlaceOf Symbol)

abbrev pub IsTheoryPart : List ReadRule → ReadRule → List Value → ReadTheory → Bool → List Named → Type 0
IsTheoryPart rules rule values theory true part = (places : List (PlaceOf Symbol)) × TuplesAs (IsPossible rules) rule values theory places × (part ≡ (theory.name, places) ∷ [])
IsTheoryPart rules rule values theory false part = part ≡ []

abbrev pub IsHeadPart : List ReadRule → ReadRule → List Value → ReadHead → List Named → Type 0
IsHeadPart rules rule values (ReadDuty theory) part = IsTheoryPart rules rule values theory (is_directive theory.name) part
IsHeadPart rules rule values head part = part ≡ []

-- the directive of the relevant instance at the key, if it is one
abbrev pub IsDirectivePart : List ReadRule → Key → List Named → Type 0
IsDirectivePart rules key part = (rule : ReadRule) × IsRelevantOf rules key rule × IsHeadPart rules rule key.values rule.head part

-- the tuples of the directives of this name
abbrev pub named_places : TheoryName → List Named → List (PlaceOf Symbol)
named_places directive all = flat_map (λ one. if has_name directive one.0 then one.1 else []) all
