-- There is one canonical ground program.
use Rattle.std.proofs.Common.{◌≡◌, ℕ, Bool, ℤ, List, [], ◌∷◌, ◌++◌, map, Option, None, Some, slice_get, refl, sym, ◌∙◌, ap, subst}
use Rattle.std.specs.List.{AllByRecursion, AllZip, flat_map}
use Rattle.symbols.specs.declared.rel.Rel.{Rel}
use Rattle.symbols.specs.Symbol.{Symbol, Number}
use Rattle.symbols.specs.Order.{symbol_cmp}
use Rattle.syntax_tree.specs.declared.literal.Guard.{Guard}
use Rattle.syntax_tree.specs.declared.literal.TheoryName.{TheoryName}
use Rattle.syntax_tree.specs.declared.literal.TheoryName.TheVariants as name
use Rattle.syntax_tree.specs.Outcome.{Outcome, IsSymbol}
use Rattle.syntax_tree.specs.Value.{value_of}
use Rattle.ground_model.specs.declared.rule.Bound.{Bound}
use Rattle.ground_model.specs.Members.{IsMember}
use Rattle.ground_model.specs.Rule.{LinearOf, PlaceOf, RelationOf, RelationHead, DomainHead, DistinctHead, DisjointHead, LitOf, RelationLit, ItemOf, HeadOf, GivesHead, HoldsHead, ChoosesHead, RuleOf}
use Rattle.ground_model.proofs.Bools.{same_test}
use Rattle.program_meaning.specs.Read.{PlainLiteral, ReadTheory, ReadLiteral, ReadPlain, ReadTold, ReadChoice, ReadHead, ReadNothing, ReadAtom, ReadDuty, ReadChoose, ReadRule, plains}
use Rattle.program_meaning.specs.Substitution.{Value, Key, key_cmp}
use Rattle.program_meaning.specs.Collected.{Collected, collected, variable_form}
use Rattle.program_meaning.specs.Theory.{HasForm, place_cmp}
use Rattle.program_meaning.specs.Instance.{bound_in, bound_in_choice, IsPossible, IsRelevantChoice}
use Rattle.program_meaning.specs.Tuples.{IsTuple}
use Rattle.program_meaning.specs.Ground.{plain_as, TuplesAs, GuardAs, RelationAs, DomainAs, DutyAs, lit_cmp, AtomsAs, ToldAs, BodyAs, ItemAs, turned, BoundAs, ChoiceAs, HeadAs, IsInstanceAs, GivesRule}
use Rattle.program_meaning.specs.Canonical.{rule_numbered, place_numbered, IsVariable, IsDirected, shows_atom, IsShownFlag, InstancesAs, PlacesAs}
use Rattle.program_meaning.specs.Laws.{OneLaw}
use Rattle.program_meaning.proofs.Orders.{symbols_turn, keys_turn, places_turn, lits_turn}
use Rattle.program_meaning.proofs.Lists.{ordered_same, zip_one, some_one}
use Rattle.program_meaning.proofs.Parted.{parted_same}

symbol_one : (o : Outcome) (a b : Symbol) → o ≡ IsSymbol a → o ≡ IsSymbol b → a ≡ b
symbol_one o a b p q = cc

number_one : (o : Outcome) (m n : ℤ) → o ≡ IsSymbol (Number m) → o ≡ IsSymbol (Number n) → m ≡ n
number_one o m n p q = cc

-- ---- theory atoms

tuples_one : (P : Symbol → Type 0) (rule : ReadRule) (values : List Value) (theory : ReadTheory) (xs ys : List (PlaceOf Symbol))
    → TuplesAs P rule values theory xs → TuplesAs P rule values theory ys → xs ≡ ys
tuples_one P rule values theory xs ys a c = ordered_same place_cmp places_turn (IsTuple P rule values theory) xs ys a c

form_one : (term : Collected) (x y : LinearOf Symbol) → HasForm term x → HasForm term y → x ≡ y
form_one term x y a c = sym a.same ∙ c.same

guard_one : (bound : List Outcome) (guard : Option Guard) (r q : Rel) (x y : LinearOf Symbol) → GuardAs bound guard r x → GuardAs bound guard q y → (r ≡ q) × (x ≡ y)
guard_one bound None r q x y a c = absurd a
guard_one bound (Some guard) r q x y a c = (a.0 ∙ sym c.0, form_one (collected bound guard.right) x y a.1 c.1)

relation_one : (P : Symbol → Type 0) (rule : ReadRule) (values : List Value) (theory : ReadTheory) (r q : RelationOf Symbol)
    → RelationAs P rule values theory r → RelationAs P rule values theory q → r ≡ q
relation_one P rule values theory r q a c =
    let elements = tuples_one P rule values theory r.elements q.elements a.tuples c.tuples in
    let guard = guard_one (bound_in rule values) theory.guard r.rel q.rel r.right q.right a.guard c.guard in
    (λ i. record { elements = elements i; rel = guard.0 i; right = guard.1 i })

variable_one : (x y : Symbol) → variable_form x ≡ variable_form y → x ≡ y
variable_one x y e = ap first e
  where
    first_in : List (Symbol × ℤ) → Symbol
    first_in [] = x
    first_in (pair ∷ rest) = pair.0

    first : LinearOf Symbol → Symbol
    first form = first_in form.pairs

domain_one : (P : Symbol → Type 0) (rule : ReadRule) (values : List Value) (theory : ReadTheory) (is js : List (ℤ × ℤ)) (x y : Symbol)
    → DomainAs P rule values theory is x → DomainAs P rule values theory js y → (is ≡ js) × (x ≡ y)
domain_one P rule values theory is js x y a c = (
  parted_same is js a.parted c.parted (λ n l. (c.integers n).1 ((a.integers n).0 l)) (λ n l. (a.integers n).1 ((c.integers n).0 l)),
  variable_one x y (guard_one (bound_in rule values) theory.guard a.guard.0 c.guard.0 (variable_form x) (variable_form y) a.guard.1 c.guard.1).1,
)

duty_one : (P : Symbol → Type 0) (rule : ReadRule) (values : List Value) (theory : ReadTheory) (kind : TheoryName) (h k : HeadOf Symbol Symbol)
    → DutyAs P rule values theory kind h → DutyAs P rule values theory kind k → h ≡ k
duty_one P rule values theory name.Sum h k a c = a.2 ∙ ap (λ r. HoldsHead (RelationHead r)) (relation_one P rule values theory a.0 c.0 a.1 c.1) ∙ sym c.2
duty_one P rule values theory name.Diff h k a c = a.2 ∙ ap (λ r. HoldsHead (RelationHead r)) (relation_one P rule values theory a.0 c.0 a.1 c.1) ∙ sym c.2
duty_one P rule values theory name.Dom h k a c =
    let one = domain_one P rule values theory a.0 c.0 a.1 c.1 a.2 c.2 in a.3 ∙ (λ i. HoldsHead (DomainHead (one.0 i) (one.1 i))) ∙ sym c.3
duty_one P rule values theory name.Distinct h k a c = a.2 ∙ ap (λ ps. HoldsHead (DistinctHead ps)) (tuples_one P rule values theory a.0 c.0 a.1 c.1) ∙ sym c.2
duty_one P rule values theory name.Disjoint h k a c = a.2 ∙ ap (λ ps. HoldsHead (DisjointHead ps)) (tuples_one P rule values theory a.0 c.0 a.1 c.1) ∙ sym c.2
duty_one P rule values theory name.Minimize h k a c = absurd a
duty_one P rule values theory name.Maximize h k a c = absurd a
duty_one P rule values theory name.Show h k a c = absurd a
duty_one P rule values theory name.Unknown h k a c = absurd a

-- ---- bodies and heads

atoms_one : (bound : List Outcome) (literals : List PlainLiteral) (xs ys : List (LitOf Symbol Symbol)) → AtomsAs bound literals xs → AtomsAs bound literals ys → xs ≡ ys
atoms_one bound literals xs ys a c = ordered_same lit_cmp lits_turn (λ lit. IsMember (flat_map (plain_as bound) literals) lit) xs ys a c

told_one : (P : Symbol → Type 0) (rule : ReadRule) (values : List Value) (literals : List ReadLiteral) (xs ys : List (LitOf Symbol Symbol))
    → ToldAs P rule values literals xs → ToldAs P rule values literals ys → xs ≡ ys
told_one P rule values [] xs ys a c = a ∙ sym c
told_one P rule values (ReadPlain literal ∷ literals) xs ys a c = told_one P rule values literals xs ys a c
told_one P rule values (ReadTold theory sign ∷ literals) xs ys a c =
    let relation = relation_one P rule values theory a.0 c.0 a.3 c.3 in
    let rest = told_one P rule values literals a.1 c.1 a.4 c.4 in
    a.2 ∙ (λ i. RelationLit (relation i) sign ∷ rest i) ∙ sym c.2

body_one : (P : Symbol → Type 0) (rule : ReadRule) (values : List Value) (literals : List ReadLiteral) (xs ys : List (LitOf Symbol Symbol))
    → BodyAs P rule values literals xs → BodyAs P rule values literals ys → xs ≡ ys
body_one P rule values literals xs ys a c =
    let atoms = atoms_one (bound_in rule values) (plains literals) a.atoms c.atoms a.are_atoms c.are_atoms in
    let told = told_one P rule values literals a.told c.told a.are_told c.are_told in
    a.whole ∙ (λ i. atoms i ++ told i) ∙ sym c.whole

item_one : (P : Symbol → Type 0) (rule : ReadRule) (values : List Value) (elements : List ReadChoice) (key : Key) (x y : ItemOf Symbol Symbol)
    → ItemAs P rule values elements key x → ItemAs P rule values elements key y → x ≡ y
item_one P rule values elements key x y a c =
    let e : a.0 ≡ c.0 = some_one (slice_get elements key.place) a.0 c.0 a.1.place c.1.place in
    let v = subst (λ d. value_of (bound_in_choice rule values d key.values) d.atom ≡ IsSymbol x.atom) e a.2 in
    let k = subst (λ d. AtomsAs (bound_in_choice rule values d key.values) d.condition x.condition) e a.3 in
    let atoms : x.atom ≡ y.atom = symbol_one (value_of (bound_in_choice rule values c.0 key.values) c.0.atom) x.atom y.atom v c.2 in
    let conditions : x.condition ≡ y.condition = atoms_one (bound_in_choice rule values c.0 key.values) c.0.condition x.condition y.condition k c.3 in
    (λ i. record { atom = atoms i; condition = conditions i })

bound_one : (facing : Rel → Rel) (bound : List Outcome) (guard : Option Guard) (x y : Option Bound) → BoundAs facing bound guard x → BoundAs facing bound guard y → x ≡ y
bound_one facing bound None x y a c = a ∙ sym c
bound_one facing bound (Some guard) x y a c =
    a.2 ∙ ap (λ k. Some (record { rel = facing guard.rel; value = k })) (number_one (value_of bound guard.right) a.0 c.0 a.1 c.1) ∙ sym c.2

head_one : (P : Symbol → Type 0) (rule : ReadRule) (values : List Value) (head : ReadHead) (x y : HeadOf Symbol Symbol)
    → HeadAs P rule values head x → HeadAs P rule values head y → x ≡ y
head_one P rule values ReadNothing x y a c = a ∙ sym c
head_one P rule values (ReadAtom term) x y a c =
    a.2 ∙ ap GivesHead (symbol_one (value_of (bound_in rule values) term) a.0 c.0 a.1 c.1) ∙ sym c.2
head_one P rule values (ReadDuty theory) x y a c = duty_one P rule values theory theory.name x y a c
head_one P rule values (ReadChoose left elements right) x y a c =
    let f : ChoiceAs P rule values left elements right a.0 a.1 a.2 = a.3 in
    let g : ChoiceAs P rule values left elements right c.0 c.1 c.2 = c.3 in
    let keys : f.keys ≡ g.keys =
    ordered_same key_cmp keys_turn (λ key. (element : ReadChoice) × IsRelevantChoice P rule values elements key element) f.keys g.keys f.listed g.listed in
    let items : a.0 ≡ c.0 =
    zip_one (ItemAs P rule values elements) (ItemAs P rule values elements) (item_one P rule values elements) g.keys a.0 c.0
    (subst (λ ks. AllZip (ItemAs P rule values elements) ks a.0) keys f.each) g.each in
    let low : a.1 ≡ c.1 = bound_one turned (bound_in rule values) left a.1 c.1 f.low_bound g.low_bound in
    let high : a.2 ≡ c.2 = bound_one (λ rel. rel) (bound_in rule values) right a.2 c.2 f.high_bound g.high_bound in
    a.4 ∙ (λ i. ChoosesHead (items i) (low i) (high i)) ∙ sym c.4

-- the rule of an instance is one
pub instance_one : (rules : List ReadRule) (key : Key) (r q : RuleOf Symbol Symbol) → IsInstanceAs rules key r → IsInstanceAs rules key q → r ≡ q
instance_one rules key r q a c =
    let rule : a.0 ≡ c.0 = some_one (slice_get rules key.place) a.0 c.0 a.1.place c.1.place in
    let body = body_one (IsPossible rules) c.0 key.values c.0.body r.body q.body (subst (λ z. BodyAs (IsPossible rules) z key.values z.body r.body) rule a.2) c.2 in
    let head = head_one (IsPossible rules) c.0 key.values c.0.head r.head q.head (subst (λ z. HeadAs (IsPossible rules) z key.values z.head r.head) rule a.3) c.3 in
    (λ i. record { body = body i; head = head i })

-- ---- the ground program

-- instances with the same keys are the same
instances_one : (rules : List ReadRule) (xs ys : List (Key × RuleOf Symbol Symbol))
    → AllByRecursion (λ instance. IsInstanceAs rules instance.0 instance.1) xs → AllByRecursion (λ instance. IsInstanceAs rules instance.0 instance.1) ys
    → map (λ instance. instance.0) xs ≡ map (λ instance. instance.0) ys → xs ≡ ys
instances_one rules [] [] a c e = refl
instances_one rules [] (y ∷ ys) a c e = cc
instances_one rules (x ∷ xs) [] a c e = cc
instances_one rules (x ∷ xs) (y ∷ ys) a c e =
    let first : x.0 ≡ y.0 = ap (λ ks. head_of ks) e in
    let rest = instances_one rules xs ys a.1 c.1 (ap tail_of e) in
    let made : x.1 ≡ y.1 = instance_one rules y.0 x.1 y.1 (subst (λ k. IsInstanceAs rules k x.1) first a.0) c.0 in
    (λ i. (first i, made i) ∷ rest i)
  where
    head_of : List Key → Key
    head_of [] = x.0
    head_of (k ∷ ks) = k

    tail_of : List Key → List Key
    tail_of [] = []
    tail_of (k ∷ ks) = ks

same_instances : (rules : List ReadRule) (xs ys : List (Key × RuleOf Symbol Symbol)) → InstancesAs rules xs → InstancesAs rules ys → xs ≡ ys
same_instances rules xs ys a c =
    instances_one rules xs ys a.each c.each (ordered_same key_cmp keys_turn (GivesRule rules) (map (λ instance. instance.0) xs) (map (λ instance. instance.0) ys) a.listed c.listed)

places_one : (rules : List ReadRule) (directive : TheoryName) (variables others : List Symbol) (xs ys : List (PlaceOf ℕ)) → variables ≡ others
    → PlacesAs rules directive variables xs → PlacesAs rules directive others ys → xs ≡ ys
places_one rules directive variables others xs ys e a c =
    let places : a.0 ≡ c.0 = ordered_same place_cmp places_turn (IsDirected rules directive) a.0 c.0 a.1 c.1 in
    a.2 ∙ (λ i. map (place_numbered (e i)) (places i)) ∙ sym c.2

flags_one : (rules : List ReadRule) (variables : List Symbol) (xs ys : List Bool) → AllZip (IsShownFlag rules) variables xs → AllZip (IsShownFlag rules) variables ys → xs ≡ ys
flags_one rules variables xs ys a c =
    zip_one (IsShownFlag rules) (IsShownFlag rules) (λ x f g p q. same_test f g (λ e. q.1 (p.0 e)) (λ e. p.1 (q.0 e))) variables xs ys a c

pub one_law : OneLaw
one_law program one other c d =
    let atoms : one.atoms ≡ other.atoms = ordered_same symbol_cmp symbols_turn (IsPossible program.rules) one.atoms other.atoms c.atoms d.atoms in
    let variables : one.variables ≡ other.variables = ordered_same symbol_cmp symbols_turn (IsVariable program.rules) one.variables other.variables c.variables d.variables in
    let instances : c.instances ≡ d.instances = same_instances program.rules c.instances d.instances c.listed d.listed in
    let rules : one.rules ≡ other.rules =
    c.rules ∙ (λ i. map (λ instance. rule_numbered (atoms i) (variables i) instance.1) (instances i)) ∙ sym d.rules in
    let objective : one.has_objective ≡ other.has_objective = c.objective ∙ sym d.objective in
    let smaller : one.smaller ≡ other.smaller = places_one program.rules name.Minimize one.variables other.variables one.smaller other.smaller variables c.smaller d.smaller in
    let larger : one.larger ≡ other.larger = places_one program.rules name.Maximize one.variables other.variables one.larger other.larger variables c.larger d.larger in
    let shown : one.shown_atoms ≡ other.shown_atoms = c.shown_atoms ∙ (λ i. map (shows_atom program.shows) (atoms i)) ∙ sym d.shown_atoms in
    let flags : one.shown_variables ≡ other.shown_variables =
    flags_one program.rules other.variables one.shown_variables other.shown_variables
    (subst (λ vs. AllZip (IsShownFlag program.rules) vs one.shown_variables) variables c.shown_variables) d.shown_variables in
    (λ i. record {
      atoms = atoms i;
      variables = variables i;
      rules = rules i;
      has_objective = objective i;
      smaller = smaller i;
      larger = larger i;
      shown_atoms = shown i;
      shown_variables = flags i;
    })
