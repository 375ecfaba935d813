-- Rules in another order have the same ground rules.
use Rattle.std.proofs.Common.{◌≡◌, inl, inr, ℕ, Bool, ◌||◌, ℤ, List, [], ◌∷◌, map, Option, None, refl, sym, ap, ◌∙◌, subst}
use Rattle.std.specs.List.{AllZip, flat_map}
use Rattle.symbols.specs.Symbol.{Symbol}
use Rattle.symbols.specs.Order.{symbol_cmp}
use Rattle.symbols.specs.declared.rel.Rel.{Rel}
use Rattle.syntax_tree.specs.declared.literal.Guard.{Guard}
use Rattle.syntax_tree.specs.declared.literal.TheoryName.{TheoryName}
use Rattle.syntax_tree.specs.declared.literal.TheoryName.TheVariants as name
use Rattle.syntax_tree.specs.Outcome.{Outcome, IsSymbol}
use Rattle.syntax_tree.specs.Value.{value_of}
use Rattle.ground_model.specs.declared.rule.Bound.{Bound}
use Rattle.ground_model.specs.Members.{IsMember}
use Rattle.ground_model.specs.Rule.{PlaceOf, RelationOf, LitOf, RelationLit, ItemOf, HeadOf, RuleOf}
use Rattle.program_meaning.specs.Read.{PlainLiteral, ReadTheory, ReadLiteral, ReadPlain, ReadTold, ReadChoice, ReadHead, ReadNothing, ReadAtom, ReadDuty, ReadChoose, ReadRule, ReadShow, plains}
use Rattle.program_meaning.specs.Substitution.{Value, Key, key_cmp}
use Rattle.program_meaning.specs.Collected.{variable_form}
use Rattle.program_meaning.specs.Theory.{place_cmp}
use Rattle.program_meaning.specs.Instance.{bound_in, bound_in_choice, IsPossible, IsRelevantChoice}
use Rattle.program_meaning.specs.Tuples.{IsTuple, IsInDomain}
use Rattle.program_meaning.specs.Ground.{is_relation, plain_as, TuplesAs, GuardAs, RelationAs, DomainAs, DutyAs, lit_cmp, AtomsAs, ToldAs, BodyAs, ItemAs, turned, BoundAs, HeadAs, directs, IsInstanceAs, GivesRule}
use Rattle.program_meaning.specs.Canonical.{IsVariable, has_directive, head_directs, ShowsVariable, IsShownFlag, GroundView, InstancesAs, PlacesAs, IsCanonical}
use Rattle.program_meaning.proofs.Lists.{flat_to, flat_from}
use Rattle.safety_meaning.specs.Ordered.{told_of}
use Rattle.safety_meaning.specs.Reordered.{HaveSameMembers, IsSameTheory, IsSameLiteral, IsSameChoice, IsSameHead, IsReordered}
use Rattle.safety_meaning.specs.Laws.{GroundsLaw}
use Rattle.safety_meaning.proofs.Sameness.{zip_mapped}
use Rattle.safety_meaning.proofs.Truths.{every_at, every_from, same_turned, zip_any}
use Rattle.safety_meaning.proofs.Reordering.{bound_same, bound_choice_same, theory_turned, head_turned, rule_turned, possible_law, relevant_of_kept, all_turned}
use Rattle.safety_meaning.proofs.Counting.{choice_relevant}
use Rattle.safety_meaning.proofs.Outer.{moved, tuple_kept, range_kept}
use Rattle.safety_meaning.proofs.Wholes.{ordered_by, is_variable_kept, directed_kept, places_kept}

-- ATOM LITERALS

members_kept : (bound other : List Outcome) → bound ≡ other → (xs ys : List PlainLiteral) → HaveSameMembers xs ys → (lit : LitOf Symbol Symbol)
    → IsMember (flat_map (plain_as bound) xs) lit → IsMember (flat_map (plain_as other) ys) lit
members_kept bound other e xs ys same lit m =
    let found = flat_from (plain_as bound) xs lit m in
    flat_to (plain_as other) ys found.0 lit (same.forth found.0 found.1) (subst (λ b. IsMember (plain_as b found.0) lit) e found.2)

atoms_kept : (bound other : List Outcome) → bound ≡ other → (xs ys : List PlainLiteral) → HaveSameMembers xs ys → (lits : List (LitOf Symbol Symbol))
    → AtomsAs bound xs lits → AtomsAs other ys lits
atoms_kept bound other e xs ys same lits h =
    ordered_by lit_cmp (λ lit. IsMember (flat_map (plain_as bound) xs) lit) (λ lit. IsMember (flat_map (plain_as other) ys) lit) lits
    (members_kept bound other e xs ys same) (members_kept other bound (sym e) ys xs (same_turned xs ys same)) h

-- THEORY ATOMS

module _ (P Q : Symbol → Type 0) (f : (a : Symbol) → P a → Q a) (g : (a : Symbol) → Q a → P a) (rule other : ReadRule) (same : IsReordered rule other) (values : List Value) where
  in_domain_kept : (theory more : ReadTheory) → IsSameTheory theory more → (n : ℤ) → IsInDomain P rule values theory n → IsInDomain Q other values more n
  in_domain_kept theory more k n h = (h.0, range_kept P Q f g rule other same values theory more k h.0 h.1, h.2, h.3)

module _ (P Q : Symbol → Type 0) (f : (a : Symbol) → P a → Q a) (g : (a : Symbol) → Q a → P a) (rule other : ReadRule) (same : IsReordered rule other) (values : List Value) where
  tuples_as_kept : (theory more : ReadTheory) → IsSameTheory theory more → (places : List (PlaceOf Symbol)) → TuplesAs P rule values theory places → TuplesAs Q other values more places
  tuples_as_kept theory more k places h =
      ordered_by place_cmp (IsTuple P rule values theory) (IsTuple Q other values more) places
      (tuple_kept P Q f g rule other same values theory more k)
      (tuple_kept Q P g f other rule (rule_turned rule other same) values more theory (theory_turned theory more k)) h

  relation_kept : (theory more : ReadTheory) → IsSameTheory theory more → (relation : RelationOf Symbol) → RelationAs P rule values theory relation → RelationAs Q other values more relation
  relation_kept theory more k relation h = record {
    name = ap is_relation (sym k.name) ∙ h.name;
    tuples = tuples_as_kept theory more k relation.elements h.tuples;
    guard = moved (λ bound guard. GuardAs bound guard relation.rel relation.right) (bound_same rule other same values) k.guard h.guard;
  }

  domain_kept : (theory more : ReadTheory) → IsSameTheory theory more → (intervals : List (ℤ × ℤ)) (x : Symbol) → DomainAs P rule values theory intervals x → DomainAs Q other values more intervals x
  domain_kept theory more k intervals x h = record {
    parted = h.parted;
    integers = λ n. (
      (λ l. in_domain_kept P Q f g rule other same values theory more k n ((h.integers n).0 l)),
      (λ d. (h.integers n).1 (in_domain_kept Q P g f other rule (rule_turned rule other same) values more theory (theory_turned theory more k) n d)),
    );
    guard = (h.guard.0, moved (λ bound guard. GuardAs bound guard h.guard.0 (variable_form x)) (bound_same rule other same values) k.guard h.guard.1);
  }

  duty_kept : (theory more : ReadTheory) → IsSameTheory theory more → (kind : TheoryName) (head : HeadOf Symbol Symbol) → DutyAs P rule values theory kind head → DutyAs Q other values more kind head
  duty_kept theory more k name.Sum head h = (h.0, relation_kept theory more k h.0 h.1, h.2)
  duty_kept theory more k name.Diff head h = (h.0, relation_kept theory more k h.0 h.1, h.2)
  duty_kept theory more k name.Dom head h = (h.0, h.1, domain_kept theory more k h.0 h.1 h.2, h.3)
  duty_kept theory more k name.Distinct head h = (h.0, tuples_as_kept theory more k h.0 h.1, h.2)
  duty_kept theory more k name.Disjoint head h = (h.0, tuples_as_kept theory more k h.0 h.1, h.2)
  duty_kept theory more k name.Minimize head h = absurd h
  duty_kept theory more k name.Maximize head h = absurd h
  duty_kept theory more k name.Show head h = absurd h
  duty_kept theory more k name.Unknown head h = absurd h

-- BODIES

told_alone : (P : Symbol → Type 0) (rule : ReadRule) (values : List Value) (literals : List ReadLiteral) (lits : List (LitOf Symbol Symbol))
    → ToldAs P rule values literals lits → ToldAs P rule values (flat_map told_of literals) lits
told_alone P rule values [] lits h = h
told_alone P rule values (ReadPlain literal ∷ literals) lits h = told_alone P rule values literals lits h
told_alone P rule values (ReadTold theory sign ∷ literals) lits h = (h.0, h.1, h.2, h.3, told_alone P rule values literals h.1 h.4)

told_whole : (P : Symbol → Type 0) (rule : ReadRule) (values : List Value) (literals : List ReadLiteral) (lits : List (LitOf Symbol Symbol))
    → ToldAs P rule values (flat_map told_of literals) lits → ToldAs P rule values literals lits
told_whole P rule values [] lits h = h
told_whole P rule values (ReadPlain literal ∷ literals) lits h = told_whole P rule values literals lits h
told_whole P rule values (ReadTold theory sign ∷ literals) lits h = (h.0, h.1, h.2, h.3, told_whole P rule values literals h.1 h.4)

module _ (P Q : Symbol → Type 0) (f : (a : Symbol) → P a → Q a) (g : (a : Symbol) → Q a → P a) (rule other : ReadRule) (same : IsReordered rule other) (values : List Value) where
  told_kept : (xs ys : List ReadLiteral) → AllZip IsSameLiteral xs ys → (lits : List (LitOf Symbol Symbol)) → ToldAs P rule values xs lits → ToldAs Q other values ys lits
  told_kept [] [] zip lits h = h
  told_kept [] (y ∷ ys) zip lits h = absurd zip
  told_kept (x ∷ xs) [] zip lits h = absurd zip
  told_kept (ReadPlain one ∷ xs) (ReadPlain more ∷ ys) zip lits h = told_kept xs ys zip.1 lits h
  told_kept (ReadPlain one ∷ xs) (ReadTold more sign ∷ ys) zip lits h = absurd zip.0
  told_kept (ReadTold one sign ∷ xs) (ReadPlain more ∷ ys) zip lits h = absurd zip.0
  told_kept (ReadTold one sign ∷ xs) (ReadTold more facing ∷ ys) zip lits h = (
    h.0,
    h.1,
    h.2 ∙ ap (λ s. RelationLit h.0 s ∷ h.1) zip.0.1,
    relation_kept P Q f g rule other same values one more zip.0.0 h.0 h.3,
    told_kept xs ys zip.1 h.1 h.4,
  )

  body_kept : (lits : List (LitOf Symbol Symbol)) → BodyAs P rule values rule.body lits → BodyAs Q other values other.body lits
  body_kept lits h = record {
    atoms = h.atoms;
    told = h.told;
    are_atoms = atoms_kept (bound_in rule values) (bound_in other values) (bound_same rule other same values) (plains rule.body) (plains other.body) same.plain h.atoms h.are_atoms;
    are_told = told_whole Q other values other.body h.told
        (told_kept (flat_map told_of rule.body) (flat_map told_of other.body) same.told h.told (told_alone P rule values rule.body h.told h.are_told));
    whole = h.whole;
  }

  -- HEADS

  item_kept : (elements others : List ReadChoice) → AllZip IsSameChoice elements others → (key : Key) (item : ItemOf Symbol Symbol)
      → ItemAs P rule values elements key item → ItemAs Q other values others key item
  item_kept elements others zip key item h =
      let c = choice_relevant rule other same P Q f values elements others zip key h.0 h.1 in
      let b = bound_choice_same rule other same h.0 c.0 c.2 values key.values in (
        c.0,
        c.1,
        moved (λ bound term. value_of bound term ≡ IsSymbol item.atom) b c.2.atom h.2,
        atoms_kept (bound_in_choice rule values h.0 key.values) (bound_in_choice other values c.0 key.values) b h.0.condition c.0.condition c.2.condition item.condition h.3,
      )

  limit_kept : (facing : Rel → Rel) (guard more : Option Guard) → guard ≡ more → (limit : Option Bound)
      → BoundAs facing (bound_in rule values) guard limit → BoundAs facing (bound_in other values) more limit
  limit_kept facing guard more e limit h = moved (λ bound guard. BoundAs facing bound guard limit) (bound_same rule other same values) e h

  some_choice_kept : (elements others : List ReadChoice) → AllZip IsSameChoice elements others → (key : Key)
      → (element : ReadChoice) × IsRelevantChoice P rule values elements key element → (element : ReadChoice) × IsRelevantChoice Q other values others key element
  some_choice_kept elements others zip key h = let c = choice_relevant rule other same P Q f values elements others zip key h.0 h.1 in (c.0, c.1)

module _ (P Q : Symbol → Type 0) (f : (a : Symbol) → P a → Q a) (g : (a : Symbol) → Q a → P a) (rule other : ReadRule) (same : IsReordered rule other) (values : List Value) where
  head_kept : (head more : ReadHead) → IsSameHead head more → (made : HeadOf Symbol Symbol) → HeadAs P rule values head made → HeadAs Q other values more made
  head_kept ReadNothing ReadNothing k made h = h
  head_kept (ReadAtom one) (ReadAtom more) k made h = (h.0, moved (λ bound term. value_of bound term ≡ IsSymbol h.0) (bound_same rule other same values) k h.1, h.2)
  head_kept (ReadDuty one) (ReadDuty more) k made h =
      subst (λ n. DutyAs Q other values more n made) k.name (duty_kept P Q f g rule other same values one more k one.name made h)
  head_kept (ReadChoose left elements right) (ReadChoose low others high) k made h = (
    h.0,
    h.1,
    h.2,
    record {
      keys = h.3.keys;
      listed = ordered_by key_cmp (λ key. (element : ReadChoice) × IsRelevantChoice P rule values elements key element)
          (λ key. (element : ReadChoice) × IsRelevantChoice Q other values others key element) h.3.keys
          (some_choice_kept P Q f g rule other same values elements others k.1)
          (some_choice_kept Q P g f other rule (rule_turned rule other same) values others elements (turned_choices left low elements others right high k)) h.3.listed;
      each = zip_mapped (ItemAs P rule values elements) (ItemAs Q other values others) h.3.keys h.0 (item_kept P Q f g rule other same values elements others k.1) h.3.each;
      low_bound = limit_kept P Q f g rule other same values turned left low k.0 h.1 h.3.low_bound;
      high_bound = limit_kept P Q f g rule other same values (λ rel. rel) right high k.2 h.2 h.3.high_bound;
    },
    h.4,
  )
    where
      turned_choices : (left low : Option Guard) (elements others : List ReadChoice) (right high : Option Guard)
          → IsSameHead (ReadChoose left elements right) (ReadChoose low others high) → AllZip IsSameChoice others elements
      turned_choices left low elements others right high k = (head_turned (ReadChoose left elements right) (ReadChoose low others high) k).1
  head_kept head more k made h = absurd k

-- PROGRAMS

directs_same : (one other : ReadHead) → IsSameHead one other → directs one ≡ directs other
directs_same ReadNothing ReadNothing h = refl
directs_same (ReadAtom one) (ReadAtom other) h = refl
directs_same (ReadDuty one) (ReadDuty other) h = ap (λ n. directs (ReadDuty (record { name = n; elements = []; guard = None }))) h.name
directs_same (ReadChoose left elements right) (ReadChoose low others high) h = refl
directs_same one other h = absurd h

head_directs_same : (directive : TheoryName) (one other : ReadHead) → IsSameHead one other → head_directs directive one ≡ head_directs directive other
head_directs_same directive ReadNothing ReadNothing h = refl
head_directs_same directive (ReadAtom one) (ReadAtom other) h = refl
head_directs_same directive (ReadDuty one) (ReadDuty other) h = ap (λ n. head_directs directive (ReadDuty (record { name = n; elements = []; guard = None }))) h.name
head_directs_same directive (ReadChoose left elements right) (ReadChoose low others high) h = refl
head_directs_same directive one other h = absurd h

module _ (rules others : List ReadRule) (zip : AllZip IsReordered rules others) where
  instance_as_kept : (key : Key) (made : RuleOf Symbol Symbol) → IsInstanceAs rules key made → IsInstanceAs others key made
  instance_as_kept key made h =
      let r = relevant_of_kept rules others zip key h.0 h.1 in (
        r.0,
        r.1,
        body_kept (IsPossible rules) (IsPossible others) (λ a p. (possible_law rules others zip a).0 p) (λ a p. (possible_law rules others zip a).1 p)
            h.0 r.0 r.2 key.values made.body h.2,
        head_kept (IsPossible rules) (IsPossible others) (λ a p. (possible_law rules others zip a).0 p) (λ a p. (possible_law rules others zip a).1 p)
            h.0 r.0 r.2 key.values h.0.head r.0.head r.2.head made.head h.3,
      )

  gives_rule_kept : (key : Key) → GivesRule rules key → GivesRule others key
  gives_rule_kept key h = let r = relevant_of_kept rules others zip key h.0 h.1 in (r.0, r.1, sym (directs_same h.0.head r.0.head r.2.head) ∙ h.2)

  directive_same : (directive : TheoryName) → has_directive rules directive ≡ has_directive others directive
  directive_same directive =
      zip_any IsReordered (λ rule. head_directs directive rule.head) (λ rule. head_directs directive rule.head) rules others zip
      (λ rule other same. head_directs_same directive rule.head other.head same.head)

  shows_kept : (x : Symbol) → ShowsVariable rules x → ShowsVariable others x
  shows_kept x h = elim h [
    | inl none ↦ inl (sym (directive_same name.Show) ∙ none)
    | inr some ↦ inr (some.0, directed_kept rules others zip name.Show some.0 some.1, some.2)
  ]

module _ (rules others : List ReadRule) (zip : AllZip IsReordered rules others) where
  flag_kept : (x : Symbol) (flag : Bool) → IsShownFlag rules x flag → IsShownFlag others x flag
  flag_kept x flag h = (λ e. shows_kept rules others zip x (h.0 e), λ s. h.1 (shows_kept others rules (all_turned rules others zip) x s))

  set_kept : (directive : TheoryName) (variables : List Symbol) (numbered : List (PlaceOf ℕ)) → PlacesAs rules directive variables numbered → PlacesAs others directive variables numbered
  set_kept directive variables numbered h = (h.0, places_kept rules others zip directive h.0 h.1, h.2)

  instances_kept : (instances : List (Key × RuleOf Symbol Symbol)) → InstancesAs rules instances → InstancesAs others instances
  instances_kept instances h = record {
    listed = ordered_by key_cmp (GivesRule rules) (GivesRule others) (map (λ instance. instance.0) instances) (gives_rule_kept rules others zip)
        (gives_rule_kept others rules (all_turned rules others zip)) h.listed;
    each = every_from (λ instance. IsInstanceAs others instance.0 instance.1) instances
        (λ instance m. instance_as_kept rules others zip instance.0 instance.1 (every_at (λ i. IsInstanceAs rules i.0 i.1) instances instance h.each m));
  }

  canonical_kept : (shows : List ReadShow) (view : GroundView) → IsCanonical (record { rules = rules; shows = shows }) view → IsCanonical (record { rules = others; shows = shows }) view
  canonical_kept shows view h = record {
    atoms = ordered_by symbol_cmp (IsPossible rules) (IsPossible others) view.atoms (λ a p. (possible_law rules others zip a).0 p) (λ a p. (possible_law rules others zip a).1 p) h.atoms;
    variables = ordered_by symbol_cmp (IsVariable rules) (IsVariable others) view.variables (is_variable_kept rules others zip)
        (is_variable_kept others rules (all_turned rules others zip)) h.variables;
    instances = h.instances;
    listed = instances_kept h.instances h.listed;
    rules = h.rules;
    objective = h.objective ∙ (λ i. directive_same rules others zip name.Minimize i || directive_same rules others zip name.Maximize i);
    smaller = set_kept name.Minimize view.variables view.smaller h.smaller;
    larger = set_kept name.Maximize view.variables view.larger h.larger;
    shown_atoms = h.shown_atoms;
    shown_variables = zip_mapped (IsShownFlag rules) (IsShownFlag others) view.variables view.shown_variables flag_kept h.shown_variables;
  }

pub grounds_law : GroundsLaw
grounds_law rules others zip shows view = (canonical_kept rules others zip shows view, canonical_kept others rules (all_turned rules others zip) shows view)
