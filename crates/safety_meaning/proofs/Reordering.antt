-- Rules in another order have the same instances and the same possible atoms.
use Rattle.std.proofs.Common.{◌≡◌, ℕ, zero, suc, Bool, true, false, ◌&&◌, ◌||◌, not, List, ◌++◌, length, filter, Option, None, Some, refl, sym, ap, ◌∙◌}
use Rattle.std.specs.List.{list_any, list_all, AllZip, AllByRecursion, flat_map}
use Rattle.symbols.specs.Symbol.{Symbol}
use Rattle.symbols.specs.declared.rel.Rel.{Rel}
use Rattle.syntax_tree.specs.declared.term.Term.{Term}
use Rattle.syntax_tree.specs.Outcome.{Outcome}
use Rattle.syntax_tree.specs.Value.{value_of}
use Rattle.program_meaning.specs.Read.{PlainLiteral, PlainAtom, PlainCompare, ReadElement, ReadTheory, ReadLiteral, ReadPlain, ReadTold, ReadChoice, ReadHead, ReadNothing, ReadAtom, ReadDuty, ReadChoose, ReadRule, plains}
use Rattle.program_meaning.specs.Variables.{occurs, occurs_in, occurs_in_guard, occurs_in_literal, occurs_in_head, atom_binds, plain_variable, is_free, is_global, globals, choice_locals}
use Rattle.program_meaning.specs.Substitution.{Value, substituted, Key}
use Rattle.program_meaning.specs.Comparison.{against, ends, comparison, may_hold}
use Rattle.program_meaning.specs.Theory.{is_defined, guard_stands}
use Rattle.program_meaning.specs.Instance.{bound_in, bound_in_choice, plain_stands, literal_stands, bound_stands, head_stands, IsInstance, IsChoiceInstance, PositiveHas, CanGive, PossibleAt, IsPossible, IsRelevantOf, IsRelevant}
use Rattle.safety_meaning.specs.Ordered.{told_of}
use Rattle.safety_meaning.specs.Reordered.{HaveSameMembers, IsSameElement, IsSameTheory, IsSameLiteral, IsSameChoice, IsSameHead, IsReordered}
use Rattle.safety_meaning.specs.Laws.{PossibleLaw, RelevantLaw}
use Rattle.safety_meaning.proofs.Truths.{any_same, all_same, every_at, every_from, same_turned, same_append, any_split, all_split, zip_any, zip_all, zip_member, zip_got, zip_turned}

-- TURNED ROUND

element_turned : (one other : ReadElement) → IsSameElement one other → IsSameElement other one
element_turned one other h = record { first = sym h.first; duration = sym h.duration; rest = sym h.rest; condition = same_turned one.condition other.condition h.condition }

pub theory_turned : (one other : ReadTheory) → IsSameTheory one other → IsSameTheory other one
theory_turned one other h =
    record { name = sym h.name; elements = zip_turned IsSameElement IsSameElement one.elements other.elements element_turned h.elements; guard = sym h.guard }

literal_turned : (one other : ReadLiteral) → IsSameLiteral one other → IsSameLiteral other one
literal_turned (ReadPlain one) (ReadPlain other) h = sym h
literal_turned (ReadPlain one) (ReadTold other sign) h = absurd h
literal_turned (ReadTold one sign) (ReadPlain other) h = absurd h
literal_turned (ReadTold one sign) (ReadTold other facing) h = (theory_turned one other h.0, sym h.1)

choice_turned : (one other : ReadChoice) → IsSameChoice one other → IsSameChoice other one
choice_turned one other h = record { atom = sym h.atom; condition = same_turned one.condition other.condition h.condition }

pub head_turned : (one other : ReadHead) → IsSameHead one other → IsSameHead other one
head_turned ReadNothing ReadNothing h = tt
head_turned (ReadAtom one) (ReadAtom other) h = sym h
head_turned (ReadDuty one) (ReadDuty other) h = theory_turned one other h
head_turned (ReadChoose left elements right) (ReadChoose low others high) h =
    (sym h.0, zip_turned IsSameChoice IsSameChoice elements others choice_turned h.1, sym h.2)
head_turned one other h = absurd h

pub rule_turned : (rule other : ReadRule) → IsReordered rule other → IsReordered other rule
rule_turned rule other h = record {
  order = sym h.order;
  head = head_turned rule.head other.head h.head;
  plain = same_turned (plains rule.body) (plains other.body) h.plain;
  told = zip_turned IsSameLiteral IsSameLiteral (flat_map told_of rule.body) (flat_map told_of other.body) literal_turned h.told;
}

-- VARIABLES

occurs_literal : (n : ℕ) (one other : ReadLiteral) → IsSameLiteral one other → occurs_in_literal n one ≡ occurs_in_literal n other
occurs_literal n (ReadPlain one) (ReadPlain other) h = ap (occurs_in n) h
occurs_literal n (ReadPlain one) (ReadTold other sign) h = absurd h
occurs_literal n (ReadTold one sign) (ReadPlain other) h = absurd h
occurs_literal n (ReadTold one sign) (ReadTold other facing) h = ap (occurs_in_guard n) h.0.guard

occurs_head : (n : ℕ) (one other : ReadHead) → IsSameHead one other → occurs_in_head n one ≡ occurs_in_head n other
occurs_head n ReadNothing ReadNothing h = refl
occurs_head n (ReadAtom one) (ReadAtom other) h = ap (occurs n) h
occurs_head n (ReadDuty one) (ReadDuty other) h = ap (occurs_in_guard n) h.guard
occurs_head n (ReadChoose left elements right) (ReadChoose low others high) h = λ i. occurs_in_guard n (h.0 i) || occurs_in_guard n (h.2 i)
occurs_head n one other h = absurd h

module _ (rule other : ReadRule) (same : IsReordered rule other) where
  occurs_body : (n : ℕ) → list_any (occurs_in_literal n) rule.body ≡ list_any (occurs_in_literal n) other.body
  occurs_body n =
      any_split (occurs_in_literal n) rule.body
      ∙ (λ i. any_same (occurs_in n) (plains rule.body) (plains other.body) same.plain i
      || zip_any IsSameLiteral (occurs_in_literal n) (occurs_in_literal n) (flat_map told_of rule.body) (flat_map told_of other.body) same.told (occurs_literal n) i)
      ∙ sym (any_split (occurs_in_literal n) other.body)

  pub global_same : (n : ℕ) → is_global rule n ≡ is_global other n
  global_same n = λ i. occurs_head n rule.head other.head same.head i || occurs_body n i

  pub globals_same : globals rule ≡ globals other
  globals_same = λ i. filter (λ n. global_same n i) (same.order i)

  pub bound_same : (values : List Value) → bound_in rule values ≡ bound_in other values
  bound_same values = λ i. substituted (length (same.order i)) (globals_same i) values

  locals_same : (one more : ReadChoice) → IsSameChoice one more → choice_locals rule one ≡ choice_locals other more
  locals_same one more h =
      λ i. filter (λ n. (occurs n (h.atom i) || any_same (occurs_in n) one.condition more.condition h.condition i) && not (global_same n i)) (same.order i)

  pub bound_choice_same : (one more : ReadChoice) (h : IsSameChoice one more) (values locals : List Value) → bound_in_choice rule values one locals ≡ bound_in_choice other values more locals
  bound_choice_same one more h values locals = λ i. substituted (length (same.order i)) (globals_same i ++ locals_same one more h i) (values ++ locals)

-- COMPARISONS

free_by : List PlainLiteral → Option ℕ → Bool
free_by literals None = false
free_by literals (Some n) = not (list_any (atom_binds n) literals)

free_by_same : (xs ys : List PlainLiteral) (o : Option ℕ) → HaveSameMembers xs ys → free_by xs o ≡ free_by ys o
unfolding free_by
free_by_same xs ys None same = refl
free_by_same xs ys (Some n) same = ap not (any_same (atom_binds n) xs ys same)

free_same : (xs ys : List PlainLiteral) → HaveSameMembers xs ys → (term : Term) → is_free xs term ≡ is_free ys term
unfolding free_by
free_same xs ys same term = free_by_same xs ys (plain_variable term) same

pub compared_same : (xs ys : List PlainLiteral) → HaveSameMembers xs ys → (bound : List Outcome) (left : Term) (rel : Rel) (right : Term)
    → comparison xs bound left rel right ≡ comparison ys bound left rel right
compared_same xs ys same bound left rel right = λ i. against (free_same xs ys same left i || free_same xs ys same right i) bound left rel right (ends right)

pub stands_same : (xs ys : List PlainLiteral) → HaveSameMembers xs ys → (bound : List Outcome) (literal : PlainLiteral) → plain_stands xs bound literal ≡ plain_stands ys bound literal
stands_same xs ys same bound (PlainAtom term sign) = refl
stands_same xs ys same bound (PlainCompare left rel right) = ap may_hold (compared_same xs ys same bound left rel right)

-- INSTANCES

head_stands_same : (bound : List Outcome) (one other : ReadHead) → IsSameHead one other → head_stands bound one ≡ head_stands bound other
head_stands_same bound ReadNothing ReadNothing h = refl
head_stands_same bound (ReadAtom one) (ReadAtom other) h = ap (λ term. is_defined (value_of bound term)) h
head_stands_same bound (ReadDuty one) (ReadDuty other) h = ap (guard_stands bound) h.guard
head_stands_same bound (ReadChoose left elements right) (ReadChoose low others high) h = λ i. bound_stands bound (h.0 i) && bound_stands bound (h.2 i)
head_stands_same bound one other h = absurd h

told_stands : (xs ys : List PlainLiteral) → HaveSameMembers xs ys → (bound : List Outcome) (one other : ReadLiteral) → IsSameLiteral one other
    → literal_stands xs bound one ≡ literal_stands ys bound other
told_stands xs ys same bound (ReadPlain one) (ReadPlain other) h = stands_same xs ys same bound one ∙ ap (plain_stands ys bound) h
told_stands xs ys same bound (ReadPlain one) (ReadTold other sign) h = absurd h
told_stands xs ys same bound (ReadTold one sign) (ReadPlain other) h = absurd h
told_stands xs ys same bound (ReadTold one sign) (ReadTold other facing) h = ap (guard_stands bound) h.0.guard

all_stand : (xs ys : List PlainLiteral) → HaveSameMembers xs ys → (bound : List Outcome) (us vs : List PlainLiteral) → HaveSameMembers us vs
    → list_all (plain_stands xs bound) us ≡ list_all (plain_stands ys bound) vs
all_stand xs ys same bound us vs more = (λ i. list_all (λ literal. stands_same xs ys same bound literal i) us) ∙ all_same (plain_stands ys bound) us vs more

positive_kept : (P Q : Symbol → Type 0) → ((a : Symbol) → P a → Q a) → (bound other : List Outcome) → bound ≡ other → (literal : PlainLiteral) → PositiveHas P bound literal → PositiveHas Q other literal
positive_kept P Q f bound other e (PlainAtom term true) h = (h.0, ap (λ b. value_of b term) (sym e) ∙ h.1, f h.0 h.2)
positive_kept P Q f bound other e (PlainAtom term false) h = tt
positive_kept P Q f bound other e (PlainCompare left rel right) h = tt

pub positives_kept : (P Q : Symbol → Type 0) → ((a : Symbol) → P a → Q a) → (bound other : List Outcome) → bound ≡ other → (xs ys : List PlainLiteral) → HaveSameMembers xs ys
    → AllByRecursion (PositiveHas P bound) xs → AllByRecursion (PositiveHas Q other) ys
positives_kept P Q f bound other e xs ys same h =
    every_from (PositiveHas Q other) ys (λ literal m. positive_kept P Q f bound other e literal (every_at (PositiveHas P bound) xs literal h (same.back literal m)))

module _ (rule other : ReadRule) (same : IsReordered rule other) where
  pub instance_kept : (values : List Value) → IsInstance rule values → IsInstance other values
  instance_kept values h =
      let b = bound_same rule other same values in
      let xs = plains rule.body in
      let ys = plains other.body in
      let bound = bound_in other values in
      let heads : head_stands (bound_in rule values) rule.head ≡ head_stands bound other.head =
      ap (λ c. head_stands c rule.head) b ∙ head_stands_same bound rule.head other.head same.head in
      let bodies : list_all (literal_stands xs bound) rule.body ≡ list_all (literal_stands ys bound) other.body =
      all_split (literal_stands xs bound) rule.body
      ∙ (λ i. all_stand xs ys same.plain bound xs ys same.plain i
      && zip_all IsSameLiteral (literal_stands xs bound) (literal_stands ys bound) (flat_map told_of rule.body) (flat_map told_of other.body) same.told (told_stands xs ys same.plain bound) i)
      ∙ sym (all_split (literal_stands ys bound) other.body) in
      record {
        each = h.each ∙ ap length (globals_same rule other same);
        head = sym heads ∙ h.head;
        body = sym bodies ∙ ap (λ c. list_all (literal_stands xs c) rule.body) (sym b) ∙ h.body;
      }

  pub choice_kept : (values : List Value) (one more : ReadChoice) (locals : List Value) → IsSameChoice one more → IsChoiceInstance rule values one locals → IsChoiceInstance other values more locals
  choice_kept values one more locals k h =
      let b = bound_choice_same rule other same one more k values locals in
      let bound = bound_in_choice other values more locals in
      let all = same_append (plains rule.body) (plains other.body) one.condition more.condition same.plain k.condition in
      record {
        each = h.each ∙ ap length (locals_same rule other same one more k);
        atom = (λ i. is_defined (value_of (sym b i) (sym k.atom i))) ∙ h.atom;
        condition = sym (all_stand (plains rule.body ++ one.condition) (plains other.body ++ more.condition) all bound one.condition more.condition k.condition)
            ∙ ap (λ c. list_all (plain_stands (plains rule.body ++ one.condition) c) one.condition) (sym b) ∙ h.condition;
      }

  gives_kept : (P Q : Symbol → Type 0) → ((a : Symbol) → P a → Q a) → (values : List Value) (a : Symbol) (head more : ReadHead) → IsSameHead head more
      → CanGive P rule values head a → CanGive Q other values more a
  gives_kept P Q f values a ReadNothing ReadNothing k h = absurd h
  gives_kept P Q f values a (ReadAtom one) (ReadAtom more) k h = (λ i. value_of (sym (bound_same rule other same values) i) (sym k i)) ∙ h
  gives_kept P Q f values a (ReadDuty one) (ReadDuty more) k h = absurd h
  gives_kept P Q f values a (ReadChoose left elements right) (ReadChoose low others high) k h =
      let found = zip_member IsSameChoice elements others h.0 k.1 h.1 in
      let b = bound_choice_same rule other same h.0 found.0 found.2 values h.2 in (
        found.0,
        found.1,
        h.2,
        choice_kept values h.0 found.0 h.2 found.2 h.3,
        (λ i. value_of (sym b i) (sym found.2.atom i)) ∙ h.4,
        positives_kept P Q f (bound_in_choice rule values h.0 h.2) (bound_in_choice other values found.0 h.2) b h.0.condition found.0.condition found.2.condition h.5,
      )
  gives_kept P Q f values a head more k h = absurd k

-- POSSIBLE ATOMS AND RELEVANT INSTANCES

possible_kept : (rank : ℕ) (rules others : List ReadRule) → AllZip IsReordered rules others → (a : Symbol) → PossibleAt rules rank a → PossibleAt others rank a
possible_kept zero rules others zip a h = absurd h
possible_kept (suc rank) rules others zip a h =
    let found = zip_member IsReordered rules others h.0 zip h.1 in
    let f = possible_kept rank rules others zip in (
      found.0,
      found.1,
      h.2,
      instance_kept h.0 found.0 found.2 h.2 h.3,
      gives_kept h.0 found.0 found.2 (PossibleAt rules rank) (PossibleAt others rank) f h.2 a h.0.head found.0.head found.2.head h.4,
      positives_kept (PossibleAt rules rank) (PossibleAt others rank) f (bound_in h.0 h.2) (bound_in found.0 h.2) (bound_same h.0 found.0 found.2 h.2) (plains h.0.body) (plains found.0.body) found.2.plain h.5,
    )

pub all_turned : (rules others : List ReadRule) → AllZip IsReordered rules others → AllZip IsReordered others rules
all_turned rules others zip = zip_turned IsReordered IsReordered rules others rule_turned zip

pub possible_law : PossibleLaw
possible_law rules others zip a =
    ((λ h. (h.0, possible_kept h.0 rules others zip a h.1)), (λ h. (h.0, possible_kept h.0 others rules (all_turned rules others zip) a h.1)))

pub relevant_of_kept : (rules others : List ReadRule) → AllZip IsReordered rules others → (key : Key) (rule : ReadRule) → IsRelevantOf rules key rule
    → (other : ReadRule) × IsRelevantOf others key other × IsReordered rule other
relevant_of_kept rules others zip key rule h =
    let found = zip_got IsReordered rules others key.place rule zip h.place in (
      found.0,
      record {
        place = found.1;
        stands = instance_kept rule found.0 found.2 key.values h.stands;
        positive = positives_kept (IsPossible rules) (IsPossible others) (λ a p. (possible_law rules others zip a).0 p) (bound_in rule key.values) (bound_in found.0 key.values)
            (bound_same rule found.0 found.2 key.values) (plains rule.body) (plains found.0.body) found.2.plain h.positive;
      },
      found.2,
    )

relevant_kept : (rules others : List ReadRule) → AllZip IsReordered rules others → (key : Key) → IsRelevant rules key → IsRelevant others key
relevant_kept rules others zip key h = let found = relevant_of_kept rules others zip key h.0 h.1 in (found.0, found.1)

pub relevant_law : RelevantLaw
relevant_law rules others zip key = (relevant_kept rules others zip key, relevant_kept others rules (all_turned rules others zip) key)
