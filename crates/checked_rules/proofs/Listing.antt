-- A rewritten rule that passes the checks can be grounded.
use Rattle.std.proofs.Common.{◌≡◌, ◌⊎◌, ℕ, true, ◌||◌, List, [], ◌∷◌, map, None, refl, sym, ◌∙◌, ap, subst, inl, inr}
use Rattle.std.specs.List.{AllByRecursion, list_all, list_any, flat_map}
use Rattle.symbols.specs.declared.rel.Rel.{Rel}
use Rattle.syntax_tree.specs.declared.term.Term.{Term}
use Rattle.syntax_tree.specs.declared.rule.Rule.{Rule}
use Rattle.syntax_tree.specs.Statements.{is_rule}
use Rattle.ground_model.specs.Members.{IsMember}
use Rattle.ground_model.proofs.Bools.{or_elim, or_left, or_right, and_intro}
use Rattle.ground_model.proofs.MemberLemmas.{any_member, member_any, property_member}
use Rattle.ground_model.proofs.WayLemmas.{flat_member}
use Rattle.rewriting.specs.Order.{order_of}
use Rattle.rewriting.specs.Rewritten.{rewritten}
use Rattle.program_meaning.specs.Read.{PlainLiteral, PlainCompare, ReadElement, ReadTheory, ReadLiteral, ReadPlain, ReadTold, ReadChoice, ReadHead, ReadNothing, ReadAtom, ReadDuty, ReadChoose, ReadRule, plain_of, plains, literal_read, head_read}
use Rattle.program_meaning.specs.Variables.{occurs, occurs_in, occurs_in_guard, occurs_in_option, occurs_in_element, occurs_in_choice, occurs_in_literal, occurs_in_head, is_global}
use Rattle.program_meaning.specs.Tuples.{told_in, duty_in, theories}
use Rattle.program_meaning.specs.Count.{choices_in}
use Rattle.program_meaning.specs.Comparison.{ends}
use Rattle.program_meaning.proofs.Lists.{append_from}
use Rattle.safety_meaning.specs.Program.{rule_of}
use Rattle.safety_meaning.specs.Failures.{HasNoUnsafe}
use Rattle.groundable_rules.specs.Groundable.{may_stand, may_be_head, IsGroundable}
use Rattle.rewritten_rules.specs.Within.{within_theory, within_literal, within_head, within_rule}
use Rattle.rewritten_rules.proofs.Orders.{ordered_law, numbered_law}
use Rattle.interval_variables.specs.Laws.{IsInOrder}
use Rattle.interval_variables.proofs.Binding.{interval_law}
use Rattle.checked_rules.specs.Checked.{IsPlainChecked, AreChecked, IsElementChecked, IsChoiceChecked, IsLiteralChecked, IsHeadChecked, IsChecked, IsCheckedRule}
use Rattle.checked_rules.specs.Laws.{GroundableLaw}
use Rattle.checked_rules.proofs.Rules.{rewritten_law}

-- ---- what stands in a part stands in the rule
module _ (n : ℕ) where
  plain_within : (literal : ReadLiteral) (plain : PlainLiteral) → IsMember (plain_of literal) plain → occurs_in n plain ≡ true → within_literal n literal ≡ true
  plain_within (ReadPlain one) plain (inl e) o = ap (occurs_in n) (sym e) ∙ o
  plain_within (ReadPlain one) plain (inr none) o = absurd none
  plain_within (ReadTold theory sign) plain m o = absurd m

  body_within : (rule : ReadRule) (plain : PlainLiteral) → IsMember (plains rule.body) plain → occurs_in n plain ≡ true → within_rule n rule ≡ true
  body_within rule plain m o =
      let p = flat_member plain_of rule.body plain m in
      or_right (within_head n rule.head) (list_any (within_literal n) rule.body) (any_member (within_literal n) rule.body p.0 p.1 (plain_within p.0 plain p.2 o))

  told_within : (literal : ReadLiteral) (theory : ReadTheory) → IsMember (told_in literal) theory → within_theory n theory ≡ true → within_literal n literal ≡ true
  told_within (ReadPlain one) theory m w = absurd m
  told_within (ReadTold other sign) theory (inl e) w = ap (within_theory n) (sym e) ∙ w
  told_within (ReadTold other sign) theory (inr none) w = absurd none

  duty_within : (h : ReadHead) (theory : ReadTheory) → IsMember (duty_in h) theory → within_theory n theory ≡ true → within_head n h ≡ true
  duty_within ReadNothing theory m w = absurd m
  duty_within (ReadAtom term) theory m w = absurd m
  duty_within (ReadDuty other) theory (inl e) w = ap (within_theory n) (sym e) ∙ w
  duty_within (ReadDuty other) theory (inr none) w = absurd none
  duty_within (ReadChoose left elements right) theory m w = absurd m

  theory_within : (rule : ReadRule) (theory : ReadTheory) → IsMember (theories rule) theory → within_theory n theory ≡ true → within_rule n rule ≡ true
  theory_within rule theory m w = by (append_from (flat_map told_in rule.body) (duty_in rule.head) theory m)
    where
      by : IsMember (flat_map told_in rule.body) theory ⊎ IsMember (duty_in rule.head) theory → within_rule n rule ≡ true
      by (inl k) =
          let p = flat_member told_in rule.body theory k in
          or_right (within_head n rule.head) (list_any (within_literal n) rule.body) (any_member (within_literal n) rule.body p.0 p.1 (told_within p.0 theory p.2 w))
      by (inr k) = or_left (within_head n rule.head) (list_any (within_literal n) rule.body) (duty_within rule.head theory k w)

  element_within : (rule : ReadRule) (theory : ReadTheory) (element : ReadElement) → IsMember (theories rule) theory → IsMember theory.elements element
      → occurs_in_element n element ≡ true → within_rule n rule ≡ true
  element_within rule theory element m k o =
      theory_within rule theory m
      (or_left (list_any (occurs_in_element n) theory.elements) (occurs_in_guard n theory.guard) (any_member (occurs_in_element n) theory.elements element k o))

  choice_head_within : (h : ReadHead) (element : ReadChoice) → IsMember (choices_in h) element → occurs_in_choice n element ≡ true → within_head n h ≡ true
  choice_head_within ReadNothing element m o = absurd m
  choice_head_within (ReadAtom term) element m o = absurd m
  choice_head_within (ReadDuty theory) element m o = absurd m
  choice_head_within (ReadChoose left elements right) element m o =
      or_right (occurs_in_guard n left) (list_any (occurs_in_choice n) elements || occurs_in_guard n right)
      (or_left (list_any (occurs_in_choice n) elements) (occurs_in_guard n right) (any_member (occurs_in_choice n) elements element m o))

  choice_within : (rule : ReadRule) (element : ReadChoice) → IsMember (choices_in rule.head) element → occurs_in_choice n element ≡ true → within_rule n rule ≡ true
  choice_within rule element m o = or_left (within_head n rule.head) (list_any (within_literal n) rule.body) (choice_head_within rule.head element m o)

  head_within : (h : ReadHead) → occurs_in_head n h ≡ true → within_head n h ≡ true
  head_within ReadNothing o = o
  head_within (ReadAtom term) o = o
  head_within (ReadDuty theory) o = or_right (list_any (occurs_in_element n) theory.elements) (occurs_in_guard n theory.guard) o
  head_within (ReadChoose left elements right) o = by (or_elim (occurs_in_guard n left) (occurs_in_guard n right) o)
    where
      by : (occurs_in_guard n left ≡ true) ⊎ (occurs_in_guard n right ≡ true) → within_head n (ReadChoose left elements right) ≡ true
      by (inl k) = or_left (occurs_in_guard n left) (list_any (occurs_in_choice n) elements || occurs_in_guard n right) k
      by (inr k) =
          or_right (occurs_in_guard n left) (list_any (occurs_in_choice n) elements || occurs_in_guard n right)
          (or_right (list_any (occurs_in_choice n) elements) (occurs_in_guard n right) k)

  literal_within : (literal : ReadLiteral) → occurs_in_literal n literal ≡ true → within_literal n literal ≡ true
  literal_within (ReadPlain literal) o = o
  literal_within (ReadTold theory sign) o = or_right (list_any (occurs_in_element n) theory.elements) (occurs_in_guard n theory.guard) o

  global_within : (rule : ReadRule) → is_global rule n ≡ true → within_rule n rule ≡ true
  global_within rule o = by (or_elim (occurs_in_head n rule.head) (list_any (occurs_in_literal n) rule.body) o)
    where
      by : (occurs_in_head n rule.head ≡ true) ⊎ (list_any (occurs_in_literal n) rule.body ≡ true) → within_rule n rule ≡ true
      by (inl k) = or_left (within_head n rule.head) (list_any (within_literal n) rule.body) (head_within rule.head k)
      by (inr k) =
          let p = member_any (occurs_in_literal n) rule.body k in
          or_right (within_head n rule.head) (list_any (within_literal n) rule.body) (any_member (within_literal n) rule.body p.0 p.1 (literal_within p.0 p.2))

-- ---- left sides
left_of : (literals : List PlainLiteral) → AreChecked literals → (left : Term) (rel : Rel) (right : Term) → IsMember literals (PlainCompare left rel right) → ends left ≡ None
left_of literals all left rel right m = property_member IsPlainChecked literals (PlainCompare left rel right) all m

body_plains : (body : List ReadLiteral) → AllByRecursion IsLiteralChecked body → AreChecked (plains body)
body_plains [] all = tt
body_plains (ReadPlain literal ∷ rest) all = (all.0, body_plains rest all.1)
body_plains (ReadTold theory sign ∷ rest) all = body_plains rest all.1

told_elements : (literal : ReadLiteral) (theory : ReadTheory) → IsLiteralChecked literal → IsMember (told_in literal) theory → (element : ReadElement) → IsMember theory.elements element
    → AreChecked element.condition
told_elements (ReadPlain literal) theory h m element k = absurd m
told_elements (ReadTold other sign) theory h (inl e) element k = property_member IsElementChecked other.elements element h.1 (member_same e k)
  where
    member_same : {one two : ReadTheory} → one ≡ two → IsMember one.elements element → IsMember two.elements element
    member_same e k = subst (λ (t : ReadTheory). IsMember t.elements element) e k
told_elements (ReadTold other sign) theory h (inr none) element k = absurd none

duty_elements : (h : ReadHead) (theory : ReadTheory) → IsHeadChecked h → IsMember (duty_in h) theory → (element : ReadElement) → IsMember theory.elements element → AreChecked element.condition
duty_elements ReadNothing theory c m element k = absurd m
duty_elements (ReadAtom term) theory c m element k = absurd m
duty_elements (ReadDuty other) theory c (inl e) element k = property_member IsElementChecked other.elements element c.1 (subst (λ (t : ReadTheory). IsMember t.elements element) e k)
duty_elements (ReadDuty other) theory c (inr none) element k = absurd none
duty_elements (ReadChoose left elements right) theory c m element k = absurd m

choice_elements : (h : ReadHead) (element : ReadChoice) → IsHeadChecked h → IsMember (choices_in h) element → AreChecked element.condition
choice_elements ReadNothing element c m = absurd m
choice_elements (ReadAtom term) element c m = absurd m
choice_elements (ReadDuty theory) element c m = absurd m
choice_elements (ReadChoose left elements right) element c m = property_member IsChoiceChecked elements element c m

stands : (literal : ReadLiteral) → IsLiteralChecked literal → may_stand literal ≡ true
stands (ReadPlain literal) h = refl
stands (ReadTold theory sign) h = h.0

all_stand : (body : List ReadLiteral) → AllByRecursion IsLiteralChecked body → list_all may_stand body ≡ true
all_stand [] all = refl
all_stand (literal ∷ rest) all = and_intro (may_stand literal) (list_all may_stand rest) (stands literal all.0) (all_stand rest all.1)

is_head_fine : (h : ReadHead) → IsHeadChecked h → may_be_head h ≡ true
is_head_fine ReadNothing c = refl
is_head_fine (ReadAtom term) c = refl
is_head_fine (ReadDuty theory) c = c.0
is_head_fine (ReadChoose left elements right) c = refl

-- ---- rules
module _ (rule : Rule) (tree : is_rule rule ≡ true) (fine : IsCheckedRule rule) where
  after : IsChecked (rewritten rule)
  after = (rewritten_law rule tree fine.checked).1

  in_order : (n : ℕ) → within_rule n (rule_of rule) ≡ true → IsMember (order_of rule) n
  in_order n w = ordered_law rule n w

  theory_elements : (theory : ReadTheory) (element : ReadElement) → IsMember (theories (rule_of rule)) theory → IsMember theory.elements element → AreChecked element.condition
  theory_elements theory element m k = by (append_from (flat_map told_in (map literal_read (rewritten rule).body)) (duty_in (head_read (rewritten rule).head)) theory m)
    where
      by : IsMember (flat_map told_in (map literal_read (rewritten rule).body)) theory ⊎ IsMember (duty_in (head_read (rewritten rule).head)) theory → AreChecked element.condition
      by (inl j) =
          let p = flat_member told_in (map literal_read (rewritten rule).body) theory j in
          told_elements p.0 theory (property_member IsLiteralChecked (map literal_read (rewritten rule).body) p.0 after.body p.1) p.2 element k
      by (inr j) = duty_elements (head_read (rewritten rule).head) theory after.head j element k

  ordered : IsInOrder (rule_of rule)
  ordered = record {
    global = λ n g. in_order n (global_within n (rule_of rule) g);
    told = λ theory element m k n o. in_order n (element_within n (rule_of rule) theory element m k o);
    chosen = λ element m n o. in_order n (choice_within n (rule_of rule) element m o);
  }

  groundable : HasNoUnsafe rule → IsGroundable (rule_of rule)
  groundable safe = record {
    few = fine.few;
    listed = record {
      numbered = numbered_law rule fine.named;
      listed = λ literal m n o. in_order n (body_within n (rule_of rule) literal m o);
      left = left_of (plains (map literal_read (rewritten rule).body)) (body_plains (map literal_read (rewritten rule).body) after.body);
    };
    told = λ theory element m k. record {
      numbered = numbered_law rule fine.named;
      listed = λ literal j n o. in_order n (element_within n (rule_of rule) theory element m k (in_condition element literal j n o));
      left = left_of element.condition (theory_elements theory element m k);
    };
    chosen = λ element m. record {
      numbered = numbered_law rule fine.named;
      listed = λ literal j n o. in_order n (choice_within n (rule_of rule) element m
          (or_right (occurs n element.atom) (list_any (occurs_in n) element.condition) (any_member (occurs_in n) element.condition literal j o)));
      left = left_of element.condition (choice_elements (head_read (rewritten rule).head) element after.head m);
    };
    safe = interval_law rule (λ n m. (fine.named.known n m).1) ordered safe;
    body = all_stand (map literal_read (rewritten rule).body) after.body;
    head = is_head_fine (head_read (rewritten rule).head) after.head;
  }
    where
      in_condition : (element : ReadElement) (literal : PlainLiteral) → IsMember element.condition literal → (n : ℕ) → occurs_in n literal ≡ true → occurs_in_element n element ≡ true
      in_condition element literal j n o =
          or_right (occurs n element.first || occurs_in_option n element.duration || list_any (occurs n) element.rest) (list_any (occurs_in n) element.condition)
          (any_member (occurs_in n) element.condition literal j o)

pub groundable_law : GroundableLaw
groundable_law rule tree fine safe = groundable rule tree fine safe
