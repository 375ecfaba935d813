-- The causes of an instance are those of its theory atoms, and those beside them.
use Rattle.std.proofs.Common.{◌≡◌, ◌⊎◌, ◌↔◌, inl, inr, true, List, subst}
use Rattle.std.specs.List.{flat_map, list_any}
use Rattle.symbols.specs.Symbol.{Symbol}
use Rattle.symbols.specs.declared.ends.Ends.{Ends}
use Rattle.syntax_tree.specs.Outcome.{Outcome}
use Rattle.ground_model.specs.Members.{IsMember}
use Rattle.ground_model.proofs.Bools.{or_left, or_right}
use Rattle.ground_model.proofs.MemberLemmas.{any_member}
use Rattle.program_meaning.specs.Read.{PlainLiteral, ReadTheory, ReadLiteral, ReadPlain, ReadTold, ReadHead, ReadNothing, ReadAtom, ReadDuty, ReadChoose, ReadRule, plains}
use Rattle.program_meaning.specs.Substitution.{Value}
use Rattle.program_meaning.specs.Theory.{guard_over}
use Rattle.program_meaning.specs.Instance.{bound_in, IsPossible}
use Rattle.program_meaning.specs.Tuples.{theories, told_in, duty_in}
use Rattle.program_meaning.specs.Outside.{head_over, literal_over, is_rule_over, HasOverflow, RuleOver, ChoiceOver, ElementOver, HasNotLinear, GuardNotLinear, ElementNotLinear, HasTooMany, HasLarge, GuardLarge, ElementLarge, TotalLarge, ValueLarge, HasCause, Cause, Overflow, NotLinear, TooManyElements, TooLarge}
use Rattle.program_meaning.proofs.Lists.{append_from, flat_from}
use Rattle.theory_laws.specs.Collecting.{IsAtomOver, GuardIsOver, ElementIsOver, IsAtomNotLinear, GuardIsNotLinear, ElementIsNotLinear, IsAtomLarge, GuardIsLarge, ElementIsLarge, TotalIsLarge, AtomHas}
use Rattle.theory_laws.specs.Laws.{HasBeside, CausesLaw}

-- a guard of a theory atom that is over is over in its rule

told_over : (literals : List PlainLiteral) (bound : List Outcome) (theory : ReadTheory) (literal : ReadLiteral) → IsMember (told_in literal) theory
    → guard_over bound theory.guard ≡ true → literal_over literals bound literal ≡ true
told_over literals bound theory (ReadPlain literal) m e = absurd m
told_over literals bound theory (ReadTold other sign) (inl s) e = subst (λ t. guard_over bound t.guard ≡ true) s e
told_over literals bound theory (ReadTold other sign) (inr m) e = absurd m

duty_over : (bound : List Outcome) (theory : ReadTheory) (head : ReadHead) → IsMember (duty_in head) theory → guard_over bound theory.guard ≡ true → head_over bound head ≡ true
duty_over bound theory ReadNothing m e = absurd m
duty_over bound theory (ReadAtom term) m e = absurd m
duty_over bound theory (ReadDuty other) (inl s) e = subst (λ t. guard_over bound t.guard ≡ true) s e
duty_over bound theory (ReadDuty other) (inr m) e = absurd m
duty_over bound theory (ReadChoose left elements right) m e = absurd m

guard_in_rule : (rule : ReadRule) (values : List Value) (theory : ReadTheory) → IsMember (theories rule) theory → guard_over (bound_in rule values) theory.guard ≡ true
    → is_rule_over rule values ≡ true
guard_in_rule rule values theory m e = go (append_from (flat_map told_in rule.body) (duty_in rule.head) theory m)
  where
    go : IsMember (flat_map told_in rule.body) theory ⊎ IsMember (duty_in rule.head) theory → is_rule_over rule values ≡ true
    go (inl b) =
        let found = flat_from told_in rule.body theory b in
        or_right (head_over (bound_in rule values) rule.head) (list_any (literal_over (plains rule.body) (bound_in rule values)) rule.body)
        (any_member (literal_over (plains rule.body) (bound_in rule values)) rule.body found.0 found.1
        (told_over (plains rule.body) (bound_in rule values) theory found.0 found.2 e))
    go (inr h) =
        or_left (head_over (bound_in rule values) rule.head) (list_any (literal_over (plains rule.body) (bound_in rule values)) rule.body)
        (duty_over (bound_in rule values) theory rule.head h e)

module _ (P : Symbol → Type 0) (ends : Ends) (rule : ReadRule) (values : List Value) where
  abbrev Some_has : Cause → Type 0
  Some_has cause = (theory : ReadTheory) × IsMember (theories rule) theory × AtomHas P rule values theory cause

  overflow_to : HasOverflow P rule values → HasBeside P ends rule values Overflow ⊎ Some_has Overflow
  overflow_to (RuleOver e) = inl (inl e)
  overflow_to (ChoiceOver key element relevant e) = inl (inr (key, element, relevant, e))
  overflow_to (ElementOver theory m key element relevant e) = inr (theory, m, ElementIsOver key element relevant e)

  atom_over : (theory : ReadTheory) → IsMember (theories rule) theory → IsAtomOver P rule values theory → HasOverflow P rule values
  atom_over theory m (GuardIsOver e) = RuleOver (guard_in_rule rule values theory m e)
  atom_over theory m (ElementIsOver key element relevant e) = ElementOver theory m key element relevant e

  overflow_from : HasBeside P ends rule values Overflow ⊎ Some_has Overflow → HasOverflow P rule values
  overflow_from (inl (inl e)) = RuleOver e
  overflow_from (inl (inr (key, element, relevant, e))) = ChoiceOver key element relevant e
  overflow_from (inr (theory, m, over)) = atom_over theory m over

  linear_to : HasNotLinear P rule values → HasBeside P ends rule values NotLinear ⊎ Some_has NotLinear
  linear_to (GuardNotLinear theory m e) = inr (theory, m, GuardIsNotLinear e)
  linear_to (ElementNotLinear theory m key element relevant e) = inr (theory, m, ElementIsNotLinear key element relevant e)

  atom_not_linear : (theory : ReadTheory) → IsMember (theories rule) theory → IsAtomNotLinear P rule values theory → HasNotLinear P rule values
  atom_not_linear theory m (GuardIsNotLinear e) = GuardNotLinear theory m e
  atom_not_linear theory m (ElementIsNotLinear key element relevant e) = ElementNotLinear theory m key element relevant e

  linear_from : HasBeside P ends rule values NotLinear ⊎ Some_has NotLinear → HasNotLinear P rule values
  linear_from (inl none) = absurd none
  linear_from (inr (theory, m, has)) = atom_not_linear theory m has

  many_to : HasTooMany P rule values → HasBeside P ends rule values TooManyElements ⊎ Some_has TooManyElements
  many_to has = inr has

  many_from : HasBeside P ends rule values TooManyElements ⊎ Some_has TooManyElements → HasTooMany P rule values
  many_from (inl none) = absurd none
  many_from (inr has) = has

  large_to : HasLarge P ends rule values → HasBeside P ends rule values TooLarge ⊎ Some_has TooLarge
  large_to (GuardLarge theory m e) = inr (theory, m, GuardIsLarge e)
  large_to (ElementLarge theory m key element relevant e) = inr (theory, m, ElementIsLarge key element relevant e)
  large_to (TotalLarge theory m large) = inr (theory, m, TotalIsLarge large)
  large_to (ValueLarge theory m large) = inl (theory, m, large)

  atom_large : (theory : ReadTheory) → IsMember (theories rule) theory → IsAtomLarge P rule values theory → HasLarge P ends rule values
  atom_large theory m (GuardIsLarge e) = GuardLarge theory m e
  atom_large theory m (ElementIsLarge key element relevant e) = ElementLarge theory m key element relevant e
  atom_large theory m (TotalIsLarge large) = TotalLarge theory m large

  large_from : HasBeside P ends rule values TooLarge ⊎ Some_has TooLarge → HasLarge P ends rule values
  large_from (inl (theory, m, large)) = ValueLarge theory m large
  large_from (inr (theory, m, large)) = atom_large theory m large

  pub each_cause : (cause : Cause) → HasCause P ends rule values cause ↔ (HasBeside P ends rule values cause ⊎ Some_has cause)
  each_cause Overflow = (overflow_to, overflow_from)
  each_cause NotLinear = (linear_to, linear_from)
  each_cause TooManyElements = (many_to, many_from)
  each_cause TooLarge = (large_to, large_from)

pub causes_law : CausesLaw
causes_law rules ends rule values cause = each_cause (IsPossible rules) ends rule values cause
