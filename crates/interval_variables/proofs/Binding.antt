-- No variable is unsafe where none is but for those made for intervals.
use Rattle.std.proofs.Common.{◌≡◌, ◌⊎◌, ◌≤◌, ◌<◌, inl, inr, ℕ, zero, suc, ◌+◌, ◌||◌, ◌&&◌, Bool, true, false, not, List, [], ◌∷◌, ◌++◌, map, length, refl, sym, ap, ◌∙◌, subst, eqb-true, true≢false, arith}
use Rattle.std.specs.List.{list_any, flat_map}
use Rattle.symbols.specs.declared.rel.Rel.TheVariants.{Equal}
use Rattle.syntax_tree.specs.declared.term.Term.{Term}
use Rattle.syntax_tree.specs.declared.term.Term.TheVariants as t
use Rattle.syntax_tree.specs.declared.rule.Rule.{Rule}
use Rattle.ground_model.specs.Members.{IsMember}
use Rattle.ground_model.proofs.Bools.{or_elim, or_left, or_right, and_elim, and_intro, bool_cases}
use Rattle.ground_model.proofs.MemberLemmas.{any_member, member_any, map_member}
use Rattle.rewriting.specs.declared.sight.Sight.{Sight}
use Rattle.rewriting.specs.declared.sight.Sight.TheVariants.{Variable, Anonymous, Interval, Atom}
use Rattle.rewriting.specs.Rewritten.{parts_made}
use Rattle.rewriting.specs.Order.{order_of, sights_of, is_interval_sight, is_interval_variable}
use Rattle.program_meaning.specs.Read.{PlainLiteral, PlainCompare, ReadElement, ReadTheory, ReadLiteral, ReadPlain, ReadTold, ReadChoice, ReadHead, ReadNothing, ReadAtom, ReadDuty, ReadChoose, plain_of, plains, literal_read}
use Rattle.program_meaning.specs.Variables.{occurs, occurs_in, occurs_in_option, occurs_in_literal, occurs_in_head, occurs_in_element, occurs_in_choice, is_global}
use Rattle.program_meaning.specs.Tuples.{told_in, duty_in, theories}
use Rattle.program_meaning.specs.Count.{choices_in}
use Rattle.program_meaning.specs.Safety.{IsBoundInBody, IsBoundInCondition, IsUnsafe, UnsafeInBody, UnsafeInElement, UnsafeInChoice}
use Rattle.program_meaning.proofs.Lists.{append_from}
use Rattle.safety_meaning.specs.Program.{rule_of}
use Rattle.safety_meaning.specs.Failures.{HasNoUnsafe}
use Rattle.variable_safety.proofs.Lists.{member_append, member_flat, member_filter, filter_member}
use Rattle.interval_variables.specs.Laws.{IsInOrder, IntervalLaw}
use Rattle.interval_variables.proofs.Scopes.{Named, plain_in, plain_split, equation_right, Scoped}
use Rattle.interval_variables.proofs.ScopedRules.{PlainEquation, plain_equation, ElementsMeet, ChoiceMeets, LiteralMeets, HeadMeets, outer_parts, InnerParts, scoped_parts}
use Rattle.interval_variables.proofs.Ranks.{not_unbound}

any_mapped : {X Y : Type 0} (test : Y → Bool) (f : X → Y) (xs : List X) → list_any test (map f xs) ≡ list_any (λ x. test (f x)) xs
any_mapped test f [] = refl
any_mapped test f (x ∷ xs) = ap (λ b. test (f x) || b) (any_mapped test f xs)

plain_in_body : (body : List ReadLiteral) (one : PlainLiteral) → IsMember (plains body) one → IsMember body (ReadPlain one)
plain_in_body body one m = let f = member_flat plain_of body one m in subst (IsMember body) (is f.0 f.2) f.1
  where
    is : (literal : ReadLiteral) → IsMember (plain_of literal) one → literal ≡ ReadPlain one
    is (ReadPlain literal) (inl e) = ap ReadPlain (sym e)
    is (ReadPlain literal) (inr none) = absurd none
    is (ReadTold theory sign) none = absurd none

sight_is : (n : ℕ) (s : Sight) → is_interval_sight n s ≡ true → s ≡ Interval n
sight_is n (Interval m) e = ap Interval (eqb-true m n e)
sight_is n (Variable m) e = absurd (true≢false (sym e))
sight_is n (Anonymous m) e = absurd (true≢false (sym e))
sight_is n Atom e = absurd (true≢false (sym e))

duty_meets : (N n : ℕ) (head : ReadHead) (theory : ReadTheory) → HeadMeets N n head → IsMember (duty_in head) theory → ElementsMeet N n theory.elements
duty_meets N n ReadNothing theory h m = absurd m
duty_meets N n (ReadAtom term) theory h m = absurd m
duty_meets N n (ReadDuty one) theory h (inl e) = subst (λ (v : ReadTheory). ElementsMeet N n v.elements) (sym e) h
duty_meets N n (ReadDuty one) theory h (inr none) = absurd none
duty_meets N n (ReadChoose left elements right) theory h m = absurd m

told_meets : (N n : ℕ) (literal : ReadLiteral) (theory : ReadTheory) → LiteralMeets N n literal → IsMember (told_in literal) theory → ElementsMeet N n theory.elements
told_meets N n (ReadPlain literal) theory h m = absurd m
told_meets N n (ReadTold one sign) theory h (inl e) = subst (λ (v : ReadTheory). ElementsMeet N n v.elements) (sym e) h
told_meets N n (ReadTold one sign) theory h (inr none) = absurd none

chosen_meets : (N n : ℕ) (head : ReadHead) (element : ReadChoice) → HeadMeets N n head → IsMember (choices_in head) element → ChoiceMeets N n element
chosen_meets N n ReadNothing element h m = absurd m
chosen_meets N n (ReadAtom term) element h m = absurd m
chosen_meets N n (ReadDuty one) element h m = absurd m
chosen_meets N n (ReadChoose left elements right) element h m = h element m

module _ (rule : Rule) (named : Named (length rule.names) (sights_of rule)) (ordered : IsInOrder (rule_of rule)) (fine : HasNoUnsafe rule) where
  scope : (n : ℕ) → Scoped (length rule.names) n (outer_parts (length rule.names) n) (InnerParts (length rule.names) n) (length rule.names + 1) (parts_made rule)
  scope n = scoped_parts (length rule.names) n rule (omega arith) named

  in_sights : (n : ℕ) → is_interval_variable rule n ≡ true → IsMember (sights_of rule) (Interval n)
  in_sights n e = let r = member_any (is_interval_sight n) (sights_of rule) e in subst (IsMember (sights_of rule)) (sight_is n r.0 r.2) r.1

  made_above : (n : ℕ) → is_interval_variable rule n ≡ true → (length rule.names < n) × (n < (parts_made rule).next)
  made_above n e = let r = (scope n).interval (in_sights n e) in let low = r.0 in (omega (arith, low), r.1)

  global_equation : (n : ℕ) → is_interval_variable rule n ≡ true → is_global (rule_of rule) n ≡ true → PlainEquation (length rule.names) n (plains (rule_of rule).body)
  global_equation n e g =
      plain_equation (length rule.names) n ((parts_made rule).made.1 ++ (parts_made rule).added)
      (equation_right (length rule.names) n (parts_made rule).made.1 (parts_made rule).added
      ((scope n).here (made_above n e).0 (λ r. in_sights n e) (by (or_elim (occurs_in_head n (rule_of rule).head) (list_any (occurs_in_literal n) (rule_of rule).body) g))))
    where
      by : (occurs_in_head n (rule_of rule).head ≡ true) ⊎ (list_any (occurs_in_literal n) (rule_of rule).body ≡ true)
          → (outer_parts (length rule.names) n (parts_made rule).made ≡ true) ⊎ (plain_in n (parts_made rule).added ≡ true)
      by (inl h) = inl (or_left (occurs_in_head n (rule_of rule).head) (plain_in n (parts_made rule).made.1) h)
      by (inr h) = elim (plain_split n (parts_made rule).made.1 (parts_made rule).added (sym (any_mapped (occurs_in_literal n) literal_read ((parts_made rule).made.1 ++ (parts_made rule).added)) ∙ h)) [
        | inl k ↦ inl (or_right (occurs_in_head n (rule_of rule).head) (plain_in n (parts_made rule).made.1) k)
        | inr k ↦ inr k
      ]

  inside : (n : ℕ) → is_interval_variable rule n ≡ true → InnerParts (length rule.names) n (parts_made rule).made
  inside n e = (scope n).inner (made_above n e).0 (λ r. in_sights n e)

  told_equation : (n : ℕ) → is_interval_variable rule n ≡ true → (theory : ReadTheory) → IsMember (theories (rule_of rule)) theory → ElementsMeet (length rule.names) n theory.elements
  told_equation n e theory m =
      elim (member_append (flat_map told_in (rule_of rule).body) (duty_in (rule_of rule).head) theory m) [
        | inl k ↦ (
            let f = member_flat told_in (rule_of rule).body theory k in
            let r = map_member literal_read ((parts_made rule).made.1 ++ (parts_made rule).added) f.0 f.1 in
            let own : IsMember (told_in (literal_read r.0)) theory = subst (λ v. IsMember (told_in v) theory) r.2 f.2 in
            elim (append_from (parts_made rule).made.1 (parts_made rule).added r.0 r.1) [
              | inl i ↦ told_meets (length rule.names) n (literal_read r.0) theory ((inside n e).1 r.0 i) own
              | inr i ↦ absurd (none_in (told_in (literal_read r.0)) theory ((scope n).told r.0 i) own)
            ])
        | inr k ↦ duty_meets (length rule.names) n (rule_of rule).head theory (inside n e).0 k
      ]
    where
      none_in : (xs : List ReadTheory) (x : ReadTheory) → xs ≡ [] → IsMember xs x → ⊥
      none_in xs x e m = subst (λ v. IsMember v x) e m

  chosen_equation : (n : ℕ) → is_interval_variable rule n ≡ true → (element : ReadChoice) → IsMember (choices_in (rule_of rule).head) element → ChoiceMeets (length rule.names) n element
  chosen_equation n e element m = chosen_meets (length rule.names) n (rule_of rule).head element (inside n e).0 m

  in_order : (n : ℕ) → IsUnsafe (rule_of rule) n → IsMember (order_of rule) n
  in_order n (UnsafeInBody m none) = (member_filter (is_global (rule_of rule)) (order_of rule) n m).0
  in_order n (UnsafeInElement theory element tm em m none) = (member_filter (λ k. occurs_in_element k element && not (is_global (rule_of rule) k)) (order_of rule) n m).0
  in_order n (UnsafeInChoice element em m none) = (member_filter (λ k. occurs_in_choice k element && not (is_global (rule_of rule) k)) (order_of rule) n m).0

  own_safe : (n : ℕ) → is_interval_variable rule n ≡ false → IsUnsafe (rule_of rule) n → ⊥
  own_safe n own u = fine n (in_order n u) own u

  later_safe : (n : ℕ) → ((m : ℕ) → n < m → IsUnsafe (rule_of rule) m → ⊥) → (m : ℕ) → (m ≤ length rule.names) ⊎ (n < m) → IsUnsafe (rule_of rule) m → ⊥
  later_safe n rec m (inr more) u = rec m more u
  later_safe n rec m (inl low) u = elim (bool_cases (is_interval_variable rule m)) [
    | inl e ↦ (let above = (made_above m e).0 in absurd (omega (arith, above, low)))
    | inr own ↦ own_safe m own u
  ]

  not_of : (b : Bool) → b ≡ false → not b ≡ true
  not_of true e = absurd (true≢false e)
  not_of false e = refl

  occurs_there : (m n : ℕ) (term : Term) → occurs m term ≡ true → occurs_in m (PlainCompare (t.Variable n) Equal term) ≡ true
  occurs_there m n term o = or_right (occurs m (t.Variable n)) (occurs m term) o

  body_safe : (n : ℕ) → is_interval_variable rule n ≡ true → ((m : ℕ) → n < m → IsUnsafe (rule_of rule) m → ⊥) → is_global (rule_of rule) n ≡ true → (IsBoundInBody (rule_of rule) n → ⊥) → ⊥
  body_safe n e rec g none =
      let q = global_equation n e g in
      not_unbound (λ m. ⊥) (plains (rule_of rule).body) q.0 n q.1
      (λ m o unbound.
      let there : is_global (rule_of rule) m ≡ true =
      or_right (occurs_in_head m (rule_of rule).head) (list_any (occurs_in_literal m) (rule_of rule).body)
      (any_member (occurs_in_literal m) (rule_of rule).body (ReadPlain (PlainCompare (t.Variable n) Equal q.0))
      (plain_in_body (rule_of rule).body (PlainCompare (t.Variable n) Equal q.0) q.1) (occurs_there m n q.0 o)) in
      later_safe n rec m (q.2 m o) (UnsafeInBody (filter_member (is_global (rule_of rule)) (order_of rule) m (ordered.global m there) there) unbound)) none

  -- the condition of an element
  condition_safe : (n : ℕ) (condition : List PlainLiteral) → PlainEquation (length rule.names) n condition
      → ((m : ℕ) → (m ≤ length rule.names) ⊎ (n < m) → list_any (occurs_in m) condition ≡ true → is_global (rule_of rule) m ≡ false → (IsBoundInCondition (rule_of rule) condition m → ⊥) → ⊥)
      → (IsBoundInCondition (rule_of rule) condition n → ⊥) → ⊥
  condition_safe n condition q local none =
      not_unbound (λ m. is_global (rule_of rule) m ≡ true) condition q.0 n q.1
      (λ m o unbound. elim (bool_cases (is_global (rule_of rule) m)) [
        | inl g ↦ unbound (0, g)
        | inr g ↦ local m (q.2 m o) (any_member (occurs_in m) condition (PlainCompare (t.Variable n) Equal q.0) q.1 (occurs_there m n q.0 o)) g unbound
      ]) none

  element_safe : (n : ℕ) → is_interval_variable rule n ≡ true → ((m : ℕ) → n < m → IsUnsafe (rule_of rule) m → ⊥) → (theory : ReadTheory) (element : ReadElement)
      → IsMember (theories (rule_of rule)) theory → IsMember theory.elements element → occurs_in_element n element ≡ true → (IsBoundInCondition (rule_of rule) element.condition n → ⊥) → ⊥
  element_safe n e rec theory element tm em o none =
      condition_safe n element.condition (told_equation n e theory tm element em o)
      (λ m later there g unbound.
      let stands : occurs_in_element m element ≡ true =
      or_right (occurs m element.first || occurs_in_option m element.duration || list_any (occurs m) element.rest) (list_any (occurs_in m) element.condition) there in
      later_safe n rec m later
      (UnsafeInElement theory element tm em
      (filter_member (λ k. occurs_in_element k element && not (is_global (rule_of rule) k)) (order_of rule) m (ordered.told theory element tm em m stands)
      (and_intro (occurs_in_element m element) (not (is_global (rule_of rule) m)) stands (not_of (is_global (rule_of rule) m) g))) unbound)) none

  choice_safe : (n : ℕ) → is_interval_variable rule n ≡ true → ((m : ℕ) → n < m → IsUnsafe (rule_of rule) m → ⊥) → (element : ReadChoice) → IsMember (choices_in (rule_of rule).head) element
      → occurs_in_choice n element ≡ true → (IsBoundInCondition (rule_of rule) element.condition n → ⊥) → ⊥
  choice_safe n e rec element em o none =
      condition_safe n element.condition (chosen_equation n e element em o)
      (λ m later there g unbound.
      let stands : occurs_in_choice m element ≡ true = or_right (occurs m element.atom) (list_any (occurs_in m) element.condition) there in
      later_safe n rec m later
      (UnsafeInChoice element em
      (filter_member (λ k. occurs_in_choice k element && not (is_global (rule_of rule) k)) (order_of rule) m (ordered.chosen element em m stands)
      (and_intro (occurs_in_choice m element) (not (is_global (rule_of rule) m)) stands (not_of (is_global (rule_of rule) m) g))) unbound)) none

  made_safe : (n : ℕ) → is_interval_variable rule n ≡ true → ((m : ℕ) → n < m → IsUnsafe (rule_of rule) m → ⊥) → IsUnsafe (rule_of rule) n → ⊥
  made_safe n e rec (UnsafeInBody m none) = body_safe n e rec (member_filter (is_global (rule_of rule)) (order_of rule) n m).1 none
  made_safe n e rec (UnsafeInElement theory element tm em m none) =
      element_safe n e rec theory element tm em
      (and_elim (occurs_in_element n element) (not (is_global (rule_of rule) n)) (member_filter (λ k. occurs_in_element k element && not (is_global (rule_of rule) k)) (order_of rule) n m).1).0 none
  made_safe n e rec (UnsafeInChoice element em m none) =
      choice_safe n e rec element em
      (and_elim (occurs_in_choice n element) (not (is_global (rule_of rule) n)) (member_filter (λ k. occurs_in_choice k element && not (is_global (rule_of rule) k)) (order_of rule) n m).1).0 none

  from_end : (left n : ℕ) → (parts_made rule).next ≤ n + left → IsUnsafe (rule_of rule) n → ⊥
  from_end zero n le u = elim (bool_cases (is_interval_variable rule n)) [
    | inl e ↦ (let below = (made_above n e).1 in absurd (omega (arith, below, le)))
    | inr own ↦ own_safe n own u
  ]
  from_end (suc left) n le u = elim (bool_cases (is_interval_variable rule n)) [
    | inl e ↦ made_safe n e (λ m more. from_end left m (omega (arith, le, more))) u
    | inr own ↦ own_safe n own u
  ]

  pub none_unsafe : (n : ℕ) → IsUnsafe (rule_of rule) n → ⊥
  none_unsafe n = from_end (parts_made rule).next n (omega arith)

pub interval_law : IntervalLaw
interval_law rule named ordered fine n = none_unsafe rule named ordered fine n
