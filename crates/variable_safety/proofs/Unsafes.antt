-- The variables of a rule that are noted are those that are unsafe.
use Rattle.std.proofs.Common.{◌≡◌, ◌⊎◌, inl, inr, ℕ, ◌&&◌, Bool, true, false, not, List, [], refl, sym, ap, ◌∙◌, subst}
use Rattle.std.specs.List.{flat_map}
use Rattle.ground_model.specs.Members.{IsMember}
use Rattle.ground_model.proofs.Bools.{and_elim, and_intro}
use Rattle.program_meaning.specs.Read.{PlainLiteral, ReadElement, ReadTheory, ReadLiteral, ReadPlain, ReadTold, ReadChoice, ReadHead, ReadNothing, ReadAtom, ReadDuty, ReadChoose, ReadRule, plains}
use Rattle.program_meaning.specs.Variables.{is_global, globals, occurs_in_element, occurs_in_choice, element_locals, choice_locals}
use Rattle.program_meaning.specs.Tuples.{told_in, duty_in, theories}
use Rattle.program_meaning.specs.Count.{choices_in}
use Rattle.program_meaning.specs.Safety.{IsBound, IsBoundInCondition, IsUnsafe, UnsafeInBody, UnsafeInElement, UnsafeInChoice}
use Rattle.variable_safety.specs.Unsafe.{AreUnsafe}
use Rattle.variable_safety.specs.inner.Occurring.{element_variables, choice_variables, global_variables}
use Rattle.variable_safety.specs.inner.Binding.{AreFlags}
use Rattle.variable_safety.specs.inner.Noting.{Notes, IsLoose, LooseInElements, LooseInChoices, LooseInHead, LooseInLiteral, LooseInBody, IsLooseInRule}
use Rattle.variable_safety.proofs.Lists.{listed, is_listed, member_append, member_left, member_right, member_flat, flat_member, member_filter, filter_member}
use Rattle.variable_safety.proofs.Occurs.{element_is, choice_is, global_is}
use Rattle.variable_safety.proofs.Binds.{bound_from}
use Rattle.variable_safety.proofs.Notes.{notes_both}

global_listed : (rule : ReadRule) (n : ℕ) → is_global rule n ≡ true → IsMember (global_variables rule) n
global_listed rule n e = listed n (global_variables rule) (sym (global_is rule n) ∙ e)

listed_global : (rule : ReadRule) (n : ℕ) → IsMember (global_variables rule) n → is_global rule n ≡ true
listed_global rule n m = global_is rule n ∙ is_listed n (global_variables rule) m

not_global : (rule : ReadRule) (n : ℕ) → (IsMember (global_variables rule) n → ⊥) → not (is_global rule n) ≡ true
not_global rule n h = by_test (is_global rule n) refl
  where
    by_test : (b : Bool) → is_global rule n ≡ b → not (is_global rule n) ≡ true
    by_test true e = absurd (h (global_listed rule n e))
    by_test false e = ap not e

is_local : (rule : ReadRule) (n : ℕ) → not (is_global rule n) ≡ true → IsMember (global_variables rule) n → ⊥
is_local rule n e m = let f : false ≡ true = ap not (sym (listed_global rule n m)) ∙ e in cc

condition_bound_back : (rule : ReadRule) (condition : List PlainLiteral) (n : ℕ) → IsBoundInCondition rule condition n → IsBound (IsMember (global_variables rule)) condition n
condition_bound_back rule condition n b = (b.0, bound_from (λ m. is_global rule m ≡ true) (IsMember (global_variables rule)) (global_listed rule) condition b.0 n b.1)

condition_bound_forth : (rule : ReadRule) (condition : List PlainLiteral) (n : ℕ) → IsBound (IsMember (global_variables rule)) condition n → IsBoundInCondition rule condition n
condition_bound_forth rule condition n b = (b.0, bound_from (IsMember (global_variables rule)) (λ m. is_global rule m ≡ true) (listed_global rule) condition b.0 n b.1)

-- FROM NOTES

elements_unsafe : (rule : ReadRule) (n : ℕ) → IsMember rule.order n → (theory : ReadTheory) → IsMember (theories rule) theory
    → LooseInElements (global_variables rule) theory.elements n → IsUnsafe rule n
elements_unsafe rule n o theory t l =
    UnsafeInElement theory l.0 t l.1
    (filter_member (λ m. occurs_in_element m l.0 && not (is_global rule m)) rule.order n o
    (and_intro (occurs_in_element n l.0) (not (is_global rule n)) (element_is n l.0 ∙ is_listed n (element_variables l.0) l.2.0) (not_global rule n l.2.1)))
    (λ b. l.2.2 (condition_bound_back rule l.0.condition n b))

choices_unsafe : (rule : ReadRule) (n : ℕ) → IsMember rule.order n → LooseInChoices (global_variables rule) (choices_in rule.head) n → IsUnsafe rule n
choices_unsafe rule n o l =
    UnsafeInChoice l.0 l.1
    (filter_member (λ m. occurs_in_choice m l.0 && not (is_global rule m)) rule.order n o
    (and_intro (occurs_in_choice n l.0) (not (is_global rule n)) (choice_is n l.0 ∙ is_listed n (choice_variables l.0) l.2.0) (not_global rule n l.2.1)))
    (λ b. l.2.2 (condition_bound_back rule l.0.condition n b))

head_unsafe : (rule : ReadRule) (n : ℕ) → IsMember rule.order n → (head : ReadHead) → head ≡ rule.head → LooseInHead (global_variables rule) head n → IsUnsafe rule n
head_unsafe rule n o ReadNothing e l = absurd l
head_unsafe rule n o (ReadAtom term) e l = absurd l
head_unsafe rule n o (ReadDuty theory) e l =
    elements_unsafe rule n o theory
    (member_right (flat_map told_in rule.body) (duty_in rule.head) theory (subst (λ h. IsMember (duty_in h) theory) e (inl refl))) l
head_unsafe rule n o (ReadChoose left elements right) e l =
    choices_unsafe rule n o (subst (λ h. LooseInChoices (global_variables rule) (choices_in h) n) e l)

literal_unsafe : (rule : ReadRule) (n : ℕ) → IsMember rule.order n → (literal : ReadLiteral) → IsMember rule.body literal → LooseInLiteral (global_variables rule) literal n
    → IsUnsafe rule n
literal_unsafe rule n o (ReadPlain literal) m l = absurd l
literal_unsafe rule n o (ReadTold theory sign) m l =
    elements_unsafe rule n o theory
    (member_left (flat_map told_in rule.body) (duty_in rule.head) theory (flat_member told_in rule.body (ReadTold theory sign) theory m (inl refl))) l

loose_unsafe : (rule : ReadRule) (n : ℕ) → IsMember rule.order n → IsLooseInRule rule n → IsUnsafe rule n
loose_unsafe rule n o (inl l) = UnsafeInBody (filter_member (is_global rule) rule.order n o (listed_global rule n l.0)) (λ b. l.2 b)
loose_unsafe rule n o (inr (inl l)) = head_unsafe rule n o rule.head refl l
loose_unsafe rule n o (inr (inr l)) = literal_unsafe rule n o l.0 l.1 l.2

-- TO NOTES

element_loose : (rule : ReadRule) (n : ℕ) (element : ReadElement) → IsMember (element_locals rule element) n → (IsBoundInCondition rule element.condition n → ⊥)
    → IsLoose (global_variables rule) (element_variables element) element.condition n
element_loose rule n element m none =
    let r = member_filter (λ k. occurs_in_element k element && not (is_global rule k)) rule.order n m in
    let s = and_elim (occurs_in_element n element) (not (is_global rule n)) r.1 in (
      listed n (element_variables element) (sym (element_is n element) ∙ s.0),
      is_local rule n s.1,
      λ b. none (condition_bound_forth rule element.condition n b),
    )

choice_loose : (rule : ReadRule) (n : ℕ) (element : ReadChoice) → IsMember (choice_locals rule element) n → (IsBoundInCondition rule element.condition n → ⊥)
    → IsLoose (global_variables rule) (choice_variables element) element.condition n
choice_loose rule n element m none =
    let r = member_filter (λ k. occurs_in_choice k element && not (is_global rule k)) rule.order n m in
    let s = and_elim (occurs_in_choice n element) (not (is_global rule n)) r.1 in (
      listed n (choice_variables element) (sym (choice_is n element) ∙ s.0),
      is_local rule n s.1,
      λ b. none (condition_bound_forth rule element.condition n b),
    )

duty_loose : (given : List ℕ) (n : ℕ) (head : ReadHead) (theory : ReadTheory) → IsMember (duty_in head) theory → LooseInElements given theory.elements n → LooseInHead given head n
duty_loose given n ReadNothing theory m l = absurd m
duty_loose given n (ReadAtom term) theory m l = absurd m
duty_loose given n (ReadDuty one) theory (inl e) l = subst (λ (t : ReadTheory). LooseInElements given t.elements n) e l
duty_loose given n (ReadDuty one) theory (inr m) l = absurd m
duty_loose given n (ReadChoose left elements right) theory m l = absurd m

told_loose : (given : List ℕ) (n : ℕ) (literal : ReadLiteral) (theory : ReadTheory) → IsMember (told_in literal) theory → LooseInElements given theory.elements n
    → LooseInLiteral given literal n
told_loose given n (ReadPlain literal) theory m l = absurd m
told_loose given n (ReadTold one sign) theory (inl e) l = subst (λ (t : ReadTheory). LooseInElements given t.elements n) e l
told_loose given n (ReadTold one sign) theory (inr m) l = absurd m

chosen_loose : (given : List ℕ) (n : ℕ) (head : ReadHead) → LooseInChoices given (choices_in head) n → LooseInHead given head n
chosen_loose given n ReadNothing l = absurd l.1
chosen_loose given n (ReadAtom term) l = absurd l.1
chosen_loose given n (ReadDuty theory) l = absurd l.1
chosen_loose given n (ReadChoose left elements right) l = l

unsafe_loose : (rule : ReadRule) (n : ℕ) → IsUnsafe rule n → IsLooseInRule rule n
unsafe_loose rule n (UnsafeInBody m none) =
    let r = member_filter (is_global rule) rule.order n m in
    inl (global_listed rule n r.1, (λ x. x), (λ b. none b))
unsafe_loose rule n (UnsafeInElement theory element t m l none) =
    let found : LooseInElements (global_variables rule) theory.elements n = (element, m, element_loose rule n element l none) in
    elim (member_append (flat_map told_in rule.body) (duty_in rule.head) theory t) [
      | inl k ↦ (let f = member_flat told_in rule.body theory k in inr (inr (f.0, f.1, told_loose (global_variables rule) n f.0 theory f.2 found)))
      | inr k ↦ inr (inl (duty_loose (global_variables rule) n rule.head theory k found))
    ]
unsafe_loose rule n (UnsafeInChoice element m l none) =
    inr (inl (chosen_loose (global_variables rule) n rule.head (element, m, choice_loose rule n element l none)))

-- the flags of what was noted, which does not depend on the order
pub unsafe_flags : (rule : ReadRule) (bare : ReadRule) (found : List ℕ) (flags : List Bool) → bare.head ≡ rule.head → bare.body ≡ rule.body
    → Notes (IsLooseInRule bare) [] found → AreFlags found flags → AreUnsafe rule flags
unsafe_flags rule bare found flags e f notes h = record {
  sound = λ n o flag. elim (notes.sound n (listed n found (sym (h n) ∙ flag))) [ inl none ↦ absurd none | inr l ↦ loose_unsafe rule n o (same n l) ];
  whole = λ n u. h n ∙ is_listed n found (notes.whole n (back n (unsafe_loose rule n u)));
}
  where
    Loose : ReadHead → List ReadLiteral → ℕ → Type 0
    Loose head body n = IsLooseInRule (record { head = head; body = body; order = [] }) n

    same : (n : ℕ) → IsLooseInRule bare n → IsLooseInRule rule n
    same n l = subst (λ b. IsLooseInRule (record { head = rule.head; body = b; order = [] }) n) f (subst (λ h. IsLooseInRule (record { head = h; body = bare.body; order = [] }) n) e l)

    back : (n : ℕ) → IsLooseInRule rule n → IsLooseInRule bare n
    back n l = subst (λ b. IsLooseInRule (record { head = bare.head; body = b; order = [] }) n) (sym f) (subst (λ h. IsLooseInRule (record { head = h; body = rule.body; order = [] }) n) (sym e) l)

pub none_unsafe : (rule : ReadRule) (flags : List Bool) → rule.order ≡ [] → AreUnsafe rule flags
none_unsafe rule flags e = record {
  sound = λ n m. let k : IsMember [] n = subst (λ v. IsMember v n) e m in absurd k;
  whole = λ n u. let k : IsMember [] n = subst (λ v. IsMember v n) e (in_order n u) in absurd k;
}
  where
    in_order : (n : ℕ) → IsUnsafe rule n → IsMember rule.order n
    in_order n (UnsafeInBody m none) = (member_filter (is_global rule) rule.order n m).0
    in_order n (UnsafeInElement theory element t m l none) = (member_filter (λ k. occurs_in_element k element && not (is_global rule k)) rule.order n l).0
    in_order n (UnsafeInChoice element m l none) = (member_filter (λ k. occurs_in_choice k element && not (is_global rule k)) rule.order n l).0

-- the three parts of a rule, one behind the other
rule_noted : (rule : ReadRule) (one two three : List ℕ) → Notes (IsLoose [] (global_variables rule) (plains rule.body)) [] one
    → Notes (LooseInHead (global_variables rule) rule.head) one two → Notes (LooseInBody (global_variables rule) rule.body) two three → Notes (IsLooseInRule rule) [] three
rule_noted rule one two three a b c =
    let A : ℕ → Type 0 = IsLoose [] (global_variables rule) (plains rule.body) in
    let B : ℕ → Type 0 = LooseInHead (global_variables rule) rule.head in
    let C : ℕ → Type 0 = LooseInBody (global_variables rule) rule.body in
    notes_both A (λ n. B n ⊎ C n) (IsLooseInRule rule) [] one three a
    (notes_both B C (λ n. B n ⊎ C n) one two three b c (λ n p. inl p) (λ n p. inr p) (λ n p. p))
    (λ n p. inl p) (λ n p. inr p) (λ n p. p)

pub rule_noted_at : (rule : ReadRule) (globals items given f0 one two three : List ℕ) (body : List ReadLiteral) → globals ≡ global_variables rule → items ≡ globals → given ≡ globals → f0 ≡ []
    → body ≡ rule.body → Notes (IsLoose [] items (plains rule.body)) f0 one → Notes (LooseInHead given rule.head) one two → Notes (LooseInBody given body) two three
    → Notes (IsLooseInRule rule) [] three
rule_noted_at rule globals items given f0 one two three body e f g z b h k l =
    rule_noted rule one two three
    (subst (λ v. Notes (IsLoose [] v (plains rule.body)) [] one) (f ∙ e) (subst (λ v. Notes (IsLoose [] items (plains rule.body)) v one) z h))
    (subst (λ v. Notes (LooseInHead v rule.head) one two) (g ∙ e) k)
    (subst (λ v. Notes (LooseInBody v rule.body) two three) (g ∙ e) (subst (λ v. Notes (LooseInBody given v) two three) b l))
