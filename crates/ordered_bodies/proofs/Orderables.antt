-- What is in a rule that can be grounded can be put in order.
use Rattle.std.proofs.Common.{◌≡◌, ◌⊎◌, inl, inr, ℕ, zero, suc, Bool, true, false, not, ◌||◌, ◌&&◌, List, [], ◌∷◌, filter, if◌then◌else◌, refl, sym, ◌∙◌, ap, subst, true≢false}
use Rattle.std.specs.List.{AllByRecursion, list_any, flat_map}
use Rattle.ground_model.specs.Members.{IsMember}
use Rattle.ground_model.proofs.Bools.{and_intro, or_left, or_right, bool_cases}
use Rattle.ground_model.proofs.MemberLemmas.{any_member, property_from_members}
use Rattle.program_meaning.specs.Read.{PlainLiteral, PlainAtom, PlainCompare, ReadTheory, ReadLiteral, ReadPlain, ReadTold, ReadHead, ReadNothing, ReadAtom, ReadDuty, ReadChoose, ReadRule, plains}
use Rattle.program_meaning.specs.Variables.{occurs, occurs_in, occurs_in_option, occurs_in_guard, occurs_in_head, occurs_in_literal, occurs_in_choice, occurs_in_element, is_global, globals}
use Rattle.program_meaning.specs.Tuples.{theories, told_in, duty_in}
use Rattle.program_meaning.specs.Count.{choices_in}
use Rattle.program_meaning.specs.Safety.{Binds, BoundAt, IsBound, IsBoundInCondition, UnsafeInBody, UnsafeInElement, UnsafeInChoice}
use Rattle.program_meaning.specs.Search.{HasListed}
use Rattle.program_meaning.proofs.Lists.{append_left, append_right, flat_to}
use Rattle.instance_rows.proofs.LeafLemmas.{listed_member, member_listed}
use Rattle.groundable_rules.specs.Groundable.{IsGroundable}
use Rattle.ordered_bodies.specs.inner.Orderable.{IsOrderable}
use Rattle.ordered_bodies.specs.inner.Parts.{AreOrderable, AreOrderableIn, AreOrderableInHead, AreGlobal}

kept_member : (test : ℕ → Bool) (xs : List ℕ) (x : ℕ) → IsMember (filter test xs) x → test x ≡ true
kept_member test [] x m = absurd m
kept_member test (y ∷ ys) x m = go (test y) refl m (kept_member test ys x)
  where
    go : (b : Bool) → test y ≡ b → IsMember (if b then y ∷ filter test ys else filter test ys) x → (IsMember (filter test ys) x → test x ≡ true) → test x ≡ true
    go true e (inl f) rec = subst (λ z. test z ≡ true) (sym f) e
    go true e (inr m) rec = rec m
    go false e m rec = rec m

member_kept : (test : ℕ → Bool) (xs : List ℕ) (x : ℕ) → IsMember xs x → test x ≡ true → IsMember (filter test xs) x
member_kept test [] x m h = absurd m
member_kept test (y ∷ ys) x m h = go (test y) refl m (member_kept test ys x)
  where
    go : (b : Bool) → test y ≡ b → IsMember (y ∷ ys) x → (IsMember ys x → test x ≡ true → IsMember (filter test ys) x)
        → IsMember (if b then y ∷ filter test ys else filter test ys) x
    go true e (inl f) rec = inl f
    go true e (inr m) rec = inr (rec m h)
    go false e (inl f) rec = absurd (true≢false (sym h ∙ ap test f ∙ e))
    go false e (inr m) rec = rec m h

-- the rule's global variables
pub are_global : (rule : ReadRule) → AreGlobal rule rule.order (globals rule)
are_global rule n m = (
  λ h. kept_member (is_global rule) rule.order n (listed_member (globals rule) n h),
  λ h. member_listed (globals rule) n (member_kept (is_global rule) rule.order n m h),
)

-- A BODY

in_body : (n : ℕ) (body : List ReadLiteral) (literal : PlainLiteral) → IsMember (plains body) literal → occurs_in n literal ≡ true → list_any (occurs_in_literal n) body ≡ true
in_body n [] literal m e = absurd m
in_body n (ReadPlain one ∷ body) literal (inl f) e = or_left (occurs_in n one) (list_any (occurs_in_literal n) body) (subst (λ z. occurs_in n z ≡ true) f e)
in_body n (ReadPlain one ∷ body) literal (inr m) e = or_right (occurs_in n one) (list_any (occurs_in_literal n) body) (in_body n body literal m e)
in_body n (ReadTold theory sign ∷ body) literal m e =
    or_right (occurs_in_guard n theory.guard) (list_any (occurs_in_literal n) body) (in_body n body literal m e)

pub body_orderable : (rule : ReadRule) → IsGroundable rule → IsOrderable rule.order [] (plains rule.body)
body_orderable rule fine = record {
  listed = λ literal m n o. fine.listed.listed literal m n o;
  safe = λ n place literal m o h. fine.safe n (UnsafeInBody
      (member_kept (is_global rule) rule.order n place (or_right (occurs_in_head n rule.head) (list_any (occurs_in_literal n) rule.body) (in_body n rule.body literal m o))) h);
}

-- A CONDITION

-- what is bound where global variables are, is bound where those in the order are
module _ (rule : ReadRule) (own : List PlainLiteral) (listed : (literal : PlainLiteral) → IsMember own literal → (n : ℕ) → occurs_in n literal ≡ true → IsMember rule.order n) where
  abbrev All : ℕ → Type 0
  All m = is_global rule m ≡ true

  bound_so : (rank n : ℕ) → IsMember rule.order n → BoundAt All own rank n → BoundAt (IsMember (globals rule)) own rank n
  bound_so zero n place g = member_kept (is_global rule) rule.order n place g
  bound_so (suc rank) n place (inl g) = inl (member_kept (is_global rule) rule.order n place g)
  bound_so (suc rank) n place (inr b) = inr (b.0, b.1, go (bound_so rank) b.0 b.1 b.2)
    where
      go : ((m : ℕ) → IsMember rule.order m → BoundAt All own rank m → BoundAt (IsMember (globals rule)) own rank m) → (literal : PlainLiteral) → IsMember own literal
          → Binds (BoundAt All own rank) literal n → Binds (BoundAt (IsMember (globals rule)) own rank) literal n
      go rec (PlainAtom term true) m h = h
      go rec (PlainAtom term false) m h = absurd h
      go rec (PlainCompare left rel right) m (e, inl h) =
          (e, inl (h.0, λ j o. rec j (listed (PlainCompare left rel right) m j (or_right (occurs j left) (occurs j right) o)) (h.1 j o)))
      go rec (PlainCompare left rel right) m (e, inr h) =
          (e, inr (h.0, λ j o. rec j (listed (PlainCompare left rel right) m j (or_left (occurs j left) (occurs j right) o)) (h.1 j o)))

-- a condition, beside a test for the variables of its element
condition_orderable : (rule : ReadRule) (condition : List PlainLiteral) (is_in : ℕ → Bool) → HasListed rule.order condition
    → ((n : ℕ) → list_any (occurs_in n) condition ≡ true → is_in n ≡ true)
    → ((n : ℕ) → IsMember (filter (λ n. is_in n && not (is_global rule n)) rule.order) n → (IsBoundInCondition rule condition n → ⊥) → ⊥)
    → IsOrderable rule.order (globals rule) condition
condition_orderable rule condition is_in has inside bound = record {
  listed = λ literal m n o. has.listed literal m n o;
  safe = λ n place literal m o h. go n place literal m o h (bool_cases (is_global rule n));
}
  where
    go : (n : ℕ) → IsMember rule.order n → (literal : PlainLiteral) → IsMember condition literal → occurs_in n literal ≡ true → (IsBound (IsMember (globals rule)) condition n → ⊥)
        → (is_global rule n ≡ true) ⊎ (is_global rule n ≡ false) → ⊥
    go n place literal m o h (inl g) = h (0, member_kept (is_global rule) rule.order n place g)
    go n place literal m o h (inr g) =
        bound n (member_kept (λ n. is_in n && not (is_global rule n)) rule.order n place (and_intro (is_in n) (not (is_global rule n)) (inside n (any_member (occurs_in n) condition literal m o)) (ap not g)))
        (λ b. h (b.0, bound_so rule condition (λ one m n o. has.listed one m n o) b.0 n place b.1))

theory_orderable : (rule : ReadRule) → IsGroundable rule → (theory : ReadTheory) → IsMember (theories rule) theory → AreOrderable rule.order (globals rule) theory.elements
theory_orderable rule fine theory of =
    property_from_members (λ element. IsOrderable rule.order (globals rule) element.condition) theory.elements
    (λ element member. condition_orderable rule element.condition (λ n. occurs_in_element n element) (fine.told theory element of member)
    (λ n h. or_right (occurs n element.first || occurs_in_option n element.duration || list_any (occurs n) element.rest) (list_any (occurs_in n) element.condition) h)
    (λ n m h. fine.safe n (UnsafeInElement theory element of member m h)))

pub told_orderable : (rule : ReadRule) → IsGroundable rule → AllByRecursion (AreOrderableIn rule.order (globals rule)) rule.body
told_orderable rule fine = property_from_members (AreOrderableIn rule.order (globals rule)) rule.body (λ literal m. go literal m)
  where
    go : (literal : ReadLiteral) → IsMember rule.body literal → AreOrderableIn rule.order (globals rule) literal
    go (ReadPlain literal) m = tt
    go (ReadTold theory sign) m =
        theory_orderable rule fine theory (append_left (flat_map told_in rule.body) (duty_in rule.head) theory (flat_to told_in rule.body (ReadTold theory sign) theory m (inl refl)))

pub head_orderable : (rule : ReadRule) → IsGroundable rule → AreOrderableInHead rule.order (globals rule) rule.head
head_orderable rule fine = go rule.head refl
  where
    duty : (theory : ReadTheory) → rule.head ≡ ReadDuty theory → IsMember (theories rule) theory
    duty theory e = append_right (flat_map told_in rule.body) (duty_in rule.head) theory (subst (λ z. IsMember (duty_in z) theory) (sym e) (inl refl))

    go : (head : ReadHead) → rule.head ≡ head → AreOrderableInHead rule.order (globals rule) head
    go ReadNothing e = tt
    go (ReadAtom term) e = tt
    go (ReadDuty theory) e = theory_orderable rule fine theory (duty theory e)
    go (ReadChoose left elements right) e =
        property_from_members (λ element. IsOrderable rule.order (globals rule) element.condition) elements
        (λ element m.
        let member = subst (λ z. IsMember (choices_in z) element) (sym e) m in
        condition_orderable rule element.condition (λ n. occurs_in_choice n element) (fine.chosen element member)
        (λ n h. or_right (occurs n element.atom) (list_any (occurs_in n) element.condition) h) (λ n k h. fine.safe n (UnsafeInChoice element member k h)))
