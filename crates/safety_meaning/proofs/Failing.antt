-- A first failure is one.
use Rattle.std.proofs.Common.{◌≡◌, inl, inr, ℕ, Bool, List, ◌++◌, Some, slice_get, refl, sym, ap, ◌∙◌, subst}
use Rattle.std.specs.List.{flat_map}
use Rattle.syntax_tree.specs.declared.term.Term.{Term}
use Rattle.syntax_tree.specs.declared.rule.Rule.{Rule}
use Rattle.ground_model.specs.Members.{IsMember}
use Rattle.rewriting.specs.Order.{order_of}
use Rattle.program_meaning.specs.Read.{PlainLiteral, PlainAtom, PlainCompare, ReadRule}
use Rattle.program_meaning.specs.Tuples.{told_in, duty_in}
use Rattle.program_meaning.specs.Predicates.{IsInTheoryCondition}
use Rattle.safety_meaning.specs.Program.{written_rules, rule_of, rules_of}
use Rattle.safety_meaning.specs.Failures.{IsFine, IsFirstUnsafe, IsFirstNoDomain, Failure, UnsafeVariable, NoDomainAtom, RecursiveRule, FailsBy, atom_of, atoms_of_element, atoms_of_theory, condition_atoms}
use Rattle.safety_meaning.specs.Laws.{OneFailureLaw, FineLaw}
use Rattle.safety_meaning.proofs.Lists.{member_got, member_append, member_left, member_right, member_flat, compared}

signed : (literal : PlainLiteral) (term : Term) → IsMember (atom_of literal) term → (sign : Bool) × (PlainAtom term sign ≡ literal)
signed (PlainAtom one sign) term h = elim h [ inl e ↦ (sign, ap (λ x. PlainAtom x sign) e) | inr k ↦ absurd k ]
signed (PlainCompare left rel right) term h = absurd h

pub in_condition : (rule : ReadRule) (term : Term) → IsMember (condition_atoms rule) term → IsInTheoryCondition rule term
in_condition rule term h =
    let a = member_flat atoms_of_theory (duty_in rule.head ++ flat_map told_in rule.body) term h in
    let b = member_flat atoms_of_element a.0.elements term a.2 in
    let d = member_flat atom_of b.0.condition term b.2 in
    let s = signed d.0 term d.2 in (
      a.0,
      b.0,
      s.0,
      (elim (member_append (duty_in rule.head) (flat_map told_in rule.body) a.0 a.1) [
        | inl m ↦ member_right (flat_map told_in rule.body) (duty_in rule.head) a.0 m
        | inr m ↦ member_left (flat_map told_in rule.body) (duty_in rule.head) a.0 m
      ]),
      b.1,
      subst (IsMember b.0.condition) (sym s.1) d.1,
    )

fails_not_fine : (rules : List ReadRule) (rule : Rule) (failure : Failure) → FailsBy rules rule failure → IsFine rules rule → ⊥
fails_not_fine rules rule (UnsafeVariable place) h fine = fine.safe h.n (member_got (order_of rule) place h.n h.here) h.own h.bad
fails_not_fine rules rule (NoDomainAtom place) h fine =
    h.1.none (fine.domain h.1.term h.1.p (in_condition (rule_of rule) h.1.term (member_got (condition_atoms (rule_of rule)) place h.1.term h.1.here)) h.1.is)
fails_not_fine rules rule RecursiveRule h fine = h.3 (fine.stratified h.2)

one_unsafe : (rule : Rule) (p q : ℕ) → IsFirstUnsafe rule p → IsFirstUnsafe rule q → p ≡ q
one_unsafe rule p q h k = elim (compared p q) [
  | inl less ↦ absurd (k.first p h.n less h.here h.own h.bad)
  | inr more ↦ elim more [ inl e ↦ e | inr less ↦ absurd (h.first q k.n less k.here k.own k.bad) ]
]

one_no_domain : (rules : List ReadRule) (rule : ReadRule) (p q : ℕ) → IsFirstNoDomain rules rule p → IsFirstNoDomain rules rule q → p ≡ q
one_no_domain rules rule p q h k = elim (compared p q) [
  | inl less ↦ absurd (h.none (k.first p h.term h.p less h.here h.is))
  | inr more ↦ elim more [ inl e ↦ e | inr less ↦ absurd (k.none (h.first q k.term k.p less k.here k.is)) ]
]

one_cause : (rules : List ReadRule) (rule : Rule) (f g : Failure) → FailsBy rules rule f → FailsBy rules rule g → f ≡ g
one_cause rules rule (UnsafeVariable p) (UnsafeVariable q) h k = ap UnsafeVariable (one_unsafe rule p q h k)
one_cause rules rule (UnsafeVariable p) (NoDomainAtom q) h k = absurd (k.0 h.n (member_got (order_of rule) p h.n h.here) h.own h.bad)
one_cause rules rule (UnsafeVariable p) RecursiveRule h k = absurd (k.0 h.n (member_got (order_of rule) p h.n h.here) h.own h.bad)
one_cause rules rule (NoDomainAtom p) (UnsafeVariable q) h k = absurd (h.0 k.n (member_got (order_of rule) q k.n k.here) k.own k.bad)
one_cause rules rule (NoDomainAtom p) (NoDomainAtom q) h k = ap NoDomainAtom (one_no_domain rules (rule_of rule) p q h.1 k.1)
one_cause rules rule (NoDomainAtom p) RecursiveRule h k =
    absurd (h.1.none (k.1 h.1.term h.1.p (in_condition (rule_of rule) h.1.term (member_got (condition_atoms (rule_of rule)) p h.1.term h.1.here)) h.1.is))
one_cause rules rule RecursiveRule (UnsafeVariable q) h k = absurd (h.0 k.n (member_got (order_of rule) q k.n k.here) k.own k.bad)
one_cause rules rule RecursiveRule (NoDomainAtom q) h k =
    absurd (k.1.none (h.1 k.1.term k.1.p (in_condition (rule_of rule) k.1.term (member_got (condition_atoms (rule_of rule)) q k.1.term k.1.here)) k.1.is))
one_cause rules rule RecursiveRule RecursiveRule h k = refl

same_rule : (rules : List ReadRule) (one other : Rule) (f g : Failure) → Some one ≡ Some other → FailsBy rules one f → FailsBy rules other g → f ≡ g
same_rule rules one other f g e h k =
    let same : one ≡ other = cc in
    one_cause rules other f g (subst (λ rule. FailsBy rules rule f) same h) k

pub one_failure_law : OneFailureLaw
one_failure_law statements p q f g h k = elim (compared p q) [
  | inl less ↦ absurd (fails_not_fine (rules_of statements) h.rule f h.fails (k.before p h.rule less h.here))
  | inr more ↦ elim more [
    | inl e ↦ (e, same_rule (rules_of statements) h.rule k.rule f g (sym h.here ∙ ap (slice_get (written_rules statements)) e ∙ k.here) h.fails k.fails)
    | inr less ↦ absurd (fails_not_fine (rules_of statements) k.rule g k.fails (h.before q k.rule less k.here))
  ]
]

pub fine_law : FineLaw
fine_law statements p f h fine = fails_not_fine (rules_of statements) h.rule f h.fails (fine h.rule (member_got (written_rules statements) p h.rule h.here))
