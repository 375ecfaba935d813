-- What a rule fails by.
use Rattle.std.proofs.Common.{Result, Ok, Err, IfOk, ◌≡◌, inl, inr, ℕ, Bool, true, false, not, List, [], ◌++◌, length, Option, None, Some, slice_get, refl, sym, ap, ◌∙◌, subst, true≢false}
use Rattle.std.specs.List.{AllZip, flat_map, list_any}
use Rattle.syntax_tree.specs.declared.term.Part.{Part}
use Rattle.syntax_tree.specs.declared.term.Term.{Term, out-Term}
use Rattle.syntax_tree.specs.declared.term.Term.TheOpen.{Term-F}
use Rattle.syntax_tree.specs.declared.rule.Rule.{Rule}
use Rattle.ground_model.specs.Members.{IsMember}
use Rattle.ground_model.proofs.Bools.{and_elim, and_intro, conflict}
use Rattle.definite_rules.specs.Least.{flag_at}
use Rattle.rewriting.specs.declared.sight.Sight.{Sight}
use Rattle.rewriting.specs.Rewritten.{rewritten}
use Rattle.rewriting.specs.Order.{order_of, is_interval_sight, is_interval_variable}
use Rattle.program_meaning.specs.Read.{PlainAtom, ReadRule, rule_read}
use Rattle.program_meaning.specs.Tuples.{told_in, duty_in}
use Rattle.program_meaning.specs.Safety.{IsUnsafe}
use Rattle.program_meaning.specs.Predicates as p
use Rattle.variable_safety.specs.Unsafe.{AreUnsafe}
use Rattle.predicate_order.specs.declared.predicate.Predicate.{Predicate}
use Rattle.predicate_order.specs.Ways.{said, named_in, named, blocking_ways, step_reads, step_ways}
use Rattle.predicate_order.specs.declared.ways.Ways.{Ways}
use Rattle.predicate_order.specs.Judged.{AreWays, Judges, AnyReached, Tells, AnyTurns}
use Rattle.predicate_order.proofs.Meanings.{reached_blocked, blocked_reached, turns_recursive, recursive_turns}
use Rattle.safety_meaning.specs.Failures as meant
use Rattle.safety_meaning.specs.Program.{rule_of}
use Rattle.safety.specs.declared.failure.Failure.{Failure}
use Rattle.safety.specs.inner.Rules.{ComesFrom, IsVerdict, IsFirst, is_told, IsUnsafeAnswer, IsTwin, IsDomainAnswer}
use Rattle.safety.proofs.Lists.{zip_left, zip_right, member_place, place_member, member_append, member_left, member_right, flat_member}
use Rattle.safety.proofs.Twins.{twins_left, twins_right, blocked_over, recursive_over}

-- ---- variables

not_true_of : (b : Bool) → not b ≡ true → b ≡ false
not_true_of true e = absurd (true≢false (sym e))
not_true_of false e = refl

not_false_of : (b : Bool) → b ≡ false → not b ≡ true
not_false_of true e = absurd (true≢false e)
not_false_of false e = refl

module _ (rule : Rule) (order : List ℕ) (sights : List Sight) (old : Rule) (from : ComesFrom rule order sights old) (flags : List Bool)
    (marked : AreUnsafe (rule_read rule order) flags) where
  same_unsafe : (n : ℕ) → IsUnsafe (rule_read rule order) n → IsUnsafe (rule_of old) n
  same_unsafe n u = subst (λ o. IsUnsafe (rule_read (rewritten old) o) n) from.ordered (subst (λ r. IsUnsafe (rule_read r order) n) from.is u)

  back_unsafe : (n : ℕ) → IsUnsafe (rule_of old) n → IsUnsafe (rule_read rule order) n
  back_unsafe n u = subst (λ r. IsUnsafe (rule_read r order) n) (sym from.is) (subst (λ o. IsUnsafe (rule_read (rewritten old) o) n) (sym from.ordered) u)

  same_sights : (n : ℕ) → list_any (is_interval_sight n) sights ≡ is_interval_variable old n
  same_sights n = ap (list_any (is_interval_sight n)) from.seen

  -- an unsafe variable that was made for no interval is told
  told : (n : ℕ) → is_interval_variable old n ≡ false → IsUnsafe (rule_of old) n → is_told flags sights n ≡ true
  told n own bad =
      and_intro (flag_at flags n) (not (list_any (is_interval_sight n) sights)) (marked.whole n (back_unsafe n bad))
      (not_false_of (list_any (is_interval_sight n) sights) (same_sights n ∙ own))

  pub unsafe_answer : (found : Option ℕ) → IsFirst (is_told flags sights) order found → IsUnsafeAnswer old found
  unsafe_answer None h = λ n m own bad.
      let place = member_place order n (subst (λ o. IsMember o n) (sym from.ordered) m) in
      conflict (is_told flags sights n) (told n own bad) (h place.0 n place.1)
  unsafe_answer (Some place) h =
      let parts = and_elim (flag_at flags h.one) (not (list_any (is_interval_sight h.one) sights)) h.passes in
      record {
        n = h.one;
        here = subst (λ o. slice_get o place ≡ Some h.one) from.ordered h.here;
        own = sym (same_sights h.one) ∙ not_true_of (list_any (is_interval_sight h.one) sights) parts.1;
        bad = same_unsafe h.one (marked.sound h.one (place_member order place h.one h.here) parts.0);
        first = λ before m less here own bad.
            conflict (is_told flags sights m) (told m own bad) (h.before before m less (subst (λ o. slice_get o before ≡ Some m) (sym from.ordered) here));
      }

-- ---- predicates of atoms

in_named : (layer : Term-F Term Part) (q : Predicate) → IsMember (named_in layer) q → p.predicate_in layer ≡ Some (said q)
in_named (Term-F.Number n) q m = absurd m
in_named (Term-F.Text text) q m = absurd m
in_named (Term-F.Variable n) q m = absurd m
in_named Term-F.Anonymous q m = absurd m
in_named (Term-F.Function name args) q (inl e) = ap (λ v. Some (said v)) (sym e)
in_named (Term-F.Function name args) q (inr m) = absurd m
in_named (Term-F.Tuple args) q m = absurd m
in_named (Term-F.Sum parts) q m = absurd m
in_named (Term-F.Product parts) q m = absurd m
in_named (Term-F.Minus inner) q m = absurd m
in_named (Term-F.Interval left right) q m = absurd m

layer_named : (layer : Term-F Term Part) (q : p.Predicate) → p.predicate_in layer ≡ Some q → (v : Predicate) × IsMember (named_in layer) v × (said v ≡ q)
layer_named (Term-F.Number n) q e = absurd cc
layer_named (Term-F.Text text) q e = absurd cc
layer_named (Term-F.Variable n) q e = absurd cc
layer_named Term-F.Anonymous q e = absurd cc
layer_named (Term-F.Function name args) q e =
    let v : Predicate = record { name = name; count = length args } in
    let s : said v ≡ q = cc in (v, inl refl, s)
layer_named (Term-F.Tuple args) q e = absurd cc
layer_named (Term-F.Sum parts) q e = absurd cc
layer_named (Term-F.Product parts) q e = absurd cc
layer_named (Term-F.Minus inner) q e = absurd cc
layer_named (Term-F.Interval left right) q e = absurd cc

-- ---- conditions

atom_in : (term : Term) (sign : Bool) → IsMember (meant.atom_of (PlainAtom term sign)) term
atom_in term sign = inl refl

in_conditions : (rule : ReadRule) (term : Term) → p.IsInTheoryCondition rule term → IsMember (meant.condition_atoms rule) term
in_conditions rule term (theory, element, sign, t, e, m) =
    flat_member meant.atoms_of_theory (duty_in rule.head ++ flat_map told_in rule.body) theory term
    (elim (member_append (flat_map told_in rule.body) (duty_in rule.head) theory t) [
      | inl k ↦ member_right (duty_in rule.head) (flat_map told_in rule.body) theory k
      | inr k ↦ member_left (duty_in rule.head) (flat_map told_in rule.body) theory k
    ])
    (flat_member meant.atoms_of_element theory.elements element term e (flat_member meant.atom_of element.condition (PlainAtom term sign) term m (atom_in term sign)))

module _ (bare rules : List ReadRule) (twins : AllZip IsTwin bare rules) where
  domain_of : (term : Term) (q : p.Predicate) → (AnyReached (blocking_ways bare) (named term) → ⊥) → p.predicate term ≡ Some q → p.IsDomain rules q
  domain_of term q none e rank b =
      let v = layer_named (out-Term term) q e in
      let back = blocked_over rules bare (twins_right bare rules twins) rank q b in
      none (v.0, v.1, (rank, blocked_reached bare rank v.0 (subst (p.BlockedAt bare rank) (sym v.2) back)))

  answered : (term : Term) (answer : Bool) → Tells (blocking_ways bare) term answer → answer ≡ false → AnyReached (blocking_ways bare) (named term) → ⊥
  answered term answer h e r = true≢false (sym (h.1 r) ∙ e)

  pub domain_answer : (rule : ReadRule) (answers : List Bool) (found : Option ℕ) → AllZip (Tells (blocking_ways bare)) (meant.condition_atoms rule) answers
      → IsFirst (λ answer. answer) answers found → IsDomainAnswer rules rule found
  domain_answer rule answers None zip h = λ term q c e.
      let place = member_place (meant.condition_atoms rule) term (in_conditions rule term c) in
      let a = zip_left (Tells (blocking_ways bare)) (meant.condition_atoms rule) answers zip place.0 term place.1 in
      domain_of term q (answered term a.0 a.2 (h place.0 a.0 a.1)) e
  domain_answer rule answers (Some place) zip h =
      let a = zip_right (Tells (blocking_ways bare)) (meant.condition_atoms rule) answers zip place h.one h.here in
      let r = a.2.0 h.passes in
      record {
        term = a.0;
        p = said r.0;
        here = a.1;
        is = in_named (out-Term a.0) r.0 r.1;
        none = λ d. d r.2.0 (blocked_over bare rules (twins_left bare rules twins) r.2.0 (said r.0) (reached_blocked bare r.2.0 r.0 r.2.1));
        first = λ before other q less here e.
            let b = zip_left (Tells (blocking_ways bare)) (meant.condition_atoms rule) answers zip before other here in
            domain_of other q (answered other b.0 b.2 (h.before before b.0 less b.1)) e;
      }

  -- ---- recursion

  twin_of : (rule old : Rule) → rule ≡ rewritten old → IsTwin (rule_read rule []) (rule_of old)
  twin_of rule old e = record { head = ap (λ r. (rule_read r []).head) e; body = ap (λ r. (rule_read r []).body) e }

  twin_back : (rule old : Rule) → rule ≡ rewritten old → IsTwin (rule_of old) (rule_read rule [])
  twin_back rule old e = record { head = ap (λ r. (rule_read r []).head) (sym e); body = ap (λ r. (rule_read r []).body) (sym e) }

  pub turning_recursive : (rule old : Rule) → rule ≡ rewritten old → AnyTurns (step_ways bare) (step_reads (rule_read rule [])) → p.IsRecursive rules (rule_of old)
  turning_recursive rule old e t =
      recursive_over bare rules (twins_left bare rules twins) (rule_read rule []) (rule_of old) (twin_of rule old e) (turns_recursive bare (rule_read rule []) t)

  pub recursive_turning : (rule old : Rule) → rule ≡ rewritten old → p.IsRecursive rules (rule_of old) → AnyTurns (step_ways bare) (step_reads (rule_read rule []))
  recursive_turning rule old e r =
      recursive_turns bare (rule_read rule [])
      (recursive_over rules bare (twins_right bare rules twins) (rule_of old) (rule_read rule []) (twin_back rule old e) r)

-- the verdict where the conditions are fine
pub conditions_pass : {E : Type 0} (r : Result (Option Failure) E) (keys : List Predicate) (flags : List Bool) (steps : Ways) (rule : Rule) (order : List ℕ) (answer : Option ℕ) → answer ≡ None
    → ((bare rules : List ReadRule) → Judges keys flags (blocking_ways bare) → AllZip IsTwin bare rules → IsDomainAnswer rules (rule_read rule []) answer)
    → IfOk r (λ found. (bare rules : List ReadRule) (old : Rule) → AreWays (step_ways bare) steps → AllZip IsTwin bare rules → rule ≡ rewritten old → order ≡ order_of old
    → meant.HasNoUnsafe old → p.HasDomainConditions rules (rule_of old) → IsVerdict rules old found)
    → IfOk r (λ found. (bare rules : List ReadRule) (old : Rule) → Judges keys flags (blocking_ways bare) → AreWays (step_ways bare) steps → AllZip IsTwin bare rules → rule ≡ rewritten old
    → order ≡ order_of old → meant.HasNoUnsafe old → IsVerdict rules old found)
conditions_pass (Ok found) keys flags steps rule order answer none h k = λ bare rules old judged walked twins is ordered safe.
    k bare rules old walked twins is ordered safe
    (subst (λ r. p.HasDomainConditions rules (rule_read r [])) is (subst (IsDomainAnswer rules (rule_read rule [])) none (h bare rules judged twins)))
conditions_pass (Err e) keys flags steps rule order answer none h k = tt
