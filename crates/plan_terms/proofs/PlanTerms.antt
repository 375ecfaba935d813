-- The terms of plans are terms of what they are plans of.
use Rattle.std.proofs.Common.{◌≡◌, ℕ, true, false, ◌&&◌, IsTrue, List, [], ◌∷◌, ◌++◌, map, Option, Some, None, sym, subst}
use Rattle.std.specs.List.{list_all, AllByRecursion, flat_map}
use Rattle.symbols.specs.declared.rel.Rel.TheVariants.{Equal}
use Rattle.syntax_tree.specs.declared.term.Term.{Term}
use Rattle.syntax_tree.specs.declared.literal.Guard.{Guard}
use Rattle.syntax_tree.specs.declared.rule.Choice.{Choice}
use Rattle.syntax_tree.specs.declared.rule.Head.{Head}
use Rattle.syntax_tree.specs.declared.rule.Head.TheVariants as head
use Rattle.syntax_tree.specs.Tree.{is_term, is_name}
use Rattle.syntax_tree.specs.Literals.{is_none_or, is_guard, is_literal}
use Rattle.syntax_tree.specs.Statements.{is_choice_element, is_head}
use Rattle.ground_model.proofs.Bools.{and_elim}
use Rattle.ground_model.proofs.MemberLemmas.{property_member}
use Rattle.program_meaning.specs.Read.{PlainLiteral, PlainAtom, PlainCompare, ReadLiteral, ReadPlain, ReadTold, plains, literal_read, head_read, rule_read, choice_read}
use Rattle.program_meaning.specs.Search.{IsStepOf}
use Rattle.program_meaning.proofs.Lists.{all_append}
use Rattle.instance_rows.specs.Tests.{Test, IsDefined, IsAmong, IsNotAmong, MayHold, IsCountBound, HasNoUndefined, plain_test, condition_test, option_tests, guard_tests, literal_tests, head_tests, rule_tests, choice_tests, condition_tests, place_tests, element_tests}
use Rattle.instance_plans.specs.declared.plan.Plan.{Plan}
use Rattle.instance_plans.specs.declared.plan.PlanStep.{PlanStep}
use Rattle.instance_plans.specs.declared.plan.PlanStep.TheVariants as s
use Rattle.instance_plans.specs.declared.plan.PlanTest.{PlanTest}
use Rattle.instance_plans.specs.declared.plan.PlanTest.TheVariants as t
use Rattle.instance_plans.specs.Plans.{step_of, test_of, IsPlanWith, element_read}
use Rattle.instance_plans.specs.Terms.{IsTermStep, IsTermTest, AreTerms}
use Rattle.plan_terms.specs.Laws.{RuleTermsLaw, ChoiceTermsLaw, ElementTermsLaw}
use Rattle.plan_terms.proofs.Trees.{IsTermPlain, IsTermGuard, IsTermOption, IsTermRead, guard_terms, plain_terms, literals_terms, theory_terms, element_terms}

-- the terms of a test keep the rules on terms
abbrev IsTermOf : Test → Type 0
IsTermOf (IsDefined term) = IsTrue (is_term term)
IsTermOf (IsAmong term) = IsTrue (is_term term)
IsTermOf (IsNotAmong term) = IsTrue (is_term term)
IsTermOf (MayHold free left rel right) = IsTrue (is_term left) × IsTrue (is_term right)
IsTermOf (IsCountBound term) = IsTrue (is_term term)
IsTermOf (HasNoUndefined term) = IsTrue (is_term term)

test_terms : (test : PlanTest) → IsTermOf (test_of test) → IsTermTest test
test_terms (t.IsDefined term) h = h
test_terms (t.IsAmong term) h = h
test_terms (t.IsNotAmong term) h = h
test_terms (t.MayHold free left rel right) h = h
test_terms (t.IsCountBound term) h = h
test_terms (t.HasNoUndefined term) h = h

tests_terms : (tests : List PlanTest) → AllByRecursion IsTermOf (map test_of tests) → AllByRecursion IsTermTest tests
tests_terms [] all = tt
tests_terms (test ∷ tests) all = (test_terms test all.0, tests_terms tests all.1)

step_terms : (own : List PlainLiteral) → AllByRecursion IsTermPlain own → (step : PlanStep) → IsStepOf own (step_of step) → IsTermStep step
step_terms own all (s.ChooseAtom term) m = property_member IsTermPlain own (PlainAtom term.now true) all m
step_terms own all (s.AssignLeft n term) m = (property_member IsTermPlain own (PlainCompare m.0 Equal term.now) all m.1).1
step_terms own all (s.AssignRight term n) m = (property_member IsTermPlain own (PlainCompare term.now Equal m.0) all m.1).0

steps_terms : (own : List PlainLiteral) → AllByRecursion IsTermPlain own → (steps : List PlanStep) → AllByRecursion (IsStepOf own) (map step_of steps) → AllByRecursion IsTermStep steps
steps_terms own all [] each = tt
steps_terms own all (step ∷ steps) each = (step_terms own all step each.0, steps_terms own all steps each.1)

-- a plan of literals and tests whose terms keep the rules has such terms
plan_terms : (literals own : List PlainLiteral) (count : ℕ) (given variables : List ℕ) (tests : List Test) (plan : Plan) → AllByRecursion IsTermPlain own → AllByRecursion IsTermOf tests
    → IsPlanWith literals own count given variables tests plan → AreTerms plan
plan_terms literals own count given variables tests plan all asked is = record {
  steps = steps_terms own all plan.steps is.plans.own_steps;
  tests = tests_terms plan.tests (subst (AllByRecursion IsTermOf) (sym is.tests_are) asked);
}

-- TESTS

plain_asks : (literals : List PlainLiteral) (literal : PlainLiteral) → IsTermPlain literal → IsTermOf (plain_test literals literal)
plain_asks literals (PlainAtom term true) h = h
plain_asks literals (PlainAtom term false) h = h
plain_asks literals (PlainCompare left rel right) h = h

condition_asks : (literals : List PlainLiteral) (literal : PlainLiteral) → IsTermPlain literal → IsTermOf (condition_test literals literal)
condition_asks literals (PlainAtom term true) h = h
condition_asks literals (PlainAtom term false) h = h
condition_asks literals (PlainCompare left rel right) h = h

all_asked : (test : PlainLiteral → Test) → ((literal : PlainLiteral) → IsTermPlain literal → IsTermOf (test literal)) → (literals : List PlainLiteral) → AllByRecursion IsTermPlain literals
    → AllByRecursion IsTermOf (map test literals)
all_asked test f [] all = tt
all_asked test f (literal ∷ literals) all = (f literal all.0, all_asked test f literals all.1)

guard_asks : (test : Term → Test) → ((term : Term) → IsTrue (is_term term) → IsTermOf (test term)) → (guard : Option Guard) → IsTermGuard guard → AllByRecursion IsTermOf (guard_tests test guard)
guard_asks test f None h = tt
guard_asks test f (Some guard) h = (f guard.right h, tt)

option_asks : (term : Option Term) → IsTermOption term → AllByRecursion IsTermOf (option_tests HasNoUndefined term)
option_asks None h = tt
option_asks (Some term) h = (h, tt)

rest_asks : (terms : List Term) → AllByRecursion (λ term. IsTrue (is_term term)) terms → AllByRecursion IsTermOf (map IsDefined terms)
rest_asks [] h = tt
rest_asks (term ∷ terms) h = (h.0, rest_asks terms h.1)

literal_asks : (literals : List PlainLiteral) (literal : ReadLiteral) → IsTermRead literal → AllByRecursion IsTermOf (literal_tests literals literal)
literal_asks literals (ReadPlain literal) h = (plain_asks literals literal h, tt)
literal_asks literals (ReadTold theory sign) h = guard_asks HasNoUndefined (λ term k. k) theory.guard h

body_asks : (literals : List PlainLiteral) (body : List ReadLiteral) → AllByRecursion IsTermRead body → AllByRecursion IsTermOf (flat_map (literal_tests literals) body)
body_asks literals [] all = tt
body_asks literals (literal ∷ body) all = all_append IsTermOf (literal_tests literals literal) (flat_map (literal_tests literals) body) (literal_asks literals literal all.0) (body_asks literals body all.1)

choice_bounds : (choice : Choice) → is_none_or is_guard choice.left && list_all is_choice_element choice.elements && is_none_or is_guard choice.right ≡ true
    → AllByRecursion IsTermOf (guard_tests IsCountBound choice.left ++ guard_tests IsCountBound choice.right)
choice_bounds choice h =
    let two = and_elim (is_none_or is_guard choice.left && list_all is_choice_element choice.elements) (is_none_or is_guard choice.right) h in
    let one = and_elim (is_none_or is_guard choice.left) (list_all is_choice_element choice.elements) two.0 in
    all_append IsTermOf (guard_tests IsCountBound choice.left) (guard_tests IsCountBound choice.right)
    (guard_asks IsCountBound (λ term k. k) choice.left (guard_terms choice.left one.0))
    (guard_asks IsCountBound (λ term k. k) choice.right (guard_terms choice.right two.1))

head_asks : (head : Head) → is_head head ≡ true → AllByRecursion IsTermOf (head_tests (head_read head))
head_asks head.Nothing h = tt
head_asks (head.Atom term) h = (h, tt)
head_asks (head.Theory theory) h = guard_asks HasNoUndefined (λ term k. k) _ (theory_terms theory h)
head_asks (head.Choice choice) h = choice_bounds choice h

-- LAWS

pub rule_terms_law : RuleTermsLaw
rule_terms_law rule order plan h is =
    let two = and_elim (is_head rule.head && list_all is_literal rule.body) (list_all (λ name. is_name name.text) rule.names) h in
    let one = and_elim (is_head rule.head) (list_all is_literal rule.body) two.0 in
    let body = literals_terms rule.body one.1 in
    plan_terms _ (plains (map literal_read rule.body)) _ _ _ (rule_tests (rule_read rule order)) plan (plain_terms (map literal_read rule.body) body)
    (all_append IsTermOf (head_tests (head_read rule.head)) (flat_map (literal_tests (plains (map literal_read rule.body))) (map literal_read rule.body))
    (head_asks rule.head one.0) (body_asks (plains (map literal_read rule.body)) (map literal_read rule.body) body))
    is

pub choice_terms_law : ChoiceTermsLaw
choice_terms_law rule element plan h is =
    let both = and_elim (is_term element.atom) (list_all is_literal element.condition) h in
    let condition = plain_terms (map literal_read element.condition) (literals_terms element.condition both.1) in
    plan_terms _ (plains (map literal_read element.condition)) _ _ _ (choice_tests rule (choice_read element)) plan condition
    (both.0, all_asked (plain_test (plains rule.body ++ plains (map literal_read element.condition))) (plain_asks (plains rule.body ++ plains (map literal_read element.condition))) (plains (map literal_read element.condition)) condition)
    is

pub element_terms_law : ElementTermsLaw
element_terms_law rule element plan h is =
    let read = element_read element in
    let terms = element_terms element h in
    plan_terms _ read.condition _ _ _ (element_tests rule read) plan terms.condition
    (all_append IsTermOf (place_tests read) (condition_tests rule read)
    (terms.first, all_append IsTermOf (option_tests HasNoUndefined read.duration) (map IsDefined read.rest) (option_asks read.duration terms.duration) (rest_asks read.rest terms.rest))
    (all_asked (condition_test (plains rule.body ++ read.condition)) (condition_asks (plains rule.body ++ read.condition)) read.condition terms.condition))
    is
