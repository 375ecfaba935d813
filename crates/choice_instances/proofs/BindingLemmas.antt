-- What variables are worth at the rows of a rule and of an element of its choice.
use Rattle.std.proofs.Common.{◌≡◌, ◌++◌, Bool, true, IsTrue, Result, Ok, Err, IfOk, List, [], ◌∷◌, ◌∙◌}
use Rattle.std.specs.List.{AllByRecursion, list_all}
use Rattle.syntax_tree.specs.Outcome.{Outcome}
use Rattle.ground_model.proofs.Bools.{and_elim}
use Rattle.program_meaning.specs.Read.{ReadChoice, ReadRule}
use Rattle.program_meaning.specs.Instance.{bound_in, bound_in_choice}
use Rattle.program_meaning.specs.Substitution.{Value, substituted}
use Rattle.instance_plans.specs.declared.plan.Plan.{Plan}
use Rattle.instance_plans.specs.Plans.{IsRulePlan, IsChoicePlan}

pub ok_both : {A E : Type 0} (r : Result A E) (P Q R : A → Type 0) → IfOk r P → IfOk r Q → ((x : A) → P x → Q x → R x) → IfOk r R
ok_both (Ok x) P Q R p q f = f x p q
ok_both (Err e) P Q R p q f = tt

pub all_true : {X : Type 0} (test : X → Bool) (xs : List X) → list_all test xs ≡ true → AllByRecursion (λ x. IsTrue (test x)) xs
all_true test [] e = tt
all_true test (x ∷ xs) e = let both = and_elim (test x) (list_all test xs) e in (both.0, all_true test xs both.1)

-- at a row of an element
pub choice_bound : (rule : ReadRule) (element : ReadChoice) (plan : Plan) (values locals : List Value) (bound : List Outcome) → IsChoicePlan rule element plan
    → bound ≡ substituted plan.count (plan.given ++ plan.variables) (values ++ locals) → bound ≡ bound_in_choice rule values element locals
choice_bound rule element plan values locals bound is e = e ∙ (λ i. substituted (is.count_is i) (is.given_are i ++ is.variables_are i) (values ++ locals))

-- at values of the rule
pub rule_bound : (rule : ReadRule) (plan : Plan) (values : List Value) (bound : List Outcome) → IsRulePlan rule plan
    → bound ≡ substituted plan.count (plan.given ++ plan.variables) values → bound ≡ bound_in rule values
rule_bound rule plan values bound is e = e ∙ (λ i. substituted (is.count_is i) (is.given_are i ++ is.variables_are i) values)
