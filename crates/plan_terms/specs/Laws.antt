-- The terms of plans are terms of what they are plans of.
use Rattle.std.specs.Prelude.{ℕ, IsTrue, List}
use Rattle.syntax_tree.specs.declared.literal.TheoryElement.{TheoryElement}
use Rattle.syntax_tree.specs.declared.rule.ChoiceElement.{ChoiceElement}
use Rattle.syntax_tree.specs.declared.rule.Rule.{Rule}
use Rattle.syntax_tree.specs.Literals.{is_theory_element}
use Rattle.syntax_tree.specs.Statements.{is_choice_element, is_rule}
use Rattle.program_meaning.specs.Read.{ReadRule, rule_read, choice_read}
use Rattle.instance_plans.specs.declared.plan.Plan.{Plan}
use Rattle.instance_plans.specs.Plans.{IsRulePlan, IsChoicePlan, IsElementPlan, element_read}
use Rattle.instance_plans.specs.Terms.{AreTerms}

-- of a rule
abbrev pub RuleTermsLaw : Type 0
RuleTermsLaw = (rule : Rule) (order : List ℕ) (plan : Plan) → IsTrue (is_rule rule) → IsRulePlan (rule_read rule order) plan → AreTerms plan

-- of an element of a choice
abbrev pub ChoiceTermsLaw : Type 0
ChoiceTermsLaw =
    (rule : ReadRule) (element : ChoiceElement) (plan : Plan) → IsTrue (is_choice_element element) → IsChoicePlan rule (choice_read element) plan → AreTerms plan

-- of an element of a theory atom
abbrev pub ElementTermsLaw : Type 0
ElementTermsLaw =
    (rule : ReadRule) (element : TheoryElement) (plan : Plan) → IsTrue (is_theory_element element) → IsElementPlan rule (element_read element) plan → AreTerms plan
