-- Plans of theory atoms, and what is said of a theory atom whose plan is handed in.
use Rattle.std.specs.Prelude.{◌≡◌, ℕ, [], length, IsTrue}
use Rattle.std.specs.List.{AllByRecursion, AllZip}
use Rattle.syntax_tree.specs.Literals.{is_theory_atom}
use Rattle.program_meaning.specs.Read.{ReadTheory, ReadRule, theory_read}
use Rattle.program_meaning.specs.Variables.{globals}
use Rattle.instance_plans.specs.Plans.{IsElementPlan}
use Rattle.instance_plans.specs.Terms.{AreTerms}
use Rattle.theory_plans.specs.declared.plan.TheoryPlan.{TheoryPlan}

-- the plan of a theory atom of the rule: it lends a tree that reads as the theory atom, and has the plans of its elements in order
pub record IsTheoryPlan (rule : ReadRule) (theory : ReadTheory) (plan : TheoryPlan) : Type 0 where
  pub theory_is : theory_read plan.theory.now ≡ theory
  pub tree : IsTrue (is_theory_atom plan.theory.now)
  pub count : plan.start.count ≡ length rule.order
  pub given : plan.start.given ≡ globals rule
  pub variables : plan.start.variables ≡ []
  pub elements : AllZip (IsElementPlan rule) theory.elements plan.elements
  pub terms : AllByRecursion AreTerms plan.elements

-- this holds of each rule and theory atom that the plan is of, where the values are those of the rule's global variables
abbrev pub FitsPlan : TheoryPlan → ℕ → (ReadRule → ReadTheory → Type 0) → Type 0
FitsPlan plan count claim = (rule : ReadRule) (theory : ReadTheory) → IsTheoryPlan rule theory plan → count ≡ length (globals rule) → claim rule theory

-- the plan is of a theory atom of a rule with so many global variables
abbrev pub IsPlanOf : TheoryPlan → ℕ → Type 0
IsPlanOf plan count = (rule : ReadRule) × (theory : ReadTheory) × IsTheoryPlan rule theory plan × (count ≡ length (globals rule))
