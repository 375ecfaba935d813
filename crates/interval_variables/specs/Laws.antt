-- What follows for variables that are made for intervals.
use Rattle.std.specs.Prelude.{◌≡◌, ◌≤◌, ℕ, true, length}
use Rattle.syntax_tree.specs.declared.rule.Rule.{Rule}
use Rattle.ground_model.specs.Members.{IsMember}
use Rattle.rewriting.specs.declared.sight.Sight.TheVariants.{Variable}
use Rattle.rewriting.specs.Order.{sights_of}
use Rattle.program_meaning.specs.Read.{ReadElement, ReadTheory, ReadChoice, ReadRule}
use Rattle.program_meaning.specs.Variables.{occurs_in_element, occurs_in_choice, is_global}
use Rattle.program_meaning.specs.Tuples.{theories}
use Rattle.program_meaning.specs.Count.{choices_in}
use Rattle.program_meaning.specs.Safety.{IsUnsafe}
use Rattle.safety_meaning.specs.Program.{rule_of}
use Rattle.safety_meaning.specs.Failures.{HasNoUnsafe}

-- each variable that stands in the rule is in its order
pub record IsInOrder (rule : ReadRule) : Type 0 where
  pub global : (n : ℕ) → is_global rule n ≡ true → IsMember rule.order n
  pub told : (theory : ReadTheory) (element : ReadElement) → IsMember (theories rule) theory → IsMember theory.elements element → (n : ℕ)
      → occurs_in_element n element ≡ true → IsMember rule.order n
  pub chosen : (element : ReadChoice) → IsMember (choices_in rule.head) element → (n : ℕ) → occurs_in_choice n element ≡ true → IsMember rule.order n

-- where no variable is unsafe but for those made for intervals, no variable is, if the named ones are numbered before those that are made
abbrev pub IntervalLaw : Type 0
IntervalLaw =
    (rule : Rule) → ((n : ℕ) → IsMember (sights_of rule) (Variable n) → n ≤ length rule.names) → IsInOrder (rule_of rule) → HasNoUnsafe rule
    → (n : ℕ) → IsUnsafe (rule_of rule) n → ⊥
