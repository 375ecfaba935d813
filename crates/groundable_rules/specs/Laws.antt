-- What follows for the variables of a rule that can be grounded.
use Rattle.std.specs.Prelude.{◌≤◌, ◌++◌, length}
use Rattle.program_meaning.specs.Read.{ReadElement, ReadChoice, ReadRule}
use Rattle.program_meaning.specs.Variables.{globals, element_locals, choice_locals}
use Rattle.program_meaning.specs.Search.{AreNumbered}
use Rattle.groundable_rules.specs.Groundable.{IsGroundable}

-- the global variables of a rule are different variables of so many, and few
abbrev pub GlobalsLaw : Type 0
GlobalsLaw = (rule : ReadRule) → IsGroundable rule → AreNumbered (length rule.order) (globals rule) × (length (globals rule) ≤ 64)

-- so they are with the local ones of an element of a choice
abbrev pub ChoiceLaw : Type 0
ChoiceLaw =
    (rule : ReadRule) → IsGroundable rule → (element : ReadChoice)
    → AreNumbered (length rule.order) (globals rule ++ choice_locals rule element) × (length (choice_locals rule element) ≤ 64)

-- and with those of an element of a theory atom
abbrev pub ElementLaw : Type 0
ElementLaw =
    (rule : ReadRule) → IsGroundable rule → (element : ReadElement)
    → AreNumbered (length rule.order) (globals rule ++ element_locals rule element) × (length (element_locals rule element) ≤ 64)
