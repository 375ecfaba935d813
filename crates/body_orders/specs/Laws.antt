-- Rules that can be grounded have their bodies in order.
use Rattle.std.specs.Prelude.{List}
use Rattle.ground_model.specs.Members.{IsMember}
use Rattle.program_meaning.specs.Read.{PlainLiteral, ReadElement, ReadTheory, ReadLiteral, ReadChoice, ReadRule}
use Rattle.program_meaning.specs.Tuples.{theories}
use Rattle.program_meaning.specs.Count.{choices_in}
use Rattle.groundable_rules.specs.Groundable.{IsGroundable}
use Rattle.safety_meaning.specs.Ordered.{IsOrderedBody, IsOrderedCondition}

-- a body has an order
abbrev pub BodyLaw : Type 0
BodyLaw = (rule : ReadRule) → IsGroundable rule → (ordered : List ReadLiteral) × IsOrderedBody rule.body ordered

-- so has the condition of an element of a choice
abbrev pub ChoiceLaw : Type 0
ChoiceLaw =
    (rule : ReadRule) (element : ReadChoice) → IsGroundable rule → IsMember (choices_in rule.head) element
    → (ordered : List PlainLiteral) × IsOrderedCondition rule element.condition ordered

-- and that of an element of a theory atom
abbrev pub ElementLaw : Type 0
ElementLaw =
    (rule : ReadRule) (theory : ReadTheory) (element : ReadElement) → IsGroundable rule → IsMember (theories rule) theory → IsMember theory.elements element
    → (ordered : List PlainLiteral) × IsOrderedCondition rule element.condition ordered
