-- Which variables stand anywhere in a rule.
use Rattle.std.specs.Prelude.{ℕ, Bool, false, ◌||◌}
use Rattle.std.specs.List.{list_any}
use Rattle.program_meaning.specs.Read.{ReadTheory, ReadLiteral, ReadPlain, ReadTold, ReadHead, ReadNothing, ReadAtom, ReadDuty, ReadChoose, ReadRule}
use Rattle.program_meaning.specs.Variables.{occurs, occurs_in, occurs_in_guard, occurs_in_element, occurs_in_choice}

abbrev pub within_theory : ℕ → ReadTheory → Bool
within_theory n theory = list_any (occurs_in_element n) theory.elements || occurs_in_guard n theory.guard

abbrev pub within_literal : ℕ → ReadLiteral → Bool
within_literal n (ReadPlain literal) = occurs_in n literal
within_literal n (ReadTold theory sign) = within_theory n theory

abbrev pub within_head : ℕ → ReadHead → Bool
within_head n ReadNothing = false
within_head n (ReadAtom term) = occurs n term
within_head n (ReadDuty theory) = within_theory n theory
within_head n (ReadChoose left elements right) = occurs_in_guard n left || (list_any (occurs_in_choice n) elements || occurs_in_guard n right)

-- the variable stands in the rule
abbrev pub within_rule : ℕ → ReadRule → Bool
within_rule n rule = within_head n rule.head || list_any (within_literal n) rule.body
