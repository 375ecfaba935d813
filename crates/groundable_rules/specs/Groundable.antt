-- Rules that can be grounded: their variables are bound, and their theory atoms stand where they may.
use Rattle.std.specs.Prelude.{◌≡◌, ◌≤◌, ℕ, Bool, true, false, ◌&&◌, length, Option, None, Some}
use Rattle.std.specs.List.{list_all}
use Rattle.syntax_tree.specs.declared.literal.Guard.{Guard}
use Rattle.syntax_tree.specs.declared.literal.TheoryName.{TheoryName}
use Rattle.syntax_tree.specs.declared.literal.TheoryName.TheVariants as name
use Rattle.ground_model.specs.Members.{IsMember}
use Rattle.program_meaning.specs.Read.{ReadElement, ReadTheory, ReadLiteral, ReadPlain, ReadTold, ReadChoice, ReadHead, ReadDuty, ReadRule}
use Rattle.program_meaning.specs.Tuples.{theories}
use Rattle.program_meaning.specs.Count.{choices_in}
use Rattle.program_meaning.specs.Search.{HasListed, HasItsVariables}
use Rattle.program_meaning.specs.Safety.{IsUnsafe}

-- THEORY ATOMS

abbrev pub is_guarded : Option Guard → Bool
is_guarded None = false
is_guarded (Some guard) = true

-- `&sum` and `&diff` with a guard may stand in a body
abbrev pub may_be_told : ReadTheory → Bool
may_be_told theory = by theory.name && is_guarded theory.guard
  where
    by : TheoryName → Bool
    by name.Sum = true
    by name.Diff = true
    by other = false

-- `&sum`, `&diff` and `&dom` with a guard, and those that need none, may be a head
abbrev pub may_be_duty : ReadTheory → Bool
may_be_duty theory = by theory.name (is_guarded theory.guard)
  where
    by : TheoryName → Bool → Bool
    by name.Sum guarded = guarded
    by name.Diff guarded = guarded
    by name.Dom guarded = guarded
    by name.Unknown guarded = false
    by other guarded = true

abbrev pub may_stand : ReadLiteral → Bool
may_stand (ReadPlain literal) = true
may_stand (ReadTold theory sign) = may_be_told theory

abbrev pub may_be_head : ReadHead → Bool
may_be_head (ReadDuty theory) = may_be_duty theory
may_be_head head = true

-- RULES

-- the rule has at most 64 variables, all those of its body and of its conditions; no left side of a comparison is an interval; no variable
-- is unsafe; and its theory atoms stand where they may
pub record IsGroundable (rule : ReadRule) : Type 0 where
  pub few : length rule.order ≤ 64
  pub listed : HasItsVariables rule
  pub told : (theory : ReadTheory) (element : ReadElement) → IsMember (theories rule) theory → IsMember theory.elements element → HasListed rule.order element.condition
  pub chosen : (element : ReadChoice) → IsMember (choices_in rule.head) element → HasListed rule.order element.condition
  pub safe : (n : ℕ) → IsUnsafe rule n → ⊥
  pub body : list_all may_stand rule.body ≡ true
  pub head : may_be_head rule.head ≡ true
