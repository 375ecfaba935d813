-- The bodies of rules and their numbers.
use Rattle.std.specs.Prelude.{ℕ, ◌+◌, ◌==◌, Bool, true, ◌||◌, if◌then◌else◌, is_some, List, [], ◌∷◌, ◌++◌, map, length}
use Rattle.std.specs.List.{list_any, filter, range_with_len}
use Rattle.ground_model.specs.declared.rule.BodyLit.{BodyLit}
use Rattle.ground_model.specs.declared.rule.BodyLit.TheVariants as b
use Rattle.ground_model.specs.declared.rule.ChoiceItem.{ChoiceItem}
use Rattle.ground_model.specs.declared.rule.GroundChoice.{GroundChoice}
use Rattle.ground_model.specs.declared.rule.GroundHead.{GroundHead}
use Rattle.ground_model.specs.declared.rule.GroundHead.TheVariants as h
use Rattle.ground_model.specs.declared.rule.GroundRule.{GroundRule}

-- the choice has a bound
abbrev pub is_bounded : GroundChoice → Bool
is_bounded choice = is_some choice.left || is_some choice.right

-- the body by which an element is given: the rule's and its condition
abbrev pub element_body : List BodyLit → ChoiceItem → List BodyLit
element_body body item = body ++ item.condition

-- the body by which an element is taken: the same with its atom
abbrev pub selecting_body : List BodyLit → ChoiceItem → List BodyLit
selecting_body body item = body ++ item.condition ++ b.Atom item.atom true ∷ []

-- for a choice, one body for each element, and where it has a bound one more for each
abbrev pub head_bodies : List BodyLit → GroundHead → List (List BodyLit)
head_bodies body (h.Choice choice) =
    map (element_body body) choice.items ++ (if is_bounded choice then map (selecting_body body) choice.items else [])
head_bodies body head = []

-- the bodies of a rule, its own first
abbrev pub bodies_in : GroundRule → List (List BodyLit)
bodies_in rule = rule.body ∷ head_bodies rule.body rule.head

-- a rule with the number of its own body; its further bodies have the next numbers
pub record Placed : Type 0 where
  pub first : ℕ
  pub rule : GroundRule

-- rules whose bodies are numbered one after another, from this number on
abbrev pub placed : ℕ → List GroundRule → List Placed
placed first [] = []
placed first (rule ∷ rules) = record { first = first; rule = rule } ∷ placed (first + length (bodies_in rule)) rules

-- the numbers of those elements that have the atom, where the elements are numbered from n on
abbrev pub numbers_with : ℕ → List ChoiceItem → ℕ → List ℕ
numbers_with n [] a = []
numbers_with n (item ∷ items) a =
    (if item.atom == a then n ∷ numbers_with (n + 1) items a else numbers_with (n + 1) items a)

-- the different atoms of elements, ascending, of so many atoms
abbrev pub atoms_in : ℕ → List ChoiceItem → List ℕ
atoms_in atoms items = filter (λ a. list_any (λ item. item.atom == a) items) (range_with_len 1 atoms)

-- for each different atom of a choice the numbers of its selecting bodies
abbrev pub selections : ℕ → ℕ → List ChoiceItem → List (List ℕ)
selections atoms first items = map (numbers_with (first + 1 + length items) items) (atoms_in atoms items)
