-- Sums whose items count different things.
use Rattle.std.specs.Prelude.{◌≡◌, ℕ, ◌==◌, Bool, true, false, not, ◌&&◌, ℤ, List, [], ◌∷◌, map, length, Some, IsTrue}
use Rattle.std.specs.List.{list_all}
use Rattle.ground_model.specs.declared.program.GroundProgram.{GroundProgram}
use Rattle.linear_normal.specs.declared.constraint.Item.{Item}
use Rattle.linear_normal.specs.declared.constraint.Item.TheVariants.{Value, Truth}
use Rattle.linear_normal.specs.declared.constraint.Constraint.TheVariants as c
use Rattle.linear_normal.specs.declared.numbered.Numbered.{Numbered}
use Rattle.linear_normal.specs.Numbering.{numbering}
use Rattle.linear_normal.specs.Steps.{is_one_of}
use Rattle.linear_normal.specs.Truth.{numbered_in}

-- both count one variable, or both count one constraint
abbrev pub same_counted : Item → Item → Bool
same_counted (Value x c) (Value y d) = x == y
same_counted (Truth n c) (Truth m d) = n == m
same_counted a b = false

-- the item counts the truth of the constraint
abbrev pub counts_truth : ℕ → Item → Bool
counts_truth n (Truth m c) = m == n
counts_truth n item = false

-- each item counts another variable or constraint, and none counts the sum itself
abbrev pub are_items : ℕ → List Item → Bool
are_items number [] = true
are_items number (item ∷ items) =
    not (counts_truth number item) && list_all (λ other. not (same_counted item other)) items && are_items number items

-- the item counts one of so many variables or constraints
abbrev pub is_item_within : ℕ → ℕ → Item → Bool
is_item_within variables constraints (Value x c) = is_one_of variables x
is_item_within variables constraints (Truth n c) = is_one_of constraints n

-- the items of the objective: its variables
abbrev pub objective_items : Numbered → List Item
objective_items numbered = map (λ pair. Value pair.0 pair.1) numbered.objective.pairs

-- each sum counts different variables and constraints of the numbering, and not itself; so does the objective, whose number is 0
pub record AreSumsApart (program : GroundProgram) (numbered : Numbered) : Type 0 where
  pub sums : (n : ℕ) (items : List Item) (most : ℤ) → numbered_in numbered.constraints n ≡ Some (c.AtMost items most) → IsTrue (are_items n items)
  pub within : (n : ℕ) (items : List Item) (most : ℤ) → numbered_in numbered.constraints n ≡ Some (c.AtMost items most)
      → IsTrue (is_one_of (length numbered.constraints) n && list_all (is_item_within (length program.variables) (length numbered.constraints)) items)
  pub objective : IsTrue (are_items 0 (objective_items numbered))
  pub objective_within : IsTrue (list_all (is_item_within (length program.variables) (length numbered.constraints)) (objective_items numbered))

-- so it is in the numbering of every program
abbrev pub ItemsLaw : Type 0
ItemsLaw = (program : GroundProgram) → AreSumsApart program (numbering program)
