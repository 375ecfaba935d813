-- Sums on a trail on which all is decided.
use Rattle.std.specs.Prelude.{◌≡◌, ◌+ℤ◌, List, IsTrue}
use Rattle.std.specs.List.{list_all}
use Rattle.ground_model.specs.declared.program.GroundProgram.{GroundProgram}
use Rattle.ground_model.specs.Objective.{objective_of}
use Rattle.linear_normal.specs.declared.constraint.Item.{Item}
use Rattle.linear_normal.specs.Bounds.{bounds_named, least_sum, greatest_sum}
use Rattle.linear_normal.specs.Numbering.{numbering}
use Rattle.linear_normal.specs.Truth.{items_value}
use Rattle.numbering_laws.specs.Items.{is_item_within, objective_items}
use Rattle.trail.specs.Assignment.{Assignment, IsAssignment, lits_of}
use Rattle.trail_worlds.specs.Total.{shape_of, IsTotal}
use Rattle.trail_worlds.specs.Worlds.{truths_on, answer_on}

-- under the bounds that the entries of the trail name, the least and the greatest sum are the one that its truths and values give
pub record HasOneSum (t : Assignment) (items : List Item) : Type 0 where
  pub least : least_sum (bounds_named t.shape.ends (lits_of t.entries)) items ≡ items_value (truths_on t) items
  pub greatest : greatest_sum (bounds_named t.shape.ends (lits_of t.entries)) items ≡ items_value (truths_on t) items

-- so it is where all is decided
abbrev pub SumLaw : Type 0
SumLaw =
    (t : Assignment) → IsAssignment t → IsTotal t → (items : List Item) → IsTrue (list_all (is_item_within t.shape.variables t.shape.constraints) items) → HasOneSum t items

-- and the answer of a trail of the program costs the greatest sum of the objective's items with its constant
abbrev pub CostLaw : Type 0
CostLaw =
    (program : GroundProgram) (t : Assignment) → IsAssignment t → t.shape ≡ shape_of program → IsTotal t
    → objective_of program (answer_on t)
    ≡ greatest_sum (bounds_named t.shape.ends (lits_of t.entries)) (objective_items (numbering program)) +ℤ (numbering program).objective.constant
