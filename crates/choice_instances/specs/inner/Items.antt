-- Elements of ground choices from rows.
use Rattle.std.specs.Prelude.{◌≡◌, true, false, List, length, Option, Some, slice_get}
use Rattle.std.specs.List.{AllByRecursion, AllZip}
use Rattle.symbols.specs.Symbol.{Symbol}
use Rattle.syntax_tree.specs.declared.literal.Guard.{Guard}
use Rattle.syntax_tree.specs.Outcome.{Outcome, IsSymbol}
use Rattle.syntax_tree.specs.Value.{value_of}
use Rattle.ground_model.specs.Rule.{ItemOf}
use Rattle.program_meaning.specs.Read.{ReadChoice, ReadRule}
use Rattle.program_meaning.specs.Count.{choices_in}
use Rattle.program_meaning.specs.Ground.{AtomsAs}
use Rattle.program_meaning.specs.Instance.{bound_in_choice, bound_stands, IsChoiceInstance}
use Rattle.program_meaning.specs.Outside.{bound_over, is_choice_over}
use Rattle.program_meaning.specs.Substitution.{Value, Key}
use Rattle.instance_search.specs.declared.found.Row.{Row}
use Rattle.instance_search.specs.Found.{row_in, IsKnownRow}

-- the row is an instance of the element at which nothing is over
pub record IsInside (symbols : List Symbol) (rule : ReadRule) (values : List Value) (element : ReadChoice) (row : Row) : Type 0 where
  pub stands : IsChoiceInstance rule values element (row_in symbols row)
  pub inside : is_choice_over rule values element (row_in symbols row) ≡ false
  pub known : IsKnownRow (length symbols) row

abbrev pub AreInside : List Symbol → ReadRule → List Value → List (List Row) → Type 0
AreInside symbols rule values rows = AllZip (λ element found. AllByRecursion (IsInside symbols rule values element) found) (choices_in rule.head) rows

-- the element's atom and condition at local values
pub record IsItemAt (rule : ReadRule) (values : List Value) (element : ReadChoice) (locals : List Value) (item : ItemOf Symbol Symbol) : Type 0 where
  pub atom : value_of (bound_in_choice rule values element locals) element.atom ≡ IsSymbol item.atom
  pub condition : AtomsAs (bound_in_choice rule values element locals) element.condition item.condition

-- so of the element at a key
abbrev pub IsItemOf : ReadRule → List Value → Key → ItemOf Symbol Symbol → Type 0
IsItemOf rule values key item = (element : ReadChoice) × (slice_get (choices_in rule.head) key.place ≡ Some element) × IsItemAt rule values element key.values item

-- the bounds are integers
pub record AreBounds (bound : List Outcome) (left right : Option Guard) : Type 0 where
  pub low : bound_stands bound left ≡ true
  pub low_inside : bound_over bound left ≡ false
  pub high : bound_stands bound right ≡ true
  pub high_inside : bound_over bound right ≡ false
