-- What a term is worth.
use Rattle.std.specs.Prelude.{ℕ, ◌<◌, List, Option, Some, None, map, Some}
use Rattle.symbols.specs.Symbol.{Symbol}
use Rattle.symbols.specs.Table.{symbol_at}
use Rattle.syntax_tree.specs.declared.binding.Value.{Value}
use Rattle.syntax_tree.specs.declared.binding.Value.TheVariants as value

-- a symbol; over, which is a number outside 32 bits or a nesting deeper than 256; or undefined
pub data Outcome : Type 0 where
  IsSymbol : Symbol → Outcome
  IsOver : Outcome
  IsUndefined : Outcome

-- what an answer says, its id read in a table
abbrev pub outcome_of : List Symbol → Option Value → Outcome
outcome_of symbols None = IsUndefined
outcome_of symbols (Some (value.Symbol id)) = IsSymbol (symbol_at symbols id)
outcome_of symbols (Some value.Over) = IsOver

-- what the variables are worth, each value's id read in a table
abbrev pub bound_in : List Symbol → List (Option Value) → List Outcome
bound_in symbols values = map (outcome_of symbols) values

-- the answer's id, where it has one, is below this number
abbrev pub IsKnown : ℕ → Option Value → Type 0
IsKnown size None = Unit {0}
IsKnown size (Some (value.Symbol id)) = id < size
IsKnown size (Some value.Over) = Unit {0}
