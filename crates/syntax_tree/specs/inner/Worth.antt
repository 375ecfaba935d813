-- What the code holds while a term is read. Only this crate's code reads this file.
use Rattle.std.specs.Prelude.{ℕ, ◌-◌, ◌==◌, ◌<◌, List, map, Option, Some, None, slice_index_or, if◌then◌else◌}
use Rattle.std.specs.List.{AllByRecursion}
use Rattle.symbols.specs.Symbol.{Symbol}
use Rattle.symbols.specs.Table.{symbol_at}
use Rattle.syntax_tree.specs.declared.binding.Value.{Value}
use Rattle.syntax_tree.specs.declared.worth.Worth.{Worth}
use Rattle.syntax_tree.specs.declared.worth.Worth.TheVariants.{Plain, Symbol as SymbolWorth}
use Rattle.syntax_tree.specs.declared.worth.Places.{Places}
use Rattle.syntax_tree.specs.declared.worth.Places.TheVariants as places
use Rattle.syntax_tree.specs.Outcome.{Outcome, IsSymbol}
use Rattle.syntax_tree.specs.Value.{plain, Arguments, AreSymbols, HasOver, HasUndefined}

-- what it says, its id read in a table
abbrev pub outcome : List Symbol → Worth → Outcome
outcome symbols (Plain amount) = plain amount
outcome symbols (SymbolWorth id) = IsSymbol (symbol_at symbols id)

abbrev pub outcomes : List Symbol → Option Worth → Option Outcome
outcomes symbols None = None
outcomes symbols (Some worth) = Some (outcome symbols worth)

-- its id, where it has one, is below this number
abbrev pub IsHeld : ℕ → Worth → Type 0
IsHeld size (Plain amount) = Unit {0}
IsHeld size (SymbolWorth id) = id < size

abbrev pub IsOptionHeld : ℕ → Option Worth → Type 0
IsOptionHeld size None = Unit {0}
IsOptionHeld size (Some worth) = IsHeld size worth

-- the arguments, their ids read in a table
abbrev pub gathered : List Symbol → Places → Arguments
gathered symbols (places.Ids ids) = AreSymbols (map (symbol_at symbols) ids)
gathered symbols places.Over = HasOver
gathered symbols places.Undefined = HasUndefined

-- their ids are below this number
abbrev pub AreHeld : ℕ → Places → Type 0
AreHeld size (places.Ids ids) = AllByRecursion (λ id. id < size) ids
AreHeld size places.Over = Unit {0}
AreHeld size places.Undefined = Unit {0}

-- the value of a variable by its number, from 1
abbrev pub bound_at : List (Option Value) → ℕ → Option Value
bound_at values number = (if number == 0 then None else slice_index_or values (number - 1) None)
