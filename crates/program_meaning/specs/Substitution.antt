-- Substitutions as lists of values, and the order of instances.
use Rattle.std.specs.Prelude.{ℕ, ◌==◌, if◌then◌else◌, List, [], ◌∷◌, map}
use Rattle.std.specs.List.{range_with_len}
use Rattle.std.specs.Ordering.{nat_cmp, ordering_then}
use Rattle.std.specs.Cmp.Lexicographic.{slice_cmp}
use Rattle.std.specs.declared.cmp.Ordering.{Ordering}
use Rattle.std.specs.declared.cmp.Ordering.TheVariants.{Less, Equal, Greater}
use Rattle.symbols.specs.Symbol.{Symbol}
use Rattle.symbols.specs.Order.{symbol_cmp}
use Rattle.syntax_tree.specs.Outcome.{Outcome, IsSymbol, IsOver, IsUndefined}

-- what a variable may stand for: a symbol, or over
pub data Value : Type 0 where
  SymbolValue : Symbol → Value
  OverValue : Value

-- a value as what a term is worth
abbrev pub worth_of : Value → Outcome
worth_of (SymbolValue symbol) = IsSymbol symbol
worth_of OverValue = IsOver

-- what a variable is worth, where these variables have these values; any other has none
abbrev pub worth_at : List ℕ → List Value → ℕ → Outcome
worth_at [] values n = IsUndefined
worth_at (m ∷ variables) [] n = IsUndefined
worth_at (m ∷ variables) (value ∷ values) n = (if m == n then worth_of value else worth_at variables values n)

-- what so many variables, numbered from 1, are worth, where some of them have these values
abbrev pub substituted : ℕ → List ℕ → List Value → List Outcome
substituted count variables values = map (worth_at variables values) (range_with_len 1 count)

-- an instance of a rule or an element: its place, counted from 0, and the values of its variables in order
pub record Key : Type 0 where
  pub place : ℕ
  pub values : List Value

-- symbols in their order, and over last
abbrev pub value_cmp : Value → Value → Ordering
value_cmp (SymbolValue a) (SymbolValue b) = symbol_cmp a b
value_cmp (SymbolValue a) OverValue = Less
value_cmp OverValue (SymbolValue b) = Greater
value_cmp OverValue OverValue = Equal

-- instances by place, then by their values from the left
abbrev pub key_cmp : Key → Key → Ordering
key_cmp k l = ordering_then (nat_cmp k.place l.place) (slice_cmp value_cmp k.values l.values)
