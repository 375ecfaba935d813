-- The order of rows, their ids read in a table.
use Rattle.std.specs.Prelude.{List}
use Rattle.std.specs.declared.cmp.Ordering.{Ordering}
use Rattle.symbols.specs.Symbol.{Symbol}
use Rattle.syntax_tree.specs.declared.binding.Value.{Value as HeldValue}
use Rattle.program_meaning.specs.Said.{value_in}
use Rattle.program_meaning.specs.Substitution.{value_cmp}

-- values by what they say
abbrev pub value_order : List Symbol → HeldValue → HeldValue → Ordering
value_order symbols a b = value_cmp (value_in symbols a) (value_in symbols b)
