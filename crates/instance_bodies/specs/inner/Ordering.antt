-- The order in which atoms with signs are sorted.
use Rattle.std.specs.Prelude.{ℕ, Bool, List}
use Rattle.std.specs.Ordering.{ordering_then}
use Rattle.std.specs.declared.cmp.Ordering.{Ordering}
use Rattle.symbols.specs.Symbol.{Symbol}
use Rattle.symbols.specs.inner.Sorted.{id_cmp}
use Rattle.program_meaning.specs.Ground.{sign_cmp}

-- by the ids of a table, and then the true one before the false one
abbrev pub literal_order : List Symbol → ℕ × Bool → ℕ × Bool → Ordering
literal_order symbols a b = ordering_then (id_cmp symbols a.0 b.0) (sign_cmp a.1 b.1)
