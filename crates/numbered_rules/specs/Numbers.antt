-- Numbers by id.
use Rattle.std.specs.Prelude.{◌≡◌, ◌<◌, ℕ, zero, suc, List, length, Option, None, Some, slice_index}
use Rattle.symbols.specs.Symbol.{Symbol}
use Rattle.symbols.specs.Table.{symbol_at}
use Rattle.program_meaning.specs.Canonical.{number_of}

-- 0 is no number
abbrev pub or_none : ℕ → Option ℕ
or_none zero = None
or_none (suc n) = Some (suc n)

-- each id of the table has the number that its symbol has among those that are named
abbrev pub AreNumbers : List Symbol → List Symbol → List ℕ → Type 0
AreNumbers symbols named numbers = (id : ℕ) → id < length symbols → or_none (slice_index numbers id) ≡ number_of named (symbol_at symbols id)

-- there is one for each id
pub record HaveNumbers (symbols named : List Symbol) (numbers : List ℕ) : Type 0 where
  pub size : length numbers ≡ length symbols
  pub each : AreNumbers symbols named numbers
