-- What is found of a linear term.
use Rattle.std.specs.Prelude.{◌≡◌, Bool, true, false, List, length, map, All}
use Rattle.symbols.specs.Symbol.{Symbol}
use Rattle.symbols.specs.Order.{symbol_cmp}
use Rattle.program_meaning.specs.declared.collected.SymbolLinear.{SymbolLinear}
use Rattle.program_meaning.specs.Ascending.{Ascends}
use Rattle.program_meaning.specs.Collected.{Collected, holds_variable}
use Rattle.program_meaning.specs.Said.{pair_in, linear_in, IsKnownPair}
use Rattle.ground_model.specs.Rule.{LinearOf}
use Rattle.ground_model.specs.Sound.{is_small}
use Rattle.collected_terms.specs.declared.collected_term.CollectedTerm.{CollectedTerm}
use Rattle.collected_terms.specs.declared.collected_term.LinearForm.{LinearForm}
use Rattle.collected_terms.specs.declared.collected_term.LinearForm.TheVariants as form

-- what is found of a linear form, each id read in a table: nothing where the term is not linear; where a part is too large, only whether it
-- holds a variable; else the form
abbrev pub IsFormBy : List Symbol → LinearForm → Bool → Bool → LinearOf Symbol → Type 0
IsFormBy symbols form.NotLinear not_linear large wanted = not_linear ≡ true
IsFormBy symbols (form.Large holds) not_linear large wanted = (not_linear ≡ false) × (large ≡ true) × (holds ≡ holds_variable wanted)
IsFormBy symbols (form.Small linear) not_linear large wanted = (not_linear ≡ false) × (large ≡ false) × (linear_in symbols linear ≡ wanted)

abbrev pub IsFormOf : List Symbol → LinearForm → Collected → Type 0
IsFormOf symbols found term = IsFormBy symbols found term.not_linear term.large term.form

-- a term as it is collected
pub record IsTermOf (symbols : List Symbol) (found : CollectedTerm) (term : Collected) : Type 0 where
  pub undefined : found.undefined ≡ term.undefined
  pub over : found.over ≡ term.over
  pub form : IsFormOf symbols found.form term

-- the variables are symbols of the table, each once and in order, and all numbers are small
pub record IsKnownLinear (symbols : List Symbol) (linear : SymbolLinear) : Type 0 where
  pub each : All (IsKnownPair (length symbols)) linear.pairs
  pub constant : is_small linear.constant ≡ true
  pub rise : Ascends (λ a b. symbol_cmp a.0 b.0) (map (pair_in symbols) linear.pairs)

abbrev pub IsKnownForm : List Symbol → LinearForm → Type 0
IsKnownForm symbols form.NotLinear = Unit {0}
IsKnownForm symbols (form.Large holds) = Unit {0}
IsKnownForm symbols (form.Small linear) = IsKnownLinear symbols linear
