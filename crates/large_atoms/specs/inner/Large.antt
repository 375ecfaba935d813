-- Tuples with too large values.
use Rattle.std.specs.Prelude.{Bool, false, not, List}
use Rattle.std.specs.List.{list_any}
use Rattle.symbols.specs.declared.ends.Ends.{Ends}
use Rattle.symbols.specs.Symbol.{Symbol}
use Rattle.syntax_tree.specs.declared.literal.TheoryName.{TheoryName}
use Rattle.syntax_tree.specs.declared.literal.TheoryName.TheVariants as name
use Rattle.ground_model.specs.Rule.{PlaceOf}
use Rattle.program_meaning.specs.Outside.{is_small_within}

-- a first place is too large over the ends
abbrev pub is_large : Ends → List (PlaceOf Symbol) → Bool
is_large ends places = list_any (λ place. not (is_small_within ends place.linear)) places

-- one of a theory atom of this name
abbrev pub is_large_form : Ends → TheoryName → List (PlaceOf Symbol) → Bool
is_large_form ends name.Distinct places = is_large ends places
is_large_form ends name.Disjoint places = is_large ends places
is_large_form ends other places = false
