-- The objective over numbers.
use Rattle.std.specs.Prelude.{◌≡◌, true, false, List, length, map}
use Rattle.symbols.specs.Symbol.{Symbol}
use Rattle.symbols.specs.Order.{symbol_cmp}
use Rattle.syntax_tree.specs.declared.literal.TheoryName.TheVariants as name
use Rattle.ground_model.specs.declared.linear.Place.{Place}
use Rattle.ground_model.specs.Sound.{is_sound_objective}
use Rattle.ground_model.specs.View.{place_of}
use Rattle.program_meaning.specs.Read.{ReadRule}
use Rattle.program_meaning.specs.Ascending.{IsOrderedListOf}
use Rattle.program_meaning.specs.Canonical.{IsVariable, PlacesAs}
use Rattle.program_meaning.specs.Outside.{HasLargeObjective}
use Rattle.ground_rule_laws.specs.Laws.{AreKnownPlaces}

-- the tuples to minimise and those to maximise in order, over the numbers of the program's variables
pub record AreObjective (rules : List ReadRule) (variables symbols : List Symbol) (smaller larger : List Place) : Type 0 where
  pub integers : IsOrderedListOf symbol_cmp (IsVariable rules) variables
  pub minimised : PlacesAs rules name.Minimize variables (map (place_of symbols) smaller)
  pub maximised : PlacesAs rules name.Maximize variables (map (place_of symbols) larger)
  pub known_smaller : AreKnownPlaces (length symbols) smaller
  pub known_larger : AreKnownPlaces (length symbols) larger

-- where they are a sound objective, the program's is not too large
abbrev pub SmallObjectiveLaw : Type 0
SmallObjectiveLaw =
    (rules : List ReadRule) (variables symbols : List Symbol) (smaller larger : List Place) → AreObjective rules variables symbols smaller larger
    → is_sound_objective (length symbols) (length variables) smaller larger ≡ true → HasLargeObjective rules → ⊥

-- where they are not, it is
abbrev pub LargeObjectiveLaw : Type 0
LargeObjectiveLaw =
    (rules : List ReadRule) (variables symbols : List Symbol) (smaller larger : List Place) → AreObjective rules variables symbols smaller larger
    → is_sound_objective (length symbols) (length variables) smaller larger ≡ false → HasLargeObjective rules
