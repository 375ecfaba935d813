-- Directives and their tuples, each id read in a table.
use Rattle.std.specs.Prelude.{◌≡◌, ℕ, true, if◌then◌else◌, List, [], map}
use Rattle.std.specs.List.{AllByRecursion, flat_map}
use Rattle.symbols.specs.Symbol.{Symbol}
use Rattle.syntax_tree.specs.declared.literal.TheoryName.{TheoryName}
use Rattle.ground_model.specs.Members.{IsListOf}
use Rattle.program_meaning.specs.Read.{ReadRule}
use Rattle.program_meaning.specs.Canonical.{has_name, IsDirected}
use Rattle.program_meaning.specs.Ground.{is_directive}
use Rattle.program_meaning.specs.Said.{place_in}
use Rattle.program_meaning.specs.declared.collected.CollectedPlace.{CollectedPlace}
use Rattle.symbol_rules.specs.Reading.{HasPlace}
use Rattle.directed_tuples.specs.declared.directive.Directive.{Directive}

-- the tuples of a directive, where it has this name
abbrev pub places_of : TheoryName → Directive → List CollectedPlace
places_of name directive = (if has_name name directive.name then directive.places else [])

-- the tuples of all directives with this name
abbrev pub tuples_of : TheoryName → List Directive → List CollectedPlace
tuples_of name directives = flat_map (places_of name) directives

-- they are exactly the tuples of the program's directives with this name
abbrev pub AreTuplesOf : List ReadRule → List Symbol → TheoryName → List CollectedPlace → Type 0
AreTuplesOf rules symbols name places = IsListOf (IsDirected rules name) (map (place_in symbols) places)

-- the directives have all tuples of the program's directives
abbrev pub HaveTuples : List ReadRule → List Symbol → List Directive → Type 0
HaveTuples rules symbols directives = (name : TheoryName) → is_directive name ≡ true → AreTuplesOf rules symbols name (tuples_of name directives)

-- their ids are among so many symbols
abbrev pub AreKnownTuples : ℕ → List Directive → Type 0
AreKnownTuples size directives = AllByRecursion (λ directive. AllByRecursion (HasPlace size) directive.places) directives
