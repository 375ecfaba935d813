-- What is kept of a form beside its tree: the names of its variables, places, and the first failed check.
use Rattle.std.specs.Prelude.{◌≡◌, ℕ, ◌==◌, nat_lt, if◌then◌else◌, List, [], ◌∷◌, ◌++◌, length, map, Option, Some, None, slice_index_or}
use Rattle.lexer.specs.declared.token.Token.{Token}
use Rattle.syntax_tree.specs.declared.rule.Name.{Name}
use Rattle.grammar.specs.declared.shape.Shape.{Shape}
use Rattle.grammar.specs.declared.shape.Shape.TheVariants.{Atom, Interval, Other}
use Rattle.grammar.specs.Spelled.{no_token}
use Rattle.grammar.specs.Tree.{number_of}
use Rattle.grammar.specs.Sight.{Sight, Sighting, of_variable, of_anonymous, of_interval, of_atom}

-- where a word begins, or where the text ends
abbrev pub place_of : List ℕ → List Token → ℕ → ℕ
place_of text tokens at = (if nat_lt at (length tokens) then (slice_index_or tokens at no_token).start else length text)

-- the lesser of a place and the one so far
abbrev pub lesser : Option ℕ → ℕ → Option ℕ
lesser None at = Some at
lesser (Some bad) at = (if nat_lt at bad then Some at else Some bad)

-- the least of places and the one so far
abbrev pub least : Option ℕ → List ℕ → Option ℕ
least bad [] = bad
least bad (at ∷ places) = least (lesser bad at) places

-- an operand, which may be no interval
abbrev pub refused : Option ℕ → Shape → ℕ → Option ℕ
refused bad Interval at = lesser bad at
refused bad Atom at = bad
refused bad Other at = bad

-- where a word begins
abbrev pub start_of : List Token → ℕ → ℕ
start_of tokens at = (slice_index_or tokens at no_token).start

-- the names with one more, where it is new
abbrev pub with_name : List Name → List ℕ → List Name
with_name names name = (if number_of names name == 0 then names ++ record { text = name } ∷ [] else names)

abbrev pub with_sight : List Name → Sight → List Name
with_sight names (of_variable name) = with_name names name
with_sight names of_anonymous = names
with_sight names of_interval = names
with_sight names of_atom = names

-- the names of the variables that are seen, in the order in which they first are
abbrev pub named : List Name → List Sighting → List Name
named names [] = names
named names (s ∷ sights) = named (with_sight names s.sight) sights

abbrev pub places_of : List Token → List Sighting → List ℕ
places_of tokens sights = map (λ s. start_of tokens s.at) sights

-- names that begin so
abbrev pub Extends : List Name → List Name → Type 0
Extends names later = (more : List Name) × (later ≡ names ++ more)
