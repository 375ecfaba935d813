-- The names of the variables that are seen keep the rules on names.
use Rattle.std.proofs.Common.{◌≡◌, ℕ, Bool, true, false, ◌==◌, if◌then◌else◌, List, [], ◌∷◌, ◌++◌, refl, ◌∙◌}
use Rattle.std.specs.List.{list_all}
use Rattle.std.proofs.lemmas.Bool.{and_from}
use Rattle.std.proofs.lemmas.List.Folds.{list_all-append}
use Rattle.syntax_tree.specs.declared.rule.Name.{Name}
use Rattle.syntax_tree.specs.Tree.{is_name}
use Rattle.grammar.specs.Tree.{number_of}
use Rattle.grammar.specs.Sight.{Sight, Sighting, of_variable, of_anonymous, of_interval, of_atom}
use Rattle.grammar.specs.Rules.{HaveNames}
use Rattle.theory_grammar.specs.Kept.{with_name, with_sight, named}

abbrev AreNames : List Name → Type 0
AreNames names = list_all (λ name. is_name name.text) names ≡ true

with_name_are : (names : List Name) (name : List ℕ) → AreNames names → is_name name ≡ true → AreNames (with_name names name)
with_name_are names name h k = by (number_of names name == 0)
  where
    by : (old : Bool) → AreNames (if old then names ++ record { text = name } ∷ [] else names)
    by true = list_all-append (λ name. is_name name.text) names (record { text = name } ∷ []) ∙ and_from (list_all (λ name. is_name name.text) names) _ h (and_from (is_name name) true k refl)
    by false = h

with_sight_are : (names : List Name) (at : ℕ) (sight : Sight) → AreNames names → HaveNames (record { sight = sight; at = at } ∷ []) → AreNames (with_sight names sight)
with_sight_are names at (of_variable name) h k = with_name_are names name h k.0
with_sight_are names at of_anonymous h k = h
with_sight_are names at of_interval h k = h
with_sight_are names at of_atom h k = h

-- names with those of the variables that are seen, in the order in which they first are
pub named_are : (names : List Name) (sights : List Sighting) → AreNames names → HaveNames sights → AreNames (named names sights)
named_are names [] h k = h
named_are names (s ∷ sights) h k = named_are (with_sight names s.sight) sights (with_sight_are names s.at s.sight h (k.0, tt)) k.1
