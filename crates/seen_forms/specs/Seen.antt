-- What is seen in the tree of a form, beside what is seen in the form, where these are the names of the variables.
use Rattle.std.specs.Prelude.{◌≡◌, List, [], ◌∷◌}
use Rattle.syntax_tree.specs.declared.rule.Name.{Name}
use Rattle.grammar.specs.Sight.{Sight, Sighting, of_variable, of_anonymous, of_interval, of_atom}
use Rattle.grammar.specs.Tree.{number_of}
use Rattle.rewriting.specs.declared.sight.Sight.{Sight as TreeSight}
use Rattle.rewriting.specs.declared.sight.Sight.TheVariants.{Variable, Anonymous, Interval, Atom}

-- a variable by the number of its name, a `_`, an interval that is an argument, or an atom
abbrev pub IsSeenAs : List Name → Sight → TreeSight → Type 0
IsSeenAs names (of_variable name) (Variable n) = n ≡ number_of names name
IsSeenAs names of_anonymous (Anonymous n) = Unit {0}
IsSeenAs names of_interval (Interval n) = Unit {0}
IsSeenAs names of_atom Atom = Unit {0}
IsSeenAs names sight other = ⊥

-- one by one, in order
abbrev pub AreSeenAs : List Name → List Sighting → List TreeSight → Type 0
AreSeenAs names [] [] = Unit {0}
AreSeenAs names [] (other ∷ others) = ⊥
AreSeenAs names (s ∷ sights) [] = ⊥
AreSeenAs names (s ∷ sights) (other ∷ others) = IsSeenAs names s.sight other × AreSeenAs names sights others
