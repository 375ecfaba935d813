-- Where things stand in a rule, by its places and what is seen in it.
use Rattle.std.specs.Prelude.{ℕ, suc, Bool, List, map}
use Rattle.syntax_tree.specs.declared.rule.Rule.{Rule}
use Rattle.rewriting.specs.declared.sight.Sight.{Sight}
use Rattle.rewriting.specs.Order.{variable_in}
use Rattle.load_meaning.specs.Lines.{before_true, is_atom, is_this, place_at}

abbrev pub variable_place_in : Rule → List Sight → ℕ → ℕ
variable_place_in rule sights n = place_at rule (suc (before_true 0 (map (λ sight. is_this n (variable_in sight)) sights)))

abbrev pub atom_place_in : Rule → List Sight → ℕ → ℕ
atom_place_in rule sights n = place_at rule (suc (before_true n (map is_atom sights)))

abbrev pub condition_place_in : Rule → List Sight → List Bool → ℕ → ℕ
condition_place_in rule sights flags n = atom_place_in rule sights (before_true n flags)
