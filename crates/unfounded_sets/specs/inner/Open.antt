-- Which atoms are derived by bodies that are not false, where atoms that are false are given.
use Rattle.std.specs.Prelude.{ℕ, false, not, List, [], ◌++◌, map}
use Rattle.std.specs.List.{filter, range_with_len}
use Rattle.literals.specs.declared.lit.Lit.TheVariants.{Atom, Body}
use Rattle.linear_normal.specs.declared.numbered.Support.{Support}
use Rattle.definite_rules.specs.Rule.{DefiniteRule}
use Rattle.trail.specs.Assignment.{Assignment, is_true_on}
use Rattle.unfounded_sets.specs.Dependence.{Dependence, row_of}

-- the atom is given
abbrev pub fact : ℕ → DefiniteRule
fact a = record { head = a; body = [] }

-- the atoms up to this number that are false
abbrev pub facts_of : Assignment → ℕ → List DefiniteRule
facts_of t atoms = map fact (filter (λ a. is_true_on t (Atom a false)) (range_with_len 1 atoms))

-- the support as a rule
abbrev pub rule_by : List (List ℕ) → Support → DefiniteRule
rule_by bodies support = record { head = support.atom; body = row_of bodies support.body }

-- the supports whose bodies are not false
abbrev pub open_rules : Assignment → List (List ℕ) → List Support → List DefiniteRule
open_rules t bodies supports = map (rule_by bodies) (filter (λ support. not (is_true_on t (Body support.body false))) supports)

-- all of these
abbrev pub rules_on : Assignment → Dependence → List DefiniteRule
rules_on t d = facts_of t d.atoms ++ open_rules t d.bodies d.supports
