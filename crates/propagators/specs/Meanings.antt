-- The meanings of a program's propagators.
use Rattle.std.specs.Prelude.{ℕ, suc, IsTrue, List, [], ◌∷◌, ◌++◌, Option, None, Some, option_to_list}
use Rattle.linear_normal.specs.declared.constraint.Constraint.{Constraint}
use Rattle.linear_normal.specs.declared.constraint.Constraint.TheVariants.{AtMost, Domain}
use Rattle.numbering_laws.specs.Items.{are_items}
use Rattle.propagator_core.specs.Meaning.{Meaning}
use Rattle.sum_propagator.specs.Sums.{sum_meaning}
use Rattle.propagators.specs.Domains.{domain_meaning}

-- what the propagator of a sum or of a domain constraint of this number stands for
abbrev pub meaning_for : ℕ → Constraint → Option Meaning
meaning_for number (AtMost items most) = Some (sum_meaning number items most)
meaning_for number (Domain x set) = Some (domain_meaning number x set)
meaning_for number constraint = None

-- one for each such constraint, where they are numbered from this number on
abbrev pub meanings_from : ℕ → List Constraint → List Meaning
meanings_from number [] = []
meanings_from number (constraint ∷ constraints) = option_to_list (meaning_for number constraint) ++ meanings_from (suc number) constraints

-- where it is a sum, each of its items counts another variable or constraint, and none the sum itself
abbrev pub CountsApart : ℕ → Constraint → Type 0
CountsApart number (AtMost items most) = IsTrue (are_items number items)
CountsApart number constraint = Unit {0}
