-- What every ground program keeps: numbers and symbols of its own, tuples that differ, and bounds by which each sum fits 128 bits.
use Rattle.std.specs.Prelude.{ℕ, ◌^◌, nat_lt, nat_le, nat_eq, ◌==◌, Bool, true, false, not, ◌&&◌, if◌then◌else◌, ℤ, pos, negsuc, ◌+ℤ◌, ◌-ℤ◌, ◌*ℤ◌, neg_ℤ, int_lt, int_le, List, [], ◌∷◌, length, map}
use Rattle.std.specs.Ordering.{int_eq}
use Rattle.std.specs.List.{list_all, list_any, filter, range_with_len}
use Rattle.std.specs.Cmp.Lexicographic.{pointwise}
use Rattle.symbols.specs.declared.ends.Ends.{Ends}
use Rattle.ground_model.specs.declared.linear.Linear.{Linear}
use Rattle.ground_model.specs.declared.linear.Place.{Place}
use Rattle.ground_model.specs.declared.linear.Relation.{Relation}
use Rattle.ground_model.specs.declared.rule.BodyLit.{BodyLit}
use Rattle.ground_model.specs.declared.rule.BodyLit.TheVariants as b
use Rattle.ground_model.specs.declared.rule.TheoryHead.{TheoryHead}
use Rattle.ground_model.specs.declared.rule.TheoryHead.TheVariants as t
use Rattle.ground_model.specs.declared.rule.ChoiceItem.{ChoiceItem}
use Rattle.ground_model.specs.declared.rule.GroundHead.{GroundHead}
use Rattle.ground_model.specs.declared.rule.GroundHead.TheVariants as h
use Rattle.ground_model.specs.declared.rule.GroundRule.{GroundRule}

-- NUMBERS

-- each id names one of so many symbols
abbrev pub are_known : ℕ → List ℕ → Bool
are_known symbols ids = list_all (λ id. nat_lt id symbols) ids

-- a number from 1 to the last one
abbrev pub is_number : ℕ → ℕ → Bool
is_number last n = nat_lt 0 n && nat_le n last

-- strictly between -2^62 and 2^62
abbrev pub is_small : ℤ → Bool
is_small z = int_lt (neg_ℤ (pos (2 ^ 62))) z && int_lt z (pos (2 ^ 62))

-- the most tuples and the most variables of one theory atom
abbrev pub most : ℕ
most = 65536

-- LINEAR TERMS

-- variables ascend from above this one up to the last, and coefficients are small
abbrev pub are_sound_pairs : ℕ → ℕ → List (ℕ × ℤ) → Bool
are_sound_pairs variables before [] = true
are_sound_pairs variables before (pair ∷ rest) =
    nat_lt before pair.0 && nat_le pair.0 variables && is_small pair.1 && are_sound_pairs variables pair.0 rest

-- each variable is one of so many and stands once, in order, and all numbers are small
abbrev pub is_sound_linear : ℕ → Linear → Bool
is_sound_linear variables linear = are_sound_pairs variables 0 linear.pairs && is_small linear.constant

-- the coefficient of a variable, 0 where it does not occur
abbrev pub coefficient : ℕ → List (ℕ × ℤ) → ℤ
coefficient x [] = pos 0
coefficient x (pair ∷ rest) = (if pair.0 == x then pair.1 else pos 0) +ℤ coefficient x rest

-- the sum of a variable's coefficients
abbrev pub total_coefficient : ℕ → List Linear → ℤ
total_coefficient x [] = pos 0
total_coefficient x (linear ∷ rest) = coefficient x linear.pairs +ℤ total_coefficient x rest

-- the sum of the constants
abbrev pub total_constant : List Linear → ℤ
total_constant [] = pos 0
total_constant (linear ∷ rest) = linear.constant +ℤ total_constant rest

-- the coefficients and the constant of the first total minus the second are small
abbrev pub is_small_difference : ℕ → List Linear → List Linear → Bool
is_small_difference variables left right =
    list_all (λ x. is_small (total_coefficient x left -ℤ total_coefficient x right)) (range_with_len 1 variables)
    && is_small (total_constant left -ℤ total_constant right)

-- the variable stands in one of them
abbrev pub occurs : List Linear → ℕ → Bool
occurs linears x = list_any (λ linear. list_any (λ pair. pair.0 == x) linear.pairs) linears

-- at most 65,536 variables stand in them
abbrev pub has_few_variables : ℕ → List Linear → Bool
has_few_variables variables linears = nat_le (length (filter (occurs linears) (range_with_len 1 variables))) most

-- the least of a coefficient times the numbers within the ends
abbrev pub least_product : Ends → ℤ → ℤ
least_product ends (pos n) = pos n *ℤ ends.min
least_product ends (negsuc n) = negsuc n *ℤ ends.max

-- the greatest of a coefficient times the numbers within the ends
abbrev pub greatest_product : Ends → ℤ → ℤ
greatest_product ends (pos n) = pos n *ℤ ends.max
greatest_product ends (negsuc n) = negsuc n *ℤ ends.min

-- the least sum over the ends
abbrev pub least_sum : Ends → List (ℕ × ℤ) → ℤ
least_sum ends [] = pos 0
least_sum ends (pair ∷ rest) = least_product ends pair.1 +ℤ least_sum ends rest

-- the greatest sum over the ends
abbrev pub greatest_sum : Ends → List (ℕ × ℤ) → ℤ
greatest_sum ends [] = pos 0
greatest_sum ends (pair ∷ rest) = greatest_product ends pair.1 +ℤ greatest_sum ends rest

-- the least and the greatest value over the ends are small
abbrev pub is_small_over : Ends → Linear → Bool
is_small_over ends linear =
    is_small (least_sum ends linear.pairs +ℤ linear.constant) && is_small (greatest_sum ends linear.pairs +ℤ linear.constant)

-- TUPLES

-- the first places of tuples
abbrev pub first_places : List Place → List Linear
first_places places = map (λ place. place.linear) places

-- the same variable with the same coefficient
abbrev pub same_pair : ℕ × ℤ → ℕ × ℤ → Bool
same_pair a b = (a.0 == b.0) && int_eq a.1 b.1

-- one tuple is the other, further places included
abbrev pub same_place : Place → Place → Bool
same_place a b =
    pointwise same_pair a.linear.pairs b.linear.pairs && int_eq a.linear.constant b.linear.constant
    && int_eq a.duration b.duration && pointwise nat_eq a.rest b.rest

-- no two of the tuples are the same
abbrev pub are_different : List Place → Bool
are_different [] = true
are_different (place ∷ rest) = not (list_any (same_place place) rest) && are_different rest

-- a duration is not negative, and further places are symbols of the table
abbrev pub is_sound_place : ℕ → ℕ → Place → Bool
is_sound_place symbols variables place =
    is_sound_linear variables place.linear && int_le (pos 0) place.duration && are_known symbols place.rest

-- at most 65,536 different tuples with at most so many variables
abbrev pub are_sound_places : ℕ → ℕ → List Place → Bool
are_sound_places symbols variables places =
    list_all (is_sound_place symbols variables) places && are_different places && nat_le (length places) most
    && has_few_variables variables (first_places places)

-- the tuples and the right side are sound, and so is their difference
abbrev pub is_sound_relation : ℕ → ℕ → Relation → Bool
is_sound_relation symbols variables relation =
    are_sound_places symbols variables relation.elements && is_sound_linear variables relation.right
    && has_few_variables variables (relation.right ∷ first_places relation.elements)
    && is_small_difference variables (first_places relation.elements) (relation.right ∷ [])

-- sound tuples whose first places have small values over the ends
abbrev pub are_sound_values : ℕ → ℕ → Ends → List Place → Bool
are_sound_values symbols variables ends places =
    are_sound_places symbols variables places && list_all (is_small_over ends) (first_places places)

-- RULES

-- a body literal names atoms and variables of the program
abbrev pub is_sound_literal : ℕ → ℕ → ℕ → BodyLit → Bool
is_sound_literal symbols atoms variables (b.Atom a sign) = is_number atoms a
is_sound_literal symbols atoms variables (b.Theory relation sign) = is_sound_relation symbols variables relation

-- a condition holds atoms alone
abbrev pub is_sound_condition : ℕ → BodyLit → Bool
is_sound_condition atoms (b.Atom a sign) = is_number atoms a
is_sound_condition atoms (b.Theory relation sign) = false

-- an element of a choice names atoms of the program
abbrev pub is_sound_item : ℕ → ChoiceItem → Bool
is_sound_item atoms item = is_number atoms item.atom && list_all (is_sound_condition atoms) item.condition

-- a theory head names variables of the program and stays within the bounds
abbrev pub is_sound_theory : ℕ → ℕ → Ends → TheoryHead → Bool
is_sound_theory symbols variables ends (t.Relation relation) = is_sound_relation symbols variables relation
is_sound_theory symbols variables ends (t.Domain numbers x) = is_number variables x && nat_le (length numbers.intervals) most
is_sound_theory symbols variables ends (t.Distinct places) = are_sound_values symbols variables ends places
is_sound_theory symbols variables ends (t.Disjoint places) = are_sound_values symbols variables ends places

-- a head names atoms and variables of the program
abbrev pub is_sound_head : ℕ → ℕ → ℕ → Ends → GroundHead → Bool
is_sound_head symbols atoms variables ends h.Nothing = true
is_sound_head symbols atoms variables ends (h.Atom a) = is_number atoms a
is_sound_head symbols atoms variables ends (h.Theory head) = is_sound_theory symbols variables ends head
is_sound_head symbols atoms variables ends (h.Choice choice) = list_all (is_sound_item atoms) choice.items

-- a rule of a program with so many symbols, atoms and variables
abbrev pub is_sound_rule : ℕ → ℕ → ℕ → Ends → GroundRule → Bool
is_sound_rule symbols atoms variables ends rule =
    list_all (is_sound_literal symbols atoms variables) rule.body && is_sound_head symbols atoms variables ends rule.head

-- every rule is sound
abbrev pub are_sound_rules : ℕ → ℕ → ℕ → Ends → List GroundRule → Bool
are_sound_rules symbols atoms variables ends rules = list_all (is_sound_rule symbols atoms variables ends) rules

-- both sets of tuples are sound, and the numbers of their difference are small
abbrev pub is_sound_objective : ℕ → ℕ → List Place → List Place → Bool
is_sound_objective symbols variables smaller larger =
    are_sound_places symbols variables smaller && are_sound_places symbols variables larger
    && is_small_difference variables (first_places smaller) (first_places larger)
