-- The constraints that a program needs, in order.
use Rattle.std.specs.Prelude.{ℕ, ◌+◌, not, if◌then◌else◌, ℤ, pos, ◌-ℤ◌, List, [], ◌∷◌, ◌++◌, map, option_to_list}
use Rattle.std.specs.Ordering.{int_eq}
use Rattle.std.specs.List.{list_any, filter, flat_map, fold, range_with_len}
use Rattle.ground_model.specs.declared.linear.Linear.{Linear}
use Rattle.ground_model.specs.declared.linear.Relation.{Relation}
use Rattle.ground_model.specs.declared.rule.BodyLit.{BodyLit}
use Rattle.ground_model.specs.declared.rule.BodyLit.TheVariants as b
use Rattle.ground_model.specs.declared.rule.Bound.{Bound}
use Rattle.ground_model.specs.declared.rule.TheoryHead.{TheoryHead}
use Rattle.ground_model.specs.declared.rule.TheoryHead.TheVariants as t
use Rattle.ground_model.specs.declared.rule.GroundChoice.{GroundChoice}
use Rattle.ground_model.specs.declared.rule.GroundHead.{GroundHead}
use Rattle.ground_model.specs.declared.rule.GroundHead.TheVariants as h
use Rattle.ground_model.specs.declared.rule.GroundRule.{GroundRule}
use Rattle.ground_model.specs.Sound.{total_coefficient, total_constant, first_places}
use Rattle.linear_normal.specs.Contents.{Term, Variable, Counted, Content, InSet, AllDiffer, NoneOverlap, SomeTrue, compared, parts_of, same_content}
use Rattle.linear_normal.specs.Bodies.{Placed, placed, selections}

-- MOVED TO ONE SIDE

-- a variable's coefficient on the left minus that on the right
abbrev pub moved_coefficient : List Linear → List Linear → ℕ → ℤ
moved_coefficient left right x = total_coefficient x left -ℤ total_coefficient x right

-- of so many variables, in order, those whose coefficient is not 0, each with it
abbrev pub moved_pairs : ℕ → List Linear → List Linear → List (ℕ × ℤ)
moved_pairs variables left right =
    filter (λ pair. not (int_eq pair.1 (pos 0))) (map (λ x. (x, moved_coefficient left right x)) (range_with_len 1 variables))

-- pairs as the terms of a sum
abbrev pub terms_of : List (ℕ × ℤ) → List Term
terms_of pairs = map (λ pair. Variable pair.0 pair.1) pairs

-- CONTENTS

-- a relation: its variables on the left, its constants on the right
abbrev pub relation_content : ℕ → Relation → Content
relation_content variables relation =
    compared (terms_of (moved_pairs variables (first_places relation.elements) (relation.right ∷ []))) relation.rel
    (relation.right.constant -ℤ total_constant (first_places relation.elements))

-- a theory head
abbrev pub theory_content : ℕ → TheoryHead → Content
theory_content variables (t.Relation relation) = relation_content variables relation
theory_content variables (t.Domain set x) = InSet x set
theory_content variables (t.Distinct places) = AllDiffer places
theory_content variables (t.Disjoint places) = NoneOverlap places

-- a bound on how many of the selections are true
abbrev pub bound_content : List (List ℕ) → Bound → Content
bound_content selections bound = compared (map (λ bodies. Counted bodies (pos 1)) selections) bound.rel bound.value

-- the bounds of a choice, the left one first
abbrev pub bounds_of : GroundChoice → List Bound
bounds_of choice = option_to_list choice.left ++ option_to_list choice.right

-- IN ORDER

-- a constraint with its parts behind it
abbrev pub with_parts : Content → List Content
with_parts content = content ∷ parts_of content

-- what a body literal needs
abbrev pub literal_demands : ℕ → BodyLit → List Content
literal_demands variables (b.Atom a sign) = []
literal_demands variables (b.Theory relation sign) = with_parts (relation_content variables relation)

-- what a choice needs, where it has a bound: for each of its atoms that some selecting body is true, and then its bounds
abbrev pub choice_demands : List (List ℕ) → List Bound → List Content
choice_demands selections [] = []
choice_demands selections bounds = map SomeTrue selections ++ flat_map (λ bound. with_parts (bound_content selections bound)) bounds

-- what a head needs, where the rule's own body has this number
abbrev pub head_demands : ℕ → ℕ → ℕ → GroundHead → List Content
head_demands atoms variables first h.Nothing = []
head_demands atoms variables first (h.Atom a) = []
head_demands atoms variables first (h.Theory theory) = with_parts (theory_content variables theory)
head_demands atoms variables first (h.Choice choice) =
    choice_demands (selections atoms first choice.items) (bounds_of choice)

-- what a rule needs: the theory literals of its body, then its head
abbrev pub rule_demands : ℕ → ℕ → Placed → List Content
rule_demands atoms variables at =
    flat_map (literal_demands variables) at.rule.body ++ head_demands atoms variables at.first at.rule.head

-- the list with one more content behind it, where it has none like it
abbrev pub with_content : List Content → Content → List Content
with_content contents content =
    (if list_any (λ c. same_content c content) contents then contents else contents ++ content ∷ [])

-- the contents that a program's rules need, each once, where it first stands
abbrev pub contents_of : ℕ → ℕ → List GroundRule → List Content
contents_of atoms variables rules = fold with_content [] (flat_map (rule_demands atoms variables) (placed 1 rules))

-- the number of a content: its place, counted from 1, or the next number where it is not there
abbrev pub number_of : List Content → Content → ℕ
number_of [] content = 1
number_of (c ∷ contents) content = (if same_content c content then 1 else number_of contents content + 1)
