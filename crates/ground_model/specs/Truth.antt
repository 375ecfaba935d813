-- The truth of theory atoms where each integer variable has a value.
use Rattle.std.specs.Prelude.{Bool, true, not, ◌&&◌, ℤ, pos, ◌+ℤ◌, ◌*ℤ◌, int_lt, int_le, List, [], ◌∷◌}
use Rattle.std.specs.Ordering.{int_eq}
use Rattle.std.specs.List.{list_all}
use Rattle.symbols.specs.declared.rel.Rel.{Rel}
use Rattle.symbols.specs.declared.rel.Rel.TheVariants.{Equal, NotEqual, Less, LessEqual, Greater, GreaterEqual}
use Rattle.ground_model.specs.Intervals.{lies_in}
use Rattle.ground_model.specs.Rule.{LinearOf, PlaceOf, RelationOf, TheoryOf, RelationHead, DomainHead, DistinctHead, DisjointHead}

-- the first integer stands in the relation to the second
abbrev pub compares : Rel → ℤ → ℤ → Bool
compares Equal a b = int_eq a b
compares NotEqual a b = not (int_eq a b)
compares Less a b = int_lt a b
compares LessEqual a b = int_le a b
compares Greater a b = int_lt b a
compares GreaterEqual a b = int_le b a

-- the sum of the coefficients times their variables' values
abbrev pub pairs_value : {V : Type 0} → (V → ℤ) → List (V × ℤ) → ℤ
pairs_value values [] = pos 0
pairs_value values (pair ∷ rest) = (pair.1 *ℤ values pair.0) +ℤ pairs_value values rest

-- the value of a linear term
abbrev pub value_of : {V : Type 0} → (V → ℤ) → LinearOf V → ℤ
value_of values linear = pairs_value values linear.pairs +ℤ linear.constant

-- the sum of the first places of tuples
abbrev pub sum_of : {V : Type 0} → (V → ℤ) → List (PlaceOf V) → ℤ
sum_of values [] = pos 0
sum_of values (place ∷ rest) = value_of values place.linear +ℤ sum_of values rest

-- the sum of the first places stands in the relation to the right side
abbrev pub relation_truth : {V : Type 0} → (V → ℤ) → RelationOf V → Bool
relation_truth values relation = compares relation.rel (sum_of values relation.elements) (value_of values relation.right)

-- the test is true of each member with each later one
abbrev pub all_pairs : {X : Type 0} → (X → X → Bool) → List X → Bool
all_pairs test [] = true
all_pairs test (x ∷ rest) = list_all (test x) rest && all_pairs test rest

-- the first places of two tuples have different values
abbrev pub differ : {V : Type 0} → (V → ℤ) → PlaceOf V → PlaceOf V → Bool
differ values a b = not (int_eq (value_of values a.linear) (value_of values b.linear))

-- an integer from a up to but not a + d lies also from b up to but not b + e; where d or e is 0 there is none
abbrev pub share : ℤ → ℤ → ℤ → ℤ → Bool
share a d b e = int_lt (pos 0) d && int_lt (pos 0) e && int_lt a (b +ℤ e) && int_lt b (a +ℤ d)

-- the spans of two tuples, each from its first place on as long as its duration, share no integer
abbrev pub are_apart : {V : Type 0} → (V → ℤ) → PlaceOf V → PlaceOf V → Bool
are_apart values a b =
    not (share (value_of values a.linear) a.duration (value_of values b.linear) b.duration)

-- a theory head is true: its relation holds, its variable has one of the numbers, each two of the tuples differ, no two of them overlap
abbrev pub theory_truth : {V : Type 0} → (V → ℤ) → TheoryOf V → Bool
theory_truth values (RelationHead relation) = relation_truth values relation
theory_truth values (DomainHead intervals x) = lies_in intervals (values x)
theory_truth values (DistinctHead places) = all_pairs (differ values) places
theory_truth values (DisjointHead places) = all_pairs (are_apart values) places
