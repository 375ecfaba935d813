-- What constraints say, before they have numbers.
use Rattle.std.specs.Prelude.{ℕ, ◌==◌, nat_eq, Bool, false, ◌&&◌, ℤ, pos, neg_ℤ, ◌-ℤ◌, List, [], ◌∷◌, map}
use Rattle.std.specs.Ordering.{int_eq}
use Rattle.std.specs.Cmp.Lexicographic.{pointwise}
use Rattle.symbols.specs.declared.rel.Rel.{Rel}
use Rattle.symbols.specs.declared.rel.Rel.TheVariants.{Equal, NotEqual, Less, LessEqual, Greater, GreaterEqual}
use Rattle.ground_model.specs.declared.int_set.IntSet.{IntSet}
use Rattle.ground_model.specs.declared.linear.Place.{Place}
use Rattle.ground_model.specs.Sound.{same_place}

-- a term of a sum: a variable, or the truth of "some of these bodies is true", with a coefficient
pub data Term : Type 0 where
  Variable : ℕ → ℤ → Term
  Counted : List ℕ → ℤ → Term

-- a sum is at most, is, or is not the number; a variable has one of the numbers; tuples differ; tuples do not overlap; some of the bodies is true
pub data Content : Type 0 where
  SumAtMost : List Term → ℤ → Content
  SumEquals : List Term → ℤ → Content
  SumDiffers : List Term → ℤ → Content
  InSet : ℕ → IntSet → Content
  AllDiffer : List Place → Content
  NoneOverlap : List Place → Content
  SomeTrue : List ℕ → Content

-- the opposite sum
abbrev pub opposite_term : Term → Term
opposite_term (Variable x c) = Variable x (neg_ℤ c)
opposite_term (Counted bodies c) = Counted bodies (neg_ℤ c)

abbrev pub opposite : List Term → List Term
opposite sum = map opposite_term sum

-- what a sum in a relation to a number says
abbrev pub compared : List Term → Rel → ℤ → Content
compared sum LessEqual k = SumAtMost sum k
compared sum Less k = SumAtMost sum (k -ℤ pos 1)
compared sum GreaterEqual k = SumAtMost (opposite sum) (neg_ℤ k)
compared sum Greater k = SumAtMost (opposite sum) (neg_ℤ k -ℤ pos 1)
compared sum Equal k = SumEquals sum k
compared sum NotEqual k = SumDiffers sum k

-- the two parts of "is": at most and at least; of "is not": less or more; the others have none
abbrev pub parts_of : Content → List Content
parts_of (SumEquals sum k) = SumAtMost sum k ∷ SumAtMost (opposite sum) (neg_ℤ k) ∷ []
parts_of (SumDiffers sum k) = SumAtMost sum (k -ℤ pos 1) ∷ SumAtMost (opposite sum) (neg_ℤ k -ℤ pos 1) ∷ []
parts_of content = []

-- whether the two are one term
abbrev pub same_term : Term → Term → Bool
same_term (Variable x c) (Variable y d) = (x == y) && int_eq c d
same_term (Counted bodies c) (Counted others d) = pointwise nat_eq bodies others && int_eq c d
same_term a b = false

-- whether the two are one interval
abbrev pub same_interval : ℤ × ℤ → ℤ × ℤ → Bool
same_interval a b = int_eq a.0 b.0 && int_eq a.1 b.1

-- whether the two say the same in the same way
abbrev pub same_content : Content → Content → Bool
same_content (SumAtMost sum k) (SumAtMost other l) = pointwise same_term sum other && int_eq k l
same_content (SumEquals sum k) (SumEquals other l) = pointwise same_term sum other && int_eq k l
same_content (SumDiffers sum k) (SumDiffers other l) = pointwise same_term sum other && int_eq k l
same_content (InSet x set) (InSet y other) = (x == y) && pointwise same_interval set.intervals other.intervals
same_content (AllDiffer places) (AllDiffer others) = pointwise same_place places others
same_content (NoneOverlap places) (NoneOverlap others) = pointwise same_place places others
same_content (SomeTrue bodies) (SomeTrue others) = pointwise nat_eq bodies others
same_content a b = false
