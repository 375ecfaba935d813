-- Terms with parentheses only where an operand needs them, as they are printed: each has the tree of the term that it was made of, and nests no deeper.
use Rattle.std.specs.Prelude.{ℕ, zero, suc, List, [], ◌∷◌, map}
use Rattle.grammar.specs.Row.{Row}
use Rattle.grammar.specs.Term.{Adding, Multiplying, ProductOf, SumOf, TermOf, ArgsOf, AtomOf, UnaryOf, Operand, Room, alone, interval, plain, applied, negated, number, text, variable, anonymous, atom, unit, group, single, tuple}

-- ---- a form as one that may nest a level deeper
abbrev pub map_row : {I J S : Type 0} → (I → J) → Row I S → Row J S
map_row f row = record { first = f row.first; rest = map (λ p. (p.0, f p.1)) row.rest }

abbrev pub map_term : {U V : Type 0} → (U → V) → TermOf U → TermOf V
map_term f (alone sum) = alone (map_row (map_row f) sum)
map_term f (interval left right) = interval (map_row (map_row f) left) (map_row (map_row f) right)

abbrev pub map_args : {U V : Type 0} → (U → V) → ArgsOf U → ArgsOf V
map_args f = map_row (map_term f)

abbrev pub map_atom : {D E : Type 0} → (D → E) → AtomOf D → AtomOf E
map_atom f (plain name) = plain name
map_atom f (applied name args) = applied name (map_args f args)

abbrev pub map_unary : {D E R Q : Type 0} → (D → E) → (R → Q) → UnaryOf D R → UnaryOf E Q
map_unary f room (negated d) = negated (f d)
map_unary f room (number n) = number n
map_unary f room (text bytes) = text bytes
map_unary f room (variable name) = variable name
map_unary f room anonymous = anonymous
map_unary f room (atom a) = atom (map_atom f a)
map_unary f room (unit r) = unit (room r)
map_unary f room (group t) = group (map_term f t)
map_unary f room (single t) = single (map_term f t)
map_unary f room (tuple t args) = tuple (map_term f t) (map_args f args)

abbrev pub lifted : (n : ℕ) → Operand n → Operand (suc n)
lifted zero u = absurd u
lifted (suc n) u = map_unary (lifted n) (λ room. tt) u

-- ---- what a term is when the parentheses around it are taken away: an operand U; or a product or a sum of two items or more, or an interval, over operands V
pub data Tidied (U V : Type 0) : Type 0 where
  operand : U → Tidied U V
  product : V → Multiplying × V → List (Multiplying × V) → Tidied U V
  sum : ProductOf V → Adding × ProductOf V → List (Adding × ProductOf V) → Tidied U V
  range : SumOf V → SumOf V → Tidied U V

abbrev pub row_of : {I S : Type 0} → I → List (S × I) → Row I S
row_of first rest = record { first = first; rest = rest }

abbrev pub one : {I S : Type 0} → I → Row I S
one item = row_of item []

-- an operand as a term, and its parts put into places
module _ {U V : Type 0} (deeper : V → U) (bracketed : TermOf V → U) where
  -- as an operand: all else stands in parentheses
  abbrev pub as_operand : Tidied U V → U
  as_operand (operand u) = u
  as_operand (product first part parts) = bracketed (alone (one (row_of first (part ∷ parts))))
  as_operand (sum first part parts) = bracketed (alone (row_of first (part ∷ parts)))
  as_operand (range left right) = bracketed (interval left right)

  -- as an item of a sum: a product stands as it is
  abbrev pub as_product : Tidied U V → ProductOf U
  as_product (operand u) = one u
  as_product (product first part parts) = map_row deeper (row_of first (part ∷ parts))
  as_product (sum first part parts) = one (bracketed (alone (row_of first (part ∷ parts))))
  as_product (range left right) = one (bracketed (interval left right))

  -- as an end of an interval: a sum stands as it is too
  abbrev pub as_sum : Tidied U V → SumOf U
  as_sum (operand u) = one (one u)
  as_sum (product first part parts) = one (map_row deeper (row_of first (part ∷ parts)))
  as_sum (sum first part parts) = map_row (map_row deeper) (row_of first (part ∷ parts))
  as_sum (range left right) = one (one (bracketed (interval left right)))

  -- with no parentheses around it
  abbrev pub opened : Tidied U V → Tidied U U
  opened (operand u) = operand u
  opened (product first part parts) = product (deeper first) (part.0, deeper part.1) (map (λ p. (p.0, deeper p.1)) parts)
  opened (sum first part parts) = sum (map_row deeper first) (part.0, map_row deeper part.1) (map (λ p. (p.0, map_row deeper p.1)) parts)
  opened (range left right) = range (map_row (map_row deeper) left) (map_row (map_row deeper) right)

  -- over operands that are tidied
  module _ (tidy : U → Tidied U V) where
    abbrev pub tidied_part : {S : Type 0} → S × U → S × U
    tidied_part part = (part.0, as_operand (tidy part.1))

    abbrev pub product_by : U → List (Multiplying × U) → ProductOf U
    product_by first [] = as_product (tidy first)
    product_by first (part ∷ parts) = row_of (as_operand (tidy first)) (map tidied_part (part ∷ parts))

    -- an item of a sum
    abbrev pub tidied_product : ProductOf U → ProductOf U
    tidied_product row = product_by row.first row.rest

    abbrev pub tidied_item : Adding × ProductOf U → Adding × ProductOf U
    tidied_item part = (part.0, tidied_product part.1)

    abbrev pub lone_by : U → List (Multiplying × U) → Tidied U U
    lone_by first [] = opened (tidy first)
    lone_by first (part ∷ parts) = product (as_operand (tidy first)) (tidied_part part) (map tidied_part parts)

    abbrev pub whole_by : ProductOf U → List (Adding × ProductOf U) → Tidied U U
    whole_by first [] = lone_by first.first first.rest
    whole_by first (part ∷ parts) = sum (tidied_product first) (tidied_item part) (map tidied_item parts)

    abbrev pub end_lone_by : U → List (Multiplying × U) → SumOf U
    end_lone_by first [] = as_sum (tidy first)
    end_lone_by first (part ∷ parts) = one (row_of (as_operand (tidy first)) (map tidied_part (part ∷ parts)))

    abbrev pub end_by : ProductOf U → List (Adding × ProductOf U) → SumOf U
    end_by first [] = end_lone_by first.first first.rest
    end_by first (part ∷ parts) = row_of (tidied_product first) (map tidied_item (part ∷ parts))

    -- an end of an interval
    abbrev pub tidied_end : SumOf U → SumOf U
    tidied_end row = end_by row.first row.rest

    abbrev pub tidied_whole : TermOf U → Tidied U U
    tidied_whole (alone s) = whole_by s.first s.rest
    tidied_whole (interval left right) = range (tidied_end left) (tidied_end right)

-- as a term
abbrev pub as_term : {U : Type 0} → Tidied U U → TermOf U
as_term (operand u) = alone (one (one u))
as_term (product first part parts) = alone (one (row_of first (part ∷ parts)))
as_term (sum first part parts) = alone (row_of first (part ∷ parts))
as_term (range left right) = interval left right

-- what stands in parentheses, a level higher
abbrev pub ungrouped : {U W V : Type 0} → (U → W) → Tidied U V → Tidied W V
ungrouped up (operand u) = operand (up u)
ungrouped up (product first part parts) = product first part parts
ungrouped up (sum first part parts) = sum first part parts
ungrouped up (range left right) = range left right

-- ---- level by level
abbrev pub Below : ℕ → Type 0
Below zero = ⊥
Below (suc n) = Operand n

abbrev pub from_below : (n : ℕ) → Below n → Operand n
from_below zero u = absurd u
from_below (suc n) u = lifted n u

abbrev pub bracketed : (n : ℕ) → TermOf (Below n) → Operand n
bracketed zero (alone s) = absurd s.first.first
bracketed zero (interval left right) = absurd left.first.first
bracketed (suc n) t = group t

module _ (n : ℕ) (tidy : Operand n → Tidied (Operand n) (Below n)) where
  abbrev pub tidied_term : TermOf (Operand n) → TermOf (Operand n)
  tidied_term t = as_term (tidied_whole (from_below n) (bracketed n) tidy t)

  abbrev pub tidied_args : ArgsOf (Operand n) → ArgsOf (Operand n)
  tidied_args = map_row tidied_term

  abbrev pub tidied_atom : AtomOf (Operand n) → AtomOf (Operand n)
  tidied_atom (plain name) = plain name
  tidied_atom (applied name args) = applied name (tidied_args args)

  abbrev pub tidied_unary : UnaryOf (Operand n) (Room n) → Tidied (UnaryOf (Operand n) (Room n)) (Operand n)
  tidied_unary (negated d) = operand (negated (as_operand (from_below n) (bracketed n) (tidy d)))
  tidied_unary (number k) = operand (number k)
  tidied_unary (text bytes) = operand (text bytes)
  tidied_unary (variable name) = operand (variable name)
  tidied_unary anonymous = operand anonymous
  tidied_unary (atom a) = operand (atom (tidied_atom a))
  tidied_unary (unit room) = operand (unit room)
  tidied_unary (group t) = ungrouped (lifted n) (tidied_whole (from_below n) (bracketed n) tidy t)
  tidied_unary (single t) = operand (single (tidied_term t))
  tidied_unary (tuple t args) = operand (tuple (tidied_term t) (tidied_args args))

abbrev pub tidied : (n : ℕ) → Operand n → Tidied (Operand n) (Below n)
tidied zero u = absurd u
tidied (suc n) u = tidied_unary n (tidied n) u
