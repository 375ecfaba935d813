-- A tidied term is an interval exactly where the term is one, and a difference exactly where the term is one.
use Rattle.std.proofs.Common.{◌≡◌, ℕ, zero, suc, Bool, true, false, ◌||◌, List, [], ◌∷◌, map, refl, sym, ap, ◌∙◌}
use Rattle.grammar.specs.declared.shape.Shape.{Shape}
use Rattle.grammar.specs.declared.shape.Shape.TheVariants.{Atom, Interval, Other}
use Rattle.grammar.specs.Row.{Row}
use Rattle.grammar.specs.Term.{Adding, Multiplying, ProductOf, SumOf, TermOf, UnaryOf, Operand, Room, alone, interval, negated, number, text, variable, anonymous, atom, unit, group, single, tuple}
use Rattle.grammar.specs.Shape.{row_shape, product_shape, sum_shape, term_shape, grouped, unary_shape, operand_shape}
use Rattle.grammar.specs.Check.{is_interval, is_one_minus, alone_by, term_is_difference, unary_is_difference, operand_is_difference}
use Rattle.grammar.specs.Tidied.{map_row, map_term, map_unary, lifted, Tidied, operand, product, sum, range, row_of, one, as_operand, as_product, as_sum, opened, product_by, tidied_product, lone_by, whole_by, end_lone_by, end_by, tidied_end, tidied_whole, as_term, ungrouped, Below, from_below, bracketed, tidied_term, tidied_unary, tidied}

-- parentheses keep an interval
grouped_same : (shape : Shape) → is_interval (grouped shape) ≡ is_interval shape
grouped_same Atom = refl
grouped_same Interval = refl
grouped_same Other = refl

-- ---- a level deeper
module _ {I J S : Type 0} (f : I → J) (before : I → Shape) (shape : J → Shape) (same : (x : I) → is_interval (shape (f x)) ≡ is_interval (before x)) where
  row_by_shape : (first : I) (rest : List (S × I)) → is_interval (row_shape shape (map_row f (row_of first rest))) ≡ is_interval (row_shape before (row_of first rest))
  row_by_shape first [] = same first
  row_by_shape first (part ∷ parts) = refl

  row_shape_same : (row : Row I S) → is_interval (row_shape shape (map_row f row)) ≡ is_interval (row_shape before row)
  row_shape_same row = row_by_shape row.first row.rest

module _ {U V : Type 0} (f : U → V) (before : U → Shape) (shape : V → Shape) (same : (x : U) → is_interval (shape (f x)) ≡ is_interval (before x)) where
  pub product_shape_same : (row : ProductOf U) → is_interval (product_shape shape (map_row f row)) ≡ is_interval (product_shape before row)
  product_shape_same = row_shape_same f before shape same

  pub sum_shape_same : (row : SumOf U) → is_interval (sum_shape shape (map_row (map_row f) row)) ≡ is_interval (sum_shape before row)
  sum_shape_same = row_shape_same (map_row f) (product_shape before) (product_shape shape) product_shape_same

  term_shape_same : (x : TermOf U) → is_interval (term_shape shape (map_term f x)) ≡ is_interval (term_shape before x)
  term_shape_same (alone s) = sum_shape_same s
  term_shape_same (interval left right) = refl

  unary_shape_same : {R Q : Type 0} (room : R → Q) (u : UnaryOf U R) → is_interval (unary_shape shape (map_unary f room u)) ≡ is_interval (unary_shape before u)
  unary_shape_same room (negated d) = refl
  unary_shape_same room (number n) = refl
  unary_shape_same room (text bytes) = refl
  unary_shape_same room (variable name) = refl
  unary_shape_same room anonymous = refl
  unary_shape_same room (atom a) = refl
  unary_shape_same room (unit r) = refl
  unary_shape_same room (group x) = grouped_same (term_shape shape (map_term f x)) ∙ term_shape_same x ∙ sym (grouped_same (term_shape before x))
  unary_shape_same room (single x) = refl
  unary_shape_same room (tuple x args) = refl

pub lifted_shape : (n : ℕ) (u : Operand n) → is_interval (operand_shape (suc n) (lifted n u)) ≡ is_interval (operand_shape n u)
lifted_shape zero u = absurd u
lifted_shape (suc n) u = unary_shape_same (lifted n) (operand_shape n) (operand_shape (suc n)) (lifted_shape n) (λ room. tt) u

-- ---- what is an interval when the parentheses around it are taken away
abbrev pub tidied_range : {U V : Type 0} → (U → Shape) → Tidied U V → Bool
tidied_range shape (operand u) = is_interval (shape u)
tidied_range shape (product first part parts) = false
tidied_range shape (sum first part parts) = false
tidied_range shape (range left right) = true

term_range : {U : Type 0} (shape : U → Shape) (s : Tidied U U) → is_interval (term_shape shape (as_term s)) ≡ tidied_range shape s
term_range shape (operand u) = refl
term_range shape (product first part parts) = refl
term_range shape (sum first part parts) = refl
term_range shape (range left right) = refl

module _ {U V : Type 0} (deeper : V → U) (brackets : TermOf V → U) (shape : U → Shape) (below : V → Shape) (inside : (x : TermOf V) → is_interval (shape (brackets x)) ≡ is_interval (term_shape below x)) where
  operand_range : (s : Tidied U V) → is_interval (shape (as_operand deeper brackets s)) ≡ tidied_range shape s
  operand_range (operand u) = refl
  operand_range (product first part parts) = inside (alone (one (row_of first (part ∷ parts))))
  operand_range (sum first part parts) = inside (alone (row_of first (part ∷ parts)))
  operand_range (range left right) = inside (interval left right)

  product_range : (s : Tidied U V) → is_interval (product_shape shape (as_product deeper brackets s)) ≡ tidied_range shape s
  product_range (operand u) = refl
  product_range (product first part parts) = refl
  product_range (sum first part parts) = inside (alone (row_of first (part ∷ parts)))
  product_range (range left right) = inside (interval left right)

  sum_range : (s : Tidied U V) → is_interval (sum_shape shape (as_sum deeper brackets s)) ≡ tidied_range shape s
  sum_range (operand u) = refl
  sum_range (product first part parts) = refl
  sum_range (sum first part parts) = refl
  sum_range (range left right) = inside (interval left right)

  opened_range : (s : Tidied U V) → tidied_range shape (opened deeper brackets s) ≡ tidied_range shape s
  opened_range (operand u) = refl
  opened_range (product first part parts) = refl
  opened_range (sum first part parts) = refl
  opened_range (range left right) = refl

  module _ (tidy : U → Tidied U V) (law : (u : U) → tidied_range shape (tidy u) ≡ is_interval (shape u)) where
    -- an operand
    pub operand_interval : (u : U) → is_interval (shape (as_operand deeper brackets (tidy u))) ≡ is_interval (shape u)
    operand_interval u = operand_range (tidy u) ∙ law u

    by_interval : (first : U) (rest : List (Multiplying × U)) → is_interval (product_shape shape (product_by deeper brackets tidy first rest)) ≡ is_interval (product_shape shape (row_of first rest))
    by_interval first [] = product_range (tidy first) ∙ law first
    by_interval first (part ∷ parts) = refl

    -- an item of a sum
    pub product_interval : (row : ProductOf U) → is_interval (product_shape shape (tidied_product deeper brackets tidy row)) ≡ is_interval (product_shape shape row)
    product_interval row = by_interval row.first row.rest

    end_lone_interval : (first : U) (rest : List (Multiplying × U))
        → is_interval (sum_shape shape (end_lone_by deeper brackets tidy first rest)) ≡ is_interval (product_shape shape (row_of first rest))
    end_lone_interval first [] = sum_range (tidy first) ∙ law first
    end_lone_interval first (part ∷ parts) = refl

    end_by_interval : (first : ProductOf U) (rest : List (Adding × ProductOf U))
        → is_interval (sum_shape shape (end_by deeper brackets tidy first rest)) ≡ is_interval (sum_shape shape (row_of first rest))
    end_by_interval first [] = end_lone_interval first.first first.rest
    end_by_interval first (part ∷ parts) = refl

    -- an end of an interval
    pub end_interval : (row : SumOf U) → is_interval (sum_shape shape (tidied_end deeper brackets tidy row)) ≡ is_interval (sum_shape shape row)
    end_interval row = end_by_interval row.first row.rest

    lone_interval : (first : U) (rest : List (Multiplying × U)) → tidied_range shape (lone_by deeper brackets tidy first rest) ≡ is_interval (product_shape shape (row_of first rest))
    lone_interval first [] = opened_range (tidy first) ∙ law first
    lone_interval first (part ∷ parts) = refl

    whole_by_interval : (first : ProductOf U) (rest : List (Adding × ProductOf U))
        → tidied_range shape (whole_by deeper brackets tidy first rest) ≡ is_interval (sum_shape shape (row_of first rest))
    whole_by_interval first [] = lone_interval first.first first.rest
    whole_by_interval first (part ∷ parts) = refl

    -- a term
    whole_interval : (x : TermOf U) → tidied_range shape (tidied_whole deeper brackets tidy x) ≡ is_interval (term_shape shape x)
    whole_interval (alone s) = whole_by_interval s.first s.rest
    whole_interval (interval left right) = refl

-- ---- level by level
abbrev pub below_shape : (n : ℕ) → Below n → Shape
below_shape zero u = absurd u
below_shape (suc n) u = operand_shape n u

pub from_below_shape : (n : ℕ) (u : Below n) → is_interval (operand_shape n (from_below n u)) ≡ is_interval (below_shape n u)
from_below_shape zero u = absurd u
from_below_shape (suc n) u = lifted_shape n u

pub bracketed_shape : (n : ℕ) (x : TermOf (Below n)) → is_interval (operand_shape n (bracketed n x)) ≡ is_interval (term_shape (below_shape n) x)
bracketed_shape zero (alone s) = absurd s.first.first
bracketed_shape zero (interval left right) = absurd left.first.first
bracketed_shape (suc n) x = grouped_same (term_shape (operand_shape n) x)

module _ (n : ℕ) (law : (u : Operand n) → tidied_range (operand_shape n) (tidied n u) ≡ is_interval (operand_shape n u)) where
  tidied_whole_range : (x : TermOf (Operand n)) → tidied_range (operand_shape n) (tidied_whole (from_below n) (bracketed n) (tidied n) x) ≡ is_interval (term_shape (operand_shape n) x)
  tidied_whole_range = whole_interval (from_below n) (bracketed n) (operand_shape n) (below_shape n) (bracketed_shape n) (tidied n) law

  ungrouped_range : (s : Tidied (Operand n) (Operand n)) → tidied_range (operand_shape (suc n)) (ungrouped (lifted n) s) ≡ tidied_range (operand_shape n) s
  ungrouped_range (operand u) = lifted_shape n u
  ungrouped_range (product first part parts) = refl
  ungrouped_range (sum first part parts) = refl
  ungrouped_range (range left right) = refl

  tidied_unary_range : (u : UnaryOf (Operand n) (Room n)) → tidied_range (operand_shape (suc n)) (tidied_unary n (tidied n) u) ≡ is_interval (unary_shape (operand_shape n) u)
  tidied_unary_range (negated d) = refl
  tidied_unary_range (number k) = refl
  tidied_unary_range (text bytes) = refl
  tidied_unary_range (variable name) = refl
  tidied_unary_range anonymous = refl
  tidied_unary_range (atom a) = refl
  tidied_unary_range (unit room) = refl
  tidied_unary_range (group x) = ungrouped_range (tidied_whole (from_below n) (bracketed n) (tidied n) x) ∙ tidied_whole_range x ∙ sym (grouped_same (term_shape (operand_shape n) x))
  tidied_unary_range (single x) = refl
  tidied_unary_range (tuple x args) = refl

-- an operand that is tidied is an interval exactly where the operand is one
pub tidied_operand_range : (n : ℕ) (u : Operand n) → tidied_range (operand_shape n) (tidied n u) ≡ is_interval (operand_shape n u)
tidied_operand_range zero u = absurd u
tidied_operand_range (suc n) u = tidied_unary_range n (tidied_operand_range n) u

-- a tidied term is an interval exactly where the term is one
pub same_term_interval : (n : ℕ) (x : TermOf (Operand n)) → is_interval (term_shape (operand_shape n) (tidied_term n (tidied n) x)) ≡ is_interval (term_shape (operand_shape n) x)
same_term_interval n x =
    term_range (operand_shape n) (tidied_whole (from_below n) (bracketed n) (tidied n) x)
    ∙ whole_interval (from_below n) (bracketed n) (operand_shape n) (below_shape n) (bracketed_shape n) (tidied n) (tidied_operand_range n) x

-- an operand, as an operand; an item of a sum; and an end of an interval
pub same_operand_interval : (n : ℕ) (u : Operand n) → is_interval (operand_shape n (as_operand (from_below n) (bracketed n) (tidied n u))) ≡ is_interval (operand_shape n u)
same_operand_interval n = operand_interval (from_below n) (bracketed n) (operand_shape n) (below_shape n) (bracketed_shape n) (tidied n) (tidied_operand_range n)

pub same_product_interval : (n : ℕ) (row : ProductOf (Operand n))
    → is_interval (product_shape (operand_shape n) (tidied_product (from_below n) (bracketed n) (tidied n) row)) ≡ is_interval (product_shape (operand_shape n) row)
same_product_interval n = product_interval (from_below n) (bracketed n) (operand_shape n) (below_shape n) (bracketed_shape n) (tidied n) (tidied_operand_range n)

pub same_sum_interval : (n : ℕ) (row : SumOf (Operand n))
    → is_interval (sum_shape (operand_shape n) (tidied_end (from_below n) (bracketed n) (tidied n) row)) ≡ is_interval (sum_shape (operand_shape n) row)
same_sum_interval n = end_interval (from_below n) (bracketed n) (operand_shape n) (below_shape n) (bracketed_shape n) (tidied n) (tidied_operand_range n)

-- ---- differences
or_false : (b : Bool) → b || false ≡ b
or_false true = refl
or_false false = refl

-- a part of a row that is lifted or tidied has the sign that it had
one_minus_same : {I J : Type 0} (f : I → J) (parts : List (Adding × I)) → is_one_minus (map (λ (p : Adding × I). (p.0, f p.1)) parts) ≡ is_one_minus parts
one_minus_same f [] = refl
one_minus_same f (part ∷ []) = refl
one_minus_same f (part ∷ other ∷ parts) = refl

-- whether the first item of a row is a difference, and stands alone
abbrev lone_difference : {U : Type 0} → (U → Bool) → ProductOf U → List (Adding × ProductOf U) → Bool
lone_difference difference first rest = is_one_minus rest || alone_by (alone_by (difference first.first) first.rest) rest

module _ {U V : Type 0} (f : U → V) (before : U → Bool) (difference : V → Bool) (same : (u : U) → difference (f u) ≡ before u) where
  alone_same : {S : Type 0} (first : U) (rest : List (S × U)) → alone_by (difference (f first)) (map (λ (p : S × U). (p.0, f p.1)) rest) ≡ alone_by (before first) rest
  alone_same first [] = same first
  alone_same first (part ∷ parts) = refl

  sum_difference_same : (first : ProductOf U) (rest : List (Adding × ProductOf U))
      → lone_difference difference (map_row f first) (map (λ (p : Adding × ProductOf U). (p.0, map_row f p.1)) rest) ≡ lone_difference before first rest
  sum_difference_same first [] = alone_same first.first first.rest
  sum_difference_same first (part ∷ parts) = ap (λ b. b || false) (one_minus_same (map_row f) (part ∷ parts))

  term_difference_same : (x : TermOf U) → term_is_difference difference (map_term f x) ≡ term_is_difference before x
  term_difference_same (alone s) = sum_difference_same s.first s.rest
  term_difference_same (interval left right) = refl

  unary_difference_same : {R Q : Type 0} (room : R → Q) (u : UnaryOf U R) → unary_is_difference difference (map_unary f room u) ≡ unary_is_difference before u
  unary_difference_same room (negated d) = refl
  unary_difference_same room (number n) = refl
  unary_difference_same room (text bytes) = refl
  unary_difference_same room (variable name) = refl
  unary_difference_same room anonymous = refl
  unary_difference_same room (atom a) = refl
  unary_difference_same room (unit r) = refl
  unary_difference_same room (group x) = term_difference_same x
  unary_difference_same room (single x) = refl
  unary_difference_same room (tuple x args) = refl

lifted_difference : (n : ℕ) (u : Operand n) → operand_is_difference (suc n) (lifted n u) ≡ operand_is_difference n u
lifted_difference zero u = absurd u
lifted_difference (suc n) u = unary_difference_same (lifted n) (operand_is_difference n) (operand_is_difference (suc n)) (lifted_difference n) (λ room. tt) u

-- what is a difference when the parentheses around it are taken away
abbrev tidied_difference : {U V : Type 0} → (U → Bool) → Tidied U V → Bool
tidied_difference difference (operand u) = difference u
tidied_difference difference (product first part parts) = false
tidied_difference difference (sum first part parts) = is_one_minus (part ∷ parts)
tidied_difference difference (range left right) = false

term_difference : {U : Type 0} (difference : U → Bool) (s : Tidied U U) → term_is_difference difference (as_term s) ≡ tidied_difference difference s
term_difference difference (operand u) = refl
term_difference difference (product first part parts) = refl
term_difference difference (sum first part parts) = or_false (is_one_minus (part ∷ parts))
term_difference difference (range left right) = refl

module _ {U V : Type 0} (deeper : V → U) (brackets : TermOf V → U) (difference : U → Bool) where
  opened_difference : (s : Tidied U V) → tidied_difference difference (opened deeper brackets s) ≡ tidied_difference difference s
  opened_difference (operand u) = refl
  opened_difference (product first part parts) = refl
  opened_difference (sum first part parts) = one_minus_same (map_row deeper) (part ∷ parts)
  opened_difference (range left right) = refl

  module _ (tidy : U → Tidied U V) (law : (u : U) → tidied_difference difference (tidy u) ≡ difference u) where
    lone_law : (first : U) (rest : List (Multiplying × U)) → tidied_difference difference (lone_by deeper brackets tidy first rest) ≡ alone_by (difference first) rest
    lone_law first [] = opened_difference (tidy first) ∙ law first
    lone_law first (part ∷ parts) = refl

    whole_by_law : (first : ProductOf U) (rest : List (Adding × ProductOf U)) → tidied_difference difference (whole_by deeper brackets tidy first rest) ≡ lone_difference difference first rest
    whole_by_law first [] = lone_law first.first first.rest
    whole_by_law first (part ∷ parts) = one_minus_same (tidied_product deeper brackets tidy) (part ∷ parts) ∙ sym (or_false (is_one_minus (part ∷ parts)))

    whole_difference : (x : TermOf U) → tidied_difference difference (tidied_whole deeper brackets tidy x) ≡ term_is_difference difference x
    whole_difference (alone s) = whole_by_law s.first s.rest
    whole_difference (interval left right) = refl

module _ (n : ℕ) (law : (u : Operand n) → tidied_difference (operand_is_difference n) (tidied n u) ≡ operand_is_difference n u) where
  ungrouped_difference : (s : Tidied (Operand n) (Operand n)) → tidied_difference (operand_is_difference (suc n)) (ungrouped (lifted n) s) ≡ tidied_difference (operand_is_difference n) s
  ungrouped_difference (operand u) = lifted_difference n u
  ungrouped_difference (product first part parts) = refl
  ungrouped_difference (sum first part parts) = refl
  ungrouped_difference (range left right) = refl

  tidied_unary_difference : (u : UnaryOf (Operand n) (Room n))
      → tidied_difference (operand_is_difference (suc n)) (tidied_unary n (tidied n) u) ≡ unary_is_difference (operand_is_difference n) u
  tidied_unary_difference (negated d) = refl
  tidied_unary_difference (number k) = refl
  tidied_unary_difference (text bytes) = refl
  tidied_unary_difference (variable name) = refl
  tidied_unary_difference anonymous = refl
  tidied_unary_difference (atom a) = refl
  tidied_unary_difference (unit room) = refl
  tidied_unary_difference (group x) =
      ungrouped_difference (tidied_whole (from_below n) (bracketed n) (tidied n) x) ∙ whole_difference (from_below n) (bracketed n) (operand_is_difference n) (tidied n) law x
  tidied_unary_difference (single x) = refl
  tidied_unary_difference (tuple x args) = refl

tidied_operand_difference : (n : ℕ) (u : Operand n) → tidied_difference (operand_is_difference n) (tidied n u) ≡ operand_is_difference n u
tidied_operand_difference zero u = absurd u
tidied_operand_difference (suc n) u = tidied_unary_difference n (tidied_operand_difference n) u

-- a tidied term is a difference exactly where the term is one
pub same_term_difference : (n : ℕ) (x : TermOf (Operand n)) → term_is_difference (operand_is_difference n) (tidied_term n (tidied n) x) ≡ term_is_difference (operand_is_difference n) x
same_term_difference n x =
    term_difference (operand_is_difference n) (tidied_whole (from_below n) (bracketed n) (tidied n) x)
    ∙ whole_difference (from_below n) (bracketed n) (operand_is_difference n) (tidied n) (tidied_operand_difference n) x
