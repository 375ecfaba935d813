-- Taking the redundant parentheses out of a term changes nothing of what is seen in it, nor its order.
use Rattle.std.proofs.Common.{◌≡◌, ℕ, zero, suc, List, [], ◌∷◌, ◌++◌, map, refl, sym, ap, ◌∙◌}
use Rattle.grammar.specs.declared.shape.Shape.{Shape}
use Rattle.grammar.specs.declared.shape.Shape.TheVariants as shape
use Rattle.grammar.specs.Term.{Adding, Multiplying, ProductOf, TermOf, ArgsOf, AtomOf, UnaryOf, Operand, Room, alone, interval, plain, applied, negated, number, text, variable, anonymous, atom, unit, group, single, tuple}
use Rattle.grammar.specs.Shape.{product_shape, sum_shape, term_shape, grouped, unary_shape, operand_shape}
use Rattle.grammar.specs.Sight.{Sight}
use Rattle.grammar.specs.Tidied.{lifted, Tidied, operand, product, sum, range, row_of, one, as_operand, as_product, as_sum, opened, product_by, tidied_product, tidied_item, lone_by, whole_by, end_lone_by, end_by, tidied_whole, as_term, ungrouped, Below, from_below, bracketed, tidied_term, tidied_args, tidied_atom, tidied_unary, tidied}
use Rattle.text_laws.proofs.SightLists.{in_items, items_same, row_same, in_shape, in_product, in_sum, in_term, in_argument, in_args, in_atom, in_unary, in_operand, in_product_same, in_sum_same, lifted_shape, lifted_seen}

-- ---- tidied forms: whether one is an interval
abbrev shape_of : {U V : Type 0} → (U → Shape) → Tidied U V → Shape
shape_of shapes (operand u) = shapes u
shape_of shapes (product first part parts) = shape.Other
shape_of shapes (sum first part parts) = shape.Other
shape_of shapes (range left right) = shape.Interval

term_shape_of : {U : Type 0} (shapes : U → Shape) (s : Tidied U U) → term_shape shapes (as_term s) ≡ shape_of shapes s
term_shape_of shapes (operand u) = refl
term_shape_of shapes (product first part parts) = refl
term_shape_of shapes (sum first part parts) = refl
term_shape_of shapes (range left right) = refl

grouped_shape : (s : Shape) → in_shape (grouped s) ≡ in_shape s
grouped_shape shape.Atom = refl
grouped_shape shape.Interval = refl
grouped_shape shape.Other = refl

module _ {U V : Type 0} (deeper : V → U) (brackets : TermOf V → U) (shapes : U → Shape) where
  opened_shape : (s : Tidied U V) → shape_of shapes (opened deeper brackets s) ≡ shape_of shapes s
  opened_shape (operand u) = refl
  opened_shape (product first part parts) = refl
  opened_shape (sum first part parts) = refl
  opened_shape (range left right) = refl

  module _ (tidy : U → Tidied U V) (law : (u : U) → in_shape (shape_of shapes (tidy u)) ≡ in_shape (shapes u)) where
    lone_shape : (first : U) (rest : List (Multiplying × U)) → in_shape (shape_of shapes (lone_by deeper brackets tidy first rest)) ≡ in_shape (product_shape shapes (row_of first rest))
    lone_shape first [] = ap in_shape (opened_shape (tidy first)) ∙ law first
    lone_shape first (part ∷ parts) = refl

    whole_by_shape : (first : ProductOf U) (rest : List (Adding × ProductOf U)) → in_shape (shape_of shapes (whole_by deeper brackets tidy first rest)) ≡ in_shape (sum_shape shapes (row_of first rest))
    whole_by_shape first [] = lone_shape first.first first.rest
    whole_by_shape first (part ∷ parts) = refl

    whole_shape : (x : TermOf U) → in_shape (shape_of shapes (tidied_whole deeper brackets tidy x)) ≡ in_shape (term_shape shapes x)
    whole_shape (alone s) = whole_by_shape s.first s.rest
    whole_shape (interval left right) = refl

ungrouped_shape : (n : ℕ) (s : Tidied (Operand n) (Operand n)) → shape_of (operand_shape (suc n)) (ungrouped (lifted n) s) ≡ shape_of (operand_shape n) s
ungrouped_shape n (operand u) = lifted_shape n u
ungrouped_shape n (product first part parts) = refl
ungrouped_shape n (sum first part parts) = refl
ungrouped_shape n (range left right) = refl

module _ (n : ℕ) (law : (u : Operand n) → in_shape (shape_of (operand_shape n) (tidied n u)) ≡ in_shape (operand_shape n u)) where
  tidied_whole_shape : (x : TermOf (Operand n)) → in_shape (shape_of (operand_shape n) (tidied_whole (from_below n) (bracketed n) (tidied n) x)) ≡ in_shape (term_shape (operand_shape n) x)
  tidied_whole_shape = whole_shape (from_below n) (bracketed n) (operand_shape n) (tidied n) law

  tidied_unary_shape : (u : UnaryOf (Operand n) (Room n)) → in_shape (shape_of (operand_shape (suc n)) (tidied_unary n (tidied n) u)) ≡ in_shape (unary_shape (operand_shape n) u)
  tidied_unary_shape (negated d) = refl
  tidied_unary_shape (number k) = refl
  tidied_unary_shape (text bytes) = refl
  tidied_unary_shape (variable name) = refl
  tidied_unary_shape anonymous = refl
  tidied_unary_shape (atom a) = refl
  tidied_unary_shape (unit room) = refl
  tidied_unary_shape (group x) =
      ap in_shape (ungrouped_shape n (tidied_whole (from_below n) (bracketed n) (tidied n) x)) ∙ tidied_whole_shape x ∙ sym (grouped_shape (term_shape (operand_shape n) x))
  tidied_unary_shape (single x) = refl
  tidied_unary_shape (tuple x args) = refl

tidied_shape : (n : ℕ) (u : Operand n) → in_shape (shape_of (operand_shape n) (tidied n u)) ≡ in_shape (operand_shape n u)
tidied_shape zero u = absurd u
tidied_shape (suc n) u = tidied_unary_shape n (tidied_shape n) u

-- ---- tidied forms: what is seen in one
abbrev in_tidied : {U V : Type 0} → (U → List Sight) → (V → List Sight) → Tidied U V → List Sight
in_tidied seen below (operand u) = seen u
in_tidied seen below (product first part parts) = in_product below (row_of first (part ∷ parts))
in_tidied seen below (sum first part parts) = in_sum below (row_of first (part ∷ parts))
in_tidied seen below (range left right) = in_sum below left ++ in_sum below right

term_place : {U : Type 0} (seen : U → List Sight) (s : Tidied U U) → in_term seen (as_term s) ≡ in_tidied seen seen s
term_place seen (operand u) = refl
term_place seen (product first part parts) = refl
term_place seen (sum first part parts) = refl
term_place seen (range left right) = refl

module _ {U V : Type 0} (deeper : V → U) (brackets : TermOf V → U) (seen : U → List Sight) (below : V → List Sight) (same : (v : V) → seen (deeper v) ≡ below v) (inside : (x : TermOf V) → seen (brackets x) ≡ in_term below x) where
  operand_place : (s : Tidied U V) → seen (as_operand deeper brackets s) ≡ in_tidied seen below s
  operand_place (operand u) = refl
  operand_place (product first part parts) = inside (alone (one (row_of first (part ∷ parts))))
  operand_place (sum first part parts) = inside (alone (row_of first (part ∷ parts)))
  operand_place (range left right) = inside (interval left right)

  product_place : (s : Tidied U V) → in_product seen (as_product deeper brackets s) ≡ in_tidied seen below s
  product_place (operand u) = refl
  product_place (product first part parts) = in_product_same deeper below seen same (row_of first (part ∷ parts))
  product_place (sum first part parts) = inside (alone (row_of first (part ∷ parts)))
  product_place (range left right) = inside (interval left right)

  sum_place : (s : Tidied U V) → in_sum seen (as_sum deeper brackets s) ≡ in_tidied seen below s
  sum_place (operand u) = refl
  sum_place (product first part parts) = in_product_same deeper below seen same (row_of first (part ∷ parts))
  sum_place (sum first part parts) = in_sum_same deeper below seen same (row_of first (part ∷ parts))
  sum_place (range left right) = inside (interval left right)

  opened_place : (s : Tidied U V) → in_tidied seen seen (opened deeper brackets s) ≡ in_tidied seen below s
  opened_place (operand u) = refl
  opened_place (product first part parts) = in_product_same deeper below seen same (row_of first (part ∷ parts))
  opened_place (sum first part parts) = in_sum_same deeper below seen same (row_of first (part ∷ parts))
  opened_place (range left right) = (λ i. in_sum_same deeper below seen same left i ++ in_sum_same deeper below seen same right i)

  module _ (tidy : U → Tidied U V) (law : (u : U) → in_tidied seen below (tidy u) ≡ seen u) where
    operand_law : (u : U) → seen (as_operand deeper brackets (tidy u)) ≡ seen u
    operand_law u = operand_place (tidy u) ∙ law u

    by_law : (first : U) (rest : List (Multiplying × U)) → in_product seen (product_by deeper brackets tidy first rest) ≡ in_product seen (row_of first rest)
    by_law first [] = product_place (tidy first) ∙ law first
    by_law first (part ∷ parts) = items_same (λ u. as_operand deeper brackets (tidy u)) seen seen operand_law first (part ∷ parts)

    product_law : (row : ProductOf U) → in_product seen (tidied_product deeper brackets tidy row) ≡ in_product seen row
    product_law row = by_law row.first row.rest

    items_law : (first : ProductOf U) (rest : List (Adding × ProductOf U))
        → in_items (in_product seen) (tidied_product deeper brackets tidy first) (map (tidied_item deeper brackets tidy) rest) ≡ in_items (in_product seen) first rest
    items_law first rest = items_same (tidied_product deeper brackets tidy) (in_product seen) (in_product seen) product_law first rest

    lone_law : (first : U) (rest : List (Multiplying × U)) → in_tidied seen seen (lone_by deeper brackets tidy first rest) ≡ in_product seen (row_of first rest)
    lone_law first [] = opened_place (tidy first) ∙ law first
    lone_law first (part ∷ parts) = by_law first (part ∷ parts)

    whole_by_law : (first : ProductOf U) (rest : List (Adding × ProductOf U)) → in_tidied seen seen (whole_by deeper brackets tidy first rest) ≡ in_sum seen (row_of first rest)
    whole_by_law first [] = lone_law first.first first.rest
    whole_by_law first (part ∷ parts) = items_law first (part ∷ parts)

    end_lone_law : (first : U) (rest : List (Multiplying × U)) → in_sum seen (end_lone_by deeper brackets tidy first rest) ≡ in_product seen (row_of first rest)
    end_lone_law first [] = sum_place (tidy first) ∙ law first
    end_lone_law first (part ∷ parts) = by_law first (part ∷ parts)

    end_by_law : (first : ProductOf U) (rest : List (Adding × ProductOf U)) → in_sum seen (end_by deeper brackets tidy first rest) ≡ in_sum seen (row_of first rest)
    end_by_law first [] = end_lone_law first.first first.rest
    end_by_law first (part ∷ parts) = items_law first (part ∷ parts)

    whole_law : (x : TermOf U) → in_tidied seen seen (tidied_whole deeper brackets tidy x) ≡ in_term seen x
    whole_law (alone s) = whole_by_law s.first s.rest
    whole_law (interval left right) = (λ i. end_by_law left.first left.rest i ++ end_by_law right.first right.rest i)

-- ---- level by level
abbrev in_below : (n : ℕ) → Below n → List Sight
in_below zero u = absurd u
in_below (suc n) u = in_operand n u

below_same : (n : ℕ) (u : Below n) → in_operand n (from_below n u) ≡ in_below n u
below_same zero u = absurd u
below_same (suc n) u = lifted_seen n u

bracketed_seen : (n : ℕ) (x : TermOf (Below n)) → in_operand n (bracketed n x) ≡ in_term (in_below n) x
bracketed_seen zero (alone s) = absurd s.first.first
bracketed_seen zero (interval left right) = absurd left.first.first
bracketed_seen (suc n) x = refl

ungrouped_seen : (n : ℕ) (s : Tidied (Operand n) (Operand n))
    → in_tidied (in_operand (suc n)) (in_operand n) (ungrouped (lifted n) s) ≡ in_tidied (in_operand n) (in_operand n) s
ungrouped_seen n (operand u) = lifted_seen n u
ungrouped_seen n (product first part parts) = refl
ungrouped_seen n (sum first part parts) = refl
ungrouped_seen n (range left right) = refl

-- the level of what is inside an operand
module _ (n : ℕ) (law : (u : Operand n) → in_tidied (in_operand n) (in_below n) (tidied n u) ≡ in_operand n u) where
  tidied_whole_seen : (x : TermOf (Operand n)) → in_tidied (in_operand n) (in_operand n) (tidied_whole (from_below n) (bracketed n) (tidied n) x) ≡ in_term (in_operand n) x
  tidied_whole_seen = whole_law (from_below n) (bracketed n) (in_operand n) (in_below n) (below_same n) (bracketed_seen n) (tidied n) law

  tidied_term_seen : (x : TermOf (Operand n)) → in_term (in_operand n) (tidied_term n (tidied n) x) ≡ in_term (in_operand n) x
  tidied_term_seen x = term_place (in_operand n) (tidied_whole (from_below n) (bracketed n) (tidied n) x) ∙ tidied_whole_seen x

  -- an argument is an interval where it was one
  tidied_term_shape : (x : TermOf (Operand n)) → in_shape (term_shape (operand_shape n) (tidied_term n (tidied n) x)) ≡ in_shape (term_shape (operand_shape n) x)
  tidied_term_shape x = ap in_shape (term_shape_of (operand_shape n) (tidied_whole (from_below n) (bracketed n) (tidied n) x)) ∙ tidied_whole_shape n (tidied_shape n) x

  tidied_argument_seen : (x : TermOf (Operand n)) → in_argument (operand_shape n) (in_operand n) (tidied_term n (tidied n) x) ≡ in_argument (operand_shape n) (in_operand n) x
  tidied_argument_seen x = (λ i. tidied_term_shape x i ++ tidied_term_seen x i)

  tidied_args_seen : (args : ArgsOf (Operand n)) → in_args (operand_shape n) (in_operand n) (tidied_args n (tidied n) args) ≡ in_args (operand_shape n) (in_operand n) args
  tidied_args_seen = row_same (tidied_term n (tidied n)) (in_argument (operand_shape n) (in_operand n)) (in_argument (operand_shape n) (in_operand n)) tidied_argument_seen

  tidied_atom_seen : (a : AtomOf (Operand n)) → in_atom (operand_shape n) (in_operand n) (tidied_atom n (tidied n) a) ≡ in_atom (operand_shape n) (in_operand n) a
  tidied_atom_seen (plain name) = refl
  tidied_atom_seen (applied name args) = tidied_args_seen args

  tidied_unary_seen : (u : UnaryOf (Operand n) (Room n)) → in_tidied (in_operand (suc n)) (in_operand n) (tidied_unary n (tidied n) u) ≡ in_unary (operand_shape n) (in_operand n) u
  tidied_unary_seen (negated d) = operand_law (from_below n) (bracketed n) (in_operand n) (in_below n) (below_same n) (bracketed_seen n) (tidied n) law d
  tidied_unary_seen (number k) = refl
  tidied_unary_seen (text bytes) = refl
  tidied_unary_seen (variable name) = refl
  tidied_unary_seen anonymous = refl
  tidied_unary_seen (atom a) = tidied_atom_seen a
  tidied_unary_seen (unit room) = refl
  tidied_unary_seen (group x) = ungrouped_seen n (tidied_whole (from_below n) (bracketed n) (tidied n) x) ∙ tidied_whole_seen x
  tidied_unary_seen (single x) = tidied_argument_seen x
  tidied_unary_seen (tuple x args) = (λ i. tidied_argument_seen x i ++ tidied_args_seen args i)

tidied_seen : (n : ℕ) (u : Operand n) → in_tidied (in_operand n) (in_below n) (tidied n u) ≡ in_operand n u
tidied_seen zero u = absurd u
tidied_seen (suc n) u = tidied_unary_seen n (tidied_seen n) u

-- in a tidied term is seen what is seen in the term
pub same_in_term : (n : ℕ) (x : TermOf (Operand n)) → in_term (in_operand n) (tidied_term n (tidied n) x) ≡ in_term (in_operand n) x
same_in_term n = tidied_term_seen n (tidied_seen n)

-- in a tidied atom is seen what is seen in the atom
pub same_in_atom : (n : ℕ) (a : AtomOf (Operand n)) → in_atom (operand_shape n) (in_operand n) (tidied_atom n (tidied n) a) ≡ in_atom (operand_shape n) (in_operand n) a
same_in_atom n = tidied_atom_seen n (tidied_seen n)
