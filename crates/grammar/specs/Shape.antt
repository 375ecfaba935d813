-- What a term is as a whole: an atom, an interval, or neither.
use Rattle.std.specs.Prelude.{ℕ, zero, suc, List, [], ◌∷◌}
use Rattle.grammar.specs.declared.shape.Shape.{Shape}
use Rattle.grammar.specs.declared.shape.Shape.TheVariants.{Atom, Interval, Other}
use Rattle.grammar.specs.Row.{Row}
use Rattle.grammar.specs.Term.{TermOf, ProductOf, SumOf, UnaryOf, Operand, alone, interval, negated, number, text, variable, anonymous, atom, unit, group, single, tuple}

-- a row of one item is what the item is
abbrev pub row_shape_by : {S I : Type 0} → Shape → List (S × I) → Shape
row_shape_by shape [] = shape
row_shape_by shape (part ∷ parts) = Other

abbrev pub row_shape : {I S : Type 0} → (I → Shape) → Row I S → Shape
row_shape item row = row_shape_by (item row.first) row.rest

abbrev pub product_shape : {U : Type 0} → (U → Shape) → ProductOf U → Shape
product_shape = row_shape

abbrev pub sum_shape : {U : Type 0} → (U → Shape) → SumOf U → Shape
sum_shape operand = row_shape (row_shape operand)

abbrev pub term_shape : {U : Type 0} → (U → Shape) → TermOf U → Shape
term_shape operand (alone s) = sum_shape operand s
term_shape operand (interval left right) = Interval

-- an atom in parentheses is no atom
abbrev pub grouped : Shape → Shape
grouped Atom = Other
grouped Interval = Interval
grouped Other = Other

abbrev pub unary_shape : {D R : Type 0} → (D → Shape) → UnaryOf D R → Shape
unary_shape inner (negated d) = Other
unary_shape inner (number n) = Other
unary_shape inner (text bytes) = Other
unary_shape inner (variable name) = Other
unary_shape inner anonymous = Other
unary_shape inner (atom a) = Atom
unary_shape inner (unit room) = Other
unary_shape inner (group t) = grouped (term_shape inner t)
unary_shape inner (single t) = Other
unary_shape inner (tuple t args) = Other

abbrev pub operand_shape : (n : ℕ) → Operand n → Shape
operand_shape zero operand = absurd operand
operand_shape (suc n) operand = unary_shape (operand_shape n) operand
