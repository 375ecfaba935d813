-- The definitions on small terms, comparisons and elements, by computing.
use Rattle.std.proofs.Common.{◌≡◌, ℕ, true, false, ℤ, pos, List, [], ◌∷◌, Option, None, Some, refl, codes}
use Rattle.std.specs.declared.cmp.Ordering.TheVariants.{Less}
use Rattle.symbols.specs.declared.rel.Rel.TheVariants as r
use Rattle.symbols.specs.Symbol.{Symbol, Number, Identifier, Function, arguments}
use Rattle.syntax_tree.specs.declared.literal.TheoryName.TheVariants as name
use Rattle.syntax_tree.specs.declared.term.Op.TheVariants as op
use Rattle.syntax_tree.specs.declared.term.Term.{Term}
use Rattle.syntax_tree.specs.declared.term.Term.TheVariants as t
use Rattle.syntax_tree.specs.Arithmetic.{fitted}
use Rattle.syntax_tree.specs.Outcome.{Outcome, IsSymbol, IsOver, IsUndefined}
use Rattle.syntax_tree.specs.Value.{value_of}
use Rattle.ground_model.specs.Rule.{LinearOf}
use Rattle.program_meaning.specs.Read.{PlainAtom, ReadElement}
use Rattle.program_meaning.specs.Substitution.{SymbolValue, OverValue, value_cmp}
use Rattle.program_meaning.specs.Comparison.{IsTruth, TruthOver, TruthUndefined, comparison}
use Rattle.program_meaning.specs.Collected.{collected}
use Rattle.program_meaning.specs.Theory.{is_there, duration_over, duration_not_linear, element_over, element_not_linear}
use Rattle.program_meaning.proofs.Layers

pub ruleset forms = (
  Layers.value_of-Number,
  Layers.value_of-Text,
  Layers.value_of-Variable,
  Layers.value_of-Function,
  Layers.value_of-Tuple,
  Layers.value_of-Sum,
  Layers.value_of-Product,
  Layers.value_of-Minus,
  Layers.value_of-Interval,
  Layers.part_value-Part,
  Layers.collected-Number,
  Layers.collected-Text,
  Layers.collected-Variable,
  Layers.collected-Function,
  Layers.collected-Tuple,
  Layers.collected-Sum,
  Layers.collected-Product,
  Layers.collected-Minus,
  Layers.collected-Interval,
  Layers.collected-Part,
  Layers.plain_variable-Number,
  Layers.plain_variable-Variable,
  Layers.plain_variable-Sum,
  Layers.plain_variable-Function,
  Layers.plain_variable-Interval,
  Layers.occurs_outside-Variable,
  Layers.occurs_outside-Function,
  Layers.occurs_outside-Number,
  Layers.plain_variable-Product,
  Layers.plain_variable-Text,
  Layers.plain_variable-Minus,
  Layers.plain_variable-Tuple,
  Layers.ends-Number,
  Layers.ends-Variable,
  Layers.ends-Sum,
  Layers.ends-Product,
  Layers.ends-Text,
  Layers.ends-Function,
  Layers.ends-Tuple,
  Layers.ends-Minus,
  Layers.ends-Interval,
)

-- ---- terms

abbrev pub plus : Term → Term → Term
plus a b = t.Sum (record { op = op.Plus; term = a } ∷ record { op = op.Plus; term = b } ∷ [])

abbrev pub minus : Term → Term → Term
minus a b = t.Sum (record { op = op.Plus; term = a } ∷ record { op = op.Minus; term = b } ∷ [])

abbrev pub times : Term → Term → Term
times a b = t.Product (record { op = op.Times; term = a } ∷ record { op = op.Times; term = b } ∷ [])

abbrev pub over : Term → Term → Term
over a b = t.Product (record { op = op.Times; term = a } ∷ record { op = op.Divide; term = b } ∷ [])

abbrev pub n : ℕ → Term
n k = t.Number (pos k)

abbrev pub x : Term
x = t.Function (codes "x") []

abbrev pub y : Term
y = t.Function (codes "y") []

abbrev pub v : Term
v = t.Variable 1

abbrev pub p : Term → Term
p term = t.Function (codes "p") (term ∷ [])

-- a number outside 32 bits, and a quotient with divisor zero
abbrev pub huge : Term
huge = plus (n 2147483647) (n 1)

abbrev pub nothing : Term
nothing = over (n 1) (n 0)

pub huge_over : (bound : List Outcome) → value_of bound huge ≡ IsOver
unfolding fitted
huge_over bound = simp forms

pub huge_atom : (bound : List Outcome) → value_of bound (p huge) ≡ IsOver
unfolding fitted
huge_atom bound = simp forms

pub nothing_undefined : (bound : List Outcome) → value_of bound (p nothing) ≡ IsUndefined
nothing_undefined bound = simp forms

-- ---- comparisons

abbrev five : List Outcome
five = IsSymbol (Number (pos 5)) ∷ []

-- V = 2147483647+1 fails where no positive atom binds V, and is over where one does
free_fails : comparison [] five v r.Equal huge ≡ IsTruth false
unfolding fitted
free_fails = simp forms

bound_over : comparison (PlainAtom (p v) true ∷ []) five v r.Equal huge ≡ TruthOver
unfolding fitted
bound_over = simp forms

-- a negated atom and an atom that has V in a sum bind nothing
negated_fails : comparison (PlainAtom (p v) false ∷ []) five v r.Equal huge ≡ IsTruth false
unfolding fitted
negated_fails = simp forms

-- V < 2147483647+1 is over: over is not greater than all symbols
less_over : comparison [] five v r.Less huge ≡ TruthOver
unfolding fitted
less_over = simp forms

-- V = 1/0 and V < 1/0 are undefined
equal_undefined : comparison [] five v r.Equal nothing ≡ TruthUndefined
equal_undefined = simp forms

-- V = 4..6 holds, V = 6..4 does not, V = 1..2147483647+1 fails where V is free, V = a..2147483647+1 is undefined
within : comparison [] five v r.Equal (t.Interval (n 4) (n 6)) ≡ IsTruth true
within = simp forms

empty : comparison [] five v r.Equal (t.Interval (n 6) (n 4)) ≡ IsTruth false
empty = simp forms

open_end : comparison [] five v r.Equal (t.Interval (n 1) huge) ≡ IsTruth false
unfolding fitted
open_end = simp forms

bound_end : comparison (PlainAtom (p v) true ∷ []) five v r.Equal (t.Interval (n 1) huge) ≡ TruthOver
unfolding fitted
bound_end = simp forms

no_end : comparison [] five v r.Equal (t.Interval x huge) ≡ TruthUndefined
unfolding fitted
no_end = simp forms

-- a string is greater than every number
text_greater : comparison [] five (t.Text (codes "a")) r.Greater v ≡ IsTruth true
text_greater = simp forms

-- over stands last
over_last : value_cmp (SymbolValue (Function (codes "f") (arguments (Number (pos 1) ∷ [])))) OverValue ≡ Less
over_last = refl

-- ---- collected forms

abbrev linear : List (Symbol × ℤ) → ℤ → LinearOf Symbol
linear pairs constant = record { pairs = pairs; constant = constant }

abbrev sx : Symbol
sx = Identifier (codes "x")

abbrev sy : Symbol
sy = Identifier (codes "y")

-- 2*x+x is 3*x, y+x has its variables in symbol order, x-x keeps x with coefficient 0
tripled : (collected [] (plus (times (n 2) x) x)).form ≡ linear ((sx, pos 3) ∷ []) (pos 0)
tripled = simp forms

ordered : (collected [] (plus y x)).form ≡ linear ((sx, pos 1) ∷ (sy, pos 1) ∷ []) (pos 0)
ordered = simp forms

cancelled : (collected [] (minus x x)).form ≡ linear ((sx, pos 0) ∷ []) (pos 0)
cancelled = simp forms

-- equal tuples of different spelling are one: x+1+2 and 3+x
respelled : (collected [] (plus (plus x (n 1)) (n 2))).form ≡ (collected [] (plus (n 3) x)).form
respelled = simp forms

-- x*y, (x-x)*y, x/2 and 4/0 are not linear, 4/2 is 2
product_bent : (collected [] (times x y)).not_linear ≡ true
product_bent = simp forms

cancelled_bent : (collected [] (times (minus x x) y)).not_linear ≡ true
cancelled_bent = simp forms

quotient_bent : (collected [] (over x (n 2))).not_linear ≡ true
quotient_bent = simp forms

divided_by_zero : (collected [] (over (n 4) (n 0))).not_linear ≡ true
divided_by_zero = simp forms

divided : (collected [] (over (n 4) (n 2))).form ≡ linear [] (pos 2)
divided = simp forms

-- a string and a tuple are not linear
text_bent : (collected [] (t.Text (codes "a"))).not_linear ≡ true
text_bent = simp forms

tuple_bent : (collected [] (t.Tuple (n 1 ∷ n 2 ∷ []))).not_linear ≡ true
tuple_bent = simp forms

-- 2147483647+1 is a constant as a linear term, and 2147483647*2147483647*x is not too large; twice that is
constant_fits : (collected [] huge).over ≡ false
constant_fits = simp forms

square_fits : (collected [] (times (times (n 2147483647) (n 2147483647)) x)).large ≡ false
square_fits = simp forms

twice_large : (collected [] (times (times (n 2) (times (n 2147483647) (n 2147483647))) x)).large ≡ true
twice_large = simp forms

-- f(1/0) is undefined in a linear term, and 1/0 is not: it is not linear
argument_undefined : (collected [] (p nothing)).undefined ≡ true
argument_undefined = simp forms

quotient_there : (collected [] nothing).undefined ≡ false
quotient_there = simp forms

-- p(2147483647+1) and a variable that is over are over
argument_over : (collected [] (p huge)).over ≡ true
unfolding fitted
argument_over = simp forms

variable_over : (collected (IsOver ∷ []) v).over ≡ true
variable_over = simp forms

-- ---- elements

abbrev element : Term → Option Term → List Term → ReadElement
element first duration rest = record { first = first; duration = duration; rest = rest; condition = [] }

-- an element with an undefined further place is not there, and one whose first place is 1/0 is
rest_undefined : is_there [] (element x None (nothing ∷ [])) ≡ false
rest_undefined = simp forms

first_there : is_there [] (element nothing None []) ≡ true
first_there = simp forms

-- a duration that is over is over, and one that is negative or no integer is not linear
duration_huge : duration_over [] (Some huge) ≡ true
unfolding fitted
duration_huge = simp forms

duration_negative : duration_not_linear [] (Some (t.Minus (n 1))) ≡ true
unfolding fitted
duration_negative = simp forms

duration_name : duration_not_linear [] (Some x) ≡ true
duration_name = simp forms

duration_fits : duration_not_linear [] (Some (n 3)) ≡ false
duration_fits = simp forms

-- an element of `&dom` is over by its value, and is never not linear
domain_over : element_over name.Dom [] (element huge None []) ≡ true
unfolding fitted
domain_over = simp forms

domain_linear : element_not_linear name.Dom [] (element x None []) ≡ false
domain_linear = refl

-- a place of `&show` is one variable
show_sum : element_not_linear name.Show [] (element (plus x (n 1)) None []) ≡ true
show_sum = simp forms

show_variable : element_not_linear name.Show [] (element x None []) ≡ false
show_variable = simp forms
