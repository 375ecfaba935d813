-- Linear terms in collected form, and what keeps a term from having one.
use Rattle.std.specs.Prelude.{Bool, true, false, not, ◌&&◌, ◌||◌, if◌then◌else◌, ℤ, pos, negsuc, ◌+ℤ◌, ◌*ℤ◌, ◌-ℤ◌, int_div, List, [], ◌∷◌, map, fold, Option, None, Some}
use Rattle.std.specs.List.{list_all}
use Rattle.std.specs.declared.cmp.Ordering.{Ordering}
use Rattle.std.specs.declared.cmp.Ordering.TheVariants.{Less, Equal, Greater}
use Rattle.symbols.specs.Symbol.{Symbol, Number, Identifier, Text, Function}
use Rattle.symbols.specs.Order.{symbol_cmp}
use Rattle.syntax_tree.specs.declared.term.Op.{Op}
use Rattle.syntax_tree.specs.declared.term.Op.TheVariants as op
use Rattle.syntax_tree.specs.declared.term.Term.{Term}
use Rattle.syntax_tree.specs.declared.term.Term.TheOpen.{Term-F}
use Rattle.syntax_tree.specs.declared.term.Term.TheFolds.{fold-Term}
use Rattle.syntax_tree.specs.Arithmetic.{combined, is_zero}
use Rattle.syntax_tree.specs.Outcome.{Outcome, IsSymbol, IsOver, IsUndefined}
use Rattle.syntax_tree.specs.Value.{operand, plain, named, nested, negated, variable}
use Rattle.ground_model.specs.Rule.{LinearOf}
use Rattle.ground_model.specs.Sound.{is_small}

-- SUMS

abbrev pub placed : Ordering → Symbol → ℤ → Symbol × ℤ → List (Symbol × ℤ) → List (Symbol × ℤ) → List (Symbol × ℤ)
placed Less x c pair rest inserted = (x, c) ∷ pair ∷ rest
placed Equal x c pair rest inserted = (x, c +ℤ pair.1) ∷ rest
placed Greater x c pair rest inserted = pair ∷ inserted

-- a variable with a coefficient more, in symbol order; one that cancels stays with coefficient 0
abbrev pub pair_added : Symbol → ℤ → List (Symbol × ℤ) → List (Symbol × ℤ)
pair_added x c [] = (x, c) ∷ []
pair_added x c (pair ∷ rest) = placed (symbol_cmp x pair.0) x c pair rest (pair_added x c rest)

abbrev pub pairs_added : List (Symbol × ℤ) → List (Symbol × ℤ) → List (Symbol × ℤ)
pairs_added [] others = others
pairs_added (pair ∷ pairs) others = pair_added pair.0 pair.1 (pairs_added pairs others)

-- the sum of two linear terms
abbrev pub added : LinearOf Symbol → LinearOf Symbol → LinearOf Symbol
added a b = record { pairs = pairs_added a.pairs b.pairs; constant = a.constant +ℤ b.constant }

-- a linear term so many times
abbrev pub scaled : ℤ → LinearOf Symbol → LinearOf Symbol
scaled k a = record { pairs = map (λ pair. (pair.0, k *ℤ pair.1)) a.pairs; constant = k *ℤ a.constant }

-- a number alone, and a variable alone
abbrev pub constant_form : ℤ → LinearOf Symbol
constant_form n = record { pairs = []; constant = n }

abbrev pub variable_form : Symbol → LinearOf Symbol
variable_form x = record { pairs = (x, pos 1) ∷ []; constant = pos 0 }

abbrev pub has_pairs : List (Symbol × ℤ) → Bool
has_pairs [] = false
has_pairs (pair ∷ rest) = true

-- it holds a variable, also one with coefficient 0
abbrev pub holds_variable : LinearOf Symbol → Bool
holds_variable a = has_pairs a.pairs

-- every coefficient and the constant lie strictly between -2^62 and 2^62
abbrev pub is_small_form : LinearOf Symbol → Bool
is_small_form a = list_all (λ pair. is_small pair.1) a.pairs && is_small a.constant

-- TERMS

-- a term's value as an ordinary term; whether it holds an undefined argument, an argument or a variable that is over, a part that is
-- not linear, a part that is too large; and its collected form, which counts where it holds none of these
pub record Collected : Type 0 where
  pub value : Outcome
  pub undefined : Bool
  pub over : Bool
  pub not_linear : Bool
  pub large : Bool
  pub form : LinearOf Symbol

-- a symbol's value, whether it is not linear, and its form, which has to be small
abbrev pub leaf : Symbol → Bool → LinearOf Symbol → Collected
leaf symbol bent form = record {
  value = IsSymbol symbol;
  undefined = false;
  over = false;
  not_linear = bent;
  large = not (is_small_form form);
  form = form;
}

-- a number is a constant, an identifier and a name with arguments are variables, a string and a tuple are not linear
abbrev pub symbol_collected : Symbol → Collected
symbol_collected (Number n) = leaf (Number n) false (constant_form n)
symbol_collected (Identifier name) = leaf (Identifier name) false (variable_form (Identifier name))
symbol_collected (Text text) = leaf (Text text) true (constant_form (pos 0))
symbol_collected (Function [] args) = leaf (Function [] args) true (constant_form (pos 0))
symbol_collected (Function (byte ∷ name) args) = leaf (Function (byte ∷ name) args) false (variable_form (Function (byte ∷ name) args))

-- a term that has no symbol
abbrev pub no_leaf : Outcome → Bool → Bool → Collected
no_leaf value undefined over = record {
  value = value;
  undefined = undefined;
  over = over;
  not_linear = false;
  large = false;
  form = constant_form (pos 0);
}

-- a variable of the rule, or a name with its arguments, by what it is worth
abbrev pub worth_collected : Outcome → Collected
worth_collected (IsSymbol symbol) = symbol_collected symbol
worth_collected IsOver = no_leaf IsOver false true
worth_collected IsUndefined = no_leaf IsUndefined true false

-- a product is not linear where both sides hold variables, and a quotient where one does or where the divisor is zero
abbrev pub is_crooked : Op → Collected → Collected → Bool
is_crooked op.Plus a b = false
is_crooked op.Minus a b = false
is_crooked op.Times a b = holds_variable a.form && holds_variable b.form
is_crooked op.Divide a b = holds_variable a.form || holds_variable b.form || (not b.large && is_zero b.form.constant)
is_crooked op.Remainder a b = holds_variable a.form || holds_variable b.form || (not b.large && is_zero b.form.constant)

-- the collected form of an operation on two linear terms
abbrev pub form_joined : Op → LinearOf Symbol → LinearOf Symbol → LinearOf Symbol
form_joined op.Plus a b = added a b
form_joined op.Minus a b = added a (scaled (negsuc 0) b)
form_joined op.Times a b = (if holds_variable a then scaled b.constant a else scaled a.constant b)
form_joined op.Divide a b = constant_form (int_div a.constant b.constant)
form_joined op.Remainder a b = constant_form (a.constant -ℤ (b.constant *ℤ int_div a.constant b.constant))

-- an operation on two terms; its result too has to be small
abbrev pub operation_collected : Op → Collected → Collected → Collected
operation_collected op a b = record {
  value = plain (combined op (operand a.value) (operand b.value));
  undefined = a.undefined || b.undefined;
  over = a.over || b.over;
  not_linear = a.not_linear || b.not_linear || is_crooked op a b;
  large = a.large || b.large || not (is_small_form (form_joined op a.form b.form));
  form = form_joined op a.form b.form;
}

abbrev pub part_joined : Option Collected → Op × Collected → Option Collected
part_joined None part = Some part.1
part_joined (Some total) part = Some (operation_collected part.0 total part.1)

abbrev pub some_collected : Option Collected → Collected
some_collected None = worth_collected IsUndefined
some_collected (Some total) = total

-- the parts of a sum or a product, joined from the left
abbrev pub parts_collected : List (Op × Collected) → Collected
parts_collected parts = some_collected (fold part_joined None parts)

-- a term with the other sign
abbrev pub minus_collected : Collected → Collected
minus_collected a = record {
  value = negated a.value;
  undefined = a.undefined;
  over = a.over;
  not_linear = a.not_linear;
  large = a.large;
  form = scaled (negsuc 0) a.form;
}

-- an interval has no value and no form of its own
abbrev pub interval_collected : Collected → Collected → Collected
interval_collected a b = record {
  value = IsUndefined;
  undefined = a.undefined || b.undefined;
  over = a.over || b.over;
  not_linear = true;
  large = a.large || b.large;
  form = constant_form (pos 0);
}

abbrev pub collected_step : List Outcome → Term-F Collected (Op × Collected) → Collected
collected_step bound (Term-F.Number n) = symbol_collected (Number n)
collected_step bound (Term-F.Text text) = symbol_collected (Text text)
collected_step bound (Term-F.Variable n) = worth_collected (variable bound n)
collected_step bound Term-F.Anonymous = worth_collected IsUndefined
collected_step bound (Term-F.Function name args) = worth_collected (named name (map (λ arg. arg.value) args))
collected_step bound (Term-F.Tuple args) = worth_collected (nested [] (map (λ arg. arg.value) args))
collected_step bound (Term-F.Sum parts) = parts_collected parts
collected_step bound (Term-F.Product parts) = parts_collected parts
collected_step bound (Term-F.Minus inner) = minus_collected inner
collected_step bound (Term-F.Interval left right) = interval_collected left right

-- a term as it is collected, where the variables have these values
abbrev pub collected : List Outcome → Term → Collected
collected bound = fold-Term Collected (Op × Collected) (collected_step bound) (λ part. (part.op, part.term))
