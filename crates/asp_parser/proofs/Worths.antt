-- A term whose constants are variables is worth what it is with them replaced, since a constant's value is worth itself as a term.
use Rattle.std.proofs.Common.{◌≡◌, ◌⊎◌, inl, inr, ℕ, ℤ, zero, suc, ◌+◌, ◌-◌, ◌==◌, Bool, true, false, List, [], ◌∷◌, ◌++◌, map, fold, Option, Some, None, nat_le, slice_index_or, if◌then◌else◌, refl, sym, ap, ◌∙◌, subst, arith}
use Rattle.std.specs.List.{AllByRecursion}
use Rattle.std.proofs.lemmas.Bool.{ne_eqb}
use Rattle.std.specs.Map.{lookup}
use Rattle.std.specs.Str.{bytes_eq}
use Rattle.symbols.specs.Symbol.{Symbol, Symbols, Number, Identifier, Text, Function, arguments, depth}
use Rattle.syntax_tree.specs.declared.term.Op.{Op}
use Rattle.syntax_tree.specs.declared.term.Part.{Part}
use Rattle.syntax_tree.specs.declared.term.Term.{Term}
use Rattle.syntax_tree.specs.declared.term.Term.TheVariants as t
use Rattle.syntax_tree.specs.Outcome.{Outcome, IsSymbol, IsOver, IsUndefined}
use Rattle.syntax_tree.specs.Value.{Arguments, AreSymbols, HasOver, HasUndefined, with_argument, applied_to, shallow, nested, named, joined, some_outcome, from_left, negated, variable, value_of, part_value}
use Rattle.syntax_tree.proofs.PlainValues.{HoldsOfPlain, joined_has, negated_has}
use Rattle.syntax_tree.proofs.Turns.{at_part}
use Rattle.asp_parser.specs.Replacement.{Constants, value_at, applied, term_of, terms_of, value_or_name, replaced_name, replaced, replaced_part}
use Rattle.asp_parser.specs.Constants.{symbol_of, symbol_in, with_constant}
use Rattle.asp_parser.specs.ConstantTable.{AreWorthThemselves, worth_of, number_from, number_at, variable_or_name, name_as_variable, as_variables, part_as_variables}
use Rattle.asp_parser.proofs.Terms.{Passes, every_term, in_number, in_text, in_variable, in_anonymous, in_function, in_tuple, in_sum, in_product, in_minus, in_interval, in_part}
use Rattle.asp_parser.proofs.ValueForms.{text_value, number_value, variable_value, anonymous_value, function_value, tuple_value, sum_value, product_value, minus_value, interval_value}
use Rattle.asp_parser.proofs.VariableForms.{as_number, as_text, as_variable, as_anonymous, as_function, as_tuple, as_sum, as_product, as_minus, as_interval, as_part}

-- WHAT IS WORTH ITSELF

-- a symbol as a term is worth the symbol
abbrev IsItself : Symbol → Type 0
IsItself symbol = value_of [] (term_of symbol) ≡ IsSymbol symbol

abbrev IsSettled : Outcome → Type 0
IsSettled (IsSymbol symbol) = IsItself symbol
IsSettled IsOver = Unit {0}
IsSettled IsUndefined = Unit {0}

abbrev AreSettled : Arguments → Type 0
AreSettled (AreSymbols symbols) = AllByRecursion IsItself symbols
AreSettled HasOver = Unit {0}
AreSettled HasUndefined = Unit {0}

one_more : (symbols : List Symbol) (symbol : Symbol) → AllByRecursion IsItself symbols → IsItself symbol → AllByRecursion IsItself (symbols ++ symbol ∷ [])
one_more [] symbol h k = (k, tt)
one_more (s ∷ ss) symbol h k = (h.0, one_more ss symbol h.1 k)

argument_more : (so_far : Arguments) (next : Outcome) → AreSettled so_far → IsSettled next → AreSettled (with_argument so_far next)
argument_more HasUndefined next h k = tt
argument_more (AreSymbols symbols) IsUndefined h k = tt
argument_more HasOver IsUndefined h k = tt
argument_more (AreSymbols symbols) IsOver h k = tt
argument_more HasOver IsOver h k = tt
argument_more (AreSymbols symbols) (IsSymbol symbol) h k = one_more symbols symbol h k
argument_more HasOver (IsSymbol symbol) h k = tt

arguments_all : (so_far : Arguments) (outcomes : List Outcome) → AreSettled so_far → AllByRecursion IsSettled outcomes → AreSettled (fold with_argument so_far outcomes)
arguments_all so_far [] h known = h
arguments_all so_far (o ∷ os) h known = arguments_all (with_argument so_far o) os (argument_more so_far o h known.0) known.1

-- arguments of which there is one at least
abbrev AreSome : Arguments → Type 0
AreSome (AreSymbols []) = ⊥
AreSome (AreSymbols (symbol ∷ symbols)) = Unit {0}
AreSome HasOver = Unit {0}
AreSome HasUndefined = Unit {0}

some_first : (so_far : Arguments) (next : Outcome) → AreSome (with_argument so_far next)
some_first HasUndefined next = tt
some_first (AreSymbols symbols) IsUndefined = tt
some_first HasOver IsUndefined = tt
some_first (AreSymbols symbols) IsOver = tt
some_first HasOver IsOver = tt
some_first (AreSymbols []) (IsSymbol symbol) = tt
some_first (AreSymbols (s ∷ ss)) (IsSymbol symbol) = tt
some_first HasOver (IsSymbol symbol) = tt

some_all : (so_far : Arguments) (outcomes : List Outcome) → AreSome so_far → AreSome (fold with_argument so_far outcomes)
some_all so_far [] h = h
some_all so_far (o ∷ os) h = some_all (with_argument so_far o) os (some_first so_far o)

terms_listed : (symbols : List Symbol) → terms_of (arguments symbols) ≡ map term_of symbols
terms_listed [] = refl
terms_listed (s ∷ ss) = ap (λ rest. term_of s ∷ rest) (terms_listed ss)

-- symbols as terms are worth the symbols
values_listed : (symbols : List Symbol) → AllByRecursion IsItself symbols → map (value_of []) (map term_of symbols) ≡ map IsSymbol symbols
values_listed [] h = refl
values_listed (s ∷ ss) h = let here = h.0 in let rest = values_listed ss h.1 in rw (here, rest) refl

append_one : (first : List Symbol) (s : Symbol) (rest : List Symbol) → (first ++ s ∷ []) ++ rest ≡ first ++ s ∷ rest
append_one [] s rest = refl
append_one (f ∷ first) s rest = ap (λ l. f ∷ l) (append_one first s rest)

append_none : (symbols : List Symbol) → symbols ++ [] ≡ symbols
append_none [] = refl
append_none (s ∷ ss) = ap (λ l. s ∷ l) (append_none ss)

all_gathered : (first symbols : List Symbol) → fold with_argument (AreSymbols first) (map IsSymbol symbols) ≡ AreSymbols (first ++ symbols)
all_gathered first [] = ap AreSymbols (sym (append_none first))
all_gathered first (s ∷ ss) = all_gathered (first ++ s ∷ []) ss ∙ ap AreSymbols (append_one first s ss)

nested_symbols : (name : List ℕ) (symbols : List Symbol) → AllByRecursion IsItself symbols
    → nested name (map (value_of []) (map term_of symbols)) ≡ shallow (Function name (arguments symbols))
nested_symbols name symbols h = ap (nested name) (values_listed symbols h) ∙ ap (applied_to name) (all_gathered [] symbols)

-- a name before symbols as terms is worth the function
applied_worth : (name : List ℕ) (symbols : List Symbol) → AllByRecursion IsItself symbols → (name ≡ []) ⊎ AreSome (AreSymbols symbols)
    → value_of [] (applied name (map term_of symbols)) ≡ shallow (Function name (arguments symbols))
applied_worth [] symbols h some = tuple_value [] (map term_of symbols) ∙ nested_symbols [] symbols h
applied_worth (byte ∷ name) [] h (inl none) = absurd cc
applied_worth (byte ∷ name) [] h (inr some) = absurd some
applied_worth (byte ∷ name) (s ∷ ss) h some = function_value [] (byte ∷ name) (map term_of (s ∷ ss)) ∙ nested_symbols (byte ∷ name) (s ∷ ss) h

shallow_settled : (name : List ℕ) (symbols : List Symbol) (deep : Bool) → deep ≡ nat_le (depth (Function name (arguments symbols))) 256
    → value_of [] (term_of (Function name (arguments symbols))) ≡ shallow (Function name (arguments symbols))
    → IsSettled (if deep then IsSymbol (Function name (arguments symbols)) else IsOver)
shallow_settled name symbols true is h = h ∙ ap (λ b. if b then IsSymbol (Function name (arguments symbols)) else IsOver) (sym is)
shallow_settled name symbols false is h = tt

applied_settled : (name : List ℕ) (args : Arguments) → AreSettled args → (name ≡ []) ⊎ AreSome args → IsSettled (applied_to name args)
applied_settled name (AreSymbols symbols) h some =
    shallow_settled name symbols (nat_le (depth (Function name (arguments symbols))) 256) refl
    (ap (λ terms. value_of [] (applied name terms)) (terms_listed symbols) ∙ applied_worth name symbols h some)
applied_settled name HasOver h some = tt
applied_settled name HasUndefined h some = tt

plain_settled : HoldsOfPlain IsSettled
plain_settled = record { number = number_value []; over = tt; undefined = tt }

joined_settled : (parts : List (Op × Outcome)) (total : Outcome) → IsSettled total → IsSettled (some_outcome (fold joined (Some total) parts))
joined_settled [] total h = h
joined_settled (p ∷ ps) total h = joined_settled ps (some_outcome (joined (Some total) p)) (joined_has IsSettled plain_settled total p)

abbrev IsWorth : Term → Type 0
IsWorth term = IsSettled (value_of [] term)

all_worth : (args : List Term) → AllByRecursion IsWorth args → AllByRecursion IsSettled (map (value_of []) args)
all_worth [] known = tt
all_worth (x ∷ xs) known = (known.0, all_worth xs known.1)

parts_worth : (parts : List Part) → AllByRecursion (λ part. IsWorth part.term) parts → IsSettled (from_left (map (part_value []) parts))
parts_worth [] known = tt
parts_worth (x ∷ xs) known = joined_settled (map (part_value []) xs) (part_value [] x).1 (subst (λ p. IsSettled p.1) (sym (at_part [] x)) known.0)

function_worth : (name : List ℕ) (args : List Term) → AllByRecursion IsWorth args → IsSettled (named name (map (value_of []) args))
function_worth name [] known = function_value [] name []
function_worth name (x ∷ xs) known =
    applied_settled name (fold with_argument (AreSymbols []) (map (value_of []) (x ∷ xs)))
    (arguments_all (AreSymbols []) (map (value_of []) (x ∷ xs)) tt (all_worth (x ∷ xs) known))
    (inr (some_all (with_argument (AreSymbols []) (value_of [] x)) (map (value_of []) xs) (some_first (AreSymbols []) (value_of [] x))))

unbound : (b : Bool) → IsSettled (if b then IsUndefined else IsUndefined)
unbound true = tt
unbound false = tt

worth : Passes IsWorth
worth = record {
  number = λ n. subst IsSettled (sym (number_value [] n)) (number_value [] n);
  text = λ text. subst IsSettled (sym (text_value [] text)) (text_value [] text);
  variable = λ n. subst IsSettled (sym (variable_value [] n)) (unbound (n == 0));
  anonymous = subst IsSettled (sym (anonymous_value [])) tt;
  function = λ name args known. subst IsSettled (sym (function_value [] name args)) (function_worth name args known);
  tuple = λ args known. subst IsSettled (sym (tuple_value [] args))
      (applied_settled [] (fold with_argument (AreSymbols []) (map (value_of []) args)) (arguments_all (AreSymbols []) (map (value_of []) args) tt (all_worth args known)) (inl refl));
  sum = λ parts known. subst IsSettled (sym (sum_value [] parts)) (parts_worth parts known);
  product = λ parts known. subst IsSettled (sym (product_value [] parts)) (parts_worth parts known);
  minus = λ inner known. subst IsSettled (sym (minus_value [] inner)) (negated_has IsSettled plain_settled (value_of [] inner));
  interval = λ l r known_l known_r. subst IsSettled (sym (interval_value [] l r)) tt;
}

-- what a term is worth is worth itself as a term
pub value_settled : (term : Term) → IsSettled (value_of [] term)
value_settled = every_term IsWorth worth

-- THE CONSTANTS SO FAR

values_more : (constants : Constants) (name : List ℕ) (symbol : Symbol) → AreWorthThemselves constants → IsItself symbol → AreWorthThemselves (constants ++ (name, symbol) ∷ [])
values_more [] name symbol known h = (h, tt)
values_more (c ∷ cs) name symbol known h = (known.0, values_more cs name symbol known.1 h)

symbol_settled : (outcome : Outcome) (symbol : Symbol) → IsSettled outcome → symbol_in outcome ≡ Some symbol → IsItself symbol
symbol_settled (IsSymbol s) symbol h is = let same : s ≡ symbol = cc in subst IsItself same h
symbol_settled IsOver symbol h is = absurd cc
symbol_settled IsUndefined symbol h is = absurd cc

-- one constant more
pub with_values : (constants new : Constants) (name : List ℕ) (before : Option Symbol) (term : Term) → AreWorthThemselves constants
    → with_constant constants name before (symbol_of constants term) ≡ Some new → AreWorthThemselves new
with_values constants new name before term known h =
    go before (symbol_of constants term) (λ symbol is. symbol_settled _ symbol (value_settled (replaced constants term)) is) h
  where
    go : (before value : Option Symbol) → ((symbol : Symbol) → value ≡ Some symbol → IsItself symbol) → with_constant constants name before value ≡ Some new → AreWorthThemselves new
    go (Some old) value itself k = absurd cc
    go None None itself k = absurd cc
    go None (Some symbol) itself k =
        let same : constants ++ (name, symbol) ∷ [] ≡ new = cc in subst AreWorthThemselves same (values_more constants name symbol known (itself symbol refl))

-- CONSTANTS AS VARIABLES

-- the value at a place of what the variables are worth, or the name alone
abbrev at_place : List Outcome → List ℕ → Option ℕ → Outcome
at_place bound name None = IsSymbol (Identifier name)
at_place bound name (Some place) = slice_index_or bound place IsUndefined

abbrev shift : ℕ → Option ℕ → Option ℕ
shift first None = None
shift first (Some place) = Some (first + place)

shift_more : (first : ℕ) (o : Option ℕ) → shift (first + 1) o ≡ shift first (shift 1 o)
shift_more first None = refl
shift_more first (Some place) = ap Some (omega arith)

-- numbers from another first number on
numbers_shift : (first : ℕ) (constants : Constants) (name : List ℕ) → number_from first constants name ≡ shift first (number_from 0 constants name)
numbers_shift first [] name = refl
numbers_shift first (c ∷ cs) name = go (bytes_eq name c.0) (numbers_shift (first + 1) cs name) (numbers_shift 1 cs name)
  where
    go : (b : Bool) → number_from (first + 1) cs name ≡ shift (first + 1) (number_from 0 cs name) → number_from 1 cs name ≡ shift 1 (number_from 0 cs name)
        → (if b then Some first else number_from (first + 1) cs name) ≡ shift first (if b then Some 0 else number_from (0 + 1) cs name)
    go true here next = ap Some (omega arith)
    go false here next = here ∙ shift_more first (number_from 0 cs name) ∙ ap (shift first) (sym next)

-- the value at a name's place is its constant's value as a term
placed : (constants : Constants) (name : List ℕ) → AreWorthThemselves constants → at_place (worth_of constants) name (number_from 0 constants name) ≡ value_of [] (value_or_name name (value_at constants name))
placed [] name known = sym (function_value [] name [])
placed (c ∷ cs) name known = go (bytes_eq name c.0) (placed cs name known.1)
  where
    behind : (o : Option ℕ) → at_place (IsSymbol c.1 ∷ worth_of cs) name (shift 1 o) ≡ at_place (worth_of cs) name o
    behind None = refl
    behind (Some place) = let next : 1 + place ≡ suc place = omega arith in ap (λ n. slice_index_or (IsSymbol c.1 ∷ worth_of cs) n IsUndefined) next

    go : (b : Bool) → at_place (worth_of cs) name (number_from 0 cs name) ≡ value_of [] (value_or_name name (lookup (bytes_eq name) cs))
        → at_place (IsSymbol c.1 ∷ worth_of cs) name (if b then Some 0 else number_from (0 + 1) cs name)
        ≡ value_of [] (value_or_name name (if b then Some c.1 else lookup (bytes_eq name) cs))
    go true rest = sym known.0
    go false rest = ap (at_place (IsSymbol c.1 ∷ worth_of cs) name) (numbers_shift 1 cs name) ∙ behind (number_from 0 cs name) ∙ rest

module _ (constants : Constants) (known : AreWorthThemselves constants) where
  abbrev bound : List Outcome
  bound = worth_of constants

  numbered : (name : List ℕ) (o : Option ℕ) → value_of bound (variable_or_name name (shift 1 o)) ≡ at_place bound name o
  numbered name None = function_value bound name []
  numbered name (Some place) = variable_value bound (1 + place) ∙ by ((1 + place) == 0) (not_zero place)
    where
      not_zero : (n : ℕ) → ((1 + n) == 0) ≡ false
      not_zero n = ne_eqb (1 + n) 0 (λ e. omega (arith, e))

      by : (b : Bool) → b ≡ false → (if b then IsUndefined else slice_index_or bound (1 + place - 1) IsUndefined) ≡ slice_index_or bound place IsUndefined
      by true is = absurd cc
      by false is = ap (λ n. slice_index_or bound n IsUndefined) (omega arith)

  name_same : (name : List ℕ) → value_of bound (variable_or_name name (number_at constants name)) ≡ value_of [] (value_or_name name (value_at constants name))
  name_same name =
      ap (λ o. value_of bound (variable_or_name name o)) (numbers_shift 1 constants name)
      ∙ numbered name (number_from 0 constants name) ∙ placed constants name known

  abbrev IsSame : Term → Type 0
  IsSame term = value_of bound (as_variables constants term) ≡ value_of [] (replaced constants term)

  all_same : (args : List Term) → AllByRecursion IsSame args → map (value_of bound) (map (as_variables constants) args) ≡ map (value_of []) (map (replaced constants) args)
  all_same [] h = refl
  all_same (x ∷ xs) h = let here = h.0 in let rest = all_same xs h.1 in rw (here, rest) refl

  part_same : (part : Part) → IsSame part.term → part_value bound (part_as_variables constants part) ≡ part_value [] (replaced_part constants part)
  part_same part h =
      ap (part_value bound) (as_part constants part) ∙ at_part bound (record { op = part.op; term = as_variables constants part.term }) ∙ ap (λ o. (part.op, o)) h
      ∙ sym (at_part [] (record { op = part.op; term = replaced constants part.term })) ∙ sym (ap (part_value []) (in_part constants part))

  parts_same : (parts : List Part) → AllByRecursion (λ part. IsSame part.term) parts
      → map (part_value bound) (map (part_as_variables constants) parts) ≡ map (part_value []) (map (replaced_part constants) parts)
  parts_same [] h = refl
  parts_same (x ∷ xs) h = let here = part_same x h.0 in let rest = parts_same xs h.1 in rw (here, rest) refl

  function_same : (name : List ℕ) (args : List Term) → AllByRecursion IsSame args
      → value_of bound (name_as_variable constants name (map (as_variables constants) args)) ≡ value_of [] (replaced_name constants name (map (replaced constants) args))
  function_same name [] h = name_same name
  function_same name (x ∷ xs) h =
      function_value bound name (map (as_variables constants) (x ∷ xs)) ∙ ap (named name) (all_same (x ∷ xs) h) ∙ sym (function_value [] name (map (replaced constants) (x ∷ xs)))

  none_bound : (n : ℕ) → variable [] n ≡ IsUndefined
  none_bound n = by (n == 0)
    where
      by : (b : Bool) → (if b then IsUndefined else IsUndefined) ≡ IsUndefined
      by true = refl
      by false = refl

  same : Passes IsSame
  same = record {
    number = λ n. ap (value_of bound) (as_number constants n) ∙ number_value bound n ∙ sym (number_value [] n) ∙ sym (ap (value_of []) (in_number constants n));
    text = λ text. ap (value_of bound) (as_text constants text) ∙ text_value bound text ∙ sym (text_value [] text) ∙ sym (ap (value_of []) (in_text constants text));
    variable = λ n. ap (value_of bound) (as_variable constants n) ∙ anonymous_value bound ∙ sym (none_bound n) ∙ sym (variable_value [] n) ∙ sym (ap (value_of []) (in_variable constants n));
    anonymous = ap (value_of bound) (as_anonymous constants) ∙ anonymous_value bound ∙ sym (anonymous_value []) ∙ sym (ap (value_of []) (in_anonymous constants));
    function = λ name args h. ap (value_of bound) (as_function constants name args) ∙ function_same name args h ∙ sym (ap (value_of []) (in_function constants name args));
    tuple = λ args h.
        ap (value_of bound) (as_tuple constants args) ∙ tuple_value bound (map (as_variables constants) args) ∙ ap (nested []) (all_same args h)
        ∙ sym (tuple_value [] (map (replaced constants) args)) ∙ sym (ap (value_of []) (in_tuple constants args));
    sum = λ parts h.
        ap (value_of bound) (as_sum constants parts) ∙ sum_value bound (map (part_as_variables constants) parts) ∙ ap from_left (parts_same parts h)
        ∙ sym (sum_value [] (map (replaced_part constants) parts)) ∙ sym (ap (value_of []) (in_sum constants parts));
    product = λ parts h.
        ap (value_of bound) (as_product constants parts) ∙ product_value bound (map (part_as_variables constants) parts) ∙ ap from_left (parts_same parts h)
        ∙ sym (product_value [] (map (replaced_part constants) parts)) ∙ sym (ap (value_of []) (in_product constants parts));
    minus = λ inner h.
        ap (value_of bound) (as_minus constants inner) ∙ minus_value bound (as_variables constants inner) ∙ ap negated h
        ∙ sym (minus_value [] (replaced constants inner)) ∙ sym (ap (value_of []) (in_minus constants inner));
    interval = λ l r known_l known_r.
        ap (value_of bound) (as_interval constants l r) ∙ interval_value bound (as_variables constants l) (as_variables constants r)
        ∙ sym (interval_value [] (replaced constants l) (replaced constants r)) ∙ sym (ap (value_of []) (in_interval constants l r));
  }

  -- a term is worth as much with its constants as variables as with them replaced
  pub worth_as_variables : (term : Term) → value_of bound (as_variables constants term) ≡ value_of [] (replaced constants term)
  worth_as_variables = every_term IsSame same
