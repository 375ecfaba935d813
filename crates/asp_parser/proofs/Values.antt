-- What a term is worth is a tree as a term, so constants are trees.
use Rattle.std.proofs.Common.{◌≡◌, ℕ, ℤ, zero, suc, Bool, true, false, ◌&&◌, IsTrue, List, [], ◌∷◌, ◌++◌, map, fold, Option, Some, None, IsSome, is_some, nat_le, if◌then◌else◌, ◌⊎◌, ◌==◌, inl, inr, refl, sym, ap, ◌∙◌, subst}
use Rattle.std.specs.List.{list_all, AllByRecursion}
use Rattle.symbols.specs.Symbol.{Symbol, Number, Identifier, Text, Function, arguments, depth}
use Rattle.syntax_tree.specs.declared.term.Op.{Op}
use Rattle.syntax_tree.specs.declared.term.Part.{Part}
use Rattle.syntax_tree.specs.declared.term.Term.{Term}
use Rattle.syntax_tree.specs.declared.term.Term.TheVariants as t
use Rattle.syntax_tree.specs.Tree.{is_name, is_term, is_part, are_parts, begins_sum, adds, begins_product, multiplies}
use Rattle.syntax_tree.specs.Outcome.{Outcome, IsSymbol, IsOver, IsUndefined}
use Rattle.syntax_tree.specs.Value.{Arguments, AreSymbols, HasOver, HasUndefined, with_argument, applied_to, nested, named, joined, some_outcome, from_left, plain, negated, variable, value_of, part_value}
use Rattle.syntax_tree.proofs.TreeRules.{number_rules, text_rules, function_rules, tuple_rules, sum_rules, product_rules, one_part}
use Rattle.syntax_tree.proofs.PlainValues.{HoldsOfPlain, joined_has, negated_has}
use Rattle.syntax_tree.proofs.Turns.{at_part}
use Rattle.asp_parser.specs.Replacement.{Constants, value_at, applied, term_of, terms_of, replaced}
use Rattle.asp_parser.specs.Constants.{symbol_of, symbol_in, with_constant, IsBad}
use Rattle.asp_parser.specs.ConstantTable.{AreTrees}
use Rattle.asp_parser.proofs.ValueForms.{text_value, number_value, variable_value, anonymous_value, function_value, tuple_value, sum_value, product_value, minus_value, interval_value}
use Rattle.asp_parser.proofs.Terms.{Passes, every_term, truths, both, left, right, replaced_stays}

-- TREES

-- what a symbol is as a term keeps the rules on terms
abbrev IsTree : Outcome → Type 0
IsTree (IsSymbol symbol) = IsTrue (is_term (term_of symbol))
IsTree IsOver = Unit {0}
IsTree IsUndefined = Unit {0}

abbrev AreArguments : Arguments → Type 0
AreArguments (AreSymbols symbols) = IsTrue (truths (map is_term (map term_of symbols)))
AreArguments HasOver = Unit {0}
AreArguments HasUndefined = Unit {0}

one_more : (symbols : List Symbol) (symbol : Symbol) → IsTrue (truths (map is_term (map term_of symbols))) → IsTrue (is_term (term_of symbol))
    → IsTrue (truths (map is_term (map term_of (symbols ++ symbol ∷ []))))
one_more [] symbol h k = both (is_term (term_of symbol)) true k refl
one_more (s ∷ ss) symbol h k = both (is_term (term_of s)) _ (left (is_term (term_of s)) _ h) (one_more ss symbol (right (is_term (term_of s)) _ h) k)

argument_more : (so_far : Arguments) (next : Outcome) → AreArguments so_far → IsTree next → AreArguments (with_argument so_far next)
argument_more HasUndefined next h k = tt
argument_more (AreSymbols symbols) IsUndefined h k = tt
argument_more HasOver IsUndefined h k = tt
argument_more (AreSymbols symbols) IsOver h k = tt
argument_more HasOver IsOver h k = tt
argument_more (AreSymbols symbols) (IsSymbol symbol) h k = one_more symbols symbol h k
argument_more HasOver (IsSymbol symbol) h k = tt

arguments_all : (so_far : Arguments) (outcomes : List Outcome) → AreArguments so_far → AllByRecursion IsTree outcomes → AreArguments (fold with_argument so_far outcomes)
arguments_all so_far [] h known = h
arguments_all so_far (o ∷ os) h known = arguments_all (with_argument so_far o) os (argument_more so_far o h known.0) known.1

terms_listed : (symbols : List Symbol) → terms_of (arguments symbols) ≡ map term_of symbols
terms_listed [] = refl
terms_listed (s ∷ ss) = ap (λ rest. term_of s ∷ rest) (terms_listed ss)

applied_tree : (name : List ℕ) (terms : List Term) → (name ≡ []) ⊎ IsTrue (is_name name) → IsTrue (truths (map is_term terms)) → IsTrue (is_term (applied name terms))
applied_tree [] terms named h = tuple_rules terms ∙ h
applied_tree (byte ∷ name) terms (inl none) h = absurd cc
applied_tree (byte ∷ name) terms (inr named) h = function_rules (byte ∷ name) terms ∙ both (is_name (byte ∷ name)) _ named h

shallow_tree : (deep : Bool) (symbol : Symbol) → IsTrue (is_term (term_of symbol)) → IsTree (if deep then IsSymbol symbol else IsOver)
shallow_tree true symbol h = h
shallow_tree false symbol h = tt

applied_value : (name : List ℕ) (args : Arguments) → (name ≡ []) ⊎ IsTrue (is_name name) → AreArguments args → IsTree (applied_to name args)
applied_value name (AreSymbols symbols) named h =
    shallow_tree (nat_le (depth (Function name (arguments symbols))) 256) (Function name (arguments symbols))
    (ap (λ terms. is_term (applied name terms)) (terms_listed symbols) ∙ applied_tree name (map term_of symbols) named h)
applied_value name HasOver named h = tt
applied_value name HasUndefined named h = tt

plain_trees : HoldsOfPlain IsTree
plain_trees = record { number = number_rules; over = tt; undefined = tt }

joined_tree : (parts : List (Op × Outcome)) (total : Outcome) → IsTree total → IsTree (some_outcome (fold joined (Some total) parts))
joined_tree [] total h = h
joined_tree (p ∷ ps) total h = joined_tree ps (some_outcome (joined (Some total) p)) (joined_has IsTree plain_trees total p)

abbrev Worth : Term → Type 0
Worth term = IsTrue (is_term term) → IsTree (value_of [] term)

all_worth : (args : List Term) → AllByRecursion Worth args → IsTrue (truths (map is_term args)) → AllByRecursion IsTree (map (value_of []) args)
all_worth [] known h = tt
all_worth (x ∷ xs) known h = (known.0 (left (is_term x) _ h), all_worth xs known.1 (right (is_term x) _ h))

parts_worth : (first further : Op → Bool) (parts : List Part) → AllByRecursion (λ part. Worth part.term) parts → IsTrue (are_parts first further (map is_part parts))
    → IsTree (from_left (map (part_value []) parts))
parts_worth first further [] known h = absurd cc
parts_worth first further (x ∷ xs) known h =
    let old : IsTrue (first x.op && is_term x.term) = subst (λ p. IsTrue (first p.0 && p.1)) (one_part x) (left (first (is_part x).0 && (is_part x).1) _ h) in
    joined_tree (map (part_value []) xs) (part_value [] x).1 (subst (λ p. IsTree p.1) (sym (at_part [] x)) (known.0 (right (first x.op) _ old)))

function_worth : (name : List ℕ) (args : List Term) → AllByRecursion Worth args → IsTrue (is_name name && truths (map is_term args)) → IsTree (named name (map (value_of []) args))
function_worth name [] known h = function_rules name [] ∙ h
function_worth name (x ∷ xs) known h =
    applied_value name (fold with_argument (AreSymbols []) (map (value_of []) (x ∷ xs))) (inr (left (is_name name) _ h))
    (arguments_all (AreSymbols []) (map (value_of []) (x ∷ xs)) refl (all_worth (x ∷ xs) known (right (is_name name) _ h)))

worth : Passes Worth
worth = record {
  number = λ n h. subst IsTree (sym (number_value [] n)) (number_rules n);
  text = λ text h. subst IsTree (sym (text_value [] text)) h;
  variable = λ n h. subst IsTree (sym (variable_value [] n)) (unbound n);
  anonymous = λ h. subst IsTree (sym (anonymous_value [])) tt;
  function = λ name args known h. subst IsTree (sym (function_value [] name args)) (function_worth name args known (sym (function_rules name args) ∙ h));
  tuple = λ args known h. subst IsTree (sym (tuple_value [] args))
      (applied_value [] (fold with_argument (AreSymbols []) (map (value_of []) args)) (inl refl) (arguments_all (AreSymbols []) (map (value_of []) args) refl (all_worth args known (sym (tuple_rules args) ∙ h))));
  sum = λ parts known h. subst IsTree (sym (sum_value [] parts)) (parts_worth begins_sum adds parts known (sym (sum_rules parts) ∙ h));
  product = λ parts known h. subst IsTree (sym (product_value [] parts)) (parts_worth begins_product multiplies parts known (sym (product_rules parts) ∙ h));
  minus = λ inner known h. subst IsTree (sym (minus_value [] inner)) (negated_has IsTree plain_trees (value_of [] inner));
  interval = λ l r known_l known_r h. subst IsTree (sym (interval_value [] l r)) tt;
}
  where
    none : (b : Bool) → IsTree (if b then IsUndefined else IsUndefined)
    none true = tt
    none false = tt

    unbound : (n : ℕ) → IsTree (variable [] n)
    unbound n = none (n == 0)

-- a term's value is a tree as a term
pub value_tree : (term : Term) → IsTrue (is_term term) → IsTree (value_of [] term)
value_tree = every_term Worth worth

-- CONSTANTS

trees_more : (constants : Constants) (name : List ℕ) (symbol : Symbol) → AreTrees constants → IsTrue (is_term (term_of symbol)) → AreTrees (constants ++ (name, symbol) ∷ [])
trees_more [] name symbol trees h = (h, tt)
trees_more (c ∷ cs) name symbol trees h = (trees.0, trees_more cs name symbol trees.1 h)

symbol_tree : (outcome : Outcome) (symbol : Symbol) → IsTree outcome → symbol_in outcome ≡ Some symbol → IsTrue (is_term (term_of symbol))
symbol_tree (IsSymbol s) symbol h is = let same : s ≡ symbol = cc in subst (λ x. IsTrue (is_term (term_of x))) same h
symbol_tree IsOver symbol h is = absurd cc
symbol_tree IsUndefined symbol h is = absurd cc

-- one constant more
pub with_trees : (constants new : Constants) (name : List ℕ) (before : Option Symbol) (term : Term) → AreTrees constants → IsTrue (is_term term)
    → with_constant constants name before (symbol_of constants term) ≡ Some new → AreTrees new
with_trees constants new name before term trees tree h =
    go before (symbol_of constants term) (λ symbol is. symbol_tree _ symbol (value_tree _ (replaced_stays constants trees term tree)) is) h
  where
    go : (before value : Option Symbol) → ((symbol : Symbol) → value ≡ Some symbol → IsTrue (is_term (term_of symbol))) → with_constant constants name before value ≡ Some new → AreTrees new
    go (Some old) value known k = absurd cc
    go None None known k = absurd cc
    go None (Some symbol) known k =
        let same : constants ++ (name, symbol) ∷ [] ≡ new = cc in subst AreTrees same (trees_more constants name symbol trees (known symbol refl))

-- a constant that may not be
pub with_bad : (constants : Constants) (name : List ℕ) (before value : Option Symbol) → with_constant constants name before value ≡ None → IsSome before ⊎ (value ≡ None)
with_bad constants name (Some old) value h = inl refl
with_bad constants name None None h = inr refl
with_bad constants name None (Some symbol) h = absurd cc
