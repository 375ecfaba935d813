-- One first constant at most may not be, and there is none where the statements have constants.
use Rattle.std.proofs.Common.{◌≡◌, ◌⊎◌, ℕ, zero, suc, List, [], ◌∷◌, take, fold, slice_get, Option, Some, None, IsSome, true, false, refl, sym, ◌∙◌, ap, inl, inr}
use Rattle.symbols.specs.Symbol.{Symbol}
use Rattle.syntax_tree.specs.declared.statement.Statement.{Statement}
use Rattle.syntax_tree.specs.declared.statement.Statement.TheVariants as statement
use Rattle.asp_parser.specs.Replacement.{Constants, value_at}
use Rattle.asp_parser.specs.Constants.{symbol_of, with_constant, with_statement, and_statement, constants_of, DefinesBad, IsFirstBad}

-- two values that are there are one where the options are
pub one_some : {X : Type 0} (o : Option X) (x y : X) → o ≡ Some x → o ≡ Some y → x ≡ y
one_some o x y first second = let same : Some x ≡ Some y = sym first ∙ second in cc

-- where a constant may not be, there are no constants with it
none_with : (constants : Constants) (name : List ℕ) (before symbol : Option Symbol) → IsSome before ⊎ (symbol ≡ None)
    → with_constant constants name before symbol ≡ None
none_with constants name (Some value) symbol bad = refl
none_with constants name None None bad = refl
none_with constants name None (Some symbol) (inl there) = let wrong : false ≡ true = there in cc
none_with constants name None (Some symbol) (inr none) = cc

none_behind : (constants : Constants) (next : Statement) (place : ℕ) → DefinesBad constants next place → and_statement (Some constants) next ≡ None
none_behind constants next place bad =
    ap (with_statement constants) bad.is ∙ none_with constants bad.name (value_at constants bad.name) (symbol_of constants bad.term) bad.bad

-- and with the statements behind it there are none either
stays_none : (statements : List Statement) → fold and_statement None statements ≡ None
stays_none [] = refl
stays_none (next ∷ rest) = stays_none rest

none_from : (so_far : Option Constants) (constants : Constants) (first next : Statement) (place : ℕ) (rest : List Statement) → so_far ≡ Some constants
    → first ≡ next → DefinesBad constants next place → fold and_statement (and_statement so_far first) rest ≡ None
none_from so_far constants first next place rest are here bad =
    (λ i. fold and_statement (and_statement (are i) (here i)) rest)
    ∙ ap (λ (o : Option Constants). fold and_statement o rest) (none_behind constants next place bad)
    ∙ stays_none rest

none_in : (so_far : Option Constants) (statements : List Statement) (k : ℕ) (constants : Constants) (next : Statement) (place : ℕ)
    → fold and_statement so_far (take k statements) ≡ Some constants → slice_get statements k ≡ Some next → DefinesBad constants next place
    → fold and_statement so_far statements ≡ None
none_in so_far [] k constants next place are here bad = cc
none_in so_far (first ∷ rest) zero constants next place are here bad =
    let same : first ≡ next = cc in none_from so_far constants first next place rest are same bad
none_in so_far (first ∷ rest) (suc k) constants next place are here bad = none_in (and_statement so_far first) rest k constants next place are here bad

-- statements with a constant that may not be have no constants
pub none_where_bad : (statements : List Statement) (files : List ℕ) (file place : ℕ) → IsFirstBad statements files file place
    → constants_of statements ≡ None
none_where_bad statements files file place bad =
    none_in (Some []) statements bad.before bad.constants bad.next place bad.defined bad.here bad.bad

-- no statement stands behind a bad constant as the next of constants
none_beyond : (so_far : Option Constants) (constants beyond : Constants) (first next : Statement) (place : ℕ) (rest : List Statement)
    → so_far ≡ Some constants → Some first ≡ Some next → DefinesBad constants next place
    → fold and_statement (and_statement so_far first) rest ≡ Some beyond → ⊥
none_beyond so_far constants beyond first next place rest are here bad defined =
    let same : first ≡ next = cc in
    let none : fold and_statement (and_statement so_far first) rest ≡ None = none_from so_far constants first next place rest are same bad in
    let wrong : None ≡ Some beyond = sym none ∙ defined in
    cc

one_before : (so_far : Option Constants) (statements : List Statement) (k j : ℕ) (constants others : Constants) (next other : Statement) (place beyond : ℕ)
    → fold and_statement so_far (take k statements) ≡ Some constants → slice_get statements k ≡ Some next → DefinesBad constants next place
    → fold and_statement so_far (take j statements) ≡ Some others → slice_get statements j ≡ Some other → DefinesBad others other beyond → k ≡ j
one_before so_far [] k j constants others next other place beyond are here bad are_too here_too bad_too = cc
one_before so_far (first ∷ rest) zero zero constants others next other place beyond are here bad are_too here_too bad_too = refl
one_before so_far (first ∷ rest) zero (suc j) constants others next other place beyond are here bad are_too here_too bad_too =
    absurd (none_beyond so_far constants others first next place (take j rest) are here bad are_too)
one_before so_far (first ∷ rest) (suc k) zero constants others next other place beyond are here bad are_too here_too bad_too =
    absurd (none_beyond so_far others constants first other beyond (take k rest) are_too here_too bad_too are)
one_before so_far (first ∷ rest) (suc k) (suc j) constants others next other place beyond are here bad are_too here_too bad_too =
    ap suc (one_before (and_statement so_far first) rest k j constants others next other place beyond are here bad are_too here_too bad_too)

-- the place of the constant that a statement defines
abbrev placed : Statement → ℕ
placed (statement.Rule rule) = 0
placed (statement.Constant name term place) = place
placed statement.ShowNothing = 0
placed (statement.Show name arity) = 0

-- two first constants that may not be are one
pub one_bad : (statements : List Statement) (files : List ℕ) (file other place beyond : ℕ) → IsFirstBad statements files file place
    → IsFirstBad statements files other beyond → (file ≡ other) × (place ≡ beyond)
one_bad statements files file other place beyond a b =
    let same : a.before ≡ b.before =
    one_before (Some []) statements a.before b.before a.constants b.constants a.next b.next place beyond a.defined a.here a.bad b.defined b.here b.bad in
    let next : a.next ≡ b.next = one_some (slice_get statements b.before) a.next b.next (ap (slice_get statements) (sym same) ∙ a.here) b.here in (
      one_some (slice_get files b.before) file other (ap (slice_get files) (sym same) ∙ a.text) b.text,
      ap placed (sym a.bad.is ∙ next ∙ b.bad.is),
    )
