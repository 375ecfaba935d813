-- How literals bind variables, as definite rules over the numbers of variables.
use Rattle.std.specs.Prelude.{◌≡◌, ◌==◌, ℕ, Bool, true, false, List, [], ◌∷◌, ◌++◌, map, Option, None, Some}
use Rattle.std.specs.List.{list_any}
use Rattle.symbols.specs.declared.rel.Rel.{Rel}
use Rattle.symbols.specs.declared.rel.Rel.TheVariants as rel
use Rattle.syntax_tree.specs.declared.term.Term.{Term}
use Rattle.syntax_tree.specs.declared.literal.Literal.{Literal}
use Rattle.ground_model.specs.Members.{IsMember}
use Rattle.definite_rules.specs.Rule.{DefiniteRule}
use Rattle.definite_rules.specs.Least.{flag_at}
use Rattle.program_meaning.specs.Read.{PlainLiteral, PlainAtom, PlainCompare, literal_read, plains}
use Rattle.program_meaning.specs.Variables.{plain_variable}
use Rattle.program_meaning.specs.Safety.{IsBound}
use Rattle.variable_safety.specs.inner.Occurring.{variables_in, outside_in}

-- a variable that is bound
abbrev pub fact : ℕ → DefiniteRule
fact n = record { head = n; body = [] }

abbrev pub rules_at : Option ℕ → List ℕ → List DefiniteRule
rules_at None body = []
rules_at (Some n) body = record { head = n; body = body } ∷ []

-- a variable that is one side of an equation is bound once those of the other side are
abbrev pub side_rules : Term → Term → List DefiniteRule
side_rules side other = rules_at (plain_variable side) (variables_in other)

abbrev pub equation_rules : Rel → Term → Term → List DefiniteRule
equation_rules rel.Equal left right = side_rules left right ++ side_rules right left
equation_rules rel.NotEqual left right = []
equation_rules rel.Less left right = []
equation_rules rel.LessEqual left right = []
equation_rules rel.Greater left right = []
equation_rules rel.GreaterEqual left right = []

abbrev pub binding_rules : PlainLiteral → List DefiniteRule
binding_rules (PlainAtom term true) = map fact (outside_in term)
binding_rules (PlainAtom term false) = []
binding_rules (PlainCompare left rel right) = equation_rules rel left right

-- literals as they are read, theory literals aside
abbrev pub plain_literals : List Literal → List PlainLiteral
plain_literals literals = plains (map literal_read literals)

-- the flags of the variables that literals bind, where these are given
pub record AreBound (given : List ℕ) (literals : List PlainLiteral) (flags : List Bool) : Type 0 where
  pub sound : (n : ℕ) → flag_at flags n ≡ true → IsBound (IsMember given) literals n
  pub whole : (n : ℕ) → IsBound (IsMember given) literals n → flag_at flags n ≡ true

-- the flags of the numbers that are listed
abbrev pub AreFlags : List ℕ → List Bool → Type 0
AreFlags listed flags = (n : ℕ) → flag_at flags n ≡ list_any (λ m. m == n) listed
