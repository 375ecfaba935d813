-- Tests for literals that are ready, where the variables are in an order, and a test tells which are bound.
use Rattle.std.specs.Prelude.{ℕ, Bool, true, false, not, ◌&&◌, ◌||◌, List}
use Rattle.std.specs.List.{list_all}
use Rattle.symbols.specs.declared.rel.Rel.{Rel}
use Rattle.symbols.specs.declared.rel.Rel.TheVariants as r
use Rattle.syntax_tree.specs.declared.term.Term.{Term}
use Rattle.program_meaning.specs.Read.{PlainLiteral, PlainAtom, PlainCompare}
use Rattle.program_meaning.specs.Variables.{occurs, occurs_outside, is_variable}

-- each variable of the term passes the test
abbrev pub all_in : List ℕ → (ℕ → Bool) → Term → Bool
all_in order test term = list_all (λ n. not (occurs n term) || test n) order

-- a comparison gives the variable, one side of `=`, a value: the variables of the other side are bound
abbrev pub gives : List ℕ → (ℕ → Bool) → Term → Rel → Term → ℕ → Bool
gives order bound left r.Equal right n = (is_variable n left && all_in order bound right) || (is_variable n right && all_in order bound left)
gives order bound left rel right n = false

-- the literal binds the variable
abbrev pub binds : List ℕ → (ℕ → Bool) → PlainLiteral → ℕ → Bool
binds order bound (PlainAtom term true) n = occurs_outside n term
binds order bound (PlainAtom term false) n = false
binds order bound (PlainCompare left rel right) n = gives order bound left rel right n

-- each variable of the literal is bound before or bound by it
abbrev pub is_ready : List ℕ → (ℕ → Bool) → PlainLiteral → Bool
is_ready order bound (PlainAtom term sign) = all_in order (λ n. bound n || binds order bound (PlainAtom term sign) n) term
is_ready order bound (PlainCompare left rel right) =
    all_in order (λ n. bound n || binds order bound (PlainCompare left rel right) n) left && all_in order (λ n. bound n || binds order bound (PlainCompare left rel right) n) right

abbrev pub is_positive : PlainLiteral → Bool
is_positive (PlainAtom term sign) = sign
is_positive (PlainCompare left rel right) = false
