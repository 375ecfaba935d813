-- Statements that show predicates.
use Rattle.std.proofs.Common.{◌≡◌, ℕ, suc, ◌||◌, List, [], ◌∷◌, length, refl, sym, ap}
use Rattle.std.specs.List.{flat_map, list_any}
use Rattle.symbols.specs.Symbol.{Symbol, arity}
use Rattle.symbols.specs.Table.{symbols_at}
use Rattle.syntax_tree.specs.declared.statement.Statement.{Statement}
use Rattle.syntax_tree.specs.declared.statement.Statement.TheVariants as s
use Rattle.program_meaning.specs.Read.{ShowsPredicate, show_read}
use Rattle.program_meaning.specs.Canonical.{shows_it, shows_atom}
use Rattle.shown_flags.specs.inner.Shows.{names, is_shown}

pub arity_of : (symbols : List Symbol) (args : List ℕ) → arity (symbols_at symbols args) ≡ length args
arity_of symbols [] = refl
arity_of symbols (id ∷ args) = ap suc (arity_of symbols args)

named_same : (a : Symbol) (statements : List Statement) → list_any (shows_it a) (flat_map show_read statements) ≡ list_any (names a) statements
named_same a [] = refl
named_same a (s.Rule rule ∷ statements) = named_same a statements
named_same a (s.Constant name term at ∷ statements) = named_same a statements
named_same a (s.ShowNothing ∷ statements) = named_same a statements
named_same a (s.Show name count ∷ statements) = ap (λ t. shows_it a (ShowsPredicate name count) || t) (named_same a statements)

pub shown_same : (a : Symbol) (statements : List Statement) → is_shown statements a ≡ shows_atom (flat_map show_read statements) a
shown_same a [] = refl
shown_same a (s.Rule rule ∷ statements) = shown_same a statements
shown_same a (s.Constant name term at ∷ statements) = shown_same a statements
shown_same a (s.ShowNothing ∷ statements) = sym (named_same a statements)
shown_same a (s.Show name count ∷ statements) = ap (λ t. shows_it a (ShowsPredicate name count) || t) (sym (named_same a statements))
