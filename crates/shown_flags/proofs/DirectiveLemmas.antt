-- Directives of statements are those of the rules.
use Rattle.std.proofs.Common.{◌≡◌, ℕ, suc, ◌||◌, List, [], ◌∷◌, length, refl, ap}
use Rattle.std.specs.List.{list_any}
use Rattle.syntax_tree.specs.declared.literal.TheoryName.{TheoryName}
use Rattle.syntax_tree.specs.declared.statement.Statement.{Statement}
use Rattle.syntax_tree.specs.declared.statement.Statement.TheVariants as s
use Rattle.program_meaning.specs.Read.{head_read, rules_read}
use Rattle.program_meaning.specs.Canonical.{head_directs, has_directive}
use Rattle.shown_flags.specs.inner.Directives.{directs}

pub any_directs : (name : TheoryName) (statements : List Statement) (orders : List (List ℕ)) → length orders ≡ length statements
    → list_any (directs name) statements ≡ has_directive (rules_read statements orders) name
any_directs name [] [] e = refl
any_directs name [] (order ∷ orders) e = refl
any_directs name (statement ∷ statements) [] e = absurd (nothing (length statements) e)
  where
    nothing : (n : ℕ) → 0 ≡ suc n → ⊥
    nothing n e = cc
any_directs name (s.Rule rule ∷ statements) (order ∷ orders) e = ap (λ t. head_directs name (head_read rule.head) || t) (any_directs name statements orders (one (length orders) (length statements) e))
  where
    one : (m n : ℕ) → suc m ≡ suc n → m ≡ n
    one m n e = cc
any_directs name (s.Constant constant term at ∷ statements) (order ∷ orders) e = any_directs name statements orders (one (length orders) (length statements) e)
  where
    one : (m n : ℕ) → suc m ≡ suc n → m ≡ n
    one m n e = cc
any_directs name (s.ShowNothing ∷ statements) (order ∷ orders) e = any_directs name statements orders (one (length orders) (length statements) e)
  where
    one : (m n : ℕ) → suc m ≡ suc n → m ≡ n
    one m n e = cc
any_directs name (s.Show predicate arity ∷ statements) (order ∷ orders) e = any_directs name statements orders (one (length orders) (length statements) e)
  where
    one : (m n : ℕ) → suc m ≡ suc n → m ≡ n
    one m n e = cc
