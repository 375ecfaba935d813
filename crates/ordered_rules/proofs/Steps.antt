-- One statement behind the other.
use Rattle.std.proofs.Common.{◌≡◌, ◌<◌, ℕ, zero, suc, ◌+◌, List, [], ◌∷◌, ◌++◌, length, drop, slice_index_or, refl, sym, ◌∙◌, ap, subst, append_assoc, arith}
use Rattle.std.specs.List.{AllZip}
use Rattle.syntax_tree.specs.declared.statement.Statement.{Statement}
use Rattle.syntax_tree.specs.declared.statement.Statement.TheVariants as statement
use Rattle.program_meaning.specs.Read.{ReadRule, rules_read}
use Rattle.ordered_rules.specs.inner.Adding.{rule_there}

pub zip_length : {X Y : Type 0} (P : X → Y → Type 0) (xs : List X) (ys : List Y) → AllZip P xs ys → length ys ≡ length xs
zip_length P [] [] all = refl
zip_length P [] (y ∷ ys) all = absurd all
zip_length P (x ∷ xs) [] all = absurd all
zip_length P (x ∷ xs) (y ∷ ys) all = ap suc (zip_length P xs ys all.1)

pub zip_at : {X Y : Type 0} (P : X → Y → Type 0) (xs : List X) (ys : List Y) (i : ℕ) (x : X) (y : Y) → AllZip P xs ys → i < length xs
    → x ≡ slice_index_or xs i x → y ≡ slice_index_or ys i y → P x y
zip_at P [] ys i x y all less e h = absurd (omega (arith, less))
zip_at P (a ∷ xs) [] i x y all less e h = absurd all
zip_at P (a ∷ xs) (b ∷ ys) zero x y all less e h = subst (λ v. P v y) (sym e) (subst (P a) (sym h) all.0)
zip_at P (a ∷ xs) (b ∷ ys) (suc i) x y all less e h = zip_at P xs ys i x y all.1 (omega (arith, less)) e h

-- the rules of statements, the first of them apart
first_apart : (next : Statement) (statements : List Statement) (order : List ℕ) (orders : List (List ℕ))
    → rules_read (next ∷ statements) (order ∷ orders) ≡ rule_there next order ++ rules_read statements orders
first_apart (statement.Rule rule) statements order orders = refl
first_apart (statement.Constant name term place) statements order orders = refl
first_apart statement.ShowNothing statements order orders = refl
first_apart (statement.Show name arity) statements order orders = refl

pub next_apart : (statements : List Statement) (orders : List (List ℕ)) (i : ℕ) (next : Statement) (order : List ℕ) → length orders ≡ length statements → i < length statements
    → next ≡ slice_index_or statements i next → order ≡ slice_index_or orders i order
    → rules_read (drop i statements) (drop i orders) ≡ rule_there next order ++ rules_read (drop (suc i) statements) (drop (suc i) orders)
next_apart [] orders i next order same less e h = absurd (omega (arith, less))
next_apart (s ∷ statements) [] i next order same less e h = absurd cc
next_apart (s ∷ statements) (o ∷ orders) zero next order same less e h =
    first_apart s statements o orders ∙ (λ j. rule_there (sym e j) (sym h j) ++ rules_read statements orders)
next_apart (s ∷ statements) (o ∷ orders) (suc i) next order same less e h = next_apart statements orders i next order (suc_same same) (omega (arith, less)) e h
  where
    suc_same : suc (length orders) ≡ suc (length statements) → length orders ≡ length statements
    suc_same k = omega (arith, k)

-- what is read so far and what is left is all, with one statement more
pub kept_step : (statements : List Statement) (orders : List (List ℕ)) (i : ℕ) (next : Statement) (order given : List ℕ) (before after : List ReadRule) → length orders ≡ length statements
    → i < length statements → next ≡ slice_index_or statements i next → order ≡ slice_index_or orders i order → given ≡ order → after ≡ before ++ rule_there next given
    → before ++ rules_read (drop i statements) (drop i orders) ≡ rules_read statements orders
    → after ++ rules_read (drop (i + 1) statements) (drop (i + 1) orders) ≡ rules_read statements orders
kept_step statements orders i next order given before after same less e h same_order is whole =
    ap (λ l. l ++ rules_read (drop (i + 1) statements) (drop (i + 1) orders)) is
    ∙ append_assoc before (rule_there next given) (rules_read (drop (i + 1) statements) (drop (i + 1) orders))
    ∙ ap (λ o. before ++ (rule_there next o ++ rules_read (drop (i + 1) statements) (drop (i + 1) orders))) same_order
    ∙ ap (λ k. before ++ (rule_there next order ++ rules_read (drop k statements) (drop k orders))) one_more
    ∙ ap (λ l. before ++ l) (sym (next_apart statements orders i next order same less e h))
    ∙ whole
  where
    one_more : i + 1 ≡ suc i
    one_more = omega arith
