-- What literals imply: one more literal, what stays true, and bounds as truths.
use Rattle.std.proofs.Common.{◌≡◌, ℕ, ◌||◌, Bool, true, false, cond, List, [], ◌∷◌, ◌++◌, None, Some, refl, sym, ◌∙◌, ap, arith, ℤ}
use Rattle.std.specs.Prelude.{int_le}
use Rattle.std.specs.List.{fold, list_any}
use Rattle.std.proofs.lemmas.Bool.Decides.{nat_tests}
use Rattle.std.proofs.lemmas.Int.{ints}
use Rattle.symbols.specs.declared.ends.Ends.{Ends}
use Rattle.literals.specs.declared.lit.Lit.{Lit}
use Rattle.literals.specs.declared.lit.Lit.TheVariants.{Atom, Body, Constraint, AtMost, AtLeast}
use Rattle.literals.specs.Lits.{implies_lit, complement_of}
use Rattle.literals.proofs.OrderLaws.{implies_trans}
use Rattle.trail.specs.Implied.{ends_imply, implied, truth_of, lower_after, upper_after, lower_of, upper_of}

or_assoc : (a b c : Bool) → ((a || b) || c) ≡ (a || (b || c))
or_assoc true b c = refl
or_assoc false b c = refl

or_false : (a : Bool) → (a || false) ≡ a
or_false true = refl
or_false false = refl

or_left : (a b : Bool) → a ≡ true → (a || b) ≡ true
or_left a b h = rw h refl

pub any-append : (p : Lit → Bool) (xs ys : List Lit) → list_any p (xs ++ ys) ≡ (list_any p xs || list_any p ys)
any-append p [] ys = refl
any-append p (x ∷ xs) ys = ap (λ b. p x || b) (any-append p xs ys) ∙ sym (or_assoc (p x) (list_any p xs) (list_any p ys))

-- a literal is implied after one more literal exactly where it was or that one implies it
pub implied-push : (ends : Ends) (lits : List Lit) (m l : Lit) → implied ends (lits ++ m ∷ []) l ≡ (implied ends lits l || implies_lit m l)
implied-push ends lits m l =
    ap (λ b. ends_imply ends l || b) (any-append (λ x. implies_lit x l) lits (m ∷ []) ∙ ap (λ b. list_any (λ x. implies_lit x l) lits || b) (or_false (implies_lit m l)))
    ∙ sym (or_assoc (ends_imply ends l) (list_any (λ x. implies_lit x l) lits) (implies_lit m l))

-- what is implied stays so as literals are added
pub implied_stays : (ends : Ends) (lits more : List Lit) (l : Lit) → implied ends lits l ≡ true → implied ends (lits ++ more) l ≡ true
implied_stays ends lits more l h =
    ap (λ b. ends_imply ends l || b) (any-append (λ x. implies_lit x l) lits more)
    ∙ sym (or_assoc (ends_imply ends l) (list_any (λ x. implies_lit x l) lits) (list_any (λ x. implies_lit x l) more))
    ∙ or_left (implied ends lits l) (list_any (λ x. implies_lit x l) more) h

ends_trans : (ends : Ends) (a b : Lit) → implies_lit a b ≡ true → ends_imply ends a ≡ true → ends_imply ends b ≡ true
ends_trans ends (AtMost x k) (AtMost y j) = λ h e. grind (arith, nat_tests, ints)
ends_trans ends (AtLeast x k) (AtLeast y j) = λ h e. grind (arith, nat_tests, ints)
ends_trans ends _ _ = λ h e. cc

or_cases : (a b c d : Bool) → (a ≡ true → c ≡ true) → (b ≡ true → d ≡ true) → (a || b) ≡ true → (c || d) ≡ true
or_cases true b c d f g h = or_left c d (f refl)
or_cases false b true d f g h = refl
or_cases false b false d f g h = g h

any_trans : (lits : List Lit) (a b : Lit) → implies_lit a b ≡ true → list_any (λ m. implies_lit m a) lits ≡ true → list_any (λ m. implies_lit m b) lits ≡ true
any_trans [] a b h e = e
any_trans (m ∷ ms) a b h e = or_cases (implies_lit m a) (list_any (λ x. implies_lit x a) ms) (implies_lit m b) (list_any (λ x. implies_lit x b) ms) (λ f. implies_trans m a b f h) (any_trans ms a b h) e

-- what an implied literal implies is implied
pub implied_trans : (ends : Ends) (lits : List Lit) (a b : Lit) → implies_lit a b ≡ true → implied ends lits a ≡ true → implied ends lits b ≡ true
implied_trans ends lits a b h e = or_cases (ends_imply ends a) (list_any (λ x. implies_lit x a) lits) (ends_imply ends b) (list_any (λ x. implies_lit x b) lits) (ends_trans ends a b h) (any_trans lits a b h) e

pub fold-push : {A B : Type 0} (f : B → A → B) (b : B) (xs : List A) (x : A) → fold f b (xs ++ x ∷ []) ≡ f (fold f b xs) x
fold-push f b [] x = refl
fold-push f b (y ∷ ys) x = fold-push f (f b y) ys x

pub lower-push : (ends : Ends) (lits : List Lit) (m : Lit) (x : ℕ) → lower_of ends (lits ++ m ∷ []) x ≡ lower_after x (lower_of ends lits x) m
lower-push ends lits m x = fold-push (lower_after x) ends.min lits m

pub upper-push : (ends : Ends) (lits : List Lit) (m : Lit) (x : ℕ) → upper_of ends (lits ++ m ∷ []) x ≡ upper_after x (upper_of ends lits x) m
upper-push ends lits m x = fold-push (upper_after x) ends.max lits m

upper_step : (x : ℕ) (k b : ℤ) (m : Lit) → int_le (upper_after x b m) k ≡ (int_le b k || implies_lit m (AtMost x k))
upper_step x k b (Atom n s) = sym (or_false (int_le b k))
upper_step x k b (Body n s) = sym (or_false (int_le b k))
upper_step x k b (Constraint n s) = sym (or_false (int_le b k))
upper_step x k b (AtMost y j) = grind (arith, nat_tests, ints)
upper_step x k b (AtLeast y j) = sym (or_false (int_le b k))

lower_step : (x : ℕ) (k b : ℤ) (m : Lit) → int_le k (lower_after x b m) ≡ (int_le k b || implies_lit m (AtLeast x k))
lower_step x k b (Atom n s) = sym (or_false (int_le k b))
lower_step x k b (Body n s) = sym (or_false (int_le k b))
lower_step x k b (Constraint n s) = sym (or_false (int_le k b))
lower_step x k b (AtMost y j) = sym (or_false (int_le k b))
lower_step x k b (AtLeast y j) = grind (arith, nat_tests, ints)

upper_any : (x : ℕ) (k b : ℤ) (lits : List Lit) → int_le (fold (upper_after x) b lits) k ≡ (int_le b k || list_any (λ m. implies_lit m (AtMost x k)) lits)
upper_any x k b [] = sym (or_false (int_le b k))
upper_any x k b (m ∷ ms) =
    upper_any x k (upper_after x b m) ms
    ∙ ap (λ c. c || list_any (λ y. implies_lit y (AtMost x k)) ms) (upper_step x k b m)
    ∙ or_assoc (int_le b k) (implies_lit m (AtMost x k)) (list_any (λ y. implies_lit y (AtMost x k)) ms)

lower_any : (x : ℕ) (k b : ℤ) (lits : List Lit) → int_le k (fold (lower_after x) b lits) ≡ (int_le k b || list_any (λ m. implies_lit m (AtLeast x k)) lits)
lower_any x k b [] = sym (or_false (int_le k b))
lower_any x k b (m ∷ ms) =
    lower_any x k (lower_after x b m) ms
    ∙ ap (λ c. c || list_any (λ y. implies_lit y (AtLeast x k)) ms) (lower_step x k b m)
    ∙ or_assoc (int_le k b) (implies_lit m (AtLeast x k)) (list_any (λ y. implies_lit y (AtLeast x k)) ms)

-- an upper bound is implied exactly where it is at or above the folded one
pub implied-at_most : (ends : Ends) (lits : List Lit) (x : ℕ) (k : ℤ) → implied ends lits (AtMost x k) ≡ int_le (upper_of ends lits x) k
implied-at_most ends lits x k = sym (upper_any x k ends.max lits)

-- a lower bound is implied exactly where it is at or below the folded one
pub implied-at_least : (ends : Ends) (lits : List Lit) (x : ℕ) (k : ℤ) → implied ends lits (AtLeast x k) ≡ int_le k (lower_of ends lits x)
implied-at_least ends lits x k = sym (lower_any x k ends.min lits)

none_cases : (a b : Bool) → cond a (Some true) (cond b (Some false) None) ≡ None → (a ≡ false) × (b ≡ false)
none_cases true b h = absurd (clash h)
  where
    clash : Some true ≡ None → ⊥
    clash e = cc
none_cases false true h = absurd (clash h)
  where
    clash : Some false ≡ None → ⊥
    clash e = cc
none_cases false false h = (refl, refl)

-- an open literal is not implied, and nor is its opposite
pub open_is : (ends : Ends) (lits : List Lit) (l : Lit) → truth_of ends lits l ≡ None → (implied ends lits l ≡ false) × (implied ends lits (complement_of l) ≡ false)
open_is ends lits l h = none_cases (implied ends lits l) (implied ends lits (complement_of l)) h

pub truth-of : (ends : Ends) (lits : List Lit) (l : Lit) (a b : Bool) → implied ends lits l ≡ a → implied ends lits (complement_of l) ≡ b → truth_of ends lits l ≡ cond a (Some true) (cond b (Some false) None)
truth-of ends lits l a b h e = ap (λ c. cond c (Some true) (cond (implied ends lits (complement_of l)) (Some false) None)) h ∙ ap (λ c. cond a (Some true) (cond c (Some false) None)) e
