-- The variables seen so far, each where it is first.
use Rattle.std.proofs.Common.{◌≡◌, ℕ, zero, suc, ◌+◌, ◌<◌, ◌≤◌, ◌==◌, Bool, true, false, ◌||◌, if◌then◌else◌, List, [], ◌∷◌, ◌++◌, drop, take, length, Option, None, Some, IfSome, slice_index_or, refl, sym, ap, ◌∙◌, subst, add-one, append_assoc, arith}
use Rattle.std.specs.List.{list_any, filter_map, cons_option, AllByRecursion}
use Rattle.rewriting.specs.declared.sight.Sight.{Sight}
use Rattle.rewriting.specs.Order.{variable_in, firsts, order_in}
use Rattle.rewriting.specs.inner.Flags.{IsBelow, noted}

or_swapped : (a b c : Bool) → (a || (b || c)) ≡ (b || (a || c))
or_swapped true true c = refl
or_swapped true false c = refl
or_swapped false true c = refl
or_swapped false false c = refl

any_pushed : {X : Type 0} (test : X → Bool) (xs : List X) (x : X) → list_any test (xs ++ x ∷ []) ≡ (test x || list_any test xs)
any_pushed test [] x = refl
any_pushed test (y ∷ ys) x = ap (λ v. test y || v) (any_pushed test ys x) ∙ or_swapped (test y) (test x) (list_any test ys)

firsts_same : (one other xs : List ℕ) → ((n : ℕ) → list_any (λ m. m == n) one ≡ list_any (λ m. m == n) other) → firsts one xs ≡ firsts other xs
firsts_same one other [] h = refl
firsts_same one other (n ∷ rest) h =
    λ i. (if h n i then firsts_same one other rest h i else n ∷ firsts_same (n ∷ one) (n ∷ other) rest (λ m. ap (λ v. (n == m) || v) (h m)) i)

-- one more that is seen
firsts_noted : (seen : Option ℕ) (order rest : List ℕ) → order ++ firsts order (cons_option seen rest) ≡ noted seen order ++ firsts (noted seen order) rest
firsts_noted None order rest = refl
firsts_noted (Some n) order rest = by_test (list_any (λ m. m == n) order)
  where
    by_test : (b : Bool) → order ++ (if b then firsts order rest else n ∷ firsts (n ∷ order) rest)
        ≡ (if b then order else order ++ n ∷ []) ++ firsts (if b then order else order ++ n ∷ []) rest
    by_test true = refl
    by_test false =
        ap (λ v. order ++ n ∷ v) (firsts_same (n ∷ order) (order ++ n ∷ []) rest (λ k. sym (any_pushed (λ m. m == k) order n)))
        ∙ sym (append_assoc order (n ∷ []) (firsts (order ++ n ∷ []) rest))

dropped : {X : Type 0} (xs : List X) (i : ℕ) (x : X) → x ≡ slice_index_or xs i x → i < length xs → drop i xs ≡ x ∷ drop (suc i) xs
dropped [] i x is b = absurd (omega arith)
dropped (y ∷ ys) zero x is b = ap (λ v. v ∷ ys) (sym is)
dropped (y ∷ ys) (suc i) x is b = dropped ys i x is (omega arith)

pub order_more : (sights : List Sight) (i : ℕ) (sight : Sight) (order pushed : List ℕ) → sight ≡ slice_index_or sights i sight → i < length sights
    → order_in sights ≡ order ++ firsts order (filter_map variable_in (drop i sights)) → pushed ≡ noted (variable_in sight) order
    → order_in sights ≡ pushed ++ firsts pushed (filter_map variable_in (drop (i + 1) sights))
order_more sights i sight order pushed is inside h push =
    rw add-one (h ∙ ap (λ v. order ++ firsts order (filter_map variable_in v)) (dropped sights i sight is inside)
    ∙ firsts_noted (variable_in sight) order (filter_map variable_in (drop (suc i) sights))
    ∙ (λ k. sym push k ++ firsts (sym push k) (filter_map variable_in (drop (suc i) sights))))

drop_all : {X : Type 0} (xs : List X) (i : ℕ) → length xs ≤ i → drop i xs ≡ []
drop_all [] zero b = refl
drop_all [] (suc i) b = refl
drop_all (x ∷ xs) zero b = absurd (omega arith)
drop_all (x ∷ xs) (suc i) b = drop_all xs i (omega arith)

append_none : {X : Type 0} (xs : List X) → xs ++ [] ≡ xs
append_none [] = refl
append_none (x ∷ xs) = ap (λ rest. x ∷ rest) (append_none xs)

pub order_all : (sights : List Sight) (i : ℕ) (order : List ℕ) → length sights ≤ i
    → order_in sights ≡ order ++ firsts order (filter_map variable_in (drop i sights)) → order ≡ order_in sights
order_all sights i order end h = sym (h ∙ ap (λ v. order ++ firsts order (filter_map variable_in v)) (drop_all sights i end) ∙ append_none order)

-- SIZES

below_grows : (one other : ℕ) (seen : Option ℕ) → one ≤ other → IfSome seen (λ n. n < one) → IfSome seen (λ n. n < other)
below_grows one other None le h = tt
below_grows one other (Some n) le h = let less : n < one = h in omega arith

all_grow : (one other : ℕ) (sights : List Sight) → one ≤ other → AllByRecursion (IsBelow one) sights → AllByRecursion (IsBelow other) sights
all_grow one other [] le h = tt
all_grow one other (sight ∷ rest) le h = (below_grows one other (variable_in sight) le h.0, all_grow one other rest le h.1)

all_taken : {X : Type 0} (P : X → Type 0) (xs : List X) (i : ℕ) (x : X) → x ≡ slice_index_or xs i x → i < length xs → AllByRecursion P (take i xs) → P x → AllByRecursion P (take (suc i) xs)
all_taken P [] i x is b h p = absurd (omega arith)
all_taken P (y ∷ ys) zero x is b h p = (subst P is p, tt)
all_taken P (y ∷ ys) (suc i) x is b h p = (h.0, all_taken P ys i x is (omega arith) h.1 p)

pub sizes_more : (sights : List Sight) (i : ℕ) (sight : Sight) (one other : ℕ) → sight ≡ slice_index_or sights i sight → i < length sights → one ≤ other
    → AllByRecursion (IsBelow one) (take i sights) → IsBelow other sight → AllByRecursion (IsBelow other) (take (i + 1) sights)
sizes_more sights i sight one other is inside le h b =
    rw add-one (all_taken (IsBelow other) sights i sight is inside (all_grow one other (take i sights) le h) b)

pub below_at : (sights : List Sight) (i : ℕ) (sight : Sight) (size : ℕ) → sight ≡ slice_index_or sights i sight → i < length sights → AllByRecursion (IsBelow size) sights → IsBelow size sight
below_at [] i x size is b h = absurd (omega arith)
below_at (y ∷ ys) zero x size is b h = subst (IsBelow size) (sym is) h.0
below_at (y ∷ ys) (suc i) x size is b h = below_at ys i x size is (omega arith) h.1

pub item_is : {X : Type 0} (xs : List X) (i : ℕ) (d : X) → i < length xs → slice_index_or xs i d ≡ slice_index_or xs i (slice_index_or xs i d)
item_is xs i d inside = any_default xs i d (slice_index_or xs i d) inside
  where
    any_default : {X : Type 0} (xs : List X) (i : ℕ) (d e : X) → i < length xs → slice_index_or xs i d ≡ slice_index_or xs i e
    any_default [] i d e b = absurd (omega arith)
    any_default (y ∷ ys) zero d e b = refl
    any_default (y ∷ ys) (suc i) d e b = any_default ys i d e (omega arith)
