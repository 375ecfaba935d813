-- Numbers of listed symbols, and values by number.
use Rattle.std.proofs.Common.{◌≡◌, ◌≤◌, ◌<◌, ◌+◌, ◌-◌, ◌||◌, ◌==◌, nat_lt, inl, inr, ℕ, zero, suc, Bool, true, false, if◌then◌else◌, ℤ, pos, List, [], ◌∷◌, length, map, slice_index_or, Some, refl, sym, ◌∙◌, ap, arith}
use Rattle.std.specs.List.{AllByRecursion}
use Rattle.std.specs.Ordering.{is_eq, ordering_reverse}
use Rattle.std.specs.declared.cmp.Ordering.{Ordering}
use Rattle.std.specs.declared.cmp.Ordering.TheVariants.{Less, Equal, Greater}
use Rattle.std.proofs.lemmas.Bool.Decides.{nat_tests}
use Rattle.symbols.specs.Symbol.{Symbol}
use Rattle.symbols.specs.Order.{symbol_cmp}
use Rattle.symbols.proofs.OrderLemmas.{symbol_cmp-itself}
use Rattle.ground_model.specs.Answers.{ascend_from, value_at, has_atom, IsNumbered}
use Rattle.ground_model.specs.Members.{IsMember}
use Rattle.ground_model.proofs.Bools.{and_intro}
use Rattle.ground_model.proofs.MemberLemmas.{property_member, property_map}
use Rattle.program_meaning.specs.Ascending.{Ascends}
use Rattle.program_meaning.specs.Canonical.{number_from, variable_number, or_zero}
use Rattle.program_meaning.proofs.Orders.{symbols_turn}
use Rattle.program_meaning.proofs.Numbers.{same_symbol, some_same, not_some, number_least, number_found}

-- the symbol at a place of an ascending list has that place as its number
pub number_at : (n : ℕ) (xs : List Symbol) → Ascends symbol_cmp xs → (place : ℕ) → place < length xs
    → (a : Symbol) × IsMember xs a × (number_from n xs a ≡ Some (n + place))
number_at n [] asc place l = absurd (omega (arith, l))
number_at n (x ∷ xs) asc zero l =
    (x, inl refl, ap (λ t. if t then Some n else number_from (suc n) xs x) (ap is_eq (symbol_cmp-itself x)) ∙ ap Some (plus n))
  where
    plus : (n : ℕ) → n ≡ n + zero
    plus n = omega arith
number_at n (x ∷ xs) asc (suc place) l =
    let r = number_at (suc n) xs asc.1 place (omega (arith, l)) in
    let less = property_member (λ y. symbol_cmp x y ≡ Less) xs r.0 asc.0 r.1 in
    (r.0, inr r.1, ap (λ t. if t then Some n else number_from (suc n) xs r.0) (apart (symbol_cmp r.0 x) (symbol_cmp x r.0) (symbols_turn r.0 x) less) ∙ r.2 ∙ ap Some (moved n place))
  where
    apart : (o p : Ordering) → o ≡ ordering_reverse p → p ≡ Less → is_eq o ≡ false
    apart o Less e l = ap is_eq e
    apart o Equal e l = cc
    apart o Greater e l = cc

    moved : (n place : ℕ) → suc n + place ≡ n + suc place
    moved n place = omega arith

-- ---- values by number

-- the value of a variable stands at its number
mapped_at : (values : Symbol → ℤ) (n : ℕ) (xs : List Symbol) (x : Symbol) (k : ℕ) → number_from n xs x ≡ Some k
    → (place : ℕ) × (k ≡ n + place) × (slice_index_or (map values xs) place (pos 0) ≡ values x)
mapped_at values n [] x k e = not_some k e
mapped_at values n (y ∷ ys) x k e = go (is_eq (symbol_cmp x y)) refl (mapped_at values (suc n) ys x k) e
  where
    go : (t : Bool) → is_eq (symbol_cmp x y) ≡ t
        → (number_from (suc n) ys x ≡ Some k → (place : ℕ) × (k ≡ suc n + place) × (slice_index_or (map values ys) place (pos 0) ≡ values x))
        → (if t then Some n else number_from (suc n) ys x) ≡ Some k → (place : ℕ) × (k ≡ n + place) × (slice_index_or (map values (y ∷ ys)) place (pos 0) ≡ values x)
    go true s rec q = let f = some_same n k q in (0, omega (arith, f), ap values (sym (same_symbol x y s)))
    go false s rec q = let r = rec q in let f = r.1 in (suc r.0, omega (arith, f), r.2)

pub value_mapped : (values : Symbol → ℤ) (variables : List Symbol) (x : Symbol) → IsMember variables x
    → values x ≡ value_at (map values variables) (variable_number variables x)
value_mapped values variables x m =
    let n = number_found 1 variables x m in
    let r = mapped_at values 1 variables x n.0 n.1 in
    let f = r.1 in
    let e : n.0 - 1 ≡ r.0 = omega (arith, f) in
    sym r.2 ∙ ap (λ i. slice_index_or (map values variables) i (pos 0)) (sym e) ∙ ap (λ o. value_at (map values variables) (or_zero o)) (sym n.1)

-- what holds at each place holds of all
pub all_places : {X : Type 0} (P : X → Type 0) (d : X) (xs : List X) → ((place : ℕ) → place < length xs → P (slice_index_or xs place d)) → AllByRecursion P xs
all_places P d [] h = tt
all_places P d (x ∷ xs) h = (h 0 (omega arith), all_places P d xs (λ place l. h (suc place) (omega (arith, l))))

pub all_at : {X : Type 0} (P : X → Type 0) (d : X) (xs : List X) → AllByRecursion P xs → (place : ℕ) → place < length xs → P (slice_index_or xs place d)
all_at P d [] a place l = absurd (omega (arith, l))
all_at P d (x ∷ xs) a zero l = a.0
all_at P d (x ∷ xs) a (suc place) l = all_at P d xs a.1 place (omega (arith, l))

-- ---- the numbers of the atoms of a set

abbrev pub chosen : (Symbol → Bool) → ℕ → List Symbol → List ℕ
chosen model n [] = []
chosen model n (a ∷ rest) = (if model a then n ∷ chosen model (suc n) rest else chosen model (suc n) rest)

pub chosen_ascend : (model : Symbol → Bool) (last n : ℕ) (xs : List Symbol) → last < n → ascend_from last (chosen model n xs) ≡ true
chosen_ascend model last n [] l = refl
chosen_ascend model last n (x ∷ xs) l = go (model x) (chosen_ascend model n (suc n) xs (omega arith)) (chosen_ascend model last (suc n) xs (omega (arith, l)))
  where
    below : (m n : ℕ) → m < n → nat_lt m n ≡ true
    below m n l = grind (arith, nat_tests)

    go : (t : Bool) → ascend_from n (chosen model (suc n) xs) ≡ true → ascend_from last (chosen model (suc n) xs) ≡ true
        → ascend_from last (if t then n ∷ chosen model (suc n) xs else chosen model (suc n) xs) ≡ true
    go true p q = and_intro (nat_lt last n) (ascend_from n (chosen model (suc n) xs)) (below last n l) p
    go false p q = q

record IsBetween (n count k : ℕ) : Type 0 where
  least : n ≤ k
  most : k < n + count

chosen_between : (model : Symbol → Bool) (n : ℕ) (xs : List Symbol) → AllByRecursion (IsBetween n (length xs)) (chosen model n xs)
chosen_between model n [] = tt
chosen_between model n (x ∷ xs) = go (model x) (property_map (IsBetween (suc n) (length xs)) (IsBetween n (suc (length xs))) wider (chosen model (suc n) xs) (chosen_between model (suc n) xs))
  where
    wider : (k : ℕ) → IsBetween (suc n) (length xs) k → IsBetween n (suc (length xs)) k
    wider k b = let p = b.least in let q = b.most in record { least = omega (arith, p); most = omega (arith, q) }

    go : (t : Bool) → AllByRecursion (IsBetween n (suc (length xs))) (chosen model (suc n) xs)
        → AllByRecursion (IsBetween n (suc (length xs))) (if t then n ∷ chosen model (suc n) xs else chosen model (suc n) xs)
    go true a = (record { least = omega arith; most = omega arith }, a)
    go false a = a

pub chosen_numbered : (model : Symbol → Bool) (xs : List Symbol) → AllByRecursion (IsNumbered (length xs)) (chosen model 1 xs)
chosen_numbered model xs = property_map (IsBetween 1 (length xs)) (IsNumbered (length xs)) numbered (chosen model 1 xs) (chosen_between model 1 xs)
  where
    numbered : (k : ℕ) → IsBetween 1 (length xs) k → IsNumbered (length xs) k
    numbered k b = let p = b.least in let q = b.most in record { above = omega (arith, p); known = omega (arith, q) }

-- no number below the first is chosen
not_chosen : (model : Symbol → Bool) (n k : ℕ) (xs : List Symbol) → k < n → has_atom (chosen model n xs) k ≡ false
not_chosen model n k [] l = refl
not_chosen model n k (x ∷ xs) l = go (model x) (not_chosen model (suc n) k xs (omega (arith, l)))
  where
    differs : (m n : ℕ) → m < n → (n == m) ≡ false
    differs m n l = grind (arith, nat_tests)

    go : (t : Bool) → has_atom (chosen model (suc n) xs) k ≡ false → has_atom (if t then n ∷ chosen model (suc n) xs else chosen model (suc n) xs) k ≡ false
    go true r = ap (λ t. t || has_atom (chosen model (suc n) xs) k) (differs k n l) ∙ r
    go false r = r

pub chosen_has : (model : Symbol → Bool) (n : ℕ) (xs : List Symbol) (a : Symbol) (k : ℕ) → number_from n xs a ≡ Some k → has_atom (chosen model n xs) k ≡ model a
chosen_has model n [] a k e = not_some k e
chosen_has model n (x ∷ xs) a k e = go (is_eq (symbol_cmp a x)) refl (model x) refl (chosen_has model (suc n) xs a k) e
  where
    equal : (m n : ℕ) → n ≡ m → (n == m) ≡ true
    equal m n e = grind (arith, nat_tests)

    differs : (m n : ℕ) → n < m → (n == m) ≡ false
    differs m n l = grind (arith, nat_tests)

    go : (s : Bool) → is_eq (symbol_cmp a x) ≡ s → (t : Bool) → model x ≡ t
        → (number_from (suc n) xs a ≡ Some k → has_atom (chosen model (suc n) xs) k ≡ model a)
        → (if s then Some n else number_from (suc n) xs a) ≡ Some k
        → has_atom (if t then n ∷ chosen model (suc n) xs else chosen model (suc n) xs) k ≡ model a
    go true s true t rec q =
        let f = some_same n k q in
        ap (λ z. z || has_atom (chosen model (suc n) xs) k) (equal k n f) ∙ sym t ∙ ap model (sym (same_symbol a x s))
    go true s false t rec q =
        let f = some_same n k q in
        not_chosen model (suc n) k xs (omega (arith, f)) ∙ sym t ∙ ap model (sym (same_symbol a x s))
    go false s true t rec q =
        let l = number_least (suc n) xs a k q in
        ap (λ z. z || has_atom (chosen model (suc n) xs) k) (differs k n (omega (arith, l))) ∙ rec q
    go false s false t rec q = rec q
