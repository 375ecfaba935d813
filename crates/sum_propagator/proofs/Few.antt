-- Items that count different things are few, since each names a variable or a constraint by 32 bits.
use Rattle.std.proofs.Common.{◌≡◌, ℕ, suc, ◌+◌, ◌<◌, ◌≤◌, ◌^◌, Bool, true, false, ◌||◌, ◌==◌, IsTrue, List, [], ◌∷◌, length, get_or, refl, arith, ℤ}
use Rattle.std.specs.List.{AllByRecursion, IsDistinct, list_any}
use Rattle.std.proofs.lemmas.Bool.Decides.{nat_tests}
use Rattle.std.proofs.lemmas.Map.Steps.{length-le_from_distinct_below}
use Rattle.linear_normal.specs.declared.constraint.Item.{Item}
use Rattle.linear_normal.specs.declared.constraint.Item.TheVariants.{Value, Truth}
use Rattle.numbering_laws.specs.Items.{are_items, same_counted}
use Rattle.trail_bounds.specs.Items.{counted_number}
use Rattle.sum_propagator.proofs.Forcing.{NoRepeat, once_rec}

-- the variables that items count, and the constraints
abbrev values : List Item → List ℕ
values [] = []
values (Value x c ∷ is) = x ∷ values is
values (Truth n c ∷ is) = values is

abbrev truths : List Item → List ℕ
truths [] = []
truths (Value x c ∷ is) = truths is
truths (Truth n c ∷ is) = n ∷ truths is

lengths : (is : List Item) → length is ≡ length (values is) + length (truths is)
lengths [] = refl
lengths (Value x c ∷ is) = let e = lengths is in omega arith
lengths (Truth n c ∷ is) = let e = lengths is in omega arith

-- the number of the item has 32 bits
abbrev IsNumbered : Item → Type 0
IsNumbered item = counted_number item < 2 ^ 32

values_apart : (x : ℕ) (c : ℤ) (is : List Item) → AllByRecursion (λ j. same_counted (Value x c) j ≡ false) is → AllByRecursion (λ y. (x == y) ≡ false) (values is)
values_apart x c [] a = tt
values_apart x c (Value y d ∷ is) a = (a.0, values_apart x c is a.1)
values_apart x c (Truth n d ∷ is) a = values_apart x c is a.1

truths_apart : (n : ℕ) (c : ℤ) (is : List Item) → AllByRecursion (λ j. same_counted (Truth n c) j ≡ false) is → AllByRecursion (λ m. (n == m) ≡ false) (truths is)
truths_apart n c [] a = tt
truths_apart n c (Value y d ∷ is) a = truths_apart n c is a.1
truths_apart n c (Truth m d ∷ is) a = (a.0, truths_apart n c is a.1)

values_distinct : (is : List Item) → NoRepeat is → IsDistinct (◌==◌) (values is)
unfolding IsDistinct
values_distinct [] r = tt
values_distinct (Value x c ∷ is) r = (values_apart x c is r.0, values_distinct is r.1)
values_distinct (Truth n c ∷ is) r = values_distinct is r.1

truths_distinct : (is : List Item) → NoRepeat is → IsDistinct (◌==◌) (truths is)
unfolding IsDistinct
truths_distinct [] r = tt
truths_distinct (Value x c ∷ is) r = truths_distinct is r.1
truths_distinct (Truth n c ∷ is) r = (truths_apart n c is r.0, truths_distinct is r.1)

one_below : (q x : ℕ) (rest : Bool) → x < 2 ^ 32 → (rest ≡ true → q < 2 ^ 32) → ((q == x) || rest) ≡ true → q < 2 ^ 32
one_below q x true b f h = f refl
one_below q x false b f h = grind (arith, nat_tests)

values_below : (is : List Item) → AllByRecursion IsNumbered is → (q : ℕ) → list_any (λ y. q == y) (values is) ≡ true → q < 2 ^ 32
values_below [] b q h = let no : false ≡ true = h in cc
values_below (Value x c ∷ is) b q h = one_below q x (list_any (λ y. q == y) (values is)) b.0 (values_below is b.1 q) h
values_below (Truth n c ∷ is) b q h = values_below is b.1 q h

truths_below : (is : List Item) → AllByRecursion IsNumbered is → (q : ℕ) → list_any (λ y. q == y) (truths is) ≡ true → q < 2 ^ 32
truths_below [] b q h = let no : false ≡ true = h in cc
truths_below (Value x c ∷ is) b q h = truths_below is b.1 q h
truths_below (Truth n c ∷ is) b q h = one_below q n (list_any (λ y. q == y) (truths is)) b.0 (truths_below is b.1 q) h

each_numbered : (is : List Item) → ((k : ℕ) (d : Item) → k < length is → counted_number (get_or is k d) < 2 ^ 32) → AllByRecursion IsNumbered is
each_numbered [] h = tt
each_numbered (i ∷ is) h = (h 0 i (omega arith), each_numbered is (λ k d lt. h (suc k) d (omega (arith, lt))))

pub few_items : (number : ℕ) (is : List Item) → IsTrue (are_items number is) → ((k : ℕ) (d : Item) → k < length is → counted_number (get_or is k d) < 2 ^ 32) → length is ≤ 2 ^ 33
few_items number is a h =
    let e = lengths is in
    let b = each_numbered is h in
    let v = length-le_from_distinct_below (values is) (2 ^ 32) (values_distinct is (once_rec number is a)) (values_below is b) in
    let t = length-le_from_distinct_below (truths is) (2 ^ 32) (truths_distinct is (once_rec number is a)) (truths_below is b) in
    omega arith
