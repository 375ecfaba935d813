-- What an item counts under the bounds that a list of literals names.
use Rattle.std.proofs.Common.{◌≡◌, ℕ, ◌-◌, ◌^◌, ◌≤◌, ◌==◌, ◌&&◌, ◌||◌, Bool, true, false, cond, refl, sym, ◌∙◌, ap, subst, arith, List, [], ◌∷◌, None, Some, ℤ, pos, neg_ℤ, ◌≤ℤ◌}
use Rattle.std.specs.Prelude.{int_le}
use Rattle.std.specs.Int.RustNames.{unsigned_abs}
use Rattle.std.specs.List.{fold, list_any}
use Rattle.std.proofs.lemmas.Bool.Decides.{nat_tests}
use Rattle.std.proofs.lemmas.Int.{ints}
use Rattle.symbols.specs.declared.ends.Ends.{Ends}
use Rattle.literals.specs.declared.lit.Lit.{Lit}
use Rattle.literals.specs.declared.lit.Lit.TheVariants.{Atom, Body, Constraint, AtMost, AtLeast}
use Rattle.literals.specs.Lits.{implies_lit}
use Rattle.linear_normal.specs.declared.constraint.Item.{Item}
use Rattle.linear_normal.specs.declared.constraint.Item.TheVariants.{Value, Truth}
use Rattle.linear_normal.specs.Bounds.{bounds_named, raised, lowered, counted, discounted}
use Rattle.trail.specs.Implied.{implied, lower_of, upper_of, lower_after, upper_after}
use Rattle.trail.specs.Assignment.{Assignment, IsAssignment, lits_of, is_true_on, truth_on, lower_on, upper_on}
use Rattle.trail.proofs.ImpliedLaws.{implied-at_most, implied-at_least}
use Rattle.trail.proofs.AssignmentLaws.{agree_on, bounds_meet}
use Rattle.trail_bounds.specs.OnTrail.{bounds_on}
use Rattle.trail_bounds.specs.Items.{low_in, high_in, low_end, high_end, at_least, at_most}
use Rattle.trail_bounds.specs.inner.Ranges.{InRange, least_count, greatest_count}

int_refl : (k : ℤ) → k ≤ℤ k
int_refl k = omega (arith, ints)

raised_after : (x : ℕ) (k : ℤ) (l : Lit) → raised x k l ≡ lower_after x k l
raised_after x k (Atom n s) = refl
raised_after x k (Body n s) = refl
raised_after x k (Constraint n s) = refl
raised_after x k (AtMost y j) = refl
raised_after x k (AtLeast y j) = refl

lowered_after : (x : ℕ) (k : ℤ) (l : Lit) → lowered x k l ≡ upper_after x k l
lowered_after x k (Atom n s) = refl
lowered_after x k (Body n s) = refl
lowered_after x k (Constraint n s) = refl
lowered_after x k (AtMost y j) = refl
lowered_after x k (AtLeast y j) = refl

fold_same : (f g : ℤ → Lit → ℤ) → ((k : ℤ) (l : Lit) → f k l ≡ g k l) → (k : ℤ) (ls : List Lit) → fold f k ls ≡ fold g k ls
fold_same f g h k [] = refl
fold_same f g h k (l ∷ ls) = ap (λ j. fold f j ls) (h k l) ∙ fold_same f g h (g k l) ls

pub low-named : (ends : Ends) (ls : List Lit) (x : ℕ) → (bounds_named ends ls).low x ≡ lower_of ends ls x
low-named ends ls x = fold_same (raised x) (lower_after x) (raised_after x) ends.min ls

pub high-named : (ends : Ends) (ls : List Lit) (x : ℕ) → (bounds_named ends ls).high x ≡ upper_of ends ls x
high-named ends ls x = fold_same (lowered x) (upper_after x) (lowered_after x) ends.max ls

count_step : (n : ℕ) (k : ℤ) (l : Lit) → counted n k l ≡ cond (implies_lit l (Constraint n true)) (pos 1) k
count_step n k (Atom m s) = refl
count_step n k (Body m s) = refl
count_step n k (Constraint m true) = cases (m == n)
  where
    cases : (b : Bool) → cond b (pos 1) k ≡ cond (b && true) (pos 1) k
    cases true = refl
    cases false = refl
count_step n k (Constraint m false) = cases (m == n)
  where
    cases : (b : Bool) → k ≡ cond (b && false) (pos 1) k
    cases true = refl
    cases false = refl
count_step n k (AtMost y j) = refl
count_step n k (AtLeast y j) = refl

discount_step : (n : ℕ) (k : ℤ) (l : Lit) → discounted n k l ≡ cond (implies_lit l (Constraint n false)) (pos 0) k
discount_step n k (Atom m s) = refl
discount_step n k (Body m s) = refl
discount_step n k (Constraint m false) = cases (m == n)
  where
    cases : (b : Bool) → cond b (pos 0) k ≡ cond (b && true) (pos 0) k
    cases true = refl
    cases false = refl
discount_step n k (Constraint m true) = cases (m == n)
  where
    cases : (b : Bool) → k ≡ cond (b && false) (pos 0) k
    cases true = refl
    cases false = refl
discount_step n k (AtMost y j) = refl
discount_step n k (AtLeast y j) = refl

either : (a b : Bool) (v k : ℤ) → cond a v (cond b v k) ≡ cond (b || a) v k
either true true v k = refl
either true false v k = refl
either false true v k = refl
either false false v k = refl

count_all : (n : ℕ) (k : ℤ) (ls : List Lit) → fold (counted n) k ls ≡ cond (list_any (λ m. implies_lit m (Constraint n true)) ls) (pos 1) k
count_all n k [] = refl
count_all n k (l ∷ ls) =
    count_all n (counted n k l) ls
    ∙ ap (λ j. cond (list_any (λ m. implies_lit m (Constraint n true)) ls) (pos 1) j) (count_step n k l)
    ∙ either (list_any (λ m. implies_lit m (Constraint n true)) ls) (implies_lit l (Constraint n true)) (pos 1) k

discount_all : (n : ℕ) (k : ℤ) (ls : List Lit) → fold (discounted n) k ls ≡ cond (list_any (λ m. implies_lit m (Constraint n false)) ls) (pos 0) k
discount_all n k [] = refl
discount_all n k (l ∷ ls) =
    discount_all n (discounted n k l) ls
    ∙ ap (λ j. cond (list_any (λ m. implies_lit m (Constraint n false)) ls) (pos 0) j) (discount_step n k l)
    ∙ either (list_any (λ m. implies_lit m (Constraint n false)) ls) (implies_lit l (Constraint n false)) (pos 0) k

pub least-named : (ends : Ends) (ls : List Lit) (n : ℕ) → (bounds_named ends ls).least n ≡ cond (implied ends ls (Constraint n true)) (pos 1) (pos 0)
least-named ends ls n = count_all n (pos 0) ls

pub greatest-named : (ends : Ends) (ls : List Lit) (n : ℕ) → (bounds_named ends ls).greatest n ≡ cond (implied ends ls (Constraint n false)) (pos 0) (pos 1)
greatest-named ends ls n = discount_all n (pos 1) ls

-- the number that a truth counts at least where the literal says so, and at most
abbrev pub SaysLeast : Item → ℤ → Type 0
SaysLeast (Value x c) k = k ≡ k
SaysLeast (Truth n c) k = k ≡ pos 1

abbrev pub SaysMost : Item → ℤ → Type 0
SaysMost (Value x c) k = k ≡ k
SaysMost (Truth n c) k = k ≡ pos 0

one_least : (b : Bool) (k : ℤ) → k ≡ pos 1 → b ≡ int_le k (cond b (pos 1) (pos 0))
one_least true k e = rw e refl
one_least false k e = rw e refl

one_most : (b : Bool) (k : ℤ) → k ≡ pos 0 → b ≡ int_le (cond b (pos 0) (pos 1)) k
one_most true k e = rw e refl
one_most false k e = rw e refl

-- a literal follows exactly where the item's range is within what it says
pub implied-least : (ends : Ends) (ls : List Lit) (i : Item) (k : ℤ) → SaysLeast i k → implied ends ls (at_least i k) ≡ int_le k (low_in (bounds_named ends ls) i)
implied-least ends ls (Value x c) k s = implied-at_least ends ls x k ∙ ap (int_le k) (sym (low-named ends ls x))
implied-least ends ls (Truth n c) k s = one_least (implied ends ls (Constraint n true)) k s ∙ ap (int_le k) (sym (least-named ends ls n))

pub implied-most : (ends : Ends) (ls : List Lit) (i : Item) (k : ℤ) → SaysMost i k → implied ends ls (at_most i k) ≡ int_le (high_in (bounds_named ends ls) i) k
implied-most ends ls (Value x c) k s = implied-at_most ends ls x k ∙ ap (λ b. int_le b k) (sym (high-named ends ls x))
implied-most ends ls (Truth n c) k s = one_most (implied ends ls (Constraint n false)) k s ∙ ap (λ b. int_le b k) (sym (greatest-named ends ls n))

le_true : (a b : ℤ) → int_le a b ≡ true → a ≤ℤ b
le_true a b h = grind (arith, nat_tests, ints)

le_same : (a : ℤ) → int_le a a ≡ true
le_same a = grind (arith, nat_tests, ints)

true_le : (a b : ℤ) → a ≤ℤ b → int_le a b ≡ true
true_le a b h = grind (arith, nat_tests, ints)

-- the ends bound what any list names
pub low_from_end : (ends : Ends) (ls : List Lit) (i : Item) → low_end ends i ≤ℤ low_in (bounds_named ends ls) i
low_from_end ends ls (Value x c) =
    le_true ends.min ((bounds_named ends ls).low x)
    (sym (implied-least ends ls (Value x c) ends.min refl) ∙ ap (λ b. b || list_any (λ m. implies_lit m (AtLeast x ends.min)) ls) (le_same ends.min))
low_from_end ends ls (Truth n c) = subst (λ (k : ℤ). pos 0 ≤ℤ k) (sym (least-named ends ls n)) (cases (implied ends ls (Constraint n true)))
  where
    cases : (b : Bool) → pos 0 ≤ℤ cond b (pos 1) (pos 0)
    cases true = omega (arith, ints)
    cases false = omega (arith, ints)

pub high_from_end : (ends : Ends) (ls : List Lit) (i : Item) → high_in (bounds_named ends ls) i ≤ℤ high_end ends i
high_from_end ends ls (Value x c) =
    le_true ((bounds_named ends ls).high x) ends.max
    (sym (implied-most ends ls (Value x c) ends.max refl) ∙ ap (λ b. b || list_any (λ m. implies_lit m (AtMost x ends.max)) ls) (le_same ends.max))
high_from_end ends ls (Truth n c) = subst (λ (k : ℤ). k ≤ℤ pos 1) (sym (greatest-named ends ls n)) (cases (implied ends ls (Constraint n false)))
  where
    cases : (b : Bool) → cond b (pos 0) (pos 1) ≤ℤ pos 1
    cases true = omega (arith, ints)
    cases false = omega (arith, ints)

abbrev pub Says : Ends → List Lit → List Lit → Type 0
Says ends ls ms = (l : Lit) → implied ends ls l ≡ true → implied ends ms l ≡ true

cond_up : (a b : Bool) → (a ≡ true → b ≡ true) → cond a (pos 1) (pos 0) ≤ℤ cond b (pos 1) (pos 0)
cond_up true true h = omega (arith, ints)
cond_up true false h = let no : false ≡ true = h refl in cc
cond_up false true h = omega (arith, ints)
cond_up false false h = omega (arith, ints)

cond_down : (a b : Bool) → (a ≡ true → b ≡ true) → cond b (pos 0) (pos 1) ≤ℤ cond a (pos 0) (pos 1)
cond_down true true h = omega (arith, ints)
cond_down true false h = let no : false ≡ true = h refl in cc
cond_down false true h = omega (arith, ints)
cond_down false false h = omega (arith, ints)

pub low_says : (ends : Ends) (ls ms : List Lit) (i : Item) → Says ends ls ms → low_in (bounds_named ends ls) i ≤ℤ low_in (bounds_named ends ms) i
low_says ends ls ms (Value x c) h =
    let k = (bounds_named ends ls).low x in
    le_true ((bounds_named ends ls).low x) ((bounds_named ends ms).low x)
    (sym (implied-least ends ms (Value x c) ((bounds_named ends ls).low x) refl)
    ∙ h (AtLeast x ((bounds_named ends ls).low x)) (implied-least ends ls (Value x c) ((bounds_named ends ls).low x) refl ∙ le_same ((bounds_named ends ls).low x)))
low_says ends ls ms (Truth n c) h =
    subst (λ (k : ℤ). k ≤ℤ (bounds_named ends ms).least n) (sym (least-named ends ls n))
    (subst (λ (k : ℤ). cond (implied ends ls (Constraint n true)) (pos 1) (pos 0) ≤ℤ k) (sym (least-named ends ms n))
    (cond_up (implied ends ls (Constraint n true)) (implied ends ms (Constraint n true)) (h (Constraint n true))))

pub high_says : (ends : Ends) (ls ms : List Lit) (i : Item) → Says ends ls ms → high_in (bounds_named ends ms) i ≤ℤ high_in (bounds_named ends ls) i
high_says ends ls ms (Value x c) h =
    le_true ((bounds_named ends ms).high x) ((bounds_named ends ls).high x)
    (sym (implied-most ends ms (Value x c) ((bounds_named ends ls).high x) refl)
    ∙ h (AtMost x ((bounds_named ends ls).high x)) (implied-most ends ls (Value x c) ((bounds_named ends ls).high x) refl ∙ le_same ((bounds_named ends ls).high x)))
high_says ends ls ms (Truth n c) h =
    subst (λ (k : ℤ). k ≤ℤ (bounds_named ends ls).greatest n) (sym (greatest-named ends ms n))
    (subst (λ (k : ℤ). cond (implied ends ms (Constraint n false)) (pos 0) (pos 1) ≤ℤ k) (sym (greatest-named ends ls n))
    (cond_down (implied ends ls (Constraint n false)) (implied ends ms (Constraint n false)) (h (Constraint n false))))

pub on_low : (t : Assignment) (x : ℕ) → (bounds_on t).low x ≡ lower_on t x
on_low t x = low-named t.shape.ends (lits_of t.entries) x

pub on_high : (t : Assignment) (x : ℕ) → (bounds_on t).high x ≡ upper_on t x
on_high t x = high-named t.shape.ends (lits_of t.entries) x

-- the range of each item on a trail is not empty
pub range_meets : (t : Assignment) (i : Item) → IsAssignment t → low_in (bounds_on t) i ≤ℤ high_in (bounds_on t) i
range_meets t (Value x c) h =
    subst (λ (k : ℤ). k ≤ℤ (bounds_on t).high x) (sym (on_low t x)) (subst (λ (k : ℤ). lower_on t x ≤ℤ k) (sym (on_high t x)) (bounds_meet t x h))
range_meets t (Truth n c) h =
    subst (λ (k : ℤ). k ≤ℤ (bounds_on t).greatest n) (sym (least-named t.shape.ends (lits_of t.entries) n))
    (subst (λ (k : ℤ). cond (is_true_on t (Constraint n true)) (pos 1) (pos 0) ≤ℤ k) (sym (greatest-named t.shape.ends (lits_of t.entries) n))
    (cases (is_true_on t (Constraint n true)) (is_true_on t (Constraint n false)) (agree_on t (Constraint n true) h)))
  where
    cases : (a b : Bool) → (a ≡ true → b ≡ false) → cond a (pos 1) (pos 0) ≤ℤ cond b (pos 0) (pos 1)
    cases true true f = let no : true ≡ false = f refl in cc
    cases true false f = omega (arith, ints)
    cases false true f = omega (arith, ints)
    cases false false f = omega (arith, ints)

between : (low high min max : ℤ) → min ≤ℤ low → low ≤ℤ high → high ≤ℤ max → neg_ℤ (pos (2 ^ 30 - 1)) ≤ℤ min → max ≤ℤ pos (2 ^ 30 - 1) → ((neg_ℤ (pos (2 ^ 30 - 1)) ≤ℤ low) × (low ≤ℤ pos (2 ^ 30 - 1))) × ((neg_ℤ (pos (2 ^ 30 - 1)) ≤ℤ high) × (high ≤ℤ pos (2 ^ 30 - 1)))
between low high min max a b c d e = ((omega (arith, ints, a, b, c, d, e), omega (arith, ints, a, b, c, d, e)), (omega (arith, ints, a, b, c, d, e), omega (arith, ints, a, b, c, d, e)))

bits : (low high : ℤ) → pos 0 ≤ℤ low → low ≤ℤ high → high ≤ℤ pos 1 → ((pos 0 ≤ℤ low) × (low ≤ℤ pos 1)) × ((pos 0 ≤ℤ high) × (high ≤ℤ pos 1))
bits low high a b c = ((a, omega (arith, ints, a, b, c)), (omega (arith, ints, a, b, c), c))

-- and lies in the range of the item
pub range_is : (t : Assignment) (i : Item) → IsAssignment t → InRange i (low_in (bounds_on t) i) × InRange i (high_in (bounds_on t) i)
range_is t (Value x c) h =
    between ((bounds_on t).low x) ((bounds_on t).high x) t.shape.ends.min t.shape.ends.max (low_from_end t.shape.ends (lits_of t.entries) (Value x c)) (range_meets t (Value x c) h) (high_from_end t.shape.ends (lits_of t.entries) (Value x c)) t.shape.ends.low t.shape.ends.high
range_is t (Truth n c) h =
    bits ((bounds_on t).least n) ((bounds_on t).greatest n) (low_from_end t.shape.ends (lits_of t.entries) (Truth n c)) (range_meets t (Truth n c) h) (high_from_end t.shape.ends (lits_of t.entries) (Truth n c))

-- what is known of a truth gives its range
pub known_low : (t : Assignment) (n : ℕ) (c : ℤ) → IsAssignment t → least_count (truth_on t (Constraint n true)) ≡ low_in (bounds_on t) (Truth n c)
known_low t n c h = cases (is_true_on t (Constraint n true)) (is_true_on t (Constraint n false)) ∙ sym (least-named t.shape.ends (lits_of t.entries) n)
  where
    cases : (a b : Bool) → least_count (cond a (Some true) (cond b (Some false) None)) ≡ cond a (pos 1) (pos 0)
    cases true b = refl
    cases false true = refl
    cases false false = refl

pub known_high : (t : Assignment) (n : ℕ) (c : ℤ) → IsAssignment t → greatest_count (truth_on t (Constraint n true)) ≡ high_in (bounds_on t) (Truth n c)
known_high t n c h = cases (is_true_on t (Constraint n true)) (is_true_on t (Constraint n false)) (agree_on t (Constraint n true) h) ∙ sym (greatest-named t.shape.ends (lits_of t.entries) n)
  where
    cases : (a b : Bool) → (a ≡ true → b ≡ false) → greatest_count (cond a (Some true) (cond b (Some false) None)) ≡ cond b (pos 0) (pos 1)
    cases true b f = rw (f refl) refl
    cases false true f = refl
    cases false false f = refl

-- bounds on a trail are in order, and far within their type
within : (a k : ℤ) → k ≡ a → neg_ℤ (pos (2 ^ 30 - 1)) ≤ℤ a → a ≤ℤ pos (2 ^ 30 - 1) → unsigned_abs k ≤ 2 ^ 30
within a k e g f = grind (arith, ints)

pub bounds_order : (t : Assignment) (x : ℕ) (low high : ℤ) → IsAssignment t → low ≡ lower_on t x → high ≡ upper_on t x → low ≤ℤ high
bounds_order t x low high h e f = let m = bounds_meet t x h in omega (arith, ints, e, f, m)

pub lower_small : (t : Assignment) (x : ℕ) (low : ℤ) → IsAssignment t → low ≡ lower_on t x → unsigned_abs low ≤ 2 ^ 30
lower_small t x low h e = let r = (range_is t (Value x (pos 0)) h).0 in within ((bounds_on t).low x) low (e ∙ sym (on_low t x)) r.0 r.1

pub upper_small : (t : Assignment) (x : ℕ) (high : ℤ) → IsAssignment t → high ≡ upper_on t x → unsigned_abs high ≤ 2 ^ 30
upper_small t x high h e = let r = (range_is t (Value x (pos 0)) h).1 in within ((bounds_on t).high x) high (e ∙ sym (on_high t x)) r.0 r.1
