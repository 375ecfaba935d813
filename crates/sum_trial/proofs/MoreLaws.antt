-- One more propagator in a list, one more item in a sum, and one more entry on a trail.
use Rattle.std.proofs.Common.{◌≡◌, ℕ, zero, suc, ◌+◌, ◌<◌, ◌≤◌, ◌&&◌, not, Bool, true, false, IsTrue, List, [], ◌∷◌, ◌++◌, map, take, refl, sym, ap, subst, arith, ℤ, pos}
use Rattle.std.specs.List.{All, AllByRecursion, list_all}
use Rattle.std.proofs.lemmas.Bool.Decides.{nat_tests}
use Rattle.std.proofs.lemmas.List.{map-append}
use Rattle.std.proofs.lemmas.List.Elements.{All-append}
use Rattle.std.proofs.lemmas.List.Folds.{list_all-append}
use Rattle.symbols.specs.declared.ends.Ends.{Ends}
use Rattle.literals.specs.declared.lit.Lit.{Lit}
use Rattle.linear_normal.specs.declared.constraint.Item.{Item}
use Rattle.linear_normal.specs.declared.constraint.Item.TheVariants.{Value, Truth}
use Rattle.trail.specs.declared.shape.Shape.{Shape}
use Rattle.trail.specs.declared.entry.Entry.{Entry}
use Rattle.trail.specs.declared.entry.Why.{Why}
use Rattle.trail.specs.declared.entry.Placed.{Placed}
use Rattle.trail.specs.declared.entry.Placed.TheVariants.{Already, Clash, Done}
use Rattle.trail.specs.Assignment.{Assignment, Names, Places}
use Rattle.trail.proofs.GrowthLaws.{grows_set}
use Rattle.propagator_core.specs.Meaning.{Meaning}
use Rattle.propagator_core.specs.Standing.{StandsFor}
use Rattle.propagator_core.specs.Several.{AllFit, AllStand}
use Rattle.propagator_core.proofs.SeveralLaws.{stands_on}
use Rattle.numbering_laws.specs.Items.{same_counted, counts_truth, are_items}
use Rattle.sum_propagator.specs.Sums.{is_item_of, fits_sum, sum_meaning}

-- PROPAGATORS

all_one : {X : Type 0} (P : X → Type 0) (y : X) → P y → All P (y ∷ [])
all_one P y h zero d lt = h
all_one P y h (suc k) d lt = absurd (omega (arith, lt))

pub fit_more : {X : Type 0} (f : X → Meaning) (xs : List X) (y : X) (s : Shape) → AllFit (map f xs) s → IsTrue ((f y).fits s) → AllFit (map f (xs ++ y ∷ [])) s
fit_more f xs y s h g =
    subst (λ (ms : List Meaning). AllFit ms s) (sym (map-append f xs (y ∷ [])))
    (All-append (λ (m : Meaning). IsTrue (m.fits s)) (map f xs) (f y ∷ []) h (all_one (λ (m : Meaning). IsTrue (m.fits s)) (f y) g))

pub stand_more : {X : Type 0} (stands : X → Ends → List Entry → Type 0) (looked : X → ℕ) (xs : List X) (y : X) (t : Assignment) → AllStand stands looked xs t → StandsFor (stands y) (looked y) t → AllStand stands looked (xs ++ y ∷ []) t
stand_more stands looked xs y t h g =
    All-append (λ p. StandsFor (stands p) (looked p) t) xs (y ∷ []) h (all_one (λ p. StandsFor (stands p) (looked p) t) y g)

pub fits_same : (m : Meaning) (n : ℕ) (is : List Item) (k : ℤ) (s : Shape) → m ≡ sum_meaning n is k → IsTrue (fits_sum n is s) → IsTrue (m.fits s)
fits_same m n is k s e h = subst (λ (m : Meaning). IsTrue (m.fits s)) (sym e) h

pub stands_new : (stands : Ends → List Entry → Type 0) (seen : ℕ) (t : Assignment) → seen ≡ 0 → ((e : Ends) → stands e []) → StandsFor stands seen t
stands_new stands seen t e h = record {
  within = omega (arith, e);
  for_these = subst (λ (n : ℕ). stands t.shape.ends (take n t.entries)) (sym e) (h t.shape.ends);
}

pub stands_set : (stands : Ends → List Entry → Type 0) (seen : ℕ) (a b : Assignment) (l : Lit) (why : Why) (p : Placed) → Names a.shape l → Places a l why p b → StandsFor stands seen a → StandsFor stands seen b
stands_set stands seen a b l why Already n h s = subst (λ (t : Assignment). StandsFor stands seen t) (sym h.1) s
stands_set stands seen a b l why Clash n h s = subst (λ (t : Assignment). StandsFor stands seen t) (sym h.1) s
stands_set stands seen a b l why Done n h s = stands_on (λ t e. Unit {0}) stands seen a b (grows_set (λ t e. Unit {0}) a b l why n h tt) s

-- ITEMS

-- the item counts a variable, or the truth of a constraint below this one that is not the first
abbrev pub IsBefore : ℕ → Item → Type 0
IsBefore n (Value x c) = Unit {0}
IsBefore n (Truth m c) = (2 ≤ m) × (m < n)

pub before_more : (n : ℕ) (is : List Item) → 2 ≤ n → AllByRecursion (IsBefore n) is → AllByRecursion (IsBefore (n + 1)) (is ++ Truth n (pos 1) ∷ [])
before_more n [] e h = ((e, omega arith), tt)
before_more n (Value x c ∷ is) e h = (tt, before_more n is e h.1)
before_more n (Truth m c ∷ is) e h = ((h.0.0, let lt = h.0.1 in omega (arith, lt)), before_more n is e h.1)

parts : (a b c : Bool) → IsTrue ((a && b) && c) → (a ≡ true) × (b ≡ true) × IsTrue c
parts a b c h = (grind (arith, nat_tests), grind (arith, nat_tests), grind (arith, nat_tests))

join : (a b c d : Bool) → a ≡ true → b ≡ true → d ≡ true → IsTrue c → IsTrue ((a && (b && (d && true))) && c)
join a b c d e f g h = grind (arith, nat_tests)

one_more : (i j : Item) (is : List Item) → counts_truth 1 i ≡ false → same_counted i j ≡ false → list_all (λ o. not (same_counted i o)) is ≡ true → IsTrue (are_items 1 (is ++ j ∷ [])) → IsTrue (are_items 1 ((i ∷ is) ++ j ∷ []))
one_more i j is a b e h =
    subst (λ (q : Bool). IsTrue ((not (counts_truth 1 i) && q) && are_items 1 (is ++ j ∷ []))) (sym (list_all-append (λ o. not (same_counted i o)) is (j ∷ [])))
    (join (not (counts_truth 1 i)) (list_all (λ o. not (same_counted i o)) is) (are_items 1 (is ++ j ∷ [])) (not (same_counted i j)) (ap not a) e (ap not b) h)

off : (a b : Bool) → not a ≡ true → a ≡ false
off true b h = let no : false ≡ true = h in cc
off false b h = refl

pub are_more : (n : ℕ) (is : List Item) → 2 ≤ n → AllByRecursion (IsBefore n) is → IsTrue (are_items 1 is) → IsTrue (are_items 1 (is ++ Truth n (pos 1) ∷ []))
are_more n [] e b h = grind (arith, nat_tests)
are_more n (i ∷ is) e b h =
    let p = parts (not (counts_truth 1 i)) (list_all (λ o. not (same_counted i o)) is) (are_items 1 is) h in
    one_more i (Truth n (pos 1)) is (off (counts_truth 1 i) true p.0) (apart i b.0) p.1 (are_more n is e b.1 p.2)
  where
    apart : (i : Item) → IsBefore n i → same_counted i (Truth n (pos 1)) ≡ false
    apart (Value x c) q = refl
    apart (Truth m c) q = let lt = q.1 in grind (arith, nat_tests)

pub of_more : (s : Shape) (n : ℕ) (is : List Item) → 1 ≤ n → n ≤ s.constraints → IsTrue (list_all (is_item_of s) is) → IsTrue (list_all (is_item_of s) (is ++ Truth n (pos 1) ∷ []))
of_more s n is a b h = subst (λ (q : Bool). IsTrue q) (sym (list_all-append (is_item_of s) is (Truth n (pos 1) ∷ []))) (grind (arith, nat_tests))

pub link_fits : (n : ℕ) (c d : ℤ) (s : Shape) → 1 ≤ n → n ≤ s.constraints → n < s.variables → IsTrue (fits_sum n (Value n c ∷ Value (n + 1) d ∷ []) s)
link_fits n c d s a b e = grind (arith, nat_tests)

pub wide_fits : (s : Shape) (is : List Item) → 1 ≤ s.constraints → IsTrue (list_all (is_item_of s) is) → IsTrue (fits_sum 1 is s)
wide_fits s is a h = grind (arith, nat_tests)

-- A CALL

pub fits_on : (m n : Meaning) (a b : Shape) → n ≡ m → b ≡ a → IsTrue (m.fits a) → IsTrue (n.fits b)
fits_on m n a b e f h = subst (λ (s : Shape). IsTrue (n.fits s)) (sym f) (subst (λ (k : Meaning). IsTrue (k.fits a)) (sym e) h)
