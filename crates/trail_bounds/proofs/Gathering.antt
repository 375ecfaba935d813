-- Literals gathered into a sorted list: each follows from one that is there; and which are of a shape.
use Rattle.std.proofs.Common.{◌≡◌, ℕ, Bool, true, false, cond, ◌||◌, refl, arith, List, [], ◌∷◌}
use Rattle.std.specs.List.{AllByRecursion, list_any, list_all}
use Rattle.std.proofs.lemmas.Bool.Decides.{nat_tests}
use Rattle.symbols.specs.declared.ends.Ends.{Ends}
use Rattle.literals.specs.declared.lit.Lit.{Lit}
use Rattle.literals.specs.declared.lit.Lit.TheVariants.{Atom, Body, Constraint, AtMost, AtLeast}
use Rattle.literals.specs.Lits.{implies_lit, same_lit}
use Rattle.literals.specs.Nogoods.{has_lit, joined, put_lit, is_before, same_place, stronger}
use Rattle.literals.proofs.OrderLaws.{implies_trans, implies_other}
use Rattle.literals.proofs.LitLaws.{implies_refl}
use Rattle.trail.specs.declared.shape.Shape.{Shape}
use Rattle.trail.specs.Implied.{ends_imply}
use Rattle.trail.specs.Assignment.{Names}
use Rattle.trail_bounds.specs.OnTrail.{is_of}
use Rattle.trail_bounds.specs.Backing.{Follow}

pub is_of_names : (s : Shape) (l : Lit) → Names s l → is_of s l ≡ true
is_of_names s (Atom n r) h = let a = h.literal in let b = h.within in grind (arith, nat_tests)
is_of_names s (Body n r) h = let a = h.literal in let b = h.within in grind (arith, nat_tests)
is_of_names s (Constraint n r) h = let a = h.literal in let b = h.within in grind (arith, nat_tests)
is_of_names s (AtMost x k) h = let a = h.literal.0 in let b = h.within in grind (arith, nat_tests)
is_of_names s (AtLeast x k) h = let a = h.literal.0 in let b = h.within in grind (arith, nat_tests)

pub all_of : (s : Shape) (ls : List Lit) → AllByRecursion (Names s) ls → list_all (is_of s) ls ≡ true
all_of s [] a = refl
all_of s (l ∷ ls) a = rw (is_of_names s l a.0) (all_of s ls a.1)

same_here : (n : ℕ) (s : Bool) (m : Lit) → implies_lit m (Constraint n s) ≡ true → same_lit m (Constraint n s) ≡ true
same_here n s (Atom o q) h = cc
same_here n s (Body o q) h = cc
same_here n s (Constraint o q) h = signs s q h
  where
    signs : (s q : Bool) → implies_lit (Constraint o q) (Constraint n s) ≡ true → same_lit (Constraint o q) (Constraint n s) ≡ true
    signs true true h = grind (arith, nat_tests)
    signs false false h = grind (arith, nat_tests)
    signs true false h = grind (arith, nat_tests)
    signs false true h = grind (arith, nat_tests)
same_here n s (AtMost o q) h = cc
same_here n s (AtLeast o q) h = cc

pub has_from : (n : ℕ) (s : Bool) (ls : List Lit) → list_any (λ m. implies_lit m (Constraint n s)) ls ≡ true → has_lit ls (Constraint n s) ≡ true
has_from n s [] h = h
has_from n s (l ∷ ls) h = cases (implies_lit l (Constraint n s)) refl h (has_from n s ls)
  where
    cases : (b : Bool) → implies_lit l (Constraint n s) ≡ b → (b || list_any (λ m. implies_lit m (Constraint n s)) ls) ≡ true → (list_any (λ m. implies_lit m (Constraint n s)) ls ≡ true → has_lit ls (Constraint n s) ≡ true) → has_lit (l ∷ ls) (Constraint n s) ≡ true
    cases true e f g = rw (same_here n s l e) refl
    cases false e f g = or_right (same_lit l (Constraint n s)) (has_lit ls (Constraint n s)) (g f)
      where
        or_right : (a b : Bool) → b ≡ true → (a || b) ≡ true
        or_right true b h = refl
        or_right false b h = h

stronger_left : (x y l : Lit) → same_place x y ≡ true → implies_lit x l ≡ true → implies_lit (stronger x y) l ≡ true
stronger_left x y l s h = cases (implies_lit x y) refl
  where
    cases : (b : Bool) → implies_lit x y ≡ b → implies_lit (cond b x y) l ≡ true
    cases true e = h
    cases false e = implies_trans y x l (implies_other x y s e) h

stronger_right : (x y l : Lit) → implies_lit y l ≡ true → implies_lit (stronger x y) l ≡ true
stronger_right x y l h = cases (implies_lit x y) refl
  where
    cases : (b : Bool) → implies_lit x y ≡ b → implies_lit (cond b x y) l ≡ true
    cases true e = implies_trans x y l e h
    cases false e = h

or_right : (a b : Bool) → b ≡ true → (a || b) ≡ true
or_right true b h = refl
or_right false b h = h

or_left : (a b : Bool) → a ≡ true → (a || b) ≡ true
or_left a b h = rw h refl

or_map : (a b c d : Bool) → (a ≡ true → c ≡ true) → (b ≡ true → d ≡ true) → (a || b) ≡ true → (c || d) ≡ true
or_map true b c d f g h = or_left c d (f refl)
or_map false b c d f g h = or_right c d (g h)

put_keeps : (l x : Lit) (ls : List Lit) → list_any (λ m. implies_lit m l) ls ≡ true → list_any (λ m. implies_lit m l) (put_lit ls x) ≡ true
put_keeps l x [] h = or_right (implies_lit x l) false h
put_keeps l x (y ∷ ys) h = cases (is_before y x) (same_place y x) refl h (put_keeps l x ys)
  where
    cases : (b s : Bool) → same_place y x ≡ s → (implies_lit y l || list_any (λ m. implies_lit m l) ys) ≡ true → (list_any (λ m. implies_lit m l) ys ≡ true → list_any (λ m. implies_lit m l) (put_lit ys x) ≡ true) → list_any (λ m. implies_lit m l) (cond b (y ∷ put_lit ys x) (cond s (stronger y x ∷ ys) (x ∷ y ∷ ys))) ≡ true
    cases true s e f g = or_map (implies_lit y l) (list_any (λ m. implies_lit m l) ys) (implies_lit y l) (list_any (λ m. implies_lit m l) (put_lit ys x)) (λ z. z) g f
    cases false true e f g = or_map (implies_lit y l) (list_any (λ m. implies_lit m l) ys) (implies_lit (stronger y x) l) (list_any (λ m. implies_lit m l) ys) (stronger_left y x l e) (λ z. z) f
    cases false false e f g = or_right (implies_lit x l) (implies_lit y l || list_any (λ m. implies_lit m l) ys) f

put_gives : (x : Lit) (ls : List Lit) → list_any (λ m. implies_lit m x) (put_lit ls x) ≡ true
put_gives x [] = or_left (implies_lit x x) false (implies_refl x)
put_gives x (y ∷ ys) = cases (is_before y x) (same_place y x) (put_gives x ys)
  where
    cases : (b s : Bool) → list_any (λ m. implies_lit m x) (put_lit ys x) ≡ true → list_any (λ m. implies_lit m x) (cond b (y ∷ put_lit ys x) (cond s (stronger y x ∷ ys) (x ∷ y ∷ ys))) ≡ true
    cases true s g = or_right (implies_lit y x) (list_any (λ m. implies_lit m x) (put_lit ys x)) g
    cases false true g = or_left (implies_lit (stronger y x) x) (list_any (λ m. implies_lit m x) ys) (stronger_right y x x (implies_refl x))
    cases false false g = or_left (implies_lit x x) (implies_lit y x || list_any (λ m. implies_lit m x) ys) (implies_refl x)

joined_keeps : (l : Lit) (ls more : List Lit) → list_any (λ m. implies_lit m l) ls ≡ true → list_any (λ m. implies_lit m l) (joined ls more) ≡ true
joined_keeps l ls [] h = h
joined_keeps l ls (x ∷ xs) h = joined_keeps l (put_lit ls x) xs (put_keeps l x ls h)

pub joined_follow : (ends : Ends) (ls more : List Lit) → Follow ends (joined ls more) more
joined_follow ends ls [] = tt
joined_follow ends ls (x ∷ xs) = (or_right (ends_imply ends x) (list_any (λ m. implies_lit m x) (joined (put_lit ls x) xs)) (joined_keeps x (put_lit ls x) xs (put_gives x ls)), joined_follow ends (put_lit ls x) xs)
