-- The literal at a place of a sorted list: after one more, after one less, and what sorted lists with the same ones are.
use Rattle.std.proofs.Common.{◌≡◌, ◌||◌, ◌⊎◌, inl, inr, Bool, true, false, not, cond, IsTrue, List, [], ◌∷◌, Option, None, Some, refl, sym, ◌∙◌, ap, subst, arith}
use Rattle.std.specs.List.{AllByRecursion, find}
use Rattle.std.proofs.lemmas.Bool.Decides.{nat_tests}
use Rattle.std.proofs.lemmas.Int.{ints}
use Rattle.literals.specs.declared.lit.Lit.{Lit}
use Rattle.literals.specs.declared.lit.Lit.TheVariants.{Atom, Body, Constraint, AtMost, AtLeast}
use Rattle.literals.specs.Lits.{implies_lit, same_lit, complement_of}
use Rattle.literals.specs.Nogoods.{is_before, same_place, Rises, stronger, put_lit, joined, canonical, has_lit, without, answers, resolvent}
use Rattle.literals.proofs.OrderLaws.{before_apart, before_other, same_trans, same_sym, before_trans}
use Rattle.literals.proofs.LitLaws.{same_refl, same_lit-equal}
use Rattle.literals.proofs.Puts.{put_behind, put_same, put_front, all_put, all_joined, rises_joined, rises_canonical}
use Rattle.literals.proofs.SameLaws.{same_nogood}
use Rattle.nogood_store.proofs.Members.{holds_of}
use Rattle.conflict_analysis.specs.Marked.{standing}

clash : {X : Type 0} → true ≡ false → X
clash h = cc

pub place_own : (l : Lit) → same_place l l ≡ true
place_own l = grind (arith, nat_tests)

pub implies_place : (a b : Lit) → implies_lit a b ≡ true → same_place a b ≡ true
implies_place (Atom n s) (Atom m r) = λ h. grind (arith, nat_tests)
implies_place (Body n s) (Body m r) = λ h. grind (arith, nat_tests)
implies_place (Constraint n s) (Constraint m r) = λ h. grind (arith, nat_tests)
implies_place (AtMost x k) (AtMost y j) = λ h. grind (arith, nat_tests, ints)
implies_place (AtLeast x k) (AtLeast y j) = λ h. grind (arith, nat_tests, ints)
implies_place _ _ = λ h. cc

-- the literals of a place are of one kind of the same thing, so a stronger one is of it too
stronger_place : (x l m : Lit) → same_place x m ≡ true → same_place l m ≡ true → same_place (stronger x l) m ≡ true
stronger_place x l m h e = cases (implies_lit x l)
  where
    cases : (b : Bool) → same_place (cond b x l) m ≡ true
    cases true = h
    cases false = e

stronger_apart : (x l m : Lit) → same_place x m ≡ false → same_place l m ≡ false → same_place (stronger x l) m ≡ false
stronger_apart x l m h e = cases (implies_lit x l)
  where
    cases : (b : Bool) → same_place (cond b x l) m ≡ false
    cases true = h
    cases false = e

-- what stands at a place once this one comes
abbrev pub stronger_on : Option Lit → Lit → Lit
stronger_on None m = m
stronger_on (Some x) m = stronger x m

none_behind : (x l : Lit) (xs : List Lit) → AllByRecursion (λ m. IsTrue (is_before x m)) xs → same_place x l ≡ true → standing xs l ≡ None
none_behind x l [] a h = refl
none_behind x l (y ∷ ys) a h = rw (other (same_place y l) refl) (none_behind x l ys a.1 h)
  where
    other : (b : Bool) → same_place y l ≡ b → same_place y l ≡ false
    other true e = clash (sym (same_trans x l y h (same_sym y l e)) ∙ sym (sym (place_flip x y (before_apart x y a.0))))
      where
        place_flip : (p q : Lit) → same_place q p ≡ false → same_place p q ≡ false
        place_flip p q f = grind (arith, nat_tests)
    other false e = e

front_behind : (l x : Lit) (xs : List Lit) → is_before l x ≡ true → AllByRecursion (λ m. IsTrue (is_before x m)) xs → AllByRecursion (λ m. IsTrue (is_before l m)) xs
front_behind l x [] b a = tt
front_behind l x (y ∷ ys) b a = (before_trans l x y b a.0, front_behind l x ys b a.1)

place_eq : (a b m : Lit) → same_place a b ≡ true → same_place a m ≡ same_place b m
place_eq a b m h = grind (arith, nat_tests)

before_place : (x m : Lit) → is_before x m ≡ true → same_place x m ≡ false
before_place x m h = grind (arith, nat_tests)

-- one more literal
pub standing-put : (xs : List Lit) (m l : Lit) → Rises xs → standing (put_lit xs m) l ≡ cond (same_place m l) (Some (stronger_on (standing xs m) m)) (standing xs l)
standing-put [] m l r = refl
standing-put (x ∷ xs) m l r = cases (is_before x m) (same_place x m) refl refl (standing-put xs m l r.1)
  where
    cases : (b s : Bool) → is_before x m ≡ b → same_place x m ≡ s → standing (put_lit xs m) l ≡ cond (same_place m l) (Some (stronger_on (standing xs m) m)) (standing xs l) → standing (put_lit (x ∷ xs) m) l ≡ cond (same_place m l) (Some (stronger_on (standing (x ∷ xs) m) m)) (standing (x ∷ xs) l)
    cases true s eb es ih =
        let apart : same_place x m ≡ false = before_place x m eb in
        ap (λ ys. standing ys l) (put_behind x xs m eb)
        ∙ ap (λ o. cond (same_place x l) (Some x) o) ih
        ∙ split apart (same_place x l) (same_place m l) refl refl
      where
        split : same_place x m ≡ false → (p q : Bool) → same_place x l ≡ p → same_place m l ≡ q → cond p (Some x) (cond q (Some (stronger_on (standing xs m) m)) (standing xs l)) ≡ cond q (Some (stronger_on (cond (same_place x m) (Some x) (standing xs m)) m)) (cond p (Some x) (standing xs l))
        split a true true ep eq = clash (sym (same_trans x l m ep (same_sym m l eq)) ∙ a)
        split a true false ep eq = refl
        split a false true ep eq = rw a refl
        split a false false ep eq = refl
    cases false true eb es ih = ap (λ ys. standing ys l) (put_same x xs m eb es) ∙ split (same_place x l) (same_place m l) refl refl
      where
        split : (p q : Bool) → same_place x l ≡ p → same_place m l ≡ q → cond (same_place (stronger x m) l) (Some (stronger x m)) (standing xs l) ≡ cond q (Some (stronger_on (cond (same_place x m) (Some x) (standing xs m)) m)) (cond p (Some x) (standing xs l))
        split true true ep eq = rw (stronger_place x m l ep eq, es) refl
        split false false ep eq = rw (stronger_apart x m l ep eq) refl
        split true false ep eq = clash (sym (sym (place_eq x m l es) ∙ ep) ∙ eq)
        split false true ep eq = clash (sym (place_eq x m l es ∙ eq) ∙ ep)
    cases false false eb es ih =
        let first : is_before m x ≡ true = before_other x m eb es in
        let none : standing xs m ≡ None = none_behind m m xs (front_behind m x xs first r.0) (place_own m) in
        ap (λ ys. standing ys l) (put_front x xs m eb es)
        ∙ split none (same_place m l)
      where
        split : standing xs m ≡ None → (q : Bool) → cond q (Some m) (standing (x ∷ xs) l) ≡ cond q (Some (stronger_on (cond (same_place x m) (Some x) (standing xs m)) m)) (standing (x ∷ xs) l)
        split n true = rw (es, n) refl
        split n false = refl

shut_some : {X : Type 0} {l : Lit} → None ≡ Some l → X
shut_some h = cc

pub standing_is : (xs : List Lit) (l m : Lit) → standing xs l ≡ Some m → (has_lit xs m ≡ true) × (same_place m l ≡ true)
standing_is [] l m h = shut_some h
standing_is (x ∷ xs) l m h = cases (same_place x l) refl h (standing_is xs l m)
  where
    first : x ≡ m → has_lit (x ∷ xs) m ≡ true
    first e = rw e (rw (same_refl m) refl)

    later : (b : Bool) → has_lit xs m ≡ true → (b || has_lit xs m) ≡ true
    later true e = refl
    later false e = e

    cases : (b : Bool) → same_place x l ≡ b → cond b (Some x) (standing xs l) ≡ Some m → (standing xs l ≡ Some m → (has_lit xs m ≡ true) × (same_place m l ≡ true)) → (has_lit (x ∷ xs) m ≡ true) × (same_place m l ≡ true)
    cases true e f rest = let same : x ≡ m = cc in (first same, ap (λ y. same_place y l) (sym same) ∙ e)
    cases false e f rest = let both = rest f in (later (same_lit x m) both.0, both.1)

pub has_standing : (xs : List Lit) (l : Lit) → Rises xs → has_lit xs l ≡ true → standing xs l ≡ Some l
has_standing [] l r h = clash (sym h)
has_standing (x ∷ xs) l r h = cases (same_lit x l) refl h (λ f. has_standing xs l r.1 f)
  where
    cases : (b : Bool) → same_lit x l ≡ b → (b || has_lit xs l) ≡ true → (has_lit xs l ≡ true → standing xs l ≡ Some l) → standing (x ∷ xs) l ≡ Some l
    cases true e f rest = let same : x ≡ l = same_lit-equal x l e in rw (ap (λ y. same_place y l) same ∙ place_own l) (ap Some same)
    cases false e f rest = rw (before_place x l (holds_of (λ m. IsTrue (is_before x m)) xs l r.0 f)) (rest f)

pub standing_place : (xs : List Lit) (a b : Lit) → same_place a b ≡ true → standing xs a ≡ standing xs b
standing_place [] a b h = refl
standing_place (x ∷ xs) a b h = ap (λ c. cond c (Some x) (standing xs a)) (flip x) ∙ ap (λ o. cond (same_place x b) (Some x) o) (standing_place xs a b h)
  where
    flip : (x : Lit) → same_place x a ≡ same_place x b
    flip x = grind (arith, nat_tests)

some_same : {a b : Lit} → Some a ≡ Some b → a ≡ b
some_same e = cc

-- a sorted list has one literal at a place
pub place_unique : (xs : List Lit) (a b : Lit) → Rises xs → has_lit xs a ≡ true → has_lit xs b ≡ true → same_place a b ≡ true → a ≡ b
place_unique xs a b r h e p = some_same (sym (has_standing xs a r h) ∙ standing_place xs a b p ∙ has_standing xs b r e)

not_same : (x p : Lit) → is_before x p ≡ true → same_lit x p ≡ false
not_same x p h = cases (same_lit x p) refl
  where
    cases : (b : Bool) → same_lit x p ≡ b → same_lit x p ≡ false
    cases true e = clash (sym (ap (λ y. same_place y p) (same_lit-equal x p e) ∙ place_own p) ∙ before_place x p h)
    cases false e = e

not_same_back : (p x : Lit) → is_before p x ≡ true → same_lit x p ≡ false
not_same_back p x h = cases (same_lit x p) refl
  where
    cases : (b : Bool) → same_lit x p ≡ b → same_lit x p ≡ false
    cases true e = clash (sym (ap (same_place p) (same_lit-equal x p e) ∙ place_own p) ∙ before_place p x h)
    cases false e = e

without_behind : (p : Lit) (xs : List Lit) → AllByRecursion (λ m. IsTrue (is_before p m)) xs → without xs p ≡ xs
without_behind p [] a = refl
without_behind p (x ∷ xs) a = rw (not_same_back p x a.0) (ap (λ ys. x ∷ ys) (without_behind p xs a.1))

-- one literal less
pub standing-without : (xs : List Lit) (p l : Lit) → Rises xs → standing xs p ≡ Some p → standing (without xs p) l ≡ cond (same_place p l) None (standing xs l)
standing-without [] p l r h = shut_some h
standing-without (x ∷ xs) p l r h = cases (same_lit x p) refl (λ e. standing-without xs p l r.1 e)
  where
    gone : x ≡ p → (q : Bool) → same_place p l ≡ q → standing xs l ≡ cond q None (cond (same_place x l) (Some x) (standing xs l))
    gone same true e = none_behind x l xs r.0 (ap (λ y. same_place y l) same ∙ e)
    gone same false e = rw (ap (λ y. same_place y l) same ∙ e) refl

    deeper : (a : Bool) → same_place x p ≡ a → cond a (Some x) (standing xs p) ≡ Some p → same_lit x p ≡ false → (same_place x p ≡ false) × (standing xs p ≡ Some p)
    deeper true e f s = let same : x ≡ p = cc in clash (sym (ap (λ y. same_lit y p) same ∙ same_refl p) ∙ s)
    deeper false e f s = (e, f)

    keeps : same_place x p ≡ false → (a q : Bool) → same_place x l ≡ a → same_place p l ≡ q → cond a (Some x) (cond q None (standing xs l)) ≡ cond q None (cond a (Some x) (standing xs l))
    keeps apart true true ea eq = clash (sym (same_trans x l p ea (same_sym p l eq)) ∙ apart)
    keeps apart true false ea eq = refl
    keeps apart false q ea eq = refl

    cases : (b : Bool) → same_lit x p ≡ b → (standing xs p ≡ Some p → standing (without xs p) l ≡ cond (same_place p l) None (standing xs l)) → standing (cond (not b) (x ∷ without xs p) (without xs p)) l ≡ cond (same_place p l) None (standing (x ∷ xs) l)
    cases true e rest =
        let same : x ≡ p = same_lit-equal x p e in
        ap (λ ys. standing ys l) (ap (without xs) (sym same) ∙ without_behind x xs r.0) ∙ gone same (same_place p l) refl
    cases false e rest =
        let both = deeper (same_place x p) refl h e in
        ap (λ o. cond (same_place x l) (Some x) o) (rest both.1) ∙ keeps both.0 (same_place x l) (same_place p l) refl refl

stronger_own : (l : Lit) → stronger l l ≡ l
stronger_own l = cases (implies_lit l l)
  where
    cases : (b : Bool) → cond b l l ≡ l
    cases true = refl
    cases false = refl

-- what is of a sorted list, put together in any order and more than once, is that list
abbrev pub AreOf : List Lit → List Lit → Type 0
AreOf xs ys = AllByRecursion (λ y. has_lit xs y ≡ true) ys

put_keeps : (xs ys : List Lit) (m l : Lit) → Rises xs → Rises ys → has_lit xs m ≡ true → has_lit xs l ≡ true → standing ys l ≡ Some l → standing (put_lit ys m) l ≡ Some l
put_keeps xs ys m l r s hm hl e = standing-put ys m l s ∙ cases (same_place m l) refl
  where
    cases : (b : Bool) → same_place m l ≡ b → cond b (Some (stronger_on (standing ys m) m)) (standing ys l) ≡ Some l
    cases true f =
        let same : m ≡ l = place_unique xs m l r hm hl f in
        ap (λ y. Some (stronger_on (standing ys y) y)) same ∙ ap (λ o. Some (stronger_on o l)) e ∙ ap Some (stronger_own l)
    cases false f = e

put_adds : (xs ys : List Lit) (m : Lit) → Rises xs → Rises ys → AreOf xs ys → has_lit xs m ≡ true → standing (put_lit ys m) m ≡ Some m
put_adds xs ys m r s a hm = standing-put ys m m s ∙ rw (place_own m) (cases (standing ys m) refl)
  where
    cases : (o : Option Lit) → standing ys m ≡ o → Some (stronger_on o m) ≡ Some m
    cases None e = refl
    cases (Some x) e =
        let both = standing_is ys m x e in
        let same : x ≡ m = place_unique xs x m r (holds_of (λ y. has_lit xs y ≡ true) ys x a both.0) hm both.1 in
        ap (λ y. Some (stronger y m)) same ∙ ap Some (stronger_own m)

joined_has : (xs ys zs : List Lit) (l : Lit) → Rises xs → Rises ys → AreOf xs ys → AreOf xs zs → has_lit xs l ≡ true → (standing ys l ≡ Some l) ⊎ (has_lit zs l ≡ true) → standing (joined ys zs) l ≡ Some l
joined_has xs ys [] l r s a b h (inl e) = e
joined_has xs ys [] l r s a b h (inr e) = clash (sym e)
joined_has xs ys (z ∷ zs) l r s a b h e = cases e (λ f. joined_has xs (put_lit ys z) zs l r (rises_joined ys (z ∷ []) s) (all_put (λ y. has_lit xs y ≡ true) ys z a b.0) b.1 h f)
  where
    later : (t : Bool) → same_lit z l ≡ t → (t || has_lit zs l) ≡ true → (standing (put_lit ys z) l ≡ Some l) ⊎ (has_lit zs l ≡ true)
    later true f g = inl (subst (λ (y : Lit). standing (put_lit ys z) y ≡ Some y) (same_lit-equal z l f) (put_adds xs ys z r s a b.0))
    later false f g = inr g

    cases : (standing ys l ≡ Some l) ⊎ (has_lit (z ∷ zs) l ≡ true) → ((standing (put_lit ys z) l ≡ Some l) ⊎ (has_lit zs l ≡ true) → standing (joined (put_lit ys z) zs) l ≡ Some l) → standing (joined ys (z ∷ zs)) l ≡ Some l
    cases (inl f) rest = rest (inl (put_keeps xs ys z l r s b.0 h f))
    cases (inr f) rest = rest (later (same_lit z l) refl f)

pub canonical_of : (xs zs : List Lit) → Rises xs → AreOf xs zs → ((l : Lit) → has_lit xs l ≡ true → has_lit zs l ≡ true) → canonical zs ≡ xs
canonical_of xs zs r a f =
    same_nogood (canonical zs) xs (rises_canonical zs) r
    (λ l h. holds_of (λ y. has_lit xs y ≡ true) (canonical zs) l (all_joined (λ y. has_lit xs y ≡ true) [] zs tt a) h)
    (λ l h. (standing_is (canonical zs) l l (joined_has xs [] zs l r tt tt a h (inr (f l h)))).0)

opposite_place : (a b : Lit) → same_place (complement_of a) (complement_of b) ≡ same_place a b
opposite_place (Atom n true) (Atom m true) = grind (arith, nat_tests)
opposite_place (Atom n true) (Atom m false) = grind (arith, nat_tests)
opposite_place (Atom n false) (Atom m true) = grind (arith, nat_tests)
opposite_place (Atom n false) (Atom m false) = grind (arith, nat_tests)
opposite_place (Body n true) (Body m true) = grind (arith, nat_tests)
opposite_place (Body n true) (Body m false) = grind (arith, nat_tests)
opposite_place (Body n false) (Body m true) = grind (arith, nat_tests)
opposite_place (Body n false) (Body m false) = grind (arith, nat_tests)
opposite_place (Constraint n true) (Constraint m true) = grind (arith, nat_tests)
opposite_place (Constraint n true) (Constraint m false) = grind (arith, nat_tests)
opposite_place (Constraint n false) (Constraint m true) = grind (arith, nat_tests)
opposite_place (Constraint n false) (Constraint m false) = grind (arith, nat_tests)
opposite_place (AtMost x k) (AtMost y j) = grind (arith, nat_tests)
opposite_place (AtMost x k) (AtLeast y j) = grind (arith, nat_tests)
opposite_place (AtLeast x k) (AtMost y j) = grind (arith, nat_tests)
opposite_place (AtLeast x k) (AtLeast y j) = grind (arith, nat_tests)
opposite_place _ _ = refl

answers_place : (p q x : Lit) → answers p q ≡ true → answers p x ≡ true → same_place x q ≡ true
answers_place p q x h e =
    sym (opposite_place x q) ∙ same_trans (complement_of x) p (complement_of q) (implies_place (complement_of x) p e) (same_sym (complement_of q) p (implies_place (complement_of q) p h))

-- a sorted list has one answer to a pivot
find_answer : (p q : Lit) (xs : List Lit) → Rises xs → has_lit xs q ≡ true → answers p q ≡ true → find (answers p) xs ≡ Some q
find_answer p q [] r h e = clash (sym h)
find_answer p q (x ∷ xs) r h e = cases (answers p x) refl (same_lit x q) refl h (λ f. find_answer p q xs r.1 f e)
  where
    cases : (b : Bool) → answers p x ≡ b → (c : Bool) → same_lit x q ≡ c → (c || has_lit xs q) ≡ true → (has_lit xs q ≡ true → find (answers p) xs ≡ Some q) → cond b (Some x) (find (answers p) xs) ≡ Some q
    cases true eb true ec f rest = ap Some (same_lit-equal x q ec)
    cases true eb false ec f rest = clash (sym (answers_place p q x e eb) ∙ before_place x q (holds_of (λ m. IsTrue (is_before x m)) xs q r.0 f))
    cases false eb true ec f rest = clash (sym (ap (answers p) (same_lit-equal x q ec) ∙ e) ∙ eb)
    cases false eb false ec f rest = rest f

pub resolvent_at : (left right : List Lit) (p q : Lit) → has_lit left p ≡ true → Rises right → has_lit right q ≡ true → answers p q ≡ true → resolvent left p right ≡ Some (joined (without left p) (without right q))
resolvent_at left right p q h r e a = rw (h, find_answer p q right r e a) refl
