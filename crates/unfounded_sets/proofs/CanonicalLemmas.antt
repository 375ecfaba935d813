-- Literals about atoms and bodies stay in the sorted list for literals, and an atom that stands before bodies stays first.
use Rattle.std.proofs.Common.{◌≡◌, ℕ, ◌+◌, ◌*◌, ◌==◌, Bool, true, false, cond, ◌||◌, List, [], ◌∷◌, refl, sym, ◌∙◌, ap, subst, true≢false, eqb-true, arith, inl, inr, Some, slice_get, IsTrue}
use Rattle.std.specs.List.{AllByRecursion}
use Rattle.literals.specs.declared.lit.Lit.{Lit}
use Rattle.literals.specs.declared.lit.Lit.TheVariants as l
use Rattle.literals.specs.Lits.{implies_lit, same_lit}
use Rattle.literals.specs.Nogoods.{kind_of, index_of, is_before, same_place, stronger, put_lit, joined, canonical, has_lit}
use Rattle.literals.proofs.LitLaws.{same_refl, same_lit-equal}
use Rattle.literals.proofs.Puts.{put_behind, put_same, put_front, joined_behind}
use Rattle.ground_model.specs.Members.{IsMember}
use Rattle.ground_model.proofs.MemberLemmas.{same_nat}
use Rattle.ground_model.proofs.Bools.{and_elim, and_intro, or_left, or_right}
use Rattle.completion.specs.Inputs.{all_false}

-- the literal is about an atom or a body
abbrev pub IsPlain : Lit → Type 0
IsPlain (l.Atom n sign) = Unit {0}
IsPlain (l.Body n sign) = Unit {0}
IsPlain lit = ⊥

index_one : (n m : ℕ) (s r : Bool) → (2 * n + cond s 0 1 == 2 * m + cond r 0 1) ≡ true → (n ≡ m) × (s ≡ r)
index_one n m true true e = (let h = eqb-true (2 * n + 0) (2 * m + 0) e in omega (arith, h), refl)
index_one n m true false e = absurd (let h = eqb-true (2 * n + 0) (2 * m + 1) e in omega (arith, h))
index_one n m false true e = absurd (let h = eqb-true (2 * n + 1) (2 * m + 0) e in omega (arith, h))
index_one n m false false e = (let h = eqb-true (2 * n + 1) (2 * m + 1) e in omega (arith, h), refl)

-- only itself has the place of such a literal
place_plain : (x lit : Lit) → IsPlain lit → same_place x lit ≡ true → x ≡ lit
place_plain (l.Atom n s) (l.Atom m r) p e = let i = index_one n m s r e in subst (λ k. l.Atom n s ≡ l.Atom k r) i.0 (ap (l.Atom n) i.1)
place_plain (l.Body n s) (l.Atom m r) p e = absurd (true≢false (sym e))
place_plain (l.Constraint n s) (l.Atom m r) p e = absurd (true≢false (sym e))
place_plain (l.AtMost x k) (l.Atom m r) p e = absurd (true≢false (sym e))
place_plain (l.AtLeast x k) (l.Atom m r) p e = absurd (true≢false (sym e))
place_plain (l.Atom n s) (l.Body m r) p e = absurd (true≢false (sym e))
place_plain (l.Body n s) (l.Body m r) p e = let i = index_one n m s r e in subst (λ k. l.Body n s ≡ l.Body k r) i.0 (ap (l.Body n) i.1)
place_plain (l.Constraint n s) (l.Body m r) p e = absurd (true≢false (sym e))
place_plain (l.AtMost x k) (l.Body m r) p e = absurd (true≢false (sym e))
place_plain (l.AtLeast x k) (l.Body m r) p e = absurd (true≢false (sym e))
place_plain x (l.Constraint m r) p e = absurd p
place_plain x (l.AtMost y k) p e = absurd p
place_plain x (l.AtLeast y k) p e = absurd p

place_turned : (x y : Lit) → same_place x y ≡ true → same_place y x ≡ true
place_turned x y e =
    let p = and_elim (kind_of x == kind_of y) (index_of x == index_of y) e in
    and_intro (kind_of y == kind_of x) (index_of y == index_of x) (turned (kind_of x) (kind_of y) p.0) (turned (index_of x) (index_of y) p.1)
  where
    turned : (i j : ℕ) → (i == j) ≡ true → (j == i) ≡ true
    turned i j h = same_nat j i (sym (eqb-true i j h))

-- it is the stronger of itself and itself
own_stronger : (lit : Lit) → stronger lit lit ≡ lit
own_stronger lit = one (implies_lit lit lit)
  where
    one : (b : Bool) → cond b lit lit ≡ lit
    one true = refl
    one false = refl

has_first : (x : Lit) (xs : List Lit) → has_lit (x ∷ xs) x ≡ true
has_first x xs = or_left (same_lit x x) (has_lit xs x) (same_refl x)

has_later : (x m : Lit) (xs : List Lit) → has_lit xs m ≡ true → has_lit (x ∷ xs) m ≡ true
has_later x m xs h = or_right (same_lit x m) (has_lit xs m) h

-- what is put in is there
put_has : (xs : List Lit) (lit : Lit) → IsPlain lit → has_lit (put_lit xs lit) lit ≡ true
put_has [] lit p = has_first lit []
put_has (x ∷ xs) lit p = go (put_has xs lit p) (is_before x lit) refl (same_place x lit) refl
  where
    go : has_lit (put_lit xs lit) lit ≡ true → (b : Bool) → is_before x lit ≡ b → (c : Bool) → same_place x lit ≡ c → has_lit (put_lit (x ∷ xs) lit) lit ≡ true
    go rec true e c f = ap (λ ys. has_lit ys lit) (put_behind x xs lit e) ∙ has_later x lit (put_lit xs lit) rec
    go rec false e true f =
        ap (λ ys. has_lit ys lit) (put_same x xs lit e f) ∙ ap (λ y. has_lit (y ∷ xs) lit) (ap (λ y. stronger y lit) (place_plain x lit p f) ∙ own_stronger lit) ∙ has_first lit xs
    go rec false e false f = ap (λ ys. has_lit ys lit) (put_front x xs lit e f) ∙ has_first lit (x ∷ xs)

-- what is there stays
put_keeps : (xs : List Lit) (lit m : Lit) → IsPlain m → has_lit xs m ≡ true → has_lit (put_lit xs lit) m ≡ true
put_keeps [] lit m p h = absurd (true≢false (sym h))
put_keeps (x ∷ xs) lit m p h = go (λ k. put_keeps xs lit m p k) (is_before x lit) refl (same_place x lit) refl (same_lit x m) refl h
  where
    place_own : (y : Lit) → same_place m y ≡ true → y ≡ m
    place_own y e = place_plain y m p (place_turned m y e)

    go : (has_lit xs m ≡ true → has_lit (put_lit xs lit) m ≡ true) → (b : Bool) → is_before x lit ≡ b → (c : Bool) → same_place x lit ≡ c → (d : Bool) → same_lit x m ≡ d → (d || has_lit xs m) ≡ true → has_lit (put_lit (x ∷ xs) lit) m ≡ true
    go rec true e c f true g k = ap (λ ys. has_lit ys m) (put_behind x xs lit e) ∙ or_left (same_lit x m) (has_lit (put_lit xs lit) m) g
    go rec true e c f false g k = ap (λ ys. has_lit ys m) (put_behind x xs lit e) ∙ has_later x m (put_lit xs lit) (rec k)
    go rec false e true f true g k =
        let same = same_lit-equal x m g in
        let own = place_own lit (subst (λ y. same_place y lit ≡ true) same f) in
        ap (λ ys. has_lit ys m) (put_same x xs lit e f) ∙ ap (λ y. has_lit (y ∷ xs) m) (ap (λ y. stronger y lit) same ∙ ap (stronger m) own ∙ own_stronger m) ∙ has_first m xs
    go rec false e true f false g k = ap (λ ys. has_lit ys m) (put_same x xs lit e f) ∙ has_later (stronger x lit) m xs k
    go rec false e false f true g k = ap (λ ys. has_lit ys m) (put_front x xs lit e f) ∙ has_later lit m (x ∷ xs) (or_left (same_lit x m) (has_lit xs m) g)
    go rec false e false f false g k = ap (λ ys. has_lit ys m) (put_front x xs lit e f) ∙ has_later lit m (x ∷ xs) (has_later x m xs k)

joined_keeps : (xs ys : List Lit) (m : Lit) → IsPlain m → has_lit xs m ≡ true → has_lit (joined xs ys) m ≡ true
joined_keeps xs [] m p h = h
joined_keeps xs (y ∷ ys) m p h = joined_keeps (put_lit xs y) ys m p (put_keeps xs y m p h)

joined_has : (xs ys : List Lit) (m : Lit) → IsPlain m → IsMember ys m → has_lit (joined xs ys) m ≡ true
joined_has xs [] m p k = absurd k
joined_has xs (y ∷ ys) m p (inl e) = joined_keeps (put_lit xs y) ys m p (subst (λ z. has_lit (put_lit xs z) m ≡ true) e (put_has xs m p))
joined_has xs (y ∷ ys) m p (inr k) = joined_has (put_lit xs y) ys m p k

-- each literal about an atom or a body that stands in a list stands in the sorted list
pub canonical_has : (ys : List Lit) (m : Lit) → IsPlain m → IsMember ys m → has_lit (canonical ys) m ≡ true
canonical_has ys m p k = joined_has [] ys m p k

bodies_behind : (a : ℕ) (sign : Bool) (bodies : List ℕ) → AllByRecursion (λ m. IsTrue (is_before (l.Atom a sign) m)) (all_false bodies)
bodies_behind a sign [] = tt
bodies_behind a sign (b ∷ bodies) = (refl, bodies_behind a sign bodies)

-- the atom comes first
pub atom_first : (a : ℕ) (sign : Bool) (bodies : List ℕ) → slice_get (canonical (l.Atom a sign ∷ all_false bodies)) 0 ≡ Some (l.Atom a sign)
atom_first a sign bodies = ap (λ ys. slice_get ys 0) (joined_behind (l.Atom a sign) [] (all_false bodies) (bodies_behind a sign bodies))
