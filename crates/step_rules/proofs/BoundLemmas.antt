-- Variables without a number are among those that literals bound.
use Rattle.std.proofs.Common.{◌≡◌, ◌⊎◌, inl, inr, ◌≤◌, ◌<◌, ◌+◌, ℕ, zero, suc, ◌==◌, nat_le, Bool, true, false, ◌||◌, cond, ℤ, ◌≤ℤ◌, int_lt, List, [], ◌∷◌, refl, sym, ◌∙◌, ap, true≢false, arith}
use Rattle.std.specs.List.{fold, list_any, range_with_len}
use Rattle.std.proofs.lemmas.Bool.{eqb-true}
use Rattle.std.proofs.lemmas.Bool.Decides.{nat_tests}
use Rattle.std.proofs.lemmas.Int.{ints}
use Rattle.ground_model.specs.Members.{IsMember}
use Rattle.ground_model.proofs.Bools.{and_elim, and_intro}
use Rattle.ground_model.proofs.MemberLemmas.{any_member, member_any}
use Rattle.linear_normal.specs.Steps.{is_one_of, is_empty_range}
use Rattle.linear_normal.proofs.ListLemmas.{range_member}
use Rattle.step_rules.specs.inner.Holes.{has_none, leaves_none}
use Rattle.symbols.specs.declared.ends.Ends.{Ends}
use Rattle.literals.specs.declared.lit.Lit.{Lit}
use Rattle.literals.specs.declared.lit.Lit.TheVariants.{Atom, Body, Constraint, AtMost, AtLeast}
use Rattle.literals.specs.Bounds.{lower_after, upper_after}

abbrev names : ℕ → Lit → Bool
names x (AtMost y k) = y == x
names x (AtLeast y k) = y == x
names x other = false

unnamed_low : (x : ℕ) (bound : ℤ) (l : Lit) → names x l ≡ false → lower_after x bound l ≡ bound
unnamed_low x bound (Atom n sign) e = refl
unnamed_low x bound (Body n sign) e = refl
unnamed_low x bound (Constraint n sign) e = refl
unnamed_low x bound (AtMost y k) e = refl
unnamed_low x bound (AtLeast y k) e = rw e refl

unnamed_high : (x : ℕ) (bound : ℤ) (l : Lit) → names x l ≡ false → upper_after x bound l ≡ bound
unnamed_high x bound (Atom n sign) e = refl
unnamed_high x bound (Body n sign) e = refl
unnamed_high x bound (Constraint n sign) e = refl
unnamed_high x bound (AtMost y k) e = rw e refl
unnamed_high x bound (AtLeast y k) e = refl

neither : (b c : Bool) → (b || c) ≡ false → (b ≡ false) × (c ≡ false)
neither true c e = absurd (true≢false e)
neither false c e = (refl, e)

fold_unnamed : (f : ℤ → Lit → ℤ) (x : ℕ) → ((bound : ℤ) (l : Lit) → names x l ≡ false → f bound l ≡ bound) → (bound : ℤ) (lits : List Lit) → list_any (names x) lits ≡ false
    → fold f bound lits ≡ bound
fold_unnamed f x same bound [] e = refl
fold_unnamed f x same bound (l ∷ lits) e =
    let p = neither (names x l) (list_any (names x) lits) e in
    ap (λ b. fold f b lits) (same bound l p.0) ∙ fold_unnamed f x same bound lits p.1

-- a variable that nothing bounds has a number
unnamed_some : (ends : Ends) (lits : List Lit) (x : ℕ) → list_any (names x) lits ≡ false → has_none ends lits x ≡ false
unnamed_some ends lits x e =
    let low = fold_unnamed (lower_after x) x (unnamed_low x) ends.min lits e in
    let high = fold_unnamed (upper_after x) x (unnamed_high x) ends.max lits e in
    rw (low, high) (in_order ends.min ends.max ends.ordered)
  where
    in_order : (a b : ℤ) → a ≤ℤ b → int_lt b a ≡ false
    in_order a b le = grind (arith, nat_tests, ints)

same_test : (ends : Ends) (lits : List Lit) (variables x : ℕ) (l : Lit) → names x l ≡ true → is_one_of variables x ≡ true → has_none ends lits x ≡ true
    → leaves_none ends lits variables l ≡ true
same_test ends lits variables x (AtMost y k) n one none =
    let e = eqb-true y x n in rw e (and_intro (is_one_of variables x) (has_none ends lits x) one none)
same_test ends lits variables x (AtLeast y k) n one none =
    let e = eqb-true y x n in rw e (and_intro (is_one_of variables x) (has_none ends lits x) one none)
same_test ends lits variables x (Atom m sign) n one none = absurd (true≢false (sym n))
same_test ends lits variables x (Body m sign) n one none = absurd (true≢false (sym n))
same_test ends lits variables x (Constraint m sign) n one none = absurd (true≢false (sym n))

variable_of : (ends : Ends) (lits : List Lit) (variables : ℕ) (l : Lit) → leaves_none ends lits variables l ≡ true
    → (x : ℕ) × (is_one_of variables x ≡ true) × (has_none ends lits x ≡ true)
variable_of ends lits variables (AtMost y k) e = let p = and_elim (is_one_of variables y) (has_none ends lits y) e in (y, p.0, p.1)
variable_of ends lits variables (AtLeast y k) e = let p = and_elim (is_one_of variables y) (has_none ends lits y) e in (y, p.0, p.1)
variable_of ends lits variables (Atom m sign) e = absurd (true≢false (sym e))
variable_of ends lits variables (Body m sign) e = absurd (true≢false (sym e))
variable_of ends lits variables (Constraint m sign) e = absurd (true≢false (sym e))

one_low : (last x : ℕ) → is_one_of last x ≡ true → 1 ≤ x
one_low last x e = grind (arith, nat_tests)

one_high : (last x : ℕ) → is_one_of last x ≡ true → x < 1 + last
one_high last x e = grind (arith, nat_tests)

in_range : (a n x : ℕ) → IsMember (range_with_len a n) x → (a ≤ x) × (x < a + n)
in_range a zero x m = absurd m
in_range a (suc n) x (inl same) = (omega (arith, same), omega (arith, same))
in_range a (suc n) x (inr later) = let p = in_range (a + 1) n x later in let l = p.0 in let h = p.1 in (omega (arith, l), omega (arith, h))

is_one : (last x : ℕ) → 1 ≤ x → x < 1 + last → is_one_of last x ≡ true
is_one last x low high = and_intro (nat_le 1 x) (nat_le x last) (grind (arith, nat_tests)) (grind (arith, nat_tests))

both_ways : (a b : Bool) → (a ≡ true → b ≡ true) → (b ≡ true → a ≡ true) → a ≡ b
both_ways true b f g = sym (f refl)
both_ways false true f g = g refl
both_ways false false f g = refl

-- it is enough to look at the variables that literals bound
pub empty_is : (ends : Ends) (lits : List Lit) (variables : ℕ) → is_empty_range ends lits variables ≡ list_any (leaves_none ends lits variables) lits
empty_is ends lits variables = both_ways (is_empty_range ends lits variables) (list_any (leaves_none ends lits variables) lits) there back
  where
    found : (x : ℕ) → is_one_of variables x ≡ true → has_none ends lits x ≡ true → (b : Bool) → list_any (names x) lits ≡ b → list_any (leaves_none ends lits variables) lits ≡ true
    found x one none true e =
        let l = member_any (names x) lits e in
        any_member (leaves_none ends lits variables) lits l.0 l.1 (same_test ends lits variables x l.0 l.2 one none)
    found x one none false e = absurd (true≢false (sym none ∙ unnamed_some ends lits x e))

    there : is_empty_range ends lits variables ≡ true → list_any (leaves_none ends lits variables) lits ≡ true
    there e =
        let m = member_any (has_none ends lits) (range_with_len 1 variables) e in
        let r = in_range 1 variables m.0 m.1 in
        found m.0 (is_one variables m.0 r.0 r.1) m.2 (list_any (names m.0) lits) refl

    back : list_any (leaves_none ends lits variables) lits ≡ true → is_empty_range ends lits variables ≡ true
    back e =
        let m = member_any (leaves_none ends lits variables) lits e in
        let v = variable_of ends lits variables m.0 m.2 in
        any_member (has_none ends lits) (range_with_len 1 variables) v.0
        (range_member 1 variables v.0 (one_low variables v.0 v.1) (one_high variables v.0 v.1)) v.2
