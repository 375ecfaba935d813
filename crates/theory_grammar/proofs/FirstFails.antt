-- Which check fails first in a theory atom.
use Rattle.std.proofs.Common.{◌≡◌, ℕ, ◌<◌, ◌==◌, nat_lt, Bool, true, false, ◌||◌, ◌&&◌, if◌then◌else◌, List, [], ◌∷◌, ◌++◌, Option, Some, None, refl, sym, ◌∙◌, ap, arith}
use Rattle.std.proofs.lemmas.Bool.{eqb-true, ltb-true, ltb-false, lt-ltb, le-ltb}
use Rattle.grammar.specs.declared.check.Check.TheVariants.{BadTerm}
use Rattle.grammar.specs.declared.check.Failing.{Failing}
use Rattle.grammar.specs.Check.{rank, comes_before, sooner, first_of, bad_terms}
use Rattle.theory_grammar.specs.State.{least}
use Rattle.theory_grammar.specs.TheoryParts.{with_bad}

abbrev bad : ℕ → Failing
bad at = record { check = BadTerm; at = at }

pub first_append : (so_far : Option Failing) (xs ys : List Failing) → first_of so_far (xs ++ ys) ≡ first_of (first_of so_far xs) ys
first_append so_far [] ys = refl
first_append so_far (x ∷ xs) ys = first_append (sooner so_far x) xs ys

and_false : (b : Bool) → (b && false) ≡ false
and_false true = refl
and_false false = refl

or_false : (b : Bool) → (b || false) ≡ b
or_false true = refl
or_false false = refl

-- of two bad terms the one at the lesser place
bad_before : (x y : ℕ) → comes_before (bad x) (bad y) ≡ nat_lt x y
bad_before x y = ap (λ b. nat_lt x y || b) (and_false (x == y)) ∙ or_false (nat_lt x y)

-- a bad term at a lesser place than one that comes before comes before too
earlier : (x b : ℕ) (f : Failing) → nat_lt x b ≡ true → comes_before (bad b) f ≡ true → comes_before (bad x) f ≡ true
earlier x b f less before = by (nat_lt b f.at) refl (b == f.at) refl before
  where
    sooner_place : x < f.at → comes_before (bad x) f ≡ true
    sooner_place h = let e : nat_lt x f.at ≡ true = lt-ltb x f.at h in ap (λ p. p || ((x == f.at) && nat_lt 3 (rank f.check))) e

    by : (p : Bool) → nat_lt b f.at ≡ p → (q : Bool) → (b == f.at) ≡ q → (p || (q && nat_lt 3 (rank f.check))) ≡ true → comes_before (bad x) f ≡ true
    by true e q d h = sooner_place (omega (arith, ltb-true x b less, ltb-true b f.at e))
    by false e true d h = sooner_place (omega (arith, ltb-true x b less, eqb-true b f.at d))
    by false e false d h = absurd cc

-- a bad term at no lesser place than one that does not come before does not either
later : (x b : ℕ) (f : Failing) → nat_lt x b ≡ false → comes_before (bad b) f ≡ false → comes_before (bad x) f ≡ false
later x b f less before = by (nat_lt b f.at) refl (x == f.at) refl before
  where
    by : (p : Bool) → nat_lt b f.at ≡ p → (q : Bool) → (x == f.at) ≡ q → (p || ((b == f.at) && nat_lt 3 (rank f.check))) ≡ false → comes_before (bad x) f ≡ false
    by true e q d h = absurd cc
    by false e false d h = let l : nat_lt x f.at ≡ false = le-ltb x f.at (omega (arith, ltb-false x b less, ltb-false b f.at e)) in ap (λ p. p || ((x == f.at) && nat_lt 3 (rank f.check))) l ∙ ap (λ q. q && nat_lt 3 (rank f.check)) d
    by false e true d h =
        let same : x ≡ b = omega (arith, ltb-false x b less, ltb-false b f.at e, eqb-true x f.at d) in
        ap (λ n. comes_before (bad n) f) same ∙ before

sooner_less : (o : Option Failing) (b x : ℕ) → nat_lt x b ≡ true → sooner (sooner o (bad b)) (bad x) ≡ sooner o (bad x)
sooner_less None b x h = ap (λ p. if p then Some (bad x) else Some (bad b)) (bad_before x b ∙ h)
sooner_less (Some f) b x h = by (comes_before (bad b) f) refl
  where
    by : (p : Bool) → comes_before (bad b) f ≡ p → sooner (if p then Some (bad b) else Some f) (bad x) ≡ sooner (Some f) (bad x)
    by true e = ap (λ p. if p then Some (bad x) else Some (bad b)) (bad_before x b ∙ h) ∙ sym (ap (λ p. if p then Some (bad x) else Some f) (earlier x b f h e))
    by false e = refl

sooner_more : (o : Option Failing) (b x : ℕ) → nat_lt x b ≡ false → sooner (sooner o (bad b)) (bad x) ≡ sooner o (bad b)
sooner_more None b x h = ap (λ p. if p then Some (bad x) else Some (bad b)) (bad_before x b ∙ h)
sooner_more (Some f) b x h = by (comes_before (bad b) f) refl
  where
    by : (p : Bool) → comes_before (bad b) f ≡ p → sooner (if p then Some (bad b) else Some f) (bad x) ≡ (if p then Some (bad b) else Some f)
    by true e = ap (λ p. if p then Some (bad x) else Some (bad b)) (bad_before x b ∙ h)
    by false e = ap (λ p. if p then Some (bad x) else Some f) (later x b f h e)

pub bad_behind : (o : Option Failing) (b : ℕ) (xs : List ℕ) → first_of (sooner o (bad b)) (bad_terms xs) ≡ with_bad o (least (Some b) xs)
bad_behind o b [] = refl
bad_behind o b (x ∷ xs) = by (nat_lt x b) refl (λ k. bad_behind o k xs)
  where
    by : (p : Bool) → nat_lt x b ≡ p → ((k : ℕ) → first_of (sooner o (bad k)) (bad_terms xs) ≡ with_bad o (least (Some k) xs)) → first_of (sooner (sooner o (bad b)) (bad x)) (bad_terms xs) ≡ with_bad o (least (if p then Some x else Some b) xs)
    by true e next = ap (λ z. first_of z (bad_terms xs)) (sooner_less o b x e) ∙ next x
    by false e next = ap (λ z. first_of z (bad_terms xs)) (sooner_more o b x e) ∙ next b

-- the first of bad terms is the one at the least place
pub bad_first : (o : Option Failing) (xs : List ℕ) → first_of o (bad_terms xs) ≡ with_bad o (least None xs)
bad_first o [] = refl
bad_first o (x ∷ xs) = bad_behind o x xs
