-- Runs of sorted pairs have the sums of each variable's coefficients.
use Rattle.std.proofs.Common.{◌≡◌, ◌⊎◌, ◌↔◌, inl, inr, ◌≤◌, ◌<◌, ◌+◌, ℕ, suc, ◌==◌, nat_lt, Bool, true, false, if◌then◌else◌, ℤ, pos, ◌+ℤ◌, List, [], ◌∷◌, get_or, length, None, Some, refl, sym, ◌∙◌, ap, subst, true≢false, eqb-true, arith}
use Rattle.std.specs.List.{AllByRecursion}
use Rattle.std.specs.Ordering.{is_lt, nat_cmp}
use Rattle.std.proofs.lemmas.Bool.Decides.{nat_tests}
use Rattle.std.proofs.lemmas.Int.{ints}
use Rattle.ground_model.specs.Sound.{is_small, coefficient}
use Rattle.linear_totals.specs.inner.Sums.{Climb, are_small_runs}

abbrev Pairs : Type 0
Pairs = List (ℕ × ℤ)

other : (v x : ℕ) → (v ≡ x → ⊥) → (v == x) ≡ false
other v x e = grind (arith, nat_tests)

not_same : (v x : ℕ) → (v == x) ≡ false → v ≡ x → ⊥
not_same v x e f = absurd (true≢false (sym (subst (λ y. (v == y) ≡ true) f (itself v)) ∙ e))
  where
    itself : (n : ℕ) → (n == n) ≡ true
    itself n = grind (arith, nat_tests)

skip : (v x : ℕ) (c z : ℤ) → (v ≡ x → ⊥) → (if v == x then c else pos 0) +ℤ z ≡ z
skip v x c z n = ap (λ t. (if t then c else pos 0) +ℤ z) (other v x n) ∙ none z
  where
    none : (z : ℤ) → pos 0 +ℤ z ≡ z
    none z = omega (arith, ints)

take_in : (v x : ℕ) (c z : ℤ) → v ≡ x → (if v == x then c else pos 0) +ℤ z ≡ c +ℤ z
take_in v x c z e = ap (λ t. (if t then c else pos 0) +ℤ z) (is e)
  where
    is : v ≡ x → (v == x) ≡ true
    is e = grind (arith, nat_tests)

-- a variable below all has none
pub none_below : (x : ℕ) (ps : Pairs) → AllByRecursion (λ (p : ℕ × ℤ). x < p.0) ps → coefficient x ps ≡ pos 0
none_below x [] a = refl
none_below x (p ∷ ps) a = skip p.0 x p.1 (coefficient x ps) (λ e. absurd (omega (arith, e, a.0))) ∙ none_below x ps a.1

higher : (x y : ℕ) (ps : Pairs) → x < y → AllByRecursion (λ (p : ℕ × ℤ). y ≤ p.0) ps → AllByRecursion (λ (p : ℕ × ℤ). x < p.0) ps
higher x y [] l a = tt
higher x y (p ∷ ps) l a = let m = a.0 in (omega (arith, l, m), higher x y ps l a.1)

-- what the runs say
record Sums (x : ℕ) (sum : ℤ) (ps : Pairs) : Type 0 where
  here : is_small (sum +ℤ coefficient x ps) ≡ true
  others : (y : ℕ) → (y ≡ x → ⊥) → is_small (coefficient y ps) ≡ true

alone : (z : ℤ) → z +ℤ pos 0 ≡ z
alone z = omega (arith, ints)

grouped : (a b c : ℤ) → (a +ℤ b) +ℤ c ≡ a +ℤ (b +ℤ c)
grouped a b c = omega (arith, ints)

apart : (x y : ℕ) → x ≤ y → (y ≡ x → ⊥) → x < y
apart x y l n = go (nat_lt x y) refl
  where
    go : (t : Bool) → nat_lt x y ≡ t → x < y
    go true e = grind (arith, nat_tests, e)
    go false e = absurd (n (grind (arith, nat_tests, e, l)))

decide : (v y : ℕ) → (v ≡ y) ⊎ (v ≡ y → ⊥)
decide v y = go (v == y) refl
  where
    go : (t : Bool) → (v == y) ≡ t → (v ≡ y) ⊎ (v ≡ y → ⊥)
    go true e = inl (eqb-true v y e)
    go false e = inr (not_same v y e)

sums_from : (ps : Pairs) (x : ℕ) (sum : ℤ) → AllByRecursion (λ (p : ℕ × ℤ). x ≤ p.0) ps → Climb ps → are_small_runs (Some (x, sum)) ps ≡ true → Sums x sum ps
sums_from [] x sum a c e = record { here = ap is_small (alone sum) ∙ e; others = λ y n. refl }
sums_from (p ∷ ps) x sum a c e = go (λ z s. sums_from ps z s) (p.0 == x) refl e
  where
    same : Sums x (sum +ℤ p.1) ps → p.0 ≡ x → Sums x sum (p ∷ ps)
    same s f = record {
      here = ap (λ z. is_small (sum +ℤ z)) (take_in p.0 x p.1 (coefficient x ps) f) ∙ ap is_small (sym (grouped sum p.1 (coefficient x ps))) ∙ s.here;
      others = λ y n. ap is_small (skip p.0 y p.1 (coefficient y ps) (λ g. n (sym g ∙ f))) ∙ s.others y n;
    }

    fresh : is_small sum ≡ true → Sums p.0 p.1 ps → (p.0 ≡ x → ⊥) → Sums x sum (p ∷ ps)
    fresh small s n = record {
      here =
          ap (λ z. is_small (sum +ℤ z)) (skip p.0 x p.1 (coefficient x ps) n ∙ none_below x ps (higher x p.0 ps (apart x p.0 a.0 n) c.0))
          ∙ ap is_small (alone sum) ∙ small;
      others = λ y m. each y (decide p.0 y);
    }
      where
        each : (y : ℕ) → (p.0 ≡ y) ⊎ (p.0 ≡ y → ⊥) → is_small (coefficient y (p ∷ ps)) ≡ true
        each y (inl f) = ap is_small (take_in p.0 y p.1 (coefficient y ps) f) ∙ subst (λ z. is_small (p.1 +ℤ coefficient z ps) ≡ true) f s.here
        each y (inr f) = ap is_small (skip p.0 y p.1 (coefficient y ps) f) ∙ s.others y (λ g. f (sym g))

    go : ((z : ℕ) (s : ℤ) → AllByRecursion (λ (q : ℕ × ℤ). z ≤ q.0) ps → Climb ps → are_small_runs (Some (z, s)) ps ≡ true → Sums z s ps)
        → (t : Bool) → (p.0 == x) ≡ t → are_small_runs (if t then Some (x, sum +ℤ p.1) else (if is_small sum then Some p else None)) ps ≡ true → Sums x sum (p ∷ ps)
    go rec true f e = same (rec x (sum +ℤ p.1) a.1 c.1 e) (eqb-true p.0 x f)
    go rec false f e = inner (is_small sum) refl e
      where
        inner : (u : Bool) → is_small sum ≡ u → are_small_runs (if u then Some p else None) ps ≡ true → Sums x sum (p ∷ ps)
        inner true g e = fresh g (rec p.0 p.1 c.0 c.1 e) (not_same p.0 x f)
        inner false g e = absurd (true≢false (sym e))

runs_from : (ps : Pairs) (x : ℕ) (sum : ℤ) → AllByRecursion (λ (p : ℕ × ℤ). x ≤ p.0) ps → Climb ps → Sums x sum ps → are_small_runs (Some (x, sum)) ps ≡ true
runs_from [] x sum a c s = ap is_small (sym (alone sum)) ∙ s.here
runs_from (p ∷ ps) x sum a c s = go (λ z w. runs_from ps z w) (p.0 == x) refl
  where
    same : p.0 ≡ x → Sums x (sum +ℤ p.1) ps
    same f = record {
      here = ap is_small (grouped sum p.1 (coefficient x ps)) ∙ ap (λ z. is_small (sum +ℤ z)) (sym (take_in p.0 x p.1 (coefficient x ps) f)) ∙ s.here;
      others = λ y n. ap is_small (sym (skip p.0 y p.1 (coefficient y ps) (λ g. n (sym g ∙ f)))) ∙ s.others y n;
    }

    last : (p.0 ≡ x → ⊥) → is_small sum ≡ true
    last n =
        ap is_small (sym (alone sum))
        ∙ ap (λ z. is_small (sum +ℤ z)) (sym (skip p.0 x p.1 (coefficient x ps) n ∙ none_below x ps (higher x p.0 ps (apart x p.0 a.0 n) c.0)))
        ∙ s.here

    fresh : (p.0 ≡ x → ⊥) → Sums p.0 p.1 ps
    fresh n = record {
      here = ap is_small (sym (take_in p.0 p.0 p.1 (coefficient p.0 ps) refl)) ∙ s.others p.0 n;
      others = λ y m. each y m (decide y x);
    }
      where
        each : (y : ℕ) → (y ≡ p.0 → ⊥) → (y ≡ x) ⊎ (y ≡ x → ⊥) → is_small (coefficient y ps) ≡ true
        each y m (inl f) = ap is_small (ap (λ z. coefficient z ps) f ∙ none_below x ps (higher x p.0 ps (apart x p.0 a.0 n) c.0))
        each y m (inr f) = ap is_small (sym (skip p.0 y p.1 (coefficient y ps) (λ g. m (sym g)))) ∙ s.others y f

    go : ((z : ℕ) (w : ℤ) → AllByRecursion (λ (q : ℕ × ℤ). z ≤ q.0) ps → Climb ps → Sums z w ps → are_small_runs (Some (z, w)) ps ≡ true)
        → (t : Bool) → (p.0 == x) ≡ t → are_small_runs (if t then Some (x, sum +ℤ p.1) else (if is_small sum then Some p else None)) ps ≡ true
    go rec true f = rec x (sum +ℤ p.1) a.1 c.1 (same (eqb-true p.0 x f))
    go rec false f =
        let n = not_same p.0 x f in
        subst (λ u. are_small_runs (if u then Some p else None) ps ≡ true) (sym (last n)) (rec p.0 p.1 c.0 c.1 (fresh n))

-- from a first pair on
none_first : (z : ℤ) → pos 0 +ℤ z ≡ z
none_first z = omega (arith, ints)

from_first : (p : ℕ × ℤ) (ps : Pairs) → Climb (p ∷ ps) → AllByRecursion (λ (q : ℕ × ℤ). p.0 ≤ q.0) (p ∷ ps)
from_first p ps c = (omega arith, c.0)

pub runs_small : (first : ℕ) (ps : Pairs) → AllByRecursion (λ (q : ℕ × ℤ). first ≤ q.0) ps → Climb ps
    → (are_small_runs (Some (first, pos 0)) ps ≡ true) ↔ ((x : ℕ) → is_small (coefficient x ps) ≡ true)
runs_small first ps a c = (to, from)
  where
    to : are_small_runs (Some (first, pos 0)) ps ≡ true → (x : ℕ) → is_small (coefficient x ps) ≡ true
    to e x = go (decide x first)
      where
        s : Sums first (pos 0) ps
        s = sums_from ps first (pos 0) a c e

        go : (x ≡ first) ⊎ (x ≡ first → ⊥) → is_small (coefficient x ps) ≡ true
        go (inl f) = ap (λ z. is_small (coefficient z ps)) f ∙ ap is_small (sym (none_first (coefficient first ps))) ∙ s.here
        go (inr f) = s.others x f

    from : ((x : ℕ) → is_small (coefficient x ps) ≡ true) → are_small_runs (Some (first, pos 0)) ps ≡ true
    from h = runs_from ps first (pos 0) a c (record { here = ap is_small (none_first (coefficient first ps)) ∙ h first; others = λ y n. h y })

-- SORTED PAIRS

pub climb_from : (ps : Pairs) → ((k : ℕ) (d : ℕ × ℤ) → k + 1 < length ps → (get_or ps k d).0 ≤ (get_or ps (k + 1) d).0) → Climb ps
climb_from [] up = tt
climb_from (p ∷ ps) up = (above p ps up, climb_from ps (λ k d l. next p ps up k d l))
  where
    next : (p : ℕ × ℤ) (ps : Pairs) → ((k : ℕ) (d : ℕ × ℤ) → k + 1 < length (p ∷ ps) → (get_or (p ∷ ps) k d).0 ≤ (get_or (p ∷ ps) (k + 1) d).0)
        → (k : ℕ) (d : ℕ × ℤ) → k + 1 < length ps → (get_or ps k d).0 ≤ (get_or ps (k + 1) d).0
    next p ps up k d below =
        let s : (k + 1) + 1 ≡ suc (k + 1) = omega arith in
        let t : k + 1 ≡ suc k = omega arith in
        subst (λ n. (get_or (p ∷ ps) n d).0 ≤ (get_or ps (k + 1) d).0) t
        (subst (λ n. (get_or (p ∷ ps) (k + 1) d).0 ≤ (get_or (p ∷ ps) n d).0) s (up (k + 1) d (omega (arith, below))))

    above : (p : ℕ × ℤ) (ps : Pairs) → ((k : ℕ) (d : ℕ × ℤ) → k + 1 < length (p ∷ ps) → (get_or (p ∷ ps) k d).0 ≤ (get_or (p ∷ ps) (k + 1) d).0)
        → AllByRecursion (λ (q : ℕ × ℤ). p.0 ≤ q.0) ps
    above p [] up = tt
    above p (q ∷ ps) up = let first = up 0 p (omega arith) in (first, raised p q ps first (above q ps (λ k d l. next p (q ∷ ps) up k d l)))
      where
        raised : (p q : ℕ × ℤ) (ps : Pairs) → p.0 ≤ q.0 → AllByRecursion (λ (r : ℕ × ℤ). q.0 ≤ r.0) ps → AllByRecursion (λ (r : ℕ × ℤ). p.0 ≤ r.0) ps
        raised p q [] l a = tt
        raised p q (r ∷ ps) l a = let m = a.0 in (omega (arith, l, m), raised p q ps l a.1)

pub not_less : (a b : ℕ) → is_lt (nat_cmp a b) ≡ false → b ≤ a
not_less a b e = go (nat_lt a b) refl e
  where
    go : (t : Bool) → nat_lt a b ≡ t → is_lt (nat_cmp a b) ≡ false → b ≤ a
    go true f e = grind (arith, nat_tests, f, e)
    go false f e = grind (arith, nat_tests, f)

pub bound_first : (first : ℕ) (ps : Pairs) (d : ℕ × ℤ) → first ≡ (get_or ps 0 d).0 → Climb ps → AllByRecursion (λ (q : ℕ × ℤ). first ≤ q.0) ps
bound_first first [] d e c = tt
bound_first first (p ∷ ps) d e c = subst (λ x. AllByRecursion (λ (q : ℕ × ℤ). x ≤ q.0) (p ∷ ps)) (sym e) (from_first p ps c)
