-- Pairs sorted by variable and joined.
use Rattle.std.proofs.Common.{◌≡◌, ◌⊎◌, inl, inr, ℕ, zero, suc, ◌+◌, ◌*◌, ◌<◌, ◌≤◌, ◌^◌, Bool, true, false, not, cond, ◌==◌, nat_lt, ℤ, pos, ◌+ℤ◌, int_eq, unsigned_abs, List, [], ◌∷◌, ◌++◌, map, filter, drop, get_or, length, FitsSigned, to_z, of_z, w64, length-set, All, refl, sym, ◌∙◌, ap, ap₂, subst, true≢false, eqb-true, get_or-set_same, get_or-set_other, arith}
use Rattle.std.specs.List.{AllByRecursion, range_with_len, swap}
use Rattle.std.specs.List.Sorted.{IsPermutation}
use Rattle.std.specs.Ordering.{is_lt, ordering_then, nat_cmp, int_cmp}
use Rattle.std.specs.declared.cmp.Ordering.TheVariants.{Less, Equal, Greater}
use Rattle.std.proofs.Math.ListN.{set}
use Rattle.std.proofs.lemmas.Bool.Decides.{nat_tests}
use Rattle.std.proofs.lemmas.Int.{ints, to_z-of_z, fits_signed_from_abs}
use Rattle.std.proofs.lemmas.List.Edits.{swap_is}
use Rattle.std.proofs.lemmas.List.Sorted.{IsPermutation-keeps, All-permutation}
use Rattle.ground_model.specs.Sizes.{IsSoundPair}
use Rattle.ground_model.specs.Sound.{is_small, coefficient}
use Rattle.ground_model.proofs.Bools.{bool_cases}
use Rattle.ground_model.proofs.MemberLemmas.{same_nat}
use Rattle.ground_model.proofs.OrderedLemmas.{property_at}
use Rattle.ground_model.proofs.Products.{drop_next}
use Rattle.linear_normal.specs.inner.Sums.{nonzero_pairs, kept_pair, Climbs, Rises}

-- COEFFICIENTS

-- what a pair counts for a variable
abbrev pub weight : ℕ → ℕ × ℤ → ℤ
weight x pair = cond (pair.0 == x) pair.1 (pos 0)

other_number : (v x : ℕ) → (v ≡ x → ⊥) → (v == x) ≡ false
other_number v x e = grind (arith, nat_tests)

pub coefficient_append : (x : ℕ) (ps qs : List (ℕ × ℤ)) → coefficient x (ps ++ qs) ≡ coefficient x ps +ℤ coefficient x qs
coefficient_append x [] qs = none (coefficient x qs)
  where
    none : (z : ℤ) → z ≡ pos 0 +ℤ z
    none z = omega (arith, ints)
coefficient_append x (p ∷ ps) qs = add (weight x p) (coefficient x (ps ++ qs)) (coefficient x ps) (coefficient x qs) (coefficient_append x ps qs)
  where
    add : (w s a b : ℤ) → s ≡ a +ℤ b → w +ℤ s ≡ (w +ℤ a) +ℤ b
    add w s a b e = omega (arith, ints, e)

coefficient_set : (x : ℕ) (ps : List (ℕ × ℤ)) (i : ℕ) (q d : ℕ × ℤ) → i < length ps
    → coefficient x (set ps i q) +ℤ weight x (get_or ps i d) ≡ coefficient x ps +ℤ weight x q
coefficient_set x [] i q d below = absurd (omega arith)
coefficient_set x (p ∷ ps) zero q d below = turn (weight x q) (coefficient x ps) (weight x p)
  where
    turn : (a b c : ℤ) → (a +ℤ b) +ℤ c ≡ (c +ℤ b) +ℤ a
    turn a b c = omega (arith, ints)
coefficient_set x (p ∷ ps) (suc i) q d below =
    later (weight x p) (coefficient x (set ps i q)) (weight x (get_or ps i d)) (coefficient x ps) (weight x q) (coefficient_set x ps i q d (omega arith))
  where
    later : (w a b c e : ℤ) → a +ℤ b ≡ c +ℤ e → (w +ℤ a) +ℤ b ≡ (w +ℤ c) +ℤ e
    later w a b c e h = omega (arith, ints, h)

coefficient_swap : (x : ℕ) (ps : List (ℕ × ℤ)) (i j : ℕ) → i < length ps → j < length ps → coefficient x (swap ps i j) ≡ coefficient x ps
coefficient_swap x ps i j low high =
    let d : ℕ × ℤ = (0, pos 0) in
    let first : ℕ × ℤ = get_or ps i d in
    let second : ℕ × ℤ = get_or ps j d in
    let size = length-set ps i second in
    let one = coefficient_set x ps i second d low in
    let two = coefficient_set x (set ps i second) j first d (omega arith) in
    ap (coefficient x) (sym (swap_is ps i j d low high))
    ∙ both (coefficient x (set (set ps i second) j first)) (coefficient x (set ps i second)) (coefficient x ps)
    (weight x first) (weight x second) (weight x (get_or (set ps i second) j d)) one two (ap (weight x) (still (bool_cases (j == i))))
  where
    both : (a b c f s t : ℤ) → b +ℤ f ≡ c +ℤ s → a +ℤ t ≡ b +ℤ f → t ≡ s → a ≡ c
    both a b c f s t e g h = omega (arith, ints, e, g, h)

    still : ((j == i) ≡ true) ⊎ ((j == i) ≡ false) → get_or (set ps i (get_or ps j (0, pos 0))) j (0, pos 0) ≡ get_or ps j (0, pos 0)
    still (inl e) =
        let s : j ≡ i = eqb-true j i e in
        subst (λ n. get_or (set ps i (get_or ps j (0, pos 0))) n (0, pos 0) ≡ get_or ps j (0, pos 0)) (sym s)
        (get_or-set_same ps i (get_or ps j (0, pos 0)) (0, pos 0) low)
    still (inr e) = get_or-set_other ps i j (get_or ps j (0, pos 0)) (0, pos 0) (λ s. true≢false (sym (same_nat j i s) ∙ e))

pub coefficient_permuted : (x : ℕ) (ps qs : List (ℕ × ℤ)) → IsPermutation ps qs → coefficient x qs ≡ coefficient x ps
coefficient_permuted x ps qs permutation =
    IsPermutation-keeps ps (λ l. coefficient x l ≡ coefficient x ps) refl (λ l i j low high e. coefficient_swap x l i j low high ∙ e) qs permutation

-- THE ORDER

pub firsts_in_order : (a b : ℕ × ℤ) → is_lt (ordering_then (nat_cmp a.0 b.0) (int_cmp a.1 b.1)) ≡ false → b.0 ≤ a.0
firsts_in_order a b e = go (nat_lt a.0 b.0) refl e
  where
    go : (t : Bool) → nat_lt a.0 b.0 ≡ t → is_lt (ordering_then (cond t Less (cond (a.0 == b.0) Equal Greater)) (int_cmp a.1 b.1)) ≡ false → b.0 ≤ a.0
    go true f e = absurd (true≢false e)
    go false f e = grind (arith, nat_tests)

pub climbs_from : (last first : ℕ) (ps : List (ℕ × ℤ)) → AllByRecursion (IsSoundPair last) ps
    → ((k : ℕ) (d : ℕ × ℤ) → k + 1 < length ps → (get_or ps k d).0 ≤ (get_or ps (k + 1) d).0)
    → ((d : ℕ × ℤ) → 0 < length ps → first ≤ (get_or ps 0 d).0) → Climbs first last ps
climbs_from last first [] sound up start = tt
climbs_from last first (p ∷ ps) sound up start = (
  start p (omega arith),
  sound.0.known,
  sound.0.small,
  climbs_from last p.0 ps sound.1 (λ k d below. next k d below) (λ d below. up 0 d (omega arith)),
)
  where
    next : (k : ℕ) (d : ℕ × ℤ) → k + 1 < length ps → (get_or ps k d).0 ≤ (get_or ps (k + 1) d).0
    next k d below =
        let s : (k + 1) + 1 ≡ suc (k + 1) = omega arith in
        let t : k + 1 ≡ suc k = omega arith in
        subst (λ n. (get_or (p ∷ ps) n d).0 ≤ (get_or ps (k + 1) d).0) t
        (subst (λ n. (get_or (p ∷ ps) (k + 1) d).0 ≤ (get_or (p ∷ ps) n d).0) s (up (k + 1) d (omega arith)))

pub sound_permuted : (last : ℕ) (ps qs : List (ℕ × ℤ)) → IsPermutation ps qs → AllByRecursion (IsSoundPair last) ps → AllByRecursion (IsSoundPair last) qs
sound_permuted last ps qs permutation sound =
    by_recursion qs (All-permutation (IsSoundPair last) ps qs permutation (λ k d below. property_at (IsSoundPair last) ps k d sound below))
  where
    by_recursion : (xs : List (ℕ × ℤ)) → All (IsSoundPair last) xs → AllByRecursion (IsSoundPair last) xs
    by_recursion [] all = tt
    by_recursion (x ∷ xs) all = (all 0 x (omega arith), by_recursion xs (λ k d below. all (suc k) d (omega arith)))

pub first_above : (last : ℕ) (ps : List (ℕ × ℤ)) (d : ℕ × ℤ) → AllByRecursion (IsSoundPair last) ps → 0 < length ps → 1 ≤ (get_or ps 0 d).0
first_above last [] d sound below = absurd (omega arith)
first_above last (p ∷ ps) d sound below = let above = sound.0.above in omega arith

pub above_all : (x first last : ℕ) (ps : List (ℕ × ℤ)) → x < first → Climbs first last ps → coefficient x ps ≡ pos 0
above_all x first last [] below climbs = refl
above_all x first last (p ∷ ps) below climbs =
    let low = climbs.0 in
    none (weight x p) (coefficient x ps) (ap (λ t. cond t p.1 (pos 0)) (other_number p.0 x (λ e. omega arith)))
    (above_all x p.0 last ps (omega arith) climbs.3)
  where
    none : (a b : ℤ) → a ≡ pos 0 → b ≡ pos 0 → a +ℤ b ≡ pos 0
    none a b e f = omega (arith, ints, e, f)

-- RISING PAIRS

rises_ends : (first end : ℕ) (ps : List (ℕ × ℤ)) → Rises first end ps → first ≤ end
rises_ends first end [] up = up
rises_ends first end (p ∷ ps) up = let low = up.0 in let high = rises_ends (suc p.0) end ps up.2 in omega arith

rises_below : (x first end : ℕ) (ps : List (ℕ × ℤ)) → x < first → Rises first end ps → coefficient x ps ≡ pos 0
rises_below x first end [] below up = refl
rises_below x first end (p ∷ ps) below up =
    let low = up.0 in
    none (weight x p) (coefficient x ps) (ap (λ t. cond t p.1 (pos 0)) (other_number p.0 x (λ e. omega arith)))
    (rises_below x (suc p.0) end ps (omega arith) up.2)
  where
    none : (a b : ℤ) → a ≡ pos 0 → b ≡ pos 0 → a +ℤ b ≡ pos 0
    none a b e f = omega (arith, ints, e, f)

rises_above : (x first end : ℕ) (ps : List (ℕ × ℤ)) → end ≤ x → Rises first end ps → coefficient x ps ≡ pos 0
rises_above x first end [] above up = refl
rises_above x first end (p ∷ ps) above up =
    let high = rises_ends (suc p.0) end ps up.2 in
    none (weight x p) (coefficient x ps) (ap (λ t. cond t p.1 (pos 0)) (other_number p.0 x (λ e. omega arith)))
    (rises_above x (suc p.0) end ps above up.2)
  where
    none : (a b : ℤ) → a ≡ pos 0 → b ≡ pos 0 → a +ℤ b ≡ pos 0
    none a b e f = omega (arith, ints, e, f)

rises_kept : (first v end : ℕ) (s : ℤ) (ps : List (ℕ × ℤ)) → v < end → Rises first v ps → Rises first end (ps ++ kept_pair (v, s))
rises_kept first v end s [] below up = go (int_eq s (pos 0)) refl
  where
    go : (t : Bool) → int_eq s (pos 0) ≡ t → Rises first end (cond t [] ((v, s) ∷ []))
    go true e = omega arith
    go false e = (up, e, omega arith)
rises_kept first v end s (p ∷ ps) below up = (up.0, up.1, rises_kept (suc p.0) v end s ps below up.2)

kept_weight : (x v : ℕ) (s : ℤ) → coefficient x (kept_pair (v, s)) ≡ weight x (v, s)
kept_weight x v s = go (int_eq s (pos 0)) refl
  where
    is_zero : int_eq s (pos 0) ≡ true → s ≡ pos 0
    is_zero e = grind (arith, ints)

    either : (t : Bool) → pos 0 ≡ cond t (pos 0) (pos 0)
    either true = refl
    either false = refl

    alone : (z : ℤ) → z +ℤ pos 0 ≡ z
    alone z = omega (arith, ints)

    go : (t : Bool) → int_eq s (pos 0) ≡ t → coefficient x (cond t [] ((v, s) ∷ [])) ≡ weight x (v, s)
    go true e = either (v == x) ∙ ap (λ z. cond (v == x) z (pos 0)) (sym (is_zero e))
    go false e = alone (weight x (v, s))

abbrev pub pair_of : ℕ → ℤ → ℕ × ℤ
pair_of x c = (x, c)

-- of n variables from a on, in order, those whose number is not 0
abbrev pub pairs_from : (ℕ → ℤ) → ℕ → ℕ → List (ℕ × ℤ)
pairs_from number a n = filter (λ pair. not (int_eq pair.1 (pos 0))) (map (λ x. (x, number x)) (range_with_len a n))

-- rising pairs are those of the numbers that are not 0
risen : (number : ℕ → ℤ) (a n : ℕ) (ps : List (ℕ × ℤ)) → Rises a (a + n) ps → ((x : ℕ) → a ≤ x → coefficient x ps ≡ number x)
    → ps ≡ pairs_from number a n
risen number a zero [] up same = refl
risen number a zero (p ∷ ps) up same = let low = up.0 in let high = rises_ends (suc p.0) (a + 0) ps up.2 in absurd (omega arith)
risen number a (suc n) [] up same =
    go (int_eq (number a) (pos 0)) refl (risen number (a + 1) n [] (omega arith) (λ x le. same x (omega arith)))
  where
    nonzero : (z : ℤ) → pos 0 ≡ z → int_eq z (pos 0) ≡ false → ⊥
    nonzero z e f = grind (arith, ints)

    go : (t : Bool) → int_eq (number a) (pos 0) ≡ t
        → [] ≡ pairs_from number (a + 1) n
        → [] ≡ cond (not t) ((a, number a) ∷ pairs_from number (a + 1) n) (pairs_from number (a + 1) n)
    go true e r = r
    go false e r = absurd (nonzero (number a) (same a (omega arith)) e)
risen number a (suc n) (p ∷ ps) up same =
    go (bool_cases (p.0 == a)) (int_eq (number a) (pos 0)) refl
    (λ e. risen number (a + 1) n ps (moved e) (λ x le. later e x le))
    (λ beyond. risen number (a + 1) n (p ∷ ps) (lifted beyond) (λ x le. same x (omega arith)))
  where
    moved : p.0 ≡ a → Rises (a + 1) ((a + 1) + n) ps
    moved e =
        let s : suc p.0 ≡ a + 1 = omega arith in
        let t : a + suc n ≡ (a + 1) + n = omega arith in
        subst (λ k. Rises k ((a + 1) + n) ps) s (subst (λ k. Rises (suc p.0) k ps) t up.2)

    lifted : a + 1 ≤ p.0 → Rises (a + 1) ((a + 1) + n) (p ∷ ps)
    lifted beyond = let t : a + suc n ≡ (a + 1) + n = omega arith in (beyond, up.1, subst (λ k. Rises (suc p.0) k ps) t up.2)

    skipped : (w c m : ℤ) → w ≡ pos 0 → w +ℤ c ≡ m → c ≡ m
    skipped w c m e f = omega (arith, ints, e, f)

    later : p.0 ≡ a → (x : ℕ) → a + 1 ≤ x → coefficient x ps ≡ number x
    later e x le =
        skipped (weight x p) (coefficient x ps) (number x) (ap (λ t. cond t p.1 (pos 0)) (other_number p.0 x (λ s. omega arith))) (same x (omega arith))

    only : (w c m q : ℤ) → w ≡ q → c ≡ pos 0 → w +ℤ c ≡ m → q ≡ m
    only w c m q e f g = omega (arith, ints, e, f, g)

    here : p.0 ≡ a → p.1 ≡ number a
    here e =
        only (weight a p) (coefficient a ps) (number a) p.1 (ap (λ t. cond t p.1 (pos 0)) (same_nat p.0 a e))
        (rises_below a (suc p.0) (a + suc n) ps (omega arith) up.2) (same a (omega arith))

    none_here : (p.0 == a) ≡ false → number a ≡ pos 0
    none_here e =
        let low = up.0 in
        let differs : (p.0 ≡ a) → ⊥ = λ s. true≢false (sym (same_nat p.0 a s) ∙ e) in
        sym (same a (omega arith)) ∙ rises_below a (a + 1) ((a + 1) + n) (p ∷ ps) (omega arith) (lifted (omega arith))

    is_nonzero : (z w : ℤ) → z ≡ w → int_eq z (pos 0) ≡ false → int_eq w (pos 0) ≡ true → ⊥
    is_nonzero z w e f g = grind (arith, ints)

    is_zero : (z : ℤ) → z ≡ pos 0 → int_eq z (pos 0) ≡ false → ⊥
    is_zero z e f = grind (arith, ints)

    same_pair : p.0 ≡ a → p.1 ≡ number a → p ≡ (a, number a)
    same_pair e f = ap₂ pair_of e f

    go : ((p.0 == a) ≡ true) ⊎ ((p.0 == a) ≡ false) → (t : Bool) → int_eq (number a) (pos 0) ≡ t
        → (p.0 ≡ a → ps ≡ pairs_from number (a + 1) n)
        → (a + 1 ≤ p.0 → p ∷ ps ≡ pairs_from number (a + 1) n)
        → p ∷ ps ≡ cond (not t) ((a, number a) ∷ pairs_from number (a + 1) n) (pairs_from number (a + 1) n)
    go (inl e) true f first rest = absurd (is_nonzero p.1 (number a) (here (eqb-true p.0 a e)) up.1 f)
    go (inl e) false f first rest =
        let s = eqb-true p.0 a e in ap₂ (λ (q : ℕ × ℤ) (qs : List (ℕ × ℤ)). q ∷ qs) (same_pair s (here s)) (first s)
    go (inr e) true f first rest =
        let low = up.0 in
        let differs : (p.0 ≡ a) → ⊥ = λ s. true≢false (sym (same_nat p.0 a s) ∙ e) in
        rest (omega arith)
    go (inr e) false f first rest = absurd (is_zero (number a) (none_here e) f)

-- THE LOOP

-- pairs joined so far, the pair that is summed, and those that are left
pub record Joins (all : List (ℕ × ℤ)) (last : ℕ) (found : List (ℕ × ℤ)) (variable : ℕ) (sum : ℤ) (left : List (ℕ × ℤ)) : Type 0 where
  pub same : (x : ℕ) → coefficient x found +ℤ (weight x (variable, sum) +ℤ coefficient x left) ≡ coefficient x all
  pub done : Rises 0 variable found
  pub known : variable ≤ last
  pub climbs : Climbs variable last left

pub joins_start : (all : List (ℕ × ℤ)) (last : ℕ) → Climbs 1 last all → Joins all last [] 0 (pos 0) all
joins_start all last climbs = record {
  same = λ x. start (0 == x) (coefficient x all);
  done = omega arith;
  known = omega arith;
  climbs = lowered all climbs;
}
  where
    start : (t : Bool) (z : ℤ) → pos 0 +ℤ (cond t (pos 0) (pos 0) +ℤ z) ≡ z
    start true z = omega (arith, ints)
    start false z = omega (arith, ints)

    lowered : (ps : List (ℕ × ℤ)) → Climbs 1 last ps → Climbs 0 last ps
    lowered [] climbs = tt
    lowered (p ∷ ps) climbs = (omega arith, climbs.1, climbs.2, climbs.3)

pub joins_add : (all : List (ℕ × ℤ)) (last : ℕ) (found : List (ℕ × ℤ)) (variable : ℕ) (sum : ℤ) (p : ℕ × ℤ) (left : List (ℕ × ℤ))
    → p.0 ≡ variable → Joins all last found variable sum (p ∷ left) → Joins all last found variable (sum +ℤ p.1) left
joins_add all last found variable sum p left is joins = record {
  same = λ x. added (coefficient x found) (cond (variable == x) sum (pos 0)) (weight x p) (cond (variable == x) (sum +ℤ p.1) (pos 0)) (coefficient x left) (coefficient x all)
      (split (variable == x) ∙ ap (λ t. cond (variable == x) sum (pos 0) +ℤ cond t p.1 (pos 0)) (ap (λ v. v == x) (sym is))) (joins.same x);
  done = joins.done;
  known = joins.known;
  climbs = subst (λ v. Climbs v last left) is joins.climbs.3;
}
  where
    split : (t : Bool) → cond t (sum +ℤ p.1) (pos 0) ≡ cond t sum (pos 0) +ℤ cond t p.1 (pos 0)
    split true = refl
    split false = refl

    added : (f s w t l all : ℤ) → t ≡ s +ℤ w → f +ℤ (s +ℤ (w +ℤ l)) ≡ all → f +ℤ (t +ℤ l) ≡ all
    added f s w t l all e g = omega (arith, ints, e, g)

-- the sum that is complete
complete : (all : List (ℕ × ℤ)) (last : ℕ) (found : List (ℕ × ℤ)) (variable : ℕ) (sum : ℤ) (left : List (ℕ × ℤ))
    → coefficient variable left ≡ pos 0 → Joins all last found variable sum left → sum ≡ coefficient variable all
complete all last found variable sum left none joins =
    alone (coefficient variable found) sum (weight variable (variable, sum)) (coefficient variable left) (coefficient variable all)
    (rises_above variable 0 variable found (omega arith) joins.done) (ap (λ t. cond t sum (pos 0)) (same_nat variable variable refl)) none (joins.same variable)
  where
    alone : (f s w l all : ℤ) → f ≡ pos 0 → w ≡ s → l ≡ pos 0 → f +ℤ (w +ℤ l) ≡ all → s ≡ all
    alone f s w l all e g h k = omega (arith, ints, e, g, h, k)

risen_past : (last : ℕ) (variable : ℕ) (p : ℕ × ℤ) (left : List (ℕ × ℤ)) → (p.0 ≡ variable → ⊥) → Climbs variable last (p ∷ left) → variable < p.0
risen_past last variable p left differs climbs = let low = climbs.0 in omega arith

pub joins_small : (all : List (ℕ × ℤ)) (last : ℕ) (found : List (ℕ × ℤ)) (variable : ℕ) (sum : ℤ) (p : ℕ × ℤ) (left : List (ℕ × ℤ))
    → ((x : ℕ) → is_small (coefficient x all) ≡ true) → (p.0 ≡ variable → ⊥) → Joins all last found variable sum (p ∷ left) → is_small sum ≡ true
joins_small all last found variable sum p left small differs joins =
    let more = risen_past last variable p left differs joins.climbs in
    ap is_small (complete all last found variable sum (p ∷ left) (above_all variable p.0 last (p ∷ left) more (omega arith, joins.climbs.1, joins.climbs.2, joins.climbs.3)) joins) ∙ small variable

pub joins_next : (all : List (ℕ × ℤ)) (last : ℕ) (found : List (ℕ × ℤ)) (variable : ℕ) (sum : ℤ) (p : ℕ × ℤ) (left : List (ℕ × ℤ))
    → (p.0 ≡ variable → ⊥) → Joins all last found variable sum (p ∷ left) → Joins all last (found ++ kept_pair (variable, sum)) p.0 p.1 left
joins_next all last found variable sum p left differs joins = record {
  same = λ x. moved (coefficient x (found ++ kept_pair (variable, sum))) (coefficient x found) (coefficient x (kept_pair (variable, sum))) (weight x (variable, sum)) (weight x p +ℤ coefficient x left) (coefficient x all)
      (coefficient_append x found (kept_pair (variable, sum))) (kept_weight x variable sum) (joins.same x);
  done = rises_kept 0 variable p.0 sum found (risen_past last variable p left differs joins.climbs) joins.done;
  known = joins.climbs.1;
  climbs = joins.climbs.3;
}
  where
    moved : (n f k w l all : ℤ) → n ≡ f +ℤ k → k ≡ w → f +ℤ (w +ℤ l) ≡ all → n +ℤ l ≡ all
    moved n f k w l all e g h = omega (arith, ints, e, g, h)

pub joins_last_small : (all : List (ℕ × ℤ)) (last : ℕ) (found : List (ℕ × ℤ)) (variable : ℕ) (sum : ℤ)
    → ((x : ℕ) → is_small (coefficient x all) ≡ true) → Joins all last found variable sum [] → is_small sum ≡ true
joins_last_small all last found variable sum small joins = ap is_small (complete all last found variable sum [] refl joins) ∙ small variable

pub joins_end : (all : List (ℕ × ℤ)) (last : ℕ) (found : List (ℕ × ℤ)) (variable : ℕ) (sum : ℤ) → Climbs 1 last all
    → Joins all last found variable sum [] → found ++ kept_pair (variable, sum) ≡ nonzero_pairs last (λ x. coefficient x all)
joins_end all last found variable sum climbs joins =
    let t : 0 + suc last ≡ suc last = omega arith in
    let below = joins.known in
    risen (λ x. coefficient x all) 0 (suc last) (found ++ kept_pair (variable, sum))
    (rises_kept 0 variable (0 + suc last) sum found (omega arith) joins.done)
    (λ x le. ended (coefficient x (found ++ kept_pair (variable, sum))) (coefficient x found) (coefficient x (kept_pair (variable, sum))) (weight x (variable, sum)) (coefficient x all)
    (coefficient_append x found (kept_pair (variable, sum))) (kept_weight x variable sum) (joins.same x))
    ∙ ap (λ z. cond (not (int_eq z (pos 0))) ((0, z) ∷ nonzero_pairs last (λ x. coefficient x all)) (nonzero_pairs last (λ x. coefficient x all))) (above_all 0 1 last all (omega arith) climbs)
  where
    ended : (n f k w all : ℤ) → n ≡ f +ℤ k → k ≡ w → f +ℤ (w +ℤ pos 0) ≡ all → n ≡ all
    ended n f k w all e g h = omega (arith, ints, e, g, h)

-- one turn of the loop
pub record Turn (all : List (ℕ × ℤ)) (last : ℕ) (found : List (ℕ × ℤ)) (variable : ℕ) (sum : ℤ) (i : ℕ) : Type 0 where
  pub joins : Joins all last found variable sum (drop i all)
  pub size : unsigned_abs sum ≤ i * 2 ^ 62

same_coefficient : (z : ℤ) → unsigned_abs z < 2 ^ 62 → to_z w64 (of_z w64 z) ≡ z
same_coefficient z small = let fits : FitsSigned w64 z = fits_signed_from_abs w64 z (omega arith) in to_z-of_z w64 z fits

module _ (all : List (ℕ × ℤ)) (last : ℕ) (found : List (ℕ × ℤ)) (variable : ℕ) (sum : ℤ) (i : ℕ) (d : ℕ × ℤ) (below : i < length all) (turn : Turn all last found variable sum i) where
  first : Joins all last found variable sum (get_or all i d ∷ drop (i + 1) all)
  first = subst (Joins all last found variable sum) (drop_next all i d below) turn.joins

  pub next_coefficient : to_z w64 (of_z w64 (get_or all i d).1) ≡ (get_or all i d).1
  next_coefficient = same_coefficient (get_or all i d).1 first.climbs.2

  pub turn_add : (get_or all i d).0 ≡ variable → Turn all last found variable (sum +ℤ (get_or all i d).1) (i + 1)
  turn_add is = record {
    joins = joins_add all last found variable sum (get_or all i d) (drop (i + 1) all) is first;
    size = larger sum (get_or all i d).1 turn.size first.climbs.2;
  }
    where
      larger : (s c : ℤ) → unsigned_abs s ≤ i * 2 ^ 62 → unsigned_abs c < 2 ^ 62 → unsigned_abs (s +ℤ c) ≤ (i + 1) * 2 ^ 62
      larger s c e f = omega (arith, ints, e, f)

  pub turn_small : ((x : ℕ) → is_small (coefficient x all) ≡ true) → ((get_or all i d).0 ≡ variable → ⊥) → is_small sum ≡ true
  turn_small small differs = joins_small all last found variable sum (get_or all i d) (drop (i + 1) all) small differs first

  pub turn_next : ((get_or all i d).0 ≡ variable → ⊥) → Turn all last (found ++ kept_pair (variable, sum)) (get_or all i d).0 (get_or all i d).1 (i + 1)
  turn_next differs = record {
    joins = joins_next all last found variable sum (get_or all i d) (drop (i + 1) all) differs first;
    size = let s = first.climbs.2 in omega arith;
  }

  pub turn_at : unsigned_abs (get_or all i d).1 < 2 ^ 62
  turn_at = first.climbs.2

pub at_end : (all : List (ℕ × ℤ)) (last : ℕ) (found : List (ℕ × ℤ)) (variable : ℕ) (sum : ℤ) (i : ℕ) → length all ≤ i
    → Joins all last found variable sum (drop i all) → Joins all last found variable sum []
at_end all last found variable sum i past joins = subst (Joins all last found variable sum) (none i all past) joins
  where
    none : (i : ℕ) (ps : List (ℕ × ℤ)) → length ps ≤ i → drop i ps ≡ []
    none zero [] past = refl
    none (suc i) [] past = refl
    none zero (p ∷ ps) past = absurd (omega arith)
    none (suc i) (p ∷ ps) past = none i ps (omega arith)
