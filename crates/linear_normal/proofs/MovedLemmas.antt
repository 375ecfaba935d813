-- Pairs gathered from both sides have the coefficients of what is moved to one side.
use Rattle.std.proofs.Common.{◌≡◌, ◌⊎◌, inl, inr, ℕ, ◌+◌, ◌<◌, ◌≤◌, ◌^◌, Bool, true, false, not, cond, ◌==◌, ◌&&◌, nat_lt, nat_le, ℤ, pos, neg_ℤ, ◌+ℤ◌, ◌-ℤ◌, int_eq, unsigned_abs, List, [], ◌∷◌, ◌++◌, map, filter, refl, sym, ◌∙◌, ap, ap₂, subst, eqb-true, arith}
use Rattle.std.specs.List.{AllByRecursion, list_all, range_with_len}
use Rattle.std.proofs.lemmas.Bool.Decides.{nat_tests}
use Rattle.std.proofs.lemmas.Int.{ints}
use Rattle.ground_model.specs.declared.linear.Linear.{Linear}
use Rattle.ground_model.specs.declared.linear.Place.{Place}
use Rattle.ground_model.specs.declared.linear.Relation.{Relation}
use Rattle.ground_model.specs.Sizes.{IsSoundPair, IsSizedLinear}
use Rattle.ground_model.specs.Sound.{is_small, coefficient, total_coefficient, total_constant, first_places, is_small_difference, is_sound_objective, are_sound_places, is_sound_linear, has_few_variables}
use Rattle.ground_model.proofs.Bools.{and_elim, bool_cases}
use Rattle.ground_model.proofs.MemberLemmas.{all_member}
use Rattle.ground_model.proofs.SizeLemmas.{sized_relation, sized_objective}
use Rattle.linear_normal.specs.Demands.{moved_coefficient, moved_pairs}
use Rattle.linear_normal.specs.inner.Sums.{IsSoundOver, nonzero_pairs, opposite_pair, pairs_in, both_sides, HasSmallCoefficient, HasSmallNumbers}
use Rattle.linear_normal.proofs.ListLemmas.{range_member, all_append}
use Rattle.linear_normal.proofs.JoinLemmas.{weight, coefficient_append, pair_of}

coefficient_in : (x : ℕ) (linears : List Linear) → coefficient x (pairs_in linears) ≡ total_coefficient x linears
coefficient_in x [] = refl
coefficient_in x (linear ∷ linears) = coefficient_append x linear.pairs (pairs_in linears) ∙ ap (λ z. coefficient x linear.pairs +ℤ z) (coefficient_in x linears)

coefficient_opposite : (x : ℕ) (ps : List (ℕ × ℤ)) → coefficient x (map opposite_pair ps) ≡ neg_ℤ (coefficient x ps)
coefficient_opposite x [] = refl
coefficient_opposite x (p ∷ ps) =
    turned (cond (p.0 == x) (neg_ℤ p.1) (pos 0)) (cond (p.0 == x) p.1 (pos 0)) (coefficient x (map opposite_pair ps)) (coefficient x ps) (one (p.0 == x)) (coefficient_opposite x ps)
  where
    one : (t : Bool) → cond t (neg_ℤ p.1) (pos 0) ≡ neg_ℤ (cond t p.1 (pos 0))
    one true = refl
    one false = refl

    turned : (a b c d : ℤ) → a ≡ neg_ℤ b → c ≡ neg_ℤ d → a +ℤ c ≡ neg_ℤ (b +ℤ d)
    turned a b c d e f = omega (arith, ints, e, f)

pub coefficient_both : (x : ℕ) (left right : List Linear) → coefficient x (both_sides left right) ≡ moved_coefficient left right x
coefficient_both x left right =
    less (coefficient x (both_sides left right)) (coefficient x (pairs_in left)) (coefficient x (map opposite_pair (pairs_in right))) (coefficient x (pairs_in right)) (total_coefficient x left) (total_coefficient x right)
    (coefficient_append x (pairs_in left) (map opposite_pair (pairs_in right))) (coefficient_opposite x (pairs_in right)) (coefficient_in x left) (coefficient_in x right)
  where
    less : (b l o r s t : ℤ) → b ≡ l +ℤ o → o ≡ neg_ℤ r → l ≡ s → r ≡ t → b ≡ s -ℤ t
    less b l o r s t e f g h = omega (arith, ints, e, f, g, h)

pub nonzero_alike : (variables : ℕ) (f g : ℕ → ℤ) → ((x : ℕ) → f x ≡ g x) → nonzero_pairs variables f ≡ nonzero_pairs variables g
nonzero_alike variables f g same = ap (filter (λ pair. not (int_eq pair.1 (pos 0)))) (alike (range_with_len 1 variables))
  where
    alike : (xs : List ℕ) → map {B = ℕ × ℤ} (λ x. (x, f x)) xs ≡ map {B = ℕ × ℤ} (λ x. (x, g x)) xs
    alike [] = refl
    alike (x ∷ xs) = ap₂ (λ (z : ℤ) (ps : List (ℕ × ℤ)). pair_of x z ∷ ps) (same x) (alike xs)

pub joined_both : (variables : ℕ) (left right : List Linear) → nonzero_pairs variables (λ x. coefficient x (both_sides left right)) ≡ moved_pairs variables left right
joined_both variables left right = nonzero_alike variables (λ x. coefficient x (both_sides left right)) (moved_coefficient left right) (λ x. coefficient_both x left right)

-- SIZES

beyond : (variables x : ℕ) (ps : List (ℕ × ℤ)) → ((x ≡ 0) ⊎ (variables < x)) → AllByRecursion (IsSoundPair variables) ps → coefficient x ps ≡ pos 0
beyond variables x [] out sound = refl
beyond variables x (p ∷ ps) out sound =
    none (weight x p) (coefficient x ps) (ap (λ t. cond t p.1 (pos 0)) (differs (p.0 == x) refl out)) (beyond variables x ps out sound.1)
  where
    none : (a b : ℤ) → a ≡ pos 0 → b ≡ pos 0 → a +ℤ b ≡ pos 0
    none a b e f = omega (arith, ints, e, f)

    differs : (t : Bool) → (p.0 == x) ≡ t → ((x ≡ 0) ⊎ (variables < x)) → t ≡ false
    differs false e out = refl
    differs true e (inl none) = let s = eqb-true p.0 x e in let a = sound.0.above in absurd (omega arith)
    differs true e (inr more) = let s = eqb-true p.0 x e in let k = sound.0.known in absurd (omega arith)

pub small_both : (variables : ℕ) (left right : List Linear) → is_small_difference variables left right ≡ true → AllByRecursion (IsSoundPair variables) (both_sides left right)
    → (x : ℕ) → is_small (coefficient x (both_sides left right)) ≡ true
small_both variables left right e sound x = go (bool_cases (nat_lt 0 x)) (bool_cases (nat_le x variables))
  where
    within : list_all (λ x. is_small (total_coefficient x left -ℤ total_coefficient x right)) (range_with_len 1 variables) ≡ true
    within = (and_elim (list_all (λ x. is_small (total_coefficient x left -ℤ total_coefficient x right)) (range_with_len 1 variables)) (is_small (total_constant left -ℤ total_constant right)) e).0

    first : nat_lt 0 x ≡ false → x ≡ 0
    first f = grind (arith, nat_tests)

    last : nat_le x variables ≡ false → variables < x
    last f = grind (arith, nat_tests)

    from : nat_lt 0 x ≡ true → 1 ≤ x
    from f = grind (arith, nat_tests)

    up_to : nat_le x variables ≡ true → x < 1 + variables
    up_to f = grind (arith, nat_tests)

    go : ((nat_lt 0 x ≡ true) ⊎ (nat_lt 0 x ≡ false)) → ((nat_le x variables ≡ true) ⊎ (nat_le x variables ≡ false)) → is_small (coefficient x (both_sides left right)) ≡ true
    go (inr f) b = ap is_small (beyond variables x (both_sides left right) (inl (first f)) sound)
    go (inl f) (inr g) = ap is_small (beyond variables x (both_sides left right) (inr (last g)) sound)
    go (inl f) (inl g) =
        ap is_small (coefficient_both x left right)
        ∙ all_member (λ x. is_small (total_coefficient x left -ℤ total_coefficient x right)) (range_with_len 1 variables) x within (range_member 1 variables x (from f) (up_to g))

sound_in : (variables : ℕ) (places : List Place) → AllByRecursion (λ place. IsSizedLinear variables place.linear) places → AllByRecursion (IsSoundPair variables) (pairs_in (first_places places))
sound_in variables [] sized = tt
sound_in variables (place ∷ places) sized = all_append (IsSoundPair variables) place.linear.pairs (pairs_in (first_places places)) sized.0.pairs (sound_in variables places sized.1)

sound_opposite : (variables : ℕ) (ps : List (ℕ × ℤ)) → AllByRecursion (IsSoundPair variables) ps → AllByRecursion (IsSoundPair variables) (map opposite_pair ps)
sound_opposite variables [] sound = tt
sound_opposite variables (p ∷ ps) sound =
    let s = sound.0.small in
    (record { above = sound.0.above; known = sound.0.known; small = turned p.1 s }, sound_opposite variables ps sound.1)
  where
    turned : (z : ℤ) → unsigned_abs z < 2 ^ 62 → unsigned_abs (neg_ℤ z) < 2 ^ 62
    turned z s = omega (arith, ints, s)

small_pairs : (variables : ℕ) (ps : List (ℕ × ℤ)) → AllByRecursion (IsSoundPair variables) ps → AllByRecursion HasSmallCoefficient ps
small_pairs variables [] sound = tt
small_pairs variables (p ∷ ps) sound = (sound.0.small, small_pairs variables ps sound.1)

small_places : (variables : ℕ) (places : List Place) → AllByRecursion (λ place. IsSizedLinear variables place.linear) places → AllByRecursion HasSmallNumbers places
small_places variables [] sized = tt
small_places variables (place ∷ places) sized =
    (record { pairs = small_pairs variables place.linear.pairs sized.0.pairs; constant = sized.0.small }, small_places variables places sized.1)

-- what a sound relation gives its code
pub record MovesRelation (variables : ℕ) (relation : Relation) : Type 0 where
  pub places : AllByRecursion HasSmallNumbers relation.elements
  pub pairs : AllByRecursion HasSmallCoefficient relation.right.pairs
  pub constant : unsigned_abs relation.right.constant < 2 ^ 62
  pub sound : AllByRecursion (IsSoundPair variables) (pairs_in (first_places relation.elements) ++ map opposite_pair relation.right.pairs)
  pub small : (x : ℕ) → is_small (coefficient x (pairs_in (first_places relation.elements) ++ map opposite_pair relation.right.pairs)) ≡ true
  pub number : is_small (total_constant (first_places relation.elements) -ℤ relation.right.constant) ≡ true
  pub moved : nonzero_pairs variables (λ x. coefficient x (pairs_in (first_places relation.elements) ++ map opposite_pair relation.right.pairs))
      ≡ moved_pairs variables (first_places relation.elements) (relation.right ∷ [])

alone : (ps : List (ℕ × ℤ)) → ps ++ [] ≡ ps
alone [] = refl
alone (p ∷ ps) = ap (λ qs. p ∷ qs) (alone ps)

pub moves_relation : (variables : ℕ) (relation : Relation) → IsSoundOver variables relation → MovesRelation variables relation
moves_relation variables relation is =
    let sized = sized_relation is.0 variables relation is.1 in
    let left = first_places relation.elements in
    let right : List Linear = relation.right ∷ [] in
    let e = (and_elim (are_sound_places is.0 variables relation.elements && is_sound_linear variables relation.right && has_few_variables variables (relation.right ∷ first_places relation.elements))
    (is_small_difference variables (first_places relation.elements) (relation.right ∷ [])) is.1).1 in
    let one : pairs_in (relation.right ∷ []) ≡ relation.right.pairs = alone relation.right.pairs in
    let sound = all_append (IsSoundPair variables) (pairs_in (first_places relation.elements)) (map opposite_pair relation.right.pairs)
    (sound_in variables relation.elements sized.elements.each) (sound_opposite variables relation.right.pairs sized.right.pairs) in
    let same : both_sides (first_places relation.elements) (relation.right ∷ []) ≡ pairs_in (first_places relation.elements) ++ map opposite_pair relation.right.pairs =
    ap (λ (ps : List (ℕ × ℤ)). pairs_in (first_places relation.elements) ++ map opposite_pair ps) one in
    record {
      places = small_places variables relation.elements sized.elements.each;
      pairs = small_pairs variables relation.right.pairs sized.right.pairs;
      constant = sized.right.small;
      sound = sound;
      small = subst (λ (ps : List (ℕ × ℤ)). (x : ℕ) → is_small (coefficient x ps) ≡ true) same
          (small_both variables (first_places relation.elements) (relation.right ∷ []) e (subst (AllByRecursion (IsSoundPair variables)) (sym same) sound));
      number = number (total_constant (first_places relation.elements)) relation.right.constant
          (and_elim (list_all (λ x. is_small (total_coefficient x (first_places relation.elements) -ℤ total_coefficient x (relation.right ∷ []))) (range_with_len 1 variables))
          (is_small (total_constant (first_places relation.elements) -ℤ total_constant (relation.right ∷ []))) e).1;
      moved = subst (λ (ps : List (ℕ × ℤ)). nonzero_pairs variables (λ x. coefficient x ps) ≡ moved_pairs variables (first_places relation.elements) (relation.right ∷ [])) same
          (joined_both variables (first_places relation.elements) (relation.right ∷ []));
    }
  where
    one_more : (z : ℤ) → z +ℤ pos 0 ≡ z
    one_more z = omega (arith, ints)

    number : (t c : ℤ) → is_small (t -ℤ (c +ℤ pos 0)) ≡ true → is_small (t -ℤ c) ≡ true
    number t c e = subst (λ z. is_small (t -ℤ z) ≡ true) (one_more c) e

-- what a sound objective gives its code
pub record MovesObjective (variables : ℕ) (smaller larger : List Place) : Type 0 where
  pub smaller_places : AllByRecursion HasSmallNumbers smaller
  pub larger_places : AllByRecursion HasSmallNumbers larger
  pub sound : AllByRecursion (IsSoundPair variables) (both_sides (first_places smaller) (first_places larger))
  pub small : (x : ℕ) → is_small (coefficient x (both_sides (first_places smaller) (first_places larger))) ≡ true
  pub number : is_small (total_constant (first_places smaller) -ℤ total_constant (first_places larger)) ≡ true
  pub moved : nonzero_pairs variables (λ x. coefficient x (both_sides (first_places smaller) (first_places larger))) ≡ moved_pairs variables (first_places smaller) (first_places larger)

pub moves_objective : (symbols variables : ℕ) (smaller larger : List Place) → is_sound_objective symbols variables smaller larger ≡ true → MovesObjective variables smaller larger
moves_objective symbols variables smaller larger is =
    let sized = sized_objective symbols variables smaller larger is in
    let e = (and_elim (are_sound_places symbols variables smaller && are_sound_places symbols variables larger) (is_small_difference variables (first_places smaller) (first_places larger)) is).1 in
    let sound = all_append (IsSoundPair variables) (pairs_in (first_places smaller)) (map opposite_pair (pairs_in (first_places larger)))
    (sound_in variables smaller sized.0.each) (sound_opposite variables (pairs_in (first_places larger)) (sound_in variables larger sized.1.each)) in
    record {
      smaller_places = small_places variables smaller sized.0.each;
      larger_places = small_places variables larger sized.1.each;
      sound = sound;
      small = small_both variables (first_places smaller) (first_places larger) e sound;
      number = (and_elim (list_all (λ x. is_small (total_coefficient x (first_places smaller) -ℤ total_coefficient x (first_places larger))) (range_with_len 1 variables))
          (is_small (total_constant (first_places smaller) -ℤ total_constant (first_places larger))) e).1;
      moved = joined_both variables (first_places smaller) (first_places larger);
    }
