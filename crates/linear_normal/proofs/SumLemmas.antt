-- A relation moved to one side keeps its truth.
use Rattle.std.proofs.Common.{◌≡◌, ℕ, zero, suc, ◌+◌, ◌<◌, ◌≤◌, Bool, true, false, not, cond, if◌then◌else◌, ◌==◌, ◌⊎◌, inl, inr, List, [], ◌∷◌, map, refl, sym, ◌∙◌, ap, ap₂, eqb-true, ℤ, pos, ◌+ℤ◌, ◌-ℤ◌, ◌*ℤ◌, neg_ℤ, int_eq, int_le, arith}
use Rattle.std.proofs.Math.IntN.{zero-*ℤ}
use Rattle.std.specs.List.{AllByRecursion, filter, range_with_len}
use Rattle.std.proofs.lemmas.Bool.Decides.{nat_tests}
use Rattle.std.proofs.lemmas.Int.{ints}
use Rattle.symbols.specs.declared.rel.Rel.{Rel}
use Rattle.symbols.specs.declared.rel.Rel.TheVariants.{Equal, NotEqual, Less, LessEqual, Greater, GreaterEqual}
use Rattle.ground_model.specs.declared.linear.Linear.{Linear}
use Rattle.ground_model.specs.declared.linear.Place.{Place}
use Rattle.ground_model.specs.declared.linear.Relation.{Relation}
use Rattle.ground_model.specs.declared.rule.TheoryHead.TheVariants as t
use Rattle.ground_model.specs.Duties.{theory_holds}
use Rattle.ground_model.specs.Sizes.{IsSoundPair, IsSizedLinear, AreSizedPlaces, IsSizedRelation}
use Rattle.ground_model.specs.Sound.{coefficient, total_coefficient, total_constant, first_places}
use Rattle.ground_model.specs.Truth.{compares, pairs_value, value_of, sum_of}
use Rattle.ground_model.specs.View.{linear_of, place_of}
use Rattle.ground_model.specs.Ways.{relation_holds}
use Rattle.ground_model.proofs.Bools.{bool_cases}
use Rattle.linear_normal.specs.Contents.{Term, Variable, Counted, Content, SumAtMost, SumEquals, SumDiffers, InSet, AllDiffer, NoneOverlap, SomeTrue, opposite_term, opposite, compared}
use Rattle.linear_normal.specs.Demands.{moved_coefficient, moved_pairs, terms_of, relation_content}
use Rattle.linear_normal.proofs.Times.{times_add, times_neg, times_sub}

-- what a content says, where variables have these values and tallies these truths
module _ (tally : List ℕ → Bool) (value : ℕ → ℤ) where
  abbrev pub term_value : Term → ℤ
  term_value (Variable x c) = c *ℤ value x
  term_value (Counted bodies c) = c *ℤ (if tally bodies then pos 1 else pos 0)

  abbrev pub terms_value : List Term → ℤ
  terms_value [] = pos 0
  terms_value (term ∷ terms) = term_value term +ℤ terms_value terms

  abbrev pub content_truth : Content → Bool
  content_truth (SumAtMost sum k) = int_le (terms_value sum) k
  content_truth (SumEquals sum k) = int_eq (terms_value sum) k
  content_truth (SumDiffers sum k) = not (int_eq (terms_value sum) k)
  content_truth (InSet x set) = theory_holds value (t.Domain set x)
  content_truth (AllDiffer places) = theory_holds value (t.Distinct places)
  content_truth (NoneOverlap places) = theory_holds value (t.Disjoint places)
  content_truth (SomeTrue bodies) = tally bodies

  opposite_term_value : (term : Term) → term_value (opposite_term term) ≡ neg_ℤ (term_value term)
  opposite_term_value (Variable x c) = times_neg c (value x)
  opposite_term_value (Counted bodies c) = times_neg c (if tally bodies then pos 1 else pos 0)

  pub opposite_value : (terms : List Term) → terms_value (opposite terms) ≡ neg_ℤ (terms_value terms)
  opposite_value [] = refl
  opposite_value (term ∷ terms) =
      add (term_value term) (terms_value terms) (term_value (opposite_term term)) (terms_value (opposite terms)) (opposite_term_value term) (opposite_value terms)
    where
      add : (a b c d : ℤ) → c ≡ neg_ℤ a → d ≡ neg_ℤ b → c +ℤ d ≡ neg_ℤ (a +ℤ b)
      add a b c d e f = omega (arith, ints, e, f)

  pub compared_truth : (sum : List Term) (rel : Rel) (k : ℤ) → content_truth (compared sum rel k) ≡ compares rel (terms_value sum) k
  compared_truth sum LessEqual k = refl
  compared_truth sum Less k = less (terms_value sum) k
    where
      less : (s k : ℤ) → int_le s (k -ℤ pos 1) ≡ compares Less s k
      less s k = grind (arith, ints)
  compared_truth sum GreaterEqual k = turned (terms_value sum) (terms_value (opposite sum)) k (opposite_value sum)
    where
      turned : (s o k : ℤ) → o ≡ neg_ℤ s → int_le o (neg_ℤ k) ≡ compares GreaterEqual s k
      turned s o k e = grind (arith, ints, e)
  compared_truth sum Greater k = turned (terms_value sum) (terms_value (opposite sum)) k (opposite_value sum)
    where
      turned : (s o k : ℤ) → o ≡ neg_ℤ s → int_le o (neg_ℤ k -ℤ pos 1) ≡ compares Greater s k
      turned s o k e = grind (arith, ints, e)
  compared_truth sum Equal k = refl
  compared_truth sum NotEqual k = refl

-- OVER ALL VARIABLES

module _ (value : ℕ → ℤ) where
  -- the sum over n variables from a on, with these coefficients
  abbrev spread : (ℕ → ℤ) → ℕ → ℕ → ℤ
  spread f a zero = pos 0
  spread f a (suc n) = (f a *ℤ value a) +ℤ spread f (a + 1) n

  spread_pairs : (f : ℕ → ℤ) (a n : ℕ) → pairs_value value (map (λ x. (x, f x)) (range_with_len a n)) ≡ spread f a n
  spread_pairs f a zero = refl
  spread_pairs f a (suc n) = ap (λ z. (f a *ℤ value a) +ℤ z) (spread_pairs f (a + 1) n)

  spread_none : (a n : ℕ) → spread (λ x. pos 0) a n ≡ pos 0
  spread_none a zero = refl
  spread_none a (suc n) = none (pos 0 *ℤ value a) (spread (λ x. pos 0) (a + 1) n) (zero-*ℤ (value a)) (spread_none (a + 1) n)
    where
      none : (x y : ℤ) → x ≡ pos 0 → y ≡ pos 0 → x +ℤ y ≡ pos 0
      none x y e f = omega (arith, ints, e, f)

  spread_add : (f g : ℕ → ℤ) (a n : ℕ) → spread (λ x. f x +ℤ g x) a n ≡ spread f a n +ℤ spread g a n
  spread_add f g a zero = refl
  spread_add f g a (suc n) =
      add ((f a +ℤ g a) *ℤ value a) (f a *ℤ value a) (g a *ℤ value a) (spread (λ x. f x +ℤ g x) (a + 1) n) (spread f (a + 1) n) (spread g (a + 1) n)
      (times_add (f a) (g a) (value a)) (spread_add f g (a + 1) n)
    where
      add : (x y z u v w : ℤ) → x ≡ y +ℤ z → u ≡ v +ℤ w → x +ℤ u ≡ (y +ℤ v) +ℤ (z +ℤ w)
      add x y z u v w e f = omega (arith, ints, e, f)

  spread_sub : (f g : ℕ → ℤ) (a n : ℕ) → spread (λ x. f x -ℤ g x) a n ≡ spread f a n -ℤ spread g a n
  spread_sub f g a zero = refl
  spread_sub f g a (suc n) =
      sub ((f a -ℤ g a) *ℤ value a) (f a *ℤ value a) (g a *ℤ value a) (spread (λ x. f x -ℤ g x) (a + 1) n) (spread f (a + 1) n) (spread g (a + 1) n)
      (times_sub (f a) (g a) (value a)) (spread_sub f g (a + 1) n)
    where
      sub : (x y z u v w : ℤ) → x ≡ y -ℤ z → u ≡ v -ℤ w → x +ℤ u ≡ (y +ℤ v) -ℤ (z +ℤ w)
      sub x y z u v w e f = omega (arith, ints, e, f)

  abbrev single : ℕ → ℤ → ℕ → ℤ
  single y c x = cond (y == x) c (pos 0)

  single_above : (y : ℕ) (c : ℤ) (a n : ℕ) → y < a → spread (single y c) a n ≡ pos 0
  single_above y c a zero h = refl
  single_above y c a (suc n) h =
      none (single y c a *ℤ value a) (spread (single y c) (a + 1) n) (ap (λ b. cond b c (pos 0) *ℤ value a) (differ y a h) ∙ zero-*ℤ (value a)) (single_above y c (a + 1) n (omega (arith, h)))
    where
      differ : (y a : ℕ) → y < a → (y == a) ≡ false
      differ y a h = grind (arith, nat_tests, h)

      none : (x y : ℤ) → x ≡ pos 0 → y ≡ pos 0 → x +ℤ y ≡ pos 0
      none x y e f = omega (arith, ints, e, f)

  spread_single : (y : ℕ) (c : ℤ) (a n : ℕ) → a ≤ y → y < a + n → spread (single y c) a n ≡ c *ℤ value y
  spread_single y c a zero h k = absurd (omega (arith, h, k))
  spread_single y c a (suc n) h k = go (bool_cases (y == a)) (spread_single y c (a + 1) n)
    where
      here : (x z w : ℤ) → x ≡ w → z ≡ pos 0 → x +ℤ z ≡ w
      here x z w e f = omega (arith, ints, e, f)

      later : (x z w : ℤ) → x ≡ pos 0 → z ≡ w → x +ℤ z ≡ w
      later x z w e f = omega (arith, ints, e, f)

      beyond : (y a : ℕ) → (y == a) ≡ false → a ≤ y → a + 1 ≤ y
      beyond y a e h = grind (arith, nat_tests, e, h)

      go : ((y == a) ≡ true) ⊎ ((y == a) ≡ false) → (a + 1 ≤ y → y < (a + 1) + n → spread (single y c) (a + 1) n ≡ c *ℤ value y)
          → (single y c a *ℤ value a) +ℤ spread (single y c) (a + 1) n ≡ c *ℤ value y
      go (inl e) rec =
          here (single y c a *ℤ value a) (spread (single y c) (a + 1) n) (c *ℤ value y)
          (ap (λ b. cond b c (pos 0) *ℤ value a) e ∙ ap (λ x. c *ℤ value x) (sym (eqb-true y a e)))
          (single_above y c (a + 1) n (let f = eqb-true y a e in omega (arith, f)))
      go (inr e) rec =
          later (single y c a *ℤ value a) (spread (single y c) (a + 1) n) (c *ℤ value y)
          (ap (λ b. cond b c (pos 0) *ℤ value a) e ∙ zero-*ℤ (value a))
          (rec (beyond y a e h) (omega (arith, k)))

  spread_coefficient : (variables : ℕ) (pairs : List (ℕ × ℤ)) → AllByRecursion (IsSoundPair variables) pairs → spread (λ x. coefficient x pairs) 1 variables ≡ pairs_value value pairs
  spread_coefficient variables [] sound = spread_none 1 variables
  spread_coefficient variables (pair ∷ pairs) sound =
      spread_add (single pair.0 pair.1) (λ x. coefficient x pairs) 1 variables
      ∙ ap₂ ◌+ℤ◌ (spread_single pair.0 pair.1 1 variables (let h = sound.0.above in omega (arith, h)) (let h = sound.0.known in omega (arith, h)))
      (spread_coefficient variables pairs sound.1)

  spread_total : (variables : ℕ) (places : List Place) → AllByRecursion (λ place. IsSizedLinear variables place.linear) places
      → spread (λ x. total_coefficient x (first_places places)) 1 variables +ℤ total_constant (first_places places) ≡ sum_of value (map (place_of []) places)
  spread_total variables [] sound = ap (λ z. z +ℤ pos 0) (spread_none 1 variables)
  spread_total variables (place ∷ places) sound =
      join (spread (λ x. coefficient x place.linear.pairs +ℤ total_coefficient x (first_places places)) 1 variables)
      (spread (λ x. coefficient x place.linear.pairs) 1 variables) (spread (λ x. total_coefficient x (first_places places)) 1 variables)
      (pairs_value value place.linear.pairs) place.linear.constant (total_constant (first_places places)) (sum_of value (map (place_of []) places))
      (spread_add (λ x. coefficient x place.linear.pairs) (λ x. total_coefficient x (first_places places)) 1 variables)
      (spread_coefficient variables place.linear.pairs sound.0.pairs) (spread_total variables places sound.1)
    where
      join : (s a b p k d r : ℤ) → s ≡ a +ℤ b → a ≡ p → b +ℤ d ≡ r → s +ℤ (k +ℤ d) ≡ (p +ℤ k) +ℤ r
      join s a b p k d r e f g = omega (arith, ints, e, f, g)

  spread_one : (variables : ℕ) (linear : Linear) → IsSizedLinear variables linear
      → spread (λ x. total_coefficient x (linear ∷ [])) 1 variables +ℤ linear.constant ≡ value_of value (linear_of linear)
  spread_one variables linear sound =
      ap (λ z. z +ℤ linear.constant) (spread_add (λ x. coefficient x linear.pairs) (λ x. pos 0) 1 variables ∙ add_none ∙ spread_coefficient variables linear.pairs sound.pairs)
    where
      with_none : (x y : ℤ) → y ≡ pos 0 → x +ℤ y ≡ x
      with_none x y e = omega (arith, ints, e)

      add_none : spread (λ x. coefficient x linear.pairs) 1 variables +ℤ spread (λ x. pos 0) 1 variables ≡ spread (λ x. coefficient x linear.pairs) 1 variables
      add_none = with_none (spread (λ x. coefficient x linear.pairs) 1 variables) (spread (λ x. pos 0) 1 variables) (spread_none 1 variables)

  pub nonzero_value : (pairs : List (ℕ × ℤ)) → pairs_value value (filter (λ pair. not (int_eq pair.1 (pos 0))) pairs) ≡ pairs_value value pairs
  nonzero_value [] = refl
  nonzero_value (pair ∷ pairs) = go (int_eq pair.1 (pos 0)) refl (nonzero_value pairs)
    where
      is_zero : (c : ℤ) → int_eq c (pos 0) ≡ true → c ≡ pos 0
      is_zero c e = grind (arith, ints)

      dropped : (x y z : ℤ) → x ≡ pos 0 → y ≡ z → y ≡ x +ℤ z
      dropped x y z e f = omega (arith, ints, e, f)

      go : (b : Bool) → int_eq pair.1 (pos 0) ≡ b → pairs_value value (filter (λ pair. not (int_eq pair.1 (pos 0))) pairs) ≡ pairs_value value pairs
          → pairs_value value (cond (not b) (pair ∷ filter (λ pair. not (int_eq pair.1 (pos 0))) pairs) (filter (λ pair. not (int_eq pair.1 (pos 0))) pairs)) ≡ (pair.1 *ℤ value pair.0) +ℤ pairs_value value pairs
      go true is rec =
          dropped (pair.1 *ℤ value pair.0) (pairs_value value (filter (λ pair. not (int_eq pair.1 (pos 0))) pairs)) (pairs_value value pairs)
          (ap (λ c. c *ℤ value pair.0) (is_zero pair.1 is) ∙ zero-*ℤ (value pair.0)) rec
      go false is rec = ap (λ z. (pair.1 *ℤ value pair.0) +ℤ z) rec

  pub moved_value : (variables : ℕ) (left right : List Linear)
      → pairs_value value (moved_pairs variables left right) ≡ spread (λ x. total_coefficient x left) 1 variables -ℤ spread (λ x. total_coefficient x right) 1 variables
  moved_value variables left right =
      nonzero_value (map (λ x. (x, moved_coefficient left right x)) (range_with_len 1 variables))
      ∙ spread_pairs (moved_coefficient left right) 1 variables
      ∙ spread_sub (λ x. total_coefficient x left) (λ x. total_coefficient x right) 1 variables

  pub terms_are_pairs : (tally : List ℕ → Bool) (pairs : List (ℕ × ℤ)) → terms_value tally value (terms_of pairs) ≡ pairs_value value pairs
  terms_are_pairs tally [] = refl
  terms_are_pairs tally (pair ∷ pairs) = ap (λ z. (pair.1 *ℤ value pair.0) +ℤ z) (terms_are_pairs tally pairs)

  -- the first places of two sets, moved to one side, have the difference of their sums
  pub moved_total : (variables : ℕ) (left right : List Place) → AreSizedPlaces variables left → AreSizedPlaces variables right
      → pairs_value value (moved_pairs variables (first_places left) (first_places right)) +ℤ (total_constant (first_places left) -ℤ total_constant (first_places right))
      ≡ sum_of value (map (place_of []) left) -ℤ sum_of value (map (place_of []) right)
  moved_total variables left right l r =
      join (pairs_value value (moved_pairs variables (first_places left) (first_places right)))
      (spread (λ x. total_coefficient x (first_places left)) 1 variables) (spread (λ x. total_coefficient x (first_places right)) 1 variables)
      (total_constant (first_places left)) (total_constant (first_places right)) (sum_of value (map (place_of []) left)) (sum_of value (map (place_of []) right))
      (moved_value variables (first_places left) (first_places right)) (spread_total variables left l.each) (spread_total variables right r.each)
    where
      join : (x a b c d s t : ℤ) → x ≡ a -ℤ b → a +ℤ c ≡ s → b +ℤ d ≡ t → x +ℤ (c -ℤ d) ≡ s -ℤ t
      join x a b c d s t e f g = omega (arith, ints, e, f, g)

  compares_moved : (rel : Rel) (l r s u v w x : ℤ) → x ≡ l -ℤ r → l +ℤ u ≡ s → r +ℤ v ≡ w → compares rel x (v -ℤ u) ≡ compares rel s w
  compares_moved Equal l r s u v w x e f g = grind (arith, ints, e, f, g)
  compares_moved NotEqual l r s u v w x e f g = grind (arith, ints, e, f, g)
  compares_moved Less l r s u v w x e f g = grind (arith, ints, e, f, g)
  compares_moved LessEqual l r s u v w x e f g = grind (arith, ints, e, f, g)
  compares_moved Greater l r s u v w x e f g = grind (arith, ints, e, f, g)
  compares_moved GreaterEqual l r s u v w x e f g = grind (arith, ints, e, f, g)

  -- the content of a relation has the truth of the relation
  pub relation_kept : (tally : List ℕ → Bool) (variables : ℕ) (relation : Relation) → IsSizedRelation variables relation
      → content_truth tally value (relation_content variables relation) ≡ relation_holds value relation
  relation_kept tally variables relation sound =
      compared_truth tally value (terms_of (moved_pairs variables (first_places relation.elements) (relation.right ∷ []))) relation.rel
      (relation.right.constant -ℤ total_constant (first_places relation.elements))
      ∙ compares_moved relation.rel
      (spread (λ x. total_coefficient x (first_places relation.elements)) 1 variables)
      (spread (λ x. total_coefficient x (relation.right ∷ [])) 1 variables)
      (sum_of value (map (place_of []) relation.elements)) (total_constant (first_places relation.elements))
      relation.right.constant (value_of value (linear_of relation.right))
      (terms_value tally value (terms_of (moved_pairs variables (first_places relation.elements) (relation.right ∷ []))))
      (terms_are_pairs tally (moved_pairs variables (first_places relation.elements) (relation.right ∷ [])) ∙ moved_value variables (first_places relation.elements) (relation.right ∷ []))
      (spread_total variables relation.elements sound.elements.each) (spread_one variables relation.right sound.right)
