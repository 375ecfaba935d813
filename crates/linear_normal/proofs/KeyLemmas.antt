-- Constraints as keys: `==` is equality, and contents whose names are there are the same exactly where their constraints are.
use Rattle.std.proofs.Common.{◌≡◌, ℕ, true, List, [], ◌∷◌, map, refl, sym, ◌∙◌, ap, ap₂, subst, true≢false, ℤ, pos, ◌+ℤ◌, ◌-ℤ◌, int_eq, nat_eq, Option, Some, arith, rules}
use Rattle.std.specs.List.{AllByRecursion}
use Rattle.std.specs.Cmp.Lexicographic.{pointwise}
use Rattle.std.proofs.lemmas.Bool.Decides.{nat_tests, Decides-int_eq}
use Rattle.std.proofs.lemmas.Int.{ints}
use Rattle.ground_model.specs.declared.linear.Place.{Place}
use Rattle.ground_model.specs.Sound.{same_place}
use Rattle.ground_model.proofs.Bools.{and_elim, and_intro, same_test}
use Rattle.linear_normal.specs.declared.constraint.Item.{Item}
use Rattle.linear_normal.specs.declared.constraint.Item.TheVariants.{Value, Truth}
use Rattle.linear_normal.specs.declared.constraint.Constraint.{Constraint}
use Rattle.linear_normal.specs.declared.constraint.Constraint.TheVariants.{AtMost, Both, Either, Domain, Distinct, Disjoint, Tally}
use Rattle.ground_model.specs.contracts.linear.PlacePartialEq.TheImpl.{ghosts as of_place}
use Rattle.linear_normal.specs.contracts.constraint.ItemPartialEq.TheImpl.{ghosts as of_item}
use Rattle.linear_normal.specs.contracts.constraint.ConstraintPartialEq.TheImpl.{ghosts as of_constraint}
use Rattle.linear_normal.specs.Contents.{Term, Variable, Counted, Content, SumAtMost, SumEquals, SumDiffers, InSet, AllDiffer, NoneOverlap, SomeTrue, same_content, same_interval}
use Rattle.linear_normal.specs.Demands.{number_of}
use Rattle.linear_normal.specs.Numbering.{item_of, constraint_of}
use Rattle.linear_normal.specs.inner.Tables.{is_there, IsBackedTerm, IsBacked}
use Rattle.linear_normal.specs.Truth.{numbered_in}
use Rattle.linear_normal.proofs.ContentLemmas.{content_sound, content_same, at_number, int_sound, int_same, nat_same, nat_sound, set_sound, interval_same, place_sound, place_same, lists_sound, lists_same}

-- EQUAL CONSTRAINTS

equal_items : (a b : Item) → of_item.eq a b ≡ true → a ≡ b
equal_items (Value x c) (Value y d) h = grind (arith, nat_tests, Decides-int_eq)
equal_items (Truth x c) (Truth y d) h = grind (arith, nat_tests, Decides-int_eq)
equal_items (Value x c) (Truth y d) h = cc
equal_items (Truth x c) (Value y d) h = cc

own_item : (a : Item) → of_item.eq a a ≡ true
own_item (Value x c) = grind (arith, nat_tests, Decides-int_eq)
own_item (Truth x c) = grind (arith, nat_tests, Decides-int_eq)

same_places : (a b : Place) → of_place.eq a b ≡ same_place a b
same_places a b = search rules

equal_places : (a b : Place) → of_place.eq a b ≡ true → a ≡ b
equal_places a b h = place_sound a b (sym (same_places a b) ∙ h)

own_place : (a : Place) → of_place.eq a a ≡ true
own_place a = same_places a a ∙ place_same a

equal_constraints : (a b : Constraint) → of_constraint.eq a b ≡ true → a ≡ b
equal_constraints (AtMost xs k) (AtMost ys l) h =
    let p = and_elim (pointwise of_item.eq xs ys) (int_eq k l) h in ap₂ AtMost (lists_sound of_item.eq equal_items xs ys p.0) (int_sound k l p.1)
equal_constraints (Both i j) (Both m n) h = let p = and_elim (nat_eq i m) (nat_eq j n) h in ap₂ Both (nat_sound i m p.0) (nat_sound j n p.1)
equal_constraints (Either i j) (Either m n) h = let p = and_elim (nat_eq i m) (nat_eq j n) h in ap₂ Either (nat_sound i m p.0) (nat_sound j n p.1)
equal_constraints (Domain x set) (Domain y other) h =
    let p = and_elim (nat_eq x y) (pointwise same_interval set.intervals other.intervals) h in ap₂ Domain (nat_sound x y p.0) (set_sound set other p.1)
equal_constraints (Distinct places) (Distinct others) h = ap Distinct (lists_sound of_place.eq equal_places places others h)
equal_constraints (Disjoint places) (Disjoint others) h = ap Disjoint (lists_sound of_place.eq equal_places places others h)
equal_constraints (Tally bodies) (Tally others) h = ap Tally (lists_sound nat_eq nat_sound bodies others h)
equal_constraints _ _ h = absurd (true≢false (sym h))

own_constraint : (a : Constraint) → of_constraint.eq a a ≡ true
own_constraint (AtMost xs k) = and_intro (pointwise of_item.eq xs xs) (int_eq k k) (lists_same of_item.eq own_item xs) (int_same k)
own_constraint (Both i j) = and_intro (nat_eq i i) (nat_eq j j) (nat_same i) (nat_same j)
own_constraint (Either i j) = and_intro (nat_eq i i) (nat_eq j j) (nat_same i) (nat_same j)
own_constraint (Domain x set) = and_intro (nat_eq x x) (pointwise same_interval set.intervals set.intervals) (nat_same x) (lists_same same_interval interval_same set.intervals)
own_constraint (Distinct places) = lists_same of_place.eq own_place places
own_constraint (Disjoint places) = lists_same of_place.eq own_place places
own_constraint (Tally bodies) = lists_same nat_eq nat_same bodies

-- A CONSTRAINT'S CONTENT

module _ (numbers : List Content) where
  -- the bodies of a tally
  abbrev tally_of : Option Content → List ℕ
  tally_of (Some (SomeTrue bodies)) = bodies
  tally_of content = []

  -- the terms and the number of a sum that is at most
  abbrev sum_of : Option Content → List Term
  sum_of (Some (SumAtMost sum k)) = sum
  sum_of content = []

  abbrev most_of : Option Content → ℤ
  most_of (Some (SumAtMost sum k)) = k
  most_of content = pos 0

  abbrev term_from : Item → Term
  term_from (Value x c) = Variable x c
  term_from (Truth n c) = Counted (tally_of (numbered_in numbers n)) c

  -- what a constraint says, its parts and tallies looked up by number
  abbrev content_from : Constraint → Content
  content_from (AtMost items k) = SumAtMost (map term_from items) k
  content_from (Both i j) = SumEquals (sum_of (numbered_in numbers i)) (most_of (numbered_in numbers i))
  content_from (Either i j) = SumDiffers (sum_of (numbered_in numbers i)) (most_of (numbered_in numbers i) +ℤ pos 1)
  content_from (Domain x set) = InSet x set
  content_from (Distinct places) = AllDiffer places
  content_from (Disjoint places) = NoneOverlap places
  content_from (Tally bodies) = SomeTrue bodies

  pub found : (content : Content) → is_there numbers content ≡ true → numbered_in numbers (number_of numbers content) ≡ Some content
  found content there = let r = at_number numbers content there in ap (numbered_in numbers) r.1 ∙ r.2

  terms_back : (sum : List Term) → AllByRecursion (IsBackedTerm numbers) sum → map term_from (map (item_of numbers) sum) ≡ sum
  terms_back [] backed = refl
  terms_back (Variable x c ∷ sum) backed = ap (λ terms. Variable x c ∷ terms) (terms_back sum backed.1)
  terms_back (Counted bodies c ∷ sum) backed =
      ap₂ (λ content terms. Counted (tally_of content) c ∷ terms) (found (SomeTrue bodies) backed.0) (terms_back sum backed.1)

  one_less : (k : ℤ) → (k -ℤ pos 1) +ℤ pos 1 ≡ k
  one_less k = grind (arith, ints)

  content_back : (content : Content) → IsBacked numbers content → content_from (constraint_of numbers content) ≡ content
  content_back (SumAtMost sum k) backed = ap (λ terms. SumAtMost terms k) (terms_back sum backed)
  content_back (SumEquals sum k) backed = ap (λ part. SumEquals (sum_of part) (most_of part)) (found (SumAtMost sum k) backed.0)
  content_back (SumDiffers sum k) backed =
      ap (λ part. SumDiffers (sum_of part) (most_of part +ℤ pos 1)) (found (SumAtMost sum (k -ℤ pos 1)) backed.0) ∙ ap (SumDiffers sum) (one_less k)
  content_back (InSet x set) backed = refl
  content_back (AllDiffer places) backed = refl
  content_back (NoneOverlap places) backed = refl
  content_back (SomeTrue bodies) backed = refl

  -- `==` on the constraints of two contents says whether the contents are the same
  pub same_keys : (a b : Content) → IsBacked numbers a → IsBacked numbers b → of_constraint.eq (constraint_of numbers b) (constraint_of numbers a) ≡ same_content a b
  same_keys a b p q = same_test (of_constraint.eq (constraint_of numbers b) (constraint_of numbers a)) (same_content a b) forth back
    where
      forth : of_constraint.eq (constraint_of numbers b) (constraint_of numbers a) ≡ true → same_content a b ≡ true
      forth h =
          let e : constraint_of numbers b ≡ constraint_of numbers a = equal_constraints (constraint_of numbers b) (constraint_of numbers a) h in
          let c : a ≡ b = sym (content_back a p) ∙ ap content_from (sym e) ∙ content_back b q in
          subst (λ x. same_content a x ≡ true) c (content_same a)

      back : same_content a b ≡ true → of_constraint.eq (constraint_of numbers b) (constraint_of numbers a) ≡ true
      back h =
          subst (λ x. of_constraint.eq (constraint_of numbers b) (constraint_of numbers x) ≡ true) (sym (content_sound a b h)) (own_constraint (constraint_of numbers b))
