-- The items of a numbering's sums count different things.
use Rattle.std.proofs.Common.{◌≡◌, ℕ, zero, suc, ◌≤◌, ◌==◌, nat_le, ◌&&◌, Bool, true, false, not, List, [], ◌∷◌, map, length, refl, sym, ◌∙◌, ap, subst, true≢false, eqb-true, ℤ, Option, None, Some, slice_get, arith}
use Rattle.std.specs.List.{AllByRecursion, list_all}
use Rattle.std.proofs.lemmas.Bool.Decides.{nat_tests}
use Rattle.ground_model.specs.declared.program.GroundProgram.{GroundProgram}
use Rattle.ground_model.specs.Answers.{IsNumbered}
use Rattle.ground_model.specs.Sound.{first_places}
use Rattle.ground_model.proofs.Bools.{and_intro}
use Rattle.ground_model.proofs.MemberLemmas.{property_member}
use Rattle.linear_normal.specs.declared.constraint.Item.{Item}
use Rattle.linear_normal.specs.declared.constraint.Item.TheVariants.{Value, Truth}
use Rattle.linear_normal.specs.declared.constraint.Constraint.{Constraint}
use Rattle.linear_normal.specs.declared.constraint.Constraint.TheVariants as c
use Rattle.linear_normal.specs.declared.numbered.Numbered.{Numbered}
use Rattle.linear_normal.specs.Contents.{Term, Variable, Counted, Content, SumAtMost, SumEquals, SumDiffers, InSet, AllDiffer, NoneOverlap, SomeTrue}
use Rattle.linear_normal.specs.Demands.{moved_pairs, terms_of, number_of}
use Rattle.linear_normal.specs.Numbering.{item_of, constraint_of, contents_in, numbering}
use Rattle.linear_normal.specs.Steps.{is_one_of}
use Rattle.linear_normal.specs.Truth.{numbered_in}
use Rattle.linear_normal.proofs.BodyLemmas.{place_member}
use Rattle.linear_normal.proofs.ContentLemmas.{has_content, at_number}
use Rattle.linear_normal.proofs.DemandLemmas.{IsBacked, variables_backed}
use Rattle.linear_normal.proofs.OverLemmas.{moved_over}
use Rattle.numbering_laws.specs.Parts.{is_at_most, is_tally, IsOfSum, HasParts}
use Rattle.numbering_laws.specs.Items.{same_counted, counts_truth, are_items, is_item_within, objective_items, ItemsLaw}
use Rattle.numbering_laws.proofs.ApartLemmas.{IsOther, AreOther, moved_other, twice}
use Rattle.numbering_laws.proofs.MadeLemmas.{numbered_known, mapped_at, constraint_at, IsMade, content_made}
use Rattle.numbering_laws.proofs.PartLemmas.{parts_law}

differ : (x y : ℕ) → (x ≡ y → ⊥) → (x == y) ≡ false
differ x y f = go (x == y) refl
  where
    go : (b : Bool) → (x == y) ≡ b → b ≡ false
    go true e = absurd (f (eqb-true x y e))
    go false e = refl

-- a number that is one of so many, as a test
pub one_of : (last n : ℕ) → IsNumbered last n → is_one_of last n ≡ true
one_of last n is = and_intro (nat_le 1 n) (nat_le n last) (le 1 n (let above = is.above in omega (arith, above))) (le n last is.known)
  where
    le : (x y : ℕ) → x ≤ y → nat_le x y ≡ true
    le x y h = grind (arith, nat_tests, h)

module _ (program : GroundProgram) where
  abbrev variables : ℕ
  variables = length program.variables

  abbrev cs : List Content
  cs = contents_in program

  abbrev N : Numbered
  N = numbering program

  -- different contents have different numbers
  same_number : (a b : Content) → has_content cs a ≡ true → has_content cs b ≡ true → number_of cs a ≡ number_of cs b → a ≡ b
  same_number a b e f s =
      let r = at_number cs a e in
      let q = at_number cs b f in
      let next : suc r.0 ≡ suc q.0 = sym r.1 ∙ s ∙ q.1 in
      let place : r.0 ≡ q.0 = omega (arith, next) in
      let found : Some a ≡ Some b = sym r.2 ∙ ap (slice_get cs) place ∙ q.2 in
      cc

  same_tally : (bodies others : List ℕ) → SomeTrue bodies ≡ SomeTrue others → bodies ≡ others
  same_tally bodies others e = cc

  others_differ : (term : Term) (terms : List Term) → IsBacked program term → AllByRecursion (IsBacked program) terms → AllByRecursion (IsOther term) terms
      → list_all (λ other. not (same_counted (item_of cs term) other)) (map (item_of cs) terms) ≡ true
  others_differ term [] own backed other = refl
  others_differ term (next ∷ terms) own backed other =
      and_intro (not (same_counted (item_of cs term) (item_of cs next))) (list_all (λ other. not (same_counted (item_of cs term) other)) (map (item_of cs) terms))
      (ap not (one term next own backed.0 other.0)) (others_differ term terms own backed.1 other.1)
    where
      one : (a b : Term) → IsBacked program a → IsBacked program b → IsOther a b → same_counted (item_of cs a) (item_of cs b) ≡ false
      one (Variable x c) (Variable y d) p q o = differ x y o
      one (Variable x c) (Counted others d) p q o = refl
      one (Counted bodies c) (Variable y d) p q o = refl
      one (Counted bodies c) (Counted others d) p q o =
          differ (number_of cs (SomeTrue bodies)) (number_of cs (SomeTrue others)) (λ s. o (same_tally bodies others (same_number (SomeTrue bodies) (SomeTrue others) p q s)))

  items_apart : (number : ℕ) → ((bodies : List ℕ) → has_content cs (SomeTrue bodies) ≡ true → (number_of cs (SomeTrue bodies) == number) ≡ false)
      → (sum : List Term) → AllByRecursion (IsBacked program) sum → AreOther sum → are_items number (map (item_of cs) sum) ≡ true
  items_apart number none [] backed other = refl
  items_apart number none (term ∷ sum) backed other =
      and_intro (not (counts_truth number (item_of cs term)) && list_all (λ other. not (same_counted (item_of cs term) other)) (map (item_of cs) sum)) (are_items number (map (item_of cs) sum))
      (and_intro (not (counts_truth number (item_of cs term))) (list_all (λ other. not (same_counted (item_of cs term) other)) (map (item_of cs) sum))
      (ap not (own term backed.0)) (others_differ term sum backed.0 backed.1 other.0))
      (items_apart number none sum backed.1 other.1)
    where
      own : (a : Term) → IsBacked program a → counts_truth number (item_of cs a) ≡ false
      own (Variable x c) p = refl
      own (Counted bodies c) p = none bodies p

  -- SUMS

  sum_at : (n : ℕ) (items : List Item) (most : ℤ) → numbered_in N.constraints n ≡ Some (c.AtMost items most) → are_items n items ≡ true
  sum_at zero items most e = absurd (no_constraint e)
    where
      no_constraint : {Y : Type 0} {y : Y} → None ≡ Some y → ⊥
      no_constraint p = cc
  sum_at (suc k) items most e =
      let found = mapped_at (constraint_of cs) cs k (c.AtMost items most) e in
      of_content found.0 (content_made program found.0 (place_member cs k found.0 found.1)) found.2
    where
      apart : (bodies : List ℕ) → has_content cs (SomeTrue bodies) ≡ true → (number_of cs (SomeTrue bodies) == suc k) ≡ false
      apart bodies there =
          differ (number_of cs (SomeTrue bodies)) (suc k)
          (λ s. true≢false (sym (ap is_tally (constraint_at program (SomeTrue bodies) there)) ∙ ap (λ m. is_tally (numbered_in N.constraints m)) s ∙ ap is_tally e))

      other_kind : {X : Type 0} (constraint : Constraint) → is_at_most (Some constraint) ≡ false → constraint ≡ c.AtMost items most → X
      other_kind constraint f same = absurd (true≢false (sym (ap (λ (x : Constraint). is_at_most (Some x)) same) ∙ f))

      of_content : (content : Content) → IsMade program content → constraint_of cs content ≡ c.AtMost items most → are_items (suc k) items ≡ true
      of_content (SumAtMost sum m) made same =
          let is : map (item_of cs) sum ≡ items = cc in
          subst (λ xs. are_items (suc k) xs ≡ true) is (items_apart (suc k) apart sum made.0 made.1)
      of_content (SumEquals sum m) made same = other_kind (constraint_of cs (SumEquals sum m)) refl same
      of_content (SumDiffers sum m) made same = other_kind (constraint_of cs (SumDiffers sum m)) refl same
      of_content (InSet x set) made same = other_kind (constraint_of cs (InSet x set)) refl same
      of_content (AllDiffer places) made same = other_kind (constraint_of cs (AllDiffer places)) refl same
      of_content (NoneOverlap places) made same = other_kind (constraint_of cs (NoneOverlap places)) refl same
      of_content (SomeTrue bodies) made same = other_kind (constraint_of cs (SomeTrue bodies)) refl same

  tally_known : (n : ℕ) → is_tally (numbered_in N.constraints n) ≡ true → IsNumbered (length N.constraints) n
  tally_known n e = go (numbered_in N.constraints n) refl e
    where
      go : (found : Option Constraint) → numbered_in N.constraints n ≡ found → is_tally found ≡ true → IsNumbered (length N.constraints) n
      go None is f = absurd (true≢false (sym f))
      go (Some constraint) is f = numbered_known N.constraints n constraint is

  items_within : (items : List Item) → AllByRecursion (IsOfSum program N) items → list_all (is_item_within variables (length N.constraints)) items ≡ true
  items_within [] is = refl
  items_within (Value x c ∷ items) is =
      and_intro (is_one_of variables x) (list_all (is_item_within variables (length N.constraints)) items) (one_of variables x is.0) (items_within items is.1)
  items_within (Truth n c ∷ items) is =
      and_intro (is_one_of (length N.constraints) n) (list_all (is_item_within variables (length N.constraints)) items) (one_of (length N.constraints) n (tally_known n is.0)) (items_within items is.1)

  sum_within : (n : ℕ) (items : List Item) (most : ℤ) → numbered_in N.constraints n ≡ Some (c.AtMost items most)
      → (is_one_of (length N.constraints) n && list_all (is_item_within variables (length N.constraints)) items) ≡ true
  sum_within zero items most e = absurd (no_constraint e)
    where
      no_constraint : {Y : Type 0} {y : Y} → None ≡ Some y → ⊥
      no_constraint p = cc
  sum_within (suc k) items most e =
      and_intro (is_one_of (length N.constraints) (suc k)) (list_all (is_item_within variables (length N.constraints)) items)
      (one_of (length N.constraints) (suc k) (numbered_known N.constraints (suc k) (c.AtMost items most) e))
      (items_within items (property_member (HasParts program N) N.constraints (c.AtMost items most) (parts_law program).constraints (place_member N.constraints k (c.AtMost items most) e)))

  -- THE OBJECTIVE

  abbrev moved : List (ℕ × ℤ)
  moved = moved_pairs variables (first_places program.smaller) (first_places program.larger)

  objective_apart : are_items 0 (objective_items N) ≡ true
  objective_apart =
      subst (λ items. are_items 0 items ≡ true) (twice (λ pair. Variable pair.0 pair.1) (item_of cs) moved)
      (items_apart 0 (λ bodies there. differ (number_of cs (SomeTrue bodies)) 0 (λ s. let r = at_number cs (SomeTrue bodies) there in let f = r.1 in omega (arith, s, f)))
      (terms_of moved) (variables_backed program moved) (moved_other variables (first_places program.smaller) (first_places program.larger)))

  pairs_within : (pairs : List (ℕ × ℤ)) → AllByRecursion (λ pair. IsNumbered variables pair.0) pairs
      → list_all (is_item_within variables (length N.constraints)) (map (λ pair. Value pair.0 pair.1) pairs) ≡ true
  pairs_within [] is = refl
  pairs_within (pair ∷ pairs) is =
      and_intro (is_one_of variables pair.0) (list_all (is_item_within variables (length N.constraints)) (map (λ pair. Value pair.0 pair.1) pairs))
      (one_of variables pair.0 is.0) (pairs_within pairs is.1)

pub items_law : ItemsLaw
items_law program = record {
  sums = sum_at program;
  within = sum_within program;
  objective = objective_apart program;
  objective_within = pairs_within program (moved program) (moved_over (length program.variables) (first_places program.smaller) (first_places program.larger));
}
