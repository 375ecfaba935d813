-- The truths that a trail at rest gives: domains, distinct and disjoint constraints by their values, all else by the trail.
use Rattle.std.proofs.Common.{◌≡◌, ℕ, zero, suc, ◌≤◌, nat_le, Bool, true, false, not, ◌&&◌, List, [], ◌∷◌, map, length, refl, sym, ◌∙◌, ap, ap₂, subst, true≢false, ℤ, pos, ◌+ℤ◌, ◌*ℤ◌, int_eq, int_le, Option, None, Some, IfSome, if◌then◌else◌, slice_get, arith}
use Rattle.std.specs.List.{AllByRecursion, list_all}
use Rattle.std.proofs.lemmas.Bool.Decides.{nat_tests}
use Rattle.literals.specs.declared.lit.Lit.{Lit}
use Rattle.literals.specs.declared.lit.Lit.TheVariants as l
use Rattle.literals.specs.Truths.{Truths, lit_true, all_true, Meets}
use Rattle.ground_model.specs.declared.linear.Place.{Place}
use Rattle.ground_model.specs.declared.rule.TheoryHead.TheVariants as h
use Rattle.ground_model.specs.declared.program.GroundProgram.{GroundProgram}
use Rattle.ground_model.specs.Answers.{IsNumbered}
use Rattle.ground_model.specs.Duties.{theory_holds}
use Rattle.ground_model.specs.Intervals.{lies_in}
use Rattle.ground_model.specs.Members.{IsMember}
use Rattle.ground_model.specs.Rule.{PlaceOf}
use Rattle.ground_model.specs.Truth.{pairs_value, value_of, all_pairs, differ, share, are_apart}
use Rattle.ground_model.specs.View.{linear_of, place_of}
use Rattle.ground_model.specs.World.{World, world_of}
use Rattle.ground_model.proofs.Bools.{and_elim, not_true}
use Rattle.ground_model.proofs.MemberLemmas.{all_member, property_member, property_from_members, property_map, contains_member}
use Rattle.linear_normal.specs.declared.constraint.Item.{Item}
use Rattle.linear_normal.specs.declared.constraint.Item.TheVariants.{Value, Truth}
use Rattle.linear_normal.specs.declared.constraint.Constraint.{Constraint}
use Rattle.linear_normal.specs.declared.constraint.Constraint.TheVariants as c
use Rattle.linear_normal.specs.declared.numbered.Conjunction.{Conjunction}
use Rattle.linear_normal.specs.declared.numbered.Numbered.{Numbered}
use Rattle.linear_normal.specs.Numbering.{numbering}
use Rattle.linear_normal.specs.Steps.{is_one_of}
use Rattle.linear_normal.specs.Truth.{numbered_in, items_value, constraint_truth, AreTruths}
use Rattle.linear_normal.proofs.BodyLemmas.{place_member}
use Rattle.numbering_laws.specs.Parts.{is_tally, IsOfSum, IsPlaceOf, HasParts}
use Rattle.numbering_laws.proofs.MadeLemmas.{numbered_known}
use Rattle.numbering_laws.proofs.PartLemmas.{parts_law}
use Rattle.completion.specs.Inputs.{input_nogoods, MeetsAll}
use Rattle.completion_laws.specs.Inputs.{is_demanded, IsInputLit}
use Rattle.completion_laws.proofs.InputLemmas.{inputs_law}
use Rattle.trail.specs.declared.shape.Shape.{Shape}
use Rattle.trail.specs.Assignment.{Assignment, is_true_on, lower_on}
use Rattle.trail.specs.Forced.{AllTrueOn}
use Rattle.trail.proofs.AssignmentLaws.{truth-true}
use Rattle.trail_worlds.specs.Worlds.{truths_on, answer_on}
use Rattle.trail_worlds.specs.Laws.{IsModelOn}
use Rattle.trail_worlds.proofs.InputLemmas.{body_read, constraint_read}
use Rattle.trail_worlds.proofs.TrailLemmas.{opposite_on, truth_is, atom_decided, body_decided, constraint_decided, atom_is, value_is}

-- a number that passes the test is one of so many
pub numbered_one : (last n : ℕ) → is_one_of last n ≡ true → IsNumbered last n
numbered_one last n e =
    let p = and_elim (nat_le 1 n) (nat_le n last) e in
    let above = le 1 n p.0 in
    record { above = omega (arith, above); known = le n last p.1 }
  where
    le : (x y : ℕ) → nat_le x y ≡ true → x ≤ y
    le x y h = grind (arith, nat_tests, h)

if_some : {X : Type 0} (P : X → Type 0) (found : Option X) → ((x : X) → found ≡ Some x → P x) → IfSome found P
if_some P None f = tt
if_some P (Some x) f = f x refl

-- VALUES THAT AGREE

module _ (u v : ℕ → ℤ) where
  abbrev IsSamePair : ℕ × ℤ → Type 0
  IsSamePair pair = u pair.0 ≡ v pair.0

  abbrev IsSamePlace : Place → Type 0
  IsSamePlace place = value_of u (linear_of place.linear) ≡ value_of v (linear_of place.linear)

  pub pairs_same : (pairs : List (ℕ × ℤ)) → AllByRecursion IsSamePair pairs → pairs_value u pairs ≡ pairs_value v pairs
  pairs_same [] same = refl
  pairs_same (pair ∷ pairs) same = ap₂ (λ y z. (pair.1 *ℤ y) +ℤ z) same.0 (pairs_same pairs same.1)

  module _ (test : (ℕ → ℤ) → PlaceOf ℕ → PlaceOf ℕ → Bool)
      (alike : (a b : Place) → IsSamePlace a → IsSamePlace b → test u (place_of [] a) (place_of [] b) ≡ test v (place_of [] a) (place_of [] b)) where
    all_same : (place : Place) → IsSamePlace place → (rest : List Place) → AllByRecursion IsSamePlace rest
        → list_all (test u (place_of [] place)) (map (place_of []) rest) ≡ list_all (test v (place_of [] place)) (map (place_of []) rest)
    all_same place own [] same = refl
    all_same place own (next ∷ rest) same = ap₂ ◌&&◌ (alike place next own same.0) (all_same place own rest same.1)

    each_same : (places : List Place) → AllByRecursion IsSamePlace places → all_pairs (test u) (map (place_of []) places) ≡ all_pairs (test v) (map (place_of []) places)
    each_same [] same = refl
    each_same (place ∷ rest) same = ap₂ ◌&&◌ (all_same place same.0 rest same.1) (each_same rest same.1)

module _ (program : GroundProgram) (t : Assignment) (is : IsModelOn program t) where
  abbrev N : Numbered
  N = numbering program

  abbrev pub world : World
  world = world_of (answer_on t)

  -- where the trail says this of a constraint, whether it is true
  abbrev by_kind : Option Constraint → Bool → Bool
  by_kind (Some (c.Domain x set)) said = theory_holds world.values (h.Domain set x)
  by_kind (Some (c.Distinct places)) said = theory_holds world.values (h.Distinct places)
  by_kind (Some (c.Disjoint places)) said = theory_holds world.values (h.Disjoint places)
  by_kind constraint said = said

  abbrev said : ℕ → Bool
  said n = is_true_on t (l.Constraint n true)

  abbrev pub truths : Truths
  truths = record {
    atom = world.atoms;
    body = λ b. is_true_on t (l.Body b true);
    constraint = λ n. by_kind (numbered_in N.constraints n) (is_true_on t (l.Constraint n true));
    value = world.values;
  }

  free : (found : Option Constraint) (b : Bool) → is_demanded found ≡ false → by_kind found b ≡ b
  free None b e = refl
  free (Some (c.AtMost items most)) b e = refl
  free (Some (c.Both i j)) b e = refl
  free (Some (c.Either i j)) b e = refl
  free (Some (c.Domain x set)) b e = absurd (true≢false e)
  free (Some (c.Distinct places)) b e = absurd (true≢false e)
  free (Some (c.Disjoint places)) b e = absurd (true≢false e)
  free (Some (c.Tally bodies)) b e = refl

  -- NUMBERS AND VALUES

  pub atom_here : (a : ℕ) → IsNumbered (length program.atoms) a → IsNumbered t.shape.atoms a
  atom_here a k = subst (λ (s : Shape). IsNumbered s.atoms a) (sym is.shape) k

  pub body_here : (b : ℕ) → IsNumbered (length N.bodies) b → IsNumbered t.shape.bodies b
  body_here b k = subst (λ (s : Shape). IsNumbered s.bodies b) (sym is.shape) k

  constraint_here : (n : ℕ) → IsNumbered (length N.constraints) n → IsNumbered t.shape.constraints n
  constraint_here n k = subst (λ (s : Shape). IsNumbered s.constraints n) (sym is.shape) k

  value_here : (x : ℕ) → IsNumbered (length program.variables) x → lower_on t x ≡ world.values x
  value_here x k = sym (value_is t x (subst (λ (s : Shape). IsNumbered s.variables x) (sym is.shape) k))

  place_here : (place : Place) → IsPlaceOf program place → IsSamePlace (λ x. lower_on t x) world.values place
  place_here place named =
      ap (λ z. z +ℤ place.linear.constant)
      (pairs_same (λ x. lower_on t x) world.values place.linear.pairs
      (property_map (λ pair. IsNumbered (length program.variables) pair.0) (IsSamePair (λ x. lower_on t x) world.values) (λ pair k. value_here pair.0 k) place.linear.pairs named))

  places_here : (places : List Place) → AllByRecursion (IsPlaceOf program) places → AllByRecursion (IsSamePlace (λ x. lower_on t x) world.values) places
  places_here places named = property_map (IsPlaceOf program) (IsSamePlace (λ x. lower_on t x) world.values) place_here places named

  parts_at : (n : ℕ) (constraint : Constraint) → numbered_in N.constraints n ≡ Some constraint → HasParts program N constraint
  parts_at zero constraint e = absurd (none e)
    where
      none : {Y : Type 0} {y : Y} → None ≡ Some y → ⊥
      none p = cc
  parts_at (suc k) constraint e = property_member (HasParts program N) N.constraints constraint (parts_law program).constraints (place_member N.constraints k constraint e)

  -- what the trail says true is true
  kept : (n : ℕ) (found : Option Constraint) → numbered_in N.constraints n ≡ found → said n ≡ true → by_kind found (said n) ≡ true
  kept n None e f = f
  kept n (Some (c.AtMost items most)) e f = f
  kept n (Some (c.Both i j)) e f = f
  kept n (Some (c.Either i j)) e f = f
  kept n (Some (c.Domain x set)) e f =
      ap (lies_in set.intervals) (sym (value_here x (parts_at n (c.Domain x set) e))) ∙ is.settled n (c.Domain x set) e refl (truth-true t (l.Constraint n true) f)
  kept n (Some (c.Distinct places)) e f =
      sym (each_same (λ x. lower_on t x) world.values (λ values. differ values) (λ a b p q. ap₂ (λ y z. not (int_eq y z)) p q) places (places_here places (parts_at n (c.Distinct places) e)))
      ∙ is.settled n (c.Distinct places) e refl (truth-true t (l.Constraint n true) f)
  kept n (Some (c.Disjoint places)) e f =
      sym (each_same (λ x. lower_on t x) world.values (λ values. are_apart values) (λ a b p q. ap₂ (λ y z. not (share y a.duration z b.duration)) p q) places (places_here places (parts_at n (c.Disjoint places) e)))
      ∙ is.settled n (c.Disjoint places) e refl (truth-true t (l.Constraint n true) f)
  kept n (Some (c.Tally bodies)) e f = f

  -- INPUT NOGOODS

  not_said : (n : ℕ) → by_kind (numbered_in N.constraints n) (said n) ≡ false → said n ≡ false
  not_said n e = go (said n) refl
    where
      go : (b : Bool) → said n ≡ b → b ≡ false
      go true f = absurd (true≢false (sym (kept n (numbered_in N.constraints n) refl f) ∙ e))
      go false f = refl

  lit_said : (lit : Lit) → IsInputLit program N lit → lit_true truths lit ≡ true → is_true_on t lit ≡ true
  lit_said (l.Atom a true) k e = sym (atom_is t a (atom_here a (numbered_one (length program.atoms) a k.named))) ∙ e
  lit_said (l.Atom a false) k e =
      let here = atom_here a (numbered_one (length program.atoms) a k.named) in
      opposite_on t (l.Atom a true) (atom_decided t is.total a here) (sym (atom_is t a here) ∙ not_true (world.atoms a) e)
  lit_said (l.Body b true) k e = e
  lit_said (l.Body b false) k e =
      opposite_on t (l.Body b true) (body_decided t is.total b (body_here b (numbered_one (length N.bodies) b k.named))) (not_true (is_true_on t (l.Body b true)) e)
  lit_said (l.Constraint n true) k e = sym (free (numbered_in N.constraints n) (said n) k.input) ∙ e
  lit_said (l.Constraint n false) k e =
      opposite_on t (l.Constraint n true) (constraint_decided t is.total n (constraint_here n (numbered_one (length N.constraints) n k.named)))
      (not_said n (not_true (by_kind (numbered_in N.constraints n) (said n)) e))
  lit_said (l.AtMost x bound) k e = absurd k.input
  lit_said (l.AtLeast x bound) k e = absurd k.input

  one_met : (nogood : List Lit) → IsMember (input_nogoods program) nogood → Meets truths nogood
  one_met nogood m = go (all_true truths nogood) refl
    where
      go : (b : Bool) → all_true truths nogood ≡ b → b ≡ false
      go false e = refl
      go true e =
          absurd (property_member (λ n. AllTrueOn t n → ⊥) (input_nogoods program) nogood is.met m
          (λ lit k.
          let here = contains_member nogood lit k in
          lit_said lit (property_member (IsInputLit program N) nogood lit (property_member (AllByRecursion (IsInputLit program N)) (input_nogoods program) nogood (inputs_law program) m) here)
          (all_member (lit_true truths) nogood lit e here)))

  pub all_met : MeetsAll truths (input_nogoods program)
  all_met = property_from_members (Meets truths) (input_nogoods program) one_met

  -- THE TRUTHS ARE TRUTHS

  tally_free : (found : Option Constraint) → is_tally found ≡ true → is_demanded found ≡ false
  tally_free None e = refl
  tally_free (Some (c.AtMost items most)) e = refl
  tally_free (Some (c.Both i j)) e = refl
  tally_free (Some (c.Either i j)) e = refl
  tally_free (Some (c.Domain x set)) e = absurd (true≢false (sym e))
  tally_free (Some (c.Distinct places)) e = absurd (true≢false (sym e))
  tally_free (Some (c.Disjoint places)) e = absurd (true≢false (sym e))
  tally_free (Some (c.Tally bodies)) e = refl

  items_here : (items : List Item) → AllByRecursion (IsOfSum program N) items → items_value (truths_on t) items ≡ items_value truths items
  items_here [] named = refl
  items_here (Value x k ∷ items) named = ap₂ (λ y z. (k *ℤ y) +ℤ z) (value_here x named.0) (items_here items named.1)
  items_here (Truth n k ∷ items) named =
      ap₂ (λ b z. (k *ℤ (if b then pos 1 else pos 0)) +ℤ z) (sym (free (numbered_in N.constraints n) (said n) (tally_free (numbered_in N.constraints n) named.0))) (items_here items named.1)

  sum_read : (n : ℕ) (items : List Item) (most : ℤ) → numbered_in N.constraints n ≡ Some (c.AtMost items most) → said n ≡ constraint_truth truths (c.AtMost items most)
  sum_read n items most e =
      let here = constraint_here n (numbered_known N.constraints n (c.AtMost items most) e) in
      let same : Some (said n) ≡ Some (constraint_truth (truths_on t) (c.AtMost items most)) = sym (truth_is t (l.Constraint n true) (constraint_decided t is.total n here)) ∙ is.settled n (c.AtMost items most) e refl in
      let truth : said n ≡ constraint_truth (truths_on t) (c.AtMost items most) = cc in
      truth ∙ ap (λ z. int_le z most) (items_here items (parts_at n (c.AtMost items most) e))

  constraint_at : (k : ℕ) (constraint : Constraint) → slice_get N.constraints k ≡ Some constraint → truths.constraint (suc k) ≡ constraint_truth truths constraint
  constraint_at k (c.AtMost items most) e = ap (λ found. by_kind found (said (suc k))) e ∙ sum_read (suc k) items most e
  constraint_at k (c.Both i j) e = constraint_read program truths all_met k (c.Both i j) e refl
  constraint_at k (c.Either i j) e = constraint_read program truths all_met k (c.Either i j) e refl
  constraint_at k (c.Domain x set) e = ap (λ found. by_kind found (said (suc k))) e
  constraint_at k (c.Distinct places) e = ap (λ found. by_kind found (said (suc k))) e
  constraint_at k (c.Disjoint places) e = ap (λ found. by_kind found (said (suc k))) e
  constraint_at k (c.Tally bodies) e = constraint_read program truths all_met k (c.Tally bodies) e refl

  bodies_are : (b : ℕ) → IfSome (numbered_in N.bodies b) (λ conjunction. truths.body b ≡ all_true truths conjunction.lits)
  bodies_are zero = tt
  bodies_are (suc m) = if_some (λ (conjunction : Conjunction). truths.body (suc m) ≡ all_true truths conjunction.lits) (slice_get N.bodies m) (λ body e. body_read program truths all_met m body e)

  constraints_are : (n : ℕ) → IfSome (numbered_in N.constraints n) (λ constraint. truths.constraint n ≡ constraint_truth truths constraint)
  constraints_are zero = tt
  constraints_are (suc k) = if_some (λ (constraint : Constraint). truths.constraint (suc k) ≡ constraint_truth truths constraint) (slice_get N.constraints k) (constraint_at k)

  pub are_truths : AreTruths N world truths
  are_truths = record { atom = λ a. refl; value = λ x. refl; body = bodies_are; constraint = constraints_are }
