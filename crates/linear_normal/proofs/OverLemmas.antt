-- The constraints of a numbering name variables of the program.
use Rattle.std.proofs.Common.{◌≡◌, ℕ, suc, zero, true, ◌&&◌, inl, inr, List, [], ◌∷◌, ◌++◌, map, flat_map, length, refl, sym, ap, subst, ℤ, pos, ◌-ℤ◌, ◌≤ℤ◌, int_le, int_eq, slice_get, IfSome, not, arith}
use Rattle.std.specs.List.{AllByRecursion, list_all, range_with_len}
use Rattle.std.proofs.lemmas.Int.{ints}
use Rattle.symbols.specs.declared.rel.Rel.{Rel}
use Rattle.symbols.specs.declared.rel.Rel.TheVariants.{Equal, NotEqual, Less, LessEqual, Greater, GreaterEqual}
use Rattle.ground_model.specs.declared.linear.Linear.{Linear}
use Rattle.ground_model.specs.declared.linear.Place.{Place}
use Rattle.ground_model.specs.declared.linear.Relation.{Relation}
use Rattle.ground_model.specs.declared.rule.BodyLit.{BodyLit}
use Rattle.ground_model.specs.declared.rule.BodyLit.TheVariants as b
use Rattle.ground_model.specs.declared.rule.Bound.{Bound}
use Rattle.ground_model.specs.declared.rule.TheoryHead.{TheoryHead}
use Rattle.ground_model.specs.declared.rule.TheoryHead.TheVariants as t
use Rattle.ground_model.specs.declared.rule.GroundHead.{GroundHead}
use Rattle.ground_model.specs.declared.rule.GroundHead.TheVariants as h
use Rattle.ground_model.specs.declared.program.GroundProgram.{GroundProgram}
use Rattle.ground_model.specs.Answers.{IsNumbered}
use Rattle.ground_model.specs.Members.{IsMember}
use Rattle.ground_model.specs.Sizes.{IsSoundPair}
use Rattle.ground_model.specs.Sound.{is_sound_rule, is_sound_head, is_sound_literal, is_sound_theory, is_sound_place, is_sound_linear, are_sound_pairs, are_sound_places, are_different, is_small, is_number, are_known, has_few_variables, is_small_over, first_places, total_constant, most}
use Rattle.ground_model.proofs.Bools.{and_elim}
use Rattle.ground_model.proofs.MemberLemmas.{property_member, property_from_members, property_map, all_member, map_member}
use Rattle.ground_model.proofs.SizeLemmas.{sound_pairs}
use Rattle.ground_model.proofs.SizeLemmas as sizes
use Rattle.ground_model.proofs.WayLemmas.{flat_member}
use Rattle.linear_normal.specs.declared.constraint.Constraint.{Constraint}
use Rattle.linear_normal.specs.declared.constraint.Constraint.TheVariants as c
use Rattle.linear_normal.specs.Contents.{Term, Variable, Counted, Content, SumAtMost, SumEquals, SumDiffers, InSet, AllDiffer, NoneOverlap, SomeTrue, opposite, compared}
use Rattle.linear_normal.specs.Bodies.{Placed, placed, selections}
use Rattle.linear_normal.specs.Demands.{moved_coefficient, moved_pairs, terms_of, relation_content, theory_content, bound_content, bounds_of, with_parts, literal_demands, choice_demands, head_demands, rule_demands}
use Rattle.linear_normal.specs.Numbering.{item_of, constraint_of, contents_in, numbering}
use Rattle.linear_normal.specs.Truth.{numbered_in}
use Rattle.linear_normal.proofs.BodyLemmas.{placed_rule}
use Rattle.linear_normal.proofs.BoundLemmas.{IsItemOf}
use Rattle.linear_normal.proofs.ContentLemmas.{only_demanded}
use Rattle.linear_normal.proofs.ListLemmas.{filter_member, range_numbered}

-- pairs name some of so many variables
abbrev pub ArePairsOver : ℕ → List (ℕ × ℤ) → Type 0
ArePairsOver variables pairs = AllByRecursion (λ pair. IsNumbered variables pair.0) pairs

-- a tuple names such variables, and its duration is not negative
pub record IsPlaceOver (variables : ℕ) (place : Place) : Type 0 where
  pub pairs : ArePairsOver variables place.linear.pairs
  pub lasts : pos 0 ≤ℤ place.duration

abbrev pub IsTermOver : ℕ → Term → Type 0
IsTermOver variables (Variable x c) = IsNumbered variables x
IsTermOver variables (Counted bodies c) = Unit {0}

abbrev pub IsOver : ℕ → Content → Type 0
IsOver variables (SumAtMost sum k) = AllByRecursion (IsTermOver variables) sum
IsOver variables (SumEquals sum k) = Unit {0}
IsOver variables (SumDiffers sum k) = Unit {0}
IsOver variables (InSet x set) = IsNumbered variables x
IsOver variables (AllDiffer places) = AllByRecursion (IsPlaceOver variables) places
IsOver variables (NoneOverlap places) = AllByRecursion (IsPlaceOver variables) places
IsOver variables (SomeTrue bodies) = Unit {0}

abbrev pub IsConstraintOver : ℕ → Constraint → Type 0
IsConstraintOver variables (c.AtMost items k) = AllByRecursion (IsItemOf variables) items
IsConstraintOver variables (c.Both i j) = Unit {0}
IsConstraintOver variables (c.Either i j) = Unit {0}
IsConstraintOver variables (c.Domain x set) = IsNumbered variables x
IsConstraintOver variables (c.Distinct places) = AllByRecursion (IsPlaceOver variables) places
IsConstraintOver variables (c.Disjoint places) = AllByRecursion (IsPlaceOver variables) places
IsConstraintOver variables (c.Tally bodies) = Unit {0}

pub moved_over : (variables : ℕ) (left right : List Linear) → ArePairsOver variables (moved_pairs variables left right)
moved_over variables left right =
    property_from_members (λ pair. IsNumbered variables pair.0) (moved_pairs variables left right)
    (λ pair m.
    let f = filter_member (λ (p : ℕ × ℤ). not (int_eq p.1 (pos 0))) (map (λ x. (x, moved_coefficient left right x)) (range_with_len 1 variables)) pair m in
    let r = map_member (λ x. (x, moved_coefficient left right x)) (range_with_len 1 variables) pair f.0 in
    subst (IsNumbered variables) (sym (ap (λ p. p.0) r.2)) (range_numbered variables r.0 r.1))

terms_over : (variables : ℕ) (pairs : List (ℕ × ℤ)) → ArePairsOver variables pairs → AllByRecursion (IsTermOver variables) (terms_of pairs)
terms_over variables [] is = tt
terms_over variables (pair ∷ pairs) is = (is.0, terms_over variables pairs is.1)

counted_over : (variables : ℕ) (selections : List (List ℕ)) → AllByRecursion (IsTermOver variables) (map (λ bodies. Counted bodies (pos 1)) selections)
counted_over variables [] = tt
counted_over variables (bodies ∷ selections) = (tt, counted_over variables selections)

opposite_over : (variables : ℕ) (sum : List Term) → AllByRecursion (IsTermOver variables) sum → AllByRecursion (IsTermOver variables) (opposite sum)
opposite_over variables [] is = tt
opposite_over variables (Variable x c ∷ sum) is = (is.0, opposite_over variables sum is.1)
opposite_over variables (Counted bodies c ∷ sum) is = (tt, opposite_over variables sum is.1)

compared_over : (variables : ℕ) (sum : List Term) → AllByRecursion (IsTermOver variables) sum → (rel : Rel) (k : ℤ) → AllByRecursion (IsOver variables) (with_parts (compared sum rel k))
compared_over variables sum is LessEqual k = (is, tt)
compared_over variables sum is Less k = (is, tt)
compared_over variables sum is GreaterEqual k = (opposite_over variables sum is, tt)
compared_over variables sum is Greater k = (opposite_over variables sum is, tt)
compared_over variables sum is Equal k = (tt, (is, (opposite_over variables sum is, tt)))
compared_over variables sum is NotEqual k = (tt, (is, (opposite_over variables sum is, tt)))

relation_over : (variables : ℕ) (relation : Relation) → AllByRecursion (IsOver variables) (with_parts (relation_content variables relation))
relation_over variables relation =
    compared_over variables (terms_of (moved_pairs variables (first_places relation.elements) (relation.right ∷ [])))
    (terms_over variables (moved_pairs variables (first_places relation.elements) (relation.right ∷ [])) (moved_over variables (first_places relation.elements) (relation.right ∷ [])))
    relation.rel (relation.right.constant -ℤ total_constant (first_places relation.elements))

place_over : (symbols variables : ℕ) (place : Place) → is_sound_place symbols variables place ≡ true → IsPlaceOver variables place
place_over symbols variables place e =
    let p = and_elim (is_sound_linear variables place.linear && int_le (pos 0) place.duration) (are_known symbols place.rest) e in
    let q = and_elim (is_sound_linear variables place.linear) (int_le (pos 0) place.duration) p.0 in
    let r = and_elim (are_sound_pairs variables 0 place.linear.pairs) (is_small place.linear.constant) q.0 in
    record {
      pairs = property_map (IsSoundPair variables) (λ pair. IsNumbered variables pair.0) (λ pair s. record { above = s.above; known = s.known }) place.linear.pairs
          (sound_pairs variables 0 place.linear.pairs r.0);
      lasts = not_negative place.duration q.1;
    }
  where
    not_negative : (d : ℤ) → int_le (pos 0) d ≡ true → pos 0 ≤ℤ d
    not_negative d e = grind (arith, ints)

places_over : (symbols variables : ℕ) (places : List Place) → are_sound_places symbols variables places ≡ true → AllByRecursion (IsPlaceOver variables) places
places_over symbols variables places e =
    let p = and_elim (list_all (is_sound_place symbols variables) places && are_different places && Rattle.std.specs.Prelude.nat_le (length places) most) (has_few_variables variables (first_places places)) e in
    let q = and_elim (list_all (is_sound_place symbols variables) places && are_different places) (Rattle.std.specs.Prelude.nat_le (length places) most) p.0 in
    let r = and_elim (list_all (is_sound_place symbols variables) places) (are_different places) q.0 in
    property_from_members (IsPlaceOver variables) places (λ place m. place_over symbols variables place (all_member (is_sound_place symbols variables) places place r.0 m))

module _ (program : GroundProgram) where
  abbrev variables : ℕ
  variables = length program.variables

  theory_over : (theory : TheoryHead) → is_sound_theory (length program.symbols) variables program.ends theory ≡ true → AllByRecursion (IsOver variables) (with_parts (theory_content variables theory))
  theory_over (t.Relation relation) e = relation_over variables relation
  theory_over (t.Domain set x) e =
      (sizes.number_of variables x (and_elim (is_number variables x) (Rattle.std.specs.Prelude.nat_le (length set.intervals) most) e).0, tt)
  theory_over (t.Distinct places) e =
      (places_over (length program.symbols) variables places (and_elim (are_sound_places (length program.symbols) variables places) (list_all (is_small_over program.ends) (first_places places)) e).0, tt)
  theory_over (t.Disjoint places) e =
      (places_over (length program.symbols) variables places (and_elim (are_sound_places (length program.symbols) variables places) (list_all (is_small_over program.ends) (first_places places)) e).0, tt)

  choice_over : (selections : List (List ℕ)) (bounds : List Bound) (content : Content) → IsMember (choice_demands selections bounds) content → IsOver variables content
  choice_over selections [] content m = absurd m
  choice_over selections (x ∷ bounds) content m = tallies selections m
    where
      tallies : (s : List (List ℕ)) → IsMember (map SomeTrue s ++ flat_map (λ bound. with_parts (bound_content selections bound)) (x ∷ bounds)) content → IsOver variables content
      tallies [] m =
          let f = flat_member (λ bound. with_parts (bound_content selections bound)) (x ∷ bounds) content m in
          property_member (IsOver variables) (with_parts (bound_content selections f.0)) content
          (compared_over variables (map (λ bodies. Counted bodies (pos 1)) selections) (counted_over variables selections) f.0.rel f.0.value) f.2
      tallies (bodies ∷ s) (inl e) = subst (IsOver variables) (sym e) tt
      tallies (bodies ∷ s) (inr m) = tallies s m

  demand_over : (at : Placed) → IsMember (placed 1 program.rules) at → (content : Content) → IsMember (rule_demands (length program.atoms) variables at) content → IsOver variables content
  demand_over at m content k =
      let s = all_member (is_sound_rule (length program.symbols) (length program.atoms) variables program.ends) program.rules at.rule program.sound_rules (placed_rule 1 program.rules at m) in
      let p = and_elim (list_all (is_sound_literal (length program.symbols) (length program.atoms) variables) at.rule.body) (is_sound_head (length program.symbols) (length program.atoms) variables program.ends at.rule.head) s in
      body at.rule.body (head at.rule.head p.1) k
    where
      head : (head : GroundHead) → is_sound_head (length program.symbols) (length program.atoms) variables program.ends head ≡ true → IsMember (head_demands (length program.atoms) variables at.first head) content → IsOver variables content
      head h.Nothing e k = absurd k
      head (h.Atom a) e k = absurd k
      head (h.Theory theory) e k = property_member (IsOver variables) (with_parts (theory_content variables theory)) content (theory_over theory e) k
      head (h.Choice choice) e k = choice_over (selections (length program.atoms) at.first choice.items) (bounds_of choice) content k

      body : (literals : List BodyLit) → (IsMember (head_demands (length program.atoms) variables at.first at.rule.head) content → IsOver variables content)
          → IsMember (flat_map (literal_demands variables) literals ++ head_demands (length program.atoms) variables at.first at.rule.head) content → IsOver variables content
      body [] f k = f k
      body (b.Atom a sign ∷ literals) f k = body literals f k
      body (b.Theory relation sign ∷ literals) f k = parts (with_parts (relation_content variables relation)) (relation_over variables relation) (body literals f) k
        where
          parts : (xs : List Content) → AllByRecursion (IsOver variables) xs
              → (IsMember (flat_map (literal_demands variables) literals ++ head_demands (length program.atoms) variables at.first at.rule.head) content → IsOver variables content)
              → IsMember ((xs ++ flat_map (literal_demands variables) literals) ++ head_demands (length program.atoms) variables at.first at.rule.head) content → IsOver variables content
          parts [] is rest k = rest k
          parts (x ∷ xs) is rest (inl e) = subst (IsOver variables) (sym e) is.0
          parts (x ∷ xs) is rest (inr k) = parts xs is.1 rest k

  pub content_over : (content : Content) → IsMember (contents_in program) content → IsOver variables content
  content_over =
      only_demanded [] (flat_map (rule_demands (length program.atoms) variables) (placed 1 program.rules)) (IsOver variables) (λ x m. absurd m)
      (λ x m. let f = flat_member (rule_demands (length program.atoms) variables) (placed 1 program.rules) x m in demand_over f.0 f.1 x f.2)

  items_over : (terms : List Term) → AllByRecursion (IsTermOver variables) terms → AllByRecursion (IsItemOf variables) (map (item_of (contents_in program)) terms)
  items_over [] is = tt
  items_over (Variable x c ∷ terms) is = (is.0, items_over terms is.1)
  items_over (Counted bodies c ∷ terms) is = (tt, items_over terms is.1)

  constraint_over : (content : Content) → IsOver variables content → IsConstraintOver variables (constraint_of (contents_in program) content)
  constraint_over (SumAtMost sum k) is = items_over sum is
  constraint_over (SumEquals sum k) is = tt
  constraint_over (SumDiffers sum k) is = tt
  constraint_over (InSet x set) is = is
  constraint_over (AllDiffer places) is = is
  constraint_over (NoneOverlap places) is = is
  constraint_over (SomeTrue bodies) is = tt

  all_over : (xs : List Content) → ((content : Content) → IsMember xs content → IsOver variables content) → (k : ℕ) → IfSome (slice_get (map (constraint_of (contents_in program)) xs) k) (IsConstraintOver variables)
  all_over [] f k = none k
    where
      none : (k : ℕ) → IfSome (slice_get {X = Constraint} [] k) (IsConstraintOver variables)
      none zero = tt
      none (suc k) = tt
  all_over (x ∷ xs) f zero = constraint_over x (f x (inl refl))
  all_over (x ∷ xs) f (suc k) = all_over xs (λ y m. f y (inr m)) k

  -- each constraint names variables of the program
  pub constraints_over : (n : ℕ) → IfSome (numbered_in (numbering program).constraints n) (IsConstraintOver variables)
  constraints_over zero = tt
  constraints_over (suc k) = all_over (contents_in program) content_over k
