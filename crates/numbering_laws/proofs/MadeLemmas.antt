-- What the contents of a program are made of.
use Rattle.std.proofs.Common.{◌≡◌, ℕ, zero, suc, ◌+◌, ◌||◌, Bool, true, cond, inl, inr, List, [], ◌∷◌, ◌++◌, map, flat_map, length, refl, sym, ◌∙◌, ap, subst, ℤ, pos, ◌-ℤ◌, neg_ℤ, Option, None, Some, is_some, option_to_list, slice_get, arith}
use Rattle.std.specs.List.{AllByRecursion}
use Rattle.std.proofs.lemmas.List.{length-map}
use Rattle.std.proofs.lemmas.Option.{slice_get_within}
use Rattle.symbols.specs.declared.rel.Rel.{Rel}
use Rattle.symbols.specs.declared.rel.Rel.TheVariants.{Equal, NotEqual, Less, LessEqual, Greater, GreaterEqual}
use Rattle.ground_model.specs.declared.linear.Relation.{Relation}
use Rattle.ground_model.specs.declared.rule.BodyLit.{BodyLit}
use Rattle.ground_model.specs.declared.rule.BodyLit.TheVariants as b
use Rattle.ground_model.specs.declared.rule.Bound.{Bound}
use Rattle.ground_model.specs.declared.rule.ChoiceItem.{ChoiceItem}
use Rattle.ground_model.specs.declared.rule.GroundChoice.{GroundChoice}
use Rattle.ground_model.specs.declared.rule.GroundHead.{GroundHead}
use Rattle.ground_model.specs.declared.rule.GroundHead.TheVariants as h
use Rattle.ground_model.specs.declared.rule.TheoryHead.{TheoryHead}
use Rattle.ground_model.specs.declared.rule.TheoryHead.TheVariants as t
use Rattle.ground_model.specs.declared.program.GroundProgram.{GroundProgram}
use Rattle.ground_model.specs.Answers.{IsNumbered}
use Rattle.ground_model.specs.Members.{IsMember}
use Rattle.ground_model.specs.Sound.{first_places, total_constant}
use Rattle.ground_model.proofs.MemberLemmas.{property_member, property_from_members, member_map, map_member}
use Rattle.ground_model.proofs.WayLemmas.{flat_member}
use Rattle.linear_normal.specs.Contents.{Term, Counted, Content, SumAtMost, SumEquals, SumDiffers, SomeTrue, opposite, compared}
use Rattle.linear_normal.specs.Bodies.{element_body, selecting_body, is_bounded, head_bodies, bodies_in, Placed, placed, numbers_with, atoms_in, selections}
use Rattle.linear_normal.specs.Demands.{moved_pairs, terms_of, relation_content, theory_content, bound_content, bounds_of, with_parts, literal_demands, choice_demands, head_demands, rule_demands, number_of}
use Rattle.linear_normal.specs.Numbering.{constraint_of, conjunction_of, contents_in, numbering}
use Rattle.linear_normal.specs.Truth.{numbered_in}
use Rattle.linear_normal.proofs.BodyLemmas.{slice_get_mapped, slice_get_right}
use Rattle.linear_normal.proofs.ContentLemmas.{has_content, at_number, only_demanded}
use Rattle.linear_normal.proofs.DemandLemmas.{IsBacked, AreThere, opposite_backed, variables_backed, body_demand, head_demand, bound_demand, selections_backed}
use Rattle.linear_normal.proofs.ListLemmas.{all_append, all_flat, all_map}
use Rattle.linear_normal.proofs.TruthLemmas.{conjunction_at}
use Rattle.numbering_laws.proofs.ApartLemmas.{AreOther, opposite_other, moved_other, numbers_at, tallies_other}

-- what is found by its number is one of them
pub numbered_known : {X : Type 0} (xs : List X) (n : ℕ) (x : X) → numbered_in xs n ≡ Some x → IsNumbered (length xs) n
numbered_known {X} xs zero x e = absurd (none e)
  where
    none : {Y : Type 0} {y : Y} → None ≡ Some y → ⊥
    none p = cc
numbered_known {X} xs (suc k) x e = let below = slice_get_within {A = X} xs k x e in record { above = omega arith; known = omega (arith, below) }

-- what is found in a mapped list is of what stands there
pub mapped_at : {X Y : Type 0} (f : X → Y) (xs : List X) (k : ℕ) (y : Y) → slice_get (map f xs) k ≡ Some y → (x : X) × (slice_get xs k ≡ Some x) × (f x ≡ y)
mapped_at {X} {Y} f [] k y e = absurd (omega (arith, slice_get_within {A = Y} [] k y e))
mapped_at f (x ∷ xs) zero y e = let same : f x ≡ y = cc in (x, refl, same)
mapped_at f (x ∷ xs) (suc k) y e = mapped_at f xs k y e

module _ (program : GroundProgram) where
  abbrev atoms : ℕ
  atoms = length program.atoms

  abbrev variables : ℕ
  variables = length program.variables

  abbrev cs : List Content
  cs = contents_in program

  -- a content that is there has its constraint under its number
  pub constraint_at : (content : Content) → has_content cs content ≡ true → numbered_in (numbering program).constraints (number_of cs content) ≡ Some (constraint_of cs content)
  constraint_at content e =
      let r = at_number cs content e in
      ap (numbered_in (numbering program).constraints) r.1 ∙ slice_get_mapped (constraint_of cs) cs r.0 content r.2

  -- each body of a placed rule has its number
  pub body_numbered : (at : Placed) → IsMember (placed 1 program.rules) at → (k : ℕ) (body : List BodyLit) → slice_get (bodies_in at.rule) k ≡ Some body
      → IsNumbered (length (numbering program).bodies) (at.first + k)
  body_numbered at m k body e = numbered_known (numbering program).bodies (at.first + k) (conjunction_of cs variables body) (conjunction_at program at m k body e)

  -- the tallies that a sum counts are there, and it counts different things
  abbrev pub IsSum : List Term → Type 0
  IsSum sum = AllByRecursion (IsBacked program) sum × AreOther sum

  -- of sums are sums, of parts those that are there, of tallies bodies
  abbrev pub IsMade : Content → Type 0
  IsMade (SumAtMost sum k) = IsSum sum
  IsMade (SumEquals sum k) = (has_content cs (SumAtMost sum k) ≡ true) × (has_content cs (SumAtMost (opposite sum) (neg_ℤ k)) ≡ true)
  IsMade (SumDiffers sum k) = (has_content cs (SumAtMost sum (k -ℤ pos 1)) ≡ true) × (has_content cs (SumAtMost (opposite sum) (neg_ℤ k -ℤ pos 1)) ≡ true)
  IsMade (SomeTrue bodies) = AllByRecursion (IsNumbered (length (numbering program).bodies)) bodies
  IsMade content = Unit {0}

  opposite_sum : (sum : List Term) → IsSum sum → IsSum (opposite sum)
  opposite_sum sum is = (opposite_backed program sum is.0, opposite_other sum is.1)

  compared_made : (sum : List Term) (rel : Rel) (k : ℤ) → IsSum sum → AreThere program (compared sum rel k) → AllByRecursion IsMade (with_parts (compared sum rel k))
  compared_made sum LessEqual k is there = (is, tt)
  compared_made sum Less k is there = (is, tt)
  compared_made sum GreaterEqual k is there = (opposite_sum sum is, tt)
  compared_made sum Greater k is there = (opposite_sum sum is, tt)
  compared_made sum Equal k is there =
      ((there (SumAtMost sum k) (inr (inl refl)), there (SumAtMost (opposite sum) (neg_ℤ k)) (inr (inr (inl refl)))), (is, (opposite_sum sum is, tt)))
  compared_made sum NotEqual k is there =
      ((there (SumAtMost sum (k -ℤ pos 1)) (inr (inl refl)), there (SumAtMost (opposite sum) (neg_ℤ k -ℤ pos 1)) (inr (inr (inl refl)))), (is, (opposite_sum sum is, tt)))

  relation_made : (relation : Relation) → AreThere program (relation_content variables relation) → AllByRecursion IsMade (with_parts (relation_content variables relation))
  relation_made relation there =
      compared_made (terms_of (moved_pairs variables (first_places relation.elements) (relation.right ∷ []))) relation.rel (relation.right.constant -ℤ total_constant (first_places relation.elements))
      (variables_backed program (moved_pairs variables (first_places relation.elements) (relation.right ∷ [])), moved_other variables (first_places relation.elements) (relation.right ∷ [])) there

  -- CHOICES

  module _ (at : Placed) (m : IsMember (placed 1 program.rules) at) (choice : GroundChoice) (e : at.rule.head ≡ h.Choice choice) where
    abbrev chosen_by : List (List ℕ)
    chosen_by = selections atoms at.first choice.items

    selecting_at : is_bounded choice ≡ true → (j : ℕ) (item : ChoiceItem) → slice_get choice.items j ≡ Some item
        → slice_get (bodies_in at.rule) (suc (length choice.items + j)) ≡ Some (selecting_body at.rule.body item)
    selecting_at bound j item f =
        subst (λ (head : GroundHead). slice_get (head_bodies at.rule.body head) (length choice.items + j) ≡ Some (selecting_body at.rule.body item)) (sym e)
        (subst (λ (b : Bool). slice_get (map (element_body at.rule.body) choice.items ++ cond b (map (selecting_body at.rule.body) choice.items) []) (length choice.items + j) ≡ Some (selecting_body at.rule.body item)) (sym bound)
        (subst (λ n. slice_get (map (element_body at.rule.body) choice.items ++ map (selecting_body at.rule.body) choice.items) (n + j) ≡ Some (selecting_body at.rule.body item)) (length-map choice.items (element_body at.rule.body))
        (slice_get_right (map (element_body at.rule.body) choice.items) (map (selecting_body at.rule.body) choice.items) j (selecting_body at.rule.body item) (slice_get_mapped (selecting_body at.rule.body) choice.items j item f))))

    tally_made : is_bounded choice ≡ true → (bodies : List ℕ) → IsMember chosen_by bodies → AllByRecursion (IsNumbered (length (numbering program).bodies)) bodies
    tally_made bound bodies k =
        let a = map_member (numbers_with (at.first + 1 + length choice.items) choice.items) (atoms_in atoms choice.items) bodies k in
        subst (AllByRecursion (IsNumbered (length (numbering program).bodies))) (sym a.2)
        (property_from_members (IsNumbered (length (numbering program).bodies)) (numbers_with (at.first + 1 + length choice.items) choice.items a.0)
        (λ n q.
        let r = numbers_at (at.first + 1 + length choice.items) choice.items a.0 n q in
        subst (IsNumbered (length (numbering program).bodies)) (shift n at.first (length choice.items) r.0 r.4)
        (body_numbered at m (suc (length choice.items + r.0)) (selecting_body at.rule.body r.1) (selecting_at bound r.0 r.1 r.2))))
      where
        shift : (n f l j : ℕ) → n ≡ (f + 1 + l) + j → f + suc (l + j) ≡ n
        shift n f l j s = omega (arith, s)

    bounds_made : (bounds : List Bound) → ((bound : Bound) → IsMember bounds bound → is_bounded choice ≡ true)
        → ((content : Content) → IsMember (choice_demands chosen_by bounds) content → has_content cs content ≡ true) → AllByRecursion IsMade (choice_demands chosen_by bounds)
    bounds_made [] bounded there = tt
    bounds_made (x ∷ bounds) bounded there =
        all_append IsMade (map SomeTrue chosen_by) (flat_map (λ bound. with_parts (bound_content chosen_by bound)) (x ∷ bounds))
        (all_map IsMade SomeTrue chosen_by (λ bodies k. tally_made (bounded x (inl refl)) bodies k))
        (all_flat IsMade (λ bound. with_parts (bound_content chosen_by bound)) (x ∷ bounds)
        (λ bound k. compared_made (map (λ bodies. Counted bodies (pos 1)) chosen_by) bound.rel bound.value (
          selections_backed program chosen_by (λ bodies q. there (SomeTrue bodies) (bound_demand program chosen_by (x ∷ bounds) bound k (SomeTrue bodies) (inl (member_map SomeTrue chosen_by bodies q)))),
          tallies_other atoms at.first choice.items,
        )
        (λ part q. there part (bound_demand program chosen_by (x ∷ bounds) bound k part (inr q)))))

  bounded_by : (left right : Option Bound) (bound : Bound) → IsMember (option_to_list left ++ option_to_list right) bound → (is_some left || is_some right) ≡ true
  bounded_by (Some x) right bound m = refl
  bounded_by None (Some x) bound m = refl
  bounded_by None None bound m = absurd m

  -- RULES

  theory_made : (theory : TheoryHead) → AreThere program (theory_content variables theory) → AllByRecursion IsMade (with_parts (theory_content variables theory))
  theory_made (t.Relation relation) there = relation_made relation there
  theory_made (t.Domain set x) there = (tt, tt)
  theory_made (t.Distinct places) there = (tt, tt)
  theory_made (t.Disjoint places) there = (tt, tt)

  head_made : (at : Placed) → IsMember (placed 1 program.rules) at → (head : GroundHead) → at.rule.head ≡ head → AllByRecursion IsMade (head_demands atoms variables at.first head)
  head_made at m h.Nothing e = tt
  head_made at m (h.Atom a) e = tt
  head_made at m (h.Theory theory) e = theory_made theory (λ part k. head_demand program at m (h.Theory theory) e part k)
  head_made at m (h.Choice choice) e =
      bounds_made at m choice e (bounds_of choice) (λ bound k. bounded_by choice.left choice.right bound k) (λ content k. head_demand program at m (h.Choice choice) e content k)

  literal_made : (at : Placed) → IsMember (placed 1 program.rules) at → (literal : BodyLit) → IsMember at.rule.body literal → AllByRecursion IsMade (literal_demands variables literal)
  literal_made at m (b.Atom a sign) k = tt
  literal_made at m (b.Theory relation sign) k = relation_made relation (body_demand program at m relation sign k)

  demand_made : (at : Placed) → IsMember (placed 1 program.rules) at → AllByRecursion IsMade (rule_demands atoms variables at)
  demand_made at m =
      all_append IsMade (flat_map (literal_demands variables) at.rule.body) (head_demands atoms variables at.first at.rule.head)
      (all_flat IsMade (literal_demands variables) at.rule.body (λ literal k. literal_made at m literal k)) (head_made at m at.rule.head refl)

  pub content_made : (content : Content) → IsMember cs content → IsMade content
  content_made =
      only_demanded [] (flat_map (rule_demands atoms variables) (placed 1 program.rules)) IsMade (λ x m. absurd m)
      (λ x m.
      let f = flat_member (rule_demands atoms variables) (placed 1 program.rules) x m in
      property_member IsMade (rule_demands atoms variables f.0) x (demand_made f.0 f.1) f.2)
