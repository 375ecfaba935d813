-- The constraints of a numbering are sized.
use Rattle.std.proofs.Common.{◌≡◌, ℕ, suc, ◌+◌, ◌≤◌, ◌^◌, Bool, true, false, not, cond, ◌==◌, int_eq, ◌-ℤ◌, List, [], ◌∷◌, map, filter, flat_map, length, sym, subst, ℤ, pos, arith}
use Rattle.std.specs.List.{AllByRecursion, range_with_len, list_any}
use Rattle.std.proofs.lemmas.List.{length-map}
use Rattle.std.proofs.lemmas.List.FromFn.{length-range_with_len, length-map-range_with_len}
use Rattle.symbols.specs.declared.rel.Rel.{Rel}
use Rattle.symbols.specs.declared.rel.Rel.TheVariants.{Equal, NotEqual, Less, LessEqual, Greater, GreaterEqual}
use Rattle.ground_model.specs.declared.linear.Linear.{Linear}
use Rattle.ground_model.specs.declared.linear.Place.{Place}
use Rattle.ground_model.specs.declared.linear.Relation.{Relation}
use Rattle.ground_model.specs.declared.rule.BodyLit.{BodyLit}
use Rattle.ground_model.specs.declared.rule.BodyLit.TheVariants as b
use Rattle.ground_model.specs.declared.rule.Bound.{Bound}
use Rattle.ground_model.specs.declared.rule.ChoiceItem.{ChoiceItem}
use Rattle.ground_model.specs.declared.rule.TheoryHead.{TheoryHead}
use Rattle.ground_model.specs.declared.rule.TheoryHead.TheVariants as t
use Rattle.ground_model.specs.declared.rule.GroundHead.{GroundHead}
use Rattle.ground_model.specs.declared.rule.GroundHead.TheVariants as h
use Rattle.ground_model.specs.declared.program.GroundProgram.{GroundProgram}
use Rattle.ground_model.specs.Members.{IsMember}
use Rattle.ground_model.specs.Sizes.{IsSizedLinear, IsReadableHead, IsReadableTheory}
use Rattle.ground_model.specs.Sound.{first_places, total_constant}
use Rattle.ground_model.proofs.MemberLemmas.{property_member}
use Rattle.ground_model.proofs.WayLemmas.{flat_member}
use Rattle.linear_normal.specs.declared.numbered.Numbered.{Numbered}
use Rattle.linear_normal.specs.Contents.{Term, Variable, Counted, Content, SumAtMost, SumEquals, SumDiffers, InSet, AllDiffer, NoneOverlap, SomeTrue, opposite_term, opposite, compared}
use Rattle.linear_normal.specs.Bodies.{placed, numbers_with, atoms_in, selections}
use Rattle.linear_normal.specs.Demands.{moved_coefficient, moved_pairs, terms_of, relation_content, theory_content, bound_content, bounds_of, with_parts, literal_demands, choice_demands, head_demands, rule_demands}
use Rattle.linear_normal.specs.Numbering.{item_of, constraint_of, contents_in, numbering}
use Rattle.linear_normal.specs.Holds.{IsNumbering, HasFewPairs, IsSized, AreSized}
use Rattle.linear_normal.proofs.ListLemmas.{all_append, all_map}
use Rattle.linear_normal.proofs.ContentLemmas.{only_demanded}
use Rattle.linear_normal.proofs.DemandLemmas.{readable}

-- LENGTHS

short_filter : {X : Type 0} (p : X → Bool) (xs : List X) → length (filter p xs) ≤ length xs
short_filter p [] = omega arith
short_filter {X} p (x ∷ xs) = go (p x) (short_filter p xs)
  where
    go : (t : Bool) → length (filter p xs) ≤ length xs → length (cond t (x ∷ filter p xs) (filter p xs)) ≤ suc (length xs)
    go true l = omega arith
    go false l = omega arith

short_pairs : (variables : ℕ) (left right : List Linear) → length (terms_of (moved_pairs variables left right)) ≤ variables
short_pairs variables left right =
    let pairs : List (ℕ × ℤ) = map {B = ℕ × ℤ} (λ x. (x, moved_coefficient left right x)) (range_with_len 1 variables) in
    let kept = short_filter (λ (pair : ℕ × ℤ). not (int_eq pair.1 (pos 0))) pairs in
    let all : length pairs ≡ variables = length-map-range_with_len {X = ℕ × ℤ} (λ x. (x, moved_coefficient left right x)) 1 variables in
    let same : length (terms_of (moved_pairs variables left right)) ≡ length (moved_pairs variables left right) =
    length-map (moved_pairs variables left right) (λ pair. Variable pair.0 pair.1) in
    omega arith

short_selections : (atoms first : ℕ) (items : List ChoiceItem) → length (selections atoms first items) ≤ atoms
short_selections atoms first items =
    let same : length (selections atoms first items) ≡ length (atoms_in atoms items) = length-map (atoms_in atoms items) (numbers_with (first + 1 + length items) items) in
    let kept = short_filter (λ a. list_any (λ (item : ChoiceItem). item.atom == a) items) (range_with_len 1 atoms) in
    let all : length (range_with_len 1 atoms) ≡ atoms = length-range_with_len 1 atoms in
    omega arith

-- CONTENTS

-- the content has few terms or variables
abbrev pub IsSizedContent : Content → Type 0
IsSizedContent (SumAtMost sum k) = length sum ≤ 2 ^ 32
IsSizedContent (SumEquals sum k) = Unit {0}
IsSizedContent (SumDiffers sum k) = Unit {0}
IsSizedContent (InSet x set) = Unit {0}
IsSizedContent (AllDiffer places) = AllByRecursion HasFewPairs places
IsSizedContent (NoneOverlap places) = AllByRecursion HasFewPairs places
IsSizedContent (SomeTrue bodies) = Unit {0}

sized_opposite : (sum : List Term) → length sum ≤ 2 ^ 32 → length (opposite sum) ≤ 2 ^ 32
sized_opposite sum few = let same : length (opposite sum) ≡ length sum = length-map sum opposite_term in omega arith

sized_compared : (sum : List Term) (rel : Rel) (k : ℤ) → length sum ≤ 2 ^ 32 → AllByRecursion IsSizedContent (with_parts (compared sum rel k))
sized_compared sum Equal k few = (tt, (few, (sized_opposite sum few, tt)))
sized_compared sum NotEqual k few = (tt, (few, (sized_opposite sum few, tt)))
sized_compared sum Less k few = (few, tt)
sized_compared sum LessEqual k few = (few, tt)
sized_compared sum Greater k few = (sized_opposite sum few, tt)
sized_compared sum GreaterEqual k few = (sized_opposite sum few, tt)

few_pairs : (variables : ℕ) (places : List Place) → AllByRecursion (λ place. IsSizedLinear variables place.linear) places → AllByRecursion HasFewPairs places
few_pairs variables [] sized = tt
few_pairs variables (place ∷ places) sized = (sized.0.few, few_pairs variables places sized.1)

sized_constraint : (cs : List Content) (content : Content) → IsSizedContent content → IsSized (constraint_of cs content)
sized_constraint cs (SumAtMost sum k) few = let same : length (map (item_of cs) sum) ≡ length sum = length-map sum (item_of cs) in omega arith
sized_constraint cs (SumEquals sum k) few = tt
sized_constraint cs (SumDiffers sum k) few = tt
sized_constraint cs (InSet x set) few = tt
sized_constraint cs (AllDiffer places) few = few
sized_constraint cs (NoneOverlap places) few = few
sized_constraint cs (SomeTrue bodies) few = tt

sized_tallies : (selections : List (List ℕ)) → AllByRecursion IsSizedContent (map SomeTrue selections)
sized_tallies [] = tt
sized_tallies (bodies ∷ selections) = (tt, sized_tallies selections)

module _ (program : GroundProgram) where
  abbrev variables : ℕ
  variables = length program.variables

  sized_relation : (relation : Relation) → AllByRecursion IsSizedContent (with_parts (relation_content variables relation))
  sized_relation relation =
      let short = short_pairs (length program.variables) (first_places relation.elements) (relation.right ∷ []) in
      let few = program.few_variables in
      sized_compared (terms_of (moved_pairs variables (first_places relation.elements) (relation.right ∷ []))) relation.rel
      (relation.right.constant -ℤ total_constant (first_places relation.elements)) (omega arith)

  sized_bounds : (selections : List (List ℕ)) → length selections ≤ length program.atoms → (bounds : List Bound)
      → AllByRecursion IsSizedContent (flat_map (λ bound. with_parts (bound_content selections bound)) bounds)
  sized_bounds selections short [] = tt
  sized_bounds selections short (bound ∷ bounds) =
      let few = program.few_atoms in
      let same : length (map (λ bodies. Counted bodies (pos 1)) selections) ≡ length selections = length-map selections (λ bodies. Counted bodies (pos 1)) in
      all_append IsSizedContent (with_parts (bound_content selections bound)) (flat_map (λ bound. with_parts (bound_content selections bound)) bounds)
      (sized_compared (map (λ bodies. Counted bodies (pos 1)) selections) bound.rel bound.value (omega arith)) (sized_bounds selections short bounds)

  sized_choice : (selections : List (List ℕ)) → length selections ≤ length program.atoms → (bounds : List Bound) → AllByRecursion IsSizedContent (choice_demands selections bounds)
  sized_choice selections short [] = tt
  sized_choice selections short (bound ∷ bounds) =
      all_append IsSizedContent (map SomeTrue selections) (flat_map (λ bound. with_parts (bound_content selections bound)) (bound ∷ bounds))
      (sized_tallies selections) (sized_bounds selections short (bound ∷ bounds))

  sized_theory : (theory : TheoryHead) → IsReadableTheory variables theory → AllByRecursion IsSizedContent (with_parts (theory_content variables theory))
  sized_theory (t.Relation relation) sized = sized_relation relation
  sized_theory (t.Domain set x) sized = (tt, tt)
  sized_theory (t.Distinct places) sized = (few_pairs variables places sized.each, tt)
  sized_theory (t.Disjoint places) sized = (few_pairs variables places sized.each, tt)

  sized_head : (first : ℕ) (head : GroundHead) → IsReadableHead (length program.atoms) variables head → AllByRecursion IsSizedContent (head_demands (length program.atoms) variables first head)
  sized_head first h.Nothing sized = tt
  sized_head first (h.Atom a) sized = tt
  sized_head first (h.Theory theory) sized = sized_theory theory sized
  sized_head first (h.Choice choice) sized =
      sized_choice (selections (length program.atoms) first choice.items) (short_selections (length program.atoms) first choice.items) (bounds_of choice)

  sized_body : (body : List BodyLit) → AllByRecursion IsSizedContent (flat_map (literal_demands variables) body)
  sized_body [] = tt
  sized_body (b.Atom a sign ∷ body) = sized_body body
  sized_body (b.Theory relation sign ∷ body) =
      all_append IsSizedContent (with_parts (relation_content variables relation)) (flat_map (literal_demands variables) body) (sized_relation relation) (sized_body body)

  sized_content : (content : Content) → IsMember (contents_in program) content → IsSizedContent content
  sized_content =
      only_demanded [] (flat_map (rule_demands (length program.atoms) variables) (placed 1 program.rules)) IsSizedContent (λ x m. absurd m)
      (λ x m.
      let f = flat_member (rule_demands (length program.atoms) variables) (placed 1 program.rules) x m in
      property_member IsSizedContent (rule_demands (length program.atoms) variables f.0) x
      (all_append IsSizedContent (flat_map (literal_demands variables) f.0.rule.body) (head_demands (length program.atoms) variables f.0.first f.0.rule.head)
      (sized_body f.0.rule.body) (sized_head f.0.first f.0.rule.head (readable program f.0 f.1).head)) f.2)

  pub sized_numbering : AreSized (numbering program)
  sized_numbering =
      all_map IsSized (constraint_of (contents_in program)) (contents_in program) (λ content m. sized_constraint (contents_in program) content (sized_content content m))

pub sized_by_numbering : (numbered : Numbered) → IsNumbering numbered → AreSized numbered
sized_by_numbering numbered is = subst AreSized (sym is.1) (sized_numbering is.0)
