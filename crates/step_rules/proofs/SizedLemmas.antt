-- The sums of a program's constraints are short.
use Rattle.std.proofs.Common.{◌≡◌, ◌<◌, ◌≤◌, ◌+◌, ◌^◌, ℕ, zero, suc, Bool, true, false, cond, not, ℤ, pos, List, [], ◌∷◌, map, filter, flat_map, length, refl, sym, ap, subst, arith}
use Rattle.std.specs.List.{AllByRecursion, list_all, range_with_len, fold}
use Rattle.std.specs.Prelude.{nat_le, option_to_list, None, Some, IsTrue}
use Rattle.std.specs.Ordering.{int_eq}
use Rattle.symbols.specs.declared.ends.Ends.{Ends}
use Rattle.symbols.specs.declared.rel.Rel.{Rel}
use Rattle.symbols.specs.declared.rel.Rel.TheVariants.{Equal, NotEqual, Less, LessEqual, Greater, GreaterEqual}
use Rattle.ground_model.specs.declared.linear.Linear.{Linear}
use Rattle.ground_model.specs.declared.linear.Place.{Place}
use Rattle.ground_model.specs.declared.linear.Relation.{Relation}
use Rattle.ground_model.specs.declared.program.GroundProgram.{GroundProgram}
use Rattle.ground_model.specs.declared.rule.BodyLit.{BodyLit}
use Rattle.ground_model.specs.declared.rule.BodyLit.TheVariants as b
use Rattle.ground_model.specs.declared.rule.Bound.{Bound}
use Rattle.ground_model.specs.declared.rule.GroundHead.{GroundHead}
use Rattle.ground_model.specs.declared.rule.GroundHead.TheVariants as h
use Rattle.ground_model.specs.declared.rule.TheoryHead.{TheoryHead}
use Rattle.ground_model.specs.declared.rule.TheoryHead.TheVariants as t
use Rattle.ground_model.specs.Members.{IsMember}
use Rattle.ground_model.specs.Sizes.{AreSizedPlaces}
use Rattle.ground_model.specs.Sound.{is_sound_theory, is_sound_head, is_sound_rule, is_sound_literal, are_sound_places, is_small_over, first_places}
use Rattle.ground_model.proofs.Bools.{and_elim}
use Rattle.ground_model.proofs.MemberLemmas.{all_member, property_member, property_from_members}
use Rattle.ground_model.proofs.SizeLemmas.{sized_tuples}
use Rattle.linear_normal.specs.declared.numbered.Numbered.{Numbered}
use Rattle.linear_normal.specs.Bodies.{Placed, placed, selections, atoms_in, numbers_with}
use Rattle.linear_normal.specs.Contents.{Term, Variable, Counted, Content, SumAtMost, SumEquals, SumDiffers, InSet, AllDiffer, NoneOverlap, SomeTrue, opposite, opposite_term, compared}
use Rattle.linear_normal.specs.Demands.{moved_pairs, moved_coefficient, terms_of, relation_content, theory_content, bound_content, bounds_of, with_parts, literal_demands, choice_demands, head_demands, rule_demands}
use Rattle.linear_normal.specs.Numbering.{numbering, contents_in, constraint_of, item_of}
use Rattle.linear_normal.proofs.ListLemmas.{all_append, all_flat, all_map}
use Rattle.linear_normal.proofs.ContentLemmas.{only_demanded}
use Rattle.linear_normal.proofs.BodyLemmas.{placed_rule}
use Rattle.step_rules.specs.inner.Sizes.{IsShort, AreFew, IsSized, AreSized}

-- LENGTHS

map_length : {X Y : Type 0} (f : X → Y) (xs : List X) → length (map f xs) ≡ length xs
map_length f [] = refl
map_length f (x ∷ xs) = ap (λ n. suc n) (map_length f xs)

range_length : (a n : ℕ) → length (range_with_len a n) ≡ n
range_length a zero = refl
range_length a (suc n) = ap (λ n. suc n) (range_length (a + 1) n)

filter_short : {X : Type 0} (p : X → Bool) (xs : List X) → length (filter p xs) ≤ length xs
filter_short p [] = omega arith
filter_short p (x ∷ xs) = go (p x) (filter_short p xs)
  where
    go : (b : Bool) → length (filter p xs) ≤ length xs → length (cond b (x ∷ filter p xs) (filter p xs)) ≤ suc (length xs)
    go true e = omega (arith, e)
    go false e = omega (arith, e)

pub moved_short : (variables : ℕ) (left right : List Linear) → variables < 2 ^ 32 → length (moved_pairs variables left right) < 2 ^ 32
moved_short variables left right few =
    let all : List (ℕ × ℤ) = map (λ x. (x, moved_coefficient left right x)) (range_with_len 1 variables) in
    let a = filter_short (λ pair. not (int_eq pair.1 (pos 0))) all in
    let b : length all ≡ length (range_with_len 1 variables) = map_length (λ x. (x, moved_coefficient left right x)) (range_with_len 1 variables) in
    let c = range_length 1 variables in
    omega (arith, a, b, c, few)

-- CONTENTS

abbrev pub IsShortContent : Content → Type 0
IsShortContent (SumAtMost sum k) = length sum < 2 ^ 32
IsShortContent (SumEquals sum k) = length sum < 2 ^ 32
IsShortContent (SumDiffers sum k) = length sum < 2 ^ 32
IsShortContent (AllDiffer places) = AllByRecursion IsShort places
IsShortContent (NoneOverlap places) = AreFew places
IsShortContent other = Unit {0}

opposite_short : (sum : List Term) → length sum < 2 ^ 32 → length (opposite sum) < 2 ^ 32
opposite_short sum few = let same = map_length opposite_term sum in omega (arith, same, few)

compared_short : (sum : List Term) (rel : Rel) (k : ℤ) → length sum < 2 ^ 32 → IsShortContent (compared sum rel k)
compared_short sum LessEqual k few = few
compared_short sum Less k few = few
compared_short sum GreaterEqual k few = opposite_short sum few
compared_short sum Greater k few = opposite_short sum few
compared_short sum Equal k few = few
compared_short sum NotEqual k few = few

parts_short : (content : Content) → IsShortContent content → AllByRecursion IsShortContent (with_parts content)
parts_short (SumAtMost sum k) e = (e, tt)
parts_short (SumEquals sum k) e = (e, (e, (opposite_short sum e, tt)))
parts_short (SumDiffers sum k) e = (e, (e, (opposite_short sum e, tt)))
parts_short (InSet x set) e = (e, tt)
parts_short (AllDiffer places) e = (e, tt)
parts_short (NoneOverlap places) e = (e, tt)
parts_short (SomeTrue bodies) e = (e, tt)

pub constraint_sized : (contents : List Content) (content : Content) → IsShortContent content → IsSized (constraint_of contents content)
constraint_sized contents (SumAtMost sum k) e = let same = map_length (item_of contents) sum in omega (arith, same, e)
constraint_sized contents (SumEquals sum k) e = tt
constraint_sized contents (SumDiffers sum k) e = tt
constraint_sized contents (InSet x set) e = tt
constraint_sized contents (AllDiffer places) e = e
constraint_sized contents (NoneOverlap places) e = e
constraint_sized contents (SomeTrue bodies) e = tt

-- DEMANDS

relation_short : (variables : ℕ) (relation : Relation) → variables < 2 ^ 32 → IsShortContent (relation_content variables relation)
relation_short variables relation few =
    let pairs = moved_pairs variables (first_places relation.elements) (relation.right ∷ []) in
    let a = moved_short variables (first_places relation.elements) (relation.right ∷ []) few in
    let b = map_length (λ pair. Variable pair.0 pair.1) pairs in
    compared_short (terms_of pairs) relation.rel _ (omega (arith, a, b))

short_places : (variables : ℕ) (places : List Place) → AreSizedPlaces variables places → AllByRecursion IsShort places
short_places variables places sized =
    property_from_members IsShort places (λ place m. let s = (property_member _ places place sized.each m).few in omega (arith, s))

few_places : (variables : ℕ) (places : List Place) → AreSizedPlaces variables places → AreFew places
few_places variables places sized = record { short = short_places variables places sized; number = let s = sized.few in omega (arith, s) }

theory_short : (symbols variables : ℕ) (ends : Ends) (theory : TheoryHead) → variables < 2 ^ 32 → is_sound_theory symbols variables ends theory ≡ true
    → IsShortContent (theory_content variables theory)
theory_short symbols variables ends (t.Relation relation) few sound = relation_short variables relation few
theory_short symbols variables ends (t.Domain set x) few sound = tt
theory_short symbols variables ends (t.Distinct places) few sound =
    short_places variables places (sized_tuples symbols variables places (and_elim (are_sound_places symbols variables places) (list_all (is_small_over ends) (first_places places)) sound).0)
theory_short symbols variables ends (t.Disjoint places) few sound =
    few_places variables places (sized_tuples symbols variables places (and_elim (are_sound_places symbols variables places) (list_all (is_small_over ends) (first_places places)) sound).0)

literal_short : (variables : ℕ) (literal : BodyLit) → variables < 2 ^ 32 → AllByRecursion IsShortContent (literal_demands variables literal)
literal_short variables (b.Atom a sign) few = tt
literal_short variables (b.Theory relation sign) few = parts_short (relation_content variables relation) (relation_short variables relation few)

choice_short : (sets : List (List ℕ)) (bounds : List Bound) → length sets < 2 ^ 32 → AllByRecursion IsShortContent (choice_demands sets bounds)
choice_short sets [] few = tt
choice_short sets (bound ∷ bounds) few =
    all_append IsShortContent (map SomeTrue sets) (flat_map (λ bound. with_parts (bound_content sets bound)) (bound ∷ bounds))
    (all_map IsShortContent SomeTrue sets (λ set m. tt))
    (all_flat IsShortContent (λ bound. with_parts (bound_content sets bound)) (bound ∷ bounds) (λ bound m. parts_short (bound_content sets bound) (bound_short bound)))
  where
    bound_short : (bound : Bound) → IsShortContent (bound_content sets bound)
    bound_short bound = let same = map_length (λ bodies. Counted bodies (pos 1)) sets in compared_short (map (λ bodies. Counted bodies (pos 1)) sets) bound.rel bound.value (omega (arith, same, few))

head_short : (symbols atoms variables first : ℕ) (ends : Ends) (head : GroundHead) → atoms < 2 ^ 32 → variables < 2 ^ 32 → is_sound_head symbols atoms variables ends head ≡ true
    → AllByRecursion IsShortContent (head_demands atoms variables first head)
head_short symbols atoms variables first ends h.Nothing few_atoms few sound = tt
head_short symbols atoms variables first ends (h.Atom a) few_atoms few sound = tt
head_short symbols atoms variables first ends (h.Theory theory) few_atoms few sound =
    parts_short (theory_content variables theory) (theory_short symbols variables ends theory few sound)
head_short symbols atoms variables first ends (h.Choice choice) few_atoms few sound =
    choice_short (selections atoms first choice.items) (bounds_of choice) few_sets
  where
    few_sets : length (selections atoms first choice.items) < 2 ^ 32
    few_sets =
        let a = map_length (numbers_with (first + 1 + length choice.items) choice.items) (atoms_in atoms choice.items) in
        let b = filter_short (λ a. Rattle.std.specs.List.list_any (λ item. Rattle.std.specs.Prelude.nat_eq item.atom a) choice.items) (range_with_len 1 atoms) in
        let c = range_length 1 atoms in
        omega (arith, a, b, c, few_atoms)

rule_short : (symbols atoms variables : ℕ) (ends : Ends) (at : Placed) → atoms < 2 ^ 32 → variables < 2 ^ 32 → is_sound_rule symbols atoms variables ends at.rule ≡ true
    → AllByRecursion IsShortContent (rule_demands atoms variables at)
rule_short symbols atoms variables ends at few_atoms few sound =
    let p = and_elim (list_all (is_sound_literal symbols atoms variables) at.rule.body) (is_sound_head symbols atoms variables ends at.rule.head) sound in
    all_append IsShortContent (flat_map (literal_demands variables) at.rule.body) (head_demands atoms variables at.first at.rule.head)
    (all_flat IsShortContent (literal_demands variables) at.rule.body (λ literal m. literal_short variables literal few))
    (head_short symbols atoms variables at.first ends at.rule.head few_atoms few p.1)

-- THE WHOLE

module _ (program : GroundProgram) where
  abbrev demands : List Content
  demands = flat_map (rule_demands (length program.atoms) (length program.variables)) (placed 1 program.rules)

  all_short : AllByRecursion IsShortContent demands
  all_short =
      all_flat IsShortContent (rule_demands (length program.atoms) (length program.variables)) (placed 1 program.rules)
      (λ at m. rule_short (length program.symbols) (length program.atoms) (length program.variables) program.ends at program.few_atoms program.few_variables
      (all_member (is_sound_rule (length program.symbols) (length program.atoms) (length program.variables) program.ends) program.rules at.rule program.sound_rules (placed_rule 1 program.rules at m)))

  short : (content : Content) → IsMember (contents_in program) content → IsShortContent content
  short = only_demanded [] demands IsShortContent (λ c m. absurd m) (λ c m. property_member IsShortContent demands c all_short m)

  pub sized : AreSized (numbering program)
  sized = record {
    constraints = all_map IsSized (constraint_of (contents_in program)) (contents_in program) (λ content m. constraint_sized (contents_in program) content (short content m));
    objective = moved_short (length program.variables) (first_places program.smaller) (first_places program.larger) program.few_variables;
  }

pub sized_by : (program : GroundProgram) (numbered : Numbered) → numbered ≡ numbering program → AreSized numbered
sized_by program numbered is = subst AreSized (sym is) (sized program)
