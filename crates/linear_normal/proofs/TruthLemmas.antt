-- The numbering keeps truth.
use Rattle.std.proofs.Common.{◌≡◌, ℕ, zero, suc, ◌+◌, Bool, true, false, not, cond, if◌then◌else◌, ◌&&◌, ◌||◌, ◌⊎◌, inl, inr, List, [], ◌∷◌, ◌++◌, map, length, refl, sym, ◌∙◌, ap, ap₂, subst, ℤ, pos, ◌+ℤ◌, ◌-ℤ◌, ◌*ℤ◌, neg_ℤ, int_eq, int_le, Option, Some, None, slice_get, IfSome, flat_map, option_to_list, is_some, arith}
use Rattle.std.specs.List.{AllByRecursion, list_all, list_any}
use Rattle.std.proofs.lemmas.List.Folds.{list_all-map, list_all-append}
use Rattle.std.proofs.lemmas.List.{length-map}
use Rattle.std.proofs.lemmas.Int.{ints}
use Rattle.symbols.specs.declared.rel.Rel.{Rel}
use Rattle.symbols.specs.declared.rel.Rel.TheVariants.{Equal, NotEqual, Less, LessEqual, Greater, GreaterEqual}
use Rattle.literals.specs.Truths.{Truths, lit_true, all_true}
use Rattle.literals.specs.Truths as literals
use Rattle.literals.proofs.Worlds.{true_canonical}
use Rattle.ground_model.specs.declared.linear.Relation.{Relation}
use Rattle.ground_model.specs.declared.rule.BodyLit.{BodyLit}
use Rattle.ground_model.specs.declared.rule.BodyLit.TheVariants as b
use Rattle.ground_model.specs.declared.rule.Bound.{Bound}
use Rattle.ground_model.specs.declared.rule.ChoiceItem.{ChoiceItem}
use Rattle.ground_model.specs.declared.rule.TheoryHead.{TheoryHead}
use Rattle.ground_model.specs.declared.rule.TheoryHead.TheVariants as t
use Rattle.ground_model.specs.declared.rule.GroundChoice.{GroundChoice}
use Rattle.ground_model.specs.declared.rule.GroundHead.{GroundHead}
use Rattle.ground_model.specs.declared.rule.GroundHead.TheVariants as h
use Rattle.ground_model.specs.declared.rule.GroundRule.{GroundRule}
use Rattle.ground_model.specs.declared.program.GroundProgram.{GroundProgram}
use Rattle.ground_model.specs.Answers.{IsNumbered}
use Rattle.ground_model.specs.Duties.{theory_holds, is_taken, chosen}
use Rattle.ground_model.specs.Members.{IsMember}
use Rattle.ground_model.specs.Model.{allows}
use Rattle.ground_model.specs.Rules as rules
use Rattle.ground_model.specs.Sizes.{IsReadable, IsReadableHead, IsReadableItem, IsSizedRelation}
use Rattle.ground_model.specs.Sound.{is_sound_head, is_sound_item, is_sound_condition, is_number, is_sound_literal, first_places, total_constant}
use Rattle.ground_model.specs.Truth.{compares}
use Rattle.ground_model.specs.Ways.{relation_holds, literal_holds}
use Rattle.ground_model.specs.World.{World}
use Rattle.ground_model.proofs.Bools.{and_elim}
use Rattle.ground_model.proofs.MemberLemmas.{property_member, property_from_members, all_member, member_map, map_member}
use Rattle.linear_normal.specs.declared.numbered.Conjunction.{Conjunction}
use Rattle.linear_normal.specs.Contents.{Term, Variable, Counted, Content, SumAtMost, SumEquals, SumDiffers, InSet, AllDiffer, NoneOverlap, SomeTrue, opposite, compared}
use Rattle.linear_normal.specs.Bodies.{element_body, selecting_body, is_bounded, head_bodies, bodies_in, Placed, placed, selections}
use Rattle.linear_normal.specs.Demands.{moved_pairs, terms_of, relation_content, theory_content, bound_content, bounds_of, with_parts, number_of}
use Rattle.linear_normal.specs.Numbering.{item_of, constraint_of, lit_of, conjunction_of, contents_in, numbering}
use Rattle.linear_normal.specs.Truth.{numbered_in, items_value, constraint_truth, AreTruths}
use Rattle.linear_normal.specs.Laws.{taken_count, TruthLaw}
use Rattle.linear_normal.proofs.ContentLemmas.{has_content, at_number}
use Rattle.linear_normal.proofs.DemandLemmas.{IsBacked, AreThere, opposite_backed, variables_backed, readable, sound, body_demand, head_demand, bound_demand, selections_backed}
use Rattle.linear_normal.proofs.SumLemmas.{terms_value, content_truth, opposite_value, compared_truth, relation_kept}
use Rattle.linear_normal.proofs.BodyLemmas.{slice_get_mapped, slice_get_right, place_member, placed_body, rule_placed}
use Rattle.linear_normal.proofs.CountLemmas.{selections_value}

pub from_some : {X : Type 0} (P : X → Type 0) (o : Option X) (x : X) → o ≡ Some x → IfSome o P → P x
from_some P o x e p = subst (λ q. IfSome q P) e p

-- SENTENCES ABOUT INTEGERS

both_equal : (s o k : ℤ) → o ≡ neg_ℤ s → (int_le s k && int_le o (neg_ℤ k)) ≡ int_eq s k
both_equal s o k e = grind (arith, ints, e)

either_differs : (s o k : ℤ) → o ≡ neg_ℤ s → (int_le s (k -ℤ pos 1) || int_le o (neg_ℤ k -ℤ pos 1)) ≡ not (int_eq s k)
either_differs s o k e = grind (arith, ints, e)

-- PARTS OF DEMANDS

parts_first : (content : Content) → IsMember (with_parts content) content
parts_first content = inl refl

-- the numbered bodies of a placed rule
pub conjunction_at : (program : GroundProgram) (at : Placed) → IsMember (placed 1 program.rules) at → (k : ℕ) (body : List BodyLit) → slice_get (bodies_in at.rule) k ≡ Some body
    → numbered_in (numbering program).bodies (at.first + k) ≡ Some (conjunction_of (contents_in program) (length program.variables) body)
conjunction_at program at m k body e =
    let p = placed_body 1 program.rules at m k body e in
    let same : at.first + k ≡ suc p.0 = (let f = p.1 in omega arith) in
    ap (numbered_in (numbering program).bodies) same
    ∙ slice_get_mapped (conjunction_of (contents_in program) (length program.variables)) (flat_map bodies_in program.rules) p.0 body p.2

module _ (program : GroundProgram) (world : World) (truths : Truths) (are : AreTruths (numbering program) world truths) where
  abbrev atoms : ℕ
  atoms = length program.atoms

  abbrev variables : ℕ
  variables = length program.variables

  abbrev cs : List Content
  cs = contents_in program

  abbrev tally : List ℕ → Bool
  tally bodies = list_any truths.body bodies

  same_values : truths.value ≡ world.values
  same_values = λ i x. are.value x i

  stored : (content : Content) → has_content cs content ≡ true → truths.constraint (number_of cs content) ≡ constraint_truth truths (constraint_of cs content)
  stored content e =
      let r = at_number cs content e in
      let there : numbered_in (map (constraint_of cs) cs) (suc r.0) ≡ Some (constraint_of cs content) = slice_get_mapped (constraint_of cs) cs r.0 content r.2 in
      ap truths.constraint r.1 ∙ from_some (λ c. truths.constraint (suc r.0) ≡ constraint_truth truths c) (numbered_in (map (constraint_of cs) cs) (suc r.0)) (constraint_of cs content) there (are.constraint (suc r.0))

  terms_kept : (terms : List Term) → AllByRecursion (IsBacked program) terms → items_value truths (map (item_of cs) terms) ≡ terms_value tally truths.value terms
  terms_kept [] backed = refl
  terms_kept (Variable x c ∷ terms) backed = ap (λ z. (c *ℤ truths.value x) +ℤ z) (terms_kept terms backed.1)
  terms_kept (Counted bodies c ∷ terms) backed =
      ap₂ (λ b z. (c *ℤ (if b then pos 1 else pos 0)) +ℤ z) (stored (SomeTrue bodies) backed.0) (terms_kept terms backed.1)

  at_most_kept : (sum : List Term) (k : ℤ) → AllByRecursion (IsBacked program) sum → has_content cs (SumAtMost sum k) ≡ true
      → truths.constraint (number_of cs (SumAtMost sum k)) ≡ int_le (terms_value tally truths.value sum) k
  at_most_kept sum k backed e = stored (SumAtMost sum k) e ∙ ap (λ s. int_le s k) (terms_kept sum backed)

  compared_kept : (sum : List Term) (rel : Rel) (k : ℤ) → AllByRecursion (IsBacked program) sum → (AreThere program) (compared sum rel k)
      → truths.constraint (number_of cs (compared sum rel k)) ≡ content_truth tally truths.value (compared sum rel k)
  compared_kept sum rel k backed there = go rel there
    where
      go : (rel : Rel) → (AreThere program) (compared sum rel k) → truths.constraint (number_of cs (compared sum rel k)) ≡ content_truth tally truths.value (compared sum rel k)
      go LessEqual there = at_most_kept sum k backed (there (SumAtMost sum k) (inl refl))
      go Less there = at_most_kept sum (k -ℤ pos 1) backed (there (SumAtMost sum (k -ℤ pos 1)) (inl refl))
      go GreaterEqual there = at_most_kept (opposite sum) (neg_ℤ k) ((opposite_backed program) sum backed) (there (SumAtMost (opposite sum) (neg_ℤ k)) (inl refl))
      go Greater there = at_most_kept (opposite sum) (neg_ℤ k -ℤ pos 1) ((opposite_backed program) sum backed) (there (SumAtMost (opposite sum) (neg_ℤ k -ℤ pos 1)) (inl refl))
      go Equal there =
          stored (SumEquals sum k) (there (SumEquals sum k) (inl refl))
          ∙ ap₂ ◌&&◌ (at_most_kept sum k backed (there (SumAtMost sum k) (inr (inl refl))))
          (at_most_kept (opposite sum) (neg_ℤ k) ((opposite_backed program) sum backed) (there (SumAtMost (opposite sum) (neg_ℤ k)) (inr (inr (inl refl)))))
          ∙ both_equal (terms_value tally truths.value sum) (terms_value tally truths.value (opposite sum)) k (opposite_value tally truths.value sum)
      go NotEqual there =
          stored (SumDiffers sum k) (there (SumDiffers sum k) (inl refl))
          ∙ ap₂ ◌||◌ (at_most_kept sum (k -ℤ pos 1) backed (there (SumAtMost sum (k -ℤ pos 1)) (inr (inl refl))))
          (at_most_kept (opposite sum) (neg_ℤ k -ℤ pos 1) ((opposite_backed program) sum backed) (there (SumAtMost (opposite sum) (neg_ℤ k -ℤ pos 1)) (inr (inr (inl refl)))))
          ∙ either_differs (terms_value tally truths.value sum) (terms_value tally truths.value (opposite sum)) k (opposite_value tally truths.value sum)

  -- a relation whose content is there keeps its truth
  relation_is : (relation : Relation) → IsSizedRelation variables relation → (AreThere program) (relation_content variables relation)
      → truths.constraint (number_of cs (relation_content variables relation)) ≡ relation_holds world.values relation
  relation_is relation sized there =
      compared_kept (terms_of (moved_pairs variables (first_places relation.elements) (relation.right ∷ []))) relation.rel
      (relation.right.constant -ℤ total_constant (first_places relation.elements)) ((variables_backed program) (moved_pairs variables (first_places relation.elements) (relation.right ∷ []))) there
      ∙ relation_kept truths.value tally variables relation sized
      ∙ ap (λ values. relation_holds values relation) same_values

  -- BODIES

  -- the literal by number has the truth of the literal
  abbrev pub IsKept : BodyLit → Type 0
  IsKept literal = lit_true truths (lit_of cs variables literal) ≡ literal_holds world literal

  signed_same : (sign b c : Bool) → b ≡ c → literals.signed sign b ≡ rules.signed sign c
  signed_same true b c e = e
  signed_same false b c e = ap not e

  atom_kept : (a : ℕ) (sign : Bool) → IsKept (b.Atom a sign)
  atom_kept a sign = signed_same sign (truths.atom a) (world.atoms a) (are.atom a)

  relation_at : (at : Placed) → IsMember (placed 1 program.rules) at → (relation : Relation) (sign : Bool) → IsMember at.rule.body (b.Theory relation sign)
      → truths.constraint (number_of cs (relation_content variables relation)) ≡ relation_holds world.values relation
  relation_at at m relation sign k =
      relation_is relation (property_member (IsReadable atoms variables) at.rule.body (b.Theory relation sign) ((readable program) at m).body k) ((body_demand program) at m relation sign k)

  own_kept : (at : Placed) → IsMember (placed 1 program.rules) at → AllByRecursion IsKept at.rule.body
  own_kept at m = property_from_members IsKept at.rule.body (one at.rule.body (λ x k. k))
    where
      one : (xs : List BodyLit) → ((x : BodyLit) → IsMember xs x → IsMember at.rule.body x) → (x : BodyLit) → IsMember xs x → IsKept x
      one xs f (b.Atom a sign) k = atom_kept a sign
      one xs f (b.Theory relation sign) k =
          signed_same sign (truths.constraint (number_of cs (relation_content variables relation))) (relation_holds world.values relation) (relation_at at m relation sign (f (b.Theory relation sign) k))

  condition_kept : (condition : List BodyLit) → list_all (is_sound_condition atoms) condition ≡ true → AllByRecursion IsKept condition
  condition_kept [] e = tt
  condition_kept (b.Atom a sign ∷ condition) e = (atom_kept a sign, condition_kept condition (and_elim (is_number atoms a) (list_all (is_sound_condition atoms) condition) e).1)
  condition_kept (b.Theory relation sign ∷ condition) e = absurd (Rattle.std.proofs.Common.true≢false (sym e))

  append_kept : (xs ys : List BodyLit) → AllByRecursion IsKept xs → AllByRecursion IsKept ys → AllByRecursion IsKept (xs ++ ys)
  append_kept [] ys p q = q
  append_kept (x ∷ xs) ys p q = (p.0, append_kept xs ys p.1 q)

  literals_kept : (body : List BodyLit) → AllByRecursion IsKept body → list_all (λ literal. lit_true truths (lit_of cs variables literal)) body ≡ list_all (literal_holds world) body
  literals_kept [] k = refl
  literals_kept (x ∷ body) k = ap₂ ◌&&◌ k.0 (literals_kept body k.1)

  conjunction_kept : (body : List BodyLit) → AllByRecursion IsKept body → all_true truths (conjunction_of cs variables body).lits ≡ list_all (literal_holds world) body
  conjunction_kept body k =
      true_canonical truths (map (lit_of cs variables) body) ∙ list_all-map (lit_true truths) (lit_of cs variables) body ∙ literals_kept body k

  body_by : (at : Placed) → IsMember (placed 1 program.rules) at → (k : ℕ) (body : List BodyLit) → slice_get (bodies_in at.rule) k ≡ Some body
      → truths.body (at.first + k) ≡ all_true truths (conjunction_of cs variables body).lits
  body_by at m k body e =
      from_some (λ (c : Conjunction). truths.body (at.first + k) ≡ all_true truths c.lits) (numbered_in (numbering program).bodies (at.first + k)) (conjunction_of cs variables body)
      (conjunction_at program at m k body e) (are.body (at.first + k))

  items_kept : (at : Placed) → IsMember (placed 1 program.rules) at → (choice : GroundChoice) → at.rule.head ≡ h.Choice choice → (item : ChoiceItem) → IsMember choice.items item → AllByRecursion IsKept item.condition
  items_kept at m choice e item k =
      let s = and_elim (list_all (is_sound_literal (length program.symbols) atoms variables) at.rule.body) (is_sound_head (length program.symbols) atoms variables program.ends at.rule.head) ((sound program) at m) in
      let i : list_all (is_sound_item atoms) choice.items ≡ true = subst (λ (head : GroundHead). is_sound_head (length program.symbols) atoms variables program.ends head ≡ true) e s.1 in
      condition_kept item.condition (and_elim (is_number atoms item.atom) (list_all (is_sound_condition atoms) item.condition) (all_member (is_sound_item atoms) choice.items item i k)).1

  bodies_kept : (at : Placed) → IsMember (placed 1 program.rules) at → (head : GroundHead) → at.rule.head ≡ head → AllByRecursion (AllByRecursion IsKept) (head_bodies at.rule.body head)
  bodies_kept at m h.Nothing e = tt
  bodies_kept at m (h.Atom a) e = tt
  bodies_kept at m (h.Theory theory) e = tt
  bodies_kept at m (h.Choice choice) e =
      both (map (element_body at.rule.body) choice.items) (cond (is_bounded choice) (map (selecting_body at.rule.body) choice.items) [])
      (elements choice.items (λ item k. items_kept at m choice e item k)) (selecting (is_bounded choice))
    where
      both : (xs ys : List (List BodyLit)) → AllByRecursion (AllByRecursion IsKept) xs → AllByRecursion (AllByRecursion IsKept) ys → AllByRecursion (AllByRecursion IsKept) (xs ++ ys)
      both [] ys p q = q
      both (x ∷ xs) ys p q = (p.0, both xs ys p.1 q)

      elements : (items : List ChoiceItem) → ((item : ChoiceItem) → IsMember items item → AllByRecursion IsKept item.condition) → AllByRecursion (AllByRecursion IsKept) (map (element_body at.rule.body) items)
      elements [] f = tt
      elements (item ∷ items) f = (append_kept at.rule.body item.condition (own_kept at m) (f item (inl refl)), elements items (λ i k. f i (inr k)))

      selects : (items : List ChoiceItem) → ((item : ChoiceItem) → IsMember items item → AllByRecursion IsKept item.condition) → AllByRecursion (AllByRecursion IsKept) (map (selecting_body at.rule.body) items)
      selects [] f = tt
      selects (item ∷ items) f = (
        append_kept (at.rule.body ++ item.condition) (b.Atom item.atom true ∷ []) (append_kept at.rule.body item.condition (own_kept at m) (f item (inl refl))) (atom_kept item.atom true, tt),
        selects items (λ i k. f i (inr k)),
      )

      selecting : (bounded : Bool) → AllByRecursion (AllByRecursion IsKept) (cond bounded (map (selecting_body at.rule.body) choice.items) [])
      selecting true = selects choice.items (λ item k. items_kept at m choice e item k)
      selecting false = tt

  body_kept : (at : Placed) → IsMember (placed 1 program.rules) at → (k : ℕ) (body : List BodyLit) → slice_get (bodies_in at.rule) k ≡ Some body
      → truths.body (at.first + k) ≡ list_all (literal_holds world) body
  body_kept at m k body e =
      body_by at m k body e
      ∙ conjunction_kept body (property_member (AllByRecursion IsKept) (bodies_in at.rule) body (own_kept at m, bodies_kept at m at.rule.head refl) (place_member (bodies_in at.rule) k body e))

  -- HEADS

  theory_kept : (at : Placed) → IsMember (placed 1 program.rules) at → (theory : TheoryHead) → at.rule.head ≡ h.Theory theory
      → truths.constraint (number_of cs (theory_content variables theory)) ≡ theory_holds world.values theory
  theory_kept at m theory e = go theory (subst (λ (head : GroundHead). IsReadableHead atoms variables head) e ((readable program) at m).head) (λ part k. (head_demand program) at m (h.Theory theory) e part k)
    where
      go : (theory : TheoryHead) → IsReadableHead atoms variables (h.Theory theory) → (AreThere program) (theory_content variables theory)
          → truths.constraint (number_of cs (theory_content variables theory)) ≡ theory_holds world.values theory
      go (t.Relation relation) sized there = relation_is relation sized there
      go (t.Domain set x) sized there =
          stored (InSet x set) (there (InSet x set) (inl refl)) ∙ ap (λ values. theory_holds values (t.Domain set x)) same_values
      go (t.Distinct places) sized there =
          stored (AllDiffer places) (there (AllDiffer places) (inl refl)) ∙ ap (λ values. theory_holds values (t.Distinct places)) same_values
      go (t.Disjoint places) sized there =
          stored (NoneOverlap places) (there (NoneOverlap places) (inl refl)) ∙ ap (λ values. theory_holds values (t.Disjoint places)) same_values

  bounded : (left right : Option Bound) (bound : Bound) → IsMember (option_to_list left ++ option_to_list right) bound → (is_some left || is_some right) ≡ true
  bounded (Some x) right bound m = refl
  bounded None (Some x) bound m = refl
  bounded None None bound m = absurd m

  abbrev nothing : World
  nothing = record { atoms = λ a. false; values = world.values }

  none_chosen : (items : List ChoiceItem) → length (chosen nothing items) ≡ 0
  none_chosen [] = refl
  none_chosen (item ∷ items) = none_chosen items

  numbered_items : (at : Placed) → IsMember (placed 1 program.rules) at → (choice : GroundChoice) → at.rule.head ≡ h.Choice choice → AllByRecursion (λ item. IsNumbered atoms item.atom) choice.items
  numbered_items at m choice e =
      Rattle.ground_model.proofs.MemberLemmas.property_map (IsReadableItem atoms variables) (λ item. IsNumbered atoms item.atom) (λ item r. r.atom) choice.items
      (subst (λ (head : GroundHead). IsReadableHead atoms variables head) e ((readable program) at m).head)

  selecting_at : (body : List BodyLit) (head : GroundHead) (choice : GroundChoice) → head ≡ h.Choice choice → is_bounded choice ≡ true → (j : ℕ) (item : ChoiceItem) → slice_get choice.items j ≡ Some item
      → slice_get (body ∷ head_bodies body head) (suc (length choice.items + j)) ≡ Some (selecting_body body item)
  selecting_at body head choice e bound j item f =
      subst (λ (head : GroundHead). slice_get (head_bodies body head) (length choice.items + j) ≡ Some (selecting_body body item)) (sym e)
      (subst (λ (b : Bool). slice_get (map (element_body body) choice.items ++ cond b (map (selecting_body body) choice.items) []) (length choice.items + j) ≡ Some (selecting_body body item)) (sym bound)
      (subst (λ n. slice_get (map (element_body body) choice.items ++ map (selecting_body body) choice.items) (n + j) ≡ Some (selecting_body body item)) (length-map choice.items (element_body body))
      (slice_get_right (map (element_body body) choice.items) (map (selecting_body body) choice.items) j (selecting_body body item) (slice_get_mapped (selecting_body body) choice.items j item f))))

  selecting_kept : (at : Placed) → IsMember (placed 1 program.rules) at → (choice : GroundChoice) → at.rule.head ≡ h.Choice choice → is_bounded choice ≡ true
      → (j : ℕ) (item : ChoiceItem) → slice_get choice.items j ≡ Some item
      → truths.body ((at.first + 1 + length choice.items) + j) ≡ (list_all (literal_holds world) at.rule.body && is_taken world item)
  selecting_kept at m choice e bound j item f =
      ap truths.body (shift at.first (length choice.items) j)
      ∙ body_kept at m (suc (length choice.items + j)) (selecting_body at.rule.body item) (selecting_at at.rule.body at.rule.head choice e bound j item f)
      ∙ list_all-append (literal_holds world) (at.rule.body ++ item.condition) (b.Atom item.atom true ∷ [])
      ∙ ap (λ c. c && (world.atoms item.atom && true)) (list_all-append (literal_holds world) at.rule.body item.condition)
      ∙ turned (list_all (literal_holds world) at.rule.body) (list_all (literal_holds world) item.condition) (world.atoms item.atom)
    where
      shift : (f n j : ℕ) → (f + 1 + n) + j ≡ f + suc (n + j)
      shift f n j = omega arith

      turned : (o c a : Bool) → ((o && c) && (a && true)) ≡ (o && (a && c))
      turned false c a = refl
      turned true true true = refl
      turned true true false = refl
      turned true false true = refl
      turned true false false = refl

  bound_kept : (at : Placed) → IsMember (placed 1 program.rules) at → (choice : GroundChoice) → at.rule.head ≡ h.Choice choice → (bound : Bound) → IsMember (bounds_of choice) bound
      → truths.constraint (number_of cs (bound_content (selections atoms at.first choice.items) bound)) ≡ allows (Some bound) (taken_count world at.rule.body choice)
  bound_kept at m choice e bound k =
      compared_kept (map (λ bodies. Counted bodies (pos 1)) chosen_by) bound.rel bound.value backed there
      ∙ compared_truth tally truths.value (map (λ bodies. Counted bodies (pos 1)) chosen_by) bound.rel bound.value
      ∙ ap (λ s. compares bound.rel s bound.value) (by_body (list_all (literal_holds world) at.rule.body) refl)
    where
      chosen_by : List (List ℕ)
      chosen_by = selections atoms at.first choice.items

      there : (AreThere program) (bound_content (selections atoms at.first choice.items) bound)
      there part p = (head_demand program) at m (h.Choice choice) e part ((bound_demand program) (selections atoms at.first choice.items) (bounds_of choice) bound k part (inr p))

      backed : AllByRecursion (IsBacked program) (map (λ bodies. Counted bodies (pos 1)) (selections atoms at.first choice.items))
      backed =
          (selections_backed program) (selections atoms at.first choice.items)
          (λ bodies q. (head_demand program) at m (h.Choice choice) e (SomeTrue bodies) ((bound_demand program) (selections atoms at.first choice.items) (bounds_of choice) bound k (SomeTrue bodies) (inl (member_map SomeTrue (selections atoms at.first choice.items) bodies q))))

      by_body : (holds : Bool) → list_all (literal_holds world) at.rule.body ≡ holds
          → terms_value tally truths.value (map (λ bodies. Counted bodies (pos 1)) (selections atoms at.first choice.items)) ≡ pos (cond (list_all (literal_holds world) at.rule.body) (length (chosen world choice.items)) 0)
      by_body true holds =
          selections_value world truths.body truths.value atoms at.first choice.items (numbered_items at m choice e)
          (λ j item f. selecting_kept at m choice e (bounded choice.left choice.right bound k) j item f ∙ ap (λ b. b && is_taken world item) holds)
          ∙ ap (λ b. pos (cond b (length (chosen world choice.items)) 0)) (sym holds)
      by_body false holds =
          selections_value nothing truths.body truths.value atoms at.first choice.items (numbered_items at m choice e)
          (λ j item f. selecting_kept at m choice e (bounded choice.left choice.right bound k) j item f ∙ ap (λ b. b && is_taken world item) holds)
          ∙ ap pos (none_chosen choice.items) ∙ ap (λ b. pos (cond b (length (chosen world choice.items)) 0)) (sym holds)

pub truth_law : TruthLaw
truth_law program world truths are = record {
  body = body_kept program world truths are;
  relation = λ rule m relation sign k.
      let p = rule_placed 1 program.rules rule m in
      relation_at program world truths are p.0 p.1 relation sign (subst (λ (r : GroundRule). IsMember r.body (b.Theory relation sign)) (sym p.2) k);
  theory = λ rule m theory e.
      let p = rule_placed 1 program.rules rule m in
      theory_kept program world truths are p.0 p.1 theory (ap (λ r. r.head) p.2 ∙ e);
  bound = bound_kept program world truths are;
}
