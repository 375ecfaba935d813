-- Every world has truths: nothing is nested deeper than the truths of a world look.
use Rattle.std.proofs.Common.{◌≡◌, ℕ, zero, suc, ◌+◌, Bool, true, false, not, cond, if◌then◌else◌, ◌&&◌, ◌||◌, ◌⊎◌, inl, inr, List, [], ◌∷◌, ◌++◌, map, flat_map, refl, sym, ◌∙◌, ap, ap₂, subst, ℤ, pos, ◌+ℤ◌, ◌-ℤ◌, ◌*ℤ◌, neg_ℤ, int_le, Option, Some, None, slice_get, IfSome, length}
use Rattle.std.specs.List.{AllByRecursion, list_all}
use Rattle.symbols.specs.declared.rel.Rel.{Rel}
use Rattle.symbols.specs.declared.rel.Rel.TheVariants.{Equal, NotEqual, Less, LessEqual, Greater, GreaterEqual}
use Rattle.literals.specs.Truths.{Truths, lit_true, all_true, signed}
use Rattle.literals.proofs.Worlds.{true_canonical}
use Rattle.ground_model.specs.declared.linear.Relation.{Relation}
use Rattle.ground_model.specs.declared.rule.BodyLit.{BodyLit}
use Rattle.ground_model.specs.declared.rule.BodyLit.TheVariants as b
use Rattle.ground_model.specs.declared.rule.Bound.{Bound}
use Rattle.ground_model.specs.declared.rule.ChoiceItem.{ChoiceItem}
use Rattle.ground_model.specs.declared.rule.TheoryHead.{TheoryHead}
use Rattle.ground_model.specs.declared.rule.TheoryHead.TheVariants as t
use Rattle.ground_model.specs.declared.rule.GroundHead.{GroundHead}
use Rattle.ground_model.specs.declared.rule.GroundHead.TheVariants as h
use Rattle.ground_model.specs.declared.rule.GroundRule.{GroundRule}
use Rattle.ground_model.specs.declared.program.GroundProgram.{GroundProgram}
use Rattle.ground_model.specs.Members.{IsMember}
use Rattle.ground_model.specs.Sound.{is_sound_literal, is_sound_head, is_sound_item, is_sound_condition, is_number, first_places, total_constant}
use Rattle.ground_model.specs.World.{World}
use Rattle.ground_model.proofs.Bools.{and_elim}
use Rattle.ground_model.proofs.MemberLemmas.{property_member, property_from_members, all_member, member_map}
use Rattle.ground_model.proofs.WayLemmas.{flat_member}
use Rattle.linear_normal.specs.declared.constraint.Constraint.{Constraint}
use Rattle.linear_normal.specs.declared.numbered.Conjunction.{Conjunction}
use Rattle.linear_normal.specs.declared.numbered.Numbered.{Numbered}
use Rattle.linear_normal.specs.Contents.{Term, Variable, Counted, Content, SumAtMost, SumEquals, SumDiffers, SomeTrue, opposite, compared}
use Rattle.linear_normal.specs.Bodies.{element_body, selecting_body, is_bounded, head_bodies, bodies_in, Placed, placed, selections}
use Rattle.linear_normal.specs.Demands.{moved_pairs, terms_of, relation_content, theory_content, bound_content, bounds_of, with_parts, literal_demands, choice_demands, head_demands, rule_demands, number_of}
use Rattle.linear_normal.specs.Numbering.{item_of, constraint_of, lit_of, conjunction_of, contents_in, numbering}
use Rattle.linear_normal.specs.Truth.{numbered_in, items_value, constraint_truth, body_over, constraint_over, truths_within}
use Rattle.linear_normal.specs.Laws.{TruthsLaw}
use Rattle.linear_normal.proofs.BodyLemmas.{slice_get_mapped, rule_placed}
use Rattle.linear_normal.proofs.ContentLemmas.{has_content, at_number, only_demanded}
use Rattle.linear_normal.proofs.DemandLemmas.{AreThere, sound, body_demand, head_demand, bound_demand}

module _ (program : GroundProgram) (world : World) where
  abbrev variables : ℕ
  variables = length program.variables

  abbrev cs : List Content
  cs = contents_in program

  abbrev N : Numbered
  N = numbering program

  abbrev at_depth : ℕ → Truths
  at_depth depth = truths_within depth N world

  same_values : (d e : ℕ) → (at_depth d).value ≡ (at_depth e).value
  same_values zero zero = refl
  same_values zero (suc e) = refl
  same_values (suc d) zero = refl
  same_values (suc d) (suc e) = refl

  same_atoms : (d e : ℕ) → (at_depth d).atom ≡ (at_depth e).atom
  same_atoms zero zero = refl
  same_atoms zero (suc e) = refl
  same_atoms (suc d) zero = refl
  same_atoms (suc d) (suc e) = refl

  -- the number of a content that is there has at each depth what the constraint says one deeper
  shown : (content : Content) → has_content cs content ≡ true → (d : ℕ) → (at_depth (suc d)).constraint (number_of cs content) ≡ constraint_truth (at_depth d) (constraint_of cs content)
  shown content e d =
      let r = at_number cs content e in
      let there : numbered_in (map (constraint_of cs) cs) (suc r.0) ≡ Some (constraint_of cs content) = slice_get_mapped (constraint_of cs) cs r.0 content r.2 in
      ap (λ n. constraint_over (at_depth d) (numbered_in N.constraints n)) r.1 ∙ ap (constraint_over (at_depth d)) there

  -- the same at two depths
  abbrev Same : ℕ → ℕ → Content → Type 0
  Same d e content = constraint_truth (at_depth d) (constraint_of cs content) ≡ constraint_truth (at_depth e) (constraint_of cs content)

  -- what a term counts is the same at two depths
  abbrev SameTerm : ℕ → ℕ → Term → Type 0
  SameTerm d e (Variable x c) = Unit {0}
  SameTerm d e (Counted bodies c) = (at_depth d).constraint (number_of cs (SomeTrue bodies)) ≡ (at_depth e).constraint (number_of cs (SomeTrue bodies))

  same_terms : (d e : ℕ) (terms : List Term) → AllByRecursion (SameTerm d e) terms → items_value (at_depth d) (map (item_of cs) terms) ≡ items_value (at_depth e) (map (item_of cs) terms)
  same_terms d e [] s = refl
  same_terms d e (Variable x c ∷ terms) s = ap₂ (λ v z. (c *ℤ v x) +ℤ z) (same_values d e) (same_terms d e terms s.1)
  same_terms d e (Counted bodies c ∷ terms) s = ap₂ (λ b z. (c *ℤ (if b then pos 1 else pos 0)) +ℤ z) s.0 (same_terms d e terms s.1)

  same_opposite : (d e : ℕ) (terms : List Term) → AllByRecursion (SameTerm d e) terms → AllByRecursion (SameTerm d e) (opposite terms)
  same_opposite d e [] s = tt
  same_opposite d e (Variable x c ∷ terms) s = (tt, same_opposite d e terms s.1)
  same_opposite d e (Counted bodies c ∷ terms) s = (s.0, same_opposite d e terms s.1)

  same_at_most : (d e : ℕ) (sum : List Term) (k : ℤ) → AllByRecursion (SameTerm d e) sum → Same d e (SumAtMost sum k)
  same_at_most d e sum k s = ap (λ v. int_le v k) (same_terms d e sum s)

  -- a sum in a relation, with its parts, one deeper than its terms
  same_compared : (d e : ℕ) (sum : List Term) → AllByRecursion (SameTerm d e) sum → AllByRecursion (SameTerm (suc d) (suc e)) sum → (rel : Rel) (k : ℤ) → AreThere program (compared sum rel k)
      → AllByRecursion (Same (suc d) (suc e)) (with_parts (compared sum rel k))
  same_compared d e sum s s' LessEqual k there = (same_at_most (suc d) (suc e) sum k s', tt)
  same_compared d e sum s s' Less k there = (same_at_most (suc d) (suc e) sum (k -ℤ pos 1) s', tt)
  same_compared d e sum s s' GreaterEqual k there = (same_at_most (suc d) (suc e) (opposite sum) (neg_ℤ k) (same_opposite (suc d) (suc e) sum s'), tt)
  same_compared d e sum s s' Greater k there = (same_at_most (suc d) (suc e) (opposite sum) (neg_ℤ k -ℤ pos 1) (same_opposite (suc d) (suc e) sum s'), tt)
  same_compared d e sum s s' Equal k there = (
    ap₂ ◌&&◌ (part (SumAtMost sum k) (inr (inl refl)) (same_at_most d e sum k s)) (part (SumAtMost (opposite sum) (neg_ℤ k)) (inr (inr (inl refl))) (same_at_most d e (opposite sum) (neg_ℤ k) (same_opposite d e sum s))),
    (same_at_most (suc d) (suc e) sum k s', (same_at_most (suc d) (suc e) (opposite sum) (neg_ℤ k) (same_opposite (suc d) (suc e) sum s'), tt)),
  )
    where
      part : (content : Content) → IsMember (with_parts (SumEquals sum k)) content → Same d e content → (at_depth (suc d)).constraint (number_of cs content) ≡ (at_depth (suc e)).constraint (number_of cs content)
      part content m s = shown content (there content m) d ∙ s ∙ sym (shown content (there content m) e)
  same_compared d e sum s s' NotEqual k there = (
    ap₂ ◌||◌ (part (SumAtMost sum (k -ℤ pos 1)) (inr (inl refl)) (same_at_most d e sum (k -ℤ pos 1) s)) (part (SumAtMost (opposite sum) (neg_ℤ k -ℤ pos 1)) (inr (inr (inl refl))) (same_at_most d e (opposite sum) (neg_ℤ k -ℤ pos 1) (same_opposite d e sum s))),
    (same_at_most (suc d) (suc e) sum (k -ℤ pos 1) s', (same_at_most (suc d) (suc e) (opposite sum) (neg_ℤ k -ℤ pos 1) (same_opposite (suc d) (suc e) sum s'), tt)),
  )
    where
      part : (content : Content) → IsMember (with_parts (SumDiffers sum k)) content → Same d e content → (at_depth (suc d)).constraint (number_of cs content) ≡ (at_depth (suc e)).constraint (number_of cs content)
      part content m s = shown content (there content m) d ∙ s ∙ sym (shown content (there content m) e)

  variables_same : (d e : ℕ) (pairs : List (ℕ × ℤ)) → AllByRecursion (SameTerm d e) (terms_of pairs)
  variables_same d e [] = tt
  variables_same d e (pair ∷ pairs) = (tt, variables_same d e pairs)

  same_relation : (d e : ℕ) (relation : Relation) → AreThere program (relation_content variables relation) → AllByRecursion (Same (suc d) (suc e)) (with_parts (relation_content variables relation))
  same_relation d e relation there =
      same_compared d e (terms_of (moved_pairs variables (first_places relation.elements) (relation.right ∷ [])))
      (variables_same d e (moved_pairs variables (first_places relation.elements) (relation.right ∷ [])))
      (variables_same (suc d) (suc e) (moved_pairs variables (first_places relation.elements) (relation.right ∷ [])))
      relation.rel (relation.right.constant -ℤ total_constant (first_places relation.elements)) there

  -- LITERALS AND BODIES

  -- a literal by number is the same at depths from 2 on
  abbrev SameLit : BodyLit → Type 0
  SameLit literal = (d e : ℕ) → lit_true (at_depth (suc (suc d))) (lit_of cs variables literal) ≡ lit_true (at_depth (suc (suc e))) (lit_of cs variables literal)

  atom_same : (a : ℕ) (sign : Bool) → SameLit (b.Atom a sign)
  atom_same a sign d e = ap (λ f. signed sign (f a)) (same_atoms (suc (suc d)) (suc (suc e)))

  relation_same : (relation : Relation) (sign : Bool) → AreThere program (relation_content variables relation) → SameLit (b.Theory relation sign)
  relation_same relation sign there d e =
      ap (signed sign)
      (shown (relation_content variables relation) (there (relation_content variables relation) (inl refl)) (suc d)
      ∙ (same_relation d e relation there).0
      ∙ sym (shown (relation_content variables relation) (there (relation_content variables relation) (inl refl)) (suc e)))

  own_same : (at : Placed) → IsMember (placed 1 program.rules) at → AllByRecursion SameLit at.rule.body
  own_same at m = property_from_members SameLit at.rule.body one
    where
      one : (x : BodyLit) → IsMember at.rule.body x → SameLit x
      one (b.Atom a sign) k = atom_same a sign
      one (b.Theory relation sign) k = relation_same relation sign (body_demand program at m relation sign k)

  condition_same : (condition : List BodyLit) → list_all (is_sound_condition (length program.atoms)) condition ≡ true → AllByRecursion SameLit condition
  condition_same [] e = tt
  condition_same (b.Atom a sign ∷ condition) e = (atom_same a sign, condition_same condition (and_elim (is_number (length program.atoms) a) (list_all (is_sound_condition (length program.atoms)) condition) e).1)
  condition_same (b.Theory relation sign ∷ condition) e = absurd (Rattle.std.proofs.Common.true≢false (sym e))

  append_same : (xs ys : List BodyLit) → AllByRecursion SameLit xs → AllByRecursion SameLit ys → AllByRecursion SameLit (xs ++ ys)
  append_same [] ys p q = q
  append_same (x ∷ xs) ys p q = (p.0, append_same xs ys p.1 q)

  head_same : (at : Placed) → IsMember (placed 1 program.rules) at → (head : GroundHead) → at.rule.head ≡ head → (body : List BodyLit) → IsMember (head_bodies at.rule.body head) body → AllByRecursion SameLit body
  head_same at m h.Nothing e body k = absurd k
  head_same at m (h.Atom a) e body k = absurd k
  head_same at m (h.Theory theory) e body k = absurd k
  head_same at m (h.Choice choice) e body k =
      both (map (element_body at.rule.body) choice.items) (elements choice.items (λ i n. n)) k
    where
      condition : (item : ChoiceItem) → IsMember choice.items item → AllByRecursion SameLit item.condition
      condition item n =
          let s = and_elim (list_all (is_sound_literal (length program.symbols) (length program.atoms) variables) at.rule.body) (is_sound_head (length program.symbols) (length program.atoms) variables program.ends at.rule.head) (sound program at m) in
          let i : list_all (is_sound_item (length program.atoms)) choice.items ≡ true = subst (λ (head : GroundHead). is_sound_head (length program.symbols) (length program.atoms) variables program.ends head ≡ true) e s.1 in
          condition_same item.condition (and_elim (is_number (length program.atoms) item.atom) (list_all (is_sound_condition (length program.atoms)) item.condition) (all_member (is_sound_item (length program.atoms)) choice.items item i n)).1

      elements : (items : List ChoiceItem) → ((item : ChoiceItem) → IsMember items item → IsMember choice.items item) → AllByRecursion (AllByRecursion SameLit) (map (element_body at.rule.body) items)
      elements [] f = tt
      elements (item ∷ items) f = (append_same at.rule.body item.condition (own_same at m) (condition item (f item (inl refl))), elements items (λ i n. f i (inr n)))

      selects : (items : List ChoiceItem) → ((item : ChoiceItem) → IsMember items item → IsMember choice.items item) → AllByRecursion (AllByRecursion SameLit) (map (selecting_body at.rule.body) items)
      selects [] f = tt
      selects (item ∷ items) f = (
        append_same (at.rule.body ++ item.condition) (b.Atom item.atom true ∷ []) (append_same at.rule.body item.condition (own_same at m) (condition item (f item (inl refl)))) (atom_same item.atom true, tt),
        selects items (λ i n. f i (inr n)),
      )

      selecting : (bounded : Bool) → IsMember (cond bounded (map (selecting_body at.rule.body) choice.items) []) body → AllByRecursion SameLit body
      selecting true n = property_member (AllByRecursion SameLit) (map (selecting_body at.rule.body) choice.items) body (selects choice.items (λ i k. k)) n
      selecting false n = absurd n

      both : (xs : List (List BodyLit)) → AllByRecursion (AllByRecursion SameLit) xs → IsMember (xs ++ cond (is_bounded choice) (map (selecting_body at.rule.body) choice.items) []) body → AllByRecursion SameLit body
      both [] is n = selecting (is_bounded choice) n
      both (x ∷ xs) is (inl p) = subst (AllByRecursion SameLit) (sym p) is.0
      both (x ∷ xs) is (inr n) = both xs is.1 n

  body_same : (body : List BodyLit) → IsMember (flat_map bodies_in program.rules) body → AllByRecursion SameLit body
  body_same body m =
      let f = flat_member bodies_in program.rules body m in
      let p = rule_placed 1 program.rules f.0 f.1 in
      go p.0 p.1 (subst (λ (r : GroundRule). IsMember (bodies_in r) body) (sym p.2) f.2)
    where
      go : (at : Placed) → IsMember (placed 1 program.rules) at → IsMember (bodies_in at.rule) body → AllByRecursion SameLit body
      go at m (inl e) = subst (AllByRecursion SameLit) (sym e) (own_same at m)
      go at m (inr k) = head_same at m at.rule.head refl body k

  lits_same : (d e : ℕ) (body : List BodyLit) → AllByRecursion SameLit body → all_true (at_depth (suc (suc d))) (map (lit_of cs variables) body) ≡ all_true (at_depth (suc (suc e))) (map (lit_of cs variables) body)
  lits_same d e [] s = refl
  lits_same d e (x ∷ body) s = ap₂ ◌&&◌ (s.0 d e) (lits_same d e body s.1)

  conjunction_same : (d e : ℕ) (bodies : List (List BodyLit)) → ((body : List BodyLit) → IsMember bodies body → AllByRecursion SameLit body) → (k : ℕ)
      → body_over (at_depth (suc (suc d))) (slice_get (map (conjunction_of cs variables) bodies) k) ≡ body_over (at_depth (suc (suc e))) (slice_get (map (conjunction_of cs variables) bodies) k)
  conjunction_same d e [] f zero = refl
  conjunction_same d e [] f (suc k) = refl
  conjunction_same d e (body ∷ bodies) f zero =
      true_canonical (at_depth (suc (suc d))) (map (lit_of cs variables) body) ∙ lits_same d e body (f body (inl refl)) ∙ sym (true_canonical (at_depth (suc (suc e))) (map (lit_of cs variables) body))
  conjunction_same d e (body ∷ bodies) f (suc k) = conjunction_same d e bodies (λ x m. f x (inr m)) k

  -- a body is the same at depths from 3 on
  numbered_body_same : (d e n : ℕ) → body_over (at_depth (suc (suc d))) (numbered_in N.bodies n) ≡ body_over (at_depth (suc (suc e))) (numbered_in N.bodies n)
  numbered_body_same d e zero = refl
  numbered_body_same d e (suc k) = conjunction_same d e (flat_map bodies_in program.rules) body_same k

  -- CONSTRAINTS

  same_tally : (d e : ℕ) (bodies : List ℕ) → Same (suc (suc (suc d))) (suc (suc (suc e))) (SomeTrue bodies)
  same_tally d e [] = refl
  same_tally d e (n ∷ bodies) = ap₂ ◌||◌ (numbered_body_same d e n) (same_tally d e bodies)

  counted_same : (d e : ℕ) (selections : List (List ℕ)) → ((bodies : List ℕ) → IsMember selections bodies → has_content cs (SomeTrue bodies) ≡ true)
      → AllByRecursion (SameTerm (suc (suc (suc (suc d)))) (suc (suc (suc (suc e))))) (map (λ bodies. Counted bodies (pos 1)) selections)
  counted_same d e [] f = tt
  counted_same d e (bodies ∷ selections) f =
      (shown (SomeTrue bodies) (f bodies (inl refl)) (suc (suc (suc d))) ∙ same_tally d e bodies ∙ sym (shown (SomeTrue bodies) (f bodies (inl refl)) (suc (suc (suc e)))), counted_same d e selections (λ x m. f x (inr m)))

  -- each content is the same at depths from 5 on
  abbrev Settled : Content → Type 0
  Settled content = (d e : ℕ) → Same (suc (suc (suc (suc (suc d))))) (suc (suc (suc (suc (suc e))))) content

  relation_settled : (relation : Relation) → AreThere program (relation_content variables relation) → (content : Content) → IsMember (with_parts (relation_content variables relation)) content → Settled content
  relation_settled relation there content m d e =
      property_member (Same (suc (suc (suc (suc (suc d))))) (suc (suc (suc (suc (suc e)))))) (with_parts (relation_content variables relation)) content (same_relation (suc (suc (suc (suc d)))) (suc (suc (suc (suc e)))) relation there) m

  theory_settled : (theory : TheoryHead) → AreThere program (theory_content variables theory) → (content : Content) → IsMember (with_parts (theory_content variables theory)) content → Settled content
  theory_settled (t.Relation relation) there content m = relation_settled relation there content m
  theory_settled (t.Domain set x) there content (inl p) = subst Settled (sym p) (λ d e. refl)
  theory_settled (t.Domain set x) there content (inr m) = absurd m
  theory_settled (t.Distinct places) there content (inl p) = subst Settled (sym p) (λ d e. refl)
  theory_settled (t.Distinct places) there content (inr m) = absurd m
  theory_settled (t.Disjoint places) there content (inl p) = subst Settled (sym p) (λ d e. refl)
  theory_settled (t.Disjoint places) there content (inr m) = absurd m

  choice_settled : (selections : List (List ℕ)) (bounds : List Bound) → ((content : Content) → IsMember (choice_demands selections bounds) content → has_content cs content ≡ true)
      → (content : Content) → IsMember (choice_demands selections bounds) content → Settled content
  choice_settled selections [] there content m = absurd m
  choice_settled selections (x ∷ bounds) there content m = tallies selections m
    where
      tallies : (s : List (List ℕ)) → IsMember (map SomeTrue s ++ flat_map (λ bound. with_parts (bound_content selections bound)) (x ∷ bounds)) content → Settled content
      tallies [] m d e =
          let f = flat_member (λ bound. with_parts (bound_content selections bound)) (x ∷ bounds) content m in
          let known = (λ (bodies : List ℕ) (k : IsMember selections bodies). there (SomeTrue bodies) (bound_demand program selections (x ∷ bounds) f.0 f.1 (SomeTrue bodies) (inl (member_map SomeTrue selections bodies k)))) in
          property_member (Same (suc (suc (suc (suc (suc d))))) (suc (suc (suc (suc (suc e)))))) (with_parts (bound_content selections f.0)) content
          (same_compared (suc (suc (suc (suc d)))) (suc (suc (suc (suc e)))) (map (λ bodies. Counted bodies (pos 1)) selections)
          (counted_same d e selections known) (counted_same (suc d) (suc e) selections known) f.0.rel f.0.value
          (λ part k. there part (bound_demand program selections (x ∷ bounds) f.0 f.1 part (inr k)))) f.2
      tallies (bodies ∷ s) (inl p) d e = subst (Same (suc (suc (suc (suc (suc d))))) (suc (suc (suc (suc (suc e)))))) (sym p) (same_tally (suc (suc d)) (suc (suc e)) bodies)
      tallies (bodies ∷ s) (inr m) d e = tallies s m d e

  demand_settled : (at : Placed) → IsMember (placed 1 program.rules) at → (content : Content) → IsMember (rule_demands (length program.atoms) variables at) content → Settled content
  demand_settled at m content k = body at.rule.body (λ x n. n) (head at.rule.head refl) k
    where
      head : (head : GroundHead) → at.rule.head ≡ head → IsMember (head_demands (length program.atoms) variables at.first head) content → Settled content
      head h.Nothing e k = absurd k
      head (h.Atom a) e k = absurd k
      head (h.Theory theory) e k = theory_settled theory (λ part n. head_demand program at m (h.Theory theory) e part n) content k
      head (h.Choice choice) e k =
          choice_settled (selections (length program.atoms) at.first choice.items) (bounds_of choice) (λ c n. head_demand program at m (h.Choice choice) e c n) content k

      body : (literals : List BodyLit) → ((x : BodyLit) → IsMember literals x → IsMember at.rule.body x) → (IsMember (head_demands (length program.atoms) variables at.first at.rule.head) content → Settled content)
          → IsMember (flat_map (literal_demands variables) literals ++ head_demands (length program.atoms) variables at.first at.rule.head) content → Settled content
      body [] f rest k = rest k
      body (b.Atom a sign ∷ literals) f rest k = body literals (λ x n. f x (inr n)) rest k
      body (b.Theory relation sign ∷ literals) f rest k =
          parts (with_parts (relation_content variables relation)) (relation_settled relation (body_demand program at m relation sign (f (b.Theory relation sign) (inl refl)))) (body literals (λ x n. f x (inr n)) rest) k
        where
          parts : (xs : List Content) → ((c : Content) → IsMember xs c → Settled c)
              → (IsMember (flat_map (literal_demands variables) literals ++ head_demands (length program.atoms) variables at.first at.rule.head) content → Settled content)
              → IsMember ((xs ++ flat_map (literal_demands variables) literals) ++ head_demands (length program.atoms) variables at.first at.rule.head) content → Settled content
          parts [] is rest k = rest k
          parts (x ∷ xs) is rest (inl e) = is content (inl e)
          parts (x ∷ xs) is rest (inr k) = parts xs (λ c n. is c (inr n)) rest k

  content_settled : (content : Content) → IsMember cs content → Settled content
  content_settled =
      only_demanded [] (flat_map (rule_demands (length program.atoms) variables) (placed 1 program.rules)) Settled (λ x m. absurd m)
      (λ x m. let f = flat_member (rule_demands (length program.atoms) variables) (placed 1 program.rules) x m in demand_settled f.0 f.1 x f.2)

  constraints_settled : (xs : List Content) → ((content : Content) → IsMember xs content → Settled content) → (k : ℕ)
      → IfSome (slice_get (map (constraint_of cs) xs) k) (λ constraint. constraint_truth (at_depth 5) constraint ≡ constraint_truth (at_depth 6) constraint)
  constraints_settled [] f zero = tt
  constraints_settled [] f (suc k) = tt
  constraints_settled (x ∷ xs) f zero = f x (inl refl) 0 1
  constraints_settled (x ∷ xs) f (suc k) = constraints_settled xs (λ y m. f y (inr m)) k

  body_is : (o : Option Conjunction) → body_over (at_depth 5) o ≡ body_over (at_depth 6) o → IfSome o (λ conjunction. body_over (at_depth 5) o ≡ all_true (at_depth 6) conjunction.lits)
  body_is None e = tt
  body_is (Some conjunction) e = e

  constraint_is : (o : Option Constraint) → IfSome o (λ constraint. constraint_truth (at_depth 5) constraint ≡ constraint_truth (at_depth 6) constraint)
      → IfSome o (λ constraint. constraint_over (at_depth 5) o ≡ constraint_truth (at_depth 6) constraint)
  constraint_is None e = tt
  constraint_is (Some constraint) e = e

  settled_at : (n : ℕ) → IfSome (numbered_in N.constraints n) (λ constraint. constraint_truth (at_depth 5) constraint ≡ constraint_truth (at_depth 6) constraint)
  settled_at zero = tt
  settled_at (suc k) = constraints_settled cs content_settled k

pub truths_law : TruthsLaw
truths_law program world = record {
  atom = λ a. refl;
  value = λ x. refl;
  body = λ n. body_is program world (numbered_in (numbering program).bodies n) (numbered_body_same program world 3 4 n);
  constraint = λ n. constraint_is program world (numbered_in (numbering program).constraints n) (settled_at program world n);
}
