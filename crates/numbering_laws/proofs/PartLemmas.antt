-- What the numbers of a numbering name.
use Rattle.std.proofs.Common.{◌≡◌, ℕ, ◌+◌, Bool, true, false, cond, inl, inr, List, [], ◌∷◌, ◌++◌, map, flat_map, length, refl, sym, ◌∙◌, ap, subst, true≢false, ℤ, pos, ◌-ℤ◌, neg_ℤ, Some, arith}
use Rattle.std.specs.List.{AllByRecursion, list_all}
use Rattle.symbols.specs.declared.rel.Rel.{Rel}
use Rattle.symbols.specs.declared.rel.Rel.TheVariants.{Equal, NotEqual, Less, LessEqual, Greater, GreaterEqual}
use Rattle.literals.proofs.Puts.{all_joined}
use Rattle.ground_model.specs.declared.linear.Place.{Place}
use Rattle.ground_model.specs.declared.linear.Relation.{Relation}
use Rattle.ground_model.specs.declared.rule.BodyLit.{BodyLit}
use Rattle.ground_model.specs.declared.rule.BodyLit.TheVariants as b
use Rattle.ground_model.specs.declared.rule.ChoiceItem.{ChoiceItem}
use Rattle.ground_model.specs.declared.rule.GroundChoice.{GroundChoice}
use Rattle.ground_model.specs.declared.rule.GroundHead.{GroundHead}
use Rattle.ground_model.specs.declared.rule.GroundHead.TheVariants as h
use Rattle.ground_model.specs.declared.program.GroundProgram.{GroundProgram}
use Rattle.ground_model.specs.Answers.{IsNumbered}
use Rattle.ground_model.specs.Members.{IsMember}
use Rattle.ground_model.specs.Sizes.{IsReadable, IsReadableItem, IsReadableHead}
use Rattle.ground_model.specs.Sound.{first_places, total_constant, is_number, is_sound_literal, is_sound_condition, is_sound_item, is_sound_head}
use Rattle.ground_model.proofs.Bools.{and_elim}
use Rattle.ground_model.proofs.MemberLemmas.{property_member, property_from_members, property_map, all_member}
use Rattle.ground_model.proofs.SizeLemmas.{number_of as numbered_of}
use Rattle.ground_model.proofs.WayLemmas.{flat_member}
use Rattle.linear_normal.specs.declared.numbered.Support.{Support}
use Rattle.linear_normal.specs.declared.numbered.Numbered.{Numbered}
use Rattle.linear_normal.specs.Contents.{Term, Variable, Counted, Content, SumAtMost, SumEquals, SumDiffers, InSet, AllDiffer, NoneOverlap, SomeTrue, opposite, compared}
use Rattle.linear_normal.specs.Bodies.{element_body, selecting_body, is_bounded, head_bodies, bodies_in, Placed, placed, selections}
use Rattle.linear_normal.specs.Demands.{moved_pairs, terms_of, relation_content, theory_content, bound_content, bounds_of, number_of}
use Rattle.linear_normal.specs.Numbering.{item_of, constraint_of, lit_of, conjunction_of, element_supports, head_supports, head_duties, contents_in, numbering}
use Rattle.linear_normal.specs.Truth.{numbered_in}
use Rattle.linear_normal.proofs.BodyLemmas.{rule_placed, support_way}
use Rattle.linear_normal.proofs.ContentLemmas.{has_content}
use Rattle.linear_normal.proofs.DemandLemmas.{IsBacked, AreThere, readable, sound, body_demand, head_demand, bound_demand}
use Rattle.linear_normal.proofs.ListLemmas.{all_append, all_flat, all_map}
use Rattle.linear_normal.proofs.OverLemmas.{IsPlaceOver, IsTermOver, IsOver, content_over}
use Rattle.numbering_laws.specs.Parts.{is_at_most, is_relation, is_tally, IsOfBody, IsOfSum, IsPlaceOf, HasParts, IsSupportOf, IsDutyOf, PartsLaw}
use Rattle.numbering_laws.proofs.MadeLemmas.{numbered_known, constraint_at, body_numbered, IsMade, content_made}

module _ (program : GroundProgram) where
  abbrev atoms : ℕ
  atoms = length program.atoms

  abbrev variables : ℕ
  variables = length program.variables

  abbrev cs : List Content
  cs = contents_in program

  abbrev N : Numbered
  N = numbering program

  -- BODIES

  compared_relation : (sum : List Term) (rel : Rel) (k : ℤ) → is_relation (Some (constraint_of cs (compared sum rel k))) ≡ true
  compared_relation sum LessEqual k = refl
  compared_relation sum Less k = refl
  compared_relation sum GreaterEqual k = refl
  compared_relation sum Greater k = refl
  compared_relation sum Equal k = refl
  compared_relation sum NotEqual k = refl

  relation_named : (relation : Relation) → AreThere program (relation_content variables relation) → is_relation (numbered_in N.constraints (number_of cs (relation_content variables relation))) ≡ true
  relation_named relation there =
      ap is_relation (constraint_at program (relation_content variables relation) (there (relation_content variables relation) (inl refl)))
      ∙ compared_relation (terms_of (moved_pairs variables (first_places relation.elements) (relation.right ∷ []))) relation.rel (relation.right.constant -ℤ total_constant (first_places relation.elements))

  abbrev IsNamed : BodyLit → Type 0
  IsNamed literal = IsOfBody program N (lit_of cs variables literal)

  literal_named : (at : Placed) → IsMember (placed 1 program.rules) at → (literal : BodyLit) → IsMember at.rule.body literal → IsNamed literal
  literal_named at m (b.Atom a sign) k = property_member (IsReadable atoms variables) at.rule.body (b.Atom a sign) (readable program at m).body k
  literal_named at m (b.Theory relation sign) k = relation_named relation (body_demand program at m relation sign k)

  condition_named : (condition : List BodyLit) → list_all (is_sound_condition atoms) condition ≡ true → AllByRecursion IsNamed condition
  condition_named [] e = tt
  condition_named (b.Atom a sign ∷ condition) e =
      let p = and_elim (is_number atoms a) (list_all (is_sound_condition atoms) condition) e in
      (numbered_of atoms a p.0, condition_named condition p.1)
  condition_named (b.Theory relation sign ∷ condition) e = absurd (true≢false (sym e))

  item_named : (at : Placed) → IsMember (placed 1 program.rules) at → (choice : GroundChoice) → at.rule.head ≡ h.Choice choice → (item : ChoiceItem) → IsMember choice.items item
      → IsNumbered atoms item.atom × AllByRecursion IsNamed item.condition
  item_named at m choice e item k =
      let s = and_elim (list_all (is_sound_literal (length program.symbols) atoms variables) at.rule.body) (is_sound_head (length program.symbols) atoms variables program.ends at.rule.head) (sound program at m) in
      let i : list_all (is_sound_item atoms) choice.items ≡ true = subst (λ (head : GroundHead). is_sound_head (length program.symbols) atoms variables program.ends head ≡ true) e s.1 in
      let q = and_elim (is_number atoms item.atom) (list_all (is_sound_condition atoms) item.condition) (all_member (is_sound_item atoms) choice.items item i k) in
      (numbered_of atoms item.atom q.0, condition_named item.condition q.1)

  own_named : (at : Placed) → IsMember (placed 1 program.rules) at → AllByRecursion IsNamed at.rule.body
  own_named at m = property_from_members IsNamed at.rule.body (literal_named at m)

  further_named : (at : Placed) → IsMember (placed 1 program.rules) at → (head : GroundHead) → at.rule.head ≡ head → AllByRecursion (AllByRecursion IsNamed) (head_bodies at.rule.body head)
  further_named at m h.Nothing e = tt
  further_named at m (h.Atom a) e = tt
  further_named at m (h.Theory theory) e = tt
  further_named at m (h.Choice choice) e =
      all_append (AllByRecursion IsNamed) (map (element_body at.rule.body) choice.items) (cond (is_bounded choice) (map (selecting_body at.rule.body) choice.items) [])
      (all_map (AllByRecursion IsNamed) (element_body at.rule.body) choice.items element) (selects (is_bounded choice))
    where
      element : (item : ChoiceItem) → IsMember choice.items item → AllByRecursion IsNamed (element_body at.rule.body item)
      element item k = all_append IsNamed at.rule.body item.condition (own_named at m) (item_named at m choice e item k).1

      selects : (bounded : Bool) → AllByRecursion (AllByRecursion IsNamed) (cond bounded (map (selecting_body at.rule.body) choice.items) [])
      selects true =
          all_map (AllByRecursion IsNamed) (selecting_body at.rule.body) choice.items
          (λ item k. all_append IsNamed (at.rule.body ++ item.condition) (b.Atom item.atom true ∷ []) (element item k) ((item_named at m choice e item k).0, tt))
      selects false = tt

  conjunction_named : (body : List BodyLit) → AllByRecursion IsNamed body → AllByRecursion (IsOfBody program N) (conjunction_of cs variables body).lits
  conjunction_named body named = all_joined (IsOfBody program N) [] (map (lit_of cs variables) body) tt (each body named)
    where
      each : (xs : List BodyLit) → AllByRecursion IsNamed xs → AllByRecursion (IsOfBody program N) (map (lit_of cs variables) xs)
      each [] named = tt
      each (x ∷ xs) named = (named.0, each xs named.1)

  bodies_named : AllByRecursion (λ body. AllByRecursion (IsOfBody program N) body.lits) N.bodies
  bodies_named =
      all_map (λ body. AllByRecursion (IsOfBody program N) body.lits) (conjunction_of cs variables) (flat_map bodies_in program.rules)
      (λ body k.
      let f = flat_member bodies_in program.rules body k in
      let p = rule_placed 1 program.rules f.0 f.1 in
      conjunction_named body
      (property_member (AllByRecursion IsNamed) (bodies_in p.0.rule) body (own_named p.0 p.1, further_named p.0 p.1 p.0.rule.head refl) (subst (λ rule. IsMember (bodies_in rule) body) (sym p.2) f.2)))

  -- CONSTRAINTS

  items_named : (sum : List Term) → AllByRecursion (IsBacked program) sum → AllByRecursion (IsTermOver variables) sum → AllByRecursion (IsOfSum program N) (map (item_of cs) sum)
  items_named [] backed over = tt
  items_named (Variable x c ∷ sum) backed over = (over.0, items_named sum backed.1 over.1)
  items_named (Counted bodies c ∷ sum) backed over = (ap is_tally (constraint_at program (SomeTrue bodies) backed.0), items_named sum backed.1 over.1)

  places_named : (places : List Place) → AllByRecursion (IsPlaceOver variables) places → AllByRecursion (IsPlaceOf program) places
  places_named places over = property_map (IsPlaceOver variables) (IsPlaceOf program) (λ place is. is.pairs) places over

  sum_named : (sum : List Term) (k : ℤ) → has_content cs (SumAtMost sum k) ≡ true → is_at_most (numbered_in N.constraints (number_of cs (SumAtMost sum k))) ≡ true
  sum_named sum k there = ap is_at_most (constraint_at program (SumAtMost sum k) there)

  content_named : (content : Content) → IsMade program content → IsOver variables content → HasParts program N (constraint_of cs content)
  content_named (SumAtMost sum k) made over = items_named sum made.0 over
  content_named (SumEquals sum k) made over = (sum_named sum k made.0, sum_named (opposite sum) (neg_ℤ k) made.1)
  content_named (SumDiffers sum k) made over = (sum_named sum (k -ℤ pos 1) made.0, sum_named (opposite sum) (neg_ℤ k -ℤ pos 1) made.1)
  content_named (InSet x set) made over = over
  content_named (AllDiffer places) made over = places_named places over
  content_named (NoneOverlap places) made over = places_named places over
  content_named (SomeTrue bodies) made over = made

  constraints_named : AllByRecursion (HasParts program N) N.constraints
  constraints_named = all_map (HasParts program N) (constraint_of cs) cs (λ content m. content_named content (content_made program content m) (content_over program content m))

  -- SUPPORTS AND DUTIES

  element_atoms : (n : ℕ) (items : List ChoiceItem) → AllByRecursion (IsReadableItem atoms variables) items → AllByRecursion (λ support. IsNumbered atoms support.atom) (element_supports n items)
  element_atoms n [] is = tt
  element_atoms n (item ∷ items) is = (is.0.atom, element_atoms (n + 1) items is.1)

  head_atoms : (first : ℕ) (head : GroundHead) → IsReadableHead atoms variables head → AllByRecursion (λ support. IsNumbered atoms support.atom) (head_supports first head)
  head_atoms first h.Nothing is = tt
  head_atoms first (h.Atom a) is = (is, tt)
  head_atoms first (h.Theory theory) is = tt
  head_atoms first (h.Choice choice) is = element_atoms (first + 1) choice.items is

  support_named : (support : Support) → IsMember N.supports support → IsSupportOf program N support
  support_named support k =
      let f = flat_member (λ at. head_supports at.first at.rule.head) (placed 1 program.rules) support k in
      let w = support_way 1 program.rules support k in record {
        atom = property_member (λ support. IsNumbered atoms support.atom) (head_supports f.0.first f.0.rule.head) support (head_atoms f.0.first f.0.rule.head (readable program f.0 f.1).head) f.2;
        body = subst (IsNumbered (length N.bodies)) (sym w.4.body) (body_numbered program w.0 w.1 w.4.place w.2.body w.4.same);
      }

  duties_named : (at : Placed) → IsMember (placed 1 program.rules) at → (head : GroundHead) → at.rule.head ≡ head → AllByRecursion (IsDutyOf program N) (head_duties cs atoms variables at.first head)
  duties_named at m head same = go head same (subst (IsReadableHead atoms variables) same (readable program at m).head)
    where
      own : IsNumbered (length N.bodies) at.first
      own = subst (IsNumbered (length N.bodies)) (plus_zero at.first) (body_numbered program at m 0 at.rule.body refl)
        where
          plus_zero : (n : ℕ) → n + 0 ≡ n
          plus_zero n = omega arith

      known : (content : Content) → has_content cs content ≡ true → IsNumbered (length N.constraints) (number_of cs content)
      known content there = numbered_known N.constraints (number_of cs content) (constraint_of cs content) (constraint_at program content there)

      go : (head : GroundHead) → at.rule.head ≡ head → IsReadableHead atoms variables head → AllByRecursion (IsDutyOf program N) (head_duties cs atoms variables at.first head)
      go h.Nothing e is = (record { body = own; head = tt }, tt)
      go (h.Atom a) e is = (record { body = own; head = is }, tt)
      go (h.Theory theory) e is =
          (record { body = own; head = known (theory_content variables theory) (head_demand program at m (h.Theory theory) e (theory_content variables theory) (inl refl)) }, tt)
      go (h.Choice choice) e is =
          all_map (IsDutyOf program N) (λ bound. record {
            body = at.first;
            head = Some (Rattle.literals.specs.declared.lit.Lit.TheVariants.Constraint (number_of cs (bound_content (selections atoms at.first choice.items) bound)) true);
          }) (bounds_of choice)
          (λ bound k. record {
            body = own;
            head = known (bound_content (selections atoms at.first choice.items) bound) (head_demand program at m (h.Choice choice) e (bound_content (selections atoms at.first choice.items) bound)
                (bound_demand program (selections atoms at.first choice.items) (bounds_of choice) bound k (bound_content (selections atoms at.first choice.items) bound) (inr (inl refl))));
          })

pub parts_law : PartsLaw
parts_law program = record {
  bodies = bodies_named program;
  constraints = constraints_named program;
  supports = property_from_members (IsSupportOf program (numbering program)) (numbering program).supports (support_named program);
  duties =
      all_flat (IsDutyOf program (numbering program)) (λ at. head_duties (contents_in program) (length program.atoms) (length program.variables) at.first at.rule.head) (placed 1 program.rules)
      (λ at m. duties_named program at m at.rule.head refl);
}
