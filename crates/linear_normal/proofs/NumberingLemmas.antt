-- The loop over rules, and what it ends in.
use Rattle.std.proofs.Common.{◌≡◌, ℕ, ◌+◌, ◌<◌, ◌≤◌, ◌^◌, true, List, [], ◌∷◌, ◌++◌, map, length, drop, get_or, fold, flat_map, refl, sym, ◌∙◌, ap, subst, true≢false, append-nil, append_assoc, length-append, drop_of_length-le, arith}
use Rattle.std.specs.List.{AllByRecursion, list_all}
use Rattle.std.proofs.lemmas.List.{map-append, length-map}
use Rattle.symbols.specs.declared.ends.Ends.{Ends}
use Rattle.ground_model.specs.declared.linear.Linear.{Linear}
use Rattle.ground_model.specs.declared.rule.BodyLit.{BodyLit}
use Rattle.ground_model.specs.declared.rule.BodyLit.TheVariants as b
use Rattle.ground_model.specs.declared.rule.ChoiceItem.{ChoiceItem}
use Rattle.ground_model.specs.declared.rule.GroundHead.{GroundHead}
use Rattle.ground_model.specs.declared.rule.GroundHead.TheVariants as h
use Rattle.ground_model.specs.declared.rule.GroundRule.{GroundRule}
use Rattle.ground_model.specs.declared.program.GroundProgram.{GroundProgram}
use Rattle.ground_model.specs.Sound.{is_number, is_sound_literal, is_sound_condition, is_sound_item, is_sound_head, is_sound_rule}
use Rattle.ground_model.proofs.Bools.{and_elim}
use Rattle.ground_model.proofs.SizeLemmas.{number_of as numbered_of}
use Rattle.ground_model.proofs.Products.{drop_next}
use Rattle.linear_normal.specs.declared.constraint.Constraint.{Constraint}
use Rattle.linear_normal.specs.declared.numbered.Conjunction.{Conjunction}
use Rattle.linear_normal.specs.declared.numbered.Support.{Support}
use Rattle.linear_normal.specs.declared.numbered.Duty.{Duty}
use Rattle.linear_normal.specs.declared.numbered.Numbered.{Numbered}
use Rattle.linear_normal.specs.Contents.{Content}
use Rattle.linear_normal.specs.Bodies.{bodies_in, placed}
use Rattle.linear_normal.specs.Demands.{with_content, rule_demands}
use Rattle.linear_normal.specs.Numbering.{constraint_of, conjunction_of, head_supports, head_duties, objective_in, contents_in, numbering}
use Rattle.linear_normal.specs.inner.Tables.{Begins, IsTable, Gives, IsSoundLiteral, IsSoundItem, IsCountedAtom, IsSoundHead, IsSoundRule, HasAtoms, HasAtomsIn, AddsRule}
use Rattle.linear_normal.proofs.TableLemmas.{begins_same, begins_then, begins_fold}
use Rattle.linear_normal.proofs.GrowthLemmas.{fold_append, all_at}

-- SOUND RULES

counted : (atoms a : ℕ) → is_number atoms a ≡ true → 1 ≤ a
counted atoms a e = let above = (numbered_of atoms a e).above in omega (arith, above)

sound_literals : (symbols atoms variables : ℕ) (body : List BodyLit) → list_all (is_sound_literal symbols atoms variables) body ≡ true → AllByRecursion (IsSoundLiteral variables) body
sound_literals symbols atoms variables [] e = tt
sound_literals symbols atoms variables (b.Atom a sign ∷ body) e =
    let p = and_elim (is_number atoms a) (list_all (is_sound_literal symbols atoms variables) body) e in
    (counted atoms a p.0, sound_literals symbols atoms variables body p.1)
sound_literals symbols atoms variables (b.Theory relation sign ∷ body) e =
    let p = and_elim (is_sound_literal symbols atoms variables (b.Theory relation sign)) (list_all (is_sound_literal symbols atoms variables) body) e in
    ((symbols, p.0), sound_literals symbols atoms variables body p.1)

sound_condition : (atoms : ℕ) (condition : List BodyLit) → list_all (is_sound_condition atoms) condition ≡ true → AllByRecursion IsCountedAtom condition
sound_condition atoms [] e = tt
sound_condition atoms (b.Atom a sign ∷ condition) e =
    let p = and_elim (is_number atoms a) (list_all (is_sound_condition atoms) condition) e in
    (counted atoms a p.0, sound_condition atoms condition p.1)
sound_condition atoms (b.Theory relation sign ∷ condition) e = absurd (true≢false (sym e))

sound_items : (atoms : ℕ) (items : List ChoiceItem) → list_all (is_sound_item atoms) items ≡ true → AllByRecursion IsSoundItem items
sound_items atoms [] e = tt
sound_items atoms (item ∷ items) e =
    let p = and_elim (is_sound_item atoms item) (list_all (is_sound_item atoms) items) e in
    let q = and_elim (is_number atoms item.atom) (list_all (is_sound_condition atoms) item.condition) p.0 in
    (record { atom = counted atoms item.atom q.0; condition = sound_condition atoms item.condition q.1 }, sound_items atoms items p.1)

has_atoms : (atoms : ℕ) (items : List ChoiceItem) → list_all (is_sound_item atoms) items ≡ true → HasAtoms atoms items
has_atoms atoms [] e = tt
has_atoms atoms (item ∷ items) e =
    let p = and_elim (is_sound_item atoms item) (list_all (is_sound_item atoms) items) e in
    let q = and_elim (is_number atoms item.atom) (list_all (is_sound_condition atoms) item.condition) p.0 in
    (numbered_of atoms item.atom q.0, has_atoms atoms items p.1)

sound_head : (symbols atoms variables : ℕ) (ends : Ends) (head : GroundHead) → is_sound_head symbols atoms variables ends head ≡ true → IsSoundHead variables head × HasAtomsIn atoms head
sound_head symbols atoms variables ends h.Nothing e = (tt, tt)
sound_head symbols atoms variables ends (h.Atom a) e = (counted atoms a e, tt)
sound_head symbols atoms variables ends (h.Theory theory) e = ((symbols, ends, e), tt)
sound_head symbols atoms variables ends (h.Choice choice) e = (sound_items atoms choice.items e, has_atoms atoms choice.items e)

pub sound_rules : (symbols atoms variables : ℕ) (ends : Ends) (rules : List GroundRule) → list_all (is_sound_rule symbols atoms variables ends) rules ≡ true
    → AllByRecursion (λ rule. IsSoundRule variables rule × HasAtomsIn atoms rule.head) rules
sound_rules symbols atoms variables ends [] e = tt
sound_rules symbols atoms variables ends (rule ∷ rules) e =
    let p = and_elim (is_sound_rule symbols atoms variables ends rule) (list_all (is_sound_rule symbols atoms variables ends) rules) e in
    let q = and_elim (list_all (is_sound_literal symbols atoms variables) rule.body) (is_sound_head symbols atoms variables ends rule.head) p.0 in
    let head = sound_head symbols atoms variables ends rule.head q.1 in
    ((record { body = sound_literals symbols atoms variables rule.body q.0; head = head.0 }, head.1), sound_rules symbols atoms variables ends rules p.1)

-- THE LOOP

module _ (atoms variables : ℕ) where
  abbrev demands_from : ℕ → List GroundRule → List Content
  demands_from first rules = flat_map (rule_demands atoms variables) (placed first rules)

  abbrev duties_from : List Content → ℕ → List GroundRule → List Duty
  duties_from later first rules = flat_map (λ at. head_duties later atoms variables at.first at.rule.head) (placed first rules)

  abbrev supports_from : ℕ → List GroundRule → List Support
  supports_from first rules = flat_map (λ at. head_supports at.first at.rule.head) (placed first rules)

  abbrev conjunctions : List Content → List GroundRule → List Conjunction
  conjunctions later rules = map (conjunction_of later variables) (flat_map bodies_in rules)

  -- so far, where these rules are left
  pub record IsPart (rules left : List GroundRule) (keys : List Constraint) (made : List Conjunction) (given : List Support) (due : List Duty) : Type 0 where
    pub demands : List Content
    pub all : demands ++ demands_from (length made + 1) left ≡ demands_from 1 rules
    pub table : IsTable (fold with_content [] demands) keys
    pub bodies : (later : List Content) → Begins (fold with_content [] demands) later → made ++ conjunctions later left ≡ conjunctions later rules
    pub duties : (later : List Content) → Begins (fold with_content [] demands) later → due ++ duties_from later (length made + 1) left ≡ duties_from later 1 rules
    pub supports : given ++ supports_from (length made + 1) left ≡ supports_from 1 rules

  pub part_first : (rules : List GroundRule) → IsPart rules rules [] [] [] []
  part_first rules = record {
    demands = [];
    all = refl;
    table = record { keys = record { same = refl; backed = tt }; few = few };
    bodies = λ later begins. refl;
    duties = λ later begins. refl;
    supports = refl;
  }
    where
      few : 0 < 2 ^ 32
      few = omega arith

  module _ (rules left rest : List GroundRule) (rule : GroundRule) (keys after : List Constraint) (made new_made : List Conjunction) (given new_given : List Support) (due new_due : List Duty)
      (split : left ≡ rule ∷ rest) (part : IsPart rules left keys made given due)
      (gives : Gives keys after (rule_demands atoms variables (record { first = length made + 1; rule = rule })) (λ later. AddsRule later atoms variables rule made new_made due new_due))
      (supported : new_given ≡ given ++ head_supports (length made + 1) rule.head) where
    abbrev here : List Content
    here = rule_demands atoms variables (record { first = length made + 1; rule = rule })

    abbrev before : List Content
    before = fold with_content [] part.demands

    abbrev contents : List Content
    contents = fold with_content [] (part.demands ++ here)

    grown : contents ≡ fold with_content before here
    grown = fold_append [] part.demands here

    table_then : IsTable contents after
    table_then = subst (λ xs. IsTable xs after) (sym grown) (gives.table before part.table)

    adds : (later : List Content) → Begins contents later → AddsRule later atoms variables rule made new_made due new_due
    adds later begins = gives.holds before part.table later (subst (λ xs. Begins xs later) grown begins)

    earlier : (later : List Content) → Begins contents later → Begins before later
    earlier later begins = begins_then before contents later (subst (Begins before) (sym grown) (begins_fold before here)) begins

    -- the next rule's bodies come next
    next_place : (length made + 1) + length (bodies_in rule) ≡ length new_made + 1
    next_place =
        let e = ap length (adds contents (begins_same contents)).bodies ∙ length-append made (map (conjunction_of contents variables) (bodies_in rule)) in
        let m = length-map (bodies_in rule) (conjunction_of contents variables) in
        omega (arith, e, m)

    pub part_next : IsPart rules rest after new_made new_given new_due
    part_next = record {
      demands = part.demands ++ here;
      all =
          append_assoc part.demands here (demands_from (length new_made + 1) rest)
          ∙ ap (λ n. part.demands ++ (here ++ demands_from n rest)) (sym next_place)
          ∙ ap (λ xs. part.demands ++ demands_from (length made + 1) xs) (sym split)
          ∙ part.all;
      table = table_then;
      bodies = λ later begins.
          ap (λ xs. xs ++ conjunctions later rest) (adds later begins).bodies
          ∙ append_assoc made (map (conjunction_of later variables) (bodies_in rule)) (conjunctions later rest)
          ∙ ap (λ xs. made ++ xs) (sym (map-append (conjunction_of later variables) (bodies_in rule) (flat_map bodies_in rest)))
          ∙ ap (λ xs. made ++ conjunctions later xs) (sym split)
          ∙ part.bodies later (earlier later begins);
      duties = λ later begins.
          ap (λ xs. xs ++ duties_from later (length new_made + 1) rest) (adds later begins).duties
          ∙ append_assoc due (head_duties later atoms variables (length made + 1) rule.head) (duties_from later (length new_made + 1) rest)
          ∙ ap (λ n. due ++ (head_duties later atoms variables (length made + 1) rule.head ++ duties_from later n rest)) (sym next_place)
          ∙ ap (λ xs. due ++ duties_from later (length made + 1) xs) (sym split)
          ∙ part.duties later (earlier later begins);
      supports =
          ap (λ xs. xs ++ supports_from (length new_made + 1) rest) supported
          ∙ append_assoc given (head_supports (length made + 1) rule.head) (supports_from (length new_made + 1) rest)
          ∙ ap (λ n. given ++ (head_supports (length made + 1) rule.head ++ supports_from n rest)) (sym next_place)
          ∙ ap (λ xs. given ++ supports_from (length made + 1) xs) (sym split)
          ∙ part.supports;
    }

-- THE END

module _ (program : GroundProgram) (left : List GroundRule) (keys constraints : List Constraint) (made : List Conjunction) (given : List Support) (due : List Duty) (objective : Linear)
    (none : left ≡ []) (part : IsPart (length program.atoms) (length program.variables) program.rules left keys made given due) (listed : constraints ≡ keys)
    (minimised : objective ≡ objective_in (length program.variables) program.smaller program.larger) where
  abbrev done : List Content
  done = fold with_content [] part.demands

  abbrev all_demands : List Content
  all_demands = demands_from (length program.atoms) (length program.variables) 1 program.rules

  whole : part.demands ≡ all_demands
  whole =
      sym (append-nil part.demands)
      ∙ ap (λ xs. part.demands ++ demands_from (length program.atoms) (length program.variables) (length made + 1) xs) (sym none)
      ∙ part.all

  same_contents : done ≡ contents_in program
  same_contents = ap (fold with_content []) whole

  begun : Begins done (contents_in program)
  begun = subst (Begins done) same_contents (begins_same done)

  pub few_constraints : length constraints < 2 ^ 32
  few_constraints = subst (λ xs. length xs < 2 ^ 32) (sym listed) part.table.few

  constraints_are : constraints ≡ map (constraint_of (contents_in program)) (contents_in program)
  constraints_are = listed ∙ part.table.keys.same ∙ ap (λ xs. map (constraint_of xs) xs) same_contents

  bodies_are : made ≡ map (conjunction_of (contents_in program) (length program.variables)) (flat_map bodies_in program.rules)
  bodies_are =
      sym (append-nil made) ∙ ap (λ xs. made ++ conjunctions (length program.atoms) (length program.variables) (contents_in program) xs) (sym none) ∙ part.bodies (contents_in program) begun

  duties_are : due ≡ duties_from (length program.atoms) (length program.variables) (contents_in program) 1 program.rules
  duties_are =
      sym (append-nil due) ∙ ap (λ xs. due ++ duties_from (length program.atoms) (length program.variables) (contents_in program) (length made + 1) xs) (sym none) ∙ part.duties (contents_in program) begun

  supports_are : given ≡ supports_from (length program.atoms) (length program.variables) 1 program.rules
  supports_are =
      sym (append-nil given) ∙ ap (λ xs. given ++ supports_from (length program.atoms) (length program.variables) (length made + 1) xs) (sym none) ∙ part.supports

  made_record : Numbered
  made_record = record { constraints = constraints; bodies = made; supports = given; duties = due; objective = objective }

pub numbering_is : (program : GroundProgram) (left : List GroundRule) (keys constraints : List Constraint) (made : List Conjunction) (given : List Support) (due : List Duty) (objective : Linear)
    → left ≡ [] → IsPart (length program.atoms) (length program.variables) program.rules left keys made given due → constraints ≡ keys
    → objective ≡ objective_in (length program.variables) program.smaller program.larger
    → record { constraints = constraints; bodies = made; supports = given; duties = due; objective = objective } ≡ numbering program
numbering_is program left keys constraints made given due objective none part listed minimised = λ i. record {
  constraints = constraints_are program left keys constraints made given due objective none part listed minimised i;
  bodies = bodies_are program left keys constraints made given due objective none part listed minimised i;
  supports = supports_are program left keys constraints made given due objective none part listed minimised i;
  duties = duties_are program left keys constraints made given due objective none part listed minimised i;
  objective = minimised i;
}

pub rule_at : (variables atoms count : ℕ) (rules : List GroundRule) (i : ℕ) (d rule : GroundRule) → AllByRecursion (λ rule. IsSoundRule variables rule × HasAtomsIn atoms rule.head) rules → i < length rules
    → rule ≡ get_or rules i d → count ≡ variables → IsSoundRule count rule × HasAtomsIn atoms rule.head
rule_at variables atoms count rules i d rule sound below is same =
    subst (λ n. IsSoundRule n rule × HasAtomsIn atoms rule.head) (sym same)
    (subst (λ (r : GroundRule). IsSoundRule variables r × HasAtomsIn atoms r.head) (sym is) (all_at (λ rule. IsSoundRule variables rule × HasAtomsIn atoms rule.head) rules i d sound below))

pub left_at : (rules : List GroundRule) (i : ℕ) (d rule : GroundRule) → i < length rules → rule ≡ get_or rules i d → drop i rules ≡ rule ∷ drop (i + 1) rules
left_at rules i d rule below is = drop_next rules i d below ∙ ap (λ r. r ∷ drop (i + 1) rules) (sym is)

pub left_end : (rules : List GroundRule) (i : ℕ) → length rules ≤ i → drop i rules ≡ []
left_end rules i end = drop_of_length-le rules end

pub part_started : (atoms variables : ℕ) (rules : List GroundRule) (keys : List Constraint) (made : List Conjunction) (given : List Support) (due : List Duty) → keys ≡ [] → made ≡ [] → given ≡ [] → due ≡ []
    → IsPart atoms variables rules rules keys made given due
part_started atoms variables rules keys made given due k m g d =
    subst (λ xs. IsPart atoms variables rules rules xs made given due) (sym k)
    (subst (λ xs. IsPart atoms variables rules rules [] xs given due) (sym m)
    (subst (λ xs. IsPart atoms variables rules rules [] [] xs due) (sym g)
    (subst (λ xs. IsPart atoms variables rules rules [] [] [] xs) (sym d) (part_first atoms variables rules))))

-- the step, where the code counts the variables
pub part_then : (atoms variables count : ℕ) (rules left rest : List GroundRule) (rule : GroundRule) (keys after : List Constraint) (made new_made : List Conjunction) (given new_given : List Support) (due new_due : List Duty)
    → count ≡ variables → left ≡ rule ∷ rest → IsPart atoms variables rules left keys made given due
    → Gives keys after (rule_demands atoms count (record { first = length made + 1; rule = rule })) (λ later. AddsRule later atoms count rule made new_made due new_due)
    → new_given ≡ given ++ head_supports (length made + 1) rule.head → IsPart atoms variables rules rest after new_made new_given new_due
part_then atoms variables count rules left rest rule keys after made new_made given new_given due new_due same split part gives supported =
    part_next atoms variables rules left rest rule keys after made new_made given new_given due new_due split part
    (subst (λ n. Gives keys after (rule_demands atoms n (record { first = length made + 1; rule = rule })) (λ later. AddsRule later atoms n rule made new_made due new_due)) same gives) supported
