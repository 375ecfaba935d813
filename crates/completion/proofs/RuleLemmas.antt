-- Steps of the loop over rules.
use Rattle.std.proofs.Common.{◌≡◌, ℕ, zero, suc, ◌+◌, ◌≤◌, ◌<◌, ◌^◌, Bool, true, false, cond, inl, inr, Some, length-append, ◌==◌, ℤ, pos, neg_ℤ, ◌-ℤ◌, List, [], ◌∷◌, ◌++◌, map, length, take, drop, flat_map, refl, sym, ◌∙◌, ap, ap₂, subst, arith, All}
use Rattle.std.specs.List.{AllByRecursion}
use Rattle.std.proofs.lemmas.List.{map-append, length-map}
use Rattle.std.proofs.lemmas.List.Elements.{All-from_recursion, All-drop}
use Rattle.std.proofs.Math.Seq.{take-append_seam, drop-append_seam}
use Rattle.symbols.specs.declared.rel.Rel.{Rel}
use Rattle.symbols.specs.declared.rel.Rel.TheVariants.{Equal, NotEqual, Less, LessEqual, Greater, GreaterEqual}
use Rattle.literals.specs.declared.lit.Lit.{Lit}
use Rattle.literals.specs.declared.lit.Lit.TheVariants as l
use Rattle.literals.specs.Lits.{IsLit}
use Rattle.literals.proofs.Puts.{all_joined}
use Rattle.ground_model.specs.declared.rule.BodyLit.{BodyLit}
use Rattle.ground_model.specs.declared.rule.BodyLit.TheVariants as b
use Rattle.ground_model.specs.declared.rule.Bound.{Bound}
use Rattle.ground_model.specs.declared.rule.ChoiceItem.{ChoiceItem}
use Rattle.ground_model.specs.declared.rule.TheoryHead.{TheoryHead}
use Rattle.ground_model.specs.declared.rule.TheoryHead.TheVariants as t
use Rattle.ground_model.specs.declared.rule.GroundHead.{GroundHead}
use Rattle.ground_model.specs.declared.rule.GroundHead.TheVariants as h
use Rattle.ground_model.specs.declared.rule.GroundRule.{GroundRule}
use Rattle.ground_model.specs.declared.program.GroundProgram.{GroundProgram}
use Rattle.ground_model.specs.Members.{IsMember}
use Rattle.ground_model.specs.Sound.{first_places, total_constant}
use Rattle.ground_model.specs.Sizes.{IsReadable, IsReadableItem, IsReadableHead, IsReadableRule}
use Rattle.ground_model.proofs.MemberLemmas.{property_member, property_map, map_member}
use Rattle.ground_model.proofs.SizeLemmas.{readable_rules}
use Rattle.ground_model.proofs.WayLemmas.{flat_member}
use Rattle.linear_normal.specs.declared.numbered.Conjunction.{Conjunction}
use Rattle.linear_normal.specs.declared.numbered.Duty.{Duty}
use Rattle.linear_normal.specs.declared.numbered.Numbered.{Numbered}
use Rattle.linear_normal.specs.Contents.{Term, Counted, Content, SumAtMost, SumEquals, SumDiffers, InSet, AllDiffer, NoneOverlap, SomeTrue, opposite, compared, same_content}
use Rattle.linear_normal.specs.Bodies.{element_body, selecting_body, is_bounded, head_bodies, bodies_in, Placed, placed, numbers_with, atoms_in, selections}
use Rattle.linear_normal.specs.Demands.{moved_pairs, terms_of, relation_content, theory_content, bound_content, bounds_of, with_parts, literal_demands, choice_demands, head_demands, rule_demands, number_of}
use Rattle.linear_normal.specs.Numbering.{constraint_of, lit_of, conjunction_of, element_supports, head_supports, head_duties, contents_in, numbering}
use Rattle.linear_normal.proofs.ContentLemmas.{only_demanded}
use Rattle.linear_normal.proofs.BodyLemmas.{placed_rule}
use Rattle.linear_normal.proofs.ListLemmas.{all_append, all_flat, all_map}
use Rattle.completion.specs.Inputs.{bodies_nogoods, duty_nogood, rule_nogoods}
use Rattle.completion.specs.inner.Parts.{IsConjunction, IsDuty, IsParted, IsSupport, duty_count_of}

-- WELL FORMED LITERALS

pub number_counted : (contents : List Content) (content : Content) → 1 ≤ number_of contents content
number_counted [] content = omega arith
number_counted (c ∷ contents) content = go (same_content c content) (number_counted contents content)
  where
    go : (t : Bool) → 1 ≤ number_of contents content → 1 ≤ cond t 1 (number_of contents content + 1)
    go true h = omega arith
    go false h = omega (arith, h)

module _ (program : GroundProgram) where
  abbrev atoms : ℕ
  atoms = length program.atoms

  abbrev variables : ℕ
  variables = length program.variables

  abbrev cs : List Content
  cs = contents_in program

  lit_known : (literal : BodyLit) → IsReadable atoms variables literal → IsLit (lit_of cs variables literal)
  lit_known (b.Atom a sign) is = let above = is.above in omega (arith, above)
  lit_known (b.Theory relation sign) is = number_counted cs (relation_content variables relation)

  -- a property of the literals of readable bodies holds of sorted bodies too
  body_has : (P : Lit → Type 0) → ((literal : BodyLit) → IsReadable atoms variables literal → P (lit_of cs variables literal)) → (body : List BodyLit) → AllByRecursion (IsReadable atoms variables) body → AllByRecursion P (conjunction_of cs variables body).lits
  body_has P f body is = all_joined P [] (map (lit_of cs variables) body) tt (each body is)
    where
      each : (xs : List BodyLit) → AllByRecursion (IsReadable atoms variables) xs → AllByRecursion P (map (lit_of cs variables) xs)
      each [] is = tt
      each (x ∷ xs) is = (f x is.0, each xs is.1)

  append_known : (xs ys : List BodyLit) → AllByRecursion (IsReadable atoms variables) xs → AllByRecursion (IsReadable atoms variables) ys → AllByRecursion (IsReadable atoms variables) (xs ++ ys)
  append_known [] ys p q = q
  append_known (x ∷ xs) ys p q = (p.0, append_known xs ys p.1 q)

  rule_bodies_known : (rule : GroundRule) → IsReadableRule atoms variables rule → (body : List BodyLit) → IsMember (bodies_in rule) body → AllByRecursion (IsReadable atoms variables) body
  rule_bodies_known rule is body (inl e) = subst (AllByRecursion (IsReadable atoms variables)) (sym e) is.body
  rule_bodies_known rule is body (inr m) = go rule.head is.head m
    where
      go : (head : GroundHead) → IsReadableHead atoms variables head → IsMember (head_bodies rule.body head) body → AllByRecursion (IsReadable atoms variables) body
      go h.Nothing is m = absurd m
      go (h.Atom a) is m = absurd m
      go (h.Theory theory) is m = absurd m
      go (h.Choice choice) items m = both (map (element_body rule.body) choice.items) elements m
        where
          elements : (x : List BodyLit) → IsMember (map (element_body rule.body) choice.items) x → AllByRecursion (IsReadable atoms variables) x
          elements x k =
              let f = map_member (element_body rule.body) choice.items x k in
              subst (AllByRecursion (IsReadable atoms variables)) (sym f.2) (append_known rule.body f.0.condition is.body (property_member (IsReadableItem atoms variables) choice.items f.0 items f.1).condition)

          selects : (x : List BodyLit) → IsMember (map (selecting_body rule.body) choice.items) x → AllByRecursion (IsReadable atoms variables) x
          selects x k =
              let f = map_member (selecting_body rule.body) choice.items x k in
              let i = property_member (IsReadableItem atoms variables) choice.items f.0 items f.1 in
              subst (AllByRecursion (IsReadable atoms variables)) (sym f.2)
              (append_known (rule.body ++ f.0.condition) (b.Atom f.0.atom true ∷ []) (append_known rule.body f.0.condition is.body i.condition) (i.atom, tt))

          pick : (t : Bool) → IsMember (cond t (map (selecting_body rule.body) choice.items) []) body → AllByRecursion (IsReadable atoms variables) body
          pick true m = selects body m
          pick false m = absurd m

          both : (xs : List (List BodyLit)) → ((x : List BodyLit) → IsMember xs x → AllByRecursion (IsReadable atoms variables) x)
              → IsMember (xs ++ cond (is_bounded choice) (map (selecting_body rule.body) choice.items) []) body → AllByRecursion (IsReadable atoms variables) body
          both [] f m = pick (is_bounded choice) m
          both (x ∷ xs) f (inl e) = f body (inl e)
          both (x ∷ xs) f (inr m) = both xs (λ y k. f y (inr k)) m

  rules_known : AllByRecursion (IsReadableRule atoms variables) program.rules
  rules_known = readable_rules (length program.symbols) atoms variables program.ends program.rules program.sound_rules

  pub bodies_have : (P : Lit → Type 0) → ((literal : BodyLit) → IsReadable atoms variables literal → P (lit_of cs variables literal)) → AllByRecursion (λ conjunction. AllByRecursion P conjunction.lits) (numbering program).bodies
  bodies_have P f =
      all_map (λ conjunction. AllByRecursion P conjunction.lits) (conjunction_of cs variables) (flat_map bodies_in program.rules)
      (λ body m.
      let r = flat_member bodies_in program.rules body m in
      body_has P f body (rule_bodies_known r.0 (property_member (IsReadableRule atoms variables) program.rules r.0 rules_known r.1) body r.2))

  bodies_known : All IsConjunction (numbering program).bodies
  bodies_known =
      All-from_recursion IsConjunction (numbering program).bodies
      (property_map (λ conjunction. AllByRecursion IsLit conjunction.lits) IsConjunction (λ conjunction. All-from_recursion IsLit conjunction.lits) (numbering program).bodies (bodies_have IsLit lit_known))

  placed_counted : (start : ℕ) (rules : List GroundRule) (at : Placed) → 1 ≤ start → IsMember (placed start rules) at → 1 ≤ at.first
  placed_counted start [] at s m = absurd m
  placed_counted start (rule ∷ rules) at s (inl e) = subst (λ (p : Placed). 1 ≤ p.first) (sym e) s
  placed_counted start (rule ∷ rules) at s (inr m) = placed_counted (start + length (bodies_in rule)) rules at (omega (arith, s)) m

  duty_known : (first : ℕ) (head : GroundHead) → 1 ≤ first → IsReadableHead atoms variables head → AllByRecursion IsDuty (head_duties cs atoms variables first head)
  duty_known first h.Nothing s is = ((s, tt), tt)
  duty_known first (h.Atom a) s is = ((s, (let above = is.above in omega (arith, above))), tt)
  duty_known first (h.Theory theory) s is = ((s, number_counted cs (theory_content variables theory)), tt)
  duty_known first (h.Choice choice) s is = each (bounds_of choice)
    where
      each : (bounds : List Bound) → AllByRecursion IsDuty (map (λ bound. record {
        body = first;
        head = Some (l.Constraint (number_of cs (bound_content (selections atoms first choice.items) bound)) true);
      }) bounds)
      each [] = tt
      each (x ∷ bounds) = ((s, number_counted cs (bound_content (selections atoms first choice.items) x)), each bounds)

  -- the duties of a placed rule
  abbrev pub duties_at : Placed → List Duty
  duties_at at = head_duties cs atoms variables at.first at.rule.head

  pub duties_known : All IsDuty (flat_map duties_at (placed 1 program.rules))
  duties_known =
      All-from_recursion IsDuty (flat_map duties_at (placed 1 program.rules)) (all_flat IsDuty duties_at (placed 1 program.rules)
      (λ at m. duty_known at.first at.rule.head (placed_counted 1 program.rules at (omega arith) m)
      (property_member (IsReadableRule atoms variables) program.rules at.rule rules_known (placed_rule 1 program.rules at m)).head))

  -- ONE MORE RULE

  pub duties_length : (first : ℕ) (head : GroundHead) → length (head_duties cs atoms variables first head) ≡ duty_count_of head
  duties_length first h.Nothing = refl
  duties_length first (h.Atom a) = refl
  duties_length first (h.Theory theory) = refl
  duties_length first (h.Choice choice) = length-map (bounds_of choice) (λ bound. record {
    body = first;
    head = Some (l.Constraint (number_of cs (bound_content (selections atoms first choice.items) bound)) true);
  })

  -- what the loop keeps, with the rules that are left
  pub record IsLeft (bodies : List Conjunction) (duties : List Duty) (first : ℕ) (so_far whole : List (List Lit)) (rules : List GroundRule) : Type 0 where
    pub bodies_left : bodies ≡ map (conjunction_of cs variables) (flat_map bodies_in rules)
    pub duties_left : duties ≡ flat_map duties_at (placed first rules)
    pub known_bodies : All IsConjunction bodies
    pub known_duties : All IsDuty duties
    pub counted : 1 ≤ first
    pub fits : first + length bodies ≤ 2 ^ 32
    pub nogoods : so_far ++ flat_map (rule_nogoods cs atoms variables) (placed first rules) ≡ whole

  -- at the start all rules are left
  pub left_first : (numbered : Numbered) → numbered ≡ numbering program → length numbered.bodies < 2 ^ 32 → (so_far : List (List Lit))
      → IsLeft numbered.bodies numbered.duties 1 so_far (so_far ++ flat_map (rule_nogoods cs atoms variables) (placed 1 program.rules)) program.rules
  left_first numbered same few so_far =
      subst (λ (n : Numbered). length n.bodies < 2 ^ 32 → IsLeft n.bodies n.duties 1 so_far (so_far ++ flat_map (rule_nogoods cs atoms variables) (placed 1 program.rules)) program.rules) (sym same) start few
    where
      start : length (numbering program).bodies < 2 ^ 32 → IsLeft (numbering program).bodies (numbering program).duties 1 so_far (so_far ++ flat_map (rule_nogoods cs atoms variables) (placed 1 program.rules)) program.rules
      start few = record {
        bodies_left = refl;
        duties_left = refl;
        known_bodies = bodies_known;
        known_duties = duties_known;
        counted = omega arith;
        fits = omega (arith, few);
        nogoods = refl;
      }

  module _ (rule : GroundRule) (rules : List GroundRule) (bodies : List Conjunction) (duties : List Duty) (first : ℕ) (so_far whole : List (List Lit)) (left : IsLeft bodies duties first so_far whole (rule ∷ rules)) where
    abbrev count : ℕ
    count = length (bodies_in rule)

    abbrev here : Placed
    here = record { first = first; rule = rule }

    split : bodies ≡ map (conjunction_of cs variables) (bodies_in rule) ++ map (conjunction_of cs variables) (flat_map bodies_in rules)
    split = left.bodies_left ∙ map-append (conjunction_of cs variables) (bodies_in rule) (flat_map bodies_in rules)

    own_length : length (map (conjunction_of cs variables) (bodies_in rule)) ≡ count
    own_length = length-map (bodies_in rule) (conjunction_of cs variables)

    pub enough_bodies : count ≤ length bodies
    enough_bodies =
        let e = ap length split ∙ length-append (map (conjunction_of cs variables) (bodies_in rule)) (map (conjunction_of cs variables) (flat_map bodies_in rules)) in
        let o = own_length in
        omega (arith, e, o)

    pub enough_duties : duty_count_of rule.head ≤ length duties
    enough_duties =
        let e = ap length left.duties_left ∙ length-append (duties_at here) (flat_map duties_at (placed (first + count) rules)) in
        let o = duties_length first rule.head in
        omega (arith, e, o)

    own : take count bodies ≡ map (conjunction_of cs variables) (bodies_in rule)
    own =
        ap (take count) split ∙ ap (λ n. take n (map (conjunction_of cs variables) (bodies_in rule) ++ map (conjunction_of cs variables) (flat_map bodies_in rules))) (sym own_length)
        ∙ take-append_seam (map (conjunction_of cs variables) (bodies_in rule)) (map (conjunction_of cs variables) (flat_map bodies_in rules))

    later : drop count bodies ≡ map (conjunction_of cs variables) (flat_map bodies_in rules)
    later =
        ap (drop count) split ∙ ap (λ n. drop n (map (conjunction_of cs variables) (bodies_in rule) ++ map (conjunction_of cs variables) (flat_map bodies_in rules))) (sym own_length)
        ∙ drop-append_seam (map (conjunction_of cs variables) (bodies_in rule)) (map (conjunction_of cs variables) (flat_map bodies_in rules))

    due : take (duty_count_of rule.head) duties ≡ duties_at here
    due =
        ap (take (duty_count_of rule.head)) left.duties_left ∙ ap (λ n. take n (duties_at here ++ flat_map duties_at (placed (first + count) rules))) (sym (duties_length first rule.head))
        ∙ take-append_seam (duties_at here) (flat_map duties_at (placed (first + count) rules))

    others : drop (duty_count_of rule.head) duties ≡ flat_map duties_at (placed (first + count) rules)
    others =
        ap (drop (duty_count_of rule.head)) left.duties_left ∙ ap (λ n. drop n (duties_at here ++ flat_map duties_at (placed (first + count) rules))) (sym (duties_length first rule.head))
        ∙ drop-append_seam (duties_at here) (flat_map duties_at (placed (first + count) rules))

    pub next : IsLeft (drop count bodies) (drop (duty_count_of rule.head) duties) (first + count)
        ((so_far ++ bodies_nogoods first (take count bodies)) ++ map duty_nogood (take (duty_count_of rule.head) duties)) whole rules
    next = record {
      bodies_left = later;
      duties_left = others;
      known_bodies = All-drop IsConjunction count bodies left.known_bodies;
      known_duties = All-drop IsDuty (duty_count_of rule.head) duties left.known_duties;
      counted = (let c = left.counted in omega (arith, c));
      fits =
          let f = left.fits in
          let e = ap length split ∙ length-append (map (conjunction_of cs variables) (bodies_in rule)) (map (conjunction_of cs variables) (flat_map bodies_in rules)) in
          let o = own_length in
          let d = ap length later in
          omega (arith, f, e, o, d);
      nogoods =
          ap₂ (λ xs ys. ((so_far ++ bodies_nogoods first xs) ++ map duty_nogood ys) ++ flat_map (rule_nogoods cs atoms variables) (placed (first + count) rules)) own due
          ∙ grouped so_far (bodies_nogoods first (map (conjunction_of cs variables) (bodies_in rule))) (map duty_nogood (duties_at here)) (flat_map (rule_nogoods cs atoms variables) (placed (first + count) rules))
          ∙ left.nogoods;
    }
      where
        grouped : {X : Type 0} (p q r s : List X) → ((p ++ q) ++ r) ++ s ≡ p ++ ((q ++ r) ++ s)
        grouped [] q r s = refl
        grouped (x ∷ p) q r s = ap (λ xs. x ∷ xs) (grouped p q r s)

-- one turn of the loop, in the code's words
pub left_step : (program : GroundProgram) (rule : GroundRule) (rules : List GroundRule) (bodies own later : List Conjunction) (duties due others : List Duty) (first bodies_here duties_here : ℕ) (so_far after done whole : List (List Lit))
    → IsLeft program bodies duties first so_far whole (rule ∷ rules)
    → bodies_here ≡ length (bodies_in rule) → duties_here ≡ duty_count_of rule.head
    → own ≡ take bodies_here bodies → later ≡ drop bodies_here bodies → due ≡ take duties_here duties → others ≡ drop duties_here duties
    → after ≡ so_far ++ bodies_nogoods first own → done ≡ after ++ map duty_nogood due
    → IsLeft program later others (first + length own) done whole rules
left_step program rule rules bodies own later duties due others first bodies_here duties_here so_far after done whole left eb ed eo el eu et ea en =
    let made = next program rule rules bodies duties first so_far whole left in
    let o : own ≡ take (length (bodies_in rule)) bodies = eo ∙ ap (λ n. take n bodies) eb in
    let r : later ≡ drop (length (bodies_in rule)) bodies = el ∙ ap (λ n. drop n bodies) eb in
    let u : due ≡ take (duty_count_of rule.head) duties = eu ∙ ap (λ n. take n duties) ed in
    let t : others ≡ drop (duty_count_of rule.head) duties = et ∙ ap (λ n. drop n duties) ed in
    let d : done ≡ (so_far ++ bodies_nogoods first (take (length (bodies_in rule)) bodies)) ++ map duty_nogood (take (duty_count_of rule.head) duties) =
    en ∙ ap₂ (λ xs ys. xs ++ map duty_nogood ys) (ea ∙ ap (λ xs. so_far ++ bodies_nogoods first xs) o) u in
    let l : length own ≡ length (bodies_in rule) = ap length o ∙ length_taken (length (bodies_in rule)) bodies (enough_bodies program rule rules bodies duties first so_far whole left) in
    subst (λ xs. IsLeft program xs others (first + length own) done whole rules) (sym r)
    (subst (λ xs. IsLeft program (drop (length (bodies_in rule)) bodies) xs (first + length own) done whole rules) (sym t)
    (subst (λ n. IsLeft program (drop (length (bodies_in rule)) bodies) (drop (duty_count_of rule.head) duties) (first + n) done whole rules) (sym l)
    (subst (λ xs. IsLeft program (drop (length (bodies_in rule)) bodies) (drop (duty_count_of rule.head) duties) (first + length (bodies_in rule)) xs whole rules) (sym d) made)))
  where
    length_taken : {X : Type 0} (n : ℕ) (xs : List X) → n ≤ length xs → length (take n xs) ≡ n
    length_taken zero xs h = refl
    length_taken (suc n) [] h = absurd (omega (arith, h))
    length_taken (suc n) (x ∷ xs) h = ap suc (length_taken n xs (omega (arith, h)))

-- WHAT A NUMBERING'S CONSTRAINTS AND SUPPORTS NAME

-- the bodies of a tally are numbered from 1 on
abbrev HasCounted : Content → Type 0
HasCounted (SomeTrue bodies) = AllByRecursion (λ b. 1 ≤ b) bodies
HasCounted content = Unit {0}

numbers_counted : (n : ℕ) (items : List ChoiceItem) (a : ℕ) → 1 ≤ n → AllByRecursion (λ b. 1 ≤ b) (numbers_with n items a)
numbers_counted n [] a h = tt
numbers_counted n (item ∷ items) a h = go (item.atom == a) (numbers_counted (n + 1) items a (omega (arith, h)))
  where
    go : (t : Bool) → AllByRecursion (λ b. 1 ≤ b) (numbers_with (n + 1) items a) → AllByRecursion (λ b. 1 ≤ b) (cond t (n ∷ numbers_with (n + 1) items a) (numbers_with (n + 1) items a))
    go true r = (h, r)
    go false r = r

compared_counted : (sum : List Term) (rel : Rel) (k : ℤ) → AllByRecursion HasCounted (with_parts (compared sum rel k))
compared_counted sum LessEqual k = (tt, tt)
compared_counted sum Less k = (tt, tt)
compared_counted sum GreaterEqual k = (tt, tt)
compared_counted sum Greater k = (tt, tt)
compared_counted sum Equal k = (tt, (tt, (tt, tt)))
compared_counted sum NotEqual k = (tt, (tt, (tt, tt)))

module _ (program : GroundProgram) where
  theory_counted : (theory : TheoryHead) → AllByRecursion HasCounted (with_parts (theory_content (length program.variables) theory))
  theory_counted (t.Relation relation) =
      compared_counted (terms_of (moved_pairs (length program.variables) (first_places relation.elements) (relation.right ∷ []))) relation.rel (relation.right.constant -ℤ total_constant (first_places relation.elements))
  theory_counted (t.Domain set x) = (tt, tt)
  theory_counted (t.Distinct places) = (tt, tt)
  theory_counted (t.Disjoint places) = (tt, tt)

  choice_counted : (selections : List (List ℕ)) → AllByRecursion (AllByRecursion (λ b. 1 ≤ b)) selections → (bounds : List Bound) → AllByRecursion HasCounted (choice_demands selections bounds)
  choice_counted selections s [] = tt
  choice_counted selections s (x ∷ bounds) =
      all_append HasCounted (map SomeTrue selections) (flat_map (λ bound. with_parts (bound_content selections bound)) (x ∷ bounds)) (tallies selections s)
      (all_flat HasCounted (λ bound. with_parts (bound_content selections bound)) (x ∷ bounds) (λ bound m. compared_counted (map (λ bodies. Counted bodies (pos 1)) selections) bound.rel bound.value))
    where
      tallies : (xs : List (List ℕ)) → AllByRecursion (AllByRecursion (λ b. 1 ≤ b)) xs → AllByRecursion HasCounted (map SomeTrue xs)
      tallies [] s = tt
      tallies (x ∷ xs) s = (s.0, tallies xs s.1)

  selections_counted : (first : ℕ) (items : List ChoiceItem) → AllByRecursion (AllByRecursion (λ b. 1 ≤ b)) (selections (length program.atoms) first items)
  selections_counted first items =
      all_map (AllByRecursion (λ b. 1 ≤ b)) (numbers_with (first + 1 + length items) items) (atoms_in (length program.atoms) items) (λ a m. numbers_counted (first + 1 + length items) items a (omega arith))

  demands_counted : (at : Placed) → AllByRecursion HasCounted (rule_demands (length program.atoms) (length program.variables) at)
  demands_counted at =
      all_append HasCounted (flat_map (literal_demands (length program.variables)) at.rule.body) (head_demands (length program.atoms) (length program.variables) at.first at.rule.head)
      (all_flat HasCounted (literal_demands (length program.variables)) at.rule.body (λ x m. literal x)) (head at.rule.head)
    where
      literal : (x : BodyLit) → AllByRecursion HasCounted (literal_demands (length program.variables) x)
      literal (b.Atom a sign) = tt
      literal (b.Theory relation sign) = theory_counted (t.Relation relation)

      head : (head : GroundHead) → AllByRecursion HasCounted (head_demands (length program.atoms) (length program.variables) at.first head)
      head h.Nothing = tt
      head (h.Atom a) = tt
      head (h.Theory theory) = theory_counted theory
      head (h.Choice choice) = choice_counted (selections (length program.atoms) at.first choice.items) (selections_counted at.first choice.items) (bounds_of choice)

  content_counted : (content : Content) → IsMember (contents_in program) content → HasCounted content
  content_counted =
      only_demanded [] (flat_map (rule_demands (length program.atoms) (length program.variables)) (placed 1 program.rules)) HasCounted (λ x m. absurd m)
      (λ x m. let f = flat_member (rule_demands (length program.atoms) (length program.variables)) (placed 1 program.rules) x m in
      property_member HasCounted (rule_demands (length program.atoms) (length program.variables) f.0) x (demands_counted f.0) f.2)

  parted : (content : Content) → HasCounted content → IsParted (constraint_of (contents_in program) content)
  parted (SumAtMost sum k) is = tt
  parted (SumEquals sum k) is = (number_counted (contents_in program) (SumAtMost sum k), number_counted (contents_in program) (SumAtMost (opposite sum) (neg_ℤ k)))
  parted (SumDiffers sum k) is = (number_counted (contents_in program) (SumAtMost sum (k -ℤ pos 1)), number_counted (contents_in program) (SumAtMost (opposite sum) (neg_ℤ k -ℤ pos 1)))
  parted (InSet x set) is = tt
  parted (AllDiffer places) is = tt
  parted (NoneOverlap places) is = tt
  parted (SomeTrue bodies) is = All-from_recursion (λ b. 1 ≤ b) bodies is

  constraints_parted : All IsParted (numbering program).constraints
  constraints_parted =
      All-from_recursion IsParted (numbering program).constraints (all_map IsParted (constraint_of (contents_in program)) (contents_in program) (λ content m. parted content (content_counted content m)))

  element_supported : (n : ℕ) (items : List ChoiceItem) → 1 ≤ n → AllByRecursion (IsReadableItem (length program.atoms) (length program.variables)) items → AllByRecursion (IsSupport (length program.atoms)) (element_supports n items)
  element_supported n [] h is = tt
  element_supported n (item ∷ items) h is = ((is.0.atom, h), element_supported (n + 1) items (omega (arith, h)) is.1)

  head_supported : (first : ℕ) (head : GroundHead) → 1 ≤ first → IsReadableHead (length program.atoms) (length program.variables) head → AllByRecursion (IsSupport (length program.atoms)) (head_supports first head)
  head_supported first h.Nothing s is = tt
  head_supported first (h.Atom a) s is = ((is, s), tt)
  head_supported first (h.Theory theory) s is = tt
  head_supported first (h.Choice choice) s is = element_supported (first + 1) choice.items (omega (arith, s)) is

  supports_known : All (IsSupport (length program.atoms)) (numbering program).supports
  supports_known =
      All-from_recursion (IsSupport (length program.atoms)) (numbering program).supports
      (all_flat (IsSupport (length program.atoms)) (λ at. head_supports at.first at.rule.head) (placed 1 program.rules)
      (λ at m. head_supported at.first at.rule.head (placed_counted program 1 program.rules at (omega arith) m)
      (property_member (IsReadableRule (length program.atoms) (length program.variables)) program.rules at.rule (rules_known program) (placed_rule 1 program.rules at m)).head))

pub known_constraints : (program : GroundProgram) (numbered : Numbered) → numbered ≡ numbering program → All IsParted numbered.constraints
known_constraints program numbered same = subst (λ (n : Numbered). All IsParted n.constraints) (sym same) (constraints_parted program)

pub known_supports : (program : GroundProgram) (numbered : Numbered) → numbered ≡ numbering program → All (IsSupport (length program.atoms)) numbered.supports
known_supports program numbered same = subst (λ (n : Numbered). All (IsSupport (length program.atoms)) n.supports) (sym same) (supports_known program)
