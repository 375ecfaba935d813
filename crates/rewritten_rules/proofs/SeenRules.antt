-- What is seen in literals, theory atoms, heads and rules.
use Rattle.std.proofs.Common.{◌≡◌, ◌⊎◌, ℕ, ◌+◌, Bool, true, false, ◌||◌, List, [], ◌∷◌, map, length, refl, sym, ◌∙◌, ap, subst, inl, inr, Option, None, Some}
use Rattle.std.specs.List.{AllByRecursion, list_any}
use Rattle.symbols.specs.declared.rel.Rel.{Rel}
use Rattle.syntax_tree.specs.declared.term.Term.{Term}
use Rattle.syntax_tree.specs.declared.literal.Guard.{Guard}
use Rattle.syntax_tree.specs.declared.literal.Literal.{Literal, roll-Literal}
use Rattle.syntax_tree.specs.declared.literal.Literal.TheOpen.{Literal-F, TheoryAtom-F, TheoryElement-F}
use Rattle.syntax_tree.specs.declared.literal.Literal.TheFolds.{ind-Literal, ind-TheoryAtom, map-Literal, map-TheoryAtom, map-TheoryElement}
use Rattle.syntax_tree.specs.declared.literal.Literal.TheVariants as l
use Rattle.syntax_tree.specs.declared.literal.TheoryAtom.{TheoryAtom, roll-TheoryAtom}
use Rattle.syntax_tree.specs.declared.literal.TheoryElement.{TheoryElement, roll-TheoryElement}
use Rattle.syntax_tree.specs.declared.rule.ChoiceElement.{ChoiceElement}
use Rattle.syntax_tree.specs.declared.rule.Choice.{Choice}
use Rattle.syntax_tree.specs.declared.rule.Head.{Head}
use Rattle.syntax_tree.specs.declared.rule.Head.TheVariants as head
use Rattle.syntax_tree.specs.declared.rule.Rule.{Rule}
use Rattle.ground_model.specs.Members.{IsMember}
use Rattle.ground_model.proofs.Bools.{or_elim, or_left, or_right}
use Rattle.rewriting.specs.Made.{both, each, maybe}
use Rattle.rewriting.specs.Rewritten.{term_made, guard_made, atom_made, Places, places_made, with_condition, literal_made, theory_made, element_made, choice_element_made, choice_made, head_made, parts_made, rewritten}
use Rattle.rewriting.proofs.Layers.{made-Atom, made-Compare, made-Theory, made-TheoryAtom, made-TheoryElement}
use Rattle.program_meaning.specs.Read.{literal_read, theory_read, choice_read, head_read, plains}
use Rattle.program_meaning.specs.Variables.{occurs, occurs_in, occurs_in_guard, occurs_in_option, occurs_in_element, occurs_in_choice}
use Rattle.safety_meaning.specs.Program.{rule_of}
use Rattle.rewritten_rules.specs.Within.{within_theory, within_literal, within_head, within_rule}
use Rattle.rewritten_rules.proofs.Reading.{element_read, read-Atom, read-Compare, read-Theory, read-TheoryAtom, read-TheoryElement}
use Rattle.rewritten_rules.proofs.Pieces.{seen, any_append, in_literal, stands, stands_plain, IsSeen, seen_same, seen_mapped, seen_atom, seen_closed, Sees, sees_both, sees_each, all_see, all_by, option_any, sees_maybe}
use Rattle.rewritten_rules.proofs.SeenTerms.{sees_term}

-- ---- guards and atoms
abbrev in_guard : ℕ → Guard → Bool
in_guard n guard = occurs n guard.right

sees_guard : (n : ℕ) (guard : Guard) → Sees n (in_guard n) (guard_made guard)
sees_guard n guard next =
    seen_mapped n (occurs n) (in_guard n) (λ right. record { rel = guard.rel; right = right }) next (term_made guard.right next) (λ h. h) ((sees_term n guard.right).0 next)

by_guard : (n : ℕ) (o : Option Guard) → occurs_in_guard n o ≡ true → option_any (in_guard n) o ≡ true
by_guard n None h = h
by_guard n (Some guard) h = h

sees_atom : (n : ℕ) (atom : Term) → Sees n (occurs n) (atom_made atom)
sees_atom n atom next = seen_atom n (occurs n) next (term_made atom next) ((sees_term n atom).0 next)

-- ---- literals
abbrev in_theory : ℕ → TheoryAtom → Bool
in_theory n theory = within_theory n (theory_read theory)

abbrev in_element : ℕ → TheoryElement → Bool
in_element n element = occurs_in_element n (element_read element)

abbrev SeesLiteral : ℕ → Literal → Type 0
SeesLiteral n literal = Sees n (in_literal n) (literal_made literal)

abbrev SeesTheory : ℕ → TheoryAtom → Type 0
SeesTheory n theory = Sees n (in_theory n) (theory_made theory)

abbrev SeesElement : ℕ → TheoryElement → Type 0
SeesElement n element = Sees n (in_element n) (element_made element)

see_literal_atom : (n : ℕ) (atom : Term) (sign : Bool) → SeesLiteral n (l.Atom atom sign)
see_literal_atom n atom sign next =
    subst (IsSeen n (in_literal n) next) (sym (made-Atom atom sign next))
    (seen_mapped n (occurs n) (in_literal n) (λ made. l.Atom made sign) next (atom_made atom next)
    (λ h. sym (ap (within_literal n) (read-Atom (atom_made atom next).made sign)) ∙ h) (sees_atom n atom next))

see_literal_compare : (n : ℕ) (left : Term) (rel : Rel) (right : Term) → SeesLiteral n (l.Compare left rel right)
see_literal_compare n left rel right next =
    subst (IsSeen n (in_literal n) next) (sym (made-Compare left rel right next))
    (sees_both n (occurs n) (occurs n) (in_literal n) (λ a b. l.Compare a rel b) (term_made left) (term_made right)
    (λ a b h. or_elim (occurs n a) (occurs n b) (sym (ap (within_literal n) (read-Compare a rel b)) ∙ h)) (sees_term n left).0 (sees_term n right).0 next)

see_literal_theory : (n : ℕ) (theory : TheoryAtom) (sign : Bool) → SeesTheory n theory → SeesLiteral n (l.Theory theory sign)
see_literal_theory n theory sign s next =
    subst (IsSeen n (in_literal n) next) (sym (made-Theory theory sign next))
    (seen_mapped n (in_theory n) (in_literal n) (λ made. l.Theory made sign) next (theory_made theory next)
    (λ h. sym (ap (within_literal n) (read-Theory (theory_made theory next).made sign)) ∙ h) (s next))

any_read : (n : ℕ) (elements : List TheoryElement) → list_any (occurs_in_element n) (map element_read elements) ≡ list_any (in_element n) elements
any_read n [] = refl
any_read n (element ∷ elements) = ap (λ b. in_element n element || b) (any_read n elements)

see_theory : (n : ℕ) (x : TheoryAtom-F Literal TheoryAtom TheoryElement) → AllByRecursion (SeesElement n) x.elements → SeesTheory n (roll-TheoryAtom x)
see_theory n x all next =
    subst (IsSeen n (in_theory n) next) (sym (made-TheoryAtom x next))
    (sees_both n (list_any (in_element n)) (option_any (in_guard n)) (in_theory n)
    (λ elements guard. roll-TheoryAtom (record { name = x.name; elements = elements; guard = guard })) (each (map element_made x.elements)) (maybe guard_made x.guard)
    back (sees_each n (in_element n) (map element_made x.elements) (all_see n (in_element n) element_made x.elements all))
    (sees_maybe n (in_guard n) guard_made x.guard (sees_guard n)) next)
  where
    back : (elements : List TheoryElement) (guard : Option Guard) → in_theory n (roll-TheoryAtom (record { name = x.name; elements = elements; guard = guard })) ≡ true
        → (list_any (in_element n) elements ≡ true) ⊎ (option_any (in_guard n) guard ≡ true)
    back elements guard h =
        by (or_elim (list_any (occurs_in_element n) (map element_read elements)) (occurs_in_guard n guard)
        (sym (ap (within_theory n) (read-TheoryAtom (record { name = x.name; elements = elements; guard = guard }))) ∙ h))
      where
        by : (list_any (occurs_in_element n) (map element_read elements) ≡ true) ⊎ (occurs_in_guard n guard ≡ true)
            → (list_any (in_element n) elements ≡ true) ⊎ (option_any (in_guard n) guard ≡ true)
        by (inl k) = inl (sym (any_read n elements) ∙ k)
        by (inr k) = inr (by_guard n guard k)

-- ---- elements
abbrev in_places : ℕ → Places → Bool
in_places n places = occurs n places.first || occurs_in_option n places.duration || list_any (occurs n) places.rest

by_option : (n : ℕ) (o : Option Term) → occurs_in_option n o ≡ true → option_any (occurs n) o ≡ true
by_option n None h = h
by_option n (Some term) h = h

sees_places : (n : ℕ) (first : Term) (duration : Option Term) (rest : List Term) → Sees n (in_places n) (places_made first duration rest)
sees_places n first duration rest =
    sees_both n (occurs n) more (in_places n) (λ first (more : Option Term × List Term). record { first = first; duration = more.0; rest = more.1 }) (term_made first)
    (both (λ duration rest. (duration, rest)) (maybe term_made duration) (each (map term_made rest))) back (sees_term n first).0
    (sees_both n (option_any (occurs n)) (list_any (occurs n)) more (λ duration rest. (duration, rest)) (maybe term_made duration) (each (map term_made rest)) further
    (sees_maybe n (occurs n) term_made duration (λ term. (sees_term n term).0))
    (sees_each n (occurs n) (map term_made rest) (all_see n (occurs n) term_made rest (all_by (λ term. Sees n (occurs n) (term_made term)) (λ term. (sees_term n term).0) rest))))
  where
    more : Option Term × List Term → Bool
    more places = occurs_in_option n places.0 || list_any (occurs n) places.1

    back : (one : Term) (others : Option Term × List Term) → in_places n (record { first = one; duration = others.0; rest = others.1 }) ≡ true → (occurs n one ≡ true) ⊎ (more others ≡ true)
    back one others h = by (or_elim (occurs n one || occurs_in_option n others.0) (list_any (occurs n) others.1) (shifted (occurs n one) (occurs_in_option n others.0) (list_any (occurs n) others.1) h))
      where
        shifted : (a b c : Bool) → (a || b || c) ≡ true → ((a || b) || c) ≡ true
        shifted true b c k = refl
        shifted false b c k = k

        inner : (occurs n one ≡ true) ⊎ (occurs_in_option n others.0 ≡ true) → (occurs n one ≡ true) ⊎ (more others ≡ true)
        inner (inl k) = inl k
        inner (inr k) = inr (or_left (occurs_in_option n others.0) (list_any (occurs n) others.1) k)

        by : ((occurs n one || occurs_in_option n others.0) ≡ true) ⊎ (list_any (occurs n) others.1 ≡ true) → (occurs n one ≡ true) ⊎ (more others ≡ true)
        by (inl k) = inner (or_elim (occurs n one) (occurs_in_option n others.0) k)
        by (inr k) = inr (or_right (occurs_in_option n others.0) (list_any (occurs n) others.1) k)

    further : (one : Option Term) (others : List Term) → more (one, others) ≡ true → (option_any (occurs n) one ≡ true) ⊎ (list_any (occurs n) others ≡ true)
    further one others h = by (or_elim (occurs_in_option n one) (list_any (occurs n) others) h)
      where
        by : (occurs_in_option n one ≡ true) ⊎ (list_any (occurs n) others ≡ true) → (option_any (occurs n) one ≡ true) ⊎ (list_any (occurs n) others ≡ true)
        by (inl k) = inl (by_option n one k)
        by (inr k) = inr k

see_element : (n : ℕ) (x : TheoryElement-F Literal TheoryAtom TheoryElement) → AllByRecursion (SeesLiteral n) x.condition → SeesElement n (roll-TheoryElement x)
see_element n x all next =
    subst (IsSeen n (in_element n) next) (sym (made-TheoryElement x next))
    (seen_closed n (in_places n) (in_element n) with_condition next (places_made x.first x.duration x.rest next)
    (each (map literal_made x.condition) (places_made x.first x.duration x.rest next).next) back (sees_places n x.first x.duration x.rest next)
    (sees_each n (in_literal n) (map literal_made x.condition) (all_see n (in_literal n) literal_made x.condition all) (places_made x.first x.duration x.rest next).next))
  where
    back : (condition : List Literal) → in_element n (with_condition (places_made x.first x.duration x.rest next).made condition) ≡ true
        → (in_places n (places_made x.first x.duration x.rest next).made ≡ true) ⊎ (stands n condition ≡ true)
    back condition h = by places.first places.duration places.rest (sym (ap (occurs_in_element n) (read-TheoryElement (record { first = places.first; duration = places.duration; rest = places.rest; condition = condition }))) ∙ h)
      where
        places : Places
        places = (places_made x.first x.duration x.rest next).made

        split : (a b c d : Bool) → (a || b || c || d) ≡ true → ((a || b || c) ≡ true) ⊎ (d ≡ true)
        split true b c d k = inl refl
        split false true c d k = inl refl
        split false false true d k = inl refl
        split false false false d k = inr k

        by : (first : Term) (duration : Option Term) (rest : List Term)
            → (occurs n first || occurs_in_option n duration || list_any (occurs n) rest || list_any (occurs_in n) (plains (map literal_read condition))) ≡ true
            → ((occurs n first || occurs_in_option n duration || list_any (occurs n) rest) ≡ true) ⊎ (stands n condition ≡ true)
        by first duration rest k = go (split (occurs n first) (occurs_in_option n duration) (list_any (occurs n) rest) (list_any (occurs_in n) (plains (map literal_read condition))) k)
          where
            go : ((occurs n first || occurs_in_option n duration || list_any (occurs n) rest) ≡ true) ⊎ (list_any (occurs_in n) (plains (map literal_read condition)) ≡ true)
                → ((occurs n first || occurs_in_option n duration || list_any (occurs n) rest) ≡ true) ⊎ (stands n condition ≡ true)
            go (inl s) = inl s
            go (inr s) = inr (stands_plain n condition s)

-- ---- all of them
all_mapped : {A X : Type 0} (P : X → Type 0) (f : A → X) → ((a : A) → P (f a)) → (items : List A) → AllByRecursion P (map f items)
all_mapped P f h [] = tt
all_mapped P f h (a ∷ items) = (h a, all_mapped P f h items)

module _ (n : ℕ) where
  literal_layer : {A B C : Type 0} (f : A → Literal) (g : B → TheoryAtom) (h : C → TheoryElement) → ((b : B) → SeesTheory n (g b)) → (y : Literal-F A B C)
      → SeesLiteral n (roll-Literal (map-Literal A B C Literal TheoryAtom TheoryElement f g h y))
  unfolding roll-Literal denote.Hole.Carrier.roll
  literal_layer f g h known (Literal-F.Atom atom sign) = see_literal_atom n atom sign
  literal_layer f g h known (Literal-F.Compare a rel b) = see_literal_compare n a rel b
  literal_layer f g h known (Literal-F.Theory b sign) = see_literal_theory n (g b) sign (known b)

  theory_layer : {A B C : Type 0} (f : A → Literal) (g : B → TheoryAtom) (h : C → TheoryElement) → ((c : C) → SeesElement n (h c)) → (y : TheoryAtom-F A B C)
      → SeesTheory n (roll-TheoryAtom (map-TheoryAtom A B C Literal TheoryAtom TheoryElement f g h y))
  theory_layer {A} {B} {C} f g h known y = see_theory n (map-TheoryAtom A B C Literal TheoryAtom TheoryElement f g h y) (all_mapped (SeesElement n) h known y.elements)

  element_layer : {A B C : Type 0} (f : A → Literal) (g : B → TheoryAtom) (h : C → TheoryElement) → ((a : A) → SeesLiteral n (f a)) → (y : TheoryElement-F A B C)
      → SeesElement n (roll-TheoryElement (map-TheoryElement A B C Literal TheoryAtom TheoryElement f g h y))
  element_layer {A} {B} {C} f g h known y = see_element n (map-TheoryElement A B C Literal TheoryAtom TheoryElement f g h y) (all_mapped (SeesLiteral n) f known y.condition)

  sees_literal : (literal : Literal) → SeesLiteral n literal
  sees_literal =
      ind-Literal (SeesLiteral n) (SeesTheory n) (SeesElement n)
      (λ x y is. subst (λ z. SeesLiteral n (roll-Literal z)) is (literal_layer (λ e. e.0) (λ e. e.0) (λ e. e.0) (λ e. e.1) y))
      (λ x y is. subst (λ z. SeesTheory n (roll-TheoryAtom z)) is (theory_layer (λ e. e.0) (λ e. e.0) (λ e. e.0) (λ e. e.1) y))
      (λ x y is. subst (λ z. SeesElement n (roll-TheoryElement z)) is (element_layer (λ e. e.0) (λ e. e.0) (λ e. e.0) (λ e. e.1) y))

  sees_theory : (theory : TheoryAtom) → SeesTheory n theory
  sees_theory =
      ind-TheoryAtom (SeesLiteral n) (SeesTheory n) (SeesElement n)
      (λ x y is. subst (λ z. SeesLiteral n (roll-Literal z)) is (literal_layer (λ e. e.0) (λ e. e.0) (λ e. e.0) (λ e. e.1) y))
      (λ x y is. subst (λ z. SeesTheory n (roll-TheoryAtom z)) is (theory_layer (λ e. e.0) (λ e. e.0) (λ e. e.0) (λ e. e.1) y))
      (λ x y is. subst (λ z. SeesElement n (roll-TheoryElement z)) is (element_layer (λ e. e.0) (λ e. e.0) (λ e. e.0) (λ e. e.1) y))

  -- ---- heads
  sees_literals : (literals : List Literal) → Sees n (list_any (in_literal n)) (each (map literal_made literals))
  sees_literals literals =
      sees_each n (in_literal n) (map literal_made literals) (all_see n (in_literal n) literal_made literals (all_by (SeesLiteral n) sees_literal literals))

  abbrev in_chosen : ChoiceElement → Bool
  in_chosen element = occurs_in_choice n (choice_read element)

  sees_chosen : (element : ChoiceElement) → Sees n in_chosen (choice_element_made element)
  sees_chosen element next =
      seen_closed n (occurs n) in_chosen (λ atom condition. record { atom = atom; condition = condition }) next (atom_made element.atom next)
      (each (map literal_made element.condition) (atom_made element.atom next).next) back (sees_atom n element.atom next)
      (sees_literals element.condition (atom_made element.atom next).next)
    where
      back : (condition : List Literal) → in_chosen (record { atom = (atom_made element.atom next).made; condition = condition }) ≡ true
          → (occurs n (atom_made element.atom next).made ≡ true) ⊎ (stands n condition ≡ true)
      back condition h = by (or_elim (occurs n (atom_made element.atom next).made) (list_any (occurs_in n) (plains (map literal_read condition))) h)
        where
          by : (occurs n (atom_made element.atom next).made ≡ true) ⊎ (list_any (occurs_in n) (plains (map literal_read condition)) ≡ true)
              → (occurs n (atom_made element.atom next).made ≡ true) ⊎ (stands n condition ≡ true)
          by (inl k) = inl k
          by (inr k) = inr (stands_plain n condition k)

  any_chosen : (elements : List ChoiceElement) → list_any (occurs_in_choice n) (map choice_read elements) ≡ list_any in_chosen elements
  any_chosen [] = refl
  any_chosen (element ∷ elements) = ap (λ b. in_chosen element || b) (any_chosen elements)

  abbrev in_head : Head → Bool
  in_head h = within_head n (head_read h)

  abbrev in_choice : Choice → Bool
  in_choice choice = in_head (head.Choice choice)

  sees_choice : (choice : Choice) → Sees n in_choice (choice_made choice)
  sees_choice choice =
      sees_both n (option_any (in_guard n)) more in_choice (λ left (others : List ChoiceElement × Option Guard). record { left = left; elements = others.0; right = others.1 })
      (maybe guard_made choice.left) (both (λ elements right. (elements, right)) (each (map choice_element_made choice.elements)) (maybe guard_made choice.right)) back
      (sees_maybe n (in_guard n) guard_made choice.left (sees_guard n))
      (sees_both n (list_any in_chosen) (option_any (in_guard n)) more (λ elements right. (elements, right)) (each (map choice_element_made choice.elements)) (maybe guard_made choice.right)
      (λ elements right h. or_elim (list_any in_chosen elements) (option_any (in_guard n) right) h)
      (sees_each n in_chosen (map choice_element_made choice.elements)
      (all_see n in_chosen choice_element_made choice.elements (all_by (λ element. Sees n in_chosen (choice_element_made element)) sees_chosen choice.elements)))
      (sees_maybe n (in_guard n) guard_made choice.right (sees_guard n)))
    where
      more : List ChoiceElement × Option Guard → Bool
      more others = list_any in_chosen others.0 || option_any (in_guard n) others.1

      back : (left : Option Guard) (others : List ChoiceElement × Option Guard) → in_choice (record { left = left; elements = others.0; right = others.1 }) ≡ true
          → (option_any (in_guard n) left ≡ true) ⊎ (more others ≡ true)
      back left others h = by (or_elim (occurs_in_guard n left) (list_any (occurs_in_choice n) (map choice_read others.0) || occurs_in_guard n others.1) h)
        where
          inner : (list_any (occurs_in_choice n) (map choice_read others.0) ≡ true) ⊎ (occurs_in_guard n others.1 ≡ true) → more others ≡ true
          inner (inl k) = or_left (list_any in_chosen others.0) (option_any (in_guard n) others.1) (sym (any_chosen others.0) ∙ k)
          inner (inr k) = or_right (list_any in_chosen others.0) (option_any (in_guard n) others.1) (by_guard n others.1 k)

          by : (occurs_in_guard n left ≡ true) ⊎ ((list_any (occurs_in_choice n) (map choice_read others.0) || occurs_in_guard n others.1) ≡ true)
              → (option_any (in_guard n) left ≡ true) ⊎ (more others ≡ true)
          by (inl k) = inl (by_guard n left k)
          by (inr k) = inr (inner (or_elim (list_any (occurs_in_choice n) (map choice_read others.0)) (occurs_in_guard n others.1) k))

  sees_head : (h : Head) → Sees n in_head (head_made h)
  sees_head head.Nothing next = seen_same n in_head head.Nothing next refl
  sees_head (head.Atom atom) next = seen_mapped n (occurs n) in_head head.Atom next (atom_made atom next) (λ k. k) (sees_atom n atom next)
  sees_head (head.Theory theory) next = seen_mapped n (in_theory n) in_head head.Theory next (theory_made theory next) (λ k. k) (sees_theory theory next)
  sees_head (head.Choice choice) next = seen_mapped n in_choice in_head head.Choice next (choice_made choice next) (λ k. k) (sees_choice choice next)

  -- ---- rules
  abbrev pub in_parts : Head × List Literal → Bool
  in_parts parts = in_head parts.0 || stands n parts.1

  pub sees_rule : (rule : Rule) → IsSeen n in_parts (length rule.names + 1) (parts_made rule)
  sees_rule rule =
      sees_both n in_head (list_any (in_literal n)) in_parts (λ h body. (h, body)) (head_made rule.head) (each (map literal_made rule.body))
      (λ h body k. or_elim (in_head h) (stands n body) k) (sees_head rule.head) (sees_literals rule.body) (length rule.names + 1)

  any_within : (literals : List Literal) → list_any (within_literal n) (map literal_read literals) ≡ stands n literals
  any_within [] = refl
  any_within (literal ∷ literals) = ap (λ b. in_literal n literal || b) (any_within literals)

  -- a variable that stands in a rewritten rule is seen in the rule
  pub seen_in_rule : (rule : Rule) → within_rule n (rule_of rule) ≡ true → IsMember (seen (parts_made rule).sights) n
  seen_in_rule rule h = by (or_elim (in_head (parts_made rule).made.0) (list_any (within_literal n) (map literal_read (rewritten rule).body)) h)
    where
      body_by : (stands n (parts_made rule).made.1 ≡ true) ⊎ (stands n (parts_made rule).added ≡ true) → IsMember (seen (parts_made rule).sights) n
      body_by (inl k) = (sees_rule rule).made (or_right (in_head (parts_made rule).made.0) (stands n (parts_made rule).made.1) k)
      body_by (inr k) = (sees_rule rule).added k

      by : (in_head (parts_made rule).made.0 ≡ true) ⊎ (list_any (within_literal n) (map literal_read (rewritten rule).body) ≡ true) → IsMember (seen (parts_made rule).sights) n
      by (inl k) = (sees_rule rule).made (or_left (in_head (parts_made rule).made.0) (stands n (parts_made rule).made.1) k)
      by (inr k) = body_by (any_append (in_literal n) (parts_made rule).made.1 (parts_made rule).added (sym (any_within (rewritten rule).body) ∙ k))
