-- Literals, elements, heads and rules.
use Rattle.std.proofs.Common.{◌≡◌, ◌⊎◌, ◌<◌, ℕ, ◌+◌, Bool, true, false, ◌||◌, List, [], ◌∷◌, ◌++◌, map, length, Option, None, Some, refl, sym, ◌∙◌, ap, subst, inl, inr, true≢false, arith}
use Rattle.std.specs.List.{AllByRecursion, list_any}
use Rattle.symbols.specs.declared.rel.Rel.{Rel}
use Rattle.symbols.specs.declared.rel.Rel.TheVariants.{Equal}
use Rattle.syntax_tree.specs.declared.term.Term.{Term}
use Rattle.syntax_tree.specs.declared.term.Term.TheVariants as t
use Rattle.syntax_tree.specs.declared.literal.Guard.{Guard}
use Rattle.syntax_tree.specs.declared.literal.Literal.{Literal, roll-Literal}
use Rattle.syntax_tree.specs.declared.literal.Literal.TheOpen.{Literal-F, TheoryAtom-F, TheoryElement-F}
use Rattle.syntax_tree.specs.declared.literal.Literal.TheFolds.{ind-Literal, ind-TheoryAtom, map-Literal, map-TheoryAtom, map-TheoryElement}
use Rattle.syntax_tree.specs.declared.literal.Literal.TheVariants as l
use Rattle.syntax_tree.specs.declared.literal.TheoryAtom.{TheoryAtom, roll-TheoryAtom}
use Rattle.syntax_tree.specs.declared.literal.TheoryElement.{TheoryElement, roll-TheoryElement}
use Rattle.syntax_tree.specs.declared.rule.ChoiceElement.{ChoiceElement}
use Rattle.syntax_tree.specs.declared.rule.Choice.{Choice}
use Rattle.syntax_tree.specs.declared.rule.Head.{Head}
use Rattle.syntax_tree.specs.declared.rule.Head.TheVariants as head
use Rattle.syntax_tree.specs.declared.rule.Rule.{Rule}
use Rattle.ground_model.specs.Members.{IsMember}
use Rattle.ground_model.proofs.Bools.{or_elim, or_left, or_right}
use Rattle.ground_model.proofs.MemberLemmas.{map_member}
use Rattle.rewriting.specs.Made.{Made, mapped, both, each, maybe}
use Rattle.rewriting.specs.Rewritten.{term_made, guard_made, atom_made, Places, places_made, closed, with_condition, literal_made, theory_made, element_made, choice_element_made, choice_made, head_made, parts_made}
use Rattle.rewriting.proofs.Layers.{made-Atom, made-Compare, made-Theory, made-TheoryAtom, made-TheoryElement}
use Rattle.program_meaning.specs.Read.{PlainLiteral, PlainCompare, ReadElement, ReadLiteral, ReadPlain, ReadTold, ReadTheory, ReadChoice, ReadHead, ReadNothing, ReadAtom, ReadDuty, ReadChoose, plain_of, plains, literal_read, theory_read, choice_read, head_read}
use Rattle.program_meaning.specs.Variables.{occurs, occurs_in, occurs_in_guard, occurs_in_option, occurs_in_element, occurs_in_choice, occurs_in_literal, occurs_in_head}
use Rattle.program_meaning.proofs.Lists.{append_left, append_right}
use Rattle.interval_variables.proofs.Reading.{element_read, read-Atom, read-Compare, read-Theory, read-TheoryAtom, read-TheoryElement}
use Rattle.interval_variables.proofs.Scopes.{Named, IsLater, Equation, plain_in, any_split, FreshWay, fresh_both, fresh_each, fresh_mapped, fresh_same, all_fresh, named_left, named_right, Scoped, ScopedWay, scoped_fresh, scoped_same, scoped_mapped, scoped_both, scoped_each, all_scoped, scoped_closed}
use Rattle.interval_variables.proofs.FreshTerms.{stands, fresh_term, fresh_atom}

abbrev pub PlainEquation : ℕ → ℕ → List PlainLiteral → Type 0
PlainEquation N n literals = (term : Term) × IsMember literals (PlainCompare (t.Variable n) Equal term) × IsLater N n term

in_plains : (literals : List Literal) (left : Term) (rel : Rel) (right : Term) → IsMember literals (l.Compare left rel right) → IsMember (plains (map literal_read literals)) (PlainCompare left rel right)
in_plains [] left rel right m = absurd m
in_plains (x ∷ xs) left rel right (inl e) =
    append_left (plain_of (literal_read x)) (plains (map literal_read xs)) (PlainCompare left rel right)
    (subst (λ v. IsMember (plain_of v) (PlainCompare left rel right)) (sym (read-Compare left rel right) ∙ ap literal_read e) (inl refl))
in_plains (x ∷ xs) left rel right (inr m) =
    append_right (plain_of (literal_read x)) (plains (map literal_read xs)) (PlainCompare left rel right) (in_plains xs left rel right m)

pub plain_equation : (N n : ℕ) (literals : List Literal) → Equation N n literals → PlainEquation N n (plains (map literal_read literals))
plain_equation N n literals e = (e.0, in_plains literals (t.Variable n) Equal e.0 e.1, e.2)

abbrev pub ElementMeets : ℕ → ℕ → ReadElement → Type 0
ElementMeets N n element = occurs_in_element n element ≡ true → PlainEquation N n element.condition

abbrev pub ElementsMeet : ℕ → ℕ → List ReadElement → Type 0
ElementsMeet N n elements = (element : ReadElement) → IsMember elements element → ElementMeets N n element

abbrev pub ChoiceMeets : ℕ → ℕ → ReadChoice → Type 0
ChoiceMeets N n element = occurs_in_choice n element ≡ true → PlainEquation N n element.condition

abbrev pub LiteralMeets : ℕ → ℕ → ReadLiteral → Type 0
LiteralMeets N n (ReadPlain literal) = Unit {0}
LiteralMeets N n (ReadTold theory sign) = ElementsMeet N n theory.elements

abbrev pub HeadMeets : ℕ → ℕ → ReadHead → Type 0
HeadMeets N n ReadNothing = Unit {0}
HeadMeets N n (ReadAtom term) = Unit {0}
HeadMeets N n (ReadDuty theory) = ElementsMeet N n theory.elements
HeadMeets N n (ReadChoose left elements right) = (element : ReadChoice) → IsMember elements element → ChoiceMeets N n element

abbrev pub option_any : {X : Type 0} → (X → Bool) → Option X → Bool
option_any test None = false
option_any test (Some x) = test x

fresh_maybe : {X Y : Type 0} (N : ℕ) (test : ℕ → Y → Bool) (way : X → ℕ → Made Y) (o : Option X) → ((x : X) → FreshWay N test (way x)) → FreshWay N (λ m. option_any (test m)) (maybe way o)
fresh_maybe N test way None s next above named = fresh_same N (λ m. option_any (test m)) None next (λ m. refl)
fresh_maybe N test way (Some x) s next above named = fresh_mapped N test (λ m. option_any (test m)) (λ y. Some y) next (way x next) (λ m h. h) (s x next above named)

abbrev in_guard : ℕ → Guard → Bool
in_guard n guard = occurs n guard.right

fresh_guard : (N : ℕ) (guard : Guard) → FreshWay N in_guard (guard_made guard)
fresh_guard N guard next above named =
    fresh_mapped N stands in_guard (λ right. record { rel = guard.rel; right = right }) next (term_made guard.right next) (λ m h. h) ((fresh_term N guard.right).0 next above named)

by_guard : (n : ℕ) (o : Option Guard) → occurs_in_guard n o ≡ true → option_any (in_guard n) o ≡ true
by_guard n None h = h
by_guard n (Some guard) h = h

by_option : (n : ℕ) (o : Option Term) → occurs_in_option n o ≡ true → option_any (occurs n) o ≡ true
by_option n None h = h
by_option n (Some term) h = h

all_by : {A : Type 0} (P : A → Type 0) → ((a : A) → P a) → (xs : List A) → AllByRecursion P xs
all_by P p [] = tt
all_by P p (x ∷ xs) = (p x, all_by P p xs)

all_mapped : {A X : Type 0} (P : X → Type 0) (f : A → X) → ((a : A) → P (f a)) → (items : List A) → AllByRecursion P (map f items)
all_mapped P f h [] = tt
all_mapped P f h (a ∷ items) = (h a, all_mapped P f h items)

module _ (N n : ℕ) where
  -- a piece of terms is a scope with no elements
  from_fresh : {X : Type 0} (test : ℕ → X → Bool) (way : ℕ → Made X) → FreshWay N test way → ScopedWay N n (test n) (λ x. Unit {0}) way
  from_fresh test way s next above named = scoped_fresh N n test next (way next) (s next above named)

  scoped_as : {X : Type 0} (outer : X → Bool) (Inner : X → Type 0) (way other : ℕ → Made X) → ((next : ℕ) → way next ≡ other next) → ScopedWay N n outer Inner other → ScopedWay N n outer Inner way
  scoped_as {X} outer Inner way other e s next above named =
      subst (Scoped N n outer Inner next) (sym (e next)) (s next above (subst (λ (v : Made X). Named N v.sights) (e next) named))

  abbrev outer_literal : Literal → Bool
  outer_literal literal = occurs_in_literal n (literal_read literal)

  abbrev InnerLiteral : Literal → Type 0
  InnerLiteral literal = LiteralMeets N n (literal_read literal)

  abbrev outer_theory : TheoryAtom → Bool
  outer_theory theory = occurs_in_guard n (theory_read theory).guard

  abbrev InnerTheory : TheoryAtom → Type 0
  InnerTheory theory = ElementsMeet N n (theory_read theory).elements

  abbrev outer_element : TheoryElement → Bool
  outer_element element = false

  abbrev InnerElement : TheoryElement → Type 0
  InnerElement element = ElementMeets N n (element_read element)

  abbrev ScopedLiteral : Literal → Type 0
  ScopedLiteral literal = ScopedWay N n outer_literal InnerLiteral (literal_made literal)

  abbrev ScopedTheory : TheoryAtom → Type 0
  ScopedTheory theory = ScopedWay N n outer_theory InnerTheory (theory_made theory)

  abbrev ScopedElement : TheoryElement → Type 0
  ScopedElement element = ScopedWay N n outer_element InnerElement (element_made element)

  scoped_literal_atom : (atom : Term) (sign : Bool) → ScopedLiteral (l.Atom atom sign)
  scoped_literal_atom atom sign =
      scoped_as outer_literal InnerLiteral (literal_made (l.Atom atom sign)) (λ next. mapped (λ made. l.Atom made sign) (atom_made atom next)) (made-Atom atom sign)
      (λ next above named. scoped_mapped N n (occurs n) (λ x. Unit {0}) outer_literal InnerLiteral (λ made. l.Atom made sign) next (atom_made atom next)
      (λ h. sym (ap (occurs_in_literal n) (read-Atom (atom_made atom next).made sign)) ∙ h)
      (λ u. subst (LiteralMeets N n) (sym (read-Atom (atom_made atom next).made sign)) tt)
      (from_fresh stands (atom_made atom) (fresh_atom N atom) next above named))

  scoped_literal_compare : (left : Term) (rel : Rel) (right : Term) → ScopedLiteral (l.Compare left rel right)
  scoped_literal_compare left rel right =
      scoped_as outer_literal InnerLiteral (literal_made (l.Compare left rel right)) (both (λ a b. l.Compare a rel b) (term_made left) (term_made right)) (made-Compare left rel right)
      (scoped_both N n (occurs n) (λ x. Unit {0}) (occurs n) (λ x. Unit {0}) outer_literal InnerLiteral (λ a b. l.Compare a rel b) (term_made left) (term_made right)
      (λ a b h. or_elim (occurs n a) (occurs n b) (sym (ap (occurs_in_literal n) (read-Compare a rel b)) ∙ h))
      (λ a b u v. subst (LiteralMeets N n) (sym (read-Compare a rel b)) tt)
      (from_fresh stands (term_made left) (fresh_term N left).0) (from_fresh stands (term_made right) (fresh_term N right).0))

  scoped_literal_theory : (theory : TheoryAtom) (sign : Bool) → ScopedTheory theory → ScopedLiteral (l.Theory theory sign)
  scoped_literal_theory theory sign s =
      scoped_as outer_literal InnerLiteral (literal_made (l.Theory theory sign)) (λ next. mapped (λ made. l.Theory made sign) (theory_made theory next)) (made-Theory theory sign)
      (λ next above named. scoped_mapped N n outer_theory InnerTheory outer_literal InnerLiteral (λ made. l.Theory made sign) next (theory_made theory next)
      (λ h. sym (ap (occurs_in_literal n) (read-Theory (theory_made theory next).made sign)) ∙ h)
      (λ u. subst (LiteralMeets N n) (sym (read-Theory (theory_made theory next).made sign)) u)
      (s next above named))

  scoped_theory : (x : TheoryAtom-F Literal TheoryAtom TheoryElement) → AllByRecursion ScopedElement x.elements → ScopedTheory (roll-TheoryAtom x)
  scoped_theory x all =
      scoped_as outer_theory InnerTheory (theory_made (roll-TheoryAtom x)) (both make (each (map element_made x.elements)) (maybe guard_made x.guard)) (made-TheoryAtom x)
      (scoped_both N n (list_any outer_element) (λ xs. (e : TheoryElement) → IsMember xs e → InnerElement e) (option_any (in_guard n)) (λ o. Unit {0}) outer_theory InnerTheory make
      (each (map element_made x.elements)) (maybe guard_made x.guard)
      (λ elements guard h. inr (by_guard n guard (sym (ap (λ (v : ReadTheory). occurs_in_guard n v.guard) (read-TheoryAtom (open_with elements guard))) ∙ h)))
      (λ elements guard u v. subst (λ (r : ReadTheory). ElementsMeet N n r.elements) (sym (read-TheoryAtom (open_with elements guard)))
      (λ e m. let k = map_member element_read elements e m in subst (ElementMeets N n) (sym k.2) (u k.0 k.1)))
      (scoped_each N n outer_element InnerElement (map element_made x.elements) (all_scoped N n outer_element InnerElement element_made x.elements all))
      (from_fresh (λ m. option_any (in_guard m)) (maybe guard_made x.guard) (fresh_maybe N in_guard guard_made x.guard (fresh_guard N))))
    where
      open_with : List TheoryElement → Option Guard → TheoryAtom-F Literal TheoryAtom TheoryElement
      open_with elements guard = record { name = x.name; elements = elements; guard = guard }

      make : List TheoryElement → Option Guard → TheoryAtom
      make elements guard = roll-TheoryAtom (record { name = x.name; elements = elements; guard = guard })

  -- ---- elements
  abbrev in_places : ℕ → Places → Bool
  in_places m places = occurs m places.first || (occurs_in_option m places.duration || list_any (occurs m) places.rest)

  fresh_places : (first : Term) (duration : Option Term) (rest : List Term) → FreshWay N in_places (places_made first duration rest)
  fresh_places first duration rest =
      fresh_both N stands more in_places (λ first (more : Option Term × List Term). record { first = first; duration = more.0; rest = more.1 }) (term_made first)
      (both (λ duration rest. (duration, rest)) (maybe term_made duration) (each (map term_made rest)))
      (λ m one others h. or_elim (occurs m one) (occurs_in_option m others.0 || list_any (occurs m) others.1) h) (fresh_term N first).0
      (fresh_both N (λ m. option_any (occurs m)) (λ m. list_any (occurs m)) more (λ duration rest. (duration, rest)) (maybe term_made duration) (each (map term_made rest))
      (λ m one others h. elim (or_elim (occurs_in_option m one) (list_any (occurs m) others) h) [ inl k ↦ inl (by_option m one k) | inr k ↦ inr k ])
      (fresh_maybe N stands term_made duration (λ term. (fresh_term N term).0))
      (fresh_each N stands (map term_made rest) (all_fresh N stands term_made rest (all_by (λ term. FreshWay N stands (term_made term)) (λ term. (fresh_term N term).0) rest))))
    where
      more : ℕ → Option Term × List Term → Bool
      more m places = occurs_in_option m places.0 || list_any (occurs m) places.1

  plains_stand : (literals : List Literal) → list_any (occurs_in n) (plains (map literal_read literals)) ≡ true → plain_in n literals ≡ true
  plains_stand [] h = h
  plains_stand (x ∷ xs) h = go (any_split (occurs_in n) (plain_of (literal_read x)) (plains (map literal_read xs)) h) (plains_stand xs)
    where
      or_false : (b : Bool) → (b || false) ≡ true → b ≡ true
      or_false true k = k
      or_false false k = k

      own : (r : ReadLiteral) → list_any (occurs_in n) (plain_of r) ≡ true → occurs_in_literal n r ≡ true
      own (ReadPlain literal) k = or_false (occurs_in n literal) k
      own (ReadTold theory sign) k = absurd (true≢false (sym k))

      go : (list_any (occurs_in n) (plain_of (literal_read x)) ≡ true) ⊎ (list_any (occurs_in n) (plains (map literal_read xs)) ≡ true)
          → (list_any (occurs_in n) (plains (map literal_read xs)) ≡ true → plain_in n xs ≡ true) → plain_in n (x ∷ xs) ≡ true
      go (inl k) later = or_left (occurs_in_literal n (literal_read x)) (plain_in n xs) (own (literal_read x) k)
      go (inr k) later = or_right (occurs_in_literal n (literal_read x)) (plain_in n xs) (later k)

  or_shift : (a b c d : Bool) → (((a || b) || c) || d) ≡ true → ((a || (b || c)) ≡ true) ⊎ (d ≡ true)
  or_shift true b c d k = inl refl
  or_shift false true c d k = inl refl
  or_shift false false true d k = inl refl
  or_shift false false false d k = inr k

  scoped_element : (x : TheoryElement-F Literal TheoryAtom TheoryElement) → AllByRecursion ScopedLiteral x.condition → ScopedElement (roll-TheoryElement x)
  scoped_element x all =
      scoped_as outer_element InnerElement (element_made (roll-TheoryElement x)) (λ next. closed with_condition (places next) (condition next)) (made-TheoryElement x)
      (λ next above named.
      let s = from_fresh in_places (places_made x.first x.duration x.rest) (fresh_places x.first x.duration x.rest) next above (named_left N (places next).sights (condition next).sights named) in
      let rise = s.rises in
      scoped_closed N n (in_places n) (list_any outer_literal) (λ xs. (e : Literal) → IsMember xs e → InnerLiteral e) InnerElement with_condition next (places next) (condition next)
      (λ k. k) (meets (places next).made ((condition next).made ++ ((places next).added ++ (condition next).added))) s
      (scoped_each N n outer_literal InnerLiteral (map literal_made x.condition) (all_scoped N n outer_literal InnerLiteral literal_made x.condition all) (places next).next
      (omega (arith, rise, above)) (named_right N (places next).sights (condition next).sights named)))
    where
      places : ℕ → Made Places
      places next = places_made x.first x.duration x.rest next

      condition : ℕ → Made (List Literal)
      condition next = each (map literal_made x.condition) (places_made x.first x.duration x.rest next).next

      meets : (p : Places) (literals : List Literal) → ((in_places n p ≡ true) ⊎ (plain_in n literals ≡ true) → Equation N n literals) → InnerElement (with_condition p literals)
      meets p literals f =
          subst (ElementMeets N n) (sym (read-TheoryElement (record { first = p.first; duration = p.duration; rest = p.rest; condition = literals })))
          (λ h. plain_equation N n literals (f (elim (or_shift (occurs n p.first) (occurs_in_option n p.duration) (list_any (occurs n) p.rest) (list_any (occurs_in n) (plains (map literal_read literals))) h) [ inl k ↦ inl k | inr k ↦ inr (plains_stand literals k) ])))

  -- ---- all of them
  literal_layer : {A B C : Type 0} (f : A → Literal) (g : B → TheoryAtom) (h : C → TheoryElement) → ((b : B) → ScopedTheory (g b)) → (y : Literal-F A B C)
      → ScopedLiteral (roll-Literal (map-Literal A B C Literal TheoryAtom TheoryElement f g h y))
  unfolding roll-Literal denote.Hole.Carrier.roll
  literal_layer f g h known (Literal-F.Atom atom sign) = scoped_literal_atom atom sign
  literal_layer f g h known (Literal-F.Compare a rel b) = scoped_literal_compare a rel b
  literal_layer f g h known (Literal-F.Theory b sign) = scoped_literal_theory (g b) sign (known b)

  theory_layer : {A B C : Type 0} (f : A → Literal) (g : B → TheoryAtom) (h : C → TheoryElement) → ((c : C) → ScopedElement (h c)) → (y : TheoryAtom-F A B C)
      → ScopedTheory (roll-TheoryAtom (map-TheoryAtom A B C Literal TheoryAtom TheoryElement f g h y))
  theory_layer {A} {B} {C} f g h known y = scoped_theory (map-TheoryAtom A B C Literal TheoryAtom TheoryElement f g h y) (all_mapped ScopedElement h known y.elements)

  element_layer : {A B C : Type 0} (f : A → Literal) (g : B → TheoryAtom) (h : C → TheoryElement) → ((a : A) → ScopedLiteral (f a)) → (y : TheoryElement-F A B C)
      → ScopedElement (roll-TheoryElement (map-TheoryElement A B C Literal TheoryAtom TheoryElement f g h y))
  element_layer {A} {B} {C} f g h known y = scoped_element (map-TheoryElement A B C Literal TheoryAtom TheoryElement f g h y) (all_mapped ScopedLiteral f known y.condition)

  pub every_literal : (literal : Literal) → ScopedLiteral literal
  every_literal =
      ind-Literal ScopedLiteral ScopedTheory ScopedElement
      (λ x y is. subst (λ z. ScopedLiteral (roll-Literal z)) is (literal_layer (λ e. e.0) (λ e. e.0) (λ e. e.0) (λ e. e.1) y))
      (λ x y is. subst (λ z. ScopedTheory (roll-TheoryAtom z)) is (theory_layer (λ e. e.0) (λ e. e.0) (λ e. e.0) (λ e. e.1) y))
      (λ x y is. subst (λ z. ScopedElement (roll-TheoryElement z)) is (element_layer (λ e. e.0) (λ e. e.0) (λ e. e.0) (λ e. e.1) y))

  pub every_theory : (theory : TheoryAtom) → ScopedTheory theory
  every_theory =
      ind-TheoryAtom ScopedLiteral ScopedTheory ScopedElement
      (λ x y is. subst (λ z. ScopedLiteral (roll-Literal z)) is (literal_layer (λ e. e.0) (λ e. e.0) (λ e. e.0) (λ e. e.1) y))
      (λ x y is. subst (λ z. ScopedTheory (roll-TheoryAtom z)) is (theory_layer (λ e. e.0) (λ e. e.0) (λ e. e.0) (λ e. e.1) y))
      (λ x y is. subst (λ z. ScopedElement (roll-TheoryElement z)) is (element_layer (λ e. e.0) (λ e. e.0) (λ e. e.0) (λ e. e.1) y))

  -- ---- heads and rules
  abbrev AllInner : List Literal → Type 0
  AllInner literals = (e : Literal) → IsMember literals e → InnerLiteral e

  scoped_literals : (literals : List Literal) → ScopedWay N n (list_any outer_literal) (λ xs. (e : Literal) → IsMember xs e → InnerLiteral e) (each (map literal_made literals))
  scoped_literals literals =
      scoped_each N n outer_literal InnerLiteral (map literal_made literals) (all_scoped N n outer_literal InnerLiteral literal_made literals (all_by ScopedLiteral every_literal literals))

  abbrev InnerChoice : ChoiceElement → Type 0
  InnerChoice element = ChoiceMeets N n (choice_read element)

  scoped_chosen : (element : ChoiceElement) → ScopedWay N n (λ e. false) InnerChoice (choice_element_made element)
  scoped_chosen element next above named =
      let a = atom_made element.atom next in
      let b = each (map literal_made element.condition) (atom_made element.atom next).next in
      let s = from_fresh stands (atom_made element.atom) (fresh_atom N element.atom) next above (named_left N a.sights b.sights named) in
      let rise = s.rises in
      scoped_closed N n (occurs n) (list_any outer_literal) (λ xs. (e : Literal) → IsMember xs e → InnerLiteral e) InnerChoice (λ atom condition. record { atom = atom; condition = condition }) next
      (atom_made element.atom next) (each (map literal_made element.condition) (atom_made element.atom next).next) (λ k. k)
      (λ f h. plain_equation N n (b.made ++ (a.added ++ b.added)) (f (elim (or_elim (occurs n a.made) (list_any (occurs_in n) (plains (map literal_read (b.made ++ (a.added ++ b.added))))) h) [ inl k ↦ inl k | inr k ↦ inr (plains_stand (b.made ++ (a.added ++ b.added)) k) ]))) s
      (scoped_literals element.condition a.next (omega (arith, rise, above)) (named_right N a.sights b.sights named))

  abbrev outer_head : Head → Bool
  outer_head h = occurs_in_head n (head_read h)

  abbrev InnerHead : Head → Type 0
  InnerHead h = HeadMeets N n (head_read h)

  abbrev outer_choice : Choice → Bool
  outer_choice choice = outer_head (head.Choice choice)

  abbrev InnerOfChoice : Choice → Type 0
  InnerOfChoice choice = InnerHead (head.Choice choice)

  scoped_choice : (choice : Choice) → ScopedWay N n outer_choice InnerOfChoice (choice_made choice)
  scoped_choice choice =
      scoped_both N n (option_any (in_guard n)) (λ o. Unit {0}) outer_more InnerMore outer_choice InnerOfChoice
      (λ left (others : List ChoiceElement × Option Guard). record { left = left; elements = others.0; right = others.1 }) (maybe guard_made choice.left)
      (both (λ elements right. (elements, right)) (each (map choice_element_made choice.elements)) (maybe guard_made choice.right))
      (λ left others h. elim (or_elim (occurs_in_guard n left) (occurs_in_guard n others.1) h) [
        | inl k ↦ inl (by_guard n left k)
        | inr k ↦ inr (or_right (list_any (λ (e : ChoiceElement). false) others.0) (option_any (in_guard n) others.1) (by_guard n others.1 k))
      ])
      (λ left others u v e m. let k = map_member choice_read others.0 e m in subst (ChoiceMeets N n) (sym k.2) (v k.0 k.1))
      (from_fresh (λ m. option_any (in_guard m)) (maybe guard_made choice.left) (fresh_maybe N in_guard guard_made choice.left (fresh_guard N)))
      (scoped_both N n (list_any (λ e. false)) (λ xs. (e : ChoiceElement) → IsMember xs e → InnerChoice e) (option_any (in_guard n)) (λ o. Unit {0}) outer_more InnerMore (λ elements right. (elements, right))
      (each (map choice_element_made choice.elements)) (maybe guard_made choice.right)
      (λ elements right h. or_elim (list_any (λ (e : ChoiceElement). false) elements) (option_any (in_guard n) right) h)
      (λ elements right u v. u)
      (scoped_each N n (λ e. false) InnerChoice (map choice_element_made choice.elements)
      (all_scoped N n (λ e. false) InnerChoice choice_element_made choice.elements (all_by (λ element. ScopedWay N n (λ e. false) InnerChoice (choice_element_made element)) scoped_chosen choice.elements)))
      (from_fresh (λ m. option_any (in_guard m)) (maybe guard_made choice.right) (fresh_maybe N in_guard guard_made choice.right (fresh_guard N))))
    where
      outer_more : List ChoiceElement × Option Guard → Bool
      outer_more others = list_any (λ (e : ChoiceElement). false) others.0 || option_any (in_guard n) others.1

      InnerMore : List ChoiceElement × Option Guard → Type 0
      InnerMore others = (e : ChoiceElement) → IsMember others.0 e → InnerChoice e

  scoped_head : (h : Head) → ScopedWay N n outer_head InnerHead (head_made h)
  scoped_head head.Nothing next above named = scoped_same N n outer_head InnerHead head.Nothing next refl tt
  scoped_head (head.Atom atom) next above named =
      scoped_mapped N n (occurs n) (λ x. Unit {0}) outer_head InnerHead head.Atom next (atom_made atom next) (λ k. k) (λ u. tt) (from_fresh stands (atom_made atom) (fresh_atom N atom) next above named)
  scoped_head (head.Theory theory) next above named =
      scoped_mapped N n outer_theory InnerTheory outer_head InnerHead head.Theory next (theory_made theory next) (λ k. k) (λ u. u) (every_theory theory next above named)
  scoped_head (head.Choice choice) next above named =
      scoped_mapped N n outer_choice InnerOfChoice outer_head InnerHead head.Choice next (choice_made choice next) (λ k. k) (λ u. u) (scoped_choice choice next above named)

  abbrev pub outer_parts : Head × List Literal → Bool
  outer_parts parts = outer_head parts.0 || list_any outer_literal parts.1

  abbrev pub InnerParts : Head × List Literal → Type 0
  InnerParts parts = InnerHead parts.0 × ((e : Literal) → IsMember parts.1 e → InnerLiteral e)

  pub scoped_parts : (rule : Rule) → N < length rule.names + 1 → Named N (parts_made rule).sights → Scoped N n outer_parts InnerParts (length rule.names + 1) (parts_made rule)
  scoped_parts rule =
      scoped_both N n outer_head InnerHead (list_any outer_literal) (λ xs. (e : Literal) → IsMember xs e → InnerLiteral e) outer_parts InnerParts (λ h body. (h, body)) (head_made rule.head)
      (each (map literal_made rule.body)) (λ h body k. or_elim (outer_head h) (list_any outer_literal body) k) (λ h body u v. (u, v)) (scoped_head rule.head) (scoped_literals rule.body)
      (length rule.names + 1)
