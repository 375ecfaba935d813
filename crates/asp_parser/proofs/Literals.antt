-- Literals and theory atoms with their constants replaced keep the rules on them.
use Rattle.std.proofs.Common.{◌≡◌, ℕ, Bool, true, false, ◌&&◌, IsTrue, List, [], ◌∷◌, map, Option, Some, None, refl, sym, ap, ◌∙◌, subst}
use Rattle.std.specs.List.{list_all, AllByRecursion}
use Rattle.std.specs.Option.{option_map}
use Rattle.symbols.specs.declared.rel.Rel.{Rel}
use Rattle.syntax_tree.specs.declared.term.Part.{Part}
use Rattle.syntax_tree.specs.declared.term.Term.{Term, roll-Term, out-Term}
use Rattle.syntax_tree.specs.declared.term.Term.TheOpen.{Term-F}
use Rattle.syntax_tree.specs.declared.term.Term.TheVariants as t
use Rattle.syntax_tree.specs.declared.term.Term.TheViews.{roll-out-Term}
use Rattle.syntax_tree.specs.declared.literal.Guard.{Guard}
use Rattle.syntax_tree.specs.declared.literal.Literal.{Literal, roll-Literal}
use Rattle.syntax_tree.specs.declared.literal.Literal.TheOpen.{Literal-F, TheoryAtom-F, TheoryElement-F}
use Rattle.syntax_tree.specs.declared.literal.Literal.TheFolds.{fold-roll-Literal, fold-roll-TheoryAtom, fold-roll-TheoryElement, ind-Literal, ind-TheoryAtom, map-Literal, map-TheoryAtom, map-TheoryElement}
use Rattle.syntax_tree.specs.declared.literal.Literal.TheVariants as l
use Rattle.syntax_tree.specs.declared.literal.TheoryAtom.{TheoryAtom, roll-TheoryAtom}
use Rattle.syntax_tree.specs.declared.literal.TheoryElement.{TheoryElement, roll-TheoryElement}
use Rattle.syntax_tree.specs.Tree.{is_name, is_term}
use Rattle.syntax_tree.specs.Literals.{is_none_or, is_guard, is_literal, is_theory_atom, is_theory_element, literal_rules, theory_rules, element_rules}
use Rattle.syntax_tree.proofs.TreeRules.{function_rules, atom_rules, comparison_rules, theory_literal_rules}
use Rattle.asp_parser.specs.Replacement.{Constants, replaced, replaced_atom, atom_step, replaced_guard, literal_step, theory_step, element_step, replaced_literal, replaced_theory, replaced_element}
use Rattle.asp_parser.specs.ConstantTable.{AreTrees}
use Rattle.asp_parser.proofs.Terms.{truths, both, left, right, all_stay, replaced_stays}

-- what each form of a literal, a theory atom and an element passes on from its parts
pub record PassesOn (P : Literal → Type 0) (Q : TheoryAtom → Type 0) (R : TheoryElement → Type 0) : Type 0 where
  pub atom : (atom : Term) (sign : Bool) → P (l.Atom atom sign)
  pub compare : (a : Term) (rel : Rel) (b : Term) → P (l.Compare a rel b)
  pub theory : (atom : TheoryAtom) (sign : Bool) → Q atom → P (l.Theory atom sign)
  pub elements : (x : TheoryAtom-F Literal TheoryAtom TheoryElement) → AllByRecursion R x.elements → Q (roll-TheoryAtom x)
  pub condition : (x : TheoryElement-F Literal TheoryAtom TheoryElement) → AllByRecursion P x.condition → R (roll-TheoryElement x)

all_mapped : {A X : Type 0} (P : X → Type 0) (f : A → X) → ((a : A) → P (f a)) → (items : List A) → AllByRecursion P (map f items)
all_mapped P f h [] = tt
all_mapped P f h (a ∷ items) = (h a, all_mapped P f h items)

module _ (P : Literal → Type 0) (Q : TheoryAtom → Type 0) (R : TheoryElement → Type 0) (passes : PassesOn P Q R) where
  literal_layer : {A B C : Type 0} (f : A → Literal) (g : B → TheoryAtom) (h : C → TheoryElement) → ((b : B) → Q (g b)) → (y : Literal-F A B C)
      → P (roll-Literal (map-Literal A B C Literal TheoryAtom TheoryElement f g h y))
  unfolding roll-Literal denote.Hole.Carrier.roll
  literal_layer f g h known (Literal-F.Atom atom sign) = passes.atom atom sign
  literal_layer f g h known (Literal-F.Compare a rel b) = passes.compare a rel b
  literal_layer f g h known (Literal-F.Theory b sign) = passes.theory (g b) sign (known b)

  theory_layer : {A B C : Type 0} (f : A → Literal) (g : B → TheoryAtom) (h : C → TheoryElement) → ((c : C) → R (h c)) → (y : TheoryAtom-F A B C)
      → Q (roll-TheoryAtom (map-TheoryAtom A B C Literal TheoryAtom TheoryElement f g h y))
  theory_layer {A} {B} {C} f g h known y = passes.elements (map-TheoryAtom A B C Literal TheoryAtom TheoryElement f g h y) (all_mapped R h known y.elements)

  element_layer : {A B C : Type 0} (f : A → Literal) (g : B → TheoryAtom) (h : C → TheoryElement) → ((a : A) → P (f a)) → (y : TheoryElement-F A B C)
      → R (roll-TheoryElement (map-TheoryElement A B C Literal TheoryAtom TheoryElement f g h y))
  element_layer {A} {B} {C} f g h known y = passes.condition (map-TheoryElement A B C Literal TheoryAtom TheoryElement f g h y) (all_mapped P f known y.condition)

  -- a property that each form passes on holds of every literal
  pub every_literal : (literal : Literal) → P literal
  every_literal =
      ind-Literal P Q R
      (λ x y is. subst (λ z. P (roll-Literal z)) is (literal_layer (λ e. e.0) (λ e. e.0) (λ e. e.0) (λ e. e.1) y))
      (λ x y is. subst (λ z. Q (roll-TheoryAtom z)) is (theory_layer (λ e. e.0) (λ e. e.0) (λ e. e.0) (λ e. e.1) y))
      (λ x y is. subst (λ z. R (roll-TheoryElement z)) is (element_layer (λ e. e.0) (λ e. e.0) (λ e. e.0) (λ e. e.1) y))

  pub every_theory : (atom : TheoryAtom) → Q atom
  every_theory =
      ind-TheoryAtom P Q R
      (λ x y is. subst (λ z. P (roll-Literal z)) is (literal_layer (λ e. e.0) (λ e. e.0) (λ e. e.0) (λ e. e.1) y))
      (λ x y is. subst (λ z. Q (roll-TheoryAtom z)) is (theory_layer (λ e. e.0) (λ e. e.0) (λ e. e.0) (λ e. e.1) y))
      (λ x y is. subst (λ z. R (roll-TheoryElement z)) is (element_layer (λ e. e.0) (λ e. e.0) (λ e. e.0) (λ e. e.1) y))

-- THE RULES, WHERE A THEORY ATOM IS MADE OF ITS PARTS

theory_is : (x : TheoryAtom-F Literal TheoryAtom TheoryElement) → is_theory_atom (roll-TheoryAtom x) ≡ (truths (map is_theory_element x.elements) && is_none_or is_guard x.guard)
theory_is x = fold-roll-TheoryAtom Bool Bool Bool literal_rules theory_rules element_rules x

element_is : (x : TheoryElement-F Literal TheoryAtom TheoryElement)
    → is_theory_element (roll-TheoryElement x) ≡ (is_term x.first && is_none_or is_term x.duration && list_all is_term x.rest && truths (map is_literal x.condition))
element_is x = fold-roll-TheoryElement Bool Bool Bool literal_rules theory_rules element_rules x

module _ (constants : Constants) where
  abbrev in_literal_step : Literal-F Literal TheoryAtom TheoryElement → Literal
  in_literal_step = literal_step constants

  abbrev in_theory_step : TheoryAtom-F Literal TheoryAtom TheoryElement → TheoryAtom
  in_theory_step = theory_step constants

  abbrev in_element_step : TheoryElement-F Literal TheoryAtom TheoryElement → TheoryElement
  in_element_step = element_step constants

  pub in_atom : (atom : Term) (sign : Bool) → replaced_literal constants (l.Atom atom sign) ≡ l.Atom (replaced_atom constants atom) sign
  unfolding roll-Literal denote.Hole.Carrier.roll
  in_atom atom sign = fold-roll-Literal Literal TheoryAtom TheoryElement in_literal_step in_theory_step in_element_step (Literal-F.Atom atom sign)

  pub in_comparison : (a : Term) (rel : Rel) (b : Term) → replaced_literal constants (l.Compare a rel b) ≡ l.Compare (replaced constants a) rel (replaced constants b)
  unfolding roll-Literal denote.Hole.Carrier.roll
  in_comparison a rel b = fold-roll-Literal Literal TheoryAtom TheoryElement in_literal_step in_theory_step in_element_step (Literal-F.Compare a rel b)

  pub in_theory_literal : (atom : TheoryAtom) (sign : Bool) → replaced_literal constants (l.Theory atom sign) ≡ l.Theory (replaced_theory constants atom) sign
  unfolding roll-Literal denote.Hole.Carrier.roll
  in_theory_literal atom sign = fold-roll-Literal Literal TheoryAtom TheoryElement in_literal_step in_theory_step in_element_step (Literal-F.Theory atom sign)

  abbrev new_theory : TheoryAtom-F Literal TheoryAtom TheoryElement → TheoryAtom-F Literal TheoryAtom TheoryElement
  new_theory x = record { name = x.name; elements = map (replaced_element constants) x.elements; guard = option_map (replaced_guard constants) x.guard }

  abbrev new_element : TheoryElement-F Literal TheoryAtom TheoryElement → TheoryElement-F Literal TheoryAtom TheoryElement
  new_element x = record {
    first = replaced constants x.first;
    duration = option_map (replaced constants) x.duration;
    rest = map (replaced constants) x.rest;
    condition = map (replaced_literal constants) x.condition;
  }

  pub in_theory : (x : TheoryAtom-F Literal TheoryAtom TheoryElement) → replaced_theory constants (roll-TheoryAtom x) ≡ roll-TheoryAtom (new_theory x)
  in_theory x = fold-roll-TheoryAtom Literal TheoryAtom TheoryElement in_literal_step in_theory_step in_element_step x

  pub in_element : (x : TheoryElement-F Literal TheoryAtom TheoryElement) → replaced_element constants (roll-TheoryElement x) ≡ roll-TheoryElement (new_element x)
  in_element x = fold-roll-TheoryElement Literal TheoryAtom TheoryElement in_literal_step in_theory_step in_element_step x

-- ALL STAY

pub list_stay : {A : Type 0} (is : A → Bool) (f : A → A) → ((x : A) → IsTrue (is x) → IsTrue (is (f x))) → (xs : List A) → IsTrue (list_all is xs) → IsTrue (list_all is (map f xs))
list_stay is f known [] h = refl
list_stay is f known (x ∷ xs) h = both (is (f x)) _ (known x (left (is x) _ h)) (list_stay is f known xs (right (is x) _ h))

pub option_stay : {A : Type 0} (is : A → Bool) (f : A → A) → ((x : A) → IsTrue (is x) → IsTrue (is (f x))) → (o : Option A) → IsTrue (is_none_or is o) → IsTrue (is_none_or is (option_map f o))
option_stay is f known None h = refl
option_stay is f known (Some x) h = known x h

module _ (constants : Constants) (trees : AreTrees constants) where
  pub guard_stays : (guard : Guard) → IsTrue (is_guard guard) → IsTrue (is_guard (replaced_guard constants guard))
  guard_stays guard h = replaced_stays constants trees guard.right h

  pub atom_stays : (atom : Term) → IsTrue (is_term atom) → IsTrue (is_term (replaced_atom constants atom))
  unfolding roll-Term denote.Hole.Carrier.roll
  atom_stays atom h = go (out-Term atom) (roll-out-Term atom)
    where
      mapped : (xs : List Term) → list_all is_term xs ≡ truths (map is_term xs)
      mapped [] = refl
      mapped (x ∷ xs) = ap (λ b. is_term x && b) (mapped xs)

      go : (layer : Term-F Term Part) → roll-Term layer ≡ atom → IsTrue (is_term (atom_step constants atom layer))
      go (Term-F.Function name args) is =
          let rules : IsTrue (is_name name && truths (map is_term args)) = sym (function_rules name args) ∙ ap is_term is ∙ h in
          function_rules name (map (replaced constants) args)
          ∙ both (is_name name) _ (left (is_name name) _ rules) (sym (mapped (map (replaced constants) args)) ∙ list_stay is_term (replaced constants) (replaced_stays constants trees) args (mapped args ∙ right (is_name name) _ rules))
      go layer is = replaced_stays constants trees atom h

  abbrev StaysLiteral : Literal → Type 0
  StaysLiteral literal = IsTrue (is_literal literal) → IsTrue (is_literal (replaced_literal constants literal))

  abbrev StaysTheory : TheoryAtom → Type 0
  StaysTheory atom = IsTrue (is_theory_atom atom) → IsTrue (is_theory_atom (replaced_theory constants atom))

  abbrev StaysElement : TheoryElement → Type 0
  StaysElement element = IsTrue (is_theory_element element) → IsTrue (is_theory_element (replaced_element constants element))

  element_stays : (x : TheoryElement-F Literal TheoryAtom TheoryElement) → AllByRecursion StaysLiteral x.condition → StaysElement (roll-TheoryElement x)
  element_stays x known h =
      let rules = sym (element_is x) ∙ h in
      let first_three = left (is_term x.first && is_none_or is_term x.duration && list_all is_term x.rest) (truths (map is_literal x.condition)) rules in
      let first_two = left (is_term x.first && is_none_or is_term x.duration) (list_all is_term x.rest) first_three in
      ap is_theory_element (in_element constants x) ∙ element_is (new_element constants x)
      ∙ both _ _
      (both _ _
      (both _ _
      (replaced_stays constants trees x.first (left (is_term x.first) _ first_two))
      (option_stay is_term (replaced constants) (replaced_stays constants trees) x.duration (right (is_term x.first) _ first_two)))
      (list_stay is_term (replaced constants) (replaced_stays constants trees) x.rest (right (is_term x.first && is_none_or is_term x.duration) _ first_three)))
      (all_stay is_literal (replaced_literal constants) x.condition known (right (is_term x.first && is_none_or is_term x.duration && list_all is_term x.rest) _ rules))

  all_forms_stay : PassesOn StaysLiteral StaysTheory StaysElement
  all_forms_stay = record {
    atom = λ atom sign h. ap is_literal (in_atom constants atom sign) ∙ atom_rules (replaced_atom constants atom) sign ∙ atom_stays atom (sym (atom_rules atom sign) ∙ h);
    compare = λ a rel b h.
        ap is_literal (in_comparison constants a rel b) ∙ comparison_rules (replaced constants a) rel (replaced constants b)
        ∙ both (is_term (replaced constants a)) _ (replaced_stays constants trees a (left (is_term a) _ (sym (comparison_rules a rel b) ∙ h)))
        (replaced_stays constants trees b (right (is_term a) _ (sym (comparison_rules a rel b) ∙ h)));
    theory = λ atom sign known h. ap is_literal (in_theory_literal constants atom sign) ∙ theory_literal_rules (replaced_theory constants atom) sign ∙ known (sym (theory_literal_rules atom sign) ∙ h);
    elements = λ x known h.
        let rules = sym (theory_is x) ∙ h in
        ap is_theory_atom (in_theory constants x) ∙ theory_is (new_theory constants x)
        ∙ both _ _ (all_stay is_theory_element (replaced_element constants) x.elements known (left (truths (map is_theory_element x.elements)) _ rules))
        (option_stay is_guard (replaced_guard constants) guard_stays x.guard (right (truths (map is_theory_element x.elements)) _ rules));
    condition = element_stays;
  }

  pub literal_stays : (literal : Literal) → StaysLiteral literal
  literal_stays = every_literal StaysLiteral StaysTheory StaysElement all_forms_stay

  pub theory_stays : (atom : TheoryAtom) → StaysTheory atom
  theory_stays = every_theory StaysLiteral StaysTheory StaysElement all_forms_stay
